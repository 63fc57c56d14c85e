-- The messages of clients that the facts have were put, each under a number of its own.
use Rattle.std.proofs.Common.{◌≡◌, ℕ, ◌<◌, ◌≤◌, max, Bool, true, false, cond, leb, List, [], ◌∷◌, Option, Some, None, refl, sym, ap, ◌∙◌, subst, arith}
use Rattle.std.specs.Prelude.{codes, nat_lt, ◌+◌}
use Rattle.std.specs.FinMap.{get}
use Rattle.std.specs.Cmp.Lexicographic.{bytes_decides}
use Rattle.std.specs.Str.{bytes_eq}
use Rattle.std.proofs.lemmas.Bool.{eq-eqb, ne_eqb, leb-true, leb-false}
use Rattle.nats_text.specs.Headers.{first_value}
use Rattle.nats_text.specs.declared.message.Message.{Message}
use Rattle.stream_fold.specs.declared.entry.Entry.{Entry}
use Rattle.stream_fold.specs.declared.entry.Entry.TheVariants.{Put, Del, Purge, Expire, Bind, Limits}
use Rattle.stream_fold.specs.declared.entry.Numbered.{Numbered}
use Rattle.stream_fold.specs.declared.parts.Sent.{Sent}
use Rattle.stream_fold.specs.Histories.{History, either, put, put_by, last, clock, number_put, RiseFrom, NumbersRise}
use Rattle.stream_fold.specs.Publishing.{latest_sent, sent_by, is_value}
use Rattle.stream_fold.specs.Facts.{facts, open_sent, KeepsWindow}
use Rattle.stream_fold.specs.FactLaws.{WasSent}
use Rattle.stream_fold.proofs.Growth.{put-none_below}
use Rattle.stream_fold.proofs.SentFacts.{holds-open}

-- the identifier of a message
abbrev id_in : Message → Option (List ℕ)
id_in m = first_value (codes "Nats-Msg-Id") m.headers

-- the entry puts this message for a client
record Sends (id : List ℕ) (e : Entry) (row : Numbered) : Type 0 where
  entry : e ≡ Put row.seq row.message None
  header : id_in row.message ≡ Some id

same_row : (x y : Numbered) → Some x ≡ Some y → x ≡ y
same_row x y e = cc

sends-by : (id : List ℕ) (number : ℕ) (message : Message) (row : Numbered) (o : Option (List ℕ)) → id_in message ≡ o → cond (is_value id o) (Some (record { seq = number; message = message })) None ≡ Some row → Sends id (Put number message None) row
sends-by id number message row None p e = absurd (cc)
sends-by id number message row (Some other) p e = by (bytes_eq other id) refl e
  where
    by : (b : Bool) → bytes_eq other id ≡ b → cond b (Some (record { seq = number; message = message })) None ≡ Some row → Sends id (Put number message None) row
    by false q e = absurd (cc)
    by true q e =
        let is : record { seq = number; message = message } ≡ row = same_row (record { seq = number; message = message }) row e in
        record {
          entry = ap (λ (r : Numbered). Put r.seq r.message None) is;
          header = ap (λ (r : Numbered). id_in r.message) (sym is) ∙ (p ∙ ap Some ((bytes_decides other id).0 q));
        }

sends : (id : List ℕ) (e : Entry) (row : Numbered) → sent_by id e ≡ Some row → Sends id e row
sends id (Put number message None) row e = sends-by id number message row (id_in message) refl e
sends id (Put number message (Some mark)) row e = absurd (cc)
sends id (Del number) row e = absurd (cc)
sends id (Purge pattern below) row e = absurd (cc)
sends id (Expire now) row e = absurd (cc)
sends id (Bind index incarnation start) row e = absurd (cc)
sends id (Limits config) row e = absurd (cc)

-- the message was put by one of the entries
record Found (id : List ℕ) (es : List Entry) (row : Numbered) : Type 0 where
  number : row.seq ≤ last es
  time : row.message.time ≤ clock es
  header : id_in row.message ≡ Some id
  stored : (low : ℕ) → RiseFrom low es → put row.seq es ≡ Some row.message

put_by-other : (e : Entry) (seq : ℕ) → number_put e < seq → put_by seq e ≡ None
put_by-other (Put number message mark) seq lt = rw (ne_eqb number seq (λ q. omega (arith, lt, q))) refl
put_by-other (Del number) seq lt = refl
put_by-other (Purge pattern below) seq lt = refl
put_by-other (Expire now) seq lt = refl
put_by-other (Bind index incarnation start) seq lt = refl
put_by-other (Limits config) seq lt = refl

-- what was put later has a higher number
higher : (low seq : ℕ) (m : Message) (es : List Entry) → RiseFrom low es → put seq es ≡ Some m → low < seq
higher low seq m es rise here = by (leb seq low) refl
  where
    by : (b : Bool) → leb seq low ≡ b → low < seq
    by true q = let none = put-none_below es low seq rise (leb-true seq low q) in absurd (let z : None ≡ Some m = sym none ∙ here in cc)
    by false q = let lt = leb-false seq low q in omega (arith, lt)

here-first : (id : List ℕ) (e : Entry) (es : List Entry) (row : Numbered) → Sends id e row → Found id (e ∷ es) row
here-first id e es row s = subst (λ x. Found id (x ∷ es) row) (sym s.entry) (record {
  number = omega arith;
  time = omega arith;
  header = s.header;
  stored = λ low rise. rw (eq-eqb row.seq row.seq refl) refl;
})

later : (id : List ℕ) (e : Entry) (es : List Entry) (row : Numbered) → Found id es row → Found id (e ∷ es) row
later id e es row f = record {
  number = omega (arith, f.number);
  time = omega (arith, f.time);
  header = f.header;
  stored = λ low rise.
      let there = f.stored (max low (number_put e)) rise.1 in
      let above = higher (max low (number_put e)) row.seq row.message es rise.1 there in
      ap (λ o. either o (put row.seq es)) (put_by-other e row.seq (omega (arith, above))) ∙ there;
}

found-by : (id : List ℕ) (e : Entry) (es : List Entry) (row : Numbered) (o : Option Numbered) → (o ≡ Some row → Found id es row) → either o (sent_by id e) ≡ Some row → Found id (e ∷ es) row
found-by id e es row (Some r) there h = later id e es row (there h)
found-by id e es row None there h = here-first id e es row (sends id e row h)

found : (id : List ℕ) (es : List Entry) (row : Numbered) → latest_sent id es ≡ Some row → Found id es row
found id [] row h = absurd (cc)
found id (e ∷ es) row h = found-by id e es row (latest_sent id es) (found id es row) h

-- ---- in the facts

opened : (w c : ℕ) (id : List ℕ) (row : Numbered) (s : Sent) (b : Bool) → cond b (Some (record { id = id; seq = row.seq; time = row.message.time })) None ≡ Some s → record { id = id; seq = row.seq; time = row.message.time } ≡ s
opened w c id row s true e = cc
opened w c id row s false e = absurd (cc)

was-sent : (h : History) (id : List ℕ) (s : Sent) (o : Option Numbered) → latest_sent id h.entries ≡ o → NumbersRise h.entries → open_sent h.config.window (clock h.entries) id o ≡ Some s → WasSent h id s
was-sent h id s None p rise e = absurd (cc)
was-sent h id s (Some row) p rise e =
    let f = found id h.entries row p in
    let is = opened h.config.window (clock h.entries) id row s (nat_lt (clock h.entries) (row.message.time + h.config.window)) e in
    subst (WasSent h id) is (record {
      message = row.message;
      stored = f.stored 0 rise;
      header = f.header;
      own = refl;
      time = refl;
      reached = f.number;
      past = f.time;
    })

pub sent-put : (h : History) (id : List ℕ) (s : Sent) → KeepsWindow h → NumbersRise h.entries → get (facts h).sent id ≡ Some s → WasSent h id s
sent-put h id s keeps rise here = was-sent h id s (latest_sent id h.entries) refl rise (sym (holds-open h id keeps) ∙ here)
