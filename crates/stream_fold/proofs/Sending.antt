-- The latest message of an identifier among those that are held.
use Rattle.std.proofs.Common.{◌≡◌, ℕ, ◌+◌, ◌≤◌, Bool, true, false, cond, leb, not, List, [], ◌∷◌, ◌++◌, Option, Some, None, refl, sym, ap, ◌∙◌, arith}
use Rattle.std.specs.Prelude.{filter, codes}
use Rattle.std.specs.Cmp.Lexicographic.{bytes_decides}
use Rattle.std.specs.Str.{bytes_eq}
use Rattle.std.proofs.lemmas.Bool.{leb-true, le-ltb}
use Rattle.nats_text.specs.Headers.{first_value}
use Rattle.nats_text.specs.declared.message.Message.{Message}
use Rattle.stream_fold.specs.declared.entry.Entry.{Entry}
use Rattle.stream_fold.specs.declared.entry.Entry.TheVariants.{Put, Del, Purge, Expire, Bind, Limits}
use Rattle.stream_fold.specs.declared.entry.Numbered.{Numbered}
use Rattle.stream_fold.specs.declared.parts.Sent.{Sent}
use Rattle.stream_fold.specs.Histories.{either}
use Rattle.stream_fold.specs.Publishing.{sent_by, in_window, is_value}
use Rattle.stream_fold.specs.Held.{latest_in, number_in, id_of}
use Rattle.stream_fold.specs.Parts.{with_sent, still_open, sent_after}

-- one that is closed at a moment gives no number then
closed-none : (w moment : ℕ) (o : Option Sent) (b : Bool) (s : Sent) → s.time + w ≤ moment → number_in w moment (either o (cond b (Some s) None)) ≡ number_in w moment o
closed-none w moment (Some t) b s le = refl
closed-none w moment None true s le = rw (le-ltb moment (s.time + w) le) refl
closed-none w moment None false s le = refl

open-step : (id : List ℕ) (w now moment : ℕ) (s : Sent) (ss : List Sent) (b : Bool) → leb (s.time + w) now ≡ b → now ≤ moment → number_in w moment (latest_in id (still_open w now ss)) ≡ number_in w moment (latest_in id ss) → number_in w moment (latest_in id (cond b (still_open w now ss) (s ∷ ss))) ≡ number_in w moment (latest_in id (s ∷ ss))
open-step id w now moment s ss true e le ih = ih ∙ sym (closed-none w moment (latest_in id ss) (bytes_eq s.id id) s (let f = leb-true (s.time + w) now e in omega arith))
open-step id w now moment s ss false e le ih = refl

-- those that are closed at a moment give no number then
number_in-open : (id : List ℕ) (w now moment : ℕ) (ss : List Sent) → now ≤ moment → number_in w moment (latest_in id (still_open w now ss)) ≡ number_in w moment (latest_in id ss)
number_in-open id w now moment [] le = refl
number_in-open id w now moment (s ∷ ss) le = open-step id w now moment s ss (leb (s.time + w) now) refl le (number_in-open id w now moment ss le)

either-None : {A : Type 0} (a : Option A) → either a None ≡ a
either-None (Some x) = refl
either-None None = refl

-- one of another identifier changes nothing
other-none : (id : List ℕ) (s t : Sent) (o : Option Sent) → bytes_eq t.id s.id ≡ true → bytes_eq s.id id ≡ false → o ≡ either o (cond (bytes_eq t.id id) (Some t) None)
other-none id s t o same e =
    let other : bytes_eq t.id id ≡ false = ap (λ i. bytes_eq i id) ((bytes_decides t.id s.id).0 same) ∙ e in
    sym (ap (λ b. either o (cond b (Some t) None)) other ∙ either-None o)

with-step : (id : List ℕ) (s t : Sent) (ss : List Sent) (b d : Bool) → bytes_eq s.id id ≡ b → bytes_eq t.id s.id ≡ d → latest_in id (with_sent s ss) ≡ cond b (Some s) (latest_in id ss) → latest_in id (cond (not d) (t ∷ filter (λ x. not (bytes_eq x.id s.id)) ss) (filter (λ x. not (bytes_eq x.id s.id)) ss) ++ s ∷ []) ≡ cond b (Some s) (latest_in id (t ∷ ss))
with-step id s t ss true true e same ih = ih
with-step id s t ss false true e same ih = ih ∙ other-none id s t (latest_in id ss) same e
with-step id s t ss true false e same ih = ap (λ o. either o (cond (bytes_eq t.id id) (Some t) None)) ih
with-step id s t ss false false e same ih = ap (λ o. either o (cond (bytes_eq t.id id) (Some t) None)) ih

latest_in-with : (id : List ℕ) (s : Sent) (ss : List Sent) (b : Bool) → bytes_eq s.id id ≡ b → latest_in id (with_sent s ss) ≡ cond b (Some s) (latest_in id ss)
latest_in-with id s [] b e = ap (λ d. cond d (Some s) None) e
latest_in-with id s (t ∷ ss) b e = with-step id s t ss b (bytes_eq t.id s.id) e refl (latest_in-with id s ss b e)

-- the number of the later of two
abbrev pub number_or : ℕ → ℕ → Option Numbered → Option Sent → Option ℕ
number_or w moment None o = number_in w moment o
number_or w moment (Some row) o = in_window w moment (Some row)

sent-here : (id : List ℕ) (w moment : ℕ) (i : List ℕ) (number : ℕ) (message : Message) (ss : List Sent) (b : Bool) → bytes_eq i id ≡ b → number_in w moment (latest_in id (with_sent (record { id = i; seq = number; time = message.time }) ss)) ≡ number_or w moment (cond b (Some (record { seq = number; message = message })) None) (latest_in id ss)
sent-here id w moment i number message ss true e = ap (number_in w moment) (latest_in-with id (record { id = i; seq = number; time = message.time }) ss true e)
sent-here id w moment i number message ss false e = ap (number_in w moment) (latest_in-with id (record { id = i; seq = number; time = message.time }) ss false e)

sent-put : (id : List ℕ) (w now moment : ℕ) (o : Option (List ℕ)) (number : ℕ) (message : Message) (ss : List Sent) → now ≤ moment → number_in w moment (latest_in id (sent_after w now o (Put number message None) ss)) ≡ number_or w moment (cond (is_value id o) (Some (record { seq = number; message = message })) None) (latest_in id ss)
sent-put id w now moment None number message ss le = refl
sent-put id w now moment (Some i) number message ss le = number_in-open id w now moment (with_sent (record { id = i; seq = number; time = message.time }) ss) le ∙ sent-here id w moment i number message ss (bytes_eq i id) refl

-- what an entry does to the repeats of an identifier
pub sent-step : (id : List ℕ) (w now moment : ℕ) (e : Entry) (ss : List Sent) → now ≤ moment → number_in w moment (latest_in id (sent_after w now (id_of e) e ss)) ≡ number_or w moment (sent_by id e) (latest_in id ss)
sent-step id w now moment (Put number message None) ss le = sent-put id w now moment (first_value (codes "Nats-Msg-Id") message.headers) number message ss le
sent-step id w now moment (Put number message (Some mark)) ss le = refl
sent-step id w now moment (Del number) ss le = refl
sent-step id w now moment (Purge pattern below) ss le = refl
sent-step id w now moment (Expire at) ss le = refl
sent-step id w now moment (Bind index incarnation start) ss le = refl
sent-step id w now moment (Limits config) ss le = refl

-- the later of an entry's message and of those before it
pub number_or-either : (w moment : ℕ) (later earlier : Option Numbered) (o : Option Sent) → number_in w moment o ≡ in_window w moment earlier → number_or w moment later o ≡ in_window w moment (either later earlier)
number_or-either w moment (Some row) earlier o e = refl
number_or-either w moment None earlier o e = e
