-- What holds of the messages that are kept, and that a hole stays a hole.
use Rattle.std.proofs.Common.{◌≡◌, ◌≢◌, ℕ, zero, suc, ◌<◌, ◌≤◌, max, Bool, true, false, cond, ◌&&◌, eqb, leb, List, [], ◌∷◌, ◌++◌, Option, Some, None, refl, sym, ◌∙◌, subst, arith, append_assoc}
use Rattle.std.specs.Prelude.{⊤, filter, count_by, sum_by, length}
use Rattle.std.proofs.lemmas.Bool.{eqb-false, eq-eqb, ne_eqb}
use Rattle.nats_text.specs.Sizes.{size}
use Rattle.nats_text.specs.declared.message.Message.{Message}
use Rattle.stream_fold.specs.declared.config.Config.{Config}
use Rattle.stream_fold.specs.declared.entry.Entry.{Entry}
use Rattle.stream_fold.specs.declared.entry.Entry.TheVariants.{Put, Del, Purge, Expire, Bind, Limits}
use Rattle.stream_fold.specs.declared.entry.Numbered.{Numbered}
use Rattle.stream_fold.specs.Held.{Held}
use Rattle.stream_fold.specs.Parts.{held_after}
use Rattle.stream_fold.specs.Histories.{History, put, number_put, last, Folded, standing, after, kept, message_at, IsHole, IsAbove, RiseFrom, NumbersRise, newest_of_each, newest_within, is_in_limit, has_subject_of, limited, limits_after, changed_rows}
pub use Rattle.stream_fold.specs.RowLists.{EachRow, seqs, Rises}
use Rattle.stream_fold.proofs.Folds.{last-append, last-push, standing-append}
use Rattle.stream_fold.proofs.Growth.{put-append, put-none_below, put-below, RiseFrom-append}

cond-each : (P : Numbered → Type 0) (b : Bool) (xs ys : List Numbered) → EachRow P xs → EachRow P ys → EachRow P (cond b xs ys)
cond-each P true xs ys h k = h
cond-each P false xs ys h k = k

pub EachRow-filter : (P : Numbered → Type 0) (p : Numbered → Bool) (rows : List Numbered) → EachRow P rows → EachRow P (filter p rows)
EachRow-filter P p [] h = tt
EachRow-filter P p (row ∷ rows) h = let ih = EachRow-filter P p rows h.1 in cond-each P (p row) (row ∷ filter p rows) (filter p rows) (h.0, ih) ih

EachRow-newest_of_each : (P : Numbered → Type 0) (n : ℕ) (rows : List Numbered) → EachRow P rows → EachRow P (newest_of_each n rows)
EachRow-newest_of_each P n [] h = tt
EachRow-newest_of_each P n (row ∷ rows) h = let ih = EachRow-newest_of_each P n rows h.1 in cond-each P (leb n (count_by (has_subject_of row) rows)) (newest_of_each n rows) (row ∷ newest_of_each n rows) ih (h.0, ih)

EachRow-newest_within : (P : Numbered → Type 0) (c : Config) (rows : List Numbered) → EachRow P rows → EachRow P (newest_within c rows)
EachRow-newest_within P c [] h = tt
EachRow-newest_within P c (row ∷ rows) h = cond-each P (is_in_limit c.max_msgs (length (row ∷ rows)) && is_in_limit c.max_bytes (sum_by (λ r. size r.message) (row ∷ rows))) (row ∷ rows) (newest_within c rows) h (EachRow-newest_within P c rows h.1)

EachRow-append : (P : Numbered → Type 0) (xs ys : List Numbered) → EachRow P xs → EachRow P ys → EachRow P (xs ++ ys)
EachRow-append P [] ys h k = k
EachRow-append P (x ∷ xs) ys h k = (h.0, EachRow-append P xs ys h.1 k)

pub EachRow-weaker : (P Q : Numbered → Type 0) → ((row : Numbered) → P row → Q row) → (rows : List Numbered) → EachRow P rows → EachRow Q rows
EachRow-weaker P Q f [] h = tt
EachRow-weaker P Q f (row ∷ rows) h = (f row h.0, EachRow-weaker P Q f rows h.1)

-- what an entry puts has P
abbrev PutsOk : (Numbered → Type 0) → Entry → Type 0
PutsOk P (Put seq message mark) = P (record { seq = seq; message = message })
PutsOk P _ = ⊤

EachRow-limited : (P : Numbered → Type 0) (c : Config) (rows : List Numbered) → EachRow P rows → EachRow P (limited c rows)
EachRow-limited P c rows h = EachRow-newest_within P c _ (cond-each P (eqb c.max_per_subject 0) rows (newest_of_each c.max_per_subject rows) h (EachRow-newest_of_each P c.max_per_subject rows h))

EachRow-changed : (P : Numbered → Type 0) (c : Config) (e : Entry) (rows : List Numbered) → EachRow P rows → PutsOk P e → EachRow P (changed_rows c e rows)
EachRow-changed P c (Put seq message mark) rows h p = EachRow-append P rows _ h (p, tt)
EachRow-changed P c (Del seq) rows h p = EachRow-filter P _ rows h
EachRow-changed P c (Purge pattern below) rows h p = EachRow-filter P _ rows h
EachRow-changed P c (Expire now) rows h p = EachRow-filter P _ rows h
EachRow-changed P c (Bind index incarnation start) rows h p = h
EachRow-changed P c (Limits config) rows h p = h

EachRow-after : (P : Numbered → Type 0) (k : Folded) (e : Entry) → EachRow P k.rows → PutsOk P e → EachRow P (after k e).rows
EachRow-after P k e h p = EachRow-limited P (limits_after k.limits e) (changed_rows k.limits e k.rows) (EachRow-changed P k.limits e k.rows h p)

-- what the entries put has P
abbrev pub EachPut : (Numbered → Type 0) → List Entry → Type 0
EachPut P [] = ⊤
EachPut P (e ∷ es) = PutsOk P e × EachPut P es

pub EachRow-standing : (P : Numbered → Type 0) (es : List Entry) (k : Folded) → EachRow P k.rows → EachPut P es → EachRow P (standing k es).rows
EachRow-standing P [] k h p = h
EachRow-standing P (e ∷ es) k h p = EachRow-standing P es (after k e) (EachRow-after P k e h p.0) p.1

-- the rows rise
Rises-weaker : (low low' : ℕ) (xs : List ℕ) → low' ≤ low → Rises low xs → Rises low' xs
Rises-weaker low low' [] le h = tt
Rises-weaker low low' (x ∷ xs) le h = (omega arith, h.1)

cond-rises : (low : ℕ) (b : Bool) (xs ys : List Numbered) → Rises low (seqs xs) → Rises low (seqs ys) → Rises low (seqs (cond b xs ys))
cond-rises low true xs ys h k = h
cond-rises low false xs ys h k = k

pub Rises-filter : (p : Numbered → Bool) (low : ℕ) (rows : List Numbered) → Rises low (seqs rows) → Rises low (seqs (filter p rows))
Rises-filter p low [] h = tt
Rises-filter p low (row ∷ rows) h = let ih = Rises-filter p (suc row.seq) rows h.1 in cond-rises low (p row) (row ∷ filter p rows) (filter p rows) (h.0, ih) (Rises-weaker (suc row.seq) low (seqs (filter p rows)) (omega arith) ih)

Rises-newest_of_each : (n low : ℕ) (rows : List Numbered) → Rises low (seqs rows) → Rises low (seqs (newest_of_each n rows))
Rises-newest_of_each n low [] h = tt
Rises-newest_of_each n low (row ∷ rows) h = let ih = Rises-newest_of_each n (suc row.seq) rows h.1 in cond-rises low (leb n (count_by (has_subject_of row) rows)) (newest_of_each n rows) (row ∷ newest_of_each n rows) (Rises-weaker (suc row.seq) low (seqs (newest_of_each n rows)) (omega arith) ih) (h.0, ih)

Rises-newest_within : (c : Config) (low : ℕ) (rows : List Numbered) → Rises low (seqs rows) → Rises low (seqs (newest_within c rows))
Rises-newest_within c low [] h = tt
Rises-newest_within c low (row ∷ rows) h = cond-rises low (is_in_limit c.max_msgs (length (row ∷ rows)) && is_in_limit c.max_bytes (sum_by (λ r. size r.message) (row ∷ rows))) (row ∷ rows) (newest_within c rows) h (Rises-weaker (suc row.seq) low (seqs (newest_within c rows)) (omega arith) (Rises-newest_within c (suc row.seq) rows h.1))

Rises-push : (low top : ℕ) (rows : List Numbered) (row : Numbered) → low ≤ row.seq → top < row.seq → EachRow (λ r. r.seq ≤ top) rows → Rises low (seqs rows) → Rises low (seqs (rows ++ row ∷ []))
Rises-push low top [] row le lt each h = (le, tt)
Rises-push low top (r ∷ rows) row le lt each h = (h.0, Rises-push (suc r.seq) top rows row (omega arith) lt each.1 h.1)

Rises-limited : (c : Config) (low : ℕ) (rows : List Numbered) → Rises low (seqs rows) → Rises low (seqs (limited c rows))
Rises-limited c low rows h = Rises-newest_within c low _ (cond-rises low (eqb c.max_per_subject 0) rows (newest_of_each c.max_per_subject rows) h (Rises-newest_of_each c.max_per_subject low rows h))

Rises-changed : (c : Config) (low : ℕ) (e : Entry) (rows : List Numbered) → EachRow (λ r. r.seq ≤ low) rows → IsAbove low e → Rises 0 (seqs rows) → Rises 0 (seqs (changed_rows c e rows))
Rises-changed c low (Put seq message mark) rows each n h = Rises-push 0 low rows _ (omega arith) n each h
Rises-changed c low (Del seq) rows each n h = Rises-filter _ 0 rows h
Rises-changed c low (Purge pattern below) rows each n h = Rises-filter _ 0 rows h
Rises-changed c low (Expire now) rows each n h = Rises-filter _ 0 rows h
Rises-changed c low (Bind index incarnation start) rows each n h = h
Rises-changed c low (Limits config) rows each n h = h

PutsOk-below : (low : ℕ) (e : Entry) → PutsOk (λ r. r.seq ≤ max low (number_put e)) e
PutsOk-below low (Put seq message mark) = omega arith
PutsOk-below low (Del seq) = tt
PutsOk-below low (Purge pattern below) = tt
PutsOk-below low (Expire now) = tt
PutsOk-below low (Bind index incarnation start) = tt
PutsOk-below low (Limits config) = tt

PutsOk-weaker : (e : Entry) (top : ℕ) → number_put e ≤ top → PutsOk (λ r. r.seq ≤ top) e
PutsOk-weaker (Put seq message mark) top le = le
PutsOk-weaker (Del seq) top le = tt
PutsOk-weaker (Purge pattern below) top le = tt
PutsOk-weaker (Expire now) top le = tt
PutsOk-weaker (Bind index incarnation start) top le = tt
PutsOk-weaker (Limits config) top le = tt

-- what is held after an entry rises to the last number
pub Rises-held_after : (held : Held) (e : Entry) → IsAbove held.last e → EachRow (λ r. r.seq ≤ held.last) held.rows → Rises 0 (seqs held.rows) → Rises 0 (seqs (held_after held e).rows)
Rises-held_after held e n each h = Rises-limited (limits_after held.limits e) 0 (changed_rows held.limits e held.rows) (Rises-changed held.limits held.last e held.rows each n h)

pub below-held_after : (held : Held) (e : Entry) → EachRow (λ r. r.seq ≤ held.last) held.rows → EachRow (λ r. r.seq ≤ (held_after held e).last) (held_after held e).rows
below-held_after held e each =
    EachRow-after (λ r. r.seq ≤ max held.last (number_put e)) (record { limits = held.limits; rows = held.rows }) e
    (EachRow-weaker (λ r. r.seq ≤ held.last) (λ r. r.seq ≤ max held.last (number_put e)) (λ r q. omega arith) held.rows each)
    (PutsOk-below held.last e)

Rises-standing : (es : List Entry) (k : Folded) (low : ℕ) → EachRow (λ r. r.seq ≤ low) k.rows → RiseFrom low es → Rises 0 (seqs k.rows) → Rises 0 (seqs (standing k es).rows)
Rises-standing [] k low each n h = h
Rises-standing (e ∷ es) k low each n h =
    Rises-standing es (after k e) (max low (number_put e))
    (EachRow-after (λ r. r.seq ≤ max low (number_put e)) k e (EachRow-weaker (λ r. r.seq ≤ low) (λ r. r.seq ≤ max low (number_put e)) (λ r q. omega arith) k.rows each) (PutsOk-below low e))
    n.1
    (Rises-limited (limits_after k.limits e) 0 (changed_rows k.limits e k.rows) (Rises-changed k.limits low e k.rows each n.0 h))

-- the kept numbers rise
pub kept-rises : (h : History) → NumbersRise h.entries → Rises 0 (seqs (kept h))
kept-rises h n = Rises-standing h.entries _ 0 tt n tt

EachPut-below : (es : List Entry) (top : ℕ) → last es ≤ top → EachPut (λ r. r.seq ≤ top) es
EachPut-below [] top le = tt
EachPut-below (e ∷ es) top le = (PutsOk-weaker e top (omega (arith, le)), EachPut-below es top (omega (arith, le)))

-- the kept numbers are at most the last one
pub kept-below : (h : History) → EachRow (λ row. row.seq ≤ last h.entries) (kept h)
kept-below h = EachRow-standing (λ row. row.seq ≤ last h.entries) h.entries _ tt (EachPut-below h.entries (last h.entries) (omega arith))

none_above : (o : Option Message) (es : List Entry) (s : ℕ) → put s es ≡ o → last es < s → o ≡ None
none_above None es s e lt = refl
none_above (Some m) es s e lt = let le = put-below es s m e in absurd (omega arith)

-- a number above the last was not put
pub put-none_above : (es : List Entry) (s : ℕ) → last es < s → put s es ≡ None
put-none_above es s lt = none_above (put s es) es s refl lt

own_put : (pre rest : List Entry) (d : Entry) → IsAbove (last pre) d → PutsOk (λ r. put r.seq (pre ++ d ∷ rest) ≡ Some r.message) d
own_put pre rest (Put seq message mark) q = rw (put-append pre (Put seq message mark ∷ rest) seq, put-none_above pre seq q, eq-eqb seq seq refl) refl
own_put pre rest (Del seq) q = tt
own_put pre rest (Purge pattern below) q = tt
own_put pre rest (Expire now) q = tt
own_put pre rest (Bind index incarnation start) q = tt
own_put pre rest (Limits config) q = tt

-- each Put of a part of the entries is what `put` finds in all of them
EachPut-put : (pre es : List Entry) → RiseFrom (last pre) es → EachPut (λ r. put r.seq (pre ++ es) ≡ Some r.message) es
EachPut-put pre [] n = tt
EachPut-put pre (e ∷ es) n =
    let ih = EachPut-put (pre ++ e ∷ []) es (subst (λ l. RiseFrom l es) (sym (last-push pre e)) n.1) in
    (own_put pre es e n.0, subst (λ all. EachPut (λ r. put r.seq all ≡ Some r.message) es) (append_assoc pre (e ∷ []) es) ih)

-- a kept message is the one that was put under its number
pub kept-put : (h : History) → NumbersRise h.entries → EachRow (λ r. put r.seq h.entries ≡ Some r.message) (kept h)
kept-put h n = EachRow-standing (λ r. put r.seq h.entries ≡ Some r.message) h.entries _ tt (EachPut-put [] h.entries n)

-- `message_at` and what holds of each row
pub message_at-none : (rows : List Numbered) (s : ℕ) → EachRow (λ r. r.seq ≢ s) rows → message_at s rows ≡ None
message_at-none [] s h = refl
message_at-none (row ∷ rows) s h = rw (ne_eqb row.seq s h.0) (message_at-none rows s h.1)

cond_none : (b : Bool) (m : Message) (o : Option Message) → cond b (Some m) o ≡ None → (b ≡ false) × (o ≡ None)
cond_none true m o e = absurd (cc)
cond_none false m o e = (refl, e)

pub each_from_none : (rows : List Numbered) (s : ℕ) → message_at s rows ≡ None → EachRow (λ r. r.seq ≢ s) rows
each_from_none [] s h = tt
each_from_none (row ∷ rows) s h = let q = cond_none (eqb row.seq s) row.message (message_at s rows) h in (eqb-false row.seq s q.0, each_from_none rows s q.1)

PutsOk-other : (e : Entry) (low s : ℕ) → IsAbove low e → s ≤ low → PutsOk (λ r. r.seq ≢ s) e
PutsOk-other (Put seq message mark) low s n le = omega arith
PutsOk-other (Del seq) low s n le = tt
PutsOk-other (Purge pattern below) low s n le = tt
PutsOk-other (Expire now) low s n le = tt
PutsOk-other (Bind index incarnation start) low s n le = tt
PutsOk-other (Limits config) low s n le = tt

EachPut-other : (es : List Entry) (low s : ℕ) → RiseFrom low es → s ≤ low → EachPut (λ r. r.seq ≢ s) es
EachPut-other [] low s n le = tt
EachPut-other (e ∷ es) low s n le = (PutsOk-other e low s n.0 le, EachPut-other es (max low (number_put e)) s n.1 (omega arith))

-- A hole stays a hole.
pub IsHole-stays : (c : Config) (es xs : List Entry) (s : ℕ) → NumbersRise (es ++ xs) →
    IsHole (record { config = c; entries = es }) s → IsHole (record { config = c; entries = es ++ xs }) s
IsHole-stays c es xs s n h = record {
  positive = h.positive;
  reached = (let q = last-append es xs in let r = h.reached in omega arith);
  gone = message_at-none _ s (let P : Folded → Type 0 = λ k. EachRow (λ r. r.seq ≢ s) k.rows in
      subst P (sym (standing-append (record { limits = c; rows = [] }) es xs))
      (EachRow-standing (λ r. r.seq ≢ s) xs _ (each_from_none _ s h.gone)
      (EachPut-other xs (max 0 (last es)) s (RiseFrom-append es xs 0 n).1 (let r = h.reached in omega arith))));
}

-- numbers begin at 1
pub put-positive : (es : List Entry) (s : ℕ) (m : Message) → NumbersRise es → put s es ≡ Some m → 1 ≤ s
put-positive es zero m n e = absurd (let q : Some m ≡ None = sym e ∙ put-none_below es 0 0 n (omega arith) in cc)
put-positive es (suc s) m n e = omega arith
