-- The numbers and messages of joined logs.
use Rattle.std.proofs.Common.{◌≡◌, ℕ, ◌≤◌, List, [], ◌∷◌, ◌++◌, map, Bool, true, false, cond, eqb, ltb, Option, None, Some, refl, sym, ap, subst, ◌∙◌, arith}
use Rattle.std.proofs.lemmas.Bool.{eqb-true, eq-eqb, ltb-false}
use Rattle.std.proofs.lemmas.Bool.Decides.{nat_tests}
use Rattle.nats_text.specs.declared.message.Message.{Message}
use Rattle.stream_fold.specs.declared.entry.Entry.{Entry}
use Rattle.stream_fold.specs.declared.entry.Entry.TheVariants.{Put, Del, Purge, Expire, Bind, Limits}
use Rattle.stream_fold.specs.declared.entry.Numbered.{Numbered}
use Rattle.stream_fold.specs.declared.parts.Binding.{Binding}
use Rattle.stream_fold.specs.Histories.{History, either, put, put_by, last, number_put, kept, message_at, NumbersRise}
use Rattle.stream_fold.specs.Copying.{bindings, binding_at}
use Rattle.stream_fold.proofs.KeptRows.{EachRow, kept-below, kept-put}
use Rattle.leafd_cli.specs.Copies.{HasAll}
use Rattle.leafd_cli.specs.Plain.{copied_entry, rows_past}

-- nothing is no value
pub not_some : {A : Type 0} {B : Type 0} (x : A) → None ≡ Some x → B
not_some x e = absurd (let wrong : None ≡ Some x = e in cc)

either_cond : {A : Type 0} (b : Bool) (a : A) (o : Option A) → either (cond b (Some a) None) o ≡ cond b (Some a) o
either_cond true a o = refl
either_cond false a o = refl

by_cond : {A : Type 0} (b : Bool) (a : A) (o x y : Option A) → o ≡ either x y → cond b (Some a) o ≡ either (cond b (Some a) x) y
by_cond true a o x y e = refl
by_cond false a o x y e = e

pub either-none : {A : Type 0} (o : Option A) → either o None ≡ o
either-none None = refl
either-none (Some m) = refl

pub binding_at-append : (i : ℕ) (xs ys : List Binding) → binding_at i (xs ++ ys) ≡ either (binding_at i xs) (binding_at i ys)
binding_at-append i [] ys = refl
binding_at-append i (x ∷ xs) ys = by_cond (eqb x.index i) x.to _ _ _ (binding_at-append i xs ys)

-- what copied rows put
pub put-rows : (seq : ℕ) (rows : List Numbered) → put seq (map copied_entry rows) ≡ message_at seq rows
put-rows seq [] = refl
put-rows seq (r ∷ rows) = ap (λ o. either (cond (eqb r.seq seq) (Some r.message) None) o) (put-rows seq rows) ∙ either_cond (eqb r.seq seq) r.message (message_at seq rows)

pub bindings-rows : (rows : List Numbered) → bindings (map copied_entry rows) ≡ []
bindings-rows [] = refl
bindings-rows (r ∷ rows) = bindings-rows rows

-- a kept message was put under its number
message_at-each : (entries : List Entry) (rows : List Numbered) (seq : ℕ) (m : Message) → EachRow (λ r. put r.seq entries ≡ Some r.message) rows → message_at seq rows ≡ Some m → put seq entries ≡ Some m
message_at-each entries [] seq m each e = not_some m e
message_at-each entries (r ∷ rows) seq m each e =
    let P : Bool → Type 0 = λ b. eqb r.seq seq ≡ b → cond b (Some r.message) (message_at seq rows) ≡ Some m → put seq entries ≡ Some m in
    let go : (b : Bool) → P b = λ b. elim b as P [
      | true ↦ (λ t f. let same : r.seq ≡ seq = eqb-true r.seq seq t in let Q : ℕ → Type 0 = λ n. put n entries ≡ Some r.message in subst Q same each.0 ∙ f)
      | false ↦ (λ t f. message_at-each entries rows seq m each.1 f)
    ] in
    go (eqb r.seq seq) refl e

pub message_at-kept : (h : History) (seq : ℕ) (m : Message) → NumbersRise h.entries → message_at seq (kept h) ≡ Some m → put seq h.entries ≡ Some m
message_at-kept h seq m rise e = message_at-each h.entries (kept h) seq m (kept-put h rise) e

-- the message of a row that is skipped, or taken
skipped : {A : Type 0} (low n seq : ℕ) (a : A) (o : Option A) → ltb low n ≡ false → cond (ltb low seq) (cond (eqb n seq) (Some a) o) None ≡ cond (ltb low seq) o None
skipped low n seq a o e =
    let P : Bool → Type 0 = λ b. eqb n seq ≡ b → cond (ltb low seq) (cond b (Some a) o) None ≡ cond (ltb low seq) o None in
    let go : (b : Bool) → P b = λ b. elim b as P [ true ↦ (λ t. let below : ltb low seq ≡ false = ap (λ x. ltb low x) (sym (eqb-true n seq t)) ∙ e in rw below refl) | false ↦ (λ f. refl) ] in
    go (eqb n seq) refl

kept_row : {A : Type 0} (low n seq : ℕ) (a : A) (o : Option A) → ltb low n ≡ true → cond (eqb n seq) (Some a) (cond (ltb low seq) o None) ≡ cond (ltb low seq) (cond (eqb n seq) (Some a) o) None
kept_row low n seq a o e =
    let P : Bool → Type 0 = λ b. eqb n seq ≡ b → cond b (Some a) (cond (ltb low seq) o None) ≡ cond (ltb low seq) (cond b (Some a) o) None in
    let go : (b : Bool) → P b = λ b. elim b as P [ true ↦ (λ t. let above : ltb low seq ≡ true = ap (λ x. ltb low x) (sym (eqb-true n seq t)) ∙ e in rw above refl) | false ↦ (λ f. refl) ] in
    go (eqb n seq) refl

pub message_at-past : (low seq : ℕ) (rows : List Numbered) → message_at seq (rows_past low rows) ≡ cond (ltb low seq) (message_at seq rows) None
message_at-past low seq [] = grind (arith, nat_tests)
message_at-past low seq (r ∷ rows) =
    let P : Bool → Type 0 = λ b. ltb low r.seq ≡ b → message_at seq (cond b (r ∷ rows_past low rows) (rows_past low rows)) ≡ cond (ltb low seq) (cond (eqb r.seq seq) (Some r.message) (message_at seq rows)) None in
    let go : (b : Bool) → P b = λ b. elim b as P [
      | true ↦ (λ t. ap (λ o. cond (eqb r.seq seq) (Some r.message) o) (message_at-past low seq rows) ∙ kept_row low r.seq seq r.message (message_at seq rows) t)
      | false ↦ (λ f. message_at-past low seq rows ∙ sym (skipped low r.seq seq r.message (message_at seq rows) f))
    ] in
    go (ltb low r.seq) refl

either_none_right : {A : Type 0} (a b : Option A) → either a b ≡ None → b ≡ None
either_none_right None b e = e
either_none_right (Some x) b e = not_some x (sym e)

no_number : (e : Entry) → ((seq : ℕ) → put_by seq e ≡ None) → number_put e ≡ 0
no_number (Put n m mark) none = let here : eqb n n ≡ true = eq-eqb n n refl in let wrong : Some m ≡ None = rw here at (none n) in cc
no_number (Del n) none = refl
no_number (Purge pattern below) none = refl
no_number (Expire now) none = refl
no_number (Bind index incarnation start) none = refl
no_number (Limits config) none = refl

either_none_left : {A : Type 0} (a b : Option A) → either a b ≡ None → a ≡ None
either_none_left None b e = refl
either_none_left (Some x) b e = not_some x (sym e)

-- where nothing was put there is no last number
pub no_last : (xs : List Entry) → ((seq : ℕ) → put seq xs ≡ None) → last xs ≡ 0
no_last [] none = refl
no_last (e ∷ xs) none =
    let here = no_number e (λ seq. either_none_left (put_by seq e) (put seq xs) (none seq)) in
    let rest = no_last xs (λ seq. either_none_right (put_by seq e) (put seq xs) (none seq)) in
    omega (arith, here, rest)

pub HasAll-mono : (n m : ℕ) (rows : List Numbered) → n ≤ m → HasAll n rows → HasAll m rows
HasAll-mono n m [] h all = tt
HasAll-mono n m (r ∷ rows) h all = (omega (arith, all.0), HasAll-mono n m rows h all.1)

HasAll-each : (n : ℕ) (rows : List Numbered) → EachRow (λ r. r.seq ≤ n) rows → HasAll n rows
HasAll-each n [] each = tt
HasAll-each n (r ∷ rows) each = (each.0, HasAll-each n rows each.1)

pub HasAll-kept : (h : History) → HasAll (last h.entries) (kept h)
HasAll-kept h = HasAll-each (last h.entries) (kept h) (kept-below h)

-- the last of the rows that are taken is no greater than the last of all
pub last-taken : (n low : ℕ) (rows : List Numbered) → HasAll n rows → last (map copied_entry (rows_past low rows)) ≤ n
last-taken n low [] all = omega arith
last-taken n low (r ∷ rows) all =
    let P : Bool → Type 0 = λ b. last (map copied_entry (cond b (r ∷ rows_past low rows) (rows_past low rows))) ≤ n in
    let ih = last-taken n low rows all.1 in
    let go : (b : Bool) → P b = λ b. elim b as P [ true ↦ omega (arith, ih, all.0) | false ↦ ih ] in
    go (ltb low r.seq)

-- who took these rows has all
pub HasAll-taken : (n low : ℕ) (rows : List Numbered) → low ≤ n → last (map copied_entry (rows_past low rows)) ≤ n → HasAll n rows
HasAll-taken n low [] h t = tt
HasAll-taken n low (r ∷ rows) h t =
    let P : Bool → Type 0 = λ b. ltb low r.seq ≡ b → last (map copied_entry (cond b (r ∷ rows_past low rows) (rows_past low rows))) ≤ n → HasAll n (r ∷ rows) in
    let go : (b : Bool) → P b = λ b. elim b as P [
      | true ↦ (λ e k. (omega (arith, k), HasAll-taken n low rows h (omega (arith, k))))
      | false ↦ (λ e k. (omega (arith, ltb-false low r.seq e), HasAll-taken n low rows h k))
    ] in
    go (ltb low r.seq) refl t
