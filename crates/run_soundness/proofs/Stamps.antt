-- Names of consumers: each is given once, so that of one name there is one.
use Rattle.std.proofs.Common.{◌≡◌, ◌≢◌, ℕ, ◌<◌, ◌≤◌, Bool, true, false, cond, ◌&&◌, eqb, List, [], ◌∷◌, ◌++◌, Option, Some, None, refl, sym, ap, ◌∙◌, arith, inl, inr}
use Rattle.std.specs.Prelude.{⊤, filter, map, Contains}
use Rattle.std.proofs.lemmas.Bool.{and_parts, eqb-true, eq-eqb}
use Rattle.std.proofs.lemmas.List.Elements.{Contains-append_cases}
use Rattle.nats_text.specs.declared.message.Stamp.{Stamp}
use Rattle.push_consumer.specs.Progress.{ConsumerState}
use Rattle.replica_ask.specs.Orders.{same_stamp}
use Rattle.run_soundness.specs.Shards.{Consumer, Distinct, IsGiven, standing_of}
use Rattle.run_soundness.proofs.Lists.{cons-cases, Contains-head, Contains-tail, Contains-none, Contains-one, found, none-found, filter-was, map-back}

pub same_stamp-is : (a b : Stamp) → same_stamp a b ≡ true → a ≡ b
same_stamp-is a b e =
    let parts = and_parts (eqb a.boot b.boot) (eqb a.count b.count) e in
    let boots : a.boot ≡ b.boot = eqb-true a.boot b.boot parts.0 in
    let counts : a.count ≡ b.count = eqb-true a.count b.count parts.1 in
    λ i. record { boot = boots i; count = counts i }

and_true : (a b : Bool) → a ≡ true → b ≡ true → (a && b) ≡ true
and_true true b e f = f
and_true false b e f = absurd (cc)

pub same_stamp-refl : (a : Stamp) → same_stamp a a ≡ true
same_stamp-refl a = and_true (eqb a.boot a.boot) (eqb a.count a.count) (eq-eqb a.boot a.boot refl) (eq-eqb a.count a.count refl)

other_by : (a b : Stamp) (t : Bool) → same_stamp a b ≡ t → a ≢ b → t ≡ false
other_by a b true e f = absurd (f (same_stamp-is a b e))
other_by a b false e f = refl

pub same_stamp-other : (a b : Stamp) → a ≢ b → same_stamp a b ≡ false
same_stamp-other a b f = other_by a b (same_stamp a b) refl f

-- ---- of those that stand

-- no two of those that stand have one name
abbrev pub Apart : List ConsumerState → Type 0
Apart [] = ⊤
Apart (c ∷ cs) = ((d : ConsumerState) → Contains cs d → d.name ≢ c.name) × Apart cs

pub Apart-one : (cs : List ConsumerState) (c d : ConsumerState) → Apart cs → Contains cs c → Contains cs d → c.name ≡ d.name → c ≡ d
Apart-one [] c d h q r e = absurd (Contains-none c q)
Apart-one (x ∷ cs) c d h q r e = elim (cons-cases x cs c q) [
  | inl a ↦ (elim (cons-cases x cs d r) [ inl b ↦ sym a ∙ b | inr b ↦ absurd (h.0 d b (sym e ∙ ap (λ (y : ConsumerState). y.name) (sym a))) ])
  | inr a ↦ (elim (cons-cases x cs d r) [ inl b ↦ absurd (h.0 c a (e ∙ ap (λ (y : ConsumerState). y.name) (sym b))) | inr b ↦ Apart-one cs c d h.1 a b e ])
]

apart_at : (x : ConsumerState) (xs cs : List ConsumerState) (b : Bool) → ((d : ConsumerState) → Contains xs d → Contains cs d) → ((d : ConsumerState) → Contains cs d → d.name ≢ x.name) → Apart xs → Apart (cond b (x ∷ xs) xs)
apart_at x xs cs true f g h = (λ d q. g d (f d q), h)
apart_at x xs cs false f g h = h

pub Apart-filter : (p : ConsumerState → Bool) (cs : List ConsumerState) → Apart cs → Apart (filter p cs)
Apart-filter p [] h = tt
Apart-filter p (x ∷ cs) h = apart_at x (filter p cs) cs (p x) (filter-was p cs) h.0 (Apart-filter p cs h.1)

pub Apart-push : (cs : List ConsumerState) (new : ConsumerState) → Apart cs → ((c : ConsumerState) → Contains cs c → c.name ≢ new.name) → Apart (cs ++ new ∷ [])
Apart-push [] new h f = (λ d q. absurd (Contains-none d q), tt)
Apart-push (x ∷ cs) new h f = (
  (λ d q e. elim (Contains-append_cases cs (new ∷ []) d q) [
    | inl old ↦ h.0 d old e
    | inr own ↦ f x (Contains-head x cs) (sym e ∙ ap (λ (y : ConsumerState). y.name) (sym (Contains-one new d own)))
  ]),
  Apart-push cs new h.1 (λ c q. f c (Contains-tail x cs c q)),
)

-- a change that leaves names leaves them apart
pub Apart-map : (f : ConsumerState → ConsumerState) → ((c : ConsumerState) → (f c).name ≡ c.name) → (cs : List ConsumerState) → Apart cs → Apart (map f cs)
Apart-map f same [] h = tt
Apart-map f same (x ∷ cs) h = (
  (λ d q e. let w = map-back f cs d q in h.0 w.of w.here (sym (same w.of) ∙ (ap (λ (y : ConsumerState). y.name) w.is ∙ (e ∙ same x)))),
  Apart-map f same cs h.1,
)

-- what stands of a name is one that has it
pub standing-is : (cs : List ConsumerState) (name : Stamp) (c : ConsumerState) → standing_of cs name ≡ Some c → Contains cs c × (c.name ≡ name)
standing-is cs name c e = let w = found (λ (x : ConsumerState). same_stamp x.name name) cs c e in (w.here, same_stamp-is c.name name w.passes)

stands_by : (cs : List ConsumerState) (c : ConsumerState) (o : Option ConsumerState) → standing_of cs c.name ≡ o → Apart cs → Contains cs c → o ≡ Some c
stands_by cs c None e h q = absurd (let z : true ≡ false = sym (same_stamp-refl c.name) ∙ none-found (λ (x : ConsumerState). same_stamp x.name c.name) cs c e q in cc)
stands_by cs c (Some d) e h q = let w = standing-is cs c.name d e in ap Some (Apart-one cs d c h w.0 q w.1)

pub standing-of : (cs : List ConsumerState) (c : ConsumerState) → Apart cs → Contains cs c → standing_of cs c.name ≡ Some c
standing-of cs c h q = stands_by cs c (standing_of cs c.name) refl h q

-- ---- of all that were ever made

pub Distinct-one : (cs : List Consumer) (c d : Consumer) → Distinct cs → Contains cs c → Contains cs d → c.name ≡ d.name → c ≡ d
Distinct-one [] c d h q r e = absurd (Contains-none c q)
Distinct-one (x ∷ cs) c d h q r e = elim (cons-cases x cs c q) [
  | inl a ↦ (elim (cons-cases x cs d r) [ inl b ↦ sym a ∙ b | inr b ↦ absurd (h.0 d b (sym e ∙ ap (λ (y : Consumer). y.name) (sym a))) ])
  | inr a ↦ (elim (cons-cases x cs d r) [ inl b ↦ absurd (h.0 c a (e ∙ ap (λ (y : Consumer). y.name) (sym b))) | inr b ↦ Distinct-one cs c d h.1 a b e ])
]

pub Distinct-map : (f : Consumer → Consumer) → ((c : Consumer) → (f c).name ≡ c.name) → (cs : List Consumer) → Distinct cs → Distinct (map f cs)
Distinct-map f same [] h = tt
Distinct-map f same (x ∷ cs) h = (
  (λ d q e. let w = map-back f cs d q in h.0 w.of w.here (sym (same w.of) ∙ (ap (λ (y : Consumer). y.name) w.is ∙ (e ∙ same x)))),
  Distinct-map f same cs h.1,
)

pub Distinct-push : (cs : List Consumer) (new : Consumer) → Distinct cs → ((c : Consumer) → Contains cs c → c.name ≢ new.name) → Distinct (cs ++ new ∷ [])
Distinct-push [] new h f = (λ d q. absurd (Contains-none d q), tt)
Distinct-push (x ∷ cs) new h f = (
  (λ d q e. elim (Contains-append_cases cs (new ∷ []) d q) [
    | inl old ↦ h.0 d old e
    | inr own ↦ f x (Contains-head x cs) (sym e ∙ ap (λ (y : Consumer). y.name) (sym (Contains-one new d own)))
  ]),
  Distinct-push cs new h.1 (λ c q. f c (Contains-tail x cs c q)),
)

-- ---- given names

pub given-on : (b given more : ℕ) (stamp : Stamp) → given ≤ more → IsGiven b given stamp → IsGiven b more stamp
given-on b given more stamp le g = record { boot = g.boot; count = λ e. let q = g.count e in omega arith }

pub given-later : (b later given more : ℕ) (stamp : Stamp) → b < later → IsGiven b given stamp → IsGiven later more stamp
given-later b later given more stamp lt g = let q = g.boot in record { boot = omega arith; count = λ e. absurd (omega arith) }

pub given-same : (b later given : ℕ) (stamp : Stamp) → b ≤ later → IsGiven b given stamp → IsGiven later given stamp
given-same b later given stamp le g = let q = g.boot in record { boot = omega arith; count = λ e. g.count (omega arith) }
