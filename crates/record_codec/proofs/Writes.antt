-- Writing items one after the other, as a loop does.
use Rattle.std.proofs.Common.{◌≡◌, ℕ, ◌+◌, ◌<◌, List, [], ◌∷◌, ◌++◌, length, take, get_or, Result, Ok, Err, sym, ap, subst, ◌∙◌, append_assoc}
use Rattle.std.specs.Prelude.{OnErr}
use Rattle.std.specs.List.{flat_map, All}
use Rattle.std.proofs.lemmas.List.{take_more, flat_map_more}
use Rattle.std.proofs.lemmas.List.Elements.{All-more}
use Rattle.nats_text.specs.Headers.{Extends}

-- one item more is written
pub put_more : {A : Type 0} (text : A → List ℕ) (Is : A → Type 0) (xs : List A) (i : ℕ) (x : A) (old buf new : List ℕ) → i < length xs → x ≡ get_or xs i x
    → (buf ≡ old ++ flat_map text (take i xs)) × All Is (take i xs) → new ≡ buf ++ text x → Is x → (new ≡ old ++ flat_map text (take (i + 1) xs)) × All Is (take (i + 1) xs)
put_more {A} text Is xs i x old buf new lt at before put is =
    let grown : take (i + 1) xs ≡ take i xs ++ x ∷ [] = take_more xs i x lt ∙ ap (λ (y : A). take i xs ++ y ∷ []) (sym at) in (
      put ∙ ap (λ (b : List ℕ). b ++ text x) before.0 ∙ flat_map_more text old (take i xs) x ∙ ap (λ (ys : List A). old ++ flat_map text ys) (sym grown),
      All-more Is xs i x lt before.1 (subst Is at is),
    )

-- what extends a longer text extends the shorter one
pub extends_after : (old text buf new : List ℕ) → buf ≡ old ++ text → Extends buf new → Extends old new
extends_after old text buf new e h = (text ++ h.0, h.1 ∙ ap (λ (b : List ℕ). b ++ h.0) e ∙ append_assoc old text h.0)

pub at_err : {A E : Type 0} (r : Result A E) (P : Type 0) → P → OnErr r P
at_err (Ok x) P p = tt
at_err (Err e) P p = p
