-- Pieces of a text that are written one after another.
use Rattle.std.proofs.Common.{◌≡◌, ℕ, ◌<◌, List, ◌++◌, length, take, drop, get_or, Option, sym, ap, ◌∙◌, append_assoc, suc, take-append-drop}
use Rattle.std.proofs.Math.Seq.{drop-cons}
use Rattle.std.specs.Borrow.{Bor}
use Rattle.std.specs.List.{flat_map}
use Rattle.std.proofs.lemmas.List.Concat.{flat_map-append}
use Rattle.std.specs.Io.KnownBytes.{Appends}
use Rattle.std.proofs.KnownBytes.{Appends-trans}
use Rattle.leaf_edges.specs.Causes.{AppendsPrefix}

-- the pieces before a place, the one there, and those behind it
pieces_at : (pieces : List (Bor (List ℕ))) (i : ℕ) (d : Bor (List ℕ)) → i < length pieces → flat_map (λ p. p.now) pieces ≡ flat_map (λ p. p.now) (take i pieces) ++ ((get_or pieces i d).now ++ flat_map (λ p. p.now) (drop (suc i) pieces))
pieces_at pieces i d h = ap (flat_map (λ p. p.now)) (sym (take-append-drop i pieces)) ∙ (flat_map-append (λ p. p.now) (take i pieces) (drop i pieces) ∙ ap (λ ps. flat_map (λ p. p.now) (take i pieces) ++ flat_map (λ p. p.now) ps) (drop-cons pieces i d h))

-- the pieces so far and a prefix of the next one are a prefix of all
pub prefix_at : (pieces : List (Bor (List ℕ))) (i : ℕ) (d : Bor (List ℕ)) (a b c : Option (List ℕ)) → i < length pieces → Appends a b (flat_map (λ p. p.now) (take i pieces)) → AppendsPrefix b c (get_or pieces i d).now → AppendsPrefix a c (flat_map (λ p. p.now) pieces)
prefix_at pieces i d a b c h done part =
    let before = flat_map (λ (p : Bor (List ℕ)). p.now) (take i pieces) in
    let behind = flat_map (λ (p : Bor (List ℕ)). p.now) (drop (suc i) pieces) in
    record {
      front = before ++ part.front;
      rest = part.rest ++ behind;
      whole = pieces_at pieces i d h ∙ (ap (λ x. before ++ (x ++ behind)) part.whole ∙ (ap (λ x. before ++ x) (append_assoc part.front part.rest behind) ∙ sym (append_assoc before part.front (part.rest ++ behind))));
      grows = Appends-trans a b c before part.front done part.grows;
    }
