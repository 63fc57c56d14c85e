-- Lemmas: what a crash may make of several calls, one after another.
use Rattle.std.proofs.Common.{ℕ, List, [], ◌∷◌, ◌++◌, map, refl, sym, subst}
use Rattle.leaf_edges.specs.Disks.{Op}
use Rattle.mem_disk.specs.Contents.{after_op, after_ops, Takes, Reaches, torn_op}
use Rattle.mem_disk.specs.StepLemmas.{takes_none, takes_all, takes_torn}

-- an image after one call more is what the call may make of one from before
pub reaches_back : (b : List ℕ) (ops : List Op) (op : Op) (image : List ℕ) → Reaches b (ops ++ op ∷ []) image → (d : List ℕ) × Reaches b ops d × Takes op d image
reaches_back b [] op image (next, taken, is) = (b, refl, subst (Takes op b) (sym is) taken)
reaches_back b (o ∷ ops) op image (next, taken, rest) =
    let (d, reached, last) = reaches_back next ops op image rest in
    (d, (next, taken, reached), last)

pub reaches_on : (b : List ℕ) (ops : List Op) (op : Op) (d image : List ℕ) → Reaches b ops d → Takes op d image → Reaches b (ops ++ op ∷ []) image
reaches_on b [] op d image is taken = (image, subst (λ (x : List ℕ). Takes op x image) is taken, refl)
reaches_on b (o ∷ ops) op d image (next, first, rest) taken = (next, first, reaches_on next ops op d image rest taken)

-- a crash may leave nothing of the calls, all of them, or each write torn
pub reaches_none : (b : List ℕ) (ops : List Op) → Reaches b ops b
reaches_none b [] = refl
reaches_none b (op ∷ ops) = (b, takes_none op b, reaches_none b ops)

pub reaches_all : (b : List ℕ) (ops : List Op) → Reaches b ops (after_ops b ops)
reaches_all b [] = refl
reaches_all b (op ∷ ops) = (after_op b op, takes_all op b, reaches_all (after_op b op) ops)

pub reaches_torn : (b : List ℕ) (ops : List Op) → Reaches b ops (after_ops b (map torn_op ops))
reaches_torn b [] = refl
reaches_torn b (op ∷ ops) = (after_op b (torn_op op), takes_torn op b, reaches_torn (after_op b (torn_op op)) ops)
