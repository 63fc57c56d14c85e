-- Several calls, one after another.
use Rattle.std.proofs.Common.{◌≡◌, ℕ, List, [], ◌∷◌, ◌++◌, refl}
use Rattle.leaf_edges.specs.Disks.{Op}
use Rattle.mem_disk.specs.Contents.{Content, after_op, after_ops, after_call, after_calls}

pub after_ops-push : (b : List ℕ) (ops : List Op) (op : Op) → after_ops b (ops ++ op ∷ []) ≡ after_op (after_ops b ops) op
after_ops-push b [] op = refl
after_ops-push b (o ∷ ops) op = after_ops-push (after_op b o) ops op

pub after_ops-append : (b : List ℕ) (front rest : List Op) → after_ops b (front ++ rest) ≡ after_ops (after_ops b front) rest
after_ops-append b [] rest = refl
after_ops-append b (o ∷ front) rest = after_ops-append (after_op b o) front rest

pub after_calls-push : (c : Content) (ops : List Op) (op : Op) → after_calls c (ops ++ op ∷ []) ≡ after_call (after_calls c ops) op
after_calls-push c [] op = refl
after_calls-push c (o ∷ ops) op = after_calls-push (after_call c o) ops op
