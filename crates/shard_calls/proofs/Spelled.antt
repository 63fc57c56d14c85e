-- What is told of the bytes of a record, and of the calls that write them.
use Rattle.gate_journal.specs.Journals.{append_calls}
use Rattle.leaf_edges.specs.Disks.{Op}
use Rattle.record_codec.specs.Spelling.{spelling}
use Rattle.record_codec.specs.declared.records.Rec.TheVariants.{Boot, Create, Of, Remove}
use Rattle.record_codec.specs.declared.records.Rec.{Rec}
use Rattle.std.proofs.Common.{List, [], ap, append-nil, arith, inl, inr, length, refl, sym, take, ℕ, ◌++◌, ◌∙◌, ◌≡◌, ◌≤◌, ◌⊎◌}
use Rattle.std.proofs.str.Laws.{two}

-- a record has bytes
pub spelled-some : (it : Rec) → 1 ≤ length (spelling it)
unfolding spelling
spelled-some (Boot number) = omega arith
spelled-some (Create time config) = omega arith
spelled-some (Remove name) = omega arith
spelled-some (Of name entry) = omega arith

-- none of an append's calls, or the first two, are some front of them
pub some-calls : (old new : List Op) (end : ℕ) (body bytes : List ℕ) → body ≡ bytes → (new ≡ old) ⊎ (new ≡ old ++ take 2 (append_calls end body)) → (front rest : List Op) × (append_calls end bytes ≡ front ++ rest) × (new ≡ old ++ front)
some-calls old new end body bytes is (inl none) = ([], append_calls end bytes, refl, none ∙ sym (append-nil old))
some-calls old new end body bytes is (inr two) = (take 2 (append_calls end bytes), _, refl, two ∙ ap (λ (b : List ℕ). old ++ take 2 (append_calls end b)) is)
