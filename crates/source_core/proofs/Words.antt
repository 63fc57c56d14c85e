-- The filters and destinations that the header of a source can tell.
use Rattle.std.proofs.Common.{◌≡◌, ℕ, List, length, Bool, true, false, ◌&&◌, ◌||◌, Some, refl}
use Rattle.std.proofs.lemmas.Bool.{and_parts, leb-true, false≢true}
use Rattle.nats_text.specs.Text.{is_pattern}
use Rattle.nats_text.specs.declared.origin.Mapping.{Mapping}
use Rattle.stream_fold.specs.Checking.{is_legal_map}
use Rattle.subject_transform.specs.Transforms.{sub}
use Rattle.source_core.specs.Origins.{IsWord}
use Rattle.source_core.proofs.Visible.{pattern-visible, sub-clear}

pub pattern-word : (text : List ℕ) → is_pattern text ≡ true → IsWord text
pattern-word text e = record { visible = pattern-visible text e; short = leb-true (length text) 1024 (and_parts _ _ (and_parts _ _ e).0).0 }

pub dest-word : (src dest subject made : List ℕ) → sub src dest subject ≡ Some made → IsWord dest
dest-word src dest subject made e = let h = sub-clear src dest subject made e in record { visible = h.seen; short = h.short }

shared : (p a b : Bool) → ((p && a) || (p && b)) ≡ true → p ≡ true
shared true a b e = refl
shared false a b e = absurd (false≢true e)

-- the source of a map that a source may have
pub source-word : (m : Mapping) → is_legal_map m ≡ true → IsWord m.src
source-word m e = pattern-word m.src (shared _ _ _ (and_parts _ _ e).1)
