-- The origin of a source, in a configuration that a stream may have, is one that sources may have.
use Rattle.std.proofs.Common.{◌≡◌, ℕ, zero, suc, List, [], ◌∷◌, Option, None, Some, refl, sym, subst}
use Rattle.std.specs.Prelude.{slice_get, codes}
use Rattle.std.proofs.lemmas.Option.{same_Some}
use Rattle.nats_text.specs.declared.origin.Origin.{Origin}
use Rattle.stream_fold.specs.declared.config.Config.{Config}
use Rattle.stream_fold.specs.declared.config.Copies.{Copies}
use Rattle.stream_fold.specs.declared.config.Copies.TheVariants.{Nothing, Mirror, Sources}
use Rattle.stream_fold.specs.Checking.{config_fault, wrong_if, has_wrong_subjects, limits_fault, has_wrong_window, is_wrong_transform, copies_fault, source_faults}
use Rattle.stream_fold.specs.Copying.{origin_named}
use Rattle.stream_fold.specs.Histories.{either}
use Rattle.source_core.specs.Origins.{HasSource, IsSource}
use Rattle.source_core.proofs.Visible.{not-none}

either-none : {A : Type 0} (o p : Option A) → either o p ≡ None → (o ≡ None) × (p ≡ None)
either-none None p e = (refl, e)
either-none (Some x) p e = absurd (not-none (sym e))

faults-none : (origins : List Origin) (i : ℕ) (want : Origin) → source_faults origins ≡ None → slice_get origins i ≡ Some want → IsSource want
faults-none [] i want none e = absurd (not-none e)
faults-none (x ∷ xs) zero want none e = subst IsSource (same_Some x want e) (either-none _ _ none).0
faults-none (x ∷ xs) (suc i) want none e = faults-none xs i want (either-none _ _ none).1 e

copies-legal : (config : Config) (copies : Copies) (index : ℕ) (want : Origin) → copies_fault config copies ≡ None → HasSource index copies → origin_named index copies ≡ Some want → IsSource want
copies-legal config Nothing index want none has e = absurd has
copies-legal config (Mirror origin) index want none has e = absurd has
copies-legal config (Sources origins) index want none has e = faults-none origins index want (either-none _ _ none).0 e

pub source-legal : (config : Config) (index : ℕ) (want : Origin) → config_fault config ≡ None → HasSource index config.copies → origin_named index config.copies ≡ Some want → IsSource want
source-legal config index want none has e =
    let subjects = wrong_if (has_wrong_subjects config) (codes "subjects") in
    let window = wrong_if (has_wrong_window config) (codes "duplicate_window") in
    let transform = wrong_if (is_wrong_transform config.copies config.transform) (codes "subject_transform") in
    let origins = copies_fault config config.copies in
    let behind_window = either origins transform in
    let behind_limits = either window behind_window in
    let behind_subjects = either (limits_fault config) behind_limits in
    let limits_none = (either-none subjects behind_subjects none).1 in
    let window_none = (either-none (limits_fault config) behind_limits limits_none).1 in
    let origins_none = (either-none origins transform (either-none window behind_window window_none).1).0 in
    copies-legal config config.copies index want origins_none has e
