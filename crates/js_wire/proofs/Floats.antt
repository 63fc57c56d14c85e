-- No packet has a number with a fraction.
use Rattle.std.proofs.Common.{◌≡◌, ℕ, List, [], ◌∷◌, false, refl}
use Rattle.serde_json.specs.Written.{has_float, items_have_float, members_have_float}
use Rattle.nats_text.specs.declared.message.Start.{Start}
use Rattle.nats_text.specs.declared.message.Start.TheVariants.{Seq, Time}
use Rattle.js_wire.specs.Payloads.{texts, behind_filters, ask_data}

texts_no_float : (ts : List (List ℕ)) → items_have_float (texts ts) ≡ false
texts_no_float [] = refl
texts_no_float (t ∷ ts) = texts_no_float ts

behind_no_float : (start : Start) → members_have_float (behind_filters start) ≡ false
behind_no_float (Seq n) = refl
behind_no_float (Time t) = refl

pub ask_no_float : (subject stream : List ℕ) (start : Start) (filters : List (List ℕ)) → has_float (ask_data subject stream start filters) ≡ false
ask_no_float subject stream (Seq n) [] = refl
ask_no_float subject stream (Time t) [] = refl
ask_no_float subject stream (Seq n) (filter ∷ filters) = rw (texts_no_float filters) refl
ask_no_float subject stream (Time t) (filter ∷ filters) = rw (texts_no_float filters) refl
