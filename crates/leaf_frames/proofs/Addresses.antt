-- A message whose subject and reply were looked at.
use Rattle.std.proofs.Common.{◌≡◌, ℕ, List, Bool, true, false, cond, Option, None, Some, refl, sym, ap, ◌∙◌}
use Rattle.std.specs.List.{list_all}
use Rattle.std.proofs.lemmas.Bool.{cond-true}
use Rattle.nats_frames.specs.declared.fault.FrameText.TheVariants.{ParserError, InvalidSubject}
use Rattle.nats_frames.specs.declared.stream.Said.{Said}
use Rattle.nats_frames.specs.declared.stream.Said.TheVariants.{Unfit}
use Rattle.nats_frames.specs.Fields.{is_short}
use Rattle.nats_frames.specs.Frames.{is_address}
use Rattle.nats_frames.specs.Stream.{sized}
use Rattle.leaf_frames.specs.declared.address.Address.{Address}
use Rattle.leaf_frames.specs.declared.address.Sizes.{Sizes}
use Rattle.leaf_frames.specs.declared.frame.LeafFrame.{LeafFrame}
use Rattle.leaf_frames.specs.Frames.{most_payload, addressed, addressed_to}

-- a message by what its subject and its reply read as, where its queues are short
pub addressed_is : (subject : List ℕ) (reply : Option (List ℕ)) (queues : List (List ℕ)) (sizes : Sizes) (read : Option (List ℕ × Option (List ℕ))) → list_all is_short queues ≡ true → read ≡ cond (is_address subject reply) (Some (subject, reply)) None → addressed_to read queues sizes ≡ addressed (record { subject = subject; reply = reply; queues = queues }) sizes
addressed_is subject reply queues sizes read short is =
    let whole : Said LeafFrame Address = sized (record { subject = subject; reply = reply; queues = queues }) most_payload sizes.block sizes.size in
    let P : Bool → Type 0 = λ b. addressed_to (cond b (Some (subject, reply)) None) queues sizes ≡ cond b whole (Unfit InvalidSubject) in
    let go : (b : Bool) → P b = λ b. elim b as P [ true ↦ refl | false ↦ refl ] in
    ap (λ r. addressed_to r queues sizes) is
    ∙ (go (is_address subject reply)
    ∙ sym (cond-true (list_all is_short queues) (cond (is_address subject reply) whole (Unfit InvalidSubject)) (Unfit ParserError) short))
