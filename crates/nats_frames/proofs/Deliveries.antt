-- Messages for subscriptions.
use Rattle.std.proofs.Common.{◌≡◌, ℕ, ◌<◌, List, [], ◌∷◌, length, Bool, true, false, cond, Option, None, Some, refl, sym, ap, ◌∙◌, arith}
use Rattle.std.specs.Borrow.{Bor}
use Rattle.std.proofs.lemmas.Bool.{cond-true}
use Rattle.nats_frames.specs.declared.fault.FrameText.TheVariants.{ParserError, InvalidSubject}
use Rattle.nats_frames.specs.declared.frame.ClientFrame.{ClientFrame}
use Rattle.nats_frames.specs.declared.operation.Envelope.{Envelope}
use Rattle.nats_frames.specs.declared.operation.Envelope.TheVariants.{Delivery}
use Rattle.nats_frames.specs.declared.stream.Said.{Said}
use Rattle.nats_frames.specs.declared.stream.Said.TheVariants.{Unfit}
use Rattle.nats_text.specs.Pieces.{views}
use Rattle.nats_frames.specs.Fields.{is_short}
use Rattle.nats_frames.specs.Stream.{sized}
use Rattle.nats_frames.specs.Frames.{most_payload, is_address, publish_headers, delivered, delivery}

-- the address was read exactly where it is one
pub delivered_is : (headers : Bool) (subject sid : List ℕ) (reply : Option (List ℕ)) (block size : Option ℕ) (address : Option (List ℕ × Option (List ℕ))) → is_short sid ≡ true → address ≡ cond (is_address subject reply) (Some (subject, reply)) None → delivered headers sid address block size ≡ delivery headers subject sid reply block size
delivered_is headers subject sid reply block size address short read =
    let whole : Said ClientFrame Envelope = sized (Delivery headers sid subject reply) most_payload block size in
    let P : Bool → Type 0 = λ b. delivered headers sid (cond b (Some (subject, reply)) None) block size ≡ cond b whole (Unfit InvalidSubject) in
    let go : (b : Bool) → P b = λ b. elim b as P [ true ↦ refl | false ↦ refl ] in
    ap (λ a. delivered headers sid a block size) read
    ∙ (go (is_address subject reply) ∙ sym (cond-true (is_short sid) (cond (is_address subject reply) whole (Unfit InvalidSubject)) (Unfit ParserError) short))

-- ---- lines of another number of fields

pub few_headers : (fs : List (Bor (List ℕ))) → length fs < 3 → Unfit ParserError ≡ publish_headers (views fs)
few_headers [] h = refl
few_headers (a ∷ []) h = refl
few_headers (a ∷ b ∷ []) h = refl
few_headers (a ∷ b ∷ c ∷ fs) h = absurd (omega (arith, h))

pub many_headers : (fs : List (Bor (List ℕ))) → 4 < length fs → Unfit ParserError ≡ publish_headers (views fs)
many_headers [] h = absurd (omega (arith, h))
many_headers (a ∷ []) h = absurd (omega (arith, h))
many_headers (a ∷ b ∷ []) h = absurd (omega (arith, h))
many_headers (a ∷ b ∷ c ∷ []) h = absurd (omega (arith, h))
many_headers (a ∷ b ∷ c ∷ d ∷ []) h = absurd (omega (arith, h))
many_headers (a ∷ b ∷ c ∷ d ∷ e ∷ fs) h = refl
