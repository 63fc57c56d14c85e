use Rattle.std.proofs.Common.{◌≡◌, ◌<◌, ◌^◌, drop}
use Rattle.nats_text.specs.Numbers.{number_after}
use Rattle.nats_text.proofs.numbers.value_of.Given as goal

-- what the rest makes of the digits so far is what all make
abbrev pub invariant-loop-digit : goal.invariant-loop-digit
invariant-loop-digit l = (number_after l.value (drop l.digit-index l.digits) ≡ number_after 0 l.digits) × (l.value < 2 ^ 63)
