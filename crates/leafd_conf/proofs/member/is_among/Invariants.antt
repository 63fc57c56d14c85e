use Rattle.std.proofs.Common.{◌≡◌, length, map}
use Rattle.leafd_conf.specs.Profile.{is_among}
use Rattle.leafd_conf.proofs.member.is_among.Given as goal

-- what is left decides
abbrev pub invariant-loop-rest : goal.invariant-loop-rest
invariant-loop-rest l = is_among (map (λ k. k.now) l.rest) l.key ≡ is_among (map (λ k. k.now) l.members) l.key

abbrev pub decreases-loop-rest : goal.decreases-loop-rest
decreases-loop-rest l = length l.rest
