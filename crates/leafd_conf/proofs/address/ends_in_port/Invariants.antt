use Rattle.std.proofs.Common.{◌≡◌, length}
use Rattle.leafd_conf.specs.Profile.{ends_in_port}
use Rattle.leafd_conf.proofs.address.ends_in_port.Given as goal

-- what is left decides
abbrev pub invariant-loop-rest : goal.invariant-loop-rest
invariant-loop-rest l = ends_in_port l.rest ≡ ends_in_port l.text

abbrev pub decreases-loop-rest : goal.decreases-loop-rest
decreases-loop-rest l = length l.rest
