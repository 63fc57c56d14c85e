use Rattle.std.proofs.Common.{◌≡◌, map}
use Rattle.serde_json.specs.View.{members_view}
use Rattle.config_json.specs.Others.{first_other}
use Rattle.config_json.proofs.others.first_other.Given as goal

-- the first other member isn't among those that were looked at
abbrev pub invariant-loop-name : goal.invariant-loop-name
invariant-loop-name l = first_other (map (λ k. k.now) l.known) (members_view l.members.entries) ≡ first_other (map (λ k. k.now) l.known) (members_view l.name-iterator)
