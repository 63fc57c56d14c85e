use Rattle.std.proofs.Common.{◌≡◌, map}
use Rattle.toml.specs.View.{members_view}
use Rattle.leafd_conf.specs.Profile.{first_other}
use Rattle.leafd_conf.proofs.member.first_other.Given as goal

-- what is left decides
abbrev pub invariant-members : goal.invariant-members
invariant-members l =
    (goal.iterator-members).can_next l.key-iterator × (goal.iterator-members).is_finite l.key-iterator
    × (first_other (map (λ k. k.now) l.members) (members_view l.key-iterator) ≡ first_other (map (λ k. k.now) l.members) (members_view l.table.entries))
