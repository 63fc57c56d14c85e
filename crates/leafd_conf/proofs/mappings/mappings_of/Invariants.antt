use Rattle.std.proofs.Common.{◌≡◌, drop}
use Rattle.toml.specs.View.{items_view}
use Rattle.leafd_conf.specs.Profile.{mappings_of}
use Rattle.leafd_conf.proofs.Joined.{joined}
use Rattle.leafd_conf.proofs.mappings.mappings_of.Given as goal

-- the mappings so far and those of what is left are those of all
abbrev pub invariant-loop-item : goal.invariant-loop-item
invariant-loop-item l = mappings_of (items_view l.items) ≡ joined l.mappings (mappings_of (items_view (drop l.item-index l.items)))
