use Rattle.std.proofs.Common.{◌≡◌, drop, map}
use Rattle.std.specs.List.{list_any}
use Rattle.std.specs.Str.{bytes_eq}
use Rattle.config_json.proofs.others.is_known.Given as goal

-- the name is none of those that were looked at
abbrev pub invariant-loop-other : goal.invariant-loop-other
invariant-loop-other l = list_any (bytes_eq l.name) (map (λ k. k.now) l.known) ≡ list_any (bytes_eq l.name) (map (λ k. k.now) (drop l.other-index l.known))
