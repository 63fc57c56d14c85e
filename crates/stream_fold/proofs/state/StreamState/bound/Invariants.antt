use Rattle.std.proofs.Common.{◌≡◌, drop}
use Rattle.stream_fold.specs.Copying.{binding_at}
use Rattle.stream_fold.proofs.state.StreamState.bound.Given as goal

-- the index is not among those that were looked at
abbrev pub invariant-loop-binding : goal.invariant-loop-binding
invariant-loop-binding l = binding_at l.index (drop l.binding-index l.binding-items) ≡ binding_at l.index l.self.held.bindings
