-- The laws of steps: each is a run of the world of shards, and what holds of a net holds of it afterwards.
use Rattle.std.specs.Prelude.{ℕ, List}
use Rattle.run_soundness.specs.Worlds.{Event, Run, World}
use Rattle.world_steps.specs.declared.event.Event.{Event as Order}
use Rattle.world_steps.specs.declared.outcome.StepOutcome.{StepOutcome}
use Rattle.world_steps.specs.Links.{Net}
use Rattle.world_steps.specs.Routes.{Moments}
use Rattle.world_steps.specs.Steps.{Steps, StepsInPart, IsLegal}
use Rattle.world_steps.specs.Settling.{Settles, SettlesInPart}
use Rattle.world_steps.specs.Nets.{IsWhole, IsNew, AddsNode}

-- the events of a step are a run
abbrev pub StepsRun : Type 0
StepsRun = (m : Moments) (o : Order) (old new : Net) (es : List Event) (out : StepOutcome) → Steps m o old es out new → Run old.world es new.world

-- so are those of a first part of a step, after which there was no memory
abbrev pub PartsOfStepsRun : Type 0
PartsOfStepsRun = (m : Moments) (o : Order) (old : Net) (last : World) (es : List Event) → StepsInPart m o old es last → Run old.world es last

-- the events of a settling are a run
abbrev pub SettlingRuns : Type 0
SettlingRuns = (n : ℕ) (m end : Moments) (old new : Net) (es : List Event) → Settles n m old es end new → Run old.world es new.world

-- so are those of a first part of a settling
abbrev pub PartsOfSettlingRun : Type 0
PartsOfSettlingRun = (n : ℕ) (m : Moments) (old : Net) (last : World) (es : List Event) → SettlesInPart n m old es last → Run old.world es last

-- what holds of a net holds of it after a step
abbrev pub StepsKeepWhole : Type 0
StepsKeepWhole = (m : Moments) (o : Order) (old new : Net) (es : List Event) (out : StepOutcome) → IsWhole old → IsLegal old o → Steps m o old es out new → IsWhole new

-- and after a settling
abbrev pub SettlingKeepsWhole : Type 0
SettlingKeepsWhole = (n : ℕ) (m end : Moments) (old new : Net) (es : List Event) → IsWhole old → Settles n m old es end new → IsWhole new

-- it holds of the net without nodes
abbrev pub NewIsWhole : Type 0
NewIsWhole = (net : Net) → IsNew net → IsWhole net

-- and it holds once a node was made
abbrev pub NodesKeepWhole : Type 0
NodesKeepWhole = (node : List ℕ) (old new : Net) → IsWhole old → AddsNode node old new → IsWhole new
