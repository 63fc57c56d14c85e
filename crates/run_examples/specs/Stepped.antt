-- Steps of a hub and its leaf by which a message is copied: calls of shards, and frames that are carried over the link.
use Rattle.std.specs.Prelude.{◌≡◌, ℕ, true, List, [], ◌∷◌, Some}
use Rattle.nats_text.specs.declared.message.Message.{Message}
use Rattle.stream_fold.specs.declared.config.Config.{Config}
use Rattle.shard_machine.specs.declared.call.ShardCall.TheVariants as call
use Rattle.shard_machine.specs.declared.reply.Outcome.TheVariants as outcome
use Rattle.shard_machine.specs.declared.reply.ShardReply.{ShardReply}
use Rattle.shard_machine.specs.Images.{NameFacts, live_in}
use Rattle.run_soundness.specs.Worlds.{Event, shard_of}
use Rattle.world_steps.specs.declared.event.Event.{Event as Order}
use Rattle.world_steps.specs.declared.event.Event.TheVariants as order
use Rattle.world_steps.specs.declared.outcome.StepOutcome.TheVariants.{Reply, Quiet}
use Rattle.world_steps.specs.Links.{Net}
use Rattle.world_steps.specs.Nets.{IsNew, AddsNode}
use Rattle.world_steps.specs.Routes.{Moments}
use Rattle.world_steps.specs.Settling.{Settles}
use Rattle.world_steps.specs.Steps.{Steps}

-- the moments of all steps
abbrev pub at_first : Moments
at_first = record { now = 0; timer = 0 }

-- a call that is answered leads from the one net to the other
pub record IsCalled (o : Order) (what : ShardReply) (old new : Net) : Type 0 where
  pub events : List Event
  pub steps : Steps at_first o old events (Reply what) new

-- frames are carried, which leads from the one net to the other
pub record IsCarried (o : Order) (old new : Net) : Type 0 where
  pub events : List Event
  pub steps : Steps at_first o old events Quiet new

-- The hub makes a stream and stores a message, and the leaf makes a mirror. What it asks is carried to the hub, and then
-- both the answer and the message to the leaf, which keeps it. The nodes have settled then.
pub record CopiedInSteps : Type 0 where
  pub hub : List ℕ
  pub leaf : List ℕ
  pub origin : Config
  pub mirror : Config
  pub message : Message
  pub without_nodes : Net
  pub with_hub : Net
  pub with_leaf : Net
  pub with_stream : Net
  pub with_message : Net
  pub with_mirror : Net
  pub once_asked : Net
  pub once_copied : Net
  pub new : IsNew without_nodes
  pub adds_hub : AddsNode hub without_nodes with_hub
  pub adds_leaf : AddsNode leaf with_hub with_leaf
  pub made : ShardReply
  pub makes : IsCalled (order.Call hub (call.Create origin 0)) made with_leaf with_stream
  pub is_made : made.outcome ≡ outcome.Made true
  pub stored : ShardReply
  pub stores : IsCalled (order.Call hub (call.Publish origin.name message 0)) stored with_stream with_message
  pub is_stored : stored.outcome ≡ outcome.Stored 1
  pub mirrored : ShardReply
  pub mirrors : IsCalled (order.Call leaf (call.Create mirror 0)) mirrored with_message with_mirror
  pub is_mirrored : mirrored.outcome ≡ outcome.Made true
  pub asks : IsCarried (order.Carry leaf hub 1) with_mirror once_asked
  pub copies : IsCarried (order.Carry hub leaf 2) once_asked once_copied
  pub settled : Settles 0 at_first once_copied [] at_first once_copied
  pub known : NameFacts
  pub stands : live_in (once_copied.world.shard leaf (shard_of mirror.name)).held.image mirror.name ≡ Some known
  pub keeps : known.stream.rows ≡ (record { seq = 1; message = message }) ∷ []
