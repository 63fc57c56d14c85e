-- A run in which a message is copied from one node to another, call by call.
use Rattle.std.specs.Prelude.{◌≡◌, ℕ, true, List, [], ◌∷◌, None, Some}
use Rattle.nats_text.specs.declared.message.Message.{Message}
use Rattle.js_wire.specs.declared.packet.Packet.{Packet}
use Rattle.stream_fold.specs.declared.config.Config.{Config}
use Rattle.stream_fold.specs.declared.decision.Decision.TheVariants.{Store, Bind as Binds}
use Rattle.stream_fold.specs.declared.entry.Entry.TheVariants.{Put, Bind}
use Rattle.shard_machine.specs.declared.call.ShardCall.TheVariants as call
use Rattle.shard_machine.specs.declared.reply.Outcome.TheVariants as outcome
use Rattle.shard_machine.specs.declared.reply.ShardReply.{ShardReply}
use Rattle.shard_machine.specs.Images.{NameFacts, live_in}
use Rattle.run_soundness.specs.Worlds.{World, Event, Run, IsEmpty, shard_of}
use Rattle.run_soundness.specs.Worlds.Event.{Call, Begin}

-- What the shards reply: the stream is made, and the message stored; the mirror is made, and asks; a consumer is made
-- for it, and answers; the mirror is bound; the consumer delivers the message; the mirror stores it.
pub record Replies : Type 0 where
  pub made : ShardReply
  pub stored : ShardReply
  pub mirrored : ShardReply
  pub answered : ShardReply
  pub bound : ShardReply
  pub pumped : ShardReply
  pub copied : ShardReply

-- the calls, at the shard of the stream on the hub and at that of the mirror on the leaf
abbrev pub events : List ℕ → List ℕ → Config → Config → Message → Packet → Packet → Packet → Replies → List Event
events hub leaf origin mirror message ask answer delivery r =
    Begin hub ∷ Begin leaf
    ∷ Call hub (shard_of origin.name) (call.Create origin 0) r.made
    ∷ Call hub (shard_of origin.name) (call.Publish origin.name message 0) r.stored
    ∷ Call leaf (shard_of mirror.name) (call.Create mirror 0) r.mirrored
    ∷ Call hub (shard_of origin.name) (call.MakeConsumer ask 0) r.answered
    ∷ Call leaf (shard_of mirror.name) (call.Heard answer 0) r.bound
    ∷ Call hub (shard_of origin.name) (call.Pump origin.name 4294967295 0) r.pumped
    ∷ Call leaf (shard_of mirror.name) (call.Heard delivery 0) r.copied ∷ []

-- From a world without nodes on, a message that was stored in a stream of the hub comes to be kept by its mirror on the
-- leaf, under its number.
pub record CopiedMessage : Type 0 where
  pub first : World
  pub last : World
  pub hub : List ℕ
  pub leaf : List ℕ
  pub origin : Config
  pub mirror : Config
  pub message : Message
  pub ask : Packet
  pub answer : Packet
  pub delivery : Packet
  pub replies : Replies
  pub empty : IsEmpty first
  pub run : Run first (events hub leaf origin mirror message ask answer delivery replies) last
  pub made : replies.made.outcome ≡ outcome.Made true
  pub stored : replies.stored.outcome ≡ outcome.Stored 1
  pub asks : replies.mirrored.packets ≡ ask ∷ []
  pub answers : replies.answered.packets ≡ answer ∷ []
  pub binds : replies.bound.outcome ≡ outcome.Heard (Binds (Bind 0 1 1))
  pub delivers : replies.pumped.packets ≡ delivery ∷ []
  pub copies : replies.copied.outcome ≡ outcome.Heard (Store (Put 1 message None))
  pub known : NameFacts
  pub stands : live_in (last.shard leaf (shard_of mirror.name)).held.image mirror.name ≡ Some known
  pub keeps : known.stream.rows ≡ (record { seq = 1; message = message }) ∷ []
