-- The consumers of a shard that stand, and how the answers of the shard are told of them.
use Rattle.std.specs.Prelude.{◌≡◌, ℕ, ◌+◌, List, [], ◌∷◌, Option, None, Some, Ok, Err}
use Rattle.nats_text.specs.declared.message.Stamp.{Stamp}
use Rattle.js_wire.specs.declared.packet.Packet.{Packet}
use Rattle.js_wire.specs.declared.packet.Packet.TheVariants.{Answer}
use Rattle.push_consumer.specs.declared.wanted.Wanted.{Wanted}
use Rattle.push_consumer.specs.Progress.{ConsumerState}
use Rattle.shard_machine.specs.declared.reply.ShardRefusal.{ShardRefusal}
use Rattle.shard_machine.specs.Views.{View, Effect}
use Rattle.shard_machine.specs.Answers.{Answered}

-- The number of the shard's last opening, how many consumers were made since, and those that stand, in the
-- order of their names.
pub record ConsumersState : Type 0 where
  pub boot : ℕ
  pub given : ℕ
  pub all : List ConsumerState

-- The consumers are those of a view.
pub record ShowsConsumers (s : ConsumersState) (v : View) : Type 0 where
  pub boot : s.boot ≡ v.image.boot
  pub given : s.given ≡ v.given
  pub all : s.all ≡ v.consumers

-- no consumer was made since the opening of this number
abbrev pub no_consumers : ℕ → ConsumersState
no_consumers number = record { boot = number; given = 0; all = [] }

-- others stand, or the same ones changed
abbrev pub with_all : ConsumersState → List ConsumerState → ConsumersState
with_all s consumers = record { boot = s.boot; given = s.given; all = consumers }

-- the name of the next consumer
abbrev pub next_stamp : ConsumersState → Stamp
next_stamp s = record { boot = s.boot; count = s.given + 1 }

-- the answer to the copy for which a consumer of this name was made
abbrev pub answer_to : Stamp → ℕ → Wanted → Packet
answer_to consumer incarnation what = Answer what.asker what.attempt consumer incarnation what.start

-- the refusal, where there is one, and else this effect
abbrev pub refused_or : Option ShardRefusal → Effect → Answered
refused_or None e = Ok e
refused_or (Some why) e = Err why
