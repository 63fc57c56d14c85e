-- What is sent at a refusal, call by call.
use Rattle.std.proofs.Common.{◌≡◌, ℕ, List, [], Option, refl}
use Rattle.js_wire.specs.declared.packet.Packet.{Packet}
use Rattle.shard_machine.specs.declared.call.ShardCall.{ShardCall}
use Rattle.shard_machine.specs.declared.call.ShardCall.TheVariants as call
use Rattle.shard_machine.specs.declared.reply.ShardRefusal.{ShardRefusal}
use Rattle.shard_machine.specs.declared.reply.ShardRefusal.TheVariants as refusal
use Rattle.shard_machine.specs.Refusing.{told_with, call_told}
use Rattle.shard_machine.specs.Steps.{refusal_packets, refused_packets}

-- an asker is told by these numbers, so that a call sends what they say
pub by-numbers : (c : ShardCall) (why : ShardRefusal) (numbers : Option (ℕ × ℕ)) → ((ask : Packet) → refusal_packets ask why ≡ told_with ask numbers) → refused_packets c why ≡ call_told c numbers
by-numbers (call.Create config now) why numbers told = refl
by-numbers (call.Update config) why numbers told = refl
by-numbers (call.Remove name) why numbers told = refl
by-numbers (call.Publish name message now) why numbers told = refl
by-numbers (call.Delete name seq) why numbers told = refl
by-numbers (call.Purge name pattern below) why numbers told = refl
by-numbers (call.Expire name now) why numbers told = refl
by-numbers (call.Get name which) why numbers told = refl
by-numbers (call.Info name) why numbers told = refl
by-numbers call.Names why numbers told = refl
by-numbers (call.MakeConsumer ask now) why numbers told = told ask
by-numbers (call.Pump name budget now) why numbers told = refl
by-numbers (call.FlowReply packet) why numbers told = refl
by-numbers (call.Reach node there now) why numbers told = refl
by-numbers (call.Heard packet now) why numbers told = refl
by-numbers (call.Tick now) why numbers told = refl
by-numbers call.LinkLost why numbers told = refl

-- no asker is told of want of memory
pub none-of-memory : (c : ShardCall) → refused_packets c refusal.NoMemory ≡ []
none-of-memory (call.Create config now) = refl
none-of-memory (call.Update config) = refl
none-of-memory (call.Remove name) = refl
none-of-memory (call.Publish name message now) = refl
none-of-memory (call.Delete name seq) = refl
none-of-memory (call.Purge name pattern below) = refl
none-of-memory (call.Expire name now) = refl
none-of-memory (call.Get name which) = refl
none-of-memory (call.Info name) = refl
none-of-memory call.Names = refl
none-of-memory (call.MakeConsumer ask now) = refl
none-of-memory (call.Pump name budget now) = refl
none-of-memory (call.FlowReply packet) = refl
none-of-memory (call.Reach node there now) = refl
none-of-memory (call.Heard packet now) = refl
none-of-memory (call.Tick now) = refl
none-of-memory call.LinkLost = refl

-- nor of a fault of a disk
pub none-of-fault : (c : ShardCall) → refused_packets c refusal.DiskFault ≡ []
none-of-fault (call.Create config now) = refl
none-of-fault (call.Update config) = refl
none-of-fault (call.Remove name) = refl
none-of-fault (call.Publish name message now) = refl
none-of-fault (call.Delete name seq) = refl
none-of-fault (call.Purge name pattern below) = refl
none-of-fault (call.Expire name now) = refl
none-of-fault (call.Get name which) = refl
none-of-fault (call.Info name) = refl
none-of-fault call.Names = refl
none-of-fault (call.MakeConsumer ask now) = refl
none-of-fault (call.Pump name budget now) = refl
none-of-fault (call.FlowReply packet) = refl
none-of-fault (call.Reach node there now) = refl
none-of-fault (call.Heard packet now) = refl
none-of-fault (call.Tick now) = refl
none-of-fault call.LinkLost = refl
