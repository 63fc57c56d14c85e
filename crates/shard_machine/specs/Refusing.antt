-- What is sent at a refusal, by the numbers of the JetStream API with which it is told.
use Rattle.std.specs.Prelude.{ℕ, List, [], Option, None, Some}
use Rattle.js_wire.specs.declared.packet.Packet.{Packet}
use Rattle.shard_machine.specs.declared.call.ShardCall.{ShardCall}
use Rattle.shard_machine.specs.declared.call.ShardCall.TheVariants as call
use Rattle.shard_machine.specs.Steps.{refuse_with}

-- an asker is told these numbers, or nothing
abbrev pub told_with : Packet → Option (ℕ × ℕ) → List Packet
told_with ask None = []
told_with ask (Some numbers) = refuse_with ask numbers.0 numbers.1

-- what a call sends that is refused with these numbers
abbrev pub call_told : ShardCall → Option (ℕ × ℕ) → List Packet
call_told (call.Create config now) numbers = []
call_told (call.Update config) numbers = []
call_told (call.Remove name) numbers = []
call_told (call.Publish name message now) numbers = []
call_told (call.Delete name seq) numbers = []
call_told (call.Purge name pattern below) numbers = []
call_told (call.Expire name now) numbers = []
call_told (call.Get name which) numbers = []
call_told (call.Info name) numbers = []
call_told call.Names numbers = []
call_told (call.MakeConsumer ask now) numbers = told_with ask numbers
call_told (call.Pump name budget now) numbers = []
call_told (call.FlowReply packet) numbers = []
call_told (call.Reach node there now) numbers = []
call_told (call.Heard packet now) numbers = []
call_told (call.Tick now) numbers = []
call_told call.LinkLost numbers = []
