-- What a step of a shard does to the log for which the shard stands.
use Rattle.std.specs.Prelude.{◌≡◌, List, ◌++◌}
use Rattle.record_codec.specs.declared.records.Rec.{Rec}
use Rattle.shard_machine.specs.declared.call.ShardCall.{ShardCall}
use Rattle.shard_machine.specs.declared.reply.ShardReply.{ShardReply}
use Rattle.shard_machine.specs.Images.{image, image_after}
use Rattle.shard_machine.specs.Steps.{Held, Step}

-- the records of a step lead from the image that is held before it to the one that is held after it
abbrev pub StepsLead : Type 0
StepsLead = (old new : Held) (c : ShardCall) (reply : ShardReply) (records : List Rec) → Step old c reply records new → new.image ≡ image_after old.image records

-- so for each log of which a shard holds the image it holds, after a step, that of the log with the
-- step's records
abbrev pub StepsFollowLogs : Type 0
StepsFollowLogs = (old new : Held) (c : ShardCall) (reply : ShardReply) (records log : List Rec) → Step old c reply records new → old.image ≡ image log → new.image ≡ image (log ++ records)
