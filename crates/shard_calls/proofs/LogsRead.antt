-- What comes of a call whose shard loads first, by what its parts do.
use Rattle.record_codec.specs.declared.records.Rec.{Rec}
use Rattle.record_log.specs.LogStates.{LogState}
use Rattle.record_log.specs.declared.fault.OpenFault.TheVariants as open_as
use Rattle.record_log.specs.declared.fault.OpenFault.{OpenFault}
use Rattle.shard_calls.proofs.CallSteps.{Replies}
use Rattle.shard_calls.proofs.ShardMoves.{keeps-unloaded}
use Rattle.shard_calls.specs.Failing.{failure}
use Rattle.shard_calls.specs.FirstLoads.{has_opening}
use Rattle.shard_calls.specs.LogsRead.{CannotRead, IsLoadFault, StepsFromRead, opening_doubted}
use Rattle.shard_calls.specs.Memories.{MemoryParts, ShardState, at}
use Rattle.shard_calls.specs.Shards.{Keeps, KeepsIf}
use Rattle.shard_machine.specs.Images.{image}
use Rattle.shard_machine.specs.Legal.{IsLegal}
use Rattle.shard_machine.specs.Steps.{Held, entry_in_doubt, next_boot}
use Rattle.shard_machine.specs.declared.call.ShardCall.{ShardCall}
use Rattle.shard_machine.specs.declared.reply.ShardRefusal.TheVariants as refusal
use Rattle.shard_machine.specs.declared.reply.ShardRefusal.{ShardRefusal}
use Rattle.shard_machine.specs.declared.reply.ShardReply.{ShardReply}
use Rattle.shard_table.specs.Effects.{opened}
use Rattle.shard_table.specs.Holding.{Holds}
use Rattle.std.proofs.Common.{Bool, List, None, Option, Some, false, inl, inr, refl, subst, sym, true, ◌∙◌, ◌≡◌}
use Rattle.stream_fold.specs.declared.entry.Entry.{Entry}

-- what a shard keeps that isn't loaded
abbrev pub kept-off : {D : Type 0} (m : MemoryParts) (l : LogState D) (h : Held) → Keeps (at m l) h → h.loaded ≡ false → KeepsIf false (at m l) h
kept-off m l h keeps off = subst (λ (b : Bool). KeepsIf b (at m l) h) (sym keeps.loaded ∙ off) keeps.parts

-- nothing came of the load
pub stays-unread : {D : Type 0} (new : ShardState D) (h : Held) (why : ShardRefusal) (doubted : Option Entry) → Keeps new h → IsLoadFault h why doubted → CannotRead h why doubted new
stays-unread new h why doubted keeps fault = record { after = h; stays = inl refl; fault = fault; keeps = keeps }

-- what kept the disks from being read
pub open-fault : (h : Held) (fault : OpenFault) (doubted : Option Entry) → doubted ≡ entry_in_doubt h.doubt → IsLoadFault h (failure fault doubted).why (failure fault doubted).doubted
open-fault h open_as.ReadFault doubted is = is
open-fault h open_as.SyncFault doubted is = is
open-fault h (open_as.BadJournal place) doubted is = refl
open-fault h (open_as.TooLong len) doubted is = refl
open-fault h open_as.NoMemory doubted is = refl

-- a disk failed while the opening was appended
pub opening-in-doubt : {D : Type 0} (m new : MemoryParts) (l l' : LogState D) (h : Held) (log : List Rec) (keeps : Keeps (at m l) h) (off : h.loaded ≡ false) → IsLegal log → has_opening log ≡ true
    → new.loaded ≡ false → new.doubt ≡ Some (next_boot (image log)) → Holds new.table (opened (kept-off m l h keeps off).1.node (image log)) → CannotRead h refusal.DiskFault None (at new l')
opening-in-doubt m new l l' h log keeps off legal room off' doubt holds = record {
  after = opening_doubted h log;
  stays = inr (log, legal, room, refl);
  fault = refl;
  keeps = keeps-unloaded (at new l') (opening_doubted h log) (opened (kept-off m l h keeps off).1.node (image log)) off' off (sym doubt) holds (kept-off m l h keeps off).3 refl;
}

-- a call is refused by what kept the shard from loading
pub refused-unread : {D : Type 0} (c : ShardCall) (why : ShardRefusal) (doubted : Option Entry) (reply : ShardReply) (new : ShardState D) (h : Held) → Replies c why doubted reply → CannotRead h why doubted new → StepsFromRead c reply new h
refused-unread c why doubted reply new h replies r = elim replies [
  | inl is ↦ inl (why, doubted, is, r)
  | inr short ↦ inl (refusal.NoMemory, None, short.1, record { after = r.after; stays = r.stays; fault = refl; keeps = r.keeps })
]
