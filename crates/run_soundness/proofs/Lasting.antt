-- What shards say of streams and of consumers goes on through each run.
use Rattle.std.proofs.Common.{ℕ, ◌<◌, List, [], ◌∷◌, sym, ap, subst, inl, inr}
use Rattle.shard_machine.specs.declared.call.ShardCall.{ShardCall}
use Rattle.shard_machine.specs.declared.reply.ShardReply.{ShardReply}
use Rattle.shard_machine.specs.declared.reply.ShardRefusal.TheVariants as refusal
use Rattle.shard_machine.specs.Steps.{refused}
use Rattle.run_soundness.specs.Worlds.{World, OnlyNode, Calls, Crashes, Event, Happens, Run}
use Rattle.run_soundness.specs.Worlds.Event.{Call, Cut, Join, Crash, CrashWithin, Begin}
use Rattle.run_soundness.proofs.Invariant.{Inv}
use Rattle.run_soundness.specs.Below.{Laws}
use Rattle.run_soundness.proofs.Runs.{Inv-event}
use Rattle.run_soundness.proofs.ShardsGrow.{ShardGrows, grows-same, grows-trans, grows-loads, grows-rests, grows-step}

-- all shards go on
abbrev pub AllGrow : World → World → Type 0
AllGrow w v = (n : List ℕ) (k : ℕ) → ShardGrows (w.shard n k) (v.shard n k)

calls-grow : Laws → (w v : World) (n : List ℕ) (k : ℕ) (c : ShardCall) (reply : ShardReply) → Inv w → Calls w n k c reply v → AllGrow w v
calls-grow laws w v n k c reply inv x m j = elim (x.others m j) [
  | inl here ↦ subst (λ y. ShardGrows (w.shard y j) (v.shard y j)) (sym here.0) (subst (λ y. ShardGrows (w.shard n y) (v.shard n y)) (sym here.1) (grows-step laws (w.shard n k) c reply (v.shard n k) (inv.shards n k) x.moves))
  | inr same ↦ grows-same laws (w.shard m j) (v.shard m j) (inv.shards m j) same
]

node-grows : Laws → (w v : World) (n : List ℕ) → Inv w → OnlyNode w.shard n v.shard → ((k : ℕ) → k < 8 → ShardGrows (w.shard n k) (v.shard n k)) → AllGrow w v
node-grows laws w v n inv o f m j = elim (o m j) [
  | inl here ↦ subst (λ y. ShardGrows (w.shard y j) (v.shard y j)) (sym here.0) (f j here.1)
  | inr same ↦ grows-same laws (w.shard m j) (v.shard m j) (inv.shards m j) same
]

crash-grows : Laws → (w v : World) (n : List ℕ) → Inv w → Crashes w n v → (k : ℕ) → k < 8 → ShardGrows (w.shard n k) (v.shard n k)
crash-grows laws w v n inv c k lt = elim (c.shards k lt) [
  | inl l ↦ grows-loads laws (w.shard n k) (v.shard n k) (inv.shards n k) l
  | inr r ↦ grows-rests laws (w.shard n k) (v.shard n k) (inv.shards n k) r
]

pub event-grows : Laws → (w : World) (e : Event) (v : World) → Inv w → Happens w e v → AllGrow w v
event-grows laws w (Call n k c reply) v inv h = calls-grow laws w v n k c reply inv h
event-grows laws w (Cut n) v inv h = λ m j. grows-same laws (w.shard m j) (v.shard m j) (inv.shards m j) (h.shards m j)
event-grows laws w (Join n) v inv h = λ m j. grows-same laws (w.shard m j) (v.shard m j) (inv.shards m j) (h.shards m j)
event-grows laws w (Crash n) v inv h = node-grows laws w v n inv h.others (crash-grows laws w v n inv h)
event-grows laws w (CrashWithin n k c) v inv h = calls-grow laws w v n k c (refused c refusal.DiskFault h.doubted) inv h.calls
event-grows laws w (Begin n) v inv h = node-grows laws w v n inv h.others (λ k lt. grows-loads laws (w.shard n k) (v.shard n k) (inv.shards n k) (h.shards k lt))

pub run-grows : Laws → (w : World) (events : List Event) (v : World) → Inv w → Run w events v → AllGrow w v
run-grows laws w [] v inv r n k = grows-same laws (w.shard n k) (v.shard n k) (inv.shards n k) (ap (λ (x : World). x.shard n k) r)
run-grows laws w (e ∷ events) v inv r n k = grows-trans (w.shard n k) (r.0.shard n k) (v.shard n k) (event-grows laws w e r.0 inv r.1 n k) (run-grows laws r.0 events v (Inv-event laws w e r.0 inv r.1) r.2 n k)
