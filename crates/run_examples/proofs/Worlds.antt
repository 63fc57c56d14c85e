-- Worlds in which one shard after another changes.
use Rattle.std.proofs.Common.{◌≡◌, ℕ, ◌<◌, Bool, true, false, cond, ◌&&◌, eqb, List, ◌++◌, refl, sym, ap, subst, ◌⊎◌, inl, inr}
use Rattle.std.specs.Prelude.{Contains}
use Rattle.std.specs.Str.{bytes_eq}
use Rattle.std.specs.Cmp.Lexicographic.{bytes_decides}
use Rattle.std.proofs.lemmas.Bool.{and_parts, and_from, eqb-true, eq-eqb}
use Rattle.js_wire.specs.declared.packet.Packet.{Packet}
use Rattle.shard_machine.specs.declared.call.ShardCall.{ShardCall}
use Rattle.shard_machine.specs.declared.reply.ShardReply.{ShardReply}
use Rattle.run_soundness.specs.Shards.{ShardState, Moves}
use Rattle.run_soundness.specs.Worlds.{World, MayCall, OnlyShard, Calls}

-- the world once a shard of a node has become this one, and these packets were sent
abbrev pub with_shard : World → List ℕ → ℕ → ShardState → List Packet → World
with_shard w node k s sent = record { nodes = w.nodes; joined = w.joined; shard = λ n j. cond (bytes_eq n node && eqb j k) s (w.shard n j); bag = w.bag ++ sent }

pub here : (w : World) (node : List ℕ) (k : ℕ) (s : ShardState) (sent : List Packet) → (with_shard w node k s sent).shard node k ≡ s
here w node k s sent = ap (λ t. cond t s (w.shard node k)) (and_from (bytes_eq node node) (eqb k k) ((bytes_decides node node).1 refl) (eq-eqb k k refl))

pub elsewhere : (w : World) (node : List ℕ) (k : ℕ) (s : ShardState) (sent : List Packet) (n : List ℕ) (j : ℕ) → bytes_eq n node ≡ false → (with_shard w node k s sent).shard n j ≡ w.shard n j
elsewhere w node k s sent n j e = ap (λ t. cond (t && eqb j k) s (w.shard n j)) e

others : (w : World) (node : List ℕ) (k : ℕ) (s : ShardState) (sent : List Packet) → OnlyShard w.shard node k (with_shard w node k s sent).shard
others w node k s sent n j = by (bytes_eq n node && eqb j k) refl
  where
    by : (t : Bool) → (bytes_eq n node && eqb j k) ≡ t → ((n ≡ node) × (j ≡ k)) ⊎ (cond t s (w.shard n j) ≡ w.shard n j)
    by true e = let q = and_parts (bytes_eq n node) (eqb j k) e in inl ((bytes_decides n node).0 q.0, eqb-true j k q.1)
    by false e = inr refl

pub calls : (w : World) (node : List ℕ) (k : ℕ) (c : ShardCall) (reply : ShardReply) (old new : ShardState) → Contains w.nodes node → k < 8 → MayCall w.bag c node k → w.shard node k ≡ old → Moves old c reply new
    → Calls w node k c reply (with_shard w node k new reply.packets)
calls w node k c reply old new there eight may at moved = record {
  there = there;
  eight = eight;
  may = may;
  moves = subst (λ (s : ShardState). Moves s c reply ((with_shard w node k new reply.packets).shard node k)) (sym at) (subst (λ (s : ShardState). Moves old c reply s) (sym (here w node k new reply.packets)) moved);
  others = others w node k new reply.packets;
  bag = refl;
  nodes = refl;
  joined = refl;
}
