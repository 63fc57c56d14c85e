-- Calls that make a record: what is ready for them, and the record where it is in doubt.
use Rattle.std.proofs.Common.{◌≡◌, ℕ, ◌+◌, ◌<◌, ◌≤◌, ◌^◌, Bool, true, cond, List, [], ◌∷◌, ◌++◌, map, Option, Some, None, IsSome, refl, sym, ap, ◌∙◌, subst}
use Rattle.std.specs.Prelude.{Ok, filter, not}
use Rattle.std.proofs.lemmas.Bool.{ltb-true}
use Rattle.std.specs.FinMap.{FinMap, get, insert, get-insert}
use Rattle.std.specs.Ordering.{nat_cmp}
use Rattle.std.specs.Cmp.Lexicographic.{slice_cmp, nat_list_cmp_total, bytes_decides}
use Rattle.std.proofs.lemmas.Map.Text.{is_eq-slice_cmp}
use Rattle.stream_fold.specs.declared.config.Config.{Config}
use Rattle.stream_fold.specs.declared.decision.Decision.{Decision}
use Rattle.stream_fold.specs.declared.entry.Entry.{Entry}
use Rattle.stream_fold.specs.Facts.{facts, new_facts}
use Rattle.record_codec.specs.declared.records.Rec.{Rec}
use Rattle.record_codec.specs.declared.records.Rec.TheVariants.{Create, Remove, Of}
use Rattle.replica_ask.specs.Askers.{AskerState}
use Rattle.js_wire.specs.declared.packet.Packet.{Packet}
use Rattle.tap_row.specs.declared.notice.Notice.{Notice}
use Rattle.shard_machine.specs.declared.call.ShardCall.{ShardCall}
use Rattle.shard_machine.specs.declared.call.ShardCall.TheVariants as call
use Rattle.shard_machine.specs.declared.reply.Outcome.{Outcome}
use Rattle.shard_machine.specs.declared.reply.Outcome.TheVariants.{Removed}
use Rattle.shard_machine.specs.Images.{NameFacts, MayFollowImage, count_of, if_stands, incarnation_in, just_made, live_in}
use Rattle.shard_machine.specs.Views.{View, Effect, Copy, asks_of, copies_of, copies_under, idle_under, replied, writes}
use Rattle.shard_machine.specs.Answers.{Answers, creates, reads_stream, removes, with_record}
use Rattle.shard_machine.specs.Steps.{entry_of, has_number}
use Rattle.shard_streams.specs.declared.halves.PreparedCreate.{PreparedCreate}
use Rattle.shard_streams.specs.declared.halves.PreparedEntry.{PreparedEntry}
use Rattle.shard_streams.specs.Halves.{IsMadeReady, IsPrepared as IsEntryReady}
use Rattle.shard_streams.specs.Plans.{DoesWith, MakesStream, TakesStream, WritesEntry}
use Rattle.shard_copies.specs.Asked.{AskingState, AreKept, Asks, asked_of}
use Rattle.shard_table.specs.declared.answered.Prepared.{Prepared}
use Rattle.shard_table.specs.declared.answered.Prepared.TheVariants.{Writes, Stores, Binds, Makes, Takes}
use Rattle.shard_table.specs.declared.table.Table.{Table}
use Rattle.shard_table.specs.Answering.{record_in, HearsReady, IsPrepared, MakesReady, Prepares, TakesReady}
use Rattle.shard_table.specs.Holding.{Holds}

-- ---- a record in doubt

-- an entry that is ready is that of its record
pub entry-of-ready : (p : PreparedEntry) (name : List ℕ) (change : Entry) → p.rec ≡ Of name change → p.copy ≡ change → Some p.copy ≡ entry_of p.rec
entry-of-ready p name change is copied = ap Some copied ∙ sym (ap entry_of is)

-- The record of a prepared call is of a stream's history where an entry is ready, and else isn't
pub doubt-writes : (t : Table) (p : PreparedEntry) (what : Outcome) (v : View) (called : ShardCall) (e : Effect) → IsPrepared t (Writes p what) v called e → Some p.copy ≡ entry_of p.rec
doubt-writes t p what v called e h = entry-of-ready p h.name h.change h.ready.record_is h.ready.copied

pub doubt-stores : (t : Table) (p : PreparedEntry) (d : Decision) (v : View) (called : ShardCall) (e : Effect) → IsPrepared t (Stores p d) v called e → Some p.copy ≡ entry_of p.rec
doubt-stores t p d v called e h = entry-of-ready p h.hears.copy.stream h.change h.hears.ready.record_is h.hears.ready.copied

pub doubt-binds : (t : Table) (p : PreparedEntry) (d : Decision) (told : List Notice) (v : View) (called : ShardCall) (e : Effect) → IsPrepared t (Binds p d told) v called e → Some p.copy ≡ entry_of p.rec
doubt-binds t p d told v called e h = entry-of-ready p h.hears.copy.stream h.change h.hears.ready.record_is h.hears.ready.copied

pub doubt-makes : (t : Table) (p : PreparedCreate) (asking : AskingState) (v : View) (called : ShardCall) (e : Effect) → IsPrepared t (Makes p asking) v called e → None ≡ entry_of p.rec
doubt-makes t p asking v called e h = sym (ap entry_of h.ready.record_is)

pub doubt-takes : (t : Table) (name : List ℕ) (removal : Rec) (v : View) (called : ShardCall) (e : Effect) → IsPrepared t (Takes name removal) v called e → None ≡ entry_of removal
doubt-takes t name removal v called e h = sym (ap entry_of h.record_is)

-- ---- an entry

-- an entry that is to be written is ready
pub prepares-writes : (v : View) (called : ShardCall) (name : List ℕ) (entry : Entry) (what : Outcome) (p : PreparedEntry) (t : Table) → WritesEntry v called name entry what → IsEntryReady t.streams.replay p name entry → Holds t v → Prepares v called (Writes p what) t
prepares-writes v called name entry what p t w ready h = record {
  effect = writes v name w.known.stream entry what;
  answers = w.answers;
  one = ap (λ (r : Rec). r ∷ []) (sym ready.record_is);
  is_prepared = record { name = name; change = entry; known = w.known; stands = w.stands; ready = ready; does = refl };
  follows = λ opened numbered. subst (MayFollowImage v.image) (sym ready.record_is) (w.follows opened);
  same = h;
}

pub prepares-with : (v : View) (called : ShardCall) (name : List ℕ) (what : Outcome) (planned : Option Entry) (entry : Entry) (p : PreparedEntry) (t : Table) → DoesWith v called name what planned → planned ≡ Some entry → IsEntryReady t.streams.replay p name entry → Holds t v
    → Prepares v called (Writes p what) t
prepares-with v called name what planned entry p t d is ready h = prepares-writes v called name entry what p t (subst (DoesWith v called name what) is d) ready h

-- an entry is written of a stream that stands
pub plan-stands : (v : View) (called : ShardCall) (name : List ℕ) (what : Outcome) (planned : Option Entry) (entry : Entry) → DoesWith v called name what planned → planned ≡ Some entry → IsSome (live_in v.image name)
plan-stands v called name what planned entry d is = let w : WritesEntry v called name entry what = subst (DoesWith v called name what) is d in subst IsSome (sym w.stands) refl

-- ---- a stream that is made

get-own : {X : Type 0} (m : FinMap (slice_cmp nat_cmp) X) (k : List ℕ) (x : X) → get (insert m k x) k ≡ Some x
get-own m k x = get-insert nat_list_cmp_total m k x k ∙ ap (λ (b : Bool). cond b (Some x) (get m k)) (is_eq-slice_cmp k k ∙ (bytes_decides k k).1 refl)

-- the stream stands once its record has joined the log
pub live-made : (v : View) (c : Config) (now : ℕ) → live_in (with_record v (Create now c)).image c.name ≡ Some (just_made now c (incarnation_in v.image c.name))
live-made v c now = ap if_stands (get-own v.image.names c.name (just_made now c (incarnation_in v.image c.name)))

-- its copies are those of its configuration
pub copies-made : (v : View) (c : Config) (now : ℕ) → copies_under (with_record v (Create now c)).image c.name ≡ copies_of c.name (facts (record { config = c; entries = [] }))
copies-made v c now = ap copies_if (live-made v c now)
  where
    copies_if : Option NameFacts → List Copy
    copies_if None = []
    copies_if (Some known) = copies_of c.name known.stream

-- a stream is ready, and what its copies ask
pub prepares-makes : (v : View) (c : Config) (now : ℕ) (p : PreparedCreate) (before asking : AskingState) (t : Table) → MakesStream v c now → IsMadeReady t.streams.replay p c now → AreKept t.askers asking → before.packets ≡ [] → before.askers ≡ []
    → Asks before asking (with_record v (Create now c)) now (copies_of c.name (facts (record { config = c; entries = [] }))) → Holds t v → Prepares v (call.Create c now) (Makes p asking) t
prepares-makes v c now p before asking t m ready kept no_packets no_askers asks h =
    let w : View = with_record v (Create now c) in
    let copies : copies_of c.name (facts (record { config = c; entries = [] })) ≡ copies_under w.image c.name = sym (copies-made v c now) in
    record {
      effect = creates v c now;
      answers = m.answers;
      one = ap (λ (r : Rec). r ∷ []) (sym ready.record_is);
      is_prepared = record {
        config = c;
        now = now;
        ready = ready;
        kept = kept;
        packets = asks.packets ∙ (ap (λ (l : List Packet). l ++ asks_of w (copies_of c.name (facts (record { config = c; entries = [] })))) no_packets ∙ ap (asks_of w) copies);
        asked = asks.askers ∙ (ap (λ (l : List AskerState). l ++ map (asked_of w now) (copies_of c.name (facts (record { config = c; entries = [] })))) no_askers ∙ ap (map (asked_of w now)) copies);
        does = refl;
      };
      follows = λ opened numbered. subst (MayFollowImage v.image) (sym ready.record_is) (m.follows opened (ltb-true (incarnation_in v.image c.name + 1) (2 ^ 63) (ap (has_number v.image) (sym ready.record_is) ∙ numbered)));
      same = h;
    }

-- ---- a stream that goes

abbrev goes : View → List ℕ → Effect
goes v name = record {
  reply = replied Removed None [] [];
  records = Remove name ∷ [];
  given = v.given;
  consumers = filter (λ c. not (reads_stream name c)) v.consumers;
  askers = idle_under name v.askers;
}

-- a stream is ready to go
pub prepares-takes : (v : View) (name : List ℕ) (t : Table) → TakesStream v name → Holds t v → Prepares v (call.Remove name) (Takes name (Remove name)) t
prepares-takes v name t takes h = record {
  effect = goes v name;
  answers = ap (removes v name) (sym takes.stands);
  one = refl;
  is_prepared = record { known = takes.known; stands = takes.stands; record_is = refl; does = refl };
  follows = λ opened numbered. takes.follows opened;
  same = h;
}
