-- What a table holds that answered or did a call, within what a shard keeps in memory.
use Rattle.std.proofs.Common.{◌≡◌, ◌≤◌, Bool, true, false, List, Result, Ok, Err, refl, sym, subst, arith, ◌∙◌}
use Rattle.std.specs.Prelude.{IfOk}
use Rattle.record_codec.specs.declared.records.Rec.{Rec}
use Rattle.record_codec.specs.declared.records.Rec.TheVariants.{Boot, Create, Remove, Of}
use Rattle.shard_machine.specs.Images.{LogImage, MayFollowImage, image_after, next}
use Rattle.shard_machine.specs.Steps.{Held, has_number, view_in}
use Rattle.shard_machine.specs.Views.{View, Effect}
use Rattle.shard_machine.specs.declared.call.ShardCall.{ShardCall}
use Rattle.shard_machine.specs.declared.reply.ShardRefusal.{ShardRefusal}
use Rattle.shard_table.specs.Answering.{Gives, record_in}
use Rattle.shard_table.specs.Effects.{effected}
use Rattle.shard_table.specs.Holding.{Holds}
use Rattle.shard_table.specs.declared.answered.Answered.{Answered}
use Rattle.shard_table.specs.declared.answered.Answered.TheVariants.{Done, Append}
use Rattle.shard_table.specs.declared.answered.Prepared.{Prepared}
use Rattle.shard_table.specs.declared.table.Table.{Table}
use Rattle.shard_calls.specs.Memories.{IsOpened, IsWhole, ShardState}
use Rattle.shard_calls.specs.PreparedCalls.{IsReadyIn, IsReadyToAppend}
use Rattle.shard_calls.specs.Shards.{Keeps, KeepsIf}

-- a table of a shard holds some view
pub some-view : (loaded : Bool) (t : Table) → IsWhole loaded t → (v : View) × Holds t v
some-view true t w = (w.view, w.holds)
some-view false t w = w

-- what an opened table holds has an opening
pub as-opened : (loaded : Bool) (t : Table) → loaded ≡ true → IsWhole loaded t → IsOpened t
as-opened true t on w = w
as-opened false t on w = absurd (cc)

pub as-whole : (loaded : Bool) (t : Table) → loaded ≡ true → IsOpened t → IsWhole loaded t
as-whole loaded t on w = subst (λ (b : Bool). IsWhole b t) (sym on) w

-- a table that answered a call is opened still
pub gives-opened : (v : View) (c : ShardCall) (result : Result Answered ShardRefusal) (new : Table) → 1 ≤ v.image.boot → Gives v c result new → IsOpened new
gives-opened v c (Ok (Done reply)) new booted g = record { view = effected v g.effect; holds = g.becomes; booted = subst (λ (rs : List Rec). 1 ≤ (image_after v.image rs).boot) (sym g.none) booted }
gives-opened v c (Ok (Append prepared)) new booted g = record { view = v; holds = g.same; booted = booted }
gives-opened v c (Err why) new booted g = record { view = v; holds = g.1; booted = booted }

-- and what it prepared is ready
pub gives-ready : (v : View) (c : ShardCall) (result : Result Answered ShardRefusal) (new : Table) → 1 ≤ v.image.boot → Gives v c result new → IfOk result (IsReadyToAppend new c)
gives-ready v c (Ok (Done reply)) new booted g = tt
gives-ready v c (Ok (Append prepared)) new booted g = (v, g.effect, record { holds = g.same; booted = booted; answers = g.answers; one = g.one; is_prepared = g.is_prepared; follows = g.follows booted })
gives-ready v c (Err why) new booted g = tt

next-booted : (i : LogImage) (r : Rec) → 1 ≤ i.boot → MayFollowImage i r → 1 ≤ (next i r).boot
next-booted i (Boot number) booted may = omega (arith, may.0)
next-booted i (Create time config) booted may = booted
next-booted i (Remove name) booted may = booted
next-booted i (Of name entry) booted may = booted

-- a table that did what was prepared is opened still
pub commits-opened : (t new : Table) (prepared : Prepared) (c : ShardCall) (v : View) (e : Effect) → IsReadyIn t prepared c v e → has_number v.image (record_in prepared) ≡ true → Holds new (effected v e) → IsOpened new
commits-opened t new prepared c v e ready number holds = record {
  view = effected v e;
  holds = holds;
  booted = subst (λ (rs : List Rec). 1 ≤ (image_after v.image rs).boot) (sym ready.one) (next-booted v.image (record_in prepared) ready.booted (ready.follows number));
}

-- ---- what a shard keeps

-- its table holds a view of the image
pub kept-view : {D : Type 0} (s : ShardState D) (h : Held) → Keeps s h → (v : View) × Holds s.memory.table v × (v.image ≡ h.image)
kept-view s h keeps = by s.memory.loaded keeps.parts
  where
    by : (b : Bool) → KeepsIf b s h → (v : View) × Holds s.memory.table v × (v.image ≡ h.image)
    by true parts = (view_in h, parts.2, refl)
    by false parts = (parts.1, parts.2, parts.4)

-- that of a loaded shard holds all that is held
pub kept-table : {D : Type 0} (s : ShardState D) (h : Held) → Keeps s h → h.loaded ≡ true → Holds s.memory.table (view_in h)
kept-table s h keeps on = (subst (λ (b : Bool). KeepsIf b s h) (sym keeps.loaded ∙ on) keeps.parts).2
