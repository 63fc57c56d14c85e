use Rattle.std.proofs.Common.{◌≡◌, Option, None, Some, refl, rules, sym, ◌∙◌, subst}
use Rattle.log_replay.specs.declared.replay.Known.{Known}
use Rattle.log_replay.specs.Replays.{found}
use Rattle.log_replay.proofs.MapSteps.{Puts, puts}
use Rattle.shard_streams.specs.Places.{IsFree}
use Rattle.shard_streams.proofs.Making.{none_held, place_holds, placed}
use Rattle.shard_streams.proofs.streams.Streams.make_place.Goals as goal

pub returns : goal.returns
returns c =
    let here : found c.args.name.now c.args.self.now.replay.names ≡ None = rw (← c.bytes.ensures.value) (none_held _ (sym c.contains_key.ensures ∙ c.if-contains_key.false)) in
    let same : c.in_ok-key.key.items ≡ c.args.name.now = search rules in
    let place : Known = record { incarnation = 0; stream = None } in
    let wrote : Puts c.args.name.now (Some place) c.args.self.now.replay.names c.insert.new.self = subst (λ n. Puts n (Some place) c.args.self.now.replay.names c.insert.new.self) same (puts c.in_ok-key.key.items (Some place) c.args.self.now.replay.names c.insert.new.self c.in_ok-insert.ensures.updates) in
    record {
      held = λ i h. place_holds c.args.self.now.replay _ i c.args.name.now place h here refl wrote refl refl;
      ok = subst (λ (o : Option Known). IsFree o) (sym (placed c.args.name.now (Some place) c.args.self.now.replay.names c.insert.new.self wrote)) refl;
    }
