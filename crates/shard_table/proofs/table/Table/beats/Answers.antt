use Rattle.std.proofs.Common.{◌≡◌, List, ◌++◌, take, sym, ap, ◌∙◌}
use Rattle.std.specs.Prelude.{flat_map}
use Rattle.std.proofs.lemmas.List.{take_all}
use Rattle.js_wire.specs.declared.packet.Packet.{Packet}
use Rattle.shard_machine.specs.Answers.{beats_of}
use Rattle.shard_table.proofs.Asking.{listed-more}
use Rattle.shard_table.proofs.Doing.{shows-consumers}
use Rattle.shard_table.proofs.table.Table.beats.Goals as goal

pub loop-name-init : goal.loop-name-init
loop-name-init c = record { items = λ v held. c.as_slice-name-items.ensures ∙ c.in_ok-names.ensures v.image held.streams; beats = λ v held. c.new-beats.ensures }

pub loop-name-preserved : goal.loop-name-preserved
loop-name-preserved c = record {
  items = c.loop-name.invariant.items;
  beats = λ v held.
      let f = beats_of v c.args.now in
      let name = c.name-item.result in
      let names = c.as_slice-name-items.result.now in
      c.in_ok-add_beats.ensures v (shows-consumers c.args.self.now v held)
      ∙ (ap (λ (l : List Packet). l ++ f name) (c.loop-name.invariant.beats v held)
      ∙ sym (listed-more f names c.loop-name.name-index name c.loop-name-test.true c.name-item.is));
}

pub returns : goal.returns
returns c = λ v held.
    let names = c.as_slice-name-items.result.now in
    c.loop-name.invariant.beats v held ∙ ap (flat_map (beats_of v c.args.now)) (take_all c.loop-name.name-index names c.loop-name-test.false ∙ c.loop-name.invariant.items v held)
