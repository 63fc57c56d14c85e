use Rattle.std.proofs.Common.{◌≡◌, ◌∷◌, [], ◌++◌, List, map, take, sym, ap, ◌∙◌}
use Rattle.std.specs.Prelude.{flat_map}
use Rattle.js_wire.specs.declared.packet.Packet.{Packet}
use Rattle.push_consumer.specs.Progress.{ConsumerState}
use Rattle.push_consumer.specs.Pumps.{pump_packets, pumped}
use Rattle.shard_machine.specs.Answers.{consumers_of}
use Rattle.shard_copies.proofs.Beating.{pump-one, change-one, none-more}
use Rattle.shard_copies.proofs.pumps.pumped_of.Goals as goal
use Rattle.shard_copies.proofs.pumps.pumped_of.Goals.{then-reads+in_ok-next+in_ok-pump+in_ok-add_all+in_ok-push, else-reads}

pub loop-consumer-preserved : goal.loop-consumer-preserved
loop-consumer-preserved c =
    let rows = c.args.state.now.held.rows in
    let f = pump_packets rows c.args.budget in
    let g = pumped rows c.args.budget c.args.now in
    let name = c.args.name.now in
    let all = c.args.all.now in
    let i = c.loop-consumer.consumer-index in
    let x = c.consumer-item.result in
    elim c.if-reads.branch [
      | then-reads+in_ok-next+in_ok-pump+in_ok-add_all+in_ok-push w ↦
          let passes = sym c.reads.ensures ∙ w.if-reads.true in
          record {
            packets =
                w.packets-is ∙ (w.in_ok-add_all.ensures
                ∙ (ap (λ (l : List Packet). l ++ w.in_ok-pump.field-0) c.loop-consumer.invariant.packets
                ∙ (ap (λ (l : List Packet). flat_map f (consumers_of name (take i all)) ++ l) (w.in_ok-pump.ensures.packets ∙ ap f w.in_ok-next.ensures)
                ∙ sym (pump-one name all i x c.loop-consumer-test.true c.consumer-item.is f passes))));
            consumers =
                ap (λ v. v.items) w.consumers-is ∙ (w.in_ok-push.ensures.items
                ∙ (ap (λ (l : List ConsumerState). l ++ w.pump.new.self ∷ []) c.loop-consumer.invariant.consumers
                ∙ (ap (λ (y : ConsumerState). map g (consumers_of name (take i all)) ++ y ∷ []) (w.in_ok-pump.ensures.after ∙ ap g w.in_ok-next.ensures)
                ∙ sym (change-one name all i x c.loop-consumer-test.true c.consumer-item.is g passes))));
          }
      | else-reads w ↦
          let none = none-more name all i x c.loop-consumer-test.true c.consumer-item.is (sym c.reads.ensures ∙ w.if-reads.false) in
          record {
            packets = w.packets-is ∙ (c.loop-consumer.invariant.packets ∙ sym (ap (flat_map f) none));
            consumers = ap (λ v. v.items) w.consumers-is ∙ (c.loop-consumer.invariant.consumers ∙ sym (ap (map g) none));
          }
    ]
