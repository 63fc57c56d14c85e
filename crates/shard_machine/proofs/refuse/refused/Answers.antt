use Rattle.std.proofs.Common.{◌≡◌, ◌≢◌, List, [], inl, inr, sym, ap, ◌∙◌}
use Rattle.js_wire.specs.declared.packet.Packet.{Packet}
use Rattle.std.specs.Prelude.{None}
use Rattle.shard_machine.specs.declared.reply.Outcome.TheVariants.{Refused}
use Rattle.shard_machine.specs.declared.reply.ShardRefusal.TheVariants.{NoMemory}
use Rattle.shard_machine.specs.Steps.{refused_packets}
use Rattle.shard_machine.specs.Views.{replied}
use Rattle.shard_machine.proofs.RefusedPackets.{by-numbers, none-of-memory}
use Rattle.shard_machine.proofs.refuse.refused.Goals as goal

pub returns-in-Ok : goal.returns-in-Ok
returns-in-Ok c =
    let same = c.in-Ok.ensures.packets ∙ sym (by-numbers c.args.call.now c.args.why c.api_numbers.result c.api_numbers.ensures) in
    inl (
    ap (λ (packets : List Packet). replied (Refused c.args.why) c.args.doubted packets c.new.result) same
    ∙ ap (replied (Refused c.args.why) c.args.doubted (refused_packets c.args.call.now c.args.why)) c.new.ensures)

pub returns-in-Err : goal.returns-in-Err
returns-in-Err c =
    let same = by-numbers c.args.call.now c.args.why c.api_numbers.result c.api_numbers.ensures in
    inr (
      (λ none. c.in-Err.ensures.memory (sym same ∙ none)),
      ap (λ (packets : List Packet). replied (Refused NoMemory) None packets c.new-in-Err-2.result) (c.new-in-Err.ensures ∙ sym (none-of-memory c.args.call.now))
          ∙ ap (replied (Refused NoMemory) None (refused_packets c.args.call.now NoMemory)) c.new-in-Err-2.ensures,
    )
