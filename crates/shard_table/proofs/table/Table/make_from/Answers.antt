use Rattle.std.proofs.Common.{◌≡◌, refl, sym, ap, ◌∙◌, subst}
use Rattle.std.specs.Prelude.{Ok, Err}
use Rattle.push_consumer.specs.declared.wanted.Wanted.{Wanted}
use Rattle.shard_machine.specs.declared.call.ShardCall.TheVariants as call
use Rattle.js_wire.specs.declared.packet.Packet.TheVariants as packet
use Rattle.shard_machine.specs.Answers.{Answers, makes_consumer}
use Rattle.shard_copies.specs.Standing.{refused_or}
use Rattle.shard_table.proofs.Doing.{shows-consumers}
use Rattle.shard_table.proofs.Grounds.{refused-down}
use Rattle.shard_table.proofs.Rows.{makes-answer}
use Rattle.shard_table.proofs.table.Table.make_from.Goals as goal

pub returns-in-Some : goal.returns-in-Some
returns-in-Some c = λ v known start held live from.
    let name = c.args.stream.now in
    let now = c.args.now in
    let what : Wanted = record { asker = c.args.asker.now; attempt = c.args.attempt; origin = c.args.origin.now; start = c.args.from; filters = c.args.filters.now } in
    let is = c.refusal.ensures v now known what (shows-consumers c.args.self.now v held) refl refl ∙ ap (λ r. refused_or r (makes_consumer v now known name what)) c.in-Some.is in
    (refused-down v (call.MakeConsumer (packet.Ask c.args.asker.now c.args.attempt c.args.origin.now name start c.args.filters.now) now) c.in-Some.why (makes-answer v now known name c.args.asker.now c.args.attempt c.args.origin.now start c.args.from c.args.filters.now (Err c.in-Some.why) live from is), held)

pub returns-in-Ok : goal.returns-in-Ok
returns-in-Ok c = λ v known start held live from.
    let name = c.args.stream.now in
    let now = c.args.now in
    let what : Wanted = record { asker = c.args.asker.now; attempt = c.args.attempt; origin = c.args.origin.now; start = c.args.from; filters = c.args.filters.now } in
    let called = call.MakeConsumer (packet.Ask c.args.asker.now c.args.attempt c.args.origin.now name start c.args.filters.now) now in
    let is = c.refusal.ensures v now known what (shows-consumers c.args.self.now v held) refl refl ∙ ap (λ r. refused_or r (makes_consumer v now known name what)) c.in-None.is in
    let answers = makes-answer v now known name c.args.asker.now c.args.attempt c.args.origin.now start c.args.from c.args.filters.now (Ok (makes_consumer v now known name what)) live from is in
    c.make_wanted.ensures v called known held live (subst (λ (x : Wanted). Answers v called (Ok (makes_consumer v now known name x))) (sym c.in-Ok.ensures) answers)

pub returns-in-Err : goal.returns-in-Err
returns-in-Err c = λ v known start held live from. (tt, held)
