use Rattle.std.proofs.Common.{Some, set, sym, ap, subst, ◌∙◌, arith}
use Rattle.std.specs.List.{position_from}
use Rattle.leafd_cli.specs.Logs.{StreamLog, is_at}
use Rattle.leafd_cli.specs.Effects.{effect, answer_at}
use Rattle.leafd_cli.specs.Operations.{Task, worked}
use Rattle.leafd_cli.specs.Keeping.{IsNumbered}
use Rattle.leafd_cli.proofs.Numbers.{AllNumbered-at}
use Rattle.leafd_cli.proofs.Placing.{no_place, the_place, nothing_worked}
use Rattle.leafd_cli.proofs.world.work_in.Goals as goal

pub returns-in_default-clause-streams : goal.returns-in_default-clause-streams
returns-in_default-clause-streams c =
    let task : Task = record { node = c.args.node.now; name = c.args.name.now; operation = c.args.operation } in
    let streams = c.args.streams.now.items in
    let absent = no_place c.args.now task streams c.position_of.result (c.position_of.ensures ∙ ap (position_from (is_at c.args.node.now c.args.name.now) 0) c.deref.ensures.value) c.in_default.is in
    sym (nothing_worked c.args.now task streams absent)

pub returns-in_default-clause-answer : goal.returns-in_default-clause-answer
returns-in_default-clause-answer c =
    let task : Task = record { node = c.args.node.now; name = c.args.name.now; operation = c.args.operation } in
    let streams = c.args.streams.now.items in
    let absent = no_place c.args.now task streams c.position_of.result (c.position_of.ensures ∙ ap (position_from (is_at c.args.node.now c.args.name.now) 0) c.deref.ensures.value) c.in_default.is in
    ap (answer_at c.args.now c.args.operation) (sym absent)

pub index_mut-stream-requires : goal.index_mut-stream-requires
index_mut-stream-requires c =
    let task : Task = record { node = c.args.node.now; name = c.args.name.now; operation = c.args.operation } in
    let streams = c.args.streams.now.items in
    let p = the_place c.args.now task streams c.position_of.result c.in-Some.place (c.position_of.ensures ∙ ap (position_from (is_at c.args.node.now c.args.name.now) 0) c.deref.ensures.value) c.in-Some.is in
    omega (arith, p.within)

pub work_on-requires : goal.work_on-requires
work_on-requires c =
    let task : Task = record { node = c.args.node.now; name = c.args.name.now; operation = c.args.operation } in
    let streams = c.args.streams.now.items in
    let p = the_place c.args.now task streams c.position_of.result c.in-Some.place (c.position_of.ensures ∙ ap (position_from (is_at c.args.node.now c.args.name.now) 0) c.deref.ensures.value) c.in-Some.is in
    let s = c.index_mut-stream.result.now in
    let P : StreamLog → Type 0 = λ x. IsNumbered x in
    subst P (sym c.index_mut-stream.ensures.value) (AllNumbered-at streams c.in-Some.place s p.within c.requires)

pub returns-clause-streams : goal.returns-clause-streams
returns-clause-streams c =
    let task : Task = record { node = c.args.node.now; name = c.args.name.now; operation = c.args.operation } in
    let streams = c.args.streams.now.items in
    let p = the_place c.args.now task streams c.position_of.result c.in-Some.place (c.position_of.ensures ∙ ap (position_from (is_at c.args.node.now c.args.name.now) 0) c.deref.ensures.value) c.in-Some.is in
    let s = c.index_mut-stream.result.now in
    ap (λ x. set streams c.in-Some.place x) (c.in_ok-answer.ensures.stream ∙ ap (worked c.args.now c.args.operation) c.index_mut-stream.ensures.value) ∙ sym (p.done s)

pub returns-clause-answer : goal.returns-clause-answer
returns-clause-answer c =
    let task : Task = record { node = c.args.node.now; name = c.args.name.now; operation = c.args.operation } in
    let streams = c.args.streams.now.items in
    let p = the_place c.args.now task streams c.position_of.result c.in-Some.place (c.position_of.ensures ∙ ap (position_from (is_at c.args.node.now c.args.name.now) 0) c.deref.ensures.value) c.in-Some.is in
    let s = c.index_mut-stream.result.now in
    ap (λ x. Some x) (c.in_ok-answer.ensures.answer ∙ ap (λ x. (effect c.args.now c.args.operation x).answer) c.index_mut-stream.ensures.value) ∙ ap (answer_at c.args.now c.args.operation) (sym (p.found s))
