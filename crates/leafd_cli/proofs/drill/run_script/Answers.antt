use Rattle.std.proofs.Common.{◌≡◌, ◌+◌, [], length, true, false, refl, ◌∙◌, eq-eqb, arith}
use Rattle.std.proofs.lemmas.Bool.{both_ways}
use Rattle.leafd_cli.specs.ScriptLines.{ScriptLine, lines_of}
use Rattle.leafd_cli.proofs.Books.{starts, comes_on, stops_at, ends_with, breaks_at, next_ended, next_last, turn_none, turn_some}
use Rattle.leafd_cli.proofs.drill.run_script.Goals as goal

pub loop-line-init : goal.loop-line-init
loop-line-init g c = rw c.new-drill.ensures (record { come = starts c.args.text.now (g.O.Sink.taken c.args.out.now); few = omega arith; same = refl })

pub returns-in-Ok-Some-clause-ran : goal.returns-in-Ok-Some-clause-ran
returns-in-Ok-Some-clause-ran g c =
    let rest = c.loop-line.rest.now in
    let row : ScriptLine = record { bytes = c.in-Some.line.now; ended = true } in
    let next = next_ended rest c.in-Some.line.now c.in-Some.after.now c.in-Some.ensures.parts in
    stops_at c.args.text.now rest row (lines_of c.in-Some.after.now) c.loop-line.drill c.take.new.self (g.O.Sink.taken c.args.out.now) (g.O.Sink.taken c.loop-line.out) (g.O.Sink.taken c.take.new.out) c.number.result c.in-Ok-Some.kind next (turn_some c.loop-line.drill row c.take.new.self (g.O.Sink.taken c.loop-line.out) (g.O.Sink.taken c.take.new.out) c.in-Ok-Some.field-0 c.in-Ok-Some.kind c.in-Ok-Some.field-0-is c.in-Ok-Some.ensures.turn) c.number.ensures c.loop-line.invariant.come

pub returns-in-Err-clause-ran : goal.returns-in-Err-clause-ran
returns-in-Err-clause-ran g c =
    let rest = c.loop-line.rest.now in
    let row : ScriptLine = record { bytes = c.in-Some.line.now; ended = true } in
    let next = next_ended rest c.in-Some.line.now c.in-Some.after.now c.in-Some.ensures.parts in
    breaks_at c.args.text.now rest row (lines_of c.in-Some.after.now) c.loop-line.drill (g.O.Sink.taken c.args.out.now) (g.O.Sink.taken c.loop-line.out) (g.O.Sink.taken c.take.new.out) next c.in-Err.ensures.turn c.loop-line.invariant.come

pub loop-line-preserved : goal.loop-line-preserved
loop-line-preserved g c =
    let rest = c.loop-line.rest.now in
    let line = c.in-Some.line.now in
    let row : ScriptLine = record { bytes = line; ended = true } in
    let t = turn_none c.loop-line.drill row c.take.new.self (g.O.Sink.taken c.loop-line.out) (g.O.Sink.taken c.take.new.out) c.in-Ok-None.field-0 c.in-Ok-None.field-0-is c.in-Ok-None.ensures.turn in
    let next : c.take.new.self.number ≡ c.loop-line.drill.number + 1 = t.number in
    record {
      come = comes_on c.args.text.now rest line c.in-Some.after.now c.loop-line.drill c.take.new.self (g.O.Sink.taken c.args.out.now) (g.O.Sink.taken c.loop-line.out) (g.O.Sink.taken c.take.new.out) c.in-Some.ensures.parts t c.loop-line.invariant.come;
      few = omega (arith, next, c.in-Some.ensures.shorter, c.loop-line.invariant.few);
      same = c.in-Ok-None.ensures.cause ∙ c.loop-line.invariant.same;
    }

pub returns-in-Ok-None-take-clause-ran : goal.returns-in-Ok-None-take-clause-ran
returns-in-Ok-None-take-clause-ran g c =
    let rest = c.loop-line.rest.now in
    let row : ScriptLine = record { bytes = rest; ended = false } in
    let next = next_last rest c.in_default.ensures.parts (λ e. both_ways c.is_empty.result c.if-is_empty.false (c.is_empty.ensures ∙ eq-eqb (length rest) 0 e)) in
    ends_with c.args.text.now rest row c.loop-line.drill c.take-2.new.self (g.O.Sink.taken c.args.out.now) (g.O.Sink.taken c.loop-line.out) (g.O.Sink.taken c.take-2.new.out) next (turn_none c.loop-line.drill row c.take-2.new.self (g.O.Sink.taken c.loop-line.out) (g.O.Sink.taken c.take-2.new.out) c.in-Ok-None-take.field-0 c.in-Ok-None-take.field-0-is c.in-Ok-None-take.ensures.turn) c.loop-line.invariant.come

pub returns-clause-ran : goal.returns-clause-ran
returns-clause-ran g c =
    let rest = c.loop-line.rest.now in
    let row : ScriptLine = record { bytes = rest; ended = false } in
    let next = next_last rest c.in_default.ensures.parts (λ e. both_ways c.is_empty.result c.if-is_empty.false (c.is_empty.ensures ∙ eq-eqb (length rest) 0 e)) in
    breaks_at c.args.text.now rest row [] c.loop-line.drill (g.O.Sink.taken c.args.out.now) (g.O.Sink.taken c.loop-line.out) (g.O.Sink.taken c.take-2.new.out) next c.in-Err-take.ensures.turn c.loop-line.invariant.come
