use Rattle.std.proofs.Common.{◌≡◌, ◌^◌, ◌<◌, ◌∷◌, ◌++◌, ap, ◌∙◌, arith, rules, codes}
use Rattle.std.specs.Prelude.{decimal}
use Rattle.nats_text.specs.Text.{is_subject}
use Rattle.js_wire.proofs.Legality.{attempt_is_subject, attempt_text}
use Rattle.js_wire.proofs.subjects.attempt_subject.Goals as goal

pub subject-requires : goal.subject-requires
subject-requires c =
    let a = c.args.asker.now in
    let t = c.args.attempt in
    let text : c.deref.result.now ≡ (((((codes "$JS.M" ++ 46 ∷ c.args.asker.now.node) ++ 46 ∷ c.args.asker.now.stream) ++ 46 ∷ decimal c.args.asker.now.index) ++ 46 ∷ decimal c.args.attempt.boot) ++ 46 ∷ decimal c.args.attempt.count) ++ 46 ∷ c.args.end.now = search rules in
    let small : c.args.asker.now.index < 2 ^ 64 = omega arith in
    let boot : c.args.attempt.boot < 2 ^ 64 = omega arith in
    let count : c.args.attempt.count < 2 ^ 64 = omega arith in
    ap is_subject (text ∙ attempt_text a.node a.stream (decimal a.index) (decimal t.boot) (decimal t.count) c.args.end.now)
    ∙ attempt_is_subject a t c.args.end.now c.bytes.ensures.legal c.bytes-2.ensures.legal small boot count c.requires
