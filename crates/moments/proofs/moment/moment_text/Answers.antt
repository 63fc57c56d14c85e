use Rattle.std.proofs.Common.{◌≡◌, ◌++◌, ◌^◌, ◌<◌, false, Some, pos, ap, ◌∙◌, subst, arith}
use Rattle.std.specs.Result.{IfOk}
use Rattle.std.proofs.lemmas.Bool.{false≢true}
use Rattle.std.proofs.lemmas.Int.{ints}
use Rattle.jiff_core.specs.DateTime.{civil_nanos}
use Rattle.jiff_core.proofs.SignedLemmas.{signed_arith}
use Rattle.jiff_fmt.specs.Text as Text
use Rattle.moments.specs.Moments.{moment_text}
use Rattle.moments.proofs.Calendar.{moment_shown}
use Rattle.moments.proofs.moment.moment_text.Goals as goal

pub returns-clause-value : goal.returns-clause-value
returns-clause-value c =
    let h = c.timestamp_text-text.ensures in
    let p = c.precision-printer.result in
    let start = c.new.ensures in
    let set = c.precision-printer.ensures in
    let lower : p.lowercase ≡ false = ap (λ x. x.0) set ∙ ap (λ x. x.0) start in
    let separator : p.separator ≡ 84 = ap (λ x. x.1) set ∙ ap (λ x. x.1) start in
    let precision : p.precision ≡ Some 9 = ap (λ x. x.2) set in
    let small : c.args.time < 2 ^ 64 = omega arith in
    let value : c.in-Ok.moment.nanosecond ≡ pos c.args.time = first_of (omega (arith, ints, c.in-Ok.ensures.value, c.from.ensures), omega (arith, signed_arith, c.in-Ok.ensures.value, c.from.ensures)) in
    let nanos : civil_nanos h.0 ≡ pos c.args.time = h.1 ∙ (ap (λ t. t.nanosecond) c.to_plain.ensures ∙ value) in
    let printed : c.timestamp_text-text.result.bytes ≡ Text.datetime_text false 84 (Some 9) h.0 ++ Text.zulu_text false =
    h.2 ∙ (λ i. Text.datetime_text (lower i) (separator i) (precision i) h.0 ++ Text.zulu_text (lower i)) in
    let whole : c.as_str.result.now ≡ moment_text c.args.time = c.as_str.ensures.value ∙ (printed ∙ moment_shown c.args.time h.0 small nanos) in
    subst (λ t. IfOk c.from_slice.result (λ text. text ≡ t)) (c.as_bytes.ensures.value ∙ whole) c.from_slice.ensures

pub unreachable-requires : goal.unreachable-requires
unreachable-requires c =
    let small : c.args.time < 2 ^ 64 = omega arith in
    false≢true (c.in_default.ensures.succeeds.1 (omega (arith, signed_arith, c.from.ensures, small), omega (arith, signed_arith, c.from.ensures, small)))
