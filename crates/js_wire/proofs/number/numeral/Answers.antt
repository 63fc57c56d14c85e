use Rattle.std.proofs.Common.{◌≡◌, ℕ, ◌^◌, ◌<◌, true, false, sym, ap, ◌∙◌, arith}
use Rattle.std.specs.Prelude.{decimal}
use Rattle.std.specs.Str.{bytes_eq}
use Rattle.std.proofs.lemmas.Bool.{false≢true}
use Rattle.js_wire.specs.Reading.{numeral}
use Rattle.js_wire.proofs.Numerals.{same_bytes, equal_bytes, numeral_from, not_numeral, not_text}
use Rattle.js_wire.proofs.number.numeral.Goals as goal

pub returns-in_default : goal.returns-in_default
returns-in_default c = sym (not_text c.args.text.now c.in_default.ensures.cases.0)

pub returns-in_default-parse : goal.returns-in_default-parse
returns-in_default-parse c =
    let same : c.in-Ok.digits.now ≡ c.args.text.now = c.in-Ok.ensures.cases.0 in
    sym (ap numeral (sym same) ∙ not_numeral c.in-Ok.digits.now c.parse.result c.parse.ensures.value.0 (λ n is e. c.in_default-parse.not-Ok n is))

pub returns-then-eq : goal.returns-then-eq
returns-then-eq c =
    let n = c.in-Ok-parse.number in
    let text : c.as_bytes.result.now ≡ decimal n = c.as_bytes.ensures.value ∙ c.format.ensures.text in
    let same : bytes_eq c.as_bytes.result.now c.args.text.now ≡ true = sym c.eq.ensures ∙ c.if-eq.true in
    let small : n < 2 ^ 64 = omega arith in
    sym (numeral_from c.args.text.now n small (sym text ∙ equal_bytes c.as_bytes.result.now c.args.text.now same))

pub returns-else-eq : goal.returns-else-eq
returns-else-eq c =
    let n = c.in-Ok-parse.number in
    let text : c.as_bytes.result.now ≡ decimal n = c.as_bytes.ensures.value ∙ c.format.ensures.text in
    let differs : bytes_eq c.as_bytes.result.now c.args.text.now ≡ false = sym c.eq.ensures ∙ c.if-eq.false in
    let same : c.in-Ok.digits.now ≡ c.args.text.now = c.in-Ok.ensures.cases.0 in
    sym (ap numeral (sym same) ∙ not_numeral c.in-Ok.digits.now c.parse.result c.parse.ensures.value.0 (λ (m : ℕ) is e.
    let that : m ≡ n = cc in
    let equal : c.as_bytes.result.now ≡ c.args.text.now = text ∙ (ap decimal (sym that) ∙ (e ∙ same)) in
    false≢true (sym differs ∙ (ap (λ t. bytes_eq t c.args.text.now) equal ∙ same_bytes c.args.text.now))))
