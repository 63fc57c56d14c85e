use Rattle.std.proofs.Common.{◌<◌, ◌^◌, arith}
use Rattle.std.specs.Prelude.{decimal}
use Rattle.std.proofs.lemmas.Fmt.{IsAscii-decimal}
use Rattle.std.proofs.lemmas.Str.{IsUtf8-from_ascii}
use Rattle.js_api.proofs.text.push_number.Goals as goal

pub returns-clause-utf8 : goal.returns-clause-utf8
returns-clause-utf8 c =
    let small : c.args.number < 2 ^ 64 = omega arith in
    IsUtf8-from_ascii (decimal c.args.number) (IsAscii-decimal c.args.number small)
