use Rattle.std.proofs.Common.{not, ◌≡◌, ◌-◌, length, sym, ap, ◌∙◌}
use Rattle.std.specs.Option.{option_map, option_copied}
use Rattle.std.specs.Result.{result_err}
use Rattle.nats_text.specs.Pieces.{pieces}
use Rattle.nats_text.specs.Headers.{read_pairs, with_status, read_block}
use Rattle.nats_text.proofs.Reading.{read_block-cut, bad_behind_status}
use Rattle.nats_text.proofs.header_lines.bad_line.Goals as goal

pub returns : goal.returns
returns c =
    let bytes = c.args.block.now in
    let lines = c.in-Some.lines.now in
    let read = read_pairs (length bytes - length lines) (pieces 10 lines) in
    let block : read_block bytes ≡ with_status (option_map option_copied c.status_of_line.result) read =
    read_block-cut bytes c.in-Some.line.now lines (sym c.is_empty.ensures ∙ c.if-is_empty.false) c.in-Some.ensures.parts ∙ ap (λ e. with_status e read) (sym c.status_of_line.ensures) in
    c.bad_pair_line.ensures ∙ (sym (bad_behind_status c.status_of_line.result read (c.is_none.ensures ∙ ap not c.if-is_none.false)) ∙ sym (ap result_err block))
