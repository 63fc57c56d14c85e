use Rattle.std.proofs.Common.{◌≡◌, ℕ, ◌-◌, length, List, Option, Some, Ok, Vec, Global, sym, ap, ◌∙◌}
use Rattle.std.proofs.lemmas.Result.{err_from_is_err_and}
use Rattle.std.specs.Option.{option_map, option_copied, option_and_then}
use Rattle.nats_text.specs.declared.headers.Pair.{Pair}
use Rattle.nats_text.specs.Pieces.{pieces}
use Rattle.nats_text.specs.Headers.{HeaderBlock, line_text, status_of, read_pairs, with_status, read_block}
use Rattle.nats_text.proofs.Reading.{read_block-cut, fault_of_pairs}
use Rattle.nats_text.proofs.ReadsBlocks.{read_block-ok}
use Rattle.nats_text.proofs.headers.copied_block.Goals as goal

pub returns-in_err-pairs : goal.returns-in_err-pairs
returns-in_err-pairs c =
    let bytes = c.args.block.now in
    let lines = c.in-Some.lines.now in
    let status : Option (List ℕ) = option_copied c.in-Some-status_of_line.status in
    let read = read_pairs (length bytes - length lines) (pieces 10 lines) in
    let entry : option_and_then status_of (line_text c.in-Some.line.now) ≡ Some status = sym c.status_of_line.ensures ∙ ap (option_map option_copied) c.in-Some-status_of_line.is in
    let block : read_block bytes ≡ with_status (Some status) read = read_block-cut bytes c.in-Some.line.now lines (sym c.is_empty.ensures ∙ c.if-is_empty.false) c.in-Some.ensures.parts ∙ ap (λ e. with_status e read) entry in
    let p = err_from_is_err_and c.from_residual.result c.from_residual.ensures.1 in
    let see : Vec Pair Global → List Pair = λ v. v.items in
    let view : HeaderBlock → HeaderBlock = λ b. b in
    rw (p.1, p.2) (fault_of_pairs see view c.in_err-pairs.field-0.0 status read (read_block bytes) block c.in_err-pairs.ensures)

pub invariant_of-result : goal.invariant_of-result
invariant_of-result c =
    let bytes = c.args.block.now in
    let lines = c.in-Some.lines.now in
    let status : Option (List ℕ) = option_copied c.in-Some-status_of_line.status in
    let read = read_pairs (length bytes - length lines) (pieces 10 lines) in
    let entry : option_and_then status_of (line_text c.in-Some.line.now) ≡ Some status = sym c.status_of_line.ensures ∙ ap (option_map option_copied) c.in-Some-status_of_line.is in
    let block : read_block bytes ≡ with_status (Some status) read = read_block-cut bytes c.in-Some.line.now lines (sym c.is_empty.ensures ∙ c.if-is_empty.false) c.in-Some.ensures.parts ∙ ap (λ e. with_status e read) entry in
    let made : HeaderBlock = record { status = c.in_ok-status.status; pairs = c.in_ok-pairs.pairs.items } in
    let e : read_block bytes ≡ Ok made = block ∙ (ap (with_status (Some status)) c.in_ok-pairs.ensures ∙ ap (λ s. Ok (record { status = s; pairs = c.in_ok-pairs.pairs.items })) (sym c.in_ok-status.ensures)) in
    (read_block-ok bytes made e).0

pub returns : goal.returns
returns c =
    let bytes = c.args.block.now in
    let lines = c.in-Some.lines.now in
    let status : Option (List ℕ) = option_copied c.in-Some-status_of_line.status in
    let read = read_pairs (length bytes - length lines) (pieces 10 lines) in
    let entry : option_and_then status_of (line_text c.in-Some.line.now) ≡ Some status = sym c.status_of_line.ensures ∙ ap (option_map option_copied) c.in-Some-status_of_line.is in
    let block : read_block bytes ≡ with_status (Some status) read = read_block-cut bytes c.in-Some.line.now lines (sym c.is_empty.ensures ∙ c.if-is_empty.false) c.in-Some.ensures.parts ∙ ap (λ e. with_status e read) entry in
    block ∙ (ap (with_status (Some status)) c.in_ok-pairs.ensures ∙ ap (λ s. Ok (record { status = s; pairs = c.in_ok-pairs.pairs.items })) (sym c.in_ok-status.ensures))
