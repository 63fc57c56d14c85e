use Rattle.std.proofs.Common.{not, ◌≡◌, ℕ, ◌+◌, ◌-◌, length, List, Some, sym, ap, ◌∙◌, arith}
use Rattle.std.specs.Option.{option_map, option_and_then}
use Rattle.std.specs.Result.{result_err}
use Rattle.nats_text.specs.Pieces.{pieces}
use Rattle.nats_text.specs.Headers.{pair_view, entry_of, line_text, read_entry, read_pairs}
use Rattle.nats_text.proofs.Reading.{read_pairs-cut, is_end-more, bad_behind_pair, bad_behind_end}
use Rattle.nats_text.proofs.header_lines.bad_pair_line.Goals as goal

pub returns-else-is_empty : goal.returns-else-is_empty
returns-else-is_empty c =
    let place = c.loop-line.place in
    let rest = c.loop-line.rest.now in
    let behind = c.in-Some.behind.now in
    let found = c.in-Some-entry_of_line.entry in
    let next : ℕ = place + (length rest - length behind) in
    let lines : List (List ℕ) = pieces 10 behind in
    let entry : option_and_then entry_of (line_text c.in-Some.line.now) ≡ Some (option_map pair_view found) = sym c.entry_of_line.ensures ∙ ap (option_map (option_map pair_view)) c.in-Some-entry_of_line.is in
    let read : read_pairs place (pieces 10 rest) ≡ read_entry place next (Some (option_map pair_view found)) lines (read_pairs next lines) =
    read_pairs-cut place rest c.in-Some.line.now behind c.in-Some.ensures.parts ∙ ap (λ e. read_entry place next e lines (read_pairs next lines)) entry in
    let at_end = bad_behind_end place next found lines (read_pairs next lines) (c.is_none.ensures ∙ ap not c.if-is_none.true) (is_end-more behind (sym c.is_empty.ensures ∙ c.if-is_empty.false)) in
    sym at_end ∙ (sym (ap result_err read) ∙ c.loop-line.invariant.bad)

pub loop-line-preserved : goal.loop-line-preserved
loop-line-preserved c =
    let place = c.loop-line.place in
    let rest = c.loop-line.rest.now in
    let behind = c.in-Some.behind.now in
    let found = c.in-Some-entry_of_line.entry in
    let next : ℕ = place + (length rest - length behind) in
    let lines : List (List ℕ) = pieces 10 behind in
    let entry : option_and_then entry_of (line_text c.in-Some.line.now) ≡ Some (option_map pair_view found) = sym c.entry_of_line.ensures ∙ ap (option_map (option_map pair_view)) c.in-Some-entry_of_line.is in
    let read : read_pairs place (pieces 10 rest) ≡ read_entry place next (Some (option_map pair_view found)) lines (read_pairs next lines) =
    read_pairs-cut place rest c.in-Some.line.now behind c.in-Some.ensures.parts ∙ ap (λ e. read_entry place next e lines (read_pairs next lines)) entry in
    let on = bad_behind_pair place next found lines (read_pairs next lines) (c.is_none.ensures ∙ ap not c.if-is_none.false) in
    record {
      bad = sym on ∙ (sym (ap result_err read) ∙ c.loop-line.invariant.bad);
      place = omega (arith, c.loop-line.invariant.place, c.in-Some.ensures.shorter);
    }
