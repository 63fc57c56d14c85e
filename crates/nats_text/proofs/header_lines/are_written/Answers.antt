use Rattle.std.proofs.Common.{◌≡◌, ◌∙◌, refl, sym, ap, Some, None}
use Rattle.std.proofs.lemmas.Bool.{false≢true}
use Rattle.std.specs.Option.{option_map, option_and_then}
use Rattle.nats_text.specs.declared.headers.Pair.{Pair}
use Rattle.nats_text.specs.Headers.{pair_view, entry_of, line_text}
use Rattle.nats_text.proofs.WrittenBlocks.{next_place, written_behind, other_line, empty_line, bad_entry, no_line}
use Rattle.nats_text.proofs.header_lines.are_written.Goals as goal

pub loop-line-init : goal.loop-line-init
loop-line-init c = λ place. (place, refl)

pub returns-in_default-entry_of_line : goal.returns-in_default-entry_of_line
returns-in_default-entry_of_line c = λ place.
    let so_far = c.loop-line.invariant place in
    let entry : option_and_then entry_of (line_text c.in-Some.line.now) ≡ None = sym c.entry_of_line.ensures ∙ ap (option_map (option_map pair_view)) c.in_default-entry_of_line.is in
    sym (bad_entry so_far.0 c.loop-line.rest.now c.in-Some.line.now c.in-Some.behind.now c.in-Some.ensures.parts entry) ∙ so_far.1

pub returns-in_default-entry : goal.returns-in_default-entry
returns-in_default-entry c = λ place.
    let so_far = c.loop-line.invariant place in
    let entry : option_and_then entry_of (line_text c.in-Some.line.now) ≡ Some None = sym c.entry_of_line.ensures ∙ ap (option_map (option_map pair_view)) (c.in-Some-entry_of_line.is ∙ ap (λ e. Some e) c.in_default-entry.is) in
    c.is_empty.ensures ∙ (sym (empty_line so_far.0 c.loop-line.rest.now c.in-Some.line.now c.in-Some.behind.now c.in-Some.ensures.parts entry) ∙ so_far.1)

pub returns-then-not-is_written_line : goal.returns-then-not-is_written_line
returns-then-not-is_written_line c = λ place.
    let so_far = c.loop-line.invariant place in
    let pair : Pair = pair_view (c.in-Some-entry.name, c.in-Some-entry.value) in
    let entry : option_and_then entry_of (line_text c.in-Some.line.now) ≡ Some (Some pair) = sym c.entry_of_line.ensures ∙ ap (option_map (option_map pair_view)) (c.in-Some-entry_of_line.is ∙ ap (λ e. Some e) c.in-Some-entry.is) in
    sym (other_line so_far.0 c.loop-line.rest.now c.in-Some.line.now c.in-Some.behind.now pair c.in-Some.ensures.parts entry (λ e. false≢true (sym c.if-not-is_written_line.true ∙ c.is_written_line.ensures.1 e))) ∙ so_far.1

pub loop-line-preserved : goal.loop-line-preserved
loop-line-preserved c = λ place.
    let so_far = c.loop-line.invariant place in
    let pair : Pair = pair_view (c.in-Some-entry.name, c.in-Some-entry.value) in
    let entry : option_and_then entry_of (line_text c.in-Some.line.now) ≡ Some (Some pair) = sym c.entry_of_line.ensures ∙ ap (option_map (option_map pair_view)) (c.in-Some-entry_of_line.is ∙ ap (λ e. Some e) c.in-Some-entry.is) in (
      next_place so_far.0 c.loop-line.rest.now c.in-Some.behind.now,
      written_behind so_far.0 c.loop-line.rest.now c.in-Some.line.now c.in-Some.behind.now pair c.in-Some.ensures.parts entry (c.is_written_line.ensures.0 c.if-not-is_written_line.false) ∙ so_far.1,
    )

pub returns : goal.returns
returns c = λ place.
    let so_far = c.loop-line.invariant place in
    let k = c.in_default.ensures.parts in
    sym (no_line so_far.0 c.loop-line.rest.now k) ∙ so_far.1
