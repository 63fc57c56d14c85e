use Rattle.std.proofs.Common.{◌≡◌, ℕ, ◌+◌, ◌-◌, ◌++◌, ◌∷◌, [], length, cond, false, List, Some, None, Ok, Err, sym, ap, ◌∙◌, subst, arith}
use Rattle.std.specs.Option.{option_map, option_and_then}
use Rattle.nats_text.specs.declared.headers.Pair.{Pair}
use Rattle.nats_text.specs.Pieces.{pieces}
use Rattle.nats_text.specs.declared.fault.TextFault.{TextFault}
use Rattle.nats_text.specs.Headers.{Reads, pair_view, entry_of, line_text, is_end, with_front, read_entry, read_pairs}
use Rattle.nats_text.proofs.Reading.{read_pairs-cut, with_front-push, is_end-more}
use Rattle.nats_text.proofs.headers.read_pairs.Goals as goal

pub returns-else-is_empty : goal.returns-else-is_empty
returns-else-is_empty c =
    let rest = c.loop-line.rest.now in
    let behind = c.in-Some.behind.now in
    let next : ℕ = c.loop-line.place + (length rest - length behind) in
    let lines : List (List ℕ) = pieces 10 behind in
    let after = read_pairs next lines in
    let empty : option_and_then entry_of (line_text c.in-Some.line.now) ≡ Some None = sym c.entry_of_line.ensures ∙ ap (option_map (option_map pair_view)) (c.in-Some-entry_of_line.is ∙ ap (λ e. Some e) c.in_default-entry.is) in
    let more : is_end lines ≡ false = is_end-more behind (sym c.is_empty.ensures ∙ c.if-is_empty.false) in
    let read : read_pairs c.args.place (pieces 10 c.args.lines.now) ≡ Err next = sym c.loop-line.invariant.read ∙ ap (with_front c.loop-line.pairs.items) (read_pairs-cut c.loop-line.place rest c.in-Some.line.now behind c.in-Some.ensures.parts ∙ (ap (λ e. read_entry c.loop-line.place next e lines after) empty ∙ ap (λ t. cond t (Ok []) (Err next)) more)) in
    subst (λ (fault : TextFault). Reads (λ (pairs : List Pair). pairs) (Err fault) (read_pairs c.args.place (pieces 10 c.args.lines.now))) (sym c.bad_at-else-is_empty.ensures) read

pub loop-line-preserved : goal.loop-line-preserved
loop-line-preserved c =
    let rest = c.loop-line.rest.now in
    let behind = c.in-Some.behind.now in
    let next : ℕ = c.loop-line.place + (length rest - length behind) in
    let after = read_pairs next (pieces 10 behind) in
    let pair : Pair = pair_view (c.in-Some-entry.name, c.in-Some-entry.value) in
    let entry : option_and_then entry_of (line_text c.in-Some.line.now) ≡ Some (Some pair) = sym c.entry_of_line.ensures ∙ ap (option_map (option_map pair_view)) (c.in-Some-entry_of_line.is ∙ ap (λ e. Some e) c.in-Some-entry.is) in
    let pushed : c.push.new.self.items ≡ c.loop-line.pairs.items ++ pair ∷ [] = c.in_ok-push.ensures.items ∙ ap (λ p. c.loop-line.pairs.items ++ p ∷ []) c.in_ok-copied_pair.ensures in
    record {
      read =
          ap (λ ps. with_front ps after) pushed ∙ (with_front-push c.loop-line.pairs.items pair after
          ∙ (ap (with_front c.loop-line.pairs.items) (sym (read_pairs-cut c.loop-line.place rest c.in-Some.line.now behind c.in-Some.ensures.parts ∙ ap (λ e. read_entry c.loop-line.place next e (pieces 10 behind) after) entry))
          ∙ c.loop-line.invariant.read));
      place = omega (arith, c.loop-line.invariant.place, c.in-Some.ensures.shorter);
    }
