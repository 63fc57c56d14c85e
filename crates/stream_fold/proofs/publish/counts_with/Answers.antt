use Rattle.std.proofs.Common.{◌≡◌, ◌+◌, [], ◌∷◌, Some, None, length, sym, ap, ◌∙◌, arith}
use Rattle.std.specs.Option.{option_copied}
use Rattle.std.proofs.lemmas.List.{length-append}
use Rattle.stream_fold.specs.declared.entry.Numbered.{Numbered}
use Rattle.stream_fold.specs.Histories.{size_of}
use Rattle.stream_fold.specs.Counting.{pushed_out}
use Rattle.stream_fold.proofs.Full.{pushed_some, pushed_none, pushed_size}
use Rattle.stream_fold.proofs.Totals.{size_of-push}
use Rattle.stream_fold.proofs.publish.counts_with.Goals as goal

pub overflow_sub-total : goal.overflow_sub-total
overflow_sub-total c =
    let p = c.args.parts.now in
    let out : pushed_out p.config.max_per_subject c.args.message.now.subject p.rows.rows ≡ Some c.in-Some.row.now =
    ap (λ s. pushed_out p.config.max_per_subject s p.rows.rows) (sym c.bytes.ensures.value) ∙ (ap (pushed_out p.config.max_per_subject c.bytes.result.now) (sym c.as_slice-rows.ensures) ∙ (sym c.pushed_out.ensures ∙ ap option_copied c.in-Some.is)) in
    omega (arith, c.size.ensures, c.total-total.ensures.value, pushed_size p.config.max_per_subject c.args.message.now.subject p.rows.rows c.in-Some.row.now out)

pub returns-in_ok-bytes-in-Some-clause-count : goal.returns-in_ok-bytes-in-Some-clause-count
returns-in_ok-bytes-in-Some-clause-count c =
    let p = c.args.parts.now in
    let out : pushed_out p.config.max_per_subject c.args.message.now.subject p.rows.rows ≡ Some c.in-Some.row.now =
    ap (λ s. pushed_out p.config.max_per_subject s p.rows.rows) (sym c.bytes.ensures.value) ∙ (ap (pushed_out p.config.max_per_subject c.bytes.result.now) (sym c.as_slice-rows.ensures) ∙ (sym c.pushed_out.ensures ∙ ap option_copied c.in-Some.is)) in
    ap length c.as_slice-rows.ensures ∙ sym (pushed_some p.config c.args.message.now p.rows.rows p.last c.in-Some.row.now c.requires.newest out).count

pub returns-in_ok-bytes-in-Some-clause-bytes : goal.returns-in_ok-bytes-in-Some-clause-bytes
returns-in_ok-bytes-in-Some-clause-bytes c =
    let p = c.args.parts.now in
    let out : pushed_out p.config.max_per_subject c.args.message.now.subject p.rows.rows ≡ Some c.in-Some.row.now =
    ap (λ s. pushed_out p.config.max_per_subject s p.rows.rows) (sym c.bytes.ensures.value) ∙ (ap (pushed_out p.config.max_per_subject c.bytes.result.now) (sym c.as_slice-rows.ensures) ∙ (sym c.pushed_out.ensures ∙ ap option_copied c.in-Some.is)) in
    let goes = (pushed_some p.config c.args.message.now p.rows.rows p.last c.in-Some.row.now c.requires.newest out).bytes in
    let sum = c.in_ok-bytes-in-Some.ensures.value in
    omega (arith, sum, goes, c.size.ensures, c.total-total.type_inv, c.total-total.ensures.value, pushed_size p.config.max_per_subject c.args.message.now.subject p.rows.rows c.in-Some.row.now out)

pub returns-in_ok-bytes-in-None-clause-count : goal.returns-in_ok-bytes-in-None-clause-count
returns-in_ok-bytes-in-None-clause-count c =
    let p = c.args.parts.now in
    let none : pushed_out p.config.max_per_subject c.args.message.now.subject p.rows.rows ≡ None =
    ap (λ s. pushed_out p.config.max_per_subject s p.rows.rows) (sym c.bytes.ensures.value) ∙ (ap (pushed_out p.config.max_per_subject c.bytes.result.now) (sym c.as_slice-rows.ensures) ∙ (sym c.pushed_out.ensures ∙ ap option_copied c.in-None.is)) in
    let all = pushed_none p.config c.args.message.now p.rows.rows p.last c.requires.newest none in
    let new : Numbered = record { seq = p.last + 1; message = c.args.message.now } in
    sym (ap length all ∙ (length-append p.rows.rows (new ∷ []) ∙ ap (λ n. n + 1) (sym (ap length c.as_slice-rows.ensures))))

pub returns-in_ok-bytes-in-None-clause-bytes : goal.returns-in_ok-bytes-in-None-clause-bytes
returns-in_ok-bytes-in-None-clause-bytes c =
    let p = c.args.parts.now in
    let none : pushed_out p.config.max_per_subject c.args.message.now.subject p.rows.rows ≡ None =
    ap (λ s. pushed_out p.config.max_per_subject s p.rows.rows) (sym c.bytes.ensures.value) ∙ (ap (pushed_out p.config.max_per_subject c.bytes.result.now) (sym c.as_slice-rows.ensures) ∙ (sym c.pushed_out.ensures ∙ ap option_copied c.in-None.is)) in
    let all = pushed_none p.config c.args.message.now p.rows.rows p.last c.requires.newest none in
    let new : Numbered = record { seq = p.last + 1; message = c.args.message.now } in
    omega (arith, c.in_ok-bytes-in-None.ensures.value, ap size_of all, size_of-push p.rows.rows new, c.total-total.ensures.value)
