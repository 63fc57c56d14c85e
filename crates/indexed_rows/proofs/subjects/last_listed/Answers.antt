use Rattle.std.proofs.Common.{◌≡◌, sym, ap, ◌∙◌, Some}
use Rattle.indexed_rows.specs.Indexes.{found, last_of_list}
use Rattle.indexed_rows.proofs.Places.{last_keys, keys_at}
use Rattle.indexed_rows.proofs.subjects.last_listed.Goals as goal

pub returns : goal.returns
returns c =
    let here : found c.args.subject.now c.args.subjects.now ≡ Some c.in_ok-get.field-0.now = sym c.in_ok-get.ensures.value in
    c.last.ensures ∙ (last_keys c.in_ok-get.field-0.now.items ∙ ap last_of_list (keys_at c.args.subject.now c.in_ok-get.field-0.now c.args.subjects.now here))
