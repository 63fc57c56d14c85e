use Rattle.std.proofs.Common.{◌≡◌, ℕ, ◌-◌, ◌∙◌, List, length, take, drop, ap, arith, length-append}
use Rattle.std.proofs.lemmas.List.{length-drop, length-take, take_rest}
use Rattle.leaf_edges.proofs.Fronts.{front_read, end_read}
use Rattle.leaf_edges.proofs.memory.MemSourceSource.read.Goals as goal

pub returns-clause-bytes : goal.returns-clause-bytes
returns-clause-bytes c =
    let all = c.self.inside.bytes.items in
    let place = c.self.inside.place in
    let seen = c.deref-2.result.now in
    let left : List ℕ = take (length seen - place) (drop place seen) in
    let here : left ≡ drop place all = take_rest seen place ∙ ap (drop place) c.deref-2.ensures.value in
    let count = c.min-count.ensures in
    let n = c.min-count.result in
    let buf = c.args.buf.now in (
      rw (← c.self.view_is) (front_read all left _ _ place _ here (omega (arith, count)) c.copy_from_slice.ensures.after),
      λ none room. end_read all left place _ (length buf) here count none (omega (arith, room, length-append c.copy_from_slice.new.self (drop n buf), length-drop n buf, c.copy_from_slice.ensures.len, length-take n buf)),
    )
