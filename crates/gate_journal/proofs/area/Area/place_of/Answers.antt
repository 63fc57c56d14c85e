use Rattle.std.proofs.Common.{◌≡◌, ℕ, ◌+◌, ◌<◌, ◌^◌, ◌∙◌, List, length, get_or, take, subst, sym, ap, arith, rules}
use Rattle.gate_journal.specs.Areas.{AreaState, end_of}
use Rattle.gate_journal.proofs.Blocks.{end-next, end-take}
use Rattle.gate_journal.proofs.area.Area.place_of.Goals as goal

-- the record of the next body ends where the bodies up to it do
next_end : (c : goal.After-len) → end_of (take (c.loop-body.body-index + 1) c.args.self.now.bodies) ≡ c.loop-body.place + (5 + c.len.result)
next_end c =
    let all : c.as_slice.result.now ≡ c.args.self.now.bodies = c.as_slice.ensures ∙ ap (λ (a : AreaState). a.bodies) c.self.view_is in
    let item = c.body-item.result in
    let k = c.loop-body.body-index in
    let within = subst (λ (l : List (List ℕ)). k < length (take c.args.index l)) all c.loop-body-test.true in
    let is = subst (λ (l : List (List ℕ)). item ≡ get_or (take c.args.index l) k item) all c.body-item.is in
    omega (arith, c.loop-body.invariant, c.len.ensures, end-next c.args.self.now.bodies c.args.index k item within is)

-- and so within the records of all the bodies, whose end is a `u64`
next_fits : (c : goal.After-len) → c.loop-body.place + (5 + c.len.result) < 2 ^ 64
next_fits c =
    let all = ap (λ (a : AreaState). end_of a.bodies) c.self.view_is in
    omega (arith, next_end c, end-take c.args.self.now.bodies (c.loop-body.body-index + 1), all, c.self.invariant.0, c.self.invariant.1)

pub overflow_add-place : goal.overflow_add-place
overflow_add-place c = let fits = next_fits c in search rules

pub overflow_add-place-in-loop-body : goal.overflow_add-place-in-loop-body
overflow_add-place-in-loop-body c = let fits = next_fits c in search rules

pub loop-body-preserved : goal.loop-body-preserved
loop-body-preserved c = sym (next_end c)
