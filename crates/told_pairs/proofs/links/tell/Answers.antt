use Rattle.std.proofs.Common.{ℕ, List, map, Some, refl, sym, ap, ◌∙◌, subst}
use Rattle.std.proofs.lemmas.Option.{same_Some}
use Rattle.interest_list.specs.declared.telling.Told.{Told}
use Rattle.interest_list.specs.Lists.{link_cmp}
use Rattle.interest_list.specs.Orders.{placed}
use Rattle.interest_list.specs.Tellings.{told, changes as frames_between}
use Rattle.told_pairs.specs.Tellings.{IsCovered, LinkTellings, told_link}
use Rattle.told_pairs.proofs.Covering.{covered_put}
use Rattle.told_pairs.proofs.LinkLists.{before_found, held_in, list_set, list_same}
use Rattle.told_pairs.proofs.Weights.{if_ok, on_ok, on_err}
use Rattle.told_pairs.proofs.links.tell.Goals as goal

pub returns-in-Some-clause-covered : goal.returns-in-Some-clause-covered
returns-in-Some-clause-covered c =
    let wants = c.args.wants.now.entries in
    let changed = c.args.changes.now.pairs.items in
    let base = c.args.changes.now.base in
    let new = c.inform.new.to in
    covered_put wants changed base c.args.link c.args.links.now.entries (c.get_mut.follows.lender new).entries (Some new) ((c.get_mut.follows.holds new).3 (rw (sym c.in-Some.ensures.value) refl)).0
    (λ to e. subst (λ (t : LinkTellings). IsCovered wants changed base c.args.link t) (same_Some new to e) c.inform.ensures.covered) c.requires

pub returns-in-Some-clause-frames : goal.returns-in-Some-clause-frames
returns-in-Some-clause-frames c =
    if_ok c.inform.result (λ it f. λ subs h. f subs h
    ∙ ap (λ (l : List Told). frames_between l (told c.args.link subs)) (sym (before_found c.args.link c.args.links.now.entries ∙ ap held_in (sym c.in-Some.ensures.value)))) c.inform.ensures.frames

pub returns-in-Some-clause-ok : goal.returns-in-Some-clause-ok
returns-in-Some-clause-ok c =
    let new = c.inform.new.to in
    on_ok c.inform.result (λ f. λ subs h.
    ap (λ (es : List (ℕ × LinkTellings)). map told_link es) (c.get_mut.follows.holds new).0
    ∙ (list_set c.args.link new c.args.links.now.entries c.in-Some.to.now c.get_mut.ensures.ordered (sym c.in-Some.ensures.value)
    ∙ ap (λ (l : List Told). placed link_cmp (record { link = c.args.link; told = l }) (map told_link c.args.links.now.entries)) (f subs h))) c.inform.ensures.ok

pub returns-in-Some-clause-err : goal.returns-in-Some-clause-err
returns-in-Some-clause-err c =
    let new = c.inform.new.to in
    on_err c.inform.result (λ same.
    ap (λ (es : List (ℕ × LinkTellings)). map told_link es) (c.get_mut.follows.holds new).0
    ∙ list_same c.args.link new c.args.links.now.entries c.in-Some.to.now (sym c.in-Some.ensures.value) same) c.inform.ensures.err
