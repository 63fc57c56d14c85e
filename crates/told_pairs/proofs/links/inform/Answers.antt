use Rattle.std.proofs.Common.{sym, ap, ◌∙◌, subst}
use Rattle.interest_list.specs.Tellings.{told, changes as frames_between}
use Rattle.told_pairs.specs.Tellings.{AreAll, LinkTellings, told_list}
use Rattle.told_pairs.proofs.Loops.{frames_are, settled_is}
use Rattle.told_pairs.proofs.Saying.{told_is}
use Rattle.told_pairs.proofs.Weights.{on_err_any}
use Rattle.told_pairs.proofs.links.inform.Goals as goal

pub returns-in_err-make_places-clause-err : goal.returns-in_err-make_places-clause-err
returns-in_err-make_places-clause-err c = on_err_any c.from_residual-in_err-make_places.result (c.make_places.ensures.list ∙ ap (λ (to : LinkTellings). told_list to.told) c.to.view_is)

pub returns-clause-frames : goal.returns-clause-frames
returns-clause-frames c = λ subs h.
    c.in_ok-frames.ensures.frames
    ∙ (sym (frames_are c.args.link subs c.args.wants.now.entries c.to.inside.told.entries c.in_ok-pairs.pairs.keys c.len.ensures.ordered c.in_ok-frames.ensures.pairs (subst (λ (to : LinkTellings). AreAll c.args.wants.now.entries c.args.link to.told c.in_ok-pairs.pairs.keys) (sym c.to.view_is) c.in_ok-pairs.ensures) h)
    ∙ ap (λ (to : LinkTellings). frames_between (told_list to.told) (told c.args.link subs)) c.to.view_is)

pub returns-clause-ok : goal.returns-clause-ok
returns-clause-ok c = λ subs h.
    told_is c.args.link subs c.args.wants.now.entries c.settle.new.told.entries c.len-2.ensures.ordered h
    (settled_is c.args.wants.now.entries c.args.link c.in_ok-pairs.pairs.keys c.to.inside.told.entries c.make_places.new.told.entries c.settle.new.told.entries (subst (λ (to : LinkTellings). AreAll c.args.wants.now.entries c.args.link to.told c.in_ok-pairs.pairs.keys) (sym c.to.view_is) c.in_ok-pairs.ensures) c.make_places.ensures.same c.settle.ensures)
