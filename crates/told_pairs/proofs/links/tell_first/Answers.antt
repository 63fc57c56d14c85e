use Rattle.std.proofs.Common.{ℕ, List, map, Some, sym, ap, ◌∙◌, subst}
use Rattle.std.proofs.lemmas.Option.{same_Some}
use Rattle.interest_list.specs.declared.telling.Told.{Told}
use Rattle.interest_list.specs.Lists.{link_cmp}
use Rattle.interest_list.specs.Orders.{placed}
use Rattle.interest_list.specs.Tellings.{told, changes as frames_between}
use Rattle.told_pairs.specs.declared.pair.Pair.{Pair}
use Rattle.told_pairs.specs.Tellings.{IsCovered, LinkTellings, told_link, told_list}
use Rattle.told_pairs.proofs.Covering.{covered_put}
use Rattle.told_pairs.proofs.LinkLists.{before_found, held_in, list_insert}
use Rattle.told_pairs.proofs.links.tell_first.Goals as goal

pub returns-clause-covered : goal.returns-clause-covered
returns-clause-covered c =
    let wants = c.args.wants.now.entries in
    let changed = c.args.changes.now.pairs.items in
    let base = c.args.changes.now.base in
    covered_put wants changed base c.args.link c.args.links.now.entries c.insert.new.self.entries (Some c.inform.new.to) c.in_ok-insert.ensures.updates.0
    (λ to e. subst (λ (t : LinkTellings). IsCovered wants changed base c.args.link t) (same_Some c.inform.new.to to e) c.inform.ensures.covered) c.requires.covered

pub returns-clause-frames : goal.returns-clause-frames
returns-clause-frames c = λ subs h.
    c.in_ok-frames.ensures.frames subs h
    ∙ (ap (λ (es : List (Pair × ℕ)). frames_between (told_list es) (told c.args.link subs)) c.new.ensures.empty
    ∙ ap (λ (l : List Told). frames_between l (told c.args.link subs)) (sym (before_found c.args.link c.args.links.now.entries ∙ ap held_in c.requires.never)))

pub returns-clause-ok : goal.returns-clause-ok
returns-clause-ok c = λ subs h.
    ap (λ (es : List (ℕ × LinkTellings)). map told_link es) c.in_ok-insert.ensures.entries
    ∙ (list_insert c.args.link c.inform.new.to c.args.links.now.entries
    ∙ ap (λ (l : List Told). placed link_cmp (record { link = c.args.link; told = l }) (map told_link c.args.links.now.entries)) (c.in_ok-frames.ensures.ok subs h))
