use Rattle.std.proofs.Common.{ℕ, ◌+◌, ◌∙◌, sym, ap, subst, List, [], ◌∷◌, ◌++◌, length, drop, All, arith, rules}
use Rattle.std.specs.Prelude.{Ok}
use Rattle.std.proofs.lemmas.List.Elements.{All-append, All-cons, All-nil}
use Rattle.gate_journal.specs.Areas.{IsBody, blocks, end_of}
use Rattle.gate_journal.specs.Walks.{ReadsBody}
use Rattle.gate_journal.specs.declared.walk.Next.{Next}
use Rattle.gate_journal.proofs.Blocks.{end-push}
use Rattle.gate_journal.proofs.Moments.{looks_on}
use Rattle.gate_journal.proofs.Reading.{walk_on}
use Rattle.gate_journal.proofs.walk.read_bodies.Goals as goal

-- one body more was read
pub loop-bodies-preserved : goal.loop-bodies-preserved
loop-bodies-preserved g c =
    let D = g.D.Disk in
    let inv = c.loop-bodies.invariant in
    let d0 = c.args.disk.now in
    let d1 = c.loop-bodies.disk in
    let d2 = c.next_body.new.disk in
    let bodies = c.loop-bodies.bodies in
    let body = c.in-Body.body in
    let place = c.loop-bodies.place in
    let pushed = c.in_ok-push-in-Body.ensures.ok in
    let found = λ (tells : D.tells). subst (λ (n : Next). ReadsBody (drop place (D.seen d1)) (Ok n)) c.in-Body.is (c.in_ok-body.ensures.answer tells) in
    record {
      within = search rules;
      same = search rules;
      leads = g.met.D.Disk.leads_on d0 d1 d2 inv.leads c.next_body.ensures.leads;
      looks = λ tells. looks_on D.seen D.images D.unsynced D.done D.failed D.moment D.left_since d0 d1 d2 (inv.looks tells) (c.next_body.ensures.looks tells);
      place_is = omega (arith, inv.place_is, end-push bodies body, ap end_of pushed, c.len.ensures);
      legal = λ tells. subst (All IsBody) (sym pushed) (All-append IsBody bodies (body ∷ []) (inv.legal tells) (All-cons IsBody body [] (found tells).2 (All-nil IsBody)));
      so_far = λ tells.
          let s = D.seen d0 in
          walk_on s (D.seen d1) (found tells).0 body bodies place (inv.looks tells).same.content (inv.so_far tells) (found tells).1
          ∙ ap (λ (l : List (List ℕ)). blocks l ++ drop (place + (5 + length body)) s) (sym pushed)
          ∙ ap (λ (k : ℕ). blocks c.push.new.self ++ drop (place + (5 + k)) s) (sym c.len.ensures);
    }
