use Rattle.std.proofs.Common.{◌≡◌, ℕ, ◌+◌, ◌≤◌, List, [], ◌∷◌, ◌++◌, length, subst, sym, ap, ◌∙◌, inl, true, arith}
use Rattle.std.proofs.lemmas.Result.{err_from_is_err_and}
use Rattle.std.specs.Prelude.{Err}
use Rattle.leaf_edges.specs.Disks.{wrote, synced}
use Rattle.gate_journal.specs.Areas.{end_of, max_area, IsArea}
use Rattle.gate_journal.specs.Journals.{JournalState, Stands, IsBeforeOrAfter, MayTear, Does, append_calls, staged}
use Rattle.gate_journal.proofs.Blocks.{end-push}
use Rattle.gate_journal.proofs.Moments.{weaker, joined}
use Rattle.gate_journal.proofs.Appends.{length-staged, tear_short, written_short, torn_before, torn_after, ready, ready_area, finished, does_first, does_second}
use Rattle.gate_journal.proofs.journal.Journal.append.Goals as goal

pub returns-in_err-write_and_sync-clause-any_moment : goal.returns-in_err-write_and_sync-clause-any_moment
returns-in_err-write_and_sync-clause-any_moment g c = λ bodies tells stands.
    let body = c.args.body.now in
    let gen = c.args.self.now.generation in
    let at = c.self.inside.end in
    let d0 = c.args.disk.now in
    let d1 = c.write_and_sync.new.disk in
    let images = g.D.Disk.images in
    let seen = g.D.Disk.seen in
    let e : at ≡ end_of bodies = ap (λ (j : JournalState). j.end) c.self.view_is ∙ stands.place in
    let P = IsBeforeOrAfter gen bodies body in
    let reach : at + 1 + length c.deref.result.now ≤ max_area = omega (arith, ap length (c.deref.ensures.value ∙ c.in_ok-stage.ensures.bytes), length-staged body, c.requires.room, ap (λ (j : JournalState). j.end) c.self.view_is) in
    let first = weaker g.D.Disk.moment g.D.Disk.left_since images d0 d1 (MayTear (images d0) (at + 1) (length c.deref.result.now)) P
    (λ f may. (tear_short max_area (at + 1) (length c.deref.result.now) (images d0) stands.short reach f may, inl (torn_before gen bodies at e (images d0) stands.each (length c.deref.result.now) f may))) (c.write_and_sync.ensures.any_moment tells) in
    first

pub returns-in_err-write_and_sync-clause-memory : goal.returns-in_err-write_and_sync-clause-memory
returns-in_err-write_and_sync-clause-memory g c = λ bodies tells stands none.
    let p = err_from_is_err_and c.from_residual-in_err-write_and_sync.result c.from_residual-in_err-write_and_sync.ensures.1 in
    let was = c.in_err-write_and_sync.was in
    let one = p.1 in
    let two = p.2 in
    let left = c.write_and_sync.ensures.memory tells cc in
    let as_inside = subst (λ (j : JournalState). Stands g.D.Disk.images c.args.disk.now j bodies) (sym c.self.view_is) stands in
    record { counted = as_inside.counted; place = as_inside.place; each = λ f now. as_inside.each f (left.no_more f now); short = λ f now. as_inside.short f (left.no_more f now) }

pub returns-in_err-write_and_sync-clause-calls : goal.returns-in_err-write_and_sync-clause-calls
returns-in_err-write_and_sync-clause-calls g c = λ tells.
    let same : c.deref.result.now ≡ staged c.args.body.now = c.deref.ensures.value ∙ c.in_ok-stage.ensures.bytes in
    let p = err_from_is_err_and c.from_residual-in_err-write_and_sync.result c.from_residual-in_err-write_and_sync.ensures.1 in
    let at = c.self.inside.end in
    subst (λ (j : JournalState). Does g.D.Disk.done g.D.Disk.failed c.args.disk.now c.write_and_sync.new.disk (append_calls j.end c.args.body.now) c.from_residual-in_err-write_and_sync.result) c.self.view_is
    (subst (λ (b : List ℕ). Does g.D.Disk.done g.D.Disk.failed c.args.disk.now c.write_and_sync.new.disk (wrote (c.self.inside.end + 1) b ∷ synced ∷ wrote c.self.inside.end (1 ∷ []) ∷ synced ∷ []) c.from_residual-in_err-write_and_sync.result) same
    (does_first _ g.D.Disk.done g.D.Disk.failed (wrote (at + 1) c.deref.result.now) synced (wrote at (1 ∷ [])) synced c.args.disk.now c.write_and_sync.new.disk c.write_and_sync.result c.from_residual-in_err-write_and_sync.result
    c.in_err-write_and_sync.field-0.0 c.in_err-write_and_sync.was (p.1 ∙ ap Err p.2) (c.write_and_sync.ensures.calls tells)))

pub returns-in_err-write_and_sync-2-clause-any_moment : goal.returns-in_err-write_and_sync-2-clause-any_moment
returns-in_err-write_and_sync-2-clause-any_moment g c = λ bodies tells stands.
    let body = c.args.body.now in
    let gen = c.args.self.now.generation in
    let at = c.self.inside.end in
    let d0 = c.args.disk.now in
    let d1 = c.write_and_sync.new.disk in
    let images = g.D.Disk.images in
    let seen = g.D.Disk.seen in
    let e : at ≡ end_of bodies = ap (λ (j : JournalState). j.end) c.self.view_is ∙ stands.place in
    let P = IsBeforeOrAfter gen bodies body in
    let reach : at + 1 + length c.deref.result.now ≤ max_area = omega (arith, ap length (c.deref.ensures.value ∙ c.in_ok-stage.ensures.bytes), length-staged body, c.requires.room, ap (λ (j : JournalState). j.end) c.self.view_is) in
    let first = weaker g.D.Disk.moment g.D.Disk.left_since images d0 d1 (MayTear (images d0) (at + 1) (length c.deref.result.now)) P
    (λ f may. (tear_short max_area (at + 1) (length c.deref.result.now) (images d0) stands.short reach f may, inl (torn_before gen bodies at e (images d0) stands.each (length c.deref.result.now) f may))) (c.write_and_sync.ensures.any_moment tells) in
    let same : c.deref.result.now ≡ staged body = c.deref.ensures.value ∙ c.in_ok-stage.ensures.bytes in
    let is_ready = ready gen bodies at e body (seen d0) (seen d1) c.deref.result.now (stands.each (seen d0) (g.met.D.Disk.seen_is_image d0 tells)) same (c.in_ok-write_and_sync.ensures.written tells) in
    let only = c.in_ok-write_and_sync.ensures.durable tells in
    let short = written_short max_area (at + 1) (seen d0) (seen d1) c.deref.result.now (stands.short (seen d0) (g.met.D.Disk.seen_is_image d0 tells)) reach (c.in_ok-write_and_sync.ensures.written tells) in
    let d2 = c.write_and_sync-2.new.disk in
    let second = weaker g.D.Disk.moment g.D.Disk.left_since images d1 d2 (MayTear (images d1) at 1) P
    (λ f may. (tear_short max_area at 1 (images d1) (λ x now. omega (arith, short, ap length (only x now))) (omega (arith, reach)) f may, torn_after gen bodies at e body (c.requires.some, c.requires.most) (images d1) (seen d1) only is_ready f may)) (c.write_and_sync-2.ensures.any_moment tells) in
    joined g.D.Disk.moment g.D.Disk.left_since images d0 d1 d2 P first second

pub returns-in_err-write_and_sync-2-clause-memory : goal.returns-in_err-write_and_sync-2-clause-memory
returns-in_err-write_and_sync-2-clause-memory g c = λ bodies tells stands none.
    let body = c.args.body.now in
    let gen = c.args.self.now.generation in
    let at = c.self.inside.end in
    let d0 = c.args.disk.now in
    let d1 = c.write_and_sync.new.disk in
    let images = g.D.Disk.images in
    let seen = g.D.Disk.seen in
    let e : at ≡ end_of bodies = ap (λ (j : JournalState). j.end) c.self.view_is ∙ stands.place in
    let P = IsBeforeOrAfter gen bodies body in
    let reach : at + 1 + length c.deref.result.now ≤ max_area = omega (arith, ap length (c.deref.ensures.value ∙ c.in_ok-stage.ensures.bytes), length-staged body, c.requires.room, ap (λ (j : JournalState). j.end) c.self.view_is) in
    let first = weaker g.D.Disk.moment g.D.Disk.left_since images d0 d1 (MayTear (images d0) (at + 1) (length c.deref.result.now)) P
    (λ f may. (tear_short max_area (at + 1) (length c.deref.result.now) (images d0) stands.short reach f may, inl (torn_before gen bodies at e (images d0) stands.each (length c.deref.result.now) f may))) (c.write_and_sync.ensures.any_moment tells) in
    let same : c.deref.result.now ≡ staged body = c.deref.ensures.value ∙ c.in_ok-stage.ensures.bytes in
    let is_ready = ready gen bodies at e body (seen d0) (seen d1) c.deref.result.now (stands.each (seen d0) (g.met.D.Disk.seen_is_image d0 tells)) same (c.in_ok-write_and_sync.ensures.written tells) in
    let only = c.in_ok-write_and_sync.ensures.durable tells in
    let short = written_short max_area (at + 1) (seen d0) (seen d1) c.deref.result.now (stands.short (seen d0) (g.met.D.Disk.seen_is_image d0 tells)) reach (c.in_ok-write_and_sync.ensures.written tells) in
    let p = err_from_is_err_and c.from_residual-in_err-write_and_sync-2.result c.from_residual-in_err-write_and_sync-2.ensures.1 in
    let was = c.in_err-write_and_sync-2.was in
    let one = p.1 in
    let two = p.2 in
    let left = c.write_and_sync-2.ensures.memory tells cc in
    let as_inside = subst (λ (j : JournalState). Stands g.D.Disk.images c.args.disk.now j bodies) (sym c.self.view_is) stands in
    let generation : gen ≡ c.self.inside.generation = ap (λ (j : JournalState). j.generation) (sym c.self.view_is) in
    record {
      counted = as_inside.counted;
      place = as_inside.place;
      each = λ f now. subst (λ (k : ℕ). IsArea true k bodies f) generation (subst (IsArea true gen bodies) (sym (only f (left.no_more f now))) (ready_area gen bodies at e body (seen d1) is_ready));
      short = λ f now. omega (arith, short, ap length (only f (left.no_more f now)));
    }

pub returns-in_err-write_and_sync-2-clause-calls : goal.returns-in_err-write_and_sync-2-clause-calls
returns-in_err-write_and_sync-2-clause-calls g c = λ tells.
    let same : c.deref.result.now ≡ staged c.args.body.now = c.deref.ensures.value ∙ c.in_ok-stage.ensures.bytes in
    let p = err_from_is_err_and c.from_residual-in_err-write_and_sync-2.result c.from_residual-in_err-write_and_sync-2.ensures.1 in
    let at = c.self.inside.end in
    let begun = c.in_ok-write_and_sync.ensures.calls tells in
    subst (λ (j : JournalState). Does g.D.Disk.done g.D.Disk.failed c.args.disk.now c.write_and_sync-2.new.disk (append_calls j.end c.args.body.now) c.from_residual-in_err-write_and_sync-2.result) c.self.view_is
    (subst (λ (b : List ℕ). Does g.D.Disk.done g.D.Disk.failed c.args.disk.now c.write_and_sync-2.new.disk (wrote (c.self.inside.end + 1) b ∷ synced ∷ wrote c.self.inside.end (1 ∷ []) ∷ synced ∷ []) c.from_residual-in_err-write_and_sync-2.result) same
    (does_second _ g.D.Disk.done g.D.Disk.failed (wrote (at + 1) c.deref.result.now) synced (wrote at (1 ∷ [])) synced c.args.disk.now c.write_and_sync.new.disk c.write_and_sync-2.new.disk
    c.write_and_sync-2.result c.from_residual-in_err-write_and_sync-2.result c.in_err-write_and_sync-2.field-0.0 c.in_err-write_and_sync-2.was (p.1 ∙ ap Err p.2)
    (record { added = begun.0; last = begun.1 })
    (λ none. let left = c.write_and_sync-2.ensures.memory tells none in (left.list, left.last))
    (c.write_and_sync-2.ensures.calls tells)))

pub returns-clause-any_moment : goal.returns-clause-any_moment
returns-clause-any_moment g c = λ bodies tells stands.
    let body = c.args.body.now in
    let gen = c.args.self.now.generation in
    let at = c.self.inside.end in
    let d0 = c.args.disk.now in
    let d1 = c.write_and_sync.new.disk in
    let images = g.D.Disk.images in
    let seen = g.D.Disk.seen in
    let e : at ≡ end_of bodies = ap (λ (j : JournalState). j.end) c.self.view_is ∙ stands.place in
    let P = IsBeforeOrAfter gen bodies body in
    let reach : at + 1 + length c.deref.result.now ≤ max_area = omega (arith, ap length (c.deref.ensures.value ∙ c.in_ok-stage.ensures.bytes), length-staged body, c.requires.room, ap (λ (j : JournalState). j.end) c.self.view_is) in
    let first = weaker g.D.Disk.moment g.D.Disk.left_since images d0 d1 (MayTear (images d0) (at + 1) (length c.deref.result.now)) P
    (λ f may. (tear_short max_area (at + 1) (length c.deref.result.now) (images d0) stands.short reach f may, inl (torn_before gen bodies at e (images d0) stands.each (length c.deref.result.now) f may))) (c.write_and_sync.ensures.any_moment tells) in
    let same : c.deref.result.now ≡ staged body = c.deref.ensures.value ∙ c.in_ok-stage.ensures.bytes in
    let is_ready = ready gen bodies at e body (seen d0) (seen d1) c.deref.result.now (stands.each (seen d0) (g.met.D.Disk.seen_is_image d0 tells)) same (c.in_ok-write_and_sync.ensures.written tells) in
    let only = c.in_ok-write_and_sync.ensures.durable tells in
    let short = written_short max_area (at + 1) (seen d0) (seen d1) c.deref.result.now (stands.short (seen d0) (g.met.D.Disk.seen_is_image d0 tells)) reach (c.in_ok-write_and_sync.ensures.written tells) in
    let d2 = c.write_and_sync-2.new.disk in
    let second = weaker g.D.Disk.moment g.D.Disk.left_since images d1 d2 (MayTear (images d1) at 1) P
    (λ f may. (tear_short max_area at 1 (images d1) (λ x now. omega (arith, short, ap length (only x now))) (omega (arith, reach)) f may, torn_after gen bodies at e body (c.requires.some, c.requires.most) (images d1) (seen d1) only is_ready f may)) (c.write_and_sync-2.ensures.any_moment tells) in
    joined g.D.Disk.moment g.D.Disk.left_since images d0 d1 d2 P first second

pub returns-clause-ok : goal.returns-clause-ok
returns-clause-ok g c = λ bodies tells stands.
    let body = c.args.body.now in
    let gen = c.args.self.now.generation in
    let at = c.self.inside.end in
    let d0 = c.args.disk.now in
    let d1 = c.write_and_sync.new.disk in
    let images = g.D.Disk.images in
    let seen = g.D.Disk.seen in
    let e : at ≡ end_of bodies = ap (λ (j : JournalState). j.end) c.self.view_is ∙ stands.place in
    let P = IsBeforeOrAfter gen bodies body in
    let reach : at + 1 + length c.deref.result.now ≤ max_area = omega (arith, ap length (c.deref.ensures.value ∙ c.in_ok-stage.ensures.bytes), length-staged body, c.requires.room, ap (λ (j : JournalState). j.end) c.self.view_is) in
    let first = weaker g.D.Disk.moment g.D.Disk.left_since images d0 d1 (MayTear (images d0) (at + 1) (length c.deref.result.now)) P
    (λ f may. (tear_short max_area (at + 1) (length c.deref.result.now) (images d0) stands.short reach f may, inl (torn_before gen bodies at e (images d0) stands.each (length c.deref.result.now) f may))) (c.write_and_sync.ensures.any_moment tells) in
    let same : c.deref.result.now ≡ staged body = c.deref.ensures.value ∙ c.in_ok-stage.ensures.bytes in
    let is_ready = ready gen bodies at e body (seen d0) (seen d1) c.deref.result.now (stands.each (seen d0) (g.met.D.Disk.seen_is_image d0 tells)) same (c.in_ok-write_and_sync.ensures.written tells) in
    let only = c.in_ok-write_and_sync.ensures.durable tells in
    let short = written_short max_area (at + 1) (seen d0) (seen d1) c.deref.result.now (stands.short (seen d0) (g.met.D.Disk.seen_is_image d0 tells)) reach (c.in_ok-write_and_sync.ensures.written tells) in
    let as_inside = subst (λ (j : JournalState). Stands g.D.Disk.images c.args.disk.now j bodies) (sym c.self.view_is) stands in
    let d2 = c.write_and_sync-2.new.disk in
    let done = finished gen bodies at e body (c.requires.some, c.requires.most) (seen d1) (seen d2) is_ready (c.in_ok-write_and_sync-2.ensures.written tells) in
    let generation : gen ≡ c.self.inside.generation = ap (λ (j : JournalState). j.generation) (sym c.self.view_is) in
    record {
      counted = as_inside.counted;
      place = omega (arith, e, end-push bodies body);
      each = λ f now. subst (λ (k : ℕ). IsArea true k (bodies ++ body ∷ []) f) generation (subst (IsArea true gen (bodies ++ body ∷ [])) (sym (c.in_ok-write_and_sync-2.ensures.durable tells f now)) done);
      short = λ f now. omega (arith, written_short max_area at (seen d1) (seen d2) (1 ∷ []) short (omega (arith, reach)) (c.in_ok-write_and_sync-2.ensures.written tells), ap length (c.in_ok-write_and_sync-2.ensures.durable tells f now));
    }
