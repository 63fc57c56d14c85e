use Rattle.std.proofs.Common.{arith, refl}
use Rattle.nats_text.proofs.Fronts.{reads_start, reads_more, cut_place, whole_text, early_end}
use Rattle.nats_text.proofs.scan.bad_place.Goals as goal

pub loop-place-init : goal.loop-place-init
loop-place-init c = (omega arith, reads_start c.args.kind)

pub loop-place-preserved : goal.loop-place-preserved
loop-place-preserved c =
    let l = c.loop-place in
    let k = c.in-Some.ensures in
    reads_more c.args.kind c.args.bytes.now l.place l.front l.invariant.1 l.invariant.0 _ c.in-Some.next (omega arith) refl c.in-Some.ensures

pub returns-in-None : goal.returns-in-None
returns-in-None c =
    let l = c.loop-place in
    cut_place c.args.kind c.args.bytes.now l.place l.front l.invariant.1 l.invariant.0 _ (omega arith) refl c.in-None.ensures

pub returns-then-need-eq0 : goal.returns-then-need-eq0
returns-then-need-eq0 c =
    let l = c.loop-place in
    whole_text c.args.kind c.args.bytes.now l.place l.front l.invariant.1 l.invariant.0 (omega arith) (omega arith)

pub returns-else-need-eq0 : goal.returns-else-need-eq0
returns-else-need-eq0 c =
    let l = c.loop-place in
    early_end c.args.kind c.args.bytes.now l.place l.front l.invariant.1 l.invariant.0 (omega arith) (λ none. omega arith)
