use Rattle.std.proofs.Common.{◌≡◌, ℕ, ◌+◌, ◌++◌, true, List, length, take, drop, get_or, sym, ap, ◌∙◌, arith}
use Rattle.std.proofs.Math.ListN.{set}
use Rattle.push_consumer.specs.Progress.{ConsumerState}
use Rattle.std.proofs.lemmas.List.{get_or_default}
use Rattle.shard_machine.specs.Answers.{reads_stream}
use Rattle.shard_copies.specs.Pumped.{put_back}
use Rattle.shard_copies.proofs.Steps.{pass-step, swap-step, put-rest}
use Rattle.shard_copies.proofs.pumps.put_back.Goals as goal
use Rattle.shard_copies.proofs.pumps.put_back.Goals.{then-reads, else-reads}

pub loop-place-preserved : goal.loop-place-preserved
loop-place-preserved c =
    let name = c.args.name.now in
    let all = c.loop-place.all in
    let next = c.loop-place.next in
    let i = c.loop-place.place in
    let j = c.loop-place.taken in
    let x = get_or all i c.index-all-place.result in
    elim c.if-reads.branch [
      | then-reads w ↦
          let z = get_or all i w.index-all-place-then-reads.result in
          let passes : reads_stream name z ≡ true = ap (reads_stream name) (get_or_default all i w.index-all-place-then-reads.result c.index-all-place.result c.loop-place-test.true) ∙ (sym c.reads.ensures ∙ w.if-reads.true) in
          let y = get_or next j w.index-next-taken.result in
          let here : c.if-reads.all ≡ set all i y = w.all-is ∙ ap (set all i) w.swap.ensures.x_after in
          let there : c.if-reads.next ≡ set next j z = w.next-is ∙ ap (set next j) w.swap.ensures.y_after in
          record {
            place = omega arith;
            taken = omega (arith, w.taken-is, c.if-taken-next.true);
            work =
                ap (λ (a : List ConsumerState). take (i + 1) a ++ put_back name (drop c.if-reads.taken c.if-reads.next) (drop (i + 1) a)) here
                ∙ (ap (λ (n : List ConsumerState). take (i + 1) (set all i y) ++ put_back name (drop c.if-reads.taken n) (drop (i + 1) (set all i y))) there
                ∙ (ap (λ (t : ℕ). take (i + 1) (set all i y) ++ put_back name (drop t (set next j z)) (drop (i + 1) (set all i y))) w.taken-is
                ∙ (sym (swap-step name all next i j z y c.loop-place-test.true c.if-taken-next.true (ap (get_or all i) w.index-all-place-then-reads.is) (ap (get_or next j) w.index-next-taken.is) passes)
                ∙ c.loop-place.invariant.work)));
          }
      | else-reads w ↦
          record {
            place = omega arith;
            taken = omega (arith, w.taken-is, c.if-taken-next.true);
            work =
                ap (λ (a : List ConsumerState). take (i + 1) a ++ put_back name (drop c.if-reads.taken c.if-reads.next) (drop (i + 1) a)) w.all-is
                ∙ (ap (λ (n : List ConsumerState). take (i + 1) all ++ put_back name (drop c.if-reads.taken n) (drop (i + 1) all)) w.next-is
                ∙ (ap (λ (t : ℕ). take (i + 1) all ++ put_back name (drop t next) (drop (i + 1) all)) w.taken-is
                ∙ (sym (pass-step name all next i j x c.loop-place-test.true (ap (get_or all i) c.index-all-place.is) (sym c.reads.ensures ∙ w.if-reads.false))
                ∙ c.loop-place.invariant.work)));
          }
    ]

pub returns-else-taken-next : goal.returns-else-taken-next
returns-else-taken-next c = sym (put-rest c.args.name.now c.loop-place.all c.loop-place.next c.loop-place.place c.loop-place.taken c.if-taken-next.false) ∙ c.loop-place.invariant.work
