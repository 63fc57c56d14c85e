use Rattle.std.proofs.Common.{◌≡◌, ◌+◌, ◌-◌, Option, Some, None, length, refl, sym, subst, ap, ◌∙◌, arith, Bor}
use Rattle.std.specs.Prelude.{IsSome}
use Rattle.std.specs.Option.{option_copied}
use Rattle.nats_text.specs.declared.message.Message.{Message}
use Rattle.stream_fold.specs.Histories.{message_at}
use Rattle.stream_fold.specs.Publishing.{next_match}
use Rattle.push_consumer.specs.Counts.{progress_in}
use Rattle.push_consumer.specs.Progress.{ConsumerState}
use Rattle.push_consumer.proofs.Counting.{sum_of}
use Rattle.push_consumer.proofs.Finding.{next_kept, rows_next}
use Rattle.push_consumer.proofs.Pumping.{IsUnderWay, IsDone, goes_on, ends_budget, ends_window, ends_rows}
use Rattle.push_consumer.proofs.consumer.Consumer.send_all.Goals as goal
use Rattle.push_consumer.proofs.consumer.Consumer.send_all.Goals.{then-loop-left-test+else-not-is_spent, else-loop-left-test, then-loop-left-test+then-not-is_spent+in_default}

some_copied : (o : Option (Bor Message)) (m : Message) → option_copied o ≡ Some m → IsSome o
some_copied None m e = absurd (cc)
some_copied (Some x) m e = refl

pub unwrap-message-requires : goal.unwrap-message-requires
unwrap-message-requires c =
    let rows = c.args.state.now.held.rows in
    let next : next_match c.loop-left.from c.args.self.now.wanted.filters rows ≡ Some c.in-Some.seq = ap (λ (s : ConsumerState). next_match c.loop-left.from s.wanted.filters rows) (sym c.self.view_is) ∙ (sym c.next_match.ensures ∙ c.in-Some.is) in
    let kept = next_kept c.loop-left.from c.in-Some.seq c.args.self.now.wanted.filters rows next in
    some_copied c.kept.result kept.0 (c.kept.ensures ∙ kept.1)

pub overflow_sub-pending : goal.overflow_sub-pending
overflow_sub-pending c =
    let rows = c.args.state.now.held.rows in
    let filters = c.args.self.now.wanted.filters in
    let next : next_match c.loop-left.from filters rows ≡ Some c.in-Some.seq = ap (λ (s : ConsumerState). next_match c.loop-left.from s.wanted.filters rows) (sym c.self.view_is) ∙ (sym c.next_match.ensures ∙ c.in-Some.is) in
    let kept = next_kept c.loop-left.from c.in-Some.seq filters rows next in
    let all = rows_next c.loop-left.from c.in-Some.seq filters rows kept.0 next kept.1 in
    omega (arith, ap length all, c.loop-left.invariant.under_way.waiting)

pub loop-left-preserved : goal.loop-left-preserved
loop-left-preserved c =
    let rows = c.args.state.now.held.rows in
    let q = progress_in c.loop-left.counts in
    let seq = c.in-Some.seq in
    let message = c.unwrap-message.result.now in
    let next : next_match c.loop-left.from c.args.self.now.wanted.filters rows ≡ Some seq = ap (λ (s : ConsumerState). next_match c.loop-left.from s.wanted.filters rows) (sym c.self.view_is) ∙ (sym c.next_match.ensures ∙ c.in-Some.is) in
    let found : message_at seq rows ≡ Some message = sym c.kept.ensures ∙ ap option_copied c.unwrap-message.ensures in
    let on = goes_on c.args.self.now rows c.args.budget c.loop-left.left c.loop-left.from c.loop-left.pending q c.loop-left.packets seq message (progress_in c.send.new.counts) c.send.new.packets
    c.loop-left.invariant.under_way c.loop-left-test.true (sym c.is_spent.ensures ∙ c.if-not-is_spent.true) next found c.in_ok-send.ensures.progress c.in_ok-send.ensures.packets in
    let sum = sum_of c.checked_add.result _ (seq + 1) c.in_ok-from-2.from c.checked_add.ensures c.in_ok-from-2.ensures.ok_part in
    record {
      sound = c.in_ok-send.ensures.sound;
      under_way = subst (λ n. IsUnderWay c.args.self.now rows c.args.budget (c.loop-left.left - 1) n (c.loop-left.pending - 1) (progress_in c.send.new.counts) c.send.new.packets) (sym sum.1) on;
    }

done : (c : goal.Left-loop-left) → IsDone c.args.self.now c.args.state.now.held.rows c.args.budget (progress_in c.loop-left.counts) c.loop-left.packets
done c =
    let rows = c.args.state.now.held.rows in
    let q = progress_in c.loop-left.counts in
    let l = c.loop-left in
    elim c.loop-left-test.branch [
      | then-loop-left-test+else-not-is_spent w ↦ ends_window c.args.self.now rows c.args.budget l.left l.from l.pending q l.packets l.invariant.under_way (sym w.is_spent.ensures ∙ w.if-not-is_spent.false)
      | else-loop-left-test w ↦ ends_budget c.args.self.now rows c.args.budget l.left l.from l.pending q l.packets l.invariant.under_way w.loop-left-test.false
      | then-loop-left-test+then-not-is_spent+in_default w ↦ ends_rows c.args.self.now rows c.args.budget l.left l.from l.pending q l.packets l.invariant.under_way (ap (λ (s : ConsumerState). next_match l.from s.wanted.filters rows) (sym c.self.view_is) ∙ (sym w.next_match.ensures ∙ w.in_default.is))
    ]

pub returns-clause-packets : goal.returns-clause-packets
returns-clause-packets c = (done c).sends

pub returns-clause-progress : goal.returns-clause-progress
returns-clause-progress c = (done c).counts
