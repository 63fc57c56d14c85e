use Rattle.std.proofs.Common.{ℕ, length, refl, sym, ap, ◌∙◌}
use Rattle.std.specs.Prelude.{◌-◌}
use Rattle.shard_machine.specs.Views.{count_gone}
use Rattle.shard_streams.specs.Places.{stored_number}
use Rattle.shard_streams.proofs.Taking.{fits_history, gone_after, gone_none, gone_some, stream_after}
use Rattle.shard_streams.proofs.halves.take_of.Goals as goal

pub apply-requires : goal.apply-requires
apply-requires c =
    let f = c.requires.fits in
    record {
      fits = (f.2.history, f.2.state, fits_history f.0 c.args.standing.now c.args.entry f.1 f.2 f.3);
      room = c.requires.place;
    }

pub returns-in-None-clause-stream : goal.returns-in-None-clause-stream
returns-in-None-clause-stream c = λ name facts s may. stream_after name c.args.standing.now c.args.entry facts s may _ refl (c.apply.ensures.history s.history s.state)

pub returns-in-None-clause-gone : goal.returns-in-None-clause-gone
returns-in-None-clause-gone c = λ name facts s may.
    c.saturating_sub.ensures ∙ gone_none (stored_number c.args.entry) (length c.args.standing.now.state.held.rows) (length c.apply.new.self.held.rows) c.count-before.result c.count-after.result (count_gone facts.stream c.args.entry)
    (sym c.number_put-stored.ensures ∙ c.in-None.is) c.count-before.ensures c.count-after.ensures
    (gone_after name c.args.standing.now c.args.entry facts s may (record { created = c.args.standing.now.created; state = c.apply.new.self }) (c.apply.ensures.history s.history s.state))

pub returns-in-Some-clause-stream : goal.returns-in-Some-clause-stream
returns-in-Some-clause-stream c = λ name facts s may. stream_after name c.args.standing.now c.args.entry facts s may _ refl (c.apply.ensures.history s.history s.state)

pub returns-in-Some-clause-gone : goal.returns-in-Some-clause-gone
returns-in-Some-clause-gone c = λ name facts s may.
    c.saturating_sub-in-Some-2.ensures ∙ (ap (λ (n : ℕ). c.count-before.result - n) c.saturating_sub-in-Some.ensures ∙ gone_some (stored_number c.args.entry) _ (length c.args.standing.now.state.held.rows) (length c.apply.new.self.held.rows) c.count-before.result c.count-after.result (count_gone facts.stream c.args.entry)
    (sym c.number_put-stored.ensures ∙ c.in-Some.is) c.count-before.ensures c.count-after.ensures
    (gone_after name c.args.standing.now c.args.entry facts s may (record { created = c.args.standing.now.created; state = c.apply.new.self }) (c.apply.ensures.history s.history s.state)))
