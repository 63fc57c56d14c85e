use Rattle.std.proofs.Common.{◌≡◌, ap, sym, ◌∙◌, subst}
use Rattle.shard_machine.specs.Steps.{entry_of}
use Rattle.shard_table.specs.declared.answered.Prepared.{Prepared}
use Rattle.shard_table.specs.Answering.{IsPrepared, record_in}
use Rattle.shard_table.proofs.Preparing.{doubt-writes, doubt-stores, doubt-binds, doubt-makes, doubt-takes}
use Rattle.shard_table.proofs.answered.Prepared.into_doubt.Goals as goal

pub returns-in-Writes-clause-entry : goal.returns-in-Writes-clause-entry
returns-in-Writes-clause-entry c = λ t v called e ready.
    c.doubt_of.ensures.entry ∙ (doubt-writes t c.in-Writes.entry c.in-Writes.outcome v called e (subst (λ (p : Prepared). IsPrepared t p v called e) c.in-Writes.is ready) ∙ ap (λ (p : Prepared). entry_of (record_in p)) (sym c.in-Writes.is))

pub returns-in-Stores-clause-entry : goal.returns-in-Stores-clause-entry
returns-in-Stores-clause-entry c = λ t v called e ready.
    c.doubt_of-in-Stores.ensures.entry ∙ (doubt-stores t c.in-Stores.entry c.in-Stores.decision v called e (subst (λ (p : Prepared). IsPrepared t p v called e) c.in-Stores.is ready) ∙ ap (λ (p : Prepared). entry_of (record_in p)) (sym c.in-Stores.is))

pub returns-in-Binds-clause-entry : goal.returns-in-Binds-clause-entry
returns-in-Binds-clause-entry c = λ t v called e ready.
    c.doubt_of-in-Binds.ensures.entry ∙ (doubt-binds t c.in-Binds.entry c.in-Binds.decision c.in-Binds.notices v called e (subst (λ (p : Prepared). IsPrepared t p v called e) c.in-Binds.is ready) ∙ ap (λ (p : Prepared). entry_of (record_in p)) (sym c.in-Binds.is))

pub returns-in-Makes-clause-entry : goal.returns-in-Makes-clause-entry
returns-in-Makes-clause-entry c = λ t v called e ready.
    doubt-makes t c.in-Makes.stream c.in-Makes.asking v called e (subst (λ (p : Prepared). IsPrepared t p v called e) c.in-Makes.is ready) ∙ ap (λ (p : Prepared). entry_of (record_in p)) (sym c.in-Makes.is)

pub returns-in-Takes-clause-entry : goal.returns-in-Takes-clause-entry
returns-in-Takes-clause-entry c = λ t v called e ready.
    doubt-takes t c.in-Takes.name c.in-Takes.removal v called e (subst (λ (p : Prepared). IsPrepared t p v called e) c.in-Takes.is ready) ∙ ap (λ (p : Prepared). entry_of (record_in p)) (sym c.in-Takes.is)
