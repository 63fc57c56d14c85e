use Rattle.std.proofs.Common.{List, [], ◌∷◌, ◌++◌, sym, subst}
use Rattle.stream_fold.specs.declared.entry.Entry.{Entry}
use Rattle.stream_fold.specs.Histories.{History}
use Rattle.stream_fold.specs.Fits.{Fits}
use Rattle.stream_fold.specs.Held.{StandsFor}
use Rattle.leafd_cli.specs.Logs.{StreamLog, history_of}
use Rattle.leafd_cli.proofs.stream.Stream.add.Goals as goal

-- the entry fits the history for which the state stands
pub apply-requires-clause-fits : goal.apply-requires-clause-fits
apply-requires-clause-fits c =
    let h : History = record { config = c.self.inside.config; entries = c.self.inside.log } in
    let P : StreamLog → Type 0 = λ s. Fits (history_of s) c.args.entry in
    (h, c.note.ensures.history h c.self.invariant, subst P (sym c.self.view_is) c.requires)

-- the log grew by the entry that the state took
pub invariant_of-self : goal.invariant_of-self
invariant_of-self c =
    let h : History = record { config = c.self.inside.config; entries = c.self.inside.log } in
    let P : List Entry → Type 0 = λ es. StandsFor c.apply.new.self (record { config = c.self.inside.config; entries = es }) in
    subst P (sym c.in-Ok.ensures.log) (c.apply.ensures.history h (c.note.ensures.history h c.self.invariant))

-- without memory the log stayed
pub invariant_of-self-in-Err : goal.invariant_of-self-in-Err
invariant_of-self-in-Err c =
    let h : History = record { config = c.self.inside.config; entries = c.self.inside.log } in
    let P : List Entry → Type 0 = λ es. StandsFor c.note.new.state (record { config = c.self.inside.config; entries = es }) in
    subst P (sym c.in-Err.ensures.err) (c.note.ensures.history h c.self.invariant)
