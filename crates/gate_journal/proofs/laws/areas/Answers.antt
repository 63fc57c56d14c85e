use Rattle.gate_journal.specs.declared.area.Ending.TheVariants.{Closed}
use Rattle.std.proofs.Common.{refl}
use Rattle.gate_journal.proofs.Endings.{held_of, whole_of}
use Rattle.gate_journal.proofs.Unique.{one_area, one_place, whole, one_held, held_headed}
use Rattle.gate_journal.proofs.laws.areas.Goals as goal

pub returns-clause-read : goal.returns-clause-read
returns-clause-read c = one_area

pub returns-clause-broken : goal.returns-clause-broken
returns-clause-broken c = one_place

pub returns-clause-whole : goal.returns-clause-whole
returns-clause-whole c = whole

pub returns-clause-held : goal.returns-clause-held
returns-clause-held c = one_held

pub returns-clause-bodies : goal.returns-clause-bodies
returns-clause-bodies s = λ c k g bs. (held_of k g bs c, λ held. whole_of (record { counts = k; generation = g; bodies = bs; ending = Closed }) c held refl)

pub returns-clause-headless : goal.returns-clause-headless
returns-clause-headless c = held_headed
