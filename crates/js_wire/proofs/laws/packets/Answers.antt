use Rattle.js_wire.proofs.Whole.{one_each}
use Rattle.js_wire.proofs.laws.packets.Goals as goal

pub returns : goal.returns
returns c = λ p q h k e. one_each p q h k e
