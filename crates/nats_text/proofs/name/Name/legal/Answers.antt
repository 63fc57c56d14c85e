use Rattle.nats_text.specs.Text.{is_name}
use Rattle.nats_text.proofs.Places.{legal_where_none}
use Rattle.nats_text.proofs.name.Name.legal.Goals as goal

pub returns : goal.returns
returns c = legal_where_none is_name c.args.bytes.now c.bad_place.result c.is_none.result c.bad_place.ensures c.is_none.ensures
