use Rattle.record_codec.proofs.Spelled.{encoded_again}
use Rattle.record_codec.proofs.encoding.encode.Goals as goal

pub returns-else-is_err-clause-again : goal.returns-else-is_err-clause-again
returns-else-is_err-clause-again c = encoded_again c.put_rec-outcome.result c.args.rec.now c.put_rec-outcome.ensures.speakable
