use Rattle.std.proofs.Common.{sym, ap, ◌∙◌}
use Rattle.record_codec.specs.Reading.{reading}
use Rattle.record_codec.proofs.Codecs.{ok_is}
use Rattle.record_codec.proofs.Spelled.{reading_is, reading_again}
use Rattle.record_codec.proofs.laws.one_spelling.Goals as goal

pub returns-clause-alone : goal.returns-clause-alone
returns-clause-alone c = reading_is

pub returns-clause-again : goal.returns-clause-again
returns-clause-again c = reading_again

pub returns-clause-one : goal.returns-clause-one
returns-clause-one c = λ a b it a_fits b_fits read other. (reading_is a it a_fits read).1 ∙ sym (reading_is b it b_fits other).1

pub returns-clause-apart : goal.returns-clause-apart
returns-clause-apart c = λ it other is other_is same. ok_is it other (sym (reading_again it is) ∙ ap reading same ∙ reading_again other other_is)
