use Rattle.interest_list.proofs.Reached.{news_lead}
use Rattle.interest_list.proofs.laws.frames_lead_to_told.Goals as goal

pub returns : goal.returns
returns c = news_lead
