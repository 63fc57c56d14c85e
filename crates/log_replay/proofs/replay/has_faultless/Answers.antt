use Rattle.log_replay.proofs.replay.has_faultless.Goals as goal

pub returns-in-Limits : goal.returns-in-Limits
returns-in-Limits c = rw c.in-Limits.is c.is_faultless.ensures
