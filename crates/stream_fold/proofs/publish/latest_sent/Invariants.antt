use Rattle.std.proofs.Common.{◌≡◌, drop}
use Rattle.std.specs.Option.{option_copied}
use Rattle.stream_fold.specs.Histories.{either}
use Rattle.stream_fold.specs.Held.{latest_in}
use Rattle.stream_fold.proofs.publish.latest_sent.Given as goal

-- what the rest gives, else what was found, is the answer
abbrev pub invariant-loop-sent : goal.invariant-loop-sent
invariant-loop-sent l = either (latest_in l.id (drop l.sent-index l.list)) (option_copied l.latest) ≡ latest_in l.id l.list
