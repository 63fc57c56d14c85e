use Rattle.record_codec.specs.Reading.{reading}
use Rattle.shard_calls.proofs.Spelled.{some-calls, spelled-some}
use Rattle.shard_calls.proofs.adding.add.Goals as goal
use Rattle.std.proofs.Common.{ap, arith, length, ◌∙◌}

pub append-requires-clause-some : goal.append-requires-clause-some
append-requires-clause-some g c =
    let some = spelled-some c.args.record.now in
    let same = ap length (c.as_slice.ensures ∙ c.in-Ok.ensures.body) in
    omega (arith, some, same)

pub returns-in-Err-NoMemory-clause-calls : goal.returns-in-Err-NoMemory-clause-calls
returns-in-Err-NoMemory-clause-calls g c tells =
    let calls = rw c.in-Err-NoMemory.field-0-is at (c.in-Err-NoMemory.ensures.calls tells) in
    some-calls _ _ _ _ _ (c.as_slice.ensures ∙ c.in-Ok.ensures.body) calls.0

pub returns-in-Ok-append-clause-any_moment : goal.returns-in-Ok-append-clause-any_moment
returns-in-Ok-append-clause-any_moment g c t u before logs tells le le' stands may since = c.in-Ok-append.ensures.any_moment t u before c.args.record.now logs tells le le' stands (ap reading c.as_slice.ensures ∙ c.in-Ok.ensures.again) may since

pub returns-in-Err-NoMemory-clause-any_moment : goal.returns-in-Err-NoMemory-clause-any_moment
returns-in-Err-NoMemory-clause-any_moment g c t u before logs tells le le' stands may since = c.in-Err-NoMemory.ensures.any_moment t u before c.args.record.now logs tells le le' stands (ap reading c.as_slice.ensures ∙ c.in-Ok.ensures.again) may since

pub returns-clause-any_moment : goal.returns-clause-any_moment
returns-clause-any_moment g c t u before logs tells le le' stands may since = c.in-Err-DiskFault.ensures.any_moment t u before c.args.record.now logs tells le le' stands (ap reading c.as_slice.ensures ∙ c.in-Ok.ensures.again) may since

pub returns-in-Ok-append-clause-since_opened : goal.returns-in-Ok-append-clause-since_opened
returns-in-Ok-append-clause-since_opened g c t u main spare before logs tells le le' stands may untorn untorn' since = c.in-Ok-append.ensures.since_opened t u main spare before c.args.record.now logs tells le le' stands (ap reading c.as_slice.ensures ∙ c.in-Ok.ensures.again) may untorn untorn' since

pub returns-in-Err-NoMemory-clause-since_opened : goal.returns-in-Err-NoMemory-clause-since_opened
returns-in-Err-NoMemory-clause-since_opened g c t u main spare before logs tells le le' stands may untorn untorn' since = c.in-Err-NoMemory.ensures.since_opened t u main spare before c.args.record.now logs tells le le' stands (ap reading c.as_slice.ensures ∙ c.in-Ok.ensures.again) may untorn untorn' since

pub returns-clause-since_opened : goal.returns-clause-since_opened
returns-clause-since_opened g c t u main spare before logs tells le le' stands may untorn untorn' since = c.in-Err-DiskFault.ensures.since_opened t u main spare before c.args.record.now logs tells le le' stands (ap reading c.as_slice.ensures ∙ c.in-Ok.ensures.again) may untorn untorn' since
