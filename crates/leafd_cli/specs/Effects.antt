-- What an operation on a stream makes, and what it is answered.
use Rattle.std.specs.Prelude.{ℕ, ◌+◌, max, List, [], ◌∷◌, ◌++◌, Bool, ◌==◌, if◌then◌else◌, Option, None, Some, is_some, Result, Ok, Err, count_by, codes, decimal}
use Rattle.std.specs.List.{list_any}
use Rattle.nats_text.specs.Headers.{HeaderBlock}
use Rattle.nats_text.specs.Matching.{matches}
use Rattle.nats_text.specs.declared.message.Message.{Message}
use Rattle.stream_fold.specs.declared.entry.Entry.{Entry}
use Rattle.stream_fold.specs.declared.entry.Entry.TheVariants.{Put, Del, Purge, Expire, Limits}
use Rattle.stream_fold.specs.declared.verdict.Verdict.{Verdict}
use Rattle.stream_fold.specs.declared.verdict.Verdict.TheVariants.{Fresh, Duplicate}
use Rattle.stream_fold.specs.declared.verdict.Refusal.{Refusal}
use Rattle.stream_fold.specs.declared.verdict.Refusal.TheVariants.{IsMirror, BadHeader, WrongStream, WrongLast, WrongSubjectLast, TooLarge, SeqEnd, Full, NoMemory}
use Rattle.stream_fold.specs.Histories.{last, clock, kept, message_at, is_purged, is_expired}
use Rattle.stream_fold.specs.Publishing.{verdict}
use Rattle.leafd_cli.specs.declared.operation.Operation.{Operation}
use Rattle.leafd_cli.specs.declared.operation.Operation.TheVariants.{Publish, Delete, Purge as PurgeOf, Expire as ExpireNow, Update}
use Rattle.leafd_cli.specs.declared.operation.Effect.{Effect}
use Rattle.leafd_cli.specs.Logs.{StreamLog, history_of, limits_of}
use Rattle.leafd_cli.specs.Legal.{with_changes, changed_to}

-- an answer and no entry
abbrev pub answers : List ℕ → Effect
answers text = record { entry = None; answer = text }

-- an entry and an answer
abbrev pub makes : Entry → List ℕ → Effect
makes entry text = record { entry = Some entry; answer = text }

-- a word and a number
abbrev pub counted : List ℕ → ℕ → List ℕ
counted word n = word ++ 32 ∷ decimal n

-- the name of a refusal, and its first number where it has one
abbrev pub refusal_text : Refusal → List ℕ
refusal_text IsMirror = codes "refused IsMirror"
refusal_text (BadHeader name) = codes "refused BadHeader"
refusal_text WrongStream = codes "refused WrongStream"
refusal_text (WrongLast number) = counted (codes "refused WrongLast") number
refusal_text (WrongSubjectLast number) = counted (codes "refused WrongSubjectLast") number
refusal_text (TooLarge size limit) = counted (codes "refused TooLarge") size
refusal_text SeqEnd = codes "refused SeqEnd"
refusal_text (Full count bytes) = counted (codes "refused Full") count
refusal_text NoMemory = []

-- whether a subject of the stream matches
abbrev pub takes : List ℕ → StreamLog → Bool
takes subject s = list_any (λ pattern. matches pattern subject) (limits_of s).subjects

-- a message at the moment at which it is stored: a log's clock doesn't step back
abbrev pub message_of : ℕ → List ℕ → HeaderBlock → List ℕ → StreamLog → Message
message_of now subject headers text s = record { subject = subject; headers = headers; payload = text; time = max now (clock s.entries) }

-- a message that is stored gets the number past the last
abbrev pub stored : Message → StreamLog → Effect
stored m s = makes (Put (last s.entries + 1) m None) (counted (codes "stored") (last s.entries + 1))

-- what a publish makes and is answered, by its verdict
abbrev pub published : Message → StreamLog → Result Verdict Refusal → Effect
published m s (Ok Fresh) = stored m s
published m s (Ok (Duplicate seq)) = answers (counted (codes "duplicate") seq)
published m s (Err refusal) = answers (refusal_text refusal)

-- a publish whose subject is none of the stream's is refused, and else by what its state says
abbrev pub publish_effect : ℕ → Message → StreamLog → Effect
publish_effect now m s = if takes m.subject s then published m s (verdict (history_of s) m now) else answers (codes "refused NoStream")

-- a message that isn't kept can't be deleted
abbrev pub delete_effect : ℕ → StreamLog → Effect
delete_effect seq s = if is_some (message_at seq (kept (history_of s))) then makes (Del seq) (codes "deleted") else answers (codes "refused NoMessage")

-- an entry that takes messages away, unless there are none
abbrev pub taking : ℕ → Entry → List ℕ → Effect
taking count entry text = if count == 0 then answers text else makes entry text

-- a purge makes its entry where it takes something, and is answered with how many messages it takes
abbrev pub purge_effect : List ℕ → ℕ → StreamLog → Effect
purge_effect pattern below s = taking (count_by (is_purged pattern below) (kept (history_of s))) (Purge pattern below) (counted (codes "purged") (count_by (is_purged pattern below) (kept (history_of s))))

-- the same of an expiry at a moment
abbrev pub expire_effect : ℕ → StreamLog → Effect
expire_effect now s = taking (count_by (is_expired (limits_of s).max_age now) (kept (history_of s))) (Expire now) (counted (codes "expired") (count_by (is_expired (limits_of s).max_age now) (kept (history_of s))))

-- what an operation makes and is answered at a moment: a purge without a pattern is of all subjects,
-- and one without a number of all messages
abbrev pub effect : ℕ → Operation → StreamLog → Effect
effect now (Publish subject headers text) s = publish_effect now (message_of now subject headers text s) s
effect now (Delete seq) s = delete_effect seq s
effect now (PurgeOf pattern below) s = purge_effect (changed_to (codes ">") pattern) (changed_to (last s.entries + 1) below) s
effect now ExpireNow s = expire_effect now s
effect now (Update changes) s = makes (Limits (with_changes changes (limits_of s))) (codes "updated")

-- the answer of an operation, where its stream is there
abbrev pub answer_at : ℕ → Operation → Option StreamLog → Option (List ℕ)
answer_at now operation None = None
answer_at now operation (Some s) = Some (effect now operation s).answer
