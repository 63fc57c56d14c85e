-- How refusals are told: the status, the error code and the description of each (the JetStream API of
-- NATS; codes from 10900 on are this server's own).
use Rattle.std.specs.Prelude.{ℕ, List, [], ◌++◌, codes, decimal}
use Rattle.std.specs.Str.{IsUtf8}
use Rattle.js_api.specs.declared.refusal.ApiRefusal.{ApiRefusal}
use Rattle.js_api.specs.declared.refusal.ApiRefusal.TheVariants.{NoStream, NameTaken, NoMessage, BadConfig, Overlap, IsMirror, BadHeader, WrongStream, WrongLast, WrongSubjectLast, TooLarge, SeqEnd, Full, TooManyStreams, TooManyConsumers, JournalFull, DiskFault, BadJournal, NoMemory, NotForClients, BadRequest, TooMany}

-- a status, an error code and a description
pub record Row : Type 0 where
  pub code : ℕ
  pub err_code : ℕ
  pub text : List ℕ

-- a row of the table
abbrev pub told : ℕ → ℕ → List ℕ → Row
told code err_code text = record { code = code; err_code = err_code; text = text }

-- the table of refusals
abbrev pub row : ApiRefusal → Row
row NoStream = told 404 10059 (codes "stream not found")
row NameTaken = told 400 10058 (codes "stream name already in use with a different configuration")
row NoMessage = told 404 10037 (codes "no message found")
row (BadConfig member) = told 400 10901 (codes "bad member: " ++ member)
row (Overlap other) = told 400 10902 (codes "subjects overlap with stream " ++ other)
row IsMirror = told 400 10903 (codes "stream is a mirror")
row (BadHeader name) = told 400 10904 (codes "bad header: " ++ name)
row WrongStream = told 400 10905 (codes "expected stream does not match")
row (WrongLast kept) = told 400 10906 (codes "wrong last sequence: " ++ decimal kept)
row (WrongSubjectLast kept) = told 400 10907 (codes "wrong last subject sequence: " ++ decimal kept)
row TooLarge = told 400 10908 (codes "message size exceeds maximum allowed")
row SeqEnd = told 400 10909 (codes "no sequence left")
row Full = told 400 10910 (codes "stream is full")
row TooManyStreams = told 400 10911 (codes "too many streams")
row TooManyConsumers = told 400 10912 (codes "too many consumers")
row JournalFull = told 500 10913 (codes "journal is full")
row DiskFault = told 500 10914 (codes "disk fault")
row BadJournal = told 500 10915 (codes "bad journal")
row NoMemory = told 500 10916 (codes "out of memory")
row NotForClients = told 400 10917 (codes "consumers are internal")
row BadRequest = told 400 10918 (codes "bad request")
row TooMany = told 400 10919 (codes "too many subscriptions")

-- what a description ends in of the refusal's own
abbrev pub own_text : ApiRefusal → List ℕ
own_text NoStream = []
own_text NameTaken = []
own_text NoMessage = []
own_text (BadConfig member) = member
own_text (Overlap other) = other
own_text IsMirror = []
own_text (BadHeader name) = name
own_text WrongStream = []
own_text (WrongLast kept) = decimal kept
own_text (WrongSubjectLast kept) = decimal kept
own_text TooLarge = []
own_text SeqEnd = []
own_text Full = []
own_text TooManyStreams = []
own_text TooManyConsumers = []
own_text JournalFull = []
own_text DiskFault = []
own_text BadJournal = []
own_text NoMemory = []
own_text NotForClients = []
own_text BadRequest = []
own_text TooMany = []

-- a member or a header that is told is UTF-8
abbrev pub HasText : ApiRefusal → Type 0
HasText NoStream = Unit {0}
HasText NameTaken = Unit {0}
HasText NoMessage = Unit {0}
HasText (BadConfig member) = IsUtf8 member
HasText (Overlap other) = Unit {0}
HasText IsMirror = Unit {0}
HasText (BadHeader name) = IsUtf8 name
HasText WrongStream = Unit {0}
HasText (WrongLast kept) = Unit {0}
HasText (WrongSubjectLast kept) = Unit {0}
HasText TooLarge = Unit {0}
HasText SeqEnd = Unit {0}
HasText Full = Unit {0}
HasText TooManyStreams = Unit {0}
HasText TooManyConsumers = Unit {0}
HasText JournalFull = Unit {0}
HasText DiskFault = Unit {0}
HasText BadJournal = Unit {0}
HasText NoMemory = Unit {0}
HasText NotForClients = Unit {0}
HasText BadRequest = Unit {0}
HasText TooMany = Unit {0}
