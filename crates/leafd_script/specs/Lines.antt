-- What each line of a script says, or why it says nothing.
use Rattle.std.specs.Prelude.{◌≡◌, ◌≢◌, ℕ, List, [], ◌∷◌, ◌||◌, ◌==◌, Bool, true, if◌then◌else◌, Option, None, Some, Result, Ok, Err, codes}
use Rattle.std.specs.Str.{bytes_eq}
use Rattle.std.specs.Borrow.{Bor}
use Rattle.nats_text.specs.Pieces.{pieces}
use Rattle.nats_text.specs.declared.message.Start.TheVariants.{Seq}
use Rattle.stream_fold.specs.Checking.{config_fault}
use Rattle.stream_fold.specs.declared.config.Copies.{Copies}
use Rattle.stream_fold.specs.declared.config.Copies.TheVariants.{Nothing, Mirror as MirrorOf, Sources}
use Rattle.leafd_script.specs.Words.{◌>>=◌, has_empty, is_one_of, name_of, node_name_of, subject_of, pattern_of, number_word, joined, headers_of}
use Rattle.leafd_script.specs.Options.{has_later, fits, change_options, mirror_options, stream_options, changes_of, window_of, subjects_of, config_of, origin_of, checked}
use Rattle.leafd_script.specs.declared.fault.ScriptKind.{ScriptKind}
use Rattle.leafd_script.specs.declared.fault.ScriptKind.TheVariants.{NotYet, BadLine}
use Rattle.leafd_script.specs.declared.fault.LineFault.{LineFault}
use Rattle.leafd_script.specs.declared.fault.LineFault.TheVariants.{Bad, NoMemory}
use Rattle.leafd_script.specs.declared.line.Line.{Line}
use Rattle.leafd_script.specs.declared.line.Line.TheVariants.{Node, Stream, Mirror, Update, Publish, PublishWithHeaders, Delete, Purge, Expire, Clock, Settle, Show, Log, Heads, Quiet}

-- ---- lines with options

-- `stream` with a node, a name and options
abbrev pub stream_of : List ℕ → List ℕ → List (List ℕ) → Result Line ScriptKind
stream_of n s options = do
  node ← name_of n
  name ← name_of s
  changes ← changes_of options
  window ← window_of options
  subjects ← subjects_of s options
  config ← checked (config_of name subjects changes window Nothing)
  Ok (Stream node config)

-- `stream N S OPTION..`
abbrev pub stream_line : List (List ℕ) → Result Line ScriptKind
stream_line (n ∷ s ∷ options) =
    if has_later options then Err NotYet
    else (if fits stream_options (n ∷ s ∷ options) options then stream_of n s options else Err BadLine)
stream_line _ = Err BadLine

-- `mirror` with a node, a name, the node and name of the origin, and options
abbrev pub mirror_of : List ℕ → List ℕ → List ℕ → List ℕ → List (List ℕ) → Result Line ScriptKind
mirror_of n s on os options = do
  node ← name_of n
  name ← name_of s
  other ← name_of on
  stream ← name_of os
  changes ← changes_of options
  window ← window_of options
  config ← checked (config_of name [] changes window (MirrorOf (origin_of other stream)))
  Ok (Mirror node config)

-- `mirror N S ON OS OPTION..`; a mirror on the node of its origin isn't built yet
abbrev pub mirror_line : List (List ℕ) → Result Line ScriptKind
mirror_line (n ∷ s ∷ on ∷ os ∷ options) =
    if bytes_eq n on || has_later options then Err NotYet
    else (if fits mirror_options (n ∷ s ∷ on ∷ os ∷ options) options then mirror_of n s on os options else Err BadLine)
mirror_line _ = Err BadLine

-- `update` with a node, a name and options
abbrev pub update_of : List ℕ → List ℕ → List (List ℕ) → Result Line ScriptKind
update_of n s options = do
  node ← name_of n
  name ← name_of s
  changes ← changes_of options
  Ok (Update node name changes)

-- `update N S OPTION..`
abbrev pub update_line : List (List ℕ) → Result Line ScriptKind
update_line (n ∷ s ∷ options) =
    if has_later options then Err NotYet
    else (if fits change_options (n ∷ s ∷ options) options then update_of n s options else Err BadLine)
update_line _ = Err BadLine

-- ---- lines with a text

-- `pub` with a node, a name, a subject and a text
abbrev pub publish_of : List ℕ → List ℕ → List ℕ → List ℕ → Result Line ScriptKind
publish_of n s t text =
    if has_empty (n ∷ s ∷ t ∷ []) then Err BadLine
    else do
      node ← name_of n
      name ← name_of s
      subject ← subject_of t
      Ok (Publish node name subject text)

-- `pub N S SUBJECT [TEXT]`, where the text is the rest of the line
abbrev pub publish_line : List (List ℕ) → Result Line ScriptKind
publish_line (n ∷ s ∷ t ∷ more) = publish_of n s t (joined 32 more)
publish_line _ = Err BadLine

-- `hpub`, which has headers too
abbrev pub headed_of : List ℕ → List ℕ → List ℕ → List ℕ → List ℕ → Result Line ScriptKind
headed_of n s t h text =
    if has_empty (n ∷ s ∷ t ∷ []) then Err BadLine
    else do
      headers ← headers_of h
      node ← name_of n
      name ← name_of s
      subject ← subject_of t
      Ok (PublishWithHeaders node name subject headers text)

-- `hpub N S SUBJECT H:V[;H:V..] [TEXT]`
abbrev pub headed_line : List (List ℕ) → Result Line ScriptKind
headed_line (n ∷ s ∷ t ∷ h ∷ more) = headed_of n s t h (joined 32 more)
headed_line _ = Err BadLine

-- ---- other lines

-- `node N`
abbrev pub node_line : List (List ℕ) → Result Line ScriptKind
node_line (n ∷ []) = do
  node ← node_name_of n
  Ok (Node node)
node_line _ = Err BadLine

-- `del` with a node, a name and a number
abbrev pub delete_of : List ℕ → List ℕ → List ℕ → Result Line ScriptKind
delete_of n s q = do
  node ← name_of n
  name ← name_of s
  seq ← number_word q
  Ok (Delete node name seq)

-- `del N S Q`
abbrev pub delete_line : List (List ℕ) → Result Line ScriptKind
delete_line (n ∷ s ∷ q ∷ []) = delete_of n s q
delete_line _ = Err BadLine

-- `purge` of all messages
abbrev pub purge_all : List ℕ → List ℕ → Result Line ScriptKind
purge_all n s = do
  node ← name_of n
  name ← name_of s
  Ok (Purge node name None None)

-- `purge` of what a pattern matches
abbrev pub purge_matching : List ℕ → List ℕ → List ℕ → Result Line ScriptKind
purge_matching n s p = do
  node ← name_of n
  name ← name_of s
  pattern ← pattern_of p
  Ok (Purge node name (Some pattern) None)

-- `purge` of what a pattern matches below a number
abbrev pub purge_below : List ℕ → List ℕ → List ℕ → List ℕ → Result Line ScriptKind
purge_below n s p q = do
  node ← name_of n
  name ← name_of s
  pattern ← pattern_of p
  below ← number_word q
  Ok (Purge node name (Some pattern) (Some below))

-- `purge N S [PATTERN [BELOW]]`
abbrev pub purge_line : List (List ℕ) → Result Line ScriptKind
purge_line (n ∷ s ∷ []) = purge_all n s
purge_line (n ∷ s ∷ p ∷ []) = purge_matching n s p
purge_line (n ∷ s ∷ p ∷ q ∷ []) = purge_below n s p q
purge_line _ = Err BadLine

-- `clock NANOS`
abbrev pub clock_line : List (List ℕ) → Result Line ScriptKind
clock_line (m ∷ []) = do
  moment ← number_word m
  Ok (Clock moment)
clock_line _ = Err BadLine

-- `expire N S`, `show N S` or `log N S`
abbrev pub stream_named : (List ℕ → List ℕ → Line) → List (List ℕ) → Result Line ScriptKind
stream_named line (n ∷ s ∷ []) = do
  node ← name_of n
  name ← name_of s
  Ok (line node name)
stream_named line _ = Err BadLine

-- `settle`, `heads` or `quiet`
abbrev pub alone : Line → List (List ℕ) → Result Line ScriptKind
alone line [] = Ok line
alone line _ = Err BadLine

-- ---- the forms

-- what a line does to a stream or to the clock
abbrev pub change_form : List ℕ → List (List ℕ) → Result Line ScriptKind
change_form verb args =
    if bytes_eq verb (codes "node") then node_line args
    else (if bytes_eq verb (codes "del") then delete_line args
    else (if bytes_eq verb (codes "purge") then purge_line args
    else (if bytes_eq verb (codes "clock") then clock_line args
    else Err BadLine)))

-- the forms of plain words
abbrev pub plain_form : List ℕ → List (List ℕ) → Result Line ScriptKind
plain_form verb args =
    if bytes_eq verb (codes "expire") then stream_named Expire args
    else (if bytes_eq verb (codes "show") then stream_named Show args
    else (if bytes_eq verb (codes "log") then stream_named Log args
    else (if bytes_eq verb (codes "settle") then alone Settle args
    else (if bytes_eq verb (codes "heads") then alone Heads args
    else (if bytes_eq verb (codes "quiet") then alone Quiet args
    else change_form verb args)))))

-- lines that aren't built yet
abbrev pub later_verbs : List (List ℕ)
later_verbs =
    codes "sources" ∷ codes "remove" ∷ codes "carry" ∷ codes "lose" ∷ codes "repeat" ∷ codes "reverse"
    ∷ codes "drop" ∷ codes "cut" ∷ codes "join" ∷ codes "crash" ∷ codes "crashat" ∷ []

-- the forms without a text; an empty word fits none
abbrev pub word_form : List ℕ → List (List ℕ) → Result Line ScriptKind
word_form verb args =
    if is_one_of later_verbs verb then Err NotYet
    else (if bytes_eq verb (codes "stream") then stream_line args
    else (if bytes_eq verb (codes "mirror") then mirror_line args
    else (if bytes_eq verb (codes "update") then update_line args
    else (if has_empty args then Err BadLine else plain_form verb args))))

-- the form of these words
abbrev pub form_of : List (List ℕ) → Result Line ScriptKind
form_of [] = Err BadLine
form_of (verb ∷ args) =
    if bytes_eq verb (codes "pub") then publish_line args
    else (if bytes_eq verb (codes "hpub") then headed_line args else word_form verb args)

-- an empty line, or a comment
abbrev pub is_silent : List ℕ → Bool
is_silent [] = true
is_silent (b ∷ bs) = b == 35

-- the line that was read
abbrev pub some_line : Result Line ScriptKind → Result (Option Line) ScriptKind
some_line read = do
  line ← read
  Ok (Some line)

-- what a line says, if anything, or why it says nothing; words are separated by one space
abbrev pub line_of : List ℕ → Result (Option Line) ScriptKind
line_of bytes = if is_silent bytes then Ok None else some_line (form_of (pieces 32 bytes))

-- the words behind the first one
abbrev pub args_of : Option (Bor (List ℕ)) → List (List ℕ)
args_of None = []
args_of (Some rest) = pieces 32 rest.now

-- ---- what every line that was read keeps to

-- all of a stream on another node than this one, from its first message on
abbrev pub IsMirrorFrom : List ℕ → Copies → Type 0
IsMirrorFrom node Nothing = ⊥
IsMirrorFrom node (MirrorOf origin) =
    (other : List ℕ) × (origin.node ≡ Some other) × (other ≢ node) × (origin.start ≡ Seq 1) × (origin.filter ≡ None) × (origin.maps ≡ [])
IsMirrorFrom node (Sources origins) = ⊥

-- a mirror's line copies a stream of another node
abbrev pub MirrorsAnother : Line → Type 0
MirrorsAnother (Mirror node config) = IsMirrorFrom node config.copies
MirrorsAnother _ = Unit {0}

-- a stream's line copies nothing
abbrev pub CopiesNothing : Line → Type 0
CopiesNothing (Stream node config) = config.copies ≡ Nothing
CopiesNothing _ = Unit {0}

-- a line's configuration is one that a stream may have
abbrev pub HasRightConfig : Line → Type 0
HasRightConfig (Stream node config) = config_fault config ≡ None
HasRightConfig (Mirror node config) = config_fault config ≡ None
HasRightConfig _ = Unit {0}

abbrev pub IsLawful : Line → Type 0
IsLawful line = MirrorsAnother line × CopiesNothing line × HasRightConfig line

-- what is answered is the line that reading gives, and it is lawful
abbrev pub GivesLine : Result Line LineFault → Result Line ScriptKind → Type 0
GivesLine (Ok line) read = (read ≡ Ok line) × IsLawful line
GivesLine (Err (Bad kind)) read = read ≡ Err kind
GivesLine (Err NoMemory) read = Unit {0}

-- a line was read, which is such a one
abbrev pub IfLine : Result (Option Line) LineFault → (Line → Type 0) → Type 0
IfLine (Ok (Some line)) P = P line
IfLine (Ok None) P = Unit {0}
IfLine (Err fault) P = Unit {0}
