-- The words of a script's line. What a word says, or why it says nothing.
use Rattle.std.specs.Prelude.{◌≡◌, ℕ, List, [], ◌∷◌, ◌++◌, length, Bool, ◌||◌, ◌==◌, if◌then◌else◌, Option, None, Some, Result, Ok, Err, codes}
use Rattle.std.specs.Str.{bytes_eq}
use Rattle.std.specs.List.{list_any}
use Rattle.nats_text.specs.Text.{is_name, is_subject, is_pattern}
use Rattle.nats_text.specs.Numbers.{number_of}
use Rattle.nats_text.specs.Pieces.{pieces}
use Rattle.nats_text.specs.Headers.{HeaderBlock, no_headers, legal, with_pair}
use Rattle.leafd_script.specs.declared.fault.ScriptKind.{ScriptKind}
use Rattle.leafd_script.specs.declared.fault.ScriptKind.TheVariants.{BadLine, BadName, BadSubject, BadNumber}
use Rattle.leafd_script.specs.declared.fault.LineFault.{LineFault}
use Rattle.leafd_script.specs.declared.fault.LineFault.TheVariants.{Bad, NoMemory}

-- the first fault, from the left
infixl 10 ◌>>=◌
abbrev pub ◌>>=◌ : {A B : Type 0} → Result A ScriptKind → (A → Result B ScriptKind) → Result B ScriptKind
(Ok x) >>= f = f x
(Err kind) >>= f = Err kind

-- what is answered is what reading gives, unless memory ran out
abbrev pub Gives : {A : Type 0} → Result A LineFault → Result A ScriptKind → Type 0
Gives (Ok x) read = read ≡ Ok x
Gives (Err (Bad kind)) read = read ≡ Err kind
Gives (Err NoMemory) read = Unit {0}

-- an empty word is among them
abbrev pub has_empty : List (List ℕ) → Bool
has_empty words = list_any (λ w. length w == 0) words

-- the word is one of these texts
abbrev pub is_one_of : List (List ℕ) → List ℕ → Bool
is_one_of texts w = list_any (λ text. bytes_eq w text) texts

-- ---- words that are read alone

-- a word that is a name
abbrev pub name_of : List ℕ → Result (List ℕ) ScriptKind
name_of w = if is_name w then Ok w else Err BadName

-- no node has one of these names
abbrev pub is_reserved : List ℕ → Bool
is_reserved w = bytes_eq w (codes "API") || bytes_eq w (codes "M") || bytes_eq w (codes "FC")

-- a word that a node may have as its name
abbrev pub node_name_of : List ℕ → Result (List ℕ) ScriptKind
node_name_of w = if is_reserved w then Err BadName else name_of w

-- a word that is a subject
abbrev pub subject_of : List ℕ → Result (List ℕ) ScriptKind
subject_of w = if is_subject w then Ok w else Err BadSubject

-- a word that is a pattern
abbrev pub pattern_of : List ℕ → Result (List ℕ) ScriptKind
pattern_of w = if is_pattern w then Ok w else Err BadSubject

-- a value that is there, or a fault of this kind
abbrev pub found_or : {A : Type 0} → ScriptKind → Option A → Result A ScriptKind
found_or kind None = Err kind
found_or kind (Some x) = Ok x

-- a word that is a number
abbrev pub number_word : List ℕ → Result ℕ ScriptKind
number_word w = found_or BadNumber (number_of w)

-- ---- texts

-- each word with the byte before it
abbrev pub led_by : ℕ → List (List ℕ) → List ℕ
led_by c [] = []
led_by c (w ∷ ws) = c ∷ (w ++ led_by c ws)

-- the words with the byte between them
abbrev pub joined : ℕ → List (List ℕ) → List ℕ
joined c [] = []
joined c (w ∷ ws) = w ++ led_by c ws

-- ---- headers

-- headers with a pair behind the others, which has to be legal
abbrev pub with_legal : HeaderBlock → List ℕ → List ℕ → Result HeaderBlock ScriptKind
with_legal headers name value = if legal name value then Ok (with_pair name value headers) else Err BadLine

-- headers with the pair of a text, whose name ends at the first colon
abbrev pub with_text : HeaderBlock → List (List ℕ) → Result HeaderBlock ScriptKind
with_text headers [] = Err BadLine
with_text headers (name ∷ []) = Err BadLine
with_text headers (name ∷ part ∷ parts) = with_legal headers name (joined 58 (part ∷ parts))

-- headers with a pair for each text in turn
abbrev pub with_texts : HeaderBlock → List (List ℕ) → Result HeaderBlock ScriptKind
with_texts headers [] = Ok headers
with_texts headers (text ∷ texts) = do
  more ← with_text headers (pieces 58 text)
  with_texts more texts

-- the headers of `NAME:VALUE`, with `;` between one and the next
abbrev pub headers_of : List ℕ → Result HeaderBlock ScriptKind
headers_of w = with_texts no_headers (pieces 59 w)
