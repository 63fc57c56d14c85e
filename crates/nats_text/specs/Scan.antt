-- One walk over the bytes of a subject or a pattern: what each byte leaves of the token and of the
-- character in which it stands, and how many bytes the text needs at least from there on.
use Rattle.std.specs.Prelude.{ℕ, ◌+◌, max, List, Bool, ◌==◌, nat_lt, nat_le, if◌then◌else◌, Option, Some, None}
use Rattle.std.specs.Int.{is_in_range}
use Rattle.nats_text.specs.Text.{is_subject, is_pattern, is_subject_byte}
use Rattle.nats_text.specs.declared.scan.Kind.{Kind}
use Rattle.nats_text.specs.declared.scan.Kind.TheVariants.{Subject, Pattern}
use Rattle.nats_text.specs.declared.scan.Token.{Token}
use Rattle.nats_text.specs.declared.scan.Token.TheVariants.{Empty, Star, Tail, Literal}
use Rattle.nats_text.specs.declared.scan.Character.{Character}
use Rattle.nats_text.specs.declared.scan.Character.TheVariants.{Whole, One, Two, Three, AfterE0, AfterEd, AfterF0, AfterF4}
use Rattle.nats_text.specs.declared.scan.Front.{Front}

-- a text of this kind
abbrev pub is_text : Kind → List ℕ → Bool
is_text Subject = is_subject
is_text Pattern = is_pattern

-- one more byte in a token
abbrev pub longer : Token → ℕ → Token
longer Empty b = if b == 42 then Star else (if b == 62 then Tail else Literal)
longer Star b = Literal
longer Tail b = Literal
longer Literal b = Literal

-- a dot behind the token `*`
abbrev pub after_star : Kind → Option Token
after_star Subject = None
after_star Pattern = Some Empty

-- a dot behind a token, which begins the next one
abbrev pub after_dot : Kind → Token → Option Token
after_dot kind Empty = None
after_dot kind Star = after_star kind
after_dot kind Tail = None
after_dot kind Literal = Some Empty

-- one more byte of a text
abbrev pub token_after : Kind → Token → ℕ → Option Token
token_after kind token b = if b == 46 then after_dot kind token else (if is_subject_byte b then Some (longer token b) else None)

-- the bytes that a token needs at least where it is a wildcard so far
abbrev pub wildcard_need : Kind → ℕ
wildcard_need Subject = 1
wildcard_need Pattern = 0

-- the bytes that a token needs at least
abbrev pub token_need : Kind → Token → ℕ
token_need kind Empty = 1
token_need kind Star = wildcard_need kind
token_need kind Tail = wildcard_need kind
token_need kind Literal = 0

-- the first byte of a character
abbrev pub first_byte : ℕ → Option Character
first_byte b = if nat_lt b 0x80 then Some Whole
    else (if is_in_range 0xC2 0xDF b then Some One
    else (if b == 0xE0 then Some AfterE0
    else (if b == 0xED then Some AfterEd
    else (if is_in_range 0xE1 0xEF b then Some Two
    else (if b == 0xF0 then Some AfterF0
    else (if b == 0xF4 then Some AfterF4
    else (if is_in_range 0xF1 0xF3 b then Some Three else None)))))))

-- a byte that has to be in a range
abbrev pub within : ℕ → ℕ → Character → ℕ → Option Character
within least greatest next b = if is_in_range least greatest b then Some next else None

-- one more byte of a text in UTF-8 (the Unicode Standard, table 3-7)
abbrev pub character_after : Character → ℕ → Option Character
character_after Whole b = first_byte b
character_after One b = within 0x80 0xBF Whole b
character_after Two b = within 0x80 0xBF One b
character_after Three b = within 0x80 0xBF Two b
character_after AfterE0 b = within 0xA0 0xBF One b
character_after AfterEd b = within 0x80 0x9F One b
character_after AfterF0 b = within 0x90 0xBF Two b
character_after AfterF4 b = within 0x80 0x8F Two b

-- the bytes that a character needs
abbrev pub character_need : Character → ℕ
character_need Whole = 0
character_need One = 1
character_need Two = 2
character_need Three = 3
character_need AfterE0 = 2
character_need AfterEd = 2
character_need AfterF0 = 3
character_need AfterF4 = 3

-- the bytes that a text needs at least
abbrev pub need : Kind → Front → ℕ
need kind front = max (token_need kind front.token) (character_need front.character)

abbrev pub front_of : Option Token → Option Character → Option Front
front_of None character = None
front_of (Some token) None = None
front_of (Some token) (Some character) = Some (record { token = token; character = character })

-- a front that n bytes led to, where a text of at most 1,024 bytes may begin with them
abbrev pub fitting : Kind → ℕ → Option Front → Option Front
fitting kind n None = None
fitting kind n (Some front) = if nat_le (n + need kind front) 1024 then Some front else None

-- one byte more, behind n others
abbrev pub front_after : Kind → ℕ → Front → ℕ → Option Front
front_after kind n front b = fitting kind (n + 1) (front_of (token_after kind front.token b) (character_after front.character b))
