-- The parts that Rust values stand for, and the parts of a text that may be there.
use Rattle.std.specs.Prelude.{ℕ, ◌+◌, List, [], ◌∷◌, map, length, Bool, true, nat_lt, Option, None, Some, Result, Ok, Err}
use Rattle.std.specs.Borrow.{Bor}
use Rattle.nats_text.specs.Pieces.{pieces}
use Rattle.subject_transform.specs.declared.fault.TransformKind.{TransformKind}
use Rattle.subject_transform.specs.declared.part.Part.{Part as Read}
use Rattle.subject_transform.specs.declared.part.Part.TheVariants.{Literal, Rest, Token, Partition, Split, Dotted}
use Rattle.subject_transform.specs.Parts.{Part, literal, rest, token, partition, split, dotted, number, is_count, is_length}

-- the part that a value stands for
abbrev pub part_of : Read → Part
part_of (Literal t) = literal t.now
part_of Rest = rest
part_of (Token i) = token i
part_of (Partition count indexes) = partition count (map number (pieces 44 indexes.now))
part_of (Split i separator) = split i separator.now
part_of (Dotted dots i len) = dotted dots i len

-- the numbers of a part are in their ranges
abbrev pub is_sound : Read → Bool
is_sound (Literal t) = true
is_sound Rest = true
is_sound (Token i) = true
is_sound (Partition count indexes) = is_count count
is_sound (Split i separator) = nat_lt 0 (length separator.now)
is_sound (Dotted dots i len) = is_length dots len

-- what a reading of a value says of the part
abbrev pub reading : Result Read TransformKind → Result Part TransformKind
reading (Ok part) = Ok (part_of part)
reading (Err kind) = Err kind

-- the parts of a text that may be there
abbrev pub pieces_of : ℕ → Option (Bor (List ℕ)) → List (List ℕ)
pieces_of c None = []
pieces_of c (Some text) = pieces c text.now

-- more than the length of a text that may be there
abbrev pub text_length : Option (Bor (List ℕ)) → ℕ
text_length None = 0
text_length (Some text) = length text.now + 1
