-- What bytes say, field by field, and where the first field begins that can't be read.
use Rattle.std.specs.Prelude.{◌≡◌, ℕ, zero, suc, ◌-◌, ◌<◌, List, [], ◌∷◌, length, take, drop, get_or, Bool, ◌==◌, nat_lt, nat_le, ◌&&◌, if◌then◌else◌, Option, None, Some, Result, Ok, Err}
use Rattle.std.specs.Int.{w32, w64, from_le_bytes}
use Rattle.std.specs.Borrow.{Bor}
use Rattle.std.specs.Str.{bytes_eq}
use Rattle.nats_text.specs.Headers.{HeaderBlock, written, read_block}
use Rattle.nats_text.specs.Text.{is_name, is_subject, is_pattern}
use Rattle.nats_text.specs.declared.message.Start.{Start}
use Rattle.nats_text.specs.declared.message.Start.TheVariants.{Seq, Time}
use Rattle.nats_text.specs.declared.origin.Mapping.{Mapping}
use Rattle.nats_text.specs.declared.origin.Origin.{Origin}
use Rattle.stream_fold.specs.declared.config.Config.{Config}
use Rattle.stream_fold.specs.declared.config.Copies.{Copies}
use Rattle.stream_fold.specs.declared.config.Copies.TheVariants.{Nothing, Mirror, Sources}
use Rattle.stream_fold.specs.declared.config.Discard.{Discard}
use Rattle.stream_fold.specs.declared.config.Discard.TheVariants.{Old, New}
use Rattle.stream_fold.specs.declared.entry.Entry.{Entry}
use Rattle.stream_fold.specs.declared.entry.Entry.TheVariants.{Put, Del, Purge, Expire, Bind, Limits}
use Rattle.stream_fold.specs.declared.entry.Mark.{Mark}
use Rattle.record_codec.specs.declared.fault.RecFault.{RecFault}
use Rattle.record_codec.specs.declared.fault.RecFault.TheVariants as faults
use Rattle.record_codec.specs.declared.fault.BadField.{BadField}
use Rattle.record_codec.specs.declared.fault.Stop.{Stop}
use Rattle.record_codec.specs.declared.fault.Stop.TheVariants as stops
use Rattle.record_codec.specs.declared.records.Rec.{Rec}
use Rattle.record_codec.specs.declared.records.Rec.TheVariants.{Boot, Create, Remove, Of}

-- a value and the bytes behind it; or how many bytes are left where the first field begins that
-- can't be read
abbrev pub Reading : Type 0 → Type 0
Reading A = Result (A × List ℕ) ℕ

-- one field, and then what stands behind it
infixl 10 ◌>>=◌
abbrev pub ◌>>=◌ : {A B : Type 0} → Result A ℕ → (A → Result B ℕ) → Result B ℕ
(Ok x) >>= f = f x
(Err left) >>= f = Err left

-- a number of four bytes
unfoldable pub u32_at : List ℕ → Reading ℕ
u32_at bytes = if nat_lt (length bytes) 4 then Err (length bytes) else Ok (from_le_bytes w32 (take 4 bytes), drop 4 bytes)

-- a number of eight bytes
unfoldable pub u64_at : List ℕ → Reading ℕ
u64_at bytes = if nat_lt (length bytes) 8 then Err (length bytes) else Ok (from_le_bytes w64 (take 8 bytes), drop 8 bytes)

-- a length, and so many bytes
unfoldable pub text_at : List ℕ → Reading (List ℕ)
text_at bytes = do
  n ← u32_at bytes
  if nat_lt (length n.1) n.0 then Err (length bytes) else Ok (take n.0 n.1, drop n.0 n.1)

-- a text that is legal
unfoldable pub legal_at : (List ℕ → Bool) → List ℕ → Reading (List ℕ)
legal_at legal bytes = do
  text ← text_at bytes
  if legal text.0 then Ok text else Err (length bytes)

-- a name
abbrev pub name_at : List ℕ → Reading (List ℕ)
name_at = legal_at is_name

-- a subject
abbrev pub subject_at : List ℕ → Reading (List ℕ)
subject_at = legal_at is_subject

-- a pattern
abbrev pub pattern_at : List ℕ → Reading (List ℕ)
pattern_at = legal_at is_pattern

-- the headers of a block that is what the writer makes of them
abbrev pub block_of : List ℕ → Result HeaderBlock ℕ → Option HeaderBlock
block_of text (Ok block) = if bytes_eq (written block) text then Some block else None
block_of text (Err place) = None

-- a value that is there, before the rest; else so many bytes are left
abbrev pub or_left : {A : Type 0} → ℕ → Option A → List ℕ → Reading A
or_left left (Some x) rest = Ok (x, rest)
or_left left None rest = Err left

-- a header block
unfoldable pub headers_at : List ℕ → Reading HeaderBlock
headers_at bytes = do
  text ← text_at bytes
  or_left (length bytes) (block_of text.0 (read_block text.0)) text.1

-- so many items
unfoldable pub items_at : {A : Type 0} → (List ℕ → Reading A) → ℕ → List ℕ → Reading (List A)
items_at item zero bytes = Ok ([], bytes)
items_at item (suc n) bytes = do
  first ← item bytes
  others ← items_at item n first.1
  Ok (first.0 ∷ others.0, others.1)

-- a count, and so many items
unfoldable pub list_at : {A : Type 0} → (List ℕ → Reading A) → List ℕ → Reading (List A)
list_at item bytes = do
  n ← u32_at bytes
  items_at item n.0 n.1

-- 0, or 1 and a value
unfoldable pub option_at : {A : Type 0} → (List ℕ → Reading A) → List ℕ → Reading (Option A)
option_at item [] = Err 0
option_at item (zero ∷ rest) = Ok (None, rest)
option_at item (suc zero ∷ rest) = do
  x ← item rest
  Ok (Some x.0, x.1)
option_at item (suc (suc b) ∷ rest) = Err (suc (length rest))

-- the source and the destination of a transform
unfoldable pub mapping_at : List ℕ → Reading Mapping
mapping_at bytes = do
  src ← text_at bytes
  dest ← text_at src.1
  Ok (record { src = src.0; dest = dest.0 }, dest.1)

-- where a copy starts: a number or a moment
unfoldable pub start_at : List ℕ → Reading Start
start_at [] = Err 0
start_at (zero ∷ rest) = do
  n ← u64_at rest
  Ok (Seq n.0, n.1)
start_at (suc zero ∷ rest) = do
  moment ← u64_at rest
  Ok (Time moment.0, moment.1)
start_at (suc (suc b) ∷ rest) = Err (suc (length rest))

-- an origin: its node, stream, start, filter and transforms
unfoldable pub origin_at : List ℕ → Reading Origin
origin_at bytes = do
  node ← option_at name_at bytes
  stream ← name_at node.1
  start ← start_at stream.1
  filter ← option_at pattern_at start.1
  maps ← list_at mapping_at filter.1
  Ok (record { node = node.0; stream = stream.0; start = start.0; filter = filter.0; maps = maps.0 }, maps.1)

-- what a full stream does
unfoldable pub discard_at : List ℕ → Reading Discard
discard_at [] = Err 0
discard_at (zero ∷ rest) = Ok (Old, rest)
discard_at (suc zero ∷ rest) = Ok (New, rest)
discard_at (suc (suc b) ∷ rest) = Err (suc (length rest))

-- what a stream copies
unfoldable pub copies_at : List ℕ → Reading Copies
copies_at [] = Err 0
copies_at (zero ∷ rest) = Ok (Nothing, rest)
copies_at (suc zero ∷ rest) = do
  origin ← origin_at rest
  Ok (Mirror origin.0, origin.1)
copies_at (suc (suc zero) ∷ rest) = do
  origins ← list_at origin_at rest
  Ok (Sources origins.0, origins.1)
copies_at (suc (suc (suc b)) ∷ rest) = Err (suc (length rest))

-- a configuration, member by member
unfoldable pub config_at : List ℕ → Reading Config
config_at bytes = do
  name ← name_at bytes
  subjects ← list_at pattern_at name.1
  max_msgs ← u64_at subjects.1
  max_bytes ← u64_at max_msgs.1
  max_age ← u64_at max_bytes.1
  max_per_subject ← u64_at max_age.1
  max_msg_size ← u64_at max_per_subject.1
  discard ← discard_at max_msg_size.1
  window ← u64_at discard.1
  transform ← option_at mapping_at window.1
  copies ← copies_at transform.1
  Ok (
    record {
      name = name.0;
      subjects = subjects.0;
      max_msgs = max_msgs.0;
      max_bytes = max_bytes.0;
      max_age = max_age.0;
      max_per_subject = max_per_subject.0;
      max_msg_size = max_msg_size.0;
      discard = discard.0;
      window = window.0;
      transform = transform.0;
      copies = copies.0;
    },
    copies.1,
  )

-- the index of a source and a mark
unfoldable pub mark_at : List ℕ → Reading Mark
mark_at bytes = do
  index ← u32_at bytes
  seq ← u64_at index.1
  Ok (record { index = index.0; seq = seq.0 }, seq.1)

-- an entry that puts a message
unfoldable pub put_at : List ℕ → Reading Entry
put_at bytes = do
  seq ← u64_at bytes
  time ← u64_at seq.1
  mark ← option_at mark_at time.1
  subject ← subject_at mark.1
  headers ← headers_at subject.1
  payload ← text_at headers.1
  Ok (Put seq.0 (record { subject = subject.0; headers = headers.0; payload = payload.0; time = time.0 }) mark.0, payload.1)

-- an entry that deletes a message
unfoldable pub del_at : List ℕ → Reading Entry
del_at bytes = do
  seq ← u64_at bytes
  Ok (Del seq.0, seq.1)

-- an entry that purges
unfoldable pub purge_at : List ℕ → Reading Entry
purge_at bytes = do
  pattern ← pattern_at bytes
  below ← u64_at pattern.1
  Ok (Purge pattern.0 below.0, below.1)

-- an entry that expires
unfoldable pub expire_at : List ℕ → Reading Entry
expire_at bytes = do
  now ← u64_at bytes
  Ok (Expire now.0, now.1)

-- an entry that binds a copy
unfoldable pub bind_at : List ℕ → Reading Entry
bind_at bytes = do
  index ← u32_at bytes
  incarnation ← u64_at index.1
  start ← u64_at incarnation.1
  Ok (Bind index.0 incarnation.0 start.0, start.1)

-- an entry that changes the limits
unfoldable pub limits_at : List ℕ → Reading Entry
limits_at bytes = do
  config ← config_at bytes
  Ok (Limits config.0, config.1)

-- an entry of a kind from 4 to 9
abbrev pub entry_at : ℕ → List ℕ → Reading Entry
entry_at kind bytes =
    if kind == 4 then put_at bytes
    else (if kind == 5 then del_at bytes
    else (if kind == 6 then purge_at bytes
    else (if kind == 7 then expire_at bytes
    else (if kind == 8 then bind_at bytes else limits_at bytes))))

-- a record of an opening
unfoldable pub boot_at : List ℕ → Reading Rec
boot_at bytes = do
  boot ← u64_at bytes
  Ok (Boot boot.0, boot.1)

-- a record that makes a stream
unfoldable pub create_at : List ℕ → Reading Rec
create_at bytes = do
  time ← u64_at bytes
  config ← config_at time.1
  Ok (Create time.0 config.0, config.1)

-- a record that removes a stream
unfoldable pub remove_at : List ℕ → Reading Rec
remove_at bytes = do
  name ← name_at bytes
  Ok (Remove name.0, name.1)

-- a name, and an entry of this kind
unfoldable pub of_at : ℕ → List ℕ → Reading Rec
of_at kind bytes = do
  name ← name_at bytes
  entry ← entry_at kind name.1
  Ok (Of name.0 entry.0, entry.1)

-- what stands behind a kind, or nothing where there is no such kind
abbrev pub fields_at : ℕ → List ℕ → Reading Rec
fields_at kind rest =
    if kind == 1 then boot_at rest
    else (if kind == 2 then create_at rest
    else (if kind == 3 then remove_at rest
    else (if nat_le 4 kind && nat_le kind 9 then of_at kind rest else Err (suc (length rest)))))

-- a kind and its fields
unfoldable pub rec_at : List ℕ → Reading Rec
rec_at [] = Err 0
rec_at (kind ∷ rest) = fields_at kind rest

-- nothing stands behind the record; else so many bytes are left
abbrev pub at_end : {A : Type 0} → A × List ℕ → Result A ℕ
at_end (x, []) = Ok x
at_end (x, b ∷ rest) = Err (suc (length rest))

-- the place where so many of all bytes are left
abbrev pub at_place : {A : Type 0} → ℕ → Result A ℕ → Result A ℕ
at_place all (Ok x) = Ok x
at_place all (Err left) = Err (all - left)

-- the record that all of the bytes say; or the place of the first field that can't be read, or of the
-- first byte behind a whole record
unfoldable pub reading : List ℕ → Result Rec ℕ
reading bytes = at_place (length bytes) (rec_at bytes >>= at_end)

-- ---- what the functions give

-- a field was not read where it should not be, or there was no memory
abbrev pub Fails : {Y : Type 0} → Stop → Result Y ℕ → Type 0
Fails (stops.Bad left) read = read ≡ Err left
Fails stops.NoMemory read = Unit {0}

-- a field was read as it should be, seen by view, unless there was no memory
abbrev pub Gives : {X Y : Type 0} → (X → Y) → Result X Stop → Result Y ℕ → Type 0
Gives view (Ok x) read = read ≡ Ok (view x)
Gives view (Err e) read = Fails e read

-- a field that takes no memory was read as it should be, seen by view
abbrev pub Finds : {X Y : Type 0} → (X → Y) → Result X BadField → Result Y ℕ → Type 0
Finds view (Ok x) read = read ≡ Ok (view x)
Finds view (Err bad) read = read ≡ Err bad.left

-- a field was gone over as it should be: what stands behind it, or how many bytes are left where the
-- first field begins that can't be read
abbrev pub Skims : {A : Type 0} → Result (Bor (List ℕ)) BadField → Reading A → Type 0
Skims {A} (Ok rest) read = (x : A) × (read ≡ Ok (x, rest.now))
Skims (Err bad) read = read ≡ Err bad.left

-- a record was read as it should be, unless there was no memory
abbrev pub Decodes : Result Rec RecFault → Result Rec ℕ → Type 0
Decodes (Ok it) read = read ≡ Ok it
Decodes (Err (faults.Bad place)) read = read ≡ Err place
Decodes (Err faults.NoMemory) read = Unit {0}

-- why there is no record: the bytes are none, or they are one and there was no memory
abbrev pub IsFaultOf : RecFault → Result Rec ℕ → Type 0
IsFaultOf (faults.Bad place) read = read ≡ Err place
IsFaultOf faults.NoMemory read = (it : Rec) × (read ≡ Ok it)

-- what may be bytes: whatever the place, the number there is below 256
abbrev pub AreBytes : List ℕ → Type 0
AreBytes bytes = (i : ℕ) → get_or bytes i 0 < 256
