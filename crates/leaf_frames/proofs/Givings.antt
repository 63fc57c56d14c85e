-- What a reading gives are frames of leaf links.
use Rattle.std.proofs.Common.{◌≡◌, ℕ, ◌+◌, ◌-◌, ◌==◌, List, [], ◌∷◌, length, get_or, take, drop, Bool, true, false, ◌&&◌, cond, nat_lt, Option, None, Some, refl, subst, arith}
use Rattle.std.specs.Prelude.{Result, Ok, Err, codes, option_and_then, option_map}
use Rattle.std.specs.List.{list_all, position_from}
use Rattle.std.specs.Option.{option_map_or}
use Rattle.std.specs.Str.{bytes_eq}
use Rattle.std.proofs.lemmas.Bool.{and_parts}
use Rattle.serde_json.specs.Data.{Data}
use Rattle.nats_text.specs.Headers.{HeaderBlock, is_header_block, crlf, read_block, trim_start}
use Rattle.nats_text.specs.Laws.{ReadsBlocksAlone}
use Rattle.nats_text.specs.Text.{is_name, is_subject, is_pattern}
use Rattle.nats_frames.specs.declared.fault.FrameText.TheVariants.{ParserError, ControlLine, InvalidSubject, PayloadViolation}
use Rattle.nats_frames.specs.declared.line.LineEnd.{LineEnd}
use Rattle.nats_frames.specs.declared.line.LineEnd.TheVariants.{Missing, At, Bad}
use Rattle.nats_frames.specs.declared.stream.First.{First}
use Rattle.nats_frames.specs.declared.stream.First.TheVariants.{Frame, More, Refuse}
use Rattle.nats_frames.specs.declared.stream.Said.{Said}
use Rattle.nats_frames.specs.declared.stream.Said.TheVariants.{Whole, Carries, Unfit}
use Rattle.nats_frames.specs.Fields.{fields, from_blank, argument, size_of, is_short, quoted}
use Rattle.nats_frames.specs.Frames.{is_address}
use Rattle.nats_frames.specs.Json.{object_of, switch_at, name_at}
use Rattle.nats_frames.specs.Kinds.{is_label}
use Rattle.nats_frames.specs.Lines.{has_no_feed, is_feed, ending_at, line_end}
use Rattle.nats_frames.specs.Stream.{sized, with_block, opened, carried, decided, first_of}
use Rattle.nats_frames.proofs.Ends.{before}
use Rattle.nats_frames.proofs.Parts.{is_field, fields_are}
use Rattle.nats_frames.proofs.Readable.{choose, AllOf, then_good, map_good, any_of, name_all, pick, free_start, free_blank, free_end, free_take, free_drop}
use Rattle.leaf_frames.specs.declared.address.Address.{Address}
use Rattle.leaf_frames.specs.declared.address.Form.{Form}
use Rattle.leaf_frames.specs.declared.address.Form.TheVariants.{Plain, WithReply, WithQueues}
use Rattle.leaf_frames.specs.declared.address.Sizes.{Sizes}
use Rattle.leaf_frames.specs.declared.frame.LeafFrame.{LeafFrame}
use Rattle.leaf_frames.specs.declared.frame.LeafFrame.TheVariants.{Info as InfoFrame, Connect as ConnectFrame, SubOn, SubOff, Ping, Pong}
use Rattle.leaf_frames.specs.declared.operation.Operation.{Operation}
use Rattle.leaf_frames.specs.declared.operation.Operation.TheVariants.{Info, Connect, SubscribeOn, SubscribeOff, Message, MessageHeaders, Ping as PingWord, Pong as PongWord, Error}
use Rattle.leaf_frames.specs.Frames.{most_line, most_payload, operation_of, whole_or_unfit, alone, of_pattern, is_weight, weighted, subscribe_on, subscribe_off, fault, form_of, address_of, split_last, split_sizes, addressed_if, in_form, by_form, message, framed, said_of, said_if, said_by, said, first}
use Rattle.leaf_frames.specs.Json.{hello_of, info_of, connect_of}
use Rattle.leaf_frames.specs.Kinds.{IsLeaf}
use Rattle.leaf_frames.specs.Laws.{GivesLeafFrames}
use Rattle.leaf_frames.proofs.Fieldings.{short_label, short_labels}
use Rattle.leaf_frames.proofs.Splits.{AllSplit, split_all}

-- ---- what is known of what was read

-- an address of a message
pub record IsGoodAddress (a : Address) : Type 0 where
  pub address : is_address a.subject a.reply ≡ true
  pub queues : list_all is_label a.queues ≡ true

abbrev GoodSaid : Said LeafFrame Address → Type 0
GoodSaid (Whole frame) = IsLeaf frame
GoodSaid (Carries address block size) = IsGoodAddress address
GoodSaid (Unfit text) = Unit {0}

abbrev GoodFirst : First LeafFrame → Type 0
GoodFirst (Frame frame len) = IsLeaf frame
GoodFirst (More wanted) = Unit {0}
GoodFirst (Refuse text) = Unit {0}

-- ---- JSON

abbrev IsHello : List ℕ × Bool → Type 0
IsHello hello = is_name hello.0 ≡ true

hello_good : (d : Data) → AllOf IsHello (hello_of d)
hello_good d =
    then_good (λ (t : List ℕ). is_name t ≡ true) (λ (o : Option (List ℕ × Bool)). AllOf IsHello o) (λ name. option_map (λ headers. (name, headers)) (switch_at (codes "headers") false d)) (name_at (codes "name") d) (name_all (codes "name") d) tt
    (λ name n. map_good (λ (x : Bool). Unit {0}) (λ (o : Option (List ℕ × Bool)). AllOf IsHello o) (λ headers. (name, headers)) (switch_at (codes "headers") false d) (any_of (switch_at (codes "headers") false d)) tt (λ headers u. n))

info_good : (o : Option Data) → GoodSaid (whole_or_unfit (option_and_then info_of o))
info_good o =
    let P : Option LeafFrame → Type 0 = λ r. GoodSaid (whole_or_unfit r) in
    then_good (λ (d : Data). Unit {0}) P info_of o (any_of o) tt (λ d u.
    map_good IsHello P (λ hello. InfoFrame hello.0 hello.1) (hello_of d) (hello_good d) tt (λ hello n. n))

connect_good : (o : Option Data) → GoodSaid (whole_or_unfit (option_and_then connect_of o))
connect_good o =
    let P : Option LeafFrame → Type 0 = λ r. GoodSaid (whole_or_unfit r) in
    then_good (λ (d : Data). Unit {0}) P connect_of o (any_of o) tt (λ d u.
    map_good IsHello P (λ hello. ConnectFrame hello.0 hello.1) (hello_of d) (hello_good d) tt (λ hello n. n))

-- ---- lines without a payload

weighted_good : (pattern queue : List ℕ) (weight : Option ℕ) → is_pattern pattern ≡ true → is_label queue ≡ true → GoodSaid (weighted pattern queue weight)
weighted_good pattern queue None p q = tt
weighted_good pattern queue (Some weight) p q = choose GoodSaid (is_weight weight) (Whole (SubOn pattern (Some (queue, weight)))) (Unfit ParserError) (λ w. (p, (q, w))) (λ w. tt)

on_good : (fs : List (List ℕ)) → list_all is_field fs ≡ true → GoodSaid (subscribe_on fs)
on_good [] h = tt
on_good (a ∷ []) h = choose GoodSaid (is_pattern a) (Whole (SubOn a None)) (Unfit InvalidSubject) (λ p. (p, tt)) (λ p. tt)
on_good (a ∷ q ∷ []) h = tt
on_good (a ∷ q ∷ w ∷ []) h =
    let f = (pick q (w ∷ []) (pick a (q ∷ w ∷ []) h).1).0 in
    choose GoodSaid (is_short q) (cond (is_pattern a) (weighted a q (size_of w)) (Unfit InvalidSubject)) (Unfit ParserError)
    (λ s. choose GoodSaid (is_pattern a) (weighted a q (size_of w)) (Unfit InvalidSubject) (λ p. weighted_good a q (size_of w) p (short_label q f s)) (λ p. tt))
    (λ s. tt)
on_good (a ∷ q ∷ w ∷ o ∷ fs) h = tt

off_good : (fs : List (List ℕ)) → list_all is_field fs ≡ true → GoodSaid (subscribe_off fs)
off_good [] h = tt
off_good (a ∷ []) h = choose GoodSaid (is_pattern a) (Whole (SubOff a None)) (Unfit InvalidSubject) (λ p. (p, refl)) (λ p. tt)
off_good (a ∷ q ∷ []) h =
    let f = (pick q [] (pick a (q ∷ []) h).1).0 in
    choose GoodSaid (is_short q) (of_pattern a (SubOff a (Some q))) (Unfit ParserError)
    (λ s. choose GoodSaid (is_pattern a) (Whole (SubOff a (Some q))) (Unfit InvalidSubject) (λ p. (p, short_label q f s)) (λ p. tt))
    (λ s. tt)
off_good (a ∷ q ∷ o ∷ fs) h = tt

alone_good : (frame : LeafFrame) (fs : List (List ℕ)) → IsLeaf frame → GoodSaid (alone frame fs)
alone_good frame [] g = g
alone_good frame (f ∷ fs) g = tt

fault_good : (text : List ℕ) → has_no_feed text ≡ true → GoodSaid (fault (quoted text))
fault_good text h =
    choose (λ o. GoodSaid (fault o)) (nat_lt 1 (length text) && get_or text 0 0 == 39 && get_or text (length text - 1) 0 == 39) (Some (take (length text - 2) (drop 1 text))) None
    (λ e. free_take (length text - 2) (drop 1 text) (free_drop 1 text h))
    (λ e. tt)

-- ---- messages

-- the fields of an address that was found are fields
abbrev FieldAddress : Option Address → Type 0
FieldAddress None = Unit {0}
FieldAddress (Some a) = list_all is_field a.queues ≡ true

address_fields : (form : Form) (subject : List ℕ) (fs : List (List ℕ)) → list_all is_field fs ≡ true → FieldAddress (address_of form subject fs)
address_fields Plain subject [] h = refl
address_fields Plain subject (r ∷ []) h = refl
address_fields Plain subject (r ∷ o ∷ fs) h = tt
address_fields WithReply subject [] h = tt
address_fields WithReply subject (r ∷ fs) h = (pick r fs h).1
address_fields WithQueues subject [] h = tt
address_fields WithQueues subject (q ∷ fs) h = h

sized_good : (a : Address) (block size : Option ℕ) → IsGoodAddress a → GoodSaid (sized a most_payload block size)
sized_good a None size g = tt
sized_good a (Some block) None g = tt
sized_good a (Some block) (Some size) g =
    choose GoodSaid (nat_lt size block) (Unfit ParserError) (cond (nat_lt most_payload size) (Unfit PayloadViolation) (Carries a block size)) (λ h. tt)
    (λ h. choose GoodSaid (nat_lt most_payload size) (Unfit PayloadViolation) (Carries a block size) (λ h. tt) (λ h. g))

addressed_good : (o : Option Address) (sizes : Sizes) → FieldAddress o → GoodSaid (addressed_if o sizes)
addressed_good None sizes f = tt
addressed_good (Some a) sizes f =
    let whole : Said LeafFrame Address = sized a most_payload sizes.block sizes.size in
    choose GoodSaid (list_all is_short a.queues) (cond (is_address a.subject a.reply) whole (Unfit InvalidSubject)) (Unfit ParserError)
    (λ s. choose GoodSaid (is_address a.subject a.reply) whole (Unfit InvalidSubject) (λ g. sized_good a sizes.block sizes.size (record { address = g; queues = short_labels a.queues f s })) (λ g. tt))
    (λ s. tt)

-- the fields before the sizes are fields
abbrev FieldSplit : Option (List (List ℕ) × Sizes) → Type 0
FieldSplit None = Unit {0}
FieldSplit (Some split) = list_all is_field split.0 ≡ true

-- those before the last of fields
fronts : (o : Option (List (List ℕ) × List ℕ)) → AllSplit is_field o → AllOf (λ s. list_all is_field s.0 ≡ true) o
fronts None all = tt
fronts (Some split) all = all.0

sizes_good : (headers : Bool) (fs : List (List ℕ)) → list_all is_field fs ≡ true → FieldSplit (split_sizes headers fs)
sizes_good false fs h = map_good (λ (s : List (List ℕ) × List ℕ). list_all is_field s.0 ≡ true) FieldSplit (λ s. (s.0, record { block = Some 0; size = size_of s.1 })) (split_last fs) (fronts (split_last fs) (split_all is_field fs h)) tt (λ s f. f)
sizes_good true fs h =
    let R : List (List ℕ) × List ℕ → Type 0 = λ s. list_all is_field s.0 ≡ true in
    then_good R FieldSplit (λ whole. option_map (λ split. (split.0, record { block = size_of split.1; size = size_of whole.1 })) (split_last whole.0)) (split_last fs) (fronts (split_last fs) (split_all is_field fs h)) tt
    (λ whole w. map_good R FieldSplit (λ split. (split.0, record { block = size_of split.1; size = size_of whole.1 })) (split_last whole.0) (fronts (split_last whole.0) (split_all is_field whole.0 w)) tt (λ s f. f))

form_good : (form : Form) (subject : List ℕ) (o : Option (List (List ℕ) × Sizes)) → FieldSplit o → GoodSaid (in_form form subject o)
form_good form subject None f = tt
form_good form subject (Some split) f = addressed_good (address_of form subject split.0) split.1 (address_fields form subject split.0 f)

by_form_good : (headers : Bool) (form : Form) (subject field : List ℕ) (fs : List (List ℕ)) → list_all is_field (field ∷ fs) ≡ true → GoodSaid (by_form headers form subject field fs)
by_form_good headers Plain subject field fs h = form_good Plain subject (split_sizes headers (field ∷ fs)) (sizes_good headers (field ∷ fs) h)
by_form_good headers WithReply subject field fs h = form_good WithReply subject (split_sizes headers fs) (sizes_good headers fs (pick field fs h).1)
by_form_good headers WithQueues subject field fs h = form_good WithQueues subject (split_sizes headers fs) (sizes_good headers fs (pick field fs h).1)

message_good : (headers : Bool) (fs : List (List ℕ)) → list_all is_field fs ≡ true → GoodSaid (message headers fs)
message_good headers [] h = tt
message_good headers (s ∷ []) h = tt
message_good headers (s ∷ f ∷ fs) h = by_form_good headers (form_of f) s f fs (pick s (f ∷ fs) h).1

-- ---- a line

argument_free : (line : List ℕ) → has_no_feed line ≡ true → has_no_feed (argument line) ≡ true
argument_free line free = free_end (trim_start (from_blank (trim_start line))) (free_start (from_blank (trim_start line)) (free_blank (trim_start line) (free_start line free)))

operation_good : (op : Operation) (line : List ℕ) (fs : List (List ℕ)) → has_no_feed line ≡ true → list_all is_field fs ≡ true → GoodSaid (said_of op line fs)
operation_good Info line fs free h = info_good (object_of (argument line))
operation_good Connect line fs free h = connect_good (object_of (argument line))
operation_good SubscribeOn line fs free h = on_good fs h
operation_good SubscribeOff line fs free h = off_good fs h
operation_good Message line fs free h = message_good false fs h
operation_good MessageHeaders line fs free h = message_good true fs h
operation_good PingWord line fs free h = alone_good Ping fs tt
operation_good PongWord line fs free h = alone_good Pong fs tt
operation_good Error line fs free h = fault_good (argument line) (argument_free line free)

word_good : (o : Option Operation) (line : List ℕ) (fs : List (List ℕ)) → has_no_feed line ≡ true → list_all is_field fs ≡ true → GoodSaid (said_if o line fs)
word_good None line fs free h = tt
word_good (Some op) line fs free h = operation_good op line fs free h

by_good : (line : List ℕ) (fs : List (List ℕ)) → has_no_feed line ≡ true → list_all is_field fs ≡ true → GoodSaid (said_by line fs)
by_good line [] free h = tt
by_good line (word ∷ fs) free h = word_good (operation_of word) line fs free (pick word fs h).1

said_good : (line : List ℕ) → has_no_feed line ≡ true → GoodSaid (said line)
said_good line free = by_good line (fields line) free (fields_are line free)

-- ---- a stream

-- a block that is read is one
abbrev BlocksAre : Type 0
BlocksAre = (bytes : List ℕ) (block : HeaderBlock) → read_block bytes ≡ Ok block → is_header_block block ≡ true

block_good : (a : Address) (len block : ℕ) (message : List ℕ) (r : Result HeaderBlock ℕ) → BlocksAre → IsGoodAddress a → read_block (take block message) ≡ r → GoodFirst (with_block (λ headers. framed a headers (drop block message)) len r)
block_good a len block message (Ok headers) blocks g h =
    let p = and_parts (is_subject a.subject) (option_map_or is_subject a.reply true) g.address in
    (record { subject = p.0; reply = p.1; headers = blocks (take block message) headers h }, g.queues)
block_good a len block message (Err place) blocks g h = tt

carried_good : (a : Address) (line block size : ℕ) (behind : List ℕ) → BlocksAre → IsGoodAddress a → GoodFirst (carried (framed a) line block size behind)
carried_good a line block size behind blocks g =
    let len : ℕ = line + size + 2 in
    let message : List ℕ = take size behind in
    choose GoodFirst (nat_lt (length behind) (size + 2)) (More len) (cond (bytes_eq (take 2 (drop size behind)) crlf) (opened (framed a) len block message) (Refuse ParserError)) (λ h. tt)
    (λ h. choose GoodFirst (bytes_eq (take 2 (drop size behind)) crlf) (opened (framed a) len block message) (Refuse ParserError) (λ h. block_good a len block message (read_block (take block message)) blocks g refl) (λ h. tt))

decided_good : (line : ℕ) (behind : List ℕ) (what : Said LeafFrame Address) → BlocksAre → GoodSaid what → GoodFirst (decided framed line behind what)
decided_good line behind (Whole frame) blocks g = g
decided_good line behind (Carries a block size) blocks g = carried_good a line block size behind blocks g
decided_good line behind (Unfit text) blocks g = tt

-- the line of an end has no LF
abbrev FreeEnd : List ℕ → LineEnd → Type 0
FreeEnd bytes Missing = Unit {0}
FreeEnd bytes (At at) = has_no_feed (take at bytes) ≡ true
FreeEnd bytes (Bad text) = Unit {0}

end_free : (bytes : List ℕ) (o : Option ℕ) → position_from is_feed 0 bytes ≡ o → FreeEnd bytes (ending_at most_line bytes o)
end_free bytes None h = choose (FreeEnd bytes) (nat_lt (most_line + 1) (length bytes)) (Bad ControlLine) Missing (λ e. tt) (λ e. tt)
end_free bytes (Some at) h =
    let last : Bool = nat_lt 0 at && get_or bytes (at - 1) 0 == 13 in
    choose (FreeEnd bytes) (nat_lt (most_line + 1) at) (Bad ControlLine) (cond last (At (at - 1)) (Bad ParserError)) (λ e. tt)
    (λ e. choose (FreeEnd bytes) last (At (at - 1)) (Bad ParserError) (λ e. before 0 bytes at (at - 1) h (omega arith)) (λ e. tt))

of_good : (bytes : List ℕ) (e : LineEnd) → BlocksAre → FreeEnd bytes e → GoodFirst (first_of said framed bytes e)
of_good bytes Missing blocks free = tt
of_good bytes (At at) blocks free = decided_good (at + 2) (drop (at + 2) bytes) (said (take at bytes)) blocks (said_good (take at bytes) free)
of_good bytes (Bad text) blocks free = tt

first_good : (bytes : List ℕ) → BlocksAre → GoodFirst (first bytes)
first_good bytes blocks = of_good bytes (line_end most_line bytes) blocks (end_free bytes (position_from is_feed 0 bytes) refl)

pub gives_leaf_frames : ReadsBlocksAlone → GivesLeafFrames
gives_leaf_frames reads bytes frame len h =
    let blocks : BlocksAre = λ b block e. ((reads b block).0 e).0 in
    let P : First LeafFrame → Type 0 = GoodFirst in
    subst P h (first_good bytes blocks)
