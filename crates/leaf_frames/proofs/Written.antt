-- Frames of leaf links that are written are read again.
use Rattle.std.proofs.Common.{◌≡◌, ℕ, ◌+◌, ◌<◌, ◌≤◌, List, [], ◌∷◌, ◌++◌, length, Bool, true, false, cond, nat_lt, Option, None, Some, refl, sym, ap, ◌∙◌, subst, arith}
use Rattle.std.specs.Prelude.{codes, decimal, nat_le, option_and_then}
use Rattle.std.specs.List.{list_all}
use Rattle.std.proofs.lemmas.Bool.{cond-true, false≢true, and_parts, and_from, leb-true, eqb-true}
use Rattle.json.proofs.Printed.Utf8.{IsUtf8-are_ascii}
use Rattle.serde_json.specs.Written.{compact_text}
use Rattle.nats_text.specs.Headers.{HeaderBlock, no_headers, has_none, crlf, written, trim_end}
use Rattle.nats_text.specs.Text.{is_name, is_pattern}
use Rattle.nats_text.specs.declared.headers.Pair.{Pair}
use Rattle.nats_text.specs.declared.message.Parcel.{Parcel}
use Rattle.nats_frames.specs.declared.fault.FrameText.TheVariants.{ParserError, InvalidSubject}
use Rattle.nats_frames.specs.declared.stream.First.TheVariants.{Frame}
use Rattle.nats_frames.specs.declared.stream.Said.TheVariants.{Whole, Unfit}
use Rattle.nats_frames.specs.Fields.{size_of, is_short, quoted}
use Rattle.nats_frames.specs.Json.{object_of}
use Rattle.nats_frames.specs.Kinds.{is_label, IsParcel}
use Rattle.nats_frames.specs.Lines.{has_no_feed}
use Rattle.nats_frames.specs.Texts.{worded, size_fields, both_sizes, body}
use Rattle.nats_frames.proofs.Again.{Back, ReadsAgain, line_again, body_again, one_size, quoted_back}
use Rattle.nats_frames.proofs.Decimals.{size_decimal}
use Rattle.nats_frames.proofs.JsonFrames.{object_read}
use Rattle.nats_frames.proofs.Jsons.{Plain, text_free, text_end, trim_filled}
use Rattle.nats_frames.proofs.Names.{name_utf8}
use Rattle.nats_frames.proofs.Parts.{is_field, first_field, fields_worded, no_feed_worded, no_feed_append}
use Rattle.nats_frames.proofs.Sides.{pattern_field}
use Rattle.leaf_frames.specs.declared.address.Address.{Address}
use Rattle.leaf_frames.specs.declared.frame.LeafFrame.{LeafFrame}
use Rattle.leaf_frames.specs.declared.frame.LeafFrame.TheVariants.{Info, Connect, SubOn, SubOff, Msg, Ping, Pong, Fault}
use Rattle.leaf_frames.specs.Frames.{most_line, most_payload, whole_or_unfit, of_pattern, is_weight, weighted, group_on, fault, framed, said_by, said, first}
use Rattle.leaf_frames.specs.Json.{info_of, connect_of, hello_data}
use Rattle.leaf_frames.specs.Kinds.{IsLeaf}
use Rattle.leaf_frames.specs.Laws.{ReadsEachText, ReadsItsText, GivesLeafFrames}
use Rattle.leaf_frames.specs.Texts.{address_fields, line_of, text, IsWithinBounds}
use Rattle.leaf_frames.proofs.Fieldings.{label_field, label_short}
use Rattle.leaf_frames.proofs.WrittenMessages.{plain_back, headers_back}

-- ---- the opening frames

hello_plain : (name : List ℕ) (headers : Bool) → is_name name ≡ true → Plain (hello_data name headers)
hello_plain name headers n = (
  IsUtf8-are_ascii (codes "domain") refl,
  name_utf8 name n,
  (IsUtf8-are_ascii (codes "headers") refl, tt, (IsUtf8-are_ascii (codes "name") refl, name_utf8 name n, tt)),
)

hello_object : (name : List ℕ) (headers : Bool) → is_name name ≡ true → object_of (compact_text (hello_data name headers)) ≡ Some (hello_data name headers)
hello_object name headers n = object_read _ (hello_plain name headers n) refl (omega arith)

info_found : (name : List ℕ) (headers : Bool) → is_name name ≡ true → info_of (hello_data name headers) ≡ Some (Info name headers)
info_found name headers n = rw n refl

connect_found : (name : List ℕ) (headers : Bool) → is_name name ≡ true → connect_of (hello_data name headers) ≡ Some (Connect name headers)
connect_found name headers n = rw n refl

info_back : (name : List ℕ) (headers : Bool) → is_name name ≡ true → Back said (codes "INFO " ++ compact_text (hello_data name headers)) (Whole (Info name headers))
info_back name headers n =
    let json : List ℕ = compact_text (hello_data name headers) in
    let line : List ℕ = codes "INFO" ++ 32 ∷ json in
    let trim : trim_end json ≡ json = text_end (hello_data name headers) tt in
    record {
      free = text_free (hello_data name headers) (hello_plain name headers n);
      says = ap (said_by line) (first_field (codes "INFO") json refl)
          ∙ (ap (λ a. whole_or_unfit (option_and_then info_of (object_of a))) trim
          ∙ (ap (λ o. whole_or_unfit (option_and_then info_of o)) (hello_object name headers n) ∙ ap whole_or_unfit (info_found name headers n)));
    }

connect_back : (name : List ℕ) (headers : Bool) → is_name name ≡ true → Back said (codes "CONNECT " ++ compact_text (hello_data name headers)) (Whole (Connect name headers))
connect_back name headers n =
    let json : List ℕ = compact_text (hello_data name headers) in
    let line : List ℕ = codes "CONNECT" ++ 32 ∷ json in
    let trim : trim_end json ≡ json = text_end (hello_data name headers) tt in
    record {
      free = text_free (hello_data name headers) (hello_plain name headers n);
      says = ap (said_by line) (first_field (codes "CONNECT") json refl)
          ∙ (ap (λ a. whole_or_unfit (option_and_then connect_of (object_of a))) trim
          ∙ (ap (λ o. whole_or_unfit (option_and_then connect_of o)) (hello_object name headers n) ∙ ap whole_or_unfit (connect_found name headers n)));
    }

-- ---- subscriptions

says_worded : (w : List ℕ) (fs : List (List ℕ)) → is_field w ≡ true → list_all is_field fs ≡ true → said (worded w fs) ≡ said_by (worded w fs) (w ∷ fs)
says_worded w fs h all = ap (said_by (worded w fs)) (fields_worded w fs h all)

pattern_is : (pattern : List ℕ) (frame : LeafFrame) → is_pattern pattern ≡ true → of_pattern pattern frame ≡ Whole frame
pattern_is pattern frame p = cond-true (is_pattern pattern) (Whole frame) (Unfit InvalidSubject) p

plain_on : (pattern : List ℕ) → is_pattern pattern ≡ true → Back said (worded (codes "LS+") (pattern ∷ [])) (Whole (SubOn pattern None))
plain_on pattern p =
    let all = and_from (is_field pattern) true (pattern_field pattern p) refl in
    record {
      free = no_feed_worded (codes "LS+") (pattern ∷ []) refl all;
      says = says_worded (codes "LS+") (pattern ∷ []) refl all ∙ pattern_is pattern (SubOn pattern None) p;
    }

group_on_is : (pattern queue : List ℕ) (weight : ℕ) → is_pattern pattern ≡ true → is_label queue ≡ true → is_weight weight ≡ true → weight < 1_000_000_000 → group_on pattern queue (size_of (decimal weight)) ≡ Whole (SubOn pattern (Some (queue, weight)))
group_on_is pattern queue weight p q w small =
    cond-true (is_short queue) (cond (is_pattern pattern) (weighted pattern queue (size_of (decimal weight))) (Unfit InvalidSubject)) (Unfit ParserError) (label_short queue q)
    ∙ (cond-true (is_pattern pattern) (weighted pattern queue (size_of (decimal weight))) (Unfit InvalidSubject) p
    ∙ (ap (weighted pattern queue) (size_decimal weight small) ∙ cond-true (is_weight weight) (Whole (SubOn pattern (Some (queue, weight)))) (Unfit ParserError) w))

weight_small : (weight : ℕ) → is_weight weight ≡ true → weight ≤ 65536
weight_small weight w = leb-true weight 65536 (and_parts (nat_lt 0 weight) (nat_le weight 65536) w).1

group_on_back : (pattern queue : List ℕ) (weight : ℕ) → is_pattern pattern ≡ true → is_label queue ≡ true → is_weight weight ≡ true → Back said (worded (codes "LS+") (pattern ∷ queue ∷ decimal weight ∷ [])) (Whole (SubOn pattern (Some (queue, weight))))
group_on_back pattern queue weight p q w =
    let le : weight ≤ 65536 = weight_small weight w in
    let fs : List (List ℕ) = pattern ∷ queue ∷ decimal weight ∷ [] in
    let all : list_all is_field fs ≡ true = and_from (is_field pattern) (list_all is_field (queue ∷ decimal weight ∷ [])) (pattern_field pattern p)
    (and_from (is_field queue) (list_all is_field (decimal weight ∷ [])) (label_field queue q) (one_size weight (omega arith))) in
    record {
      free = no_feed_worded (codes "LS+") fs refl all;
      says = says_worded (codes "LS+") fs refl all ∙ group_on_is pattern queue weight p q w (omega arith);
    }

plain_off : (pattern : List ℕ) → is_pattern pattern ≡ true → Back said (worded (codes "LS-") (pattern ∷ [])) (Whole (SubOff pattern None))
plain_off pattern p =
    let all = and_from (is_field pattern) true (pattern_field pattern p) refl in
    record {
      free = no_feed_worded (codes "LS-") (pattern ∷ []) refl all;
      says = says_worded (codes "LS-") (pattern ∷ []) refl all ∙ pattern_is pattern (SubOff pattern None) p;
    }

group_off_back : (pattern queue : List ℕ) → is_pattern pattern ≡ true → is_label queue ≡ true → Back said (worded (codes "LS-") (pattern ∷ queue ∷ [])) (Whole (SubOff pattern (Some queue)))
group_off_back pattern queue p q =
    let fs : List (List ℕ) = pattern ∷ queue ∷ [] in
    let all : list_all is_field fs ≡ true = and_from (is_field pattern) (list_all is_field (queue ∷ [])) (pattern_field pattern p) (and_from (is_field queue) true (label_field queue q) refl) in
    record {
      free = no_feed_worded (codes "LS-") fs refl all;
      says = says_worded (codes "LS-") fs refl all
          ∙ (cond-true (is_short queue) (of_pattern pattern (SubOff pattern (Some queue))) (Unfit ParserError) (label_short queue q) ∙ pattern_is pattern (SubOff pattern (Some queue)) p);
    }

-- ---- other lines without a payload

fault_back : (t : List ℕ) → has_no_feed t ≡ true → Back said (codes "-ERR '" ++ t ++ 39 ∷ []) (Whole (Fault t))
fault_back t free =
    let q : List ℕ = 39 ∷ (t ++ 39 ∷ []) in
    let line : List ℕ = codes "-ERR" ++ 32 ∷ q in
    let trim : trim_end q ≡ q = trim_filled q (record { front = 39 ∷ t; last = 39; is = refl; filled = refl }) in
    record {
      free = no_feed_append t (39 ∷ []) free refl;
      says = ap (said_by line) (first_field (codes "-ERR") q refl) ∙ (ap (λ a. fault (quoted a)) trim ∙ ap fault (quoted_back t));
    }

-- ---- messages

none_is : (status : Option (List ℕ)) (pairs : List Pair) → has_none (record { status = status; pairs = pairs }) ≡ true → record { status = status; pairs = pairs } ≡ no_headers
none_is None [] h = refl
none_is None (p ∷ ps) h = let none : length (p ∷ ps) ≡ 0 = eqb-true (length (p ∷ ps)) 0 h in absurd (omega (arith, none))
none_is (Some s) pairs h = absurd (false≢true h)

message_again : (p : Parcel) (queues : List (List ℕ)) → ReadsAgain → IsParcel p → list_all is_label queues ≡ true → IsWithinBounds (Msg p queues) → (behind : List ℕ) → first (text (Msg p queues) ++ behind) ≡ Frame (Msg p queues) (length (text (Msg p queues)))
message_again p queues reads k q w behind =
    let a : Address = record { subject = p.subject; reply = p.reply; queues = queues } in
    let fs : List (List ℕ) = address_fields p.subject p.reply queues in
    let plain : List ℕ = worded (codes "LMSG") (fs ++ size_fields p.payload) in
    let full : List ℕ = worded (codes "HMSG") (fs ++ both_sizes p.headers p.payload) in
    let m : ℕ = length (written p.headers) in
    let n : ℕ = m + length p.payload in
    let le : n ≤ most_payload = w.payload in
    let short : length p.payload ≤ most_payload = omega arith in
    let P : Bool → Type 0 = λ t. has_none p.headers ≡ t → length (cond t plain full) ≤ most_line → first ((cond t plain full ++ crlf ++ body (written p.headers) p.payload) ++ behind) ≡ Frame (Msg p queues) (length (cond t plain full ++ crlf ++ body (written p.headers) p.payload)) in
    let go : (t : Bool) → P t = λ t. elim t as P [
      | true ↦ (λ e line.
          let Q : HeaderBlock → Type 0 = λ x. first ((plain ++ crlf ++ body (written x) p.payload) ++ behind) ≡ Frame (Msg (record { subject = p.subject; reply = p.reply; headers = x; payload = p.payload }) queues) (length (plain ++ crlf ++ body (written x) p.payload)) in
          let none : p.headers ≡ no_headers = none_is p.headers.status p.headers.pairs e in
          subst Q (sym none) (body_again most_line said framed plain [] p.payload a no_headers (length p.payload) behind (plain_back p.subject p.reply queues (length p.payload) k.subject k.reply q short) (omega arith) refl line))
      | false ↦ (λ e line. body_again most_line said framed full (written p.headers) p.payload a p.headers n behind (headers_back p.subject p.reply queues m n k.subject k.reply q (omega arith) le) refl (reads p.headers k.headers) line)
    ] in
    go (has_none p.headers) refl w.line

-- ---- all

again : (frame : LeafFrame) → ReadsAgain → IsLeaf frame → IsWithinBounds frame → (behind : List ℕ) → first (text frame ++ behind) ≡ Frame frame (length (text frame))
again (Info name headers) reads k w behind = line_again most_line said framed (line_of (Info name headers)) (Info name headers) behind (info_back name headers k) w.line
again (Connect name headers) reads k w behind = line_again most_line said framed (line_of (Connect name headers)) (Connect name headers) behind (connect_back name headers k) w.line
again (SubOn pattern None) reads k w behind = line_again most_line said framed (line_of (SubOn pattern None)) (SubOn pattern None) behind (plain_on pattern k.0) w.line
again (SubOn pattern (Some group)) reads k w behind =
    line_again most_line said framed (line_of (SubOn pattern (Some group))) (SubOn pattern (Some group)) behind (group_on_back pattern group.0 group.1 k.0 k.1.0 k.1.1) w.line
again (SubOff pattern None) reads k w behind = line_again most_line said framed (line_of (SubOff pattern None)) (SubOff pattern None) behind (plain_off pattern k.0) w.line
again (SubOff pattern (Some queue)) reads k w behind = line_again most_line said framed (line_of (SubOff pattern (Some queue))) (SubOff pattern (Some queue)) behind (group_off_back pattern queue k.0 k.1) w.line
again (Msg p queues) reads k w behind = message_again p queues reads k.0 k.1 w behind
again Ping reads k w behind = line_again most_line said framed (codes "PING") Ping behind (record { free = refl; says = refl }) w.line
again Pong reads k w behind = line_again most_line said framed (codes "PONG") Pong behind (record { free = refl; says = refl }) w.line
again (Fault t) reads k w behind = line_again most_line said framed (line_of (Fault t)) (Fault t) behind (fault_back t k) w.line

pub reads_each_text : ReadsAgain → ReadsEachText
reads_each_text reads frame k within = again frame reads k within

pub reads_its_text : GivesLeafFrames → ReadsAgain → ReadsItsText
reads_its_text gives reads bytes frame len h within = again frame reads (gives bytes frame len h) within
