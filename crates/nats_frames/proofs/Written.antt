-- Frames that are written are read again.
use Rattle.std.proofs.Common.{◌≡◌, ℕ, ◌+◌, ◌<◌, ◌≤◌, List, [], ◌∷◌, ◌++◌, length, Bool, true, false, ◌&&◌, cond, nat_lt, Option, None, Some, refl, sym, ap, ◌∙◌, arith}
use Rattle.std.specs.Prelude.{codes, decimal, option_and_then}
use Rattle.std.specs.List.{list_all}
use Rattle.std.specs.Option.{option_map_or}
use Rattle.std.specs.Str.{is_utf8}
use Rattle.std.proofs.lemmas.Bool.{cond-true, cond-false, and_from, lt-ltb}
use Rattle.serde_json.specs.Written.{compact_text}
use Rattle.nats_text.specs.Headers.{HeaderBlock, no_headers, written, trim_end}
use Rattle.nats_text.specs.Text.{is_pattern}
use Rattle.nats_text.specs.declared.message.Parcel.{Parcel}
use Rattle.nats_frames.specs.declared.fault.FrameText.TheVariants.{ParserError, InvalidSubject}
use Rattle.nats_frames.specs.declared.frame.ServerInfo.{ServerInfo}
use Rattle.nats_frames.specs.declared.frame.Side.{Side}
use Rattle.nats_frames.specs.declared.frame.Side.TheVariants.{FromClient, FromServer}
use Rattle.nats_frames.specs.declared.frame.ClientFrame.{ClientFrame}
use Rattle.nats_frames.specs.declared.frame.ClientFrame.TheVariants.{Connect, Info, Pub, HPub, Sub, Unsub, Msg, HMsg, Ping, Pong, Okay, Fault, BadSubject}
use Rattle.nats_frames.specs.declared.operation.Envelope.{Envelope}
use Rattle.nats_frames.specs.declared.operation.Envelope.TheVariants.{Publication, Delivery, Unreadable}
use Rattle.nats_frames.specs.declared.stream.First.TheVariants.{Frame}
use Rattle.nats_frames.specs.declared.stream.Said.TheVariants.{Whole, Carries, Unfit}
use Rattle.nats_frames.specs.Fields.{size_of, is_short, quoted}
use Rattle.nats_frames.specs.Frames.{most_line, most_payload, whole_or, subscription, ended_after, is_address, publication, delivery, framed, said_by, said, first, fault}
use Rattle.nats_frames.specs.Json.{connect_of, info_of, object_of, connect_data, info_data}
use Rattle.nats_frames.specs.Lines.{has_no_feed}
use Rattle.nats_frames.specs.Stream.{sized}
use Rattle.nats_frames.specs.Texts.{worded, onto_some, count_fields, line_of, text, IsWithinBounds}
use Rattle.nats_frames.proofs.Again.{Back, ReadsAgain, line_again, body_again, sized_back, onto_some_fields, one_size, two_sizes, quoted_back}
use Rattle.nats_frames.proofs.Decimals.{size_decimal}
use Rattle.nats_frames.proofs.JsonFrames.{connect_plain, connect_read, info_plain, info_read}
use Rattle.nats_frames.proofs.Jsons.{text_free, text_end, trim_filled}
use Rattle.nats_frames.proofs.Parts.{is_field, first_field, fields_worded, no_feed_worded, no_feed_append}
use Rattle.nats_frames.proofs.Readable.{GoodAddress, GoodShort, GoodQueue, GoodCount, GoodServer, Good}

-- ---- what a written line says

-- a line of an operation and fields
says_worded : (side : Side) (w : List ℕ) (fs : List (List ℕ)) → is_field w ≡ true → list_all is_field fs ≡ true → said side (worded w fs) ≡ said_by side (worded w fs) (w ∷ fs)
says_worded side w fs h all = ap (said_by side (worded w fs)) (fields_worded w fs h all)

address_fields : (subject : List ℕ) (reply : Option (List ℕ)) (others : List (List ℕ)) → GoodAddress subject reply → list_all is_field others ≡ true → list_all is_field (subject ∷ onto_some reply others) ≡ true
address_fields subject reply others g h = and_from (is_field subject) (list_all is_field (onto_some reply others)) g.subject_field (onto_some_fields reply others g.reply_field h)

publication_back : (headers : Bool) (subject : List ℕ) (reply : Option (List ℕ)) → GoodAddress subject reply → publication headers subject reply ≡ Publication headers subject reply
publication_back headers subject reply g = cond-true (is_address subject reply) (Publication headers subject reply) Unreadable g.address

pub_back : (subject : List ℕ) (reply : Option (List ℕ)) (n : ℕ) → GoodAddress subject reply → n ≤ most_payload → Back (said FromClient) (worded (codes "PUB") (subject ∷ onto_some reply (decimal n ∷ []))) (Carries (Publication false subject reply) 0 n)
pub_back subject None n g le =
    let all = address_fields subject None (decimal n ∷ []) g (one_size n (omega arith)) in
    record {
      free = no_feed_worded (codes "PUB") (subject ∷ decimal n ∷ []) refl all;
      says = says_worded FromClient (codes "PUB") (subject ∷ decimal n ∷ []) refl all
          ∙ sized_back most_payload (publication false subject None) (Publication false subject None) 0 n (Some 0) (size_of (decimal n)) (publication_back false subject None g) refl (size_decimal n (omega arith)) (omega arith) le;
    }
pub_back subject (Some reply) n g le =
    let all = address_fields subject (Some reply) (decimal n ∷ []) g (one_size n (omega arith)) in
    record {
      free = no_feed_worded (codes "PUB") (subject ∷ reply ∷ decimal n ∷ []) refl all;
      says = says_worded FromClient (codes "PUB") (subject ∷ reply ∷ decimal n ∷ []) refl all
          ∙ sized_back most_payload (publication false subject (Some reply)) (Publication false subject (Some reply)) 0 n (Some 0) (size_of (decimal n)) (publication_back false subject (Some reply) g) refl (size_decimal n (omega arith)) (omega arith) le;
    }

hpub_back : (subject : List ℕ) (reply : Option (List ℕ)) (m n : ℕ) → GoodAddress subject reply → m ≤ n → n ≤ most_payload → Back (said FromClient) (worded (codes "HPUB") (subject ∷ onto_some reply (decimal m ∷ decimal n ∷ []))) (Carries (Publication true subject reply) m n)
hpub_back subject None m n g within le =
    let all = address_fields subject None (decimal m ∷ decimal n ∷ []) g (two_sizes m n (omega arith) (omega arith)) in
    record {
      free = no_feed_worded (codes "HPUB") (subject ∷ decimal m ∷ decimal n ∷ []) refl all;
      says = says_worded FromClient (codes "HPUB") (subject ∷ decimal m ∷ decimal n ∷ []) refl all
          ∙ sized_back most_payload (publication true subject None) (Publication true subject None) m n (size_of (decimal m)) (size_of (decimal n)) (publication_back true subject None g) (size_decimal m (omega arith)) (size_decimal n (omega arith)) within le;
    }
hpub_back subject (Some reply) m n g within le =
    let all = address_fields subject (Some reply) (decimal m ∷ decimal n ∷ []) g (two_sizes m n (omega arith) (omega arith)) in
    record {
      free = no_feed_worded (codes "HPUB") (subject ∷ reply ∷ decimal m ∷ decimal n ∷ []) refl all;
      says = says_worded FromClient (codes "HPUB") (subject ∷ reply ∷ decimal m ∷ decimal n ∷ []) refl all
          ∙ sized_back most_payload (publication true subject (Some reply)) (Publication true subject (Some reply)) m n (size_of (decimal m)) (size_of (decimal n)) (publication_back true subject (Some reply) g) (size_decimal m (omega arith)) (size_decimal n (omega arith)) within le;
    }

delivery_back : (headers : Bool) (subject sid : List ℕ) (reply : Option (List ℕ)) (m n : ℕ) (bo so : Option ℕ) → GoodAddress subject reply → GoodShort sid → bo ≡ Some m → so ≡ Some n → m ≤ n → n ≤ most_payload → delivery headers subject sid reply bo so ≡ Carries (Delivery headers sid subject reply) m n
delivery_back headers subject sid reply m n bo so g s be se within le =
    let e : Envelope = Delivery headers sid subject reply in
    cond-true (is_short sid) (cond (is_address subject reply) (sized e most_payload bo so) (Unfit InvalidSubject)) (Unfit ParserError) s.short
    ∙ (cond-true (is_address subject reply) (sized e most_payload bo so) (Unfit InvalidSubject) g.address
    ∙ sized_back most_payload e e m n bo so refl be se within le)

sid_fields : (subject sid : List ℕ) (reply : Option (List ℕ)) (others : List (List ℕ)) → GoodAddress subject reply → GoodShort sid → list_all is_field others ≡ true → list_all is_field (subject ∷ sid ∷ onto_some reply others) ≡ true
sid_fields subject sid reply others g s h =
    and_from (is_field subject) (list_all is_field (sid ∷ onto_some reply others)) g.subject_field
    (and_from (is_field sid) (list_all is_field (onto_some reply others)) s.field_is (onto_some_fields reply others g.reply_field h))

msg_back : (subject sid : List ℕ) (reply : Option (List ℕ)) (n : ℕ) → GoodAddress subject reply → GoodShort sid → n ≤ most_payload → Back (said FromServer) (worded (codes "MSG") (subject ∷ sid ∷ onto_some reply (decimal n ∷ []))) (Carries (Delivery false sid subject reply) 0 n)
msg_back subject sid None n g s le =
    let all = sid_fields subject sid None (decimal n ∷ []) g s (one_size n (omega arith)) in
    record {
      free = no_feed_worded (codes "MSG") (subject ∷ sid ∷ decimal n ∷ []) refl all;
      says = says_worded FromServer (codes "MSG") (subject ∷ sid ∷ decimal n ∷ []) refl all
          ∙ delivery_back false subject sid None 0 n (Some 0) (size_of (decimal n)) g s refl (size_decimal n (omega arith)) (omega arith) le;
    }
msg_back subject sid (Some reply) n g s le =
    let all = sid_fields subject sid (Some reply) (decimal n ∷ []) g s (one_size n (omega arith)) in
    record {
      free = no_feed_worded (codes "MSG") (subject ∷ sid ∷ reply ∷ decimal n ∷ []) refl all;
      says = says_worded FromServer (codes "MSG") (subject ∷ sid ∷ reply ∷ decimal n ∷ []) refl all
          ∙ delivery_back false subject sid (Some reply) 0 n (Some 0) (size_of (decimal n)) g s refl (size_decimal n (omega arith)) (omega arith) le;
    }

hmsg_back : (subject sid : List ℕ) (reply : Option (List ℕ)) (m n : ℕ) → GoodAddress subject reply → GoodShort sid → m ≤ n → n ≤ most_payload → Back (said FromServer) (worded (codes "HMSG") (subject ∷ sid ∷ onto_some reply (decimal m ∷ decimal n ∷ []))) (Carries (Delivery true sid subject reply) m n)
hmsg_back subject sid None m n g s within le =
    let all = sid_fields subject sid None (decimal m ∷ decimal n ∷ []) g s (two_sizes m n (omega arith) (omega arith)) in
    record {
      free = no_feed_worded (codes "HMSG") (subject ∷ sid ∷ decimal m ∷ decimal n ∷ []) refl all;
      says = says_worded FromServer (codes "HMSG") (subject ∷ sid ∷ decimal m ∷ decimal n ∷ []) refl all
          ∙ delivery_back true subject sid None m n (size_of (decimal m)) (size_of (decimal n)) g s (size_decimal m (omega arith)) (size_decimal n (omega arith)) within le;
    }
hmsg_back subject sid (Some reply) m n g s within le =
    let all = sid_fields subject sid (Some reply) (decimal m ∷ decimal n ∷ []) g s (two_sizes m n (omega arith) (omega arith)) in
    record {
      free = no_feed_worded (codes "HMSG") (subject ∷ sid ∷ reply ∷ decimal m ∷ decimal n ∷ []) refl all;
      says = says_worded FromServer (codes "HMSG") (subject ∷ sid ∷ reply ∷ decimal m ∷ decimal n ∷ []) refl all
          ∙ delivery_back true subject sid (Some reply) m n (size_of (decimal m)) (size_of (decimal n)) g s (size_decimal m (omega arith)) (size_decimal n (omega arith)) within le;
    }

sub_says : (pattern : List ℕ) (queue : Option (List ℕ)) (sid : List ℕ) → is_pattern pattern ≡ true → option_map_or is_short queue true ≡ true → is_short sid ≡ true → subscription pattern queue sid ≡ Whole (Sub pattern queue sid)
sub_says pattern queue sid p q s =
    cond-true (option_map_or is_short queue true && is_short sid) (cond (is_pattern pattern) (Whole (Sub pattern queue sid)) (Whole BadSubject)) (Unfit ParserError) (and_from (option_map_or is_short queue true) (is_short sid) q s)
    ∙ cond-true (is_pattern pattern) (Whole (Sub pattern queue sid)) (Whole BadSubject) p

sub_back : (pattern : List ℕ) (queue : Option (List ℕ)) (sid : List ℕ) → is_pattern pattern ≡ true → is_field pattern ≡ true → GoodQueue queue → GoodShort sid → Back (said FromClient) (worded (codes "SUB") (pattern ∷ onto_some queue (sid ∷ []))) (Whole (Sub pattern queue sid))
sub_back pattern None sid p f q s =
    let all = and_from (is_field pattern) (list_all is_field (sid ∷ [])) f (and_from (is_field sid) true s.field_is refl) in
    record {
      free = no_feed_worded (codes "SUB") (pattern ∷ sid ∷ []) refl all;
      says = says_worded FromClient (codes "SUB") (pattern ∷ sid ∷ []) refl all ∙ sub_says pattern None sid p refl s.short;
    }
sub_back pattern (Some queue) sid p f q s =
    let all = and_from (is_field pattern) (list_all is_field (queue ∷ sid ∷ [])) f (and_from (is_field queue) (list_all is_field (sid ∷ [])) q.field_is (and_from (is_field sid) true s.field_is refl)) in
    record {
      free = no_feed_worded (codes "SUB") (pattern ∷ queue ∷ sid ∷ []) refl all;
      says = says_worded FromClient (codes "SUB") (pattern ∷ queue ∷ sid ∷ []) refl all ∙ sub_says pattern (Some queue) sid p q.short s.short;
    }

unsub_back : (sid : List ℕ) (max : Option ℕ) → GoodShort sid → GoodCount max → Back (said FromClient) (worded (codes "UNSUB") (sid ∷ count_fields max)) (Whole (Unsub sid max))
unsub_back sid None s c =
    let all = and_from (is_field sid) true s.field_is refl in
    record {
      free = no_feed_worded (codes "UNSUB") (sid ∷ []) refl all;
      says = says_worded FromClient (codes "UNSUB") (sid ∷ []) refl all ∙ cond-true (is_short sid) (Whole (Unsub sid None)) (Unfit ParserError) s.short;
    }
unsub_back sid (Some max) s c =
    let some : 0 < max = c.0 in
    let small : max < 1_000_000_000 = c.1 in
    let all = and_from (is_field sid) (list_all is_field (decimal max ∷ [])) s.field_is (one_size max (omega arith)) in
    record {
      free = no_feed_worded (codes "UNSUB") (sid ∷ decimal max ∷ []) refl all;
      says = says_worded FromClient (codes "UNSUB") (sid ∷ decimal max ∷ []) refl all
          ∙ (cond-true (is_short sid) (ended_after sid (size_of (decimal max))) (Unfit ParserError) s.short
          ∙ (ap (ended_after sid) (size_decimal max small) ∙ cond-true (nat_lt 0 max) (Whole (Unsub sid (Some max))) (Unfit ParserError) (lt-ltb 0 max some)));
    }

fault_back : (t : List ℕ) → has_no_feed t ≡ true → Back (said FromServer) (codes "-ERR '" ++ t ++ 39 ∷ []) (Whole (Fault t))
fault_back t free =
    let q : List ℕ = 39 ∷ (t ++ 39 ∷ []) in
    let line : List ℕ = codes "-ERR" ++ 32 ∷ q in
    let trim : trim_end q ≡ q = trim_filled q (record { front = 39 ∷ t; last = 39; is = refl; filled = refl }) in
    record {
      free = no_feed_append t (39 ∷ []) free refl;
      says = ap (said_by FromServer line) (first_field (codes "-ERR") q refl) ∙ (ap (λ a. fault (quoted a)) trim ∙ ap fault (quoted_back t));
    }

connect_back : (v h n e : Bool) → Back (said FromClient) (codes "CONNECT " ++ compact_text (connect_data v h n e)) (Whole (Connect v h n e))
connect_back v h n e =
    let json : List ℕ = compact_text (connect_data v h n e) in
    let line : List ℕ = codes "CONNECT" ++ 32 ∷ json in
    let trim : trim_end json ≡ json = text_end (connect_data v h n e) tt in
    record {
      free = text_free (connect_data v h n e) (connect_plain v h n e);
      says = ap (said_by FromClient line) (first_field (codes "CONNECT") json refl)
          ∙ (ap (λ a. whole_or ParserError (option_and_then connect_of (object_of a))) trim ∙ ap (whole_or ParserError) (connect_read v h n e));
    }

info_back : (info : ServerInfo) → GoodServer info → Back (said FromServer) (codes "INFO " ++ compact_text (info_data info)) (Whole (Info info))
info_back info g =
    let json : List ℕ = compact_text (info_data info) in
    let line : List ℕ = codes "INFO" ++ 32 ∷ json in
    let trim : trim_end json ≡ json = text_end (info_data info) tt in
    record {
      free = text_free (info_data info) (info_plain info g);
      says = ap (said_by FromServer line) (first_field (codes "INFO") json refl)
          ∙ (ap (λ a. whole_or ParserError (option_and_then info_of (object_of a))) trim ∙ ap (whole_or ParserError) (info_read info g));
    }

ping_back : (side : Side) → Back (said side) (codes "PING") (Whole Ping)
ping_back FromClient = record { free = refl; says = refl }
ping_back FromServer = record { free = refl; says = refl }

pong_back : (side : Side) → Back (said side) (codes "PONG") (Whole Pong)
pong_back FromClient = record { free = refl; says = refl }
pong_back FromServer = record { free = refl; says = refl }

okay_back : Back (said FromServer) (codes "+OK") (Whole Okay)
okay_back = record { free = refl; says = refl }

and_false : (b : Bool) → (b && false) ≡ false
and_false true = refl
and_false false = refl

bad_pattern : is_pattern (codes ".") ≡ false
bad_pattern = and_false (is_utf8 (codes "."))

bad_back : Back (said FromClient) (codes "SUB . 1") (Whole BadSubject)
bad_back = record { free = refl; says = cond-false (is_pattern (codes ".")) (Whole (Sub (codes ".") None (codes "1"))) (Whole BadSubject) bad_pattern }

-- ---- a frame

parcels : (p : Parcel) (headers : HeaderBlock) → p.headers ≡ headers → record { subject = p.subject; reply = p.reply; headers = headers; payload = p.payload } ≡ p
parcels p headers h = λ i. record { subject = p.subject; reply = p.reply; headers = sym h i; payload = p.payload }

abbrev Again : Side → ClientFrame → Type 0
Again side frame = (behind : List ℕ) → first side (text frame ++ behind) ≡ Frame frame (length (text frame))

two_sides : FromClient ≡ FromServer → ⊥
two_sides e = cc

other_side : FromServer ≡ FromClient → ⊥
other_side e = cc

client_again : (frame : ClientFrame) → ReadsAgain → Good FromClient frame → IsWithinBounds frame → Again FromClient frame
client_again (Connect v h n e) reads g w behind = line_again most_line (said FromClient) framed (line_of (Connect v h n e)) (Connect v h n e) behind (connect_back v h n e) w.line
client_again (Info info) reads g w behind = absurd (two_sides g.0)
client_again (Pub p) reads g w behind =
    body_again most_line (said FromClient) framed (line_of (Pub p)) [] p.payload (Publication false p.subject p.reply) no_headers (length p.payload) behind (pub_back p.subject p.reply (length p.payload) g.1 w.payload) (omega arith) refl w.line
    ∙ ap (λ x. Frame (Pub x) (length (text (Pub p)))) (parcels p no_headers g.2)
client_again (HPub p) reads g w behind =
    let m : ℕ = length (written p.headers) in
    let n : ℕ = m + length p.payload in
    body_again most_line (said FromClient) framed (line_of (HPub p)) (written p.headers) p.payload (Publication true p.subject p.reply) p.headers n behind (hpub_back p.subject p.reply m n g.1 (omega arith) w.payload) refl (reads p.headers g.2) w.line
client_again (Sub pattern queue sid) reads g w behind = line_again most_line (said FromClient) framed (line_of (Sub pattern queue sid)) (Sub pattern queue sid) behind (sub_back pattern queue sid g.1 g.2 g.3 g.4) w.line
client_again (Unsub sid max) reads g w behind = line_again most_line (said FromClient) framed (line_of (Unsub sid max)) (Unsub sid max) behind (unsub_back sid max g.1 g.2) w.line
client_again (Msg sid p) reads g w behind = absurd (two_sides g.0)
client_again (HMsg sid p) reads g w behind = absurd (two_sides g.0)
client_again Ping reads g w behind = line_again most_line (said FromClient) framed (codes "PING") Ping behind (ping_back FromClient) w.line
client_again Pong reads g w behind = line_again most_line (said FromClient) framed (codes "PONG") Pong behind (pong_back FromClient) w.line
client_again Okay reads g w behind = absurd (two_sides g)
client_again (Fault t) reads g w behind = absurd (two_sides g.0)
client_again BadSubject reads g w behind = line_again most_line (said FromClient) framed (codes "SUB . 1") BadSubject behind bad_back w.line

server_again : (frame : ClientFrame) → ReadsAgain → Good FromServer frame → IsWithinBounds frame → Again FromServer frame
server_again (Connect v h n e) reads g w behind = absurd (other_side g)
server_again (Info info) reads g w behind = line_again most_line (said FromServer) framed (line_of (Info info)) (Info info) behind (info_back info g.1) w.line
server_again (Pub p) reads g w behind = absurd (other_side g.0)
server_again (HPub p) reads g w behind = absurd (other_side g.0)
server_again (Sub pattern queue sid) reads g w behind = absurd (other_side g.0)
server_again (Unsub sid max) reads g w behind = absurd (other_side g.0)
server_again (Msg sid p) reads g w behind =
    body_again most_line (said FromServer) framed (line_of (Msg sid p)) [] p.payload (Delivery false sid p.subject p.reply) no_headers (length p.payload) behind (msg_back p.subject sid p.reply (length p.payload) g.2 g.1 w.payload) (omega arith) refl w.line
    ∙ ap (λ x. Frame (Msg sid x) (length (text (Msg sid p)))) (parcels p no_headers g.3)
server_again (HMsg sid p) reads g w behind =
    let m : ℕ = length (written p.headers) in
    let n : ℕ = m + length p.payload in
    body_again most_line (said FromServer) framed (line_of (HMsg sid p)) (written p.headers) p.payload (Delivery true sid p.subject p.reply) p.headers n behind (hmsg_back p.subject sid p.reply m n g.2 g.1 (omega arith) w.payload) refl (reads p.headers g.3) w.line
server_again Ping reads g w behind = line_again most_line (said FromServer) framed (codes "PING") Ping behind (ping_back FromServer) w.line
server_again Pong reads g w behind = line_again most_line (said FromServer) framed (codes "PONG") Pong behind (pong_back FromServer) w.line
server_again Okay reads g w behind = line_again most_line (said FromServer) framed (codes "+OK") Okay behind okay_back w.line
server_again (Fault t) reads g w behind = line_again most_line (said FromServer) framed (line_of (Fault t)) (Fault t) behind (fault_back t g.1) w.line
server_again BadSubject reads g w behind = absurd (other_side g)

-- a good frame is read from its text
pub good_again : (side : Side) (frame : ClientFrame) → ReadsAgain → Good side frame → IsWithinBounds frame → Again side frame
good_again FromClient frame reads g w = client_again frame reads g w
good_again FromServer frame reads g w = server_again frame reads g w
