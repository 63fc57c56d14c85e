-- What a reading gives: frames whose fields are fields, whose subjects are subjects, and so on.
use Rattle.std.proofs.Common.{◌≡◌, ℕ, ◌-◌, ◌<◌, ◌^◌, ◌==◌, List, [], ◌∷◌, ◌++◌, length, get_or, take, drop, Bool, true, false, ◌&&◌, not, cond, nat_lt, Option, None, Some, refl, sym, ap, ◌∙◌, subst}
use Rattle.std.specs.Prelude.{codes, option_and_then, option_map}
use Rattle.std.specs.List.{list_all}
use Rattle.std.specs.Option.{option_map_or}
use Rattle.std.specs.Str.{is_utf8}
use Rattle.std.proofs.lemmas.Bool.{and_parts, ltb-true}
use Rattle.std.proofs.lemmas.List.Folds.{list_all-append}
use Rattle.std.proofs.lemmas.List.{take-append-drop}
use Rattle.serde_json.specs.Data.{Data}
use Rattle.serde_json.specs.Find.{get, as_number, as_str, as_u64}
use Rattle.nats_text.specs.Headers.{no_headers, is_header_block, is_blank, trim_start, trim_end}
use Rattle.nats_text.specs.Numbers.{is_digit, value_after, number_after, number_of}
use Rattle.nats_text.specs.Text.{is_name, is_pattern}
use Rattle.nats_frames.specs.declared.fault.FrameText.TheVariants.{ParserError, InvalidSubject, PayloadViolation}
use Rattle.nats_frames.specs.declared.frame.ServerInfo.{ServerInfo}
use Rattle.nats_frames.specs.declared.frame.Side.{Side}
use Rattle.nats_frames.specs.declared.frame.Side.TheVariants.{FromClient, FromServer}
use Rattle.nats_frames.specs.declared.frame.ClientFrame.{ClientFrame}
use Rattle.nats_frames.specs.declared.frame.ClientFrame.TheVariants.{Connect as ConnectFrame, Info as InfoFrame, Pub, HPub, Sub, Unsub, Msg, HMsg, Ping, Pong, Okay, Fault, BadSubject}
use Rattle.nats_frames.specs.declared.operation.Envelope.{Envelope}
use Rattle.nats_frames.specs.declared.operation.Envelope.TheVariants.{Publication, Delivery, Unreadable}
use Rattle.nats_frames.specs.declared.operation.Operation.{Operation}
use Rattle.nats_frames.specs.declared.operation.Operation.TheVariants.{Connect, Publish, PublishHeaders, Subscribe, Unsubscribe, Info, Message, MessageHeaders, Ping as PingWord, Pong as PongWord, Okay as OkayWord, Error}
use Rattle.nats_frames.specs.declared.stream.Said.{Said}
use Rattle.nats_frames.specs.declared.stream.Said.TheVariants.{Whole, Carries, Unfit}
use Rattle.nats_frames.specs.Fields.{fields, from_blank, argument, size_of, is_short, quoted}
use Rattle.nats_frames.specs.Frames.{most_payload, is_word, shared_operation, operation_of, whole_or, alone, subscription, subscribe, ended_after, unsubscribe, fault, is_address, publication, publish, publish_headers, delivery, message, message_headers, said_of, said_if, said_by, said}
use Rattle.nats_frames.specs.Json.{object_of, switch_at, flag_at, text_at, name_at, whole_at, small_at, connect_of, numbers_of, server_of, info_of}
use Rattle.nats_frames.specs.Lines.{has_no_feed, is_feed}
use Rattle.nats_frames.specs.Stream.{sized}
use Rattle.nats_frames.proofs.Decimals.{nine_digits}
use Rattle.nats_frames.proofs.Parts.{is_field, fields_are}
use Rattle.nats_frames.proofs.Trims.{trim_end_is}

-- ---- what is known of what was read

-- a subject and a reply, each a field
pub record GoodAddress (subject : List ℕ) (reply : Option (List ℕ)) : Type 0 where
  pub address : is_address subject reply ≡ true
  pub subject_field : is_field subject ≡ true
  pub reply_field : option_map_or is_field reply true ≡ true

-- a sid or a queue
pub record GoodShort (field : List ℕ) : Type 0 where
  pub short : is_short field ≡ true
  pub field_is : is_field field ≡ true

abbrev pub GoodQueue : Option (List ℕ) → Type 0
GoodQueue None = Unit {0}
GoodQueue (Some queue) = GoodShort queue

abbrev pub GoodCount : Option ℕ → Type 0
GoodCount None = Unit {0}
GoodCount (Some max) = (0 < max) × (max < 1_000_000_000)

pub record GoodServer (info : ServerInfo) : Type 0 where
  pub id : is_name info.server_id ≡ true
  pub name : is_name info.server_name ≡ true
  pub version : is_utf8 info.version ≡ true
  pub go : is_utf8 info.go ≡ true
  pub host : is_utf8 info.host ≡ true
  pub port : info.port < 2 ^ 32
  pub max_payload : info.max_payload < 2 ^ 64
  pub proto : info.proto < 2 ^ 32

abbrev pub GoodEnvelope : Side → Envelope → Type 0
GoodEnvelope side (Publication headers subject reply) = (side ≡ FromClient) × GoodAddress subject reply
GoodEnvelope side (Delivery headers sid subject reply) = (side ≡ FromServer) × GoodShort sid × GoodAddress subject reply
GoodEnvelope side Unreadable = side ≡ FromClient

abbrev pub Good : Side → ClientFrame → Type 0
Good side (ConnectFrame verbose headers no_responders echo) = side ≡ FromClient
Good side (InfoFrame info) = (side ≡ FromServer) × GoodServer info
Good side (Pub parcel) = (side ≡ FromClient) × GoodAddress parcel.subject parcel.reply × (parcel.headers ≡ no_headers)
Good side (HPub parcel) = (side ≡ FromClient) × GoodAddress parcel.subject parcel.reply × (is_header_block parcel.headers ≡ true)
Good side (Sub pattern queue sid) = (side ≡ FromClient) × (is_pattern pattern ≡ true) × (is_field pattern ≡ true) × GoodQueue queue × GoodShort sid
Good side (Unsub sid max) = (side ≡ FromClient) × GoodShort sid × GoodCount max
Good side (Msg sid parcel) = (side ≡ FromServer) × GoodShort sid × GoodAddress parcel.subject parcel.reply × (parcel.headers ≡ no_headers)
Good side (HMsg sid parcel) = (side ≡ FromServer) × GoodShort sid × GoodAddress parcel.subject parcel.reply × (is_header_block parcel.headers ≡ true)
Good side Ping = Unit {0}
Good side Pong = Unit {0}
Good side Okay = side ≡ FromServer
Good side (Fault text) = (side ≡ FromServer) × (has_no_feed text ≡ true)
Good side BadSubject = side ≡ FromClient

-- a message without a header block has no headers
abbrev pub GoodBlock : Envelope → ℕ → Type 0
GoodBlock (Publication false subject reply) block = block ≡ 0
GoodBlock (Publication true subject reply) block = Unit {0}
GoodBlock (Delivery false sid subject reply) block = block ≡ 0
GoodBlock (Delivery true sid subject reply) block = Unit {0}
GoodBlock Unreadable block = Unit {0}

abbrev pub GoodSaid : Side → Said ClientFrame Envelope → Type 0
GoodSaid side (Whole frame) = Good side frame
GoodSaid side (Carries e block size) = GoodEnvelope side e × GoodBlock e block
GoodSaid side (Unfit text) = Unit {0}

-- ---- choices

pub choose : {A : Type 0} (P : A → Type 0) (b : Bool) (x y : A) → (b ≡ true → P x) → (b ≡ false → P y) → P (cond b x y)
choose P true x y g h = g refl
choose P false x y g h = h refl

-- each value has the property, where there is one
abbrev pub AllOf : {A : Type 0} → (A → Type 0) → Option A → Type 0
AllOf R None = Unit {0}
AllOf R (Some x) = R x

pub then_good : {A B : Type 0} (R : A → Type 0) (P : Option B → Type 0) (f : A → Option B) (o : Option A) → AllOf R o → P None → ((x : A) → R x → P (f x)) → P (option_and_then f o)
then_good R P f None all none h = none
then_good R P f (Some x) all none h = h x all

pub map_good : {A B : Type 0} (R : A → Type 0) (P : Option B → Type 0) (f : A → B) (o : Option A) → AllOf R o → P None → ((x : A) → R x → P (Some (f x))) → P (option_map f o)
map_good R P f None all none h = none
map_good R P f (Some x) all none h = h x all

pub any_of : {A : Type 0} (o : Option A) → AllOf (λ (x : A). Unit {0}) o
any_of None = tt
any_of (Some x) = tt

-- a value is kept where it passes a test
tested_all : {A : Type 0} (test : A → Bool) (o : Option A) → AllOf (λ x. test x ≡ true) (option_and_then (λ x. cond (test x) (Some x) None) o)
tested_all {A} test o =
    let R : A → Type 0 = λ x. test x ≡ true in
    then_good (λ (x : A). Unit {0}) (λ (r : Option A). AllOf R r) (λ x. cond (test x) (Some x) None) o (any_of o) tt
    (λ x u. choose (λ (r : Option A). AllOf R r) (test x) (Some x) None (λ e. e) (λ e. tt))

-- ---- JSON

connect_good : (o : Option Data) → GoodSaid FromClient (whole_or ParserError (option_and_then connect_of o))
connect_good o =
    let P : Option ClientFrame → Type 0 = λ r. GoodSaid FromClient (whole_or ParserError r) in
    let R : Bool → Type 0 = λ x. Unit {0} in
    then_good (λ (d : Data). Unit {0}) P connect_of o (any_of o) tt (λ d u.
    then_good R P (λ v. option_and_then (λ h. option_and_then (λ n. option_map (λ e. ConnectFrame v h n e) (switch_at (codes "echo") true d)) (switch_at (codes "no_responders") false d)) (switch_at (codes "headers") false d)) (switch_at (codes "verbose") true d) (any_of (switch_at (codes "verbose") true d)) tt (λ v u.
    then_good R P (λ h. option_and_then (λ n. option_map (λ e. ConnectFrame v h n e) (switch_at (codes "echo") true d)) (switch_at (codes "no_responders") false d)) (switch_at (codes "headers") false d) (any_of (switch_at (codes "headers") false d)) tt (λ h u.
    then_good R P (λ n. option_map (λ e. ConnectFrame v h n e) (switch_at (codes "echo") true d)) (switch_at (codes "no_responders") false d) (any_of (switch_at (codes "no_responders") false d)) tt (λ n u.
    map_good R P (λ e. ConnectFrame v h n e) (switch_at (codes "echo") true d) (any_of (switch_at (codes "echo") true d)) tt (λ e u. refl)))))

pub name_all : (name : List ℕ) (d : Data) → AllOf (λ t. is_name t ≡ true) (name_at name d)
name_all name d = tested_all is_name (option_and_then as_str (get name d))

text_all : (name : List ℕ) (d : Data) → AllOf (λ t. is_utf8 t ≡ true) (text_at name d)
text_all name d = tested_all is_utf8 (option_and_then as_str (get name d))

whole_all : (name : List ℕ) (d : Data) → AllOf (λ n. nat_lt n (2 ^ 64) ≡ true) (whole_at name d)
whole_all name d = tested_all (λ n. nat_lt n (2 ^ 64)) (option_and_then as_u64 (option_and_then as_number (get name d)))

small_all : (name : List ℕ) (d : Data) → AllOf (λ n. nat_lt n (2 ^ 32) ≡ true) (small_at name d)
small_all name d = tested_all (λ n. nat_lt n (2 ^ 32)) (whole_at name d)

abbrev GoodInfo : Option ServerInfo → Type 0
GoodInfo r = AllOf GoodServer r

numbers_good : (server_id server_name version go host : List ℕ) (d : Data) → is_name server_id ≡ true → is_name server_name ≡ true → is_utf8 version ≡ true → is_utf8 go ≡ true → is_utf8 host ≡ true → GoodInfo (numbers_of server_id server_name version go host d)
numbers_good server_id server_name version go host d i n v g h =
    let S : ℕ → Type 0 = λ x. nat_lt x (2 ^ 32) ≡ true in
    let L : ℕ → Type 0 = λ x. nat_lt x (2 ^ 64) ≡ true in
    let make : ℕ → Bool → ℕ → ℕ → ServerInfo = λ port headers max_payload proto. record { server_id = server_id; server_name = server_name; version = version; go = go; host = host; port = port; headers = headers; max_payload = max_payload; proto = proto } in
    then_good S GoodInfo (λ port. option_and_then (λ headers. option_and_then (λ max_payload. option_map (λ proto. make port headers max_payload proto) (small_at (codes "proto") d)) (whole_at (codes "max_payload") d)) (flag_at (codes "headers") d)) (small_at (codes "port") d) (small_all (codes "port") d) tt (λ port p.
    then_good (λ (x : Bool). Unit {0}) GoodInfo (λ headers. option_and_then (λ max_payload. option_map (λ proto. make port headers max_payload proto) (small_at (codes "proto") d)) (whole_at (codes "max_payload") d)) (flag_at (codes "headers") d) (any_of (flag_at (codes "headers") d)) tt (λ headers u.
    then_good L GoodInfo (λ max_payload. option_map (λ proto. make port headers max_payload proto) (small_at (codes "proto") d)) (whole_at (codes "max_payload") d) (whole_all (codes "max_payload") d) tt (λ max_payload m.
    map_good S GoodInfo (λ proto. make port headers max_payload proto) (small_at (codes "proto") d) (small_all (codes "proto") d) tt (λ proto o. record {
      id = i;
      name = n;
      version = v;
      go = g;
      host = h;
      port = ltb-true port (2 ^ 32) p;
      max_payload = ltb-true max_payload (2 ^ 64) m;
      proto = ltb-true proto (2 ^ 32) o;
    }))))

server_good : (d : Data) → GoodInfo (server_of d)
server_good d =
    let N : List ℕ → Type 0 = λ t. is_name t ≡ true in
    let U : List ℕ → Type 0 = λ t. is_utf8 t ≡ true in
    then_good N GoodInfo (λ a. option_and_then (λ b. option_and_then (λ v. option_and_then (λ g. option_and_then (λ h. numbers_of a b v g h d) (text_at (codes "host") d)) (text_at (codes "go") d)) (text_at (codes "version") d)) (name_at (codes "server_name") d)) (name_at (codes "server_id") d) (name_all (codes "server_id") d) tt (λ a i.
    then_good N GoodInfo (λ b. option_and_then (λ v. option_and_then (λ g. option_and_then (λ h. numbers_of a b v g h d) (text_at (codes "host") d)) (text_at (codes "go") d)) (text_at (codes "version") d)) (name_at (codes "server_name") d) (name_all (codes "server_name") d) tt (λ b n.
    then_good U GoodInfo (λ v. option_and_then (λ g. option_and_then (λ h. numbers_of a b v g h d) (text_at (codes "host") d)) (text_at (codes "go") d)) (text_at (codes "version") d) (text_all (codes "version") d) tt (λ v w.
    then_good U GoodInfo (λ g. option_and_then (λ h. numbers_of a b v g h d) (text_at (codes "host") d)) (text_at (codes "go") d) (text_all (codes "go") d) tt (λ g x.
    then_good U GoodInfo (λ h. numbers_of a b v g h d) (text_at (codes "host") d) (text_all (codes "host") d) tt (λ h y.
    numbers_good a b v g h d i n w x y)))))

info_good : (o : Option Data) → GoodSaid FromServer (whole_or ParserError (option_and_then info_of o))
info_good o =
    let P : Option ClientFrame → Type 0 = λ r. GoodSaid FromServer (whole_or ParserError r) in
    then_good (λ (d : Data). Unit {0}) P info_of o (any_of o) tt (λ d u.
    map_good GoodServer P (λ info. InfoFrame info) (server_of d) (server_good d) tt (λ info g. (refl, g)))

-- ---- lines without a payload

pub pick : (f : List ℕ) (fs : List (List ℕ)) → list_all is_field (f ∷ fs) ≡ true → (is_field f ≡ true) × (list_all is_field fs ≡ true)
pick f fs h = let p = and_parts (is_field f) (list_all is_field fs) h in (p.0, p.1)

queue_good : (queue : Option (List ℕ)) → option_map_or is_short queue true ≡ true → option_map_or is_field queue true ≡ true → GoodQueue queue
queue_good None s f = tt
queue_good (Some queue) s f = record { short = s; field_is = f }

subscription_good : (pattern : List ℕ) (queue : Option (List ℕ)) (sid : List ℕ) → is_field pattern ≡ true → option_map_or is_field queue true ≡ true → is_field sid ≡ true → GoodSaid FromClient (subscription pattern queue sid)
subscription_good pattern queue sid p q s =
    let S : Said ClientFrame Envelope → Type 0 = GoodSaid FromClient in
    choose S (option_map_or is_short queue true && is_short sid) (cond (is_pattern pattern) (Whole (Sub pattern queue sid)) (Whole BadSubject)) (Unfit ParserError)
    (λ e.
    let short = and_parts (option_map_or is_short queue true) (is_short sid) e in
    choose S (is_pattern pattern) (Whole (Sub pattern queue sid)) (Whole BadSubject)
    (λ g. (refl, g, p, queue_good queue short.0 q, record { short = short.1; field_is = s }))
    (λ g. refl))
    (λ e. tt)

subscribe_good : (fs : List (List ℕ)) → list_all is_field fs ≡ true → GoodSaid FromClient (subscribe fs)
subscribe_good [] h = tt
subscribe_good (a ∷ []) h = tt
subscribe_good (a ∷ b ∷ []) h = let p = pick a (b ∷ []) h in let q = pick b [] p.1 in subscription_good a None b p.0 refl q.0
subscribe_good (a ∷ b ∷ c ∷ []) h = let p = pick a (b ∷ c ∷ []) h in let q = pick b (c ∷ []) p.1 in let r = pick c [] q.1 in subscription_good a (Some b) c p.0 q.0 r.0
subscribe_good (a ∷ b ∷ c ∷ d ∷ fs) h = tt

-- a number of 1 to 9 digits
size_small : (digits : List ℕ) → AllOf (λ n. n < 1_000_000_000) (size_of digits)
size_small digits =
    let R : Option ℕ → Type 0 = λ (o : Option ℕ). AllOf (λ n. n < 1_000_000_000) o in
    choose R (nat_lt (length digits) 10) (number_of digits) None
    (λ short. choose R (nat_lt 0 (length digits) && nat_lt (length digits) 20) (number_after 0 digits) None
    (λ some. choose R (list_all is_digit digits && nat_lt (value_after 0 digits) (2 ^ 63)) (Some (value_after 0 digits)) None
    (λ e. nine_digits digits (and_parts (list_all is_digit digits) (nat_lt (value_after 0 digits) (2 ^ 63)) e).0 (ltb-true (length digits) 10 short))
    (λ e. tt)) (λ e. tt)) (λ e. tt)

after_good : (sid : List ℕ) (o : Option ℕ) → AllOf (λ n. n < 1_000_000_000) o → GoodShort sid → GoodSaid FromClient (ended_after sid o)
after_good sid None all g = tt
after_good sid (Some max) all g = choose (GoodSaid FromClient) (nat_lt 0 max) (Whole (Unsub sid (Some max))) (Unfit ParserError) (λ e. (refl, g, (ltb-true 0 max e, all))) (λ e. tt)

unsubscribe_good : (fs : List (List ℕ)) → list_all is_field fs ≡ true → GoodSaid FromClient (unsubscribe fs)
unsubscribe_good [] h = tt
unsubscribe_good (a ∷ []) h =
    choose (GoodSaid FromClient) (is_short a) (Whole (Unsub a None)) (Unfit ParserError) (λ e. (refl, record { short = e; field_is = (pick a [] h).0 }, tt)) (λ e. tt)
unsubscribe_good (a ∷ b ∷ []) h =
    choose (GoodSaid FromClient) (is_short a) (ended_after a (size_of b)) (Unfit ParserError) (λ e. after_good a (size_of b) (size_small b) (record { short = e; field_is = (pick a (b ∷ []) h).0 })) (λ e. tt)
unsubscribe_good (a ∷ b ∷ c ∷ fs) h = tt

alone_good : (side : Side) (frame : ClientFrame) (fs : List (List ℕ)) → Good side frame → GoodSaid side (alone frame fs)
alone_good side frame [] g = g
alone_good side frame (f ∷ fs) g = tt

-- ---- a text without LF stays so

pub free_start : (bs : List ℕ) → has_no_feed bs ≡ true → has_no_feed (trim_start bs) ≡ true
free_start [] h = refl
free_start (b ∷ bs) h =
    choose (λ x. has_no_feed x ≡ true) (is_blank b) (trim_start bs) (b ∷ bs) (λ e. free_start bs (and_parts (not (is_feed b)) (has_no_feed bs) h).1) (λ e. h)

pub free_blank : (bs : List ℕ) → has_no_feed bs ≡ true → has_no_feed (from_blank bs) ≡ true
free_blank [] h = refl
free_blank (b ∷ bs) h =
    choose (λ x. has_no_feed x ≡ true) (is_blank b) (b ∷ bs) (from_blank bs) (λ e. h) (λ e. free_blank bs (and_parts (not (is_feed b)) (has_no_feed bs) h).1)

free_parts : (a b : List ℕ) → has_no_feed (a ++ b) ≡ true → (has_no_feed a ≡ true) × (has_no_feed b ≡ true)
free_parts a b h = let p = and_parts (has_no_feed a) (has_no_feed b) (sym (list_all-append (λ x. not (is_feed x)) a b) ∙ h) in (p.0, p.1)

pub free_end : (bs : List ℕ) → has_no_feed bs ≡ true → has_no_feed (trim_end bs) ≡ true
free_end bs h = let e = trim_end_is bs in (free_parts (trim_end bs) e.blanks (ap has_no_feed (sym e.is) ∙ h)).0

pub free_take : (n : ℕ) (bs : List ℕ) → has_no_feed bs ≡ true → has_no_feed (take n bs) ≡ true
free_take n bs h = (free_parts (take n bs) (drop n bs) (ap has_no_feed (take-append-drop n bs) ∙ h)).0

pub free_drop : (n : ℕ) (bs : List ℕ) → has_no_feed bs ≡ true → has_no_feed (drop n bs) ≡ true
free_drop n bs h = (free_parts (take n bs) (drop n bs) (ap has_no_feed (take-append-drop n bs) ∙ h)).1

fault_good : (text : List ℕ) → has_no_feed text ≡ true → GoodSaid FromServer (fault (quoted text))
fault_good text h =
    choose (λ o. GoodSaid FromServer (fault o)) (nat_lt 1 (length text) && get_or text 0 0 == 39 && get_or text (length text - 1) 0 == 39) (Some (take (length text - 2) (drop 1 text))) None
    (λ e. (refl, free_take (length text - 2) (drop 1 text) (free_drop 1 text h)))
    (λ e. tt)

-- ---- lines with a payload

sized_good : (side : Side) (e : Envelope) → GoodEnvelope side e → (block size : Option ℕ) → AllOf (GoodBlock e) block → GoodSaid side (sized e most_payload block size)
sized_good side e g None size b = tt
sized_good side e g (Some block) None b = tt
sized_good side e g (Some block) (Some size) b =
    choose (GoodSaid side) (nat_lt size block) (Unfit ParserError) (cond (nat_lt most_payload size) (Unfit PayloadViolation) (Carries e block size)) (λ h. tt)
    (λ h. choose (GoodSaid side) (nat_lt most_payload size) (Unfit PayloadViolation) (Carries e block size) (λ h. tt) (λ h. (g, b)))

address_good : (subject : List ℕ) (reply : Option (List ℕ)) → is_field subject ≡ true → option_map_or is_field reply true ≡ true → is_address subject reply ≡ true → GoodAddress subject reply
address_good subject reply s r h = record { address = h; subject_field = s; reply_field = r }

publication_good : (headers : Bool) (subject : List ℕ) (reply : Option (List ℕ)) → is_field subject ≡ true → option_map_or is_field reply true ≡ true → GoodEnvelope FromClient (publication headers subject reply)
publication_good headers subject reply s r =
    choose (GoodEnvelope FromClient) (is_address subject reply) (Publication headers subject reply) Unreadable (λ h. (refl, address_good subject reply s r h)) (λ h. refl)

-- no header block
plain_block : (subject : List ℕ) (reply : Option (List ℕ)) → GoodBlock (publication false subject reply) 0
plain_block subject reply = choose (λ e. GoodBlock e 0) (is_address subject reply) (Publication false subject reply) Unreadable (λ h. refl) (λ h. tt)

any_block : (subject : List ℕ) (reply : Option (List ℕ)) (block : ℕ) → GoodBlock (publication true subject reply) block
any_block subject reply block = choose (λ e. GoodBlock e block) (is_address subject reply) (Publication true subject reply) Unreadable (λ h. tt) (λ h. tt)

any_blocks : (subject : List ℕ) (reply : Option (List ℕ)) (block : Option ℕ) → AllOf (GoodBlock (publication true subject reply)) block
any_blocks subject reply None = tt
any_blocks subject reply (Some block) = any_block subject reply block

publish_good : (fs : List (List ℕ)) → list_all is_field fs ≡ true → GoodSaid FromClient (publish fs)
publish_good [] h = tt
publish_good (a ∷ []) h = tt
publish_good (a ∷ b ∷ []) h =
    sized_good FromClient (publication false a None) (publication_good false a None (pick a (b ∷ []) h).0 refl) (Some 0) (size_of b) (plain_block a None)
publish_good (a ∷ r ∷ b ∷ []) h =
    let p = pick a (r ∷ b ∷ []) h in
    sized_good FromClient (publication false a (Some r)) (publication_good false a (Some r) p.0 (pick r (b ∷ []) p.1).0) (Some 0) (size_of b) (plain_block a (Some r))
publish_good (a ∷ r ∷ b ∷ c ∷ fs) h = tt

publish_headers_good : (fs : List (List ℕ)) → list_all is_field fs ≡ true → GoodSaid FromClient (publish_headers fs)
publish_headers_good [] h = tt
publish_headers_good (a ∷ []) h = tt
publish_headers_good (a ∷ b ∷ []) h = tt
publish_headers_good (a ∷ k ∷ b ∷ []) h =
    sized_good FromClient (publication true a None) (publication_good true a None (pick a (k ∷ b ∷ []) h).0 refl) (size_of k) (size_of b) (any_blocks a None (size_of k))
publish_headers_good (a ∷ r ∷ k ∷ b ∷ []) h =
    let p = pick a (r ∷ k ∷ b ∷ []) h in
    sized_good FromClient (publication true a (Some r)) (publication_good true a (Some r) p.0 (pick r (k ∷ b ∷ []) p.1).0) (size_of k) (size_of b) (any_blocks a (Some r) (size_of k))
publish_headers_good (a ∷ r ∷ k ∷ b ∷ c ∷ fs) h = tt

free_blocks : (sid subject : List ℕ) (reply : Option (List ℕ)) (block : Option ℕ) → AllOf (GoodBlock (Delivery true sid subject reply)) block
free_blocks sid subject reply None = tt
free_blocks sid subject reply (Some block) = tt

delivery_good : (headers : Bool) (subject sid : List ℕ) (reply : Option (List ℕ)) (block size : Option ℕ) → is_field subject ≡ true → is_field sid ≡ true → option_map_or is_field reply true ≡ true → AllOf (GoodBlock (Delivery headers sid subject reply)) block → GoodSaid FromServer (delivery headers subject sid reply block size)
delivery_good headers subject sid reply block size s i r b =
    let e : Envelope = Delivery headers sid subject reply in
    choose (GoodSaid FromServer) (is_short sid) (cond (is_address subject reply) (sized e most_payload block size) (Unfit InvalidSubject)) (Unfit ParserError)
    (λ short. choose (GoodSaid FromServer) (is_address subject reply) (sized e most_payload block size) (Unfit InvalidSubject)
    (λ h. sized_good FromServer e (refl, record { short = short; field_is = i }, address_good subject reply s r h) block size b)
    (λ h. tt))
    (λ short. tt)

message_good : (fs : List (List ℕ)) → list_all is_field fs ≡ true → GoodSaid FromServer (message fs)
message_good [] h = tt
message_good (a ∷ []) h = tt
message_good (a ∷ i ∷ []) h = tt
message_good (a ∷ i ∷ b ∷ []) h =
    let p = pick a (i ∷ b ∷ []) h in
    delivery_good false a i None (Some 0) (size_of b) p.0 (pick i (b ∷ []) p.1).0 refl refl
message_good (a ∷ i ∷ r ∷ b ∷ []) h =
    let p = pick a (i ∷ r ∷ b ∷ []) h in
    let q = pick i (r ∷ b ∷ []) p.1 in
    delivery_good false a i (Some r) (Some 0) (size_of b) p.0 q.0 (pick r (b ∷ []) q.1).0 refl
message_good (a ∷ i ∷ r ∷ b ∷ c ∷ fs) h = tt

message_headers_good : (fs : List (List ℕ)) → list_all is_field fs ≡ true → GoodSaid FromServer (message_headers fs)
message_headers_good [] h = tt
message_headers_good (a ∷ []) h = tt
message_headers_good (a ∷ i ∷ []) h = tt
message_headers_good (a ∷ i ∷ k ∷ []) h = tt
message_headers_good (a ∷ i ∷ k ∷ b ∷ []) h =
    let p = pick a (i ∷ k ∷ b ∷ []) h in
    delivery_good true a i None (size_of k) (size_of b) p.0 (pick i (k ∷ b ∷ []) p.1).0 refl (free_blocks i a None (size_of k))
message_headers_good (a ∷ i ∷ r ∷ k ∷ b ∷ []) h =
    let p = pick a (i ∷ r ∷ k ∷ b ∷ []) h in
    let q = pick i (r ∷ k ∷ b ∷ []) p.1 in
    delivery_good true a i (Some r) (size_of k) (size_of b) p.0 q.0 (pick r (k ∷ b ∷ []) q.1).0 (free_blocks i a (Some r) (size_of k))
message_headers_good (a ∷ i ∷ r ∷ k ∷ b ∷ c ∷ fs) h = tt

-- ---- a line

-- the side whose operation it is
abbrev IsOf : Side → Operation → Type 0
IsOf side Connect = side ≡ FromClient
IsOf side Publish = side ≡ FromClient
IsOf side PublishHeaders = side ≡ FromClient
IsOf side Subscribe = side ≡ FromClient
IsOf side Unsubscribe = side ≡ FromClient
IsOf side Info = side ≡ FromServer
IsOf side Message = side ≡ FromServer
IsOf side MessageHeaders = side ≡ FromServer
IsOf side PingWord = Unit {0}
IsOf side PongWord = Unit {0}
IsOf side OkayWord = side ≡ FromServer
IsOf side Error = side ≡ FromServer

or_else : (side : Side) (b : Bool) (op : Operation) (rest : Option Operation) → IsOf side op → AllOf (IsOf side) rest → AllOf (IsOf side) (cond b (Some op) rest)
or_else side true op rest g h = g
or_else side false op rest g h = h

shared_of : (side : Side) (word : List ℕ) → AllOf (IsOf side) (shared_operation word)
shared_of side word = or_else side (is_word (codes "PING") word) PingWord (cond (is_word (codes "PONG") word) (Some PongWord) None) tt (or_else side (is_word (codes "PONG") word) PongWord None tt tt)

operation_side : (side : Side) (word : List ℕ) → AllOf (IsOf side) (operation_of side word)
operation_side FromClient word =
    let o = shared_operation word in
    let o1 : Option Operation = cond (is_word (codes "CONNECT") word) (Some Connect) o in
    let o2 : Option Operation = cond (is_word (codes "UNSUB") word) (Some Unsubscribe) o1 in
    let o3 : Option Operation = cond (is_word (codes "SUB") word) (Some Subscribe) o2 in
    let o4 : Option Operation = cond (is_word (codes "HPUB") word) (Some PublishHeaders) o3 in
    or_else FromClient (is_word (codes "PUB") word) Publish o4 refl
    (or_else FromClient (is_word (codes "HPUB") word) PublishHeaders o3 refl
    (or_else FromClient (is_word (codes "SUB") word) Subscribe o2 refl
    (or_else FromClient (is_word (codes "UNSUB") word) Unsubscribe o1 refl
    (or_else FromClient (is_word (codes "CONNECT") word) Connect o refl (shared_of FromClient word)))))
operation_side FromServer word =
    let o = shared_operation word in
    let o1 : Option Operation = cond (is_word (codes "INFO") word) (Some Info) o in
    let o2 : Option Operation = cond (is_word (codes "-ERR") word) (Some Error) o1 in
    let o3 : Option Operation = cond (is_word (codes "+OK") word) (Some OkayWord) o2 in
    let o4 : Option Operation = cond (is_word (codes "HMSG") word) (Some MessageHeaders) o3 in
    or_else FromServer (is_word (codes "MSG") word) Message o4 refl
    (or_else FromServer (is_word (codes "HMSG") word) MessageHeaders o3 refl
    (or_else FromServer (is_word (codes "+OK") word) OkayWord o2 refl
    (or_else FromServer (is_word (codes "-ERR") word) Error o1 refl
    (or_else FromServer (is_word (codes "INFO") word) Info o refl (shared_of FromServer word)))))

-- what is said by one side, of another that is the same
as_client : (side : Side) (said : Said ClientFrame Envelope) → side ≡ FromClient → GoodSaid FromClient said → GoodSaid side said
as_client side said e g = let P : Side → Type 0 = λ s. GoodSaid s said in subst P (sym e) g

as_server : (side : Side) (said : Said ClientFrame Envelope) → side ≡ FromServer → GoodSaid FromServer said → GoodSaid side said
as_server side said e g = let P : Side → Type 0 = λ s. GoodSaid s said in subst P (sym e) g

operation_good : (side : Side) (op : Operation) (line : List ℕ) (fs : List (List ℕ)) → IsOf side op → has_no_feed line ≡ true → list_all is_field fs ≡ true → GoodSaid side (said_of op line fs)
operation_good side Connect line fs of free h = as_client side (said_of Connect line fs) of (connect_good (object_of (argument line)))
operation_good side Publish line fs of free h = as_client side (publish fs) of (publish_good fs h)
operation_good side PublishHeaders line fs of free h = as_client side (publish_headers fs) of (publish_headers_good fs h)
operation_good side Subscribe line fs of free h = as_client side (subscribe fs) of (subscribe_good fs h)
operation_good side Unsubscribe line fs of free h = as_client side (unsubscribe fs) of (unsubscribe_good fs h)
operation_good side Info line fs of free h = as_server side (said_of Info line fs) of (info_good (object_of (argument line)))
operation_good side Message line fs of free h = as_server side (message fs) of (message_good fs h)
operation_good side MessageHeaders line fs of free h = as_server side (message_headers fs) of (message_headers_good fs h)
operation_good side PingWord line fs of free h = alone_good side Ping fs tt
operation_good side PongWord line fs of free h = alone_good side Pong fs tt
operation_good side OkayWord line fs of free h = alone_good side Okay fs of
operation_good side Error line fs of free h = as_server side (fault (quoted (argument line))) of (fault_good (argument line) (free_end (trim_start (from_blank (trim_start line))) (free_start (from_blank (trim_start line)) (free_blank (trim_start line) (free_start line free)))))

word_good : (side : Side) (o : Option Operation) (line : List ℕ) (fs : List (List ℕ)) → AllOf (IsOf side) o → has_no_feed line ≡ true → list_all is_field fs ≡ true → GoodSaid side (said_if o line fs)
word_good side None line fs of free h = tt
word_good side (Some op) line fs of free h = operation_good side op line fs of free h

by_good : (side : Side) (line : List ℕ) (fs : List (List ℕ)) → has_no_feed line ≡ true → list_all is_field fs ≡ true → GoodSaid side (said_by side line fs)
by_good side line [] free h = tt
by_good side line (word ∷ fs) free h = word_good side (operation_of side word) line fs (operation_side side word) free (pick word fs h).1

-- whatever a line says is good
pub said_good : (side : Side) (line : List ℕ) → has_no_feed line ≡ true → GoodSaid side (said side line)
said_good side line free = by_good side line (fields line) free (fields_are line free)
