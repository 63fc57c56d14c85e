-- What a reading gives are frames of its side.
use Rattle.std.proofs.Common.{◌≡◌, ℕ, List, length, true, ◌&&◌, nat_lt, Option, None, Some, refl, ap}
use Rattle.std.specs.Prelude.{Result, Ok, Err, IfOk, IfSome}
use Rattle.std.specs.List.{list_all}
use Rattle.std.specs.Option.{option_map_or}
use Rattle.std.proofs.lemmas.Bool.{and_parts, and_from}
use Rattle.std.proofs.lemmas.Str.{IsUtf8-from_is_utf8}
use Rattle.nats_text.specs.Headers.{no_headers, is_header_block}
use Rattle.nats_text.specs.Laws.{ReadsBlocksAlone}
use Rattle.nats_text.specs.Text.{is_subject}
use Rattle.nats_text.specs.declared.message.Parcel.{Parcel}
use Rattle.nats_frames.specs.declared.fault.FeedFault.{FeedFault}
use Rattle.nats_frames.specs.declared.fault.Refused.{Refused}
use Rattle.nats_frames.specs.declared.frame.ClientFrame.{ClientFrame}
use Rattle.nats_frames.specs.declared.frame.ClientFrame.TheVariants.{Connect, Info, Pub, HPub, Sub, Unsub, Msg, HMsg, Ping, Pong, Okay, Fault, BadSubject}
use Rattle.nats_frames.specs.declared.frame.ServerInfo.{ServerInfo}
use Rattle.nats_frames.specs.declared.frame.Side.{Side}
use Rattle.nats_frames.specs.declared.stream.First.{First}
use Rattle.nats_frames.specs.declared.stream.First.TheVariants.{Frame, More, Refuse}
use Rattle.nats_frames.specs.Feeds.{Pending, next_told, Gives}
use Rattle.nats_frames.specs.Fields.{is_short}
use Rattle.nats_frames.specs.Frames.{first}
use Rattle.nats_frames.specs.Kinds.{is_plain_byte, is_label, is_queue, IsCount, IsServer, IsParcel, IsOf}
use Rattle.nats_frames.specs.Laws.{GivesFramesOf}
use Rattle.nats_frames.specs.Texts.{HasTexts}
use Rattle.nats_frames.proofs.Firsts.{given_good}
use Rattle.nats_frames.proofs.Readable.{GoodAddress, GoodShort, GoodQueue, GoodCount, GoodServer, Good}

-- ---- what is good is of its side

parcel : (p : Parcel) → GoodAddress p.subject p.reply → is_header_block p.headers ≡ true → IsParcel p
parcel p g h =
    let a = and_parts (is_subject p.subject) (option_map_or is_subject p.reply true) g.address in
    record { subject = a.0; reply = a.1; headers = h }

bare_parcel : (p : Parcel) → GoodAddress p.subject p.reply → p.headers ≡ no_headers → IsParcel p
bare_parcel p g h = parcel p g (ap is_header_block h)

label : (field : List ℕ) → GoodShort field → is_label field ≡ true
label field g = and_from (nat_lt 0 (length field) && list_all is_plain_byte field) (is_short field) g.field_is g.short

queue_is : (queue : Option (List ℕ)) → GoodQueue queue → is_queue queue ≡ true
queue_is None g = refl
queue_is (Some queue) g = label queue g

count_is : (max : Option ℕ) → GoodCount max → IsCount max
count_is None g = tt
count_is (Some max) g = g

server : (info : ServerInfo) → GoodServer info → IsServer info
server info g = record { server_id = g.id; server_name = g.name; port = g.port; max_payload = g.max_payload; proto = g.proto }

server_texts : (info : ServerInfo) → GoodServer info → HasTexts (Info info)
server_texts info g = (IsUtf8-from_is_utf8 info.version g.version, IsUtf8-from_is_utf8 info.go g.go, IsUtf8-from_is_utf8 info.host g.host)

good_is : (side : Side) (frame : ClientFrame) → Good side frame → IsOf side frame
good_is side (Connect v h n e) g = g
good_is side (Info info) g = (g.0, server info g.1, server_texts info g.1)
good_is side (Pub p) g = (g.0, bare_parcel p g.1 g.2, g.2)
good_is side (HPub p) g = (g.0, parcel p g.1 g.2)
good_is side (Sub pattern queue sid) g = (g.0, g.1, queue_is queue g.3, label sid g.4)
good_is side (Unsub sid max) g = (g.0, label sid g.1, count_is max g.2)
good_is side (Msg sid p) g = (g.0, label sid g.1, bare_parcel p g.2 g.3, g.3)
good_is side (HMsg sid p) g = (g.0, label sid g.1, parcel p g.2 g.3)
good_is side Ping g = tt
good_is side Pong g = tt
good_is side Okay g = g
good_is side (Fault t) g = g
good_is side BadSubject g = g

pub gives_frames_of : ReadsBlocksAlone → GivesFramesOf
gives_frames_of reads side bytes frame len h = good_is side frame (given_good reads side bytes frame len h)

-- ---- in the words of the answers

has_texts : (side : Side) (frame : ClientFrame) → IsOf side frame → HasTexts frame
has_texts side (Connect v h n e) k = tt
has_texts side (Info info) k = k.2
has_texts side (Pub p) k = tt
has_texts side (HPub p) k = tt
has_texts side (Sub pattern queue sid) k = tt
has_texts side (Unsub sid max) k = tt
has_texts side (Msg sid p) k = tt
has_texts side (HMsg sid p) k = tt
has_texts side Ping k = tt
has_texts side Pong k = tt
has_texts side Okay k = tt
has_texts side (Fault t) k = tt
has_texts side BadSubject k = tt

-- a frame that comes next is what the rest begins with
told_frame : {F : Type 0} (p : Pending) (refused : Option Refused) (f : First F) (frame : F) → Ok (Some frame) ≡ next_told p refused f → (len : ℕ) × (f ≡ Frame frame len)
told_frame p None (Frame x len) frame h = (len, cc)
told_frame p None (More wanted) frame h = absurd cc
told_frame p None (Refuse text) frame h = absurd cc
told_frame p (Some refused) f frame h = absurd cc

-- what holds of each frame that is read holds of each that is given
pub given_are : {F : Type 0} (first : List ℕ → First F) (Is : F → Type 0) → ((bytes : List ℕ) (frame : F) (len : ℕ) → first bytes ≡ Frame frame len → Is frame)
    → (old new : Pending) (answer : Result (Option F) FeedFault) → Gives first old answer new → IfOk answer (λ it. IfSome it Is)
given_are first Is reads old new (Ok (Some frame)) gives =
    let told = told_frame old old.refused (first old.rest) frame gives.0 in
    reads old.rest frame told.0 told.1
given_are first Is reads old new (Ok None) gives = tt
given_are first Is reads old new (Err fault) gives = tt

pub given_of_side : GivesFramesOf → (side : Side) (old new : Pending) (answer : Result (Option ClientFrame) FeedFault) → Gives (first side) old answer new → IfOk answer (λ it. IfSome it (λ frame. IsOf side frame))
given_of_side gives side old new answer told = given_are (first side) (IsOf side) (gives side) old new answer told

pub given_texts : GivesFramesOf → (side : Side) (old new : Pending) (answer : Result (Option ClientFrame) FeedFault) → Gives (first side) old answer new → IfOk answer (λ it. IfSome it (λ frame. HasTexts frame))
given_texts gives side old new answer told =
    given_are (first side) HasTexts (λ bytes frame len h. has_texts side frame (gives side bytes frame len h)) old new answer told
