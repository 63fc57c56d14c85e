-- The shard of the hub: it makes a stream, stores a message, makes a consumer and sends the message.
use Rattle.std.proofs.Common.{◌≡◌, ℕ, ◌+◌, ◌^◌, leb, ltb, true, false, cond, List, [], ◌∷◌, length, Option, None, Some, Ok, Err, refl, sym, ap, ◌∙◌, subst}
use Rattle.std.specs.FinMap.{empty, get, insert, get-empty}
use Rattle.std.specs.List.{list_any}
use Rattle.std.specs.Ordering.{nat_cmp}
use Rattle.std.specs.Str.{bytes_eq}
use Rattle.std.specs.Cmp.Lexicographic.{slice_cmp, bytes_decides}
use Rattle.std.proofs.lemmas.Bool.{and_from, or_left}
use Rattle.nats_text.specs.Headers.{no_headers}
use Rattle.nats_text.specs.declared.message.Message.{Message}
use Rattle.nats_text.specs.declared.message.Stamp.{Stamp}
use Rattle.nats_text.specs.declared.message.Start.TheVariants.{Seq}
use Rattle.js_wire.specs.declared.packet.AskerId.{AskerId}
use Rattle.js_wire.specs.declared.packet.Packet.{Packet}
use Rattle.js_wire.specs.declared.packet.Packet.TheVariants.{Ask, Answer, Delivery}
use Rattle.push_consumer.specs.Progress.{ConsumerState, new_consumer}
use Rattle.push_consumer.specs.Pumps.{pumped}
use Rattle.stream_fold.specs.declared.config.Config.{Config}
use Rattle.stream_fold.specs.declared.config.Copies.TheVariants.{Nothing}
use Rattle.stream_fold.specs.declared.config.Discard.TheVariants.{Old}
use Rattle.stream_fold.specs.declared.entry.Entry.{Entry}
use Rattle.stream_fold.specs.declared.entry.Entry.TheVariants.{Put}
use Rattle.record_codec.specs.Spelling.{spelling, u64_text, u32_text, config_text, text_of, list_text, discard_text, option_text, copies_text, entry_text, put_text}
use Rattle.record_codec.specs.declared.records.Rec.{Rec}
use Rattle.record_codec.specs.declared.records.Rec.TheVariants.{Boot, Create, Of}
use Rattle.shard_machine.specs.declared.call.ShardCall.TheVariants as call
use Rattle.shard_machine.specs.declared.reply.Outcome.TheVariants as outcome
use Rattle.shard_machine.specs.declared.reply.ShardRefusal.TheVariants as refusal
use Rattle.shard_machine.specs.Images.{LogImage, NameFacts, Names, count_of, image_after, if_stands, live_in, live_names, just_made, entered, changed}
use Rattle.shard_machine.specs.Logs.{named_after}
use Rattle.shard_machine.specs.Views.{Copy, Effect, copies_under, asks_of, with_all_asked, replied, writes}
use Rattle.shard_machine.specs.Answers.{Answered, Answers, Creates, creates, publishes, makes_asked, pumps, with_record}
use Rattle.shard_machine.specs.Steps.{Held, Loads, Succeeds, HaveRoom, view_in, end_after, needed}
use Rattle.shard_machine.proofs.Images.{names-stand}
use Rattle.run_soundness.specs.Shards.{empty_held}
use Rattle.run_examples.proofs.Shards.{succeeds, own, live-own, copies-live}

-- ---- a shard that was just loaded

abbrev pub opening : List Rec
opening = Boot 1 ∷ []

abbrev pub opened_end : ℕ
opened_end = end_after 17 opening

abbrev pub new_image : LogImage
new_image = record { boot = 1; names = empty }

-- what a shard of a node holds that was loaded for the first time
abbrev pub opened : List ℕ → Held
opened node = record { node = node; image = new_image; doubt = None; loaded = true; given = 0; consumers = []; askers = empty; end = opened_end }

pub loads : (node : List ℕ) → Loads (empty_held node 17) opening (opened node)
unfolding spelling u64_text
loads node = record { settled = []; in_or_out = refl; room = refl; joins = refl; becomes = refl }

no-names : (xs : List (List ℕ)) → ((name : List ℕ) → list_any (bytes_eq name) xs ≡ false) → length xs ≡ 0
no-names [] f = refl
no-names (x ∷ xs) f = absurd (let z : true ≡ false = sym (or_left (bytes_eq x x) (list_any (bytes_eq x) xs) ((bytes_decides x x).1 refl)) ∙ f x in cc)

pub no-streams : length (live_names new_image) ≡ 0
unfolding named_after
no-streams = no-names (live_names new_image) (λ name. names-stand opening name ∙ refl)

pub none-live : (name : List ℕ) → live_in new_image name ≡ None
none-live name = ap if_stands (get-empty (slice_cmp nat_cmp) name)

-- a stream that is the first of a shard of a node
abbrev pub with_first : Config → LogImage
with_first c = record { boot = 1; names = insert empty c.name (just_made 0 c 0) }

pub first-live : (c : Config) → live_in (with_first c) c.name ≡ Some (just_made 0 c 0)
first-live c = live-own 1 empty c.name (just_made 0 c 0) refl

pub made-first : (node : List ℕ) (c : Config) → (with_record (view_in (opened node)) (Create 0 c)).image ≡ with_first c
made-first node c = ap image (get-empty (slice_cmp nat_cmp) c.name)
  where
    image : Option NameFacts → LogImage
    image o = record { boot = 1; names = insert empty c.name (just_made 0 c (count_of o)) }

pub has-number : (c : Config) → ltb (count_of (get (new_image.names) c.name) + 1) (2 ^ 63) ≡ true
has-number c = ap (λ (o : Option NameFacts). ltb (count_of o + 1) (2 ^ 63)) (get-empty (slice_cmp nat_cmp) c.name)

-- a stream of this image has one entry more
pub entry-more : (boot : ℕ) (names : Names) (name : List ℕ) (known : NameFacts) (e : Entry) → get names name ≡ Some known → image_after (record { boot = boot; names = names }) (Of name e ∷ []) ≡ record { boot = boot; names = insert names name (entered e known) }
entry-more boot names name known e is = ap (λ (o : Option NameFacts). record { boot = boot; names = changed name (entered e) o names }) is

-- ---- the stream

abbrev pub hub : List ℕ
hub = 104 ∷ []

abbrev pub orders : List ℕ
orders = 79 ∷ []

abbrev pub origin : Config
origin = record { name = orders; subjects = orders ∷ []; max_msgs = 0; max_bytes = 0; max_age = 0; max_per_subject = 0; max_msg_size = 0; discard = Old; window = 1; transform = None; copies = Nothing }

abbrev pub made : Effect
made = record { reply = replied (outcome.Made true) None [] []; records = Create 0 origin ∷ []; given = 0; consumers = []; askers = empty }

abbrev pub with_stream : Held
with_stream = record (opened hub) { image = with_first origin; end = end_after opened_end (Create 0 origin ∷ []) }

creates-it : creates (view_in (opened hub)) origin 0 ≡ made
creates-it = ap effect (ap (λ (i : LogImage). copies_under i orders) (made-first hub origin) ∙ copies-live (with_first origin) orders (just_made 0 origin 0) (first-live origin))
  where
    effect : List Copy → Effect
    effect cs = record {
      reply = replied (outcome.Made true) None (asks_of (with_record (view_in (opened hub)) (Create 0 origin)) cs) [];
      records = Create 0 origin ∷ [];
      given = 0;
      consumers = [];
      askers = with_all_asked (with_record (view_in (opened hub)) (Create 0 origin)) 0 cs empty;
    }

abbrev fine : Effect → Answered
fine does = Ok does

pub answers-create : (node : List ℕ) (c : Config) (does : Effect) → creates (view_in (opened node)) c 0 ≡ does → Creates (view_in (opened node)) c 0 None (live_in new_image c.name) (Ok does)
answers-create node c does is = subst (λ (o : Option NameFacts). Creates (view_in (opened node)) c 0 None o (Ok does)) (sym (none-live c.name))
    (sym (ap (λ n. cond (leb 256 n) (Err refusal.TooManyStreams) (fine (creates (view_in (opened node)) c 0))) no-streams ∙ ap fine is))

room-to-make : HaveRoom (opened hub) (Create 0 origin ∷ [])
unfolding spelling u64_text u32_text config_text text_of list_text discard_text option_text copies_text
room-to-make = (and_from (leb (opened_end + needed (Create 0 origin)) (2 ^ 40)) (ltb (count_of (get new_image.names orders) + 1) (2 ^ 63)) refl (has-number origin), refl)

pub makes : Succeeds (opened hub) (call.Create origin 0) made.reply made.records with_stream
makes = succeeds (opened hub) (call.Create origin 0) made with_stream refl (answers-create hub origin made creates-it) room-to-make
    (ap (λ (i : LogImage). record (opened hub) { image = i; end = end_after opened_end (Create 0 origin ∷ []) }) (sym (made-first hub origin)))

-- ---- the message

abbrev pub message : Message
message = record { subject = orders; headers = no_headers; payload = 49 ∷ []; time = 0 }

abbrev pub first_put : Entry
first_put = Put 1 message None

abbrev pub known_made : NameFacts
known_made = just_made 0 origin 0

abbrev pub known_stored : NameFacts
known_stored = entered first_put known_made

abbrev pub stored_image : LogImage
stored_image = record { boot = 1; names = insert (with_first origin).names orders known_stored }

abbrev pub stored : Effect
stored = writes (view_in with_stream) orders known_made.stream first_put (outcome.Stored 1)

abbrev pub with_message : Held
with_message = record with_stream { image = stored_image; end = end_after with_stream.end (Of orders first_put ∷ []) }

answers-publish : Answers (view_in with_stream) (call.Publish orders message 0) (Ok stored)
answers-publish = ap (publishes (view_in with_stream) orders message 0) (sym (first-live origin))

room-to-store : HaveRoom with_stream (Of orders first_put ∷ [])
unfolding spelling u64_text u32_text config_text text_of list_text discard_text option_text copies_text entry_text put_text
room-to-store = (refl, refl)

pub stores : Succeeds with_stream (call.Publish orders message 0) stored.reply stored.records with_message
stores = succeeds with_stream (call.Publish orders message 0) stored with_message refl answers-publish room-to-store
    (ap (λ (i : LogImage). record with_stream { image = i; end = end_after with_stream.end (Of orders first_put ∷ []) }) (sym (entry-more 1 (with_first origin).names orders known_made first_put (own empty orders known_made))))

pub stored-live : live_in stored_image orders ≡ Some known_stored
stored-live = live-own 1 (with_first origin).names orders known_stored refl

-- ---- a consumer

abbrev pub leaf : List ℕ
leaf = 108 ∷ []

abbrev pub copies : List ℕ
copies = 67 ∷ []

abbrev pub asker : AskerId
asker = record { node = leaf; stream = copies; index = 0 }

-- the first that is given of an opening
abbrev pub one : Stamp
one = record { boot = 1; count = 1 }

abbrev pub ask : Packet
ask = Ask asker one hub orders (Seq 1) []

abbrev pub answer : Packet
answer = Answer asker one one 1 1

abbrev consumer : ConsumerState
consumer = new_consumer one orders (record { asker = asker; attempt = one; origin = hub; start = 1; filters = [] }) 0

abbrev pub answered : Effect
answered = record { reply = replied (outcome.Consumer one) None (answer ∷ []) []; records = []; given = 1; consumers = consumer ∷ []; askers = empty }

abbrev pub with_consumer : Held
with_consumer = record with_message { given = 1; consumers = consumer ∷ [] }

answers-ask : Answers (view_in with_message) (call.MakeConsumer ask 0) (Ok answered)
answers-ask = ap (makes_asked (view_in with_message) 0 orders asker one hub (Seq 1) []) (sym stored-live)

pub serves-it : Succeeds with_message (call.MakeConsumer ask 0) answered.reply answered.records with_consumer
serves-it = succeeds with_message (call.MakeConsumer ask 0) answered with_consumer refl answers-ask tt refl

-- ---- the delivery

abbrev pub delivery : Packet
delivery = Delivery asker one orders one 1 1 0 message

abbrev pub most : ℕ
most = 4294967295

abbrev sent : ConsumerState
sent = pumped known_stored.stream.rows most 0 consumer

abbrev pub delivered : Effect
delivered = record { reply = replied outcome.Sent None (delivery ∷ []) []; records = []; given = 1; consumers = sent ∷ []; askers = empty }

abbrev pub with_delivery : Held
with_delivery = record with_consumer { consumers = sent ∷ [] }

answers-pump : Answers (view_in with_consumer) (call.Pump orders most 0) (Ok delivered)
answers-pump = ap (pumps (view_in with_consumer) orders most 0) (sym stored-live)

pub delivers : Succeeds with_consumer (call.Pump orders most 0) delivered.reply delivered.records with_delivery
delivers = succeeds with_consumer (call.Pump orders most 0) delivered with_delivery refl answers-pump tt refl
