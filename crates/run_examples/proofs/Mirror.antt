-- The shard of the leaf: it makes a mirror, which asks, is bound, and stores what it is sent.
use Rattle.std.proofs.Common.{◌≡◌, ℕ, ◌+◌, ◌-◌, ◌^◌, leb, ltb, eqb, Bool, true, cond, List, [], ◌∷◌, Option, None, Some, Ok, refl, sym, ap, ◌∙◌}
use Rattle.std.specs.Prelude.{max}
use Rattle.std.specs.FinMap.{FinMap, empty, get, insert, get-empty}
use Rattle.std.specs.List.{find}
use Rattle.std.specs.Ordering.{nat_cmp}
use Rattle.std.specs.Cmp.Lexicographic.{slice_cmp}
use Rattle.std.proofs.lemmas.Bool.{and_from, eq-eqb}
use Rattle.nats_text.specs.declared.message.Start.{Start}
use Rattle.nats_text.specs.declared.message.Start.TheVariants.{Seq}
use Rattle.nats_text.specs.declared.origin.Origin.{Origin}
use Rattle.js_wire.specs.declared.packet.Packet.TheVariants.{Ask}
use Rattle.stream_fold.proofs.FactLemmas.{at_index}
use Rattle.stream_fold.specs.declared.config.Config.{Config}
use Rattle.stream_fold.specs.declared.config.Copies.TheVariants.{Mirror}
use Rattle.stream_fold.specs.declared.config.Discard.TheVariants.{Old}
use Rattle.stream_fold.specs.declared.decision.Decision.TheVariants.{Store, Bind as Binds}
use Rattle.stream_fold.specs.declared.entry.BoundTo.{BoundTo}
use Rattle.stream_fold.specs.declared.entry.Entry.{Entry}
use Rattle.stream_fold.specs.declared.entry.Entry.TheVariants.{Bind}
use Rattle.stream_fold.specs.Copying.{start_by}
use Rattle.stream_fold.specs.Facts.{first_bound}
use Rattle.record_codec.specs.Spelling.{spelling, u64_text, u32_text, config_text, text_of, list_text, discard_text, option_text, copies_text, origin_text, start_text, entry_text, put_text}
use Rattle.record_codec.specs.declared.records.Rec.TheVariants.{Create, Of}
use Rattle.mirror_core.specs.Decisions.{mirror_decision, on_answer, on_mirrored}
use Rattle.replica_ask.specs.Askers.{AskerState, asking, bound_phase, new_asker, next_attempt, took_phase, with_phase}
use Rattle.replica_ask.specs.Orders.{order}
use Rattle.tap_row.specs.declared.notice.Notice.TheVariants.{Bound as BoundNotice}
use Rattle.shard_machine.specs.declared.call.ShardCall.TheVariants as call
use Rattle.shard_machine.specs.declared.reply.Outcome.TheVariants as outcome
use Rattle.shard_machine.specs.Images.{LogImage, NameFacts, count_of, live_in, just_made, entered}
use Rattle.shard_machine.specs.Views.{Askers, StreamAskers, Copy, Effect, View, asker_of, asker_or_new, askers_of, ask_start, copies_of, copies_under, asks_of, reached, replied, with_all_asked, with_asker, entry_notices}
use Rattle.shard_machine.specs.Answers.{Answered, Answers, copy_of_asker, creates, decided_by, follows, hears, with_record}
use Rattle.shard_machine.specs.Steps.{Held, Succeeds, HaveRoom, view_in, end_after, needed}
use Rattle.run_examples.proofs.Shards.{succeeds, own, live-own, copies-live}
use Rattle.run_examples.proofs.Origin.{opened, opened_end, new_image, with_first, first-live, made-first, has-number, entry-more, answers-create, hub, leaf, orders, copies, asker, one, ask, answer, delivery, message, first_put}

-- ---- the mirror

abbrev pub want : Origin
want = record { node = Some hub; stream = orders; start = Seq 1; filter = None; maps = [] }

abbrev pub mirror : Config
mirror = record { name = copies; subjects = []; max_msgs = 0; max_bytes = 0; max_age = 0; max_per_subject = 0; max_msg_size = 0; discard = Old; window = 1; transform = None; copies = Mirror want }

abbrev pub known_made : NameFacts
known_made = just_made 0 mirror 0

-- the one copy of the stream, by what is known of it
abbrev copy : NameFacts → Copy
copy known = record { stream = copies; index = 0; facts = known.stream; want = want }

abbrev fresh : AskerState
fresh = new_asker asker 1

abbrev asked : AskerState
asked = asking fresh 0

abbrev pub askers_asked : Askers
askers_asked = with_asker copies 0 asked empty

abbrev pub made : Effect
made = record { reply = replied (outcome.Made true) None (ask ∷ []) []; records = Create 0 mirror ∷ []; given = 0; consumers = []; askers = askers_asked }

abbrev pub with_mirror : Held
with_mirror = record (opened leaf) { image = with_first mirror; askers = askers_asked; end = end_after opened_end (Create 0 mirror ∷ []) }

-- the view in which the mirror asks
abbrev asking_view : View
asking_view = with_record (view_in (opened leaf)) (Create 0 mirror)

none-asked : asker_of asking_view (copy known_made) ≡ fresh
none-asked = ap (λ (o : Option StreamAskers). asker_or_new asker 1 (get (or_none o) 0)) (get-empty (slice_cmp nat_cmp) copies) ∙ ap (asker_or_new asker 1) (get-empty nat_cmp 0)
  where
    or_none : Option StreamAskers → StreamAskers
    or_none None = empty
    or_none (Some found) = found

starts-at : ask_start (copy known_made) ≡ Seq 1
starts-at = ap start_if (get-empty nat_cmp 0)
  where
    start_if : Option BoundTo → Start
    start_if None = Seq 1
    start_if (Some to) = Seq (reached (copy known_made) + 1)

creates-it : creates (view_in (opened leaf)) mirror 0 ≡ made
creates-it = ap effect (ap (λ (i : LogImage). copies_under i copies) (made-first leaf mirror) ∙ copies-live (with_first mirror) copies known_made (first-live mirror))
    ∙ (ap (λ (s : Start). asking_effect (asker_of asking_view (copy known_made)) s) starts-at ∙ ap (λ (a : AskerState). asking_effect a (Seq 1)) none-asked)
  where
    effect : List Copy → Effect
    effect cs = record {
      reply = replied (outcome.Made true) None (asks_of asking_view cs) [];
      records = Create 0 mirror ∷ [];
      given = 0;
      consumers = [];
      askers = with_all_asked asking_view 0 cs empty;
    }

    asking_effect : AskerState → Start → Effect
    asking_effect a start = record {
      reply = replied (outcome.Made true) None (Ask asker (next_attempt a) hub orders start [] ∷ []) [];
      records = Create 0 mirror ∷ [];
      given = 0;
      consumers = [];
      askers = with_asker copies 0 (asking a 0) empty;
    }

room-to-make : HaveRoom (opened leaf) (Create 0 mirror ∷ [])
unfolding spelling u64_text u32_text config_text text_of list_text discard_text option_text copies_text origin_text start_text
room-to-make = (and_from (leb (opened_end + needed (Create 0 mirror)) (2 ^ 40)) (ltb (count_of (get new_image.names copies) + 1) (2 ^ 63)) refl (has-number mirror), refl)

pub makes : Succeeds (opened leaf) (call.Create mirror 0) made.reply made.records with_mirror
makes = succeeds (opened leaf) (call.Create mirror 0) made with_mirror refl (answers-create leaf mirror made creates-it) room-to-make
    (ap (λ (i : LogImage). record (opened leaf) { image = i; askers = askers_asked; end = end_after opened_end (Create 0 mirror ∷ []) }) (sym (made-first leaf mirror)))

-- ---- what is heard

-- the view of the leaf's shard, of this image and with these askers
abbrev view_of : LogImage → Askers → View
view_of i askers = record { node = leaf; image = i; given = 0; consumers = []; askers = askers }

-- the copy is found
found : (i : LogImage) (known : NameFacts) (askers : Askers) → live_in i copies ≡ Some known → copies_of copies known.stream ≡ copy known ∷ [] → copy_of_asker (view_of i askers) (Some asker) ≡ Some (copy known)
found i known askers live alone = ap (find (λ (c : Copy). eqb c.index 0)) (copies-live i copies known live ∙ alone)

index-own : {X : Type 0} (m : FinMap nat_cmp X) (i : ℕ) (x : X) → get (insert m i x) i ≡ Some x
index-own m i x = at_index m i x i ∙ ap (λ (b : Bool). cond b (Some x) (get m i)) (eq-eqb i i refl)

-- an asker that was put in last
asker-own : (stream : List ℕ) (index : ℕ) (a : AskerState) (askers : Askers) → get (askers_of (with_asker stream index a askers) stream) index ≡ Some a
asker-own stream index a askers = ap (λ (o : Option StreamAskers). get (or_none o) index) (own askers stream (insert (askers_of askers stream) index a)) ∙ index-own (askers_of askers stream) index a
  where
    or_none : Option StreamAskers → StreamAskers
    or_none None = empty
    or_none (Some found) = found

-- the copy's asker is the one that was put in last
pub its-asker : (i : LogImage) (known : NameFacts) (a : AskerState) (askers : Askers) → asker_of (view_of i (with_asker copies 0 a askers)) (copy known) ≡ a
its-asker i known a askers = ap (asker_or_new asker i.boot) (asker-own copies 0 a askers)

-- ---- the mirror is bound

abbrev pub binding : Entry
binding = Bind 0 1 1

abbrev bound : AskerState
bound = with_phase asked (bound_phase one 0 asked.phase)

abbrev pub askers_bound : Askers
askers_bound = with_asker copies 0 bound askers_asked

abbrev pub binds : Effect
binds = record { reply = replied (outcome.Heard (Binds binding)) (Some binding) [] (BoundNotice copies 0 ∷ []); records = Of copies binding ∷ []; given = 0; consumers = []; askers = askers_bound }

abbrev pub known_bound : NameFacts
known_bound = entered binding known_made

abbrev pub bound_image : LogImage
bound_image = record { boot = 1; names = insert (with_first mirror).names copies known_bound }

abbrev pub with_binding : Held
with_binding = record with_mirror { image = bound_image; askers = askers_bound; end = end_after with_mirror.end (Of copies binding ∷ []) }

decides-to-bind : decided_by (Mirror want) (view_of (with_first mirror) askers_asked) (copy known_made) 0 answer ≡ Binds binding
decides-to-bind =
    ap (λ (a : AskerState). mirror_decision (get known_made.stream.bindings 0) (reached (copy known_made)) (order a.phase answer) answer) (its-asker (with_first mirror) known_made asked empty)
    ∙ ap (λ (o : Option BoundTo). on_answer 0 o 1 1) (get-empty nat_cmp 0)

hears-answer : hears (view_of (with_first mirror) askers_asked) 0 answer (copy_of_asker (view_of (with_first mirror) askers_asked) (Some asker)) ≡ binds
hears-answer =
    ap (hears (view_of (with_first mirror) askers_asked) 0 answer) (found (with_first mirror) known_made askers_asked (first-live mirror) refl)
    ∙ (ap (follows (view_of (with_first mirror) askers_asked) (copy known_made) 0 answer (asker_of (view_of (with_first mirror) askers_asked) (copy known_made)).phase) decides-to-bind
    ∙ ap effect (its-asker (with_first mirror) known_made asked empty))
  where
    effect : AskerState → Effect
    effect a = record { reply = replied (outcome.Heard (Binds binding)) (Some binding) [] (BoundNotice copies 0 ∷ []); records = Of copies binding ∷ []; given = 0; consumers = []; askers = with_asker copies 0 (with_phase a (bound_phase one 0 a.phase)) askers_asked }

answers-answer : Answers (view_in with_mirror) (call.Heard answer 0) (Ok binds)
answers-answer = ap fine (sym hears-answer)
  where
    fine : Effect → Answered
    fine does = Ok does

room-to-bind : HaveRoom with_mirror (Of copies binding ∷ [])
unfolding spelling u64_text u32_text config_text text_of list_text discard_text option_text copies_text origin_text start_text entry_text put_text
room-to-bind = (refl, refl)

pub takes-answer : Succeeds with_mirror (call.Heard answer 0) binds.reply binds.records with_binding
takes-answer = succeeds with_mirror (call.Heard answer 0) binds with_binding refl answers-answer room-to-bind
    (ap (λ (i : LogImage). record with_mirror { image = i; askers = askers_bound; end = end_after with_mirror.end (Of copies binding ∷ []) }) (sym (entry-more 1 (with_first mirror).names copies known_made binding (own empty copies known_made))))

-- ---- and stores the message

abbrev pub took : AskerState
took = with_phase bound (took_phase 0 bound.phase)

abbrev askers_taken : Askers
askers_taken = with_asker copies 0 took askers_bound

abbrev pub takes : Effect
takes = record { reply = replied (outcome.Heard (Store first_put)) (Some first_put) [] (entry_notices copies known_bound.stream first_put); records = Of copies first_put ∷ []; given = 0; consumers = []; askers = askers_taken }

abbrev pub known_copied : NameFacts
known_copied = entered first_put known_bound

abbrev copied_image : LogImage
copied_image = record { boot = 1; names = insert bound_image.names copies known_copied }

abbrev pub with_copy : Held
with_copy = record with_binding { image = copied_image; askers = askers_taken; end = end_after with_binding.end (Of copies first_put ∷ []) }

pub bound-live : live_in bound_image copies ≡ Some known_bound
bound-live = live-own 1 (with_first mirror).names copies known_bound refl

pub is-bound : get known_bound.stream.bindings 0 ≡ Some (record { incarnation = 1; start = 1 })
is-bound =
    ap (λ (o : Option BoundTo). get (first_bound o (record { index = 0; to = record { incarnation = 1; start = 1 } }) empty) 0) (get-empty nat_cmp 0)
    ∙ index-own empty 0 (record { incarnation = 1; start = 1 })

none-reached : reached (copy known_bound) ≡ 0
none-reached = ap (λ (o : Option BoundTo). max 0 (start_by o (Seq 1) - 1)) is-bound

decides-to-store : decided_by (Mirror want) (view_of bound_image askers_bound) (copy known_bound) 0 delivery ≡ Store first_put
decides-to-store =
    ap (λ (a : AskerState). mirror_decision (get known_bound.stream.bindings 0) (reached (copy known_bound)) (order a.phase delivery) delivery) (its-asker bound_image known_bound bound askers_asked)
    ∙ ap (λ (n : ℕ). on_mirrored n 1 message) none-reached

hears-delivery : hears (view_of bound_image askers_bound) 0 delivery (copy_of_asker (view_of bound_image askers_bound) (Some asker)) ≡ takes
hears-delivery =
    ap (hears (view_of bound_image askers_bound) 0 delivery) (found bound_image known_bound askers_bound bound-live refl)
    ∙ (ap (follows (view_of bound_image askers_bound) (copy known_bound) 0 delivery (asker_of (view_of bound_image askers_bound) (copy known_bound)).phase) decides-to-store
    ∙ ap effect (its-asker bound_image known_bound bound askers_asked))
  where
    effect : AskerState → Effect
    effect a = record { reply = replied (outcome.Heard (Store first_put)) (Some first_put) [] (entry_notices copies known_bound.stream first_put); records = Of copies first_put ∷ []; given = 0; consumers = []; askers = with_asker copies 0 (with_phase a (took_phase 0 a.phase)) askers_bound }

answers-delivery : Answers (view_in with_binding) (call.Heard delivery 0) (Ok takes)
answers-delivery = ap fine (sym hears-delivery)
  where
    fine : Effect → Answered
    fine does = Ok does

room-to-copy : HaveRoom with_binding (Of copies first_put ∷ [])
unfolding spelling u64_text u32_text config_text text_of list_text discard_text option_text copies_text origin_text start_text entry_text put_text
room-to-copy = (refl, refl)

pub takes-delivery : Succeeds with_binding (call.Heard delivery 0) takes.reply takes.records with_copy
takes-delivery = succeeds with_binding (call.Heard delivery 0) takes with_copy refl answers-delivery room-to-copy
    (ap (λ (i : LogImage). record with_binding { image = i; askers = askers_taken; end = end_after with_binding.end (Of copies first_put ∷ []) }) (sym (entry-more 1 bound_image.names copies known_bound first_put (own (with_first mirror).names copies known_bound))))

pub copied-live : live_in with_copy.image copies ≡ Some known_copied
copied-live = live-own 1 bound_image.names copies known_copied refl
