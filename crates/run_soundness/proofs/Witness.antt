-- A run that happens: a node is made and makes a stream, and then it crashes. So the relations can be met.
use Rattle.std.proofs.Common.{◌≡◌, ℕ, ◌+◌, ◌<◌, ◌^◌, ◌%◌, leb, Bool, true, false, cond, ◌&&◌, ltb, List, [], ◌∷◌, ◌++◌, length, Option, None, Ok, Err, refl, sym, ap, ◌∙◌, subst, arith, ◌⊎◌, inl, inr}
use Rattle.std.specs.FinMap.{empty, get, get-empty}
use Rattle.std.specs.Ordering.{nat_cmp}
use Rattle.std.specs.List.{list_any}
use Rattle.std.specs.Str.{bytes_eq}
use Rattle.std.specs.Cmp.Lexicographic.{slice_cmp, bytes_decides}
use Rattle.std.proofs.lemmas.Bool.{and_parts, and_from, ltb-true, ltb-false, or_left}
use Rattle.nats_text.specs.Hash.{fnv1a}
use Rattle.stream_fold.specs.declared.config.Config.{Config}
use Rattle.stream_fold.specs.declared.config.Copies.TheVariants.{Nothing}
use Rattle.stream_fold.specs.declared.config.Discard.TheVariants.{Old}
use Rattle.record_codec.specs.Spelling.{spelling, u64_text, u32_text, config_text, text_of, list_text, discard_text, option_text, copies_text}
use Rattle.record_codec.specs.declared.records.Rec.{Rec}
use Rattle.record_codec.specs.declared.records.Rec.TheVariants.{Boot, Create}
use Rattle.shard_machine.specs.declared.call.ShardCall.TheVariants as call
use Rattle.shard_machine.specs.declared.reply.ShardRefusal.TheVariants as refusal
use Rattle.shard_machine.specs.Images.{LogImage, NameFacts, count_of, image_after, no_image, if_stands, live_in, live_names}
use Rattle.shard_machine.specs.Logs.{named_after}
use Rattle.shard_machine.specs.Views.{Effect, idle_askers}
use Rattle.shard_machine.specs.Answers.{Answered, Answers, Creates, creates}
use Rattle.shard_machine.specs.Steps.{Loads, view_in, after_effect, end_after, needed, has_room}
use Rattle.shard_machine.proofs.Images.{names-stand}
use Rattle.run_soundness.specs.Shards.{ShardState, Moves, LoadsOn, RestsOn, empty_held}
use Rattle.run_soundness.specs.Laws.{ARun}
use Rattle.run_soundness.specs.Worlds.{World, shard_of, Calls, Crashes, Begins, Run, IsEmpty}
use Rattle.run_soundness.specs.Worlds.Event.{Call, Crash, Begin}
use Rattle.run_soundness.proofs.Invariant.{with_shard, with-here, with-else}

abbrev pub hub : List ℕ
hub = 104 ∷ []

abbrev pub orders : List ℕ
orders = 83 ∷ []

abbrev pub config : Config
config = record { name = orders; subjects = orders ∷ []; max_msgs = 0; max_bytes = 0; max_age = 0; max_per_subject = 0; max_msg_size = 0; discard = Old; window = 1; transform = None; copies = Nothing }

abbrev never : List ℕ → ShardState
never n = record { held = empty_held n 8; log = []; ever = [] }

abbrev pub first : World
first = record { nodes = []; joined = λ n. false; shard = λ n k. never n; bag = [] }

pub starts-empty : IsEmpty first
starts-empty = record { nodes = refl; bag = refl; shards = λ n k. record { end = 8; held = refl; log = refl; ever = refl } }

-- ---- the node is made

abbrev opening : List Rec
opening = Boot 1 ∷ []

abbrev opened : ShardState
opened = record {
  held = record { node = hub; image = image_after no_image opening; doubt = None; loaded = true; given = 0; consumers = []; askers = empty; end = end_after 8 opening };
  log = [] ++ opening;
  ever = [];
}

abbrev begun : World
begun = record { nodes = [] ++ hub ∷ []; joined = λ n. false; shard = λ n k. cond (bytes_eq n hub && ltb k 8) opened (never n); bag = [] }

loads : Loads (empty_held hub 8) opening opened.held
unfolding spelling u64_text
loads = record { settled = []; in_or_out = refl; room = refl; joins = refl; becomes = refl }

at-hub : (k : ℕ) → k < 8 → (bytes_eq hub hub && ltb k 8) ≡ true
at-hub k lt = by (ltb k 8) refl
  where
    by : (b : Bool) → ltb k 8 ≡ b → (bytes_eq hub hub && b) ≡ true
    by true e = refl
    by false e = absurd (let q = ltb-false k 8 e in omega arith)

begins : Begins first hub begun
begins = record {
  new_name = λ q. (let lt : q.0 < 0 = q.1 in omega arith);
  shards = λ k lt. subst (λ (b : Bool). LoadsOn (never hub) (cond b opened (never hub))) (sym (at-hub k lt)) (record { records = opening; loads = loads; log = refl; ever = refl });
  others = λ n k. by n k (bytes_eq n hub && ltb k 8) refl;
  bag = refl;
  nodes = refl;
  joined = λ n. inr refl;
}
  where
    by : (n : List ℕ) (k : ℕ) (b : Bool) → (bytes_eq n hub && ltb k 8) ≡ b → ((n ≡ hub) × (k < 8)) ⊎ (cond b opened (never n) ≡ never n)
    by n k true e = let p = and_parts (bytes_eq n hub) (ltb k 8) e in inl ((bytes_decides n hub).0 p.0, ltb-true k 8 p.1)
    by n k false e = inr refl

-- ---- it makes a stream

no-names : (xs : List (List ℕ)) → ((name : List ℕ) → list_any (bytes_eq name) xs ≡ false) → length xs ≡ 0
no-names [] f = refl
no-names (x ∷ xs) f = absurd (let z : true ≡ false = sym (or_left (bytes_eq x x) (list_any (bytes_eq x) xs) ((bytes_decides x x).1 refl)) ∙ f x in cc)

abbrev i : LogImage
i = image_after no_image opening

none-live : (name : List ℕ) → live_in i name ≡ None
none-live name = ap if_stands (get-empty (slice_cmp nat_cmp) name)

no-streams : length (live_names i) ≡ 0
unfolding named_after
no-streams = no-names (live_names i) (λ name. names-stand opening name ∙ refl)

abbrev made_now : Effect
made_now = creates (view_in opened.held) config 0

abbrev fine : Effect → Answered
fine does = Ok does

answers : Answers (view_in opened.held) (call.Create config 0) (Ok made_now)
answers = subst (λ (o : Option NameFacts). Creates (view_in opened.held) config 0 None o (Ok made_now)) (sym (none-live orders))
    (sym (ap (λ n. cond (leb 256 n) (Err refusal.TooManyStreams) (fine made_now)) no-streams))

room-number : (o : Option NameFacts) → o ≡ None → ltb (count_of o + 1) (2 ^ 63) ≡ true
room-number o e = ap (λ (x : Option NameFacts). ltb (count_of x + 1) (2 ^ 63)) e

bytes-fit : leb (end_after 8 opening + needed (Create 0 config)) (2 ^ 40) ≡ true
unfolding spelling u64_text u32_text config_text text_of list_text discard_text option_text copies_text
bytes-fit = refl

room : has_room opened.held.end opened.held.image (Create 0 config) ≡ true
room = and_from (leb (end_after 8 opening + needed (Create 0 config)) (2 ^ 40)) (ltb (count_of (get i.names orders) + 1) (2 ^ 63)) bytes-fit (room-number (get i.names orders) (get-empty (slice_cmp nat_cmp) orders))

abbrev k : ℕ
k = shard_of orders

below : (n : ℕ) → n % 8 < 8
below n = omega arith

abbrev with_stream : ShardState
with_stream = record { held = after_effect opened.held made_now; log = opened.log ++ Create 0 config ∷ []; ever = [] }

moves : Moves opened (call.Create config 0) made_now.reply with_stream
moves = record {
  records = Create 0 config ∷ [];
  step = record {
    ready = opened.held;
    loaded = [];
    is_ready = record { loads = λ e. absurd (let z : true ≡ false = e in cc); same = λ e. (refl, refl) };
    does = made_now;
    answers = answers;
    room = (room, refl);
    replies = refl;
    joins = refl;
    becomes = refl;
  };
  log = refl;
  ever = refl;
}

abbrev second : World
second = record { nodes = begun.nodes; joined = begun.joined; shard = (with_shard begun hub k with_stream).shard; bag = begun.bag ++ made_now.reply.packets }

calls : Calls begun hub k (call.Create config 0) made_now.reply second
calls = record {
  there = (0, omega arith, refl);
  eight = below (fnv1a orders);
  may = refl;
  moves = subst (λ (s : ShardState). Moves (begun.shard hub k) (call.Create config 0) made_now.reply s) (sym (with-here begun hub k with_stream))
      (subst (λ (b : Bool). Moves (cond b opened (never hub)) (call.Create config 0) made_now.reply with_stream) (sym (at-hub k (below (fnv1a orders)))) moves);
  others = with-else begun hub k with_stream;
  bag = refl;
  nodes = refl;
  joined = refl;
}

-- ---- and crashes

abbrev rested : ShardState → ShardState
rested s = record { held = record (s.held) { loaded = false; consumers = []; askers = idle_askers s.held.askers }; log = s.log; ever = s.ever }

abbrev pub third : World
third = record { nodes = second.nodes; joined = second.joined; shard = λ n j. cond (bytes_eq n hub && ltb j 8) (rested (second.shard n j)) (second.shard n j); bag = second.bag }

crashes : Crashes second hub third
crashes = record {
  there = (0, omega arith, refl);
  shards = λ j lt. inr (subst (λ (b : Bool). RestsOn (second.shard hub j) (cond b (rested (second.shard hub j)) (second.shard hub j))) (sym (at-hub j lt)) (record { held = refl; log = refl; ever = refl }));
  others = λ n j. by n j (bytes_eq n hub && ltb j 8) refl;
  bag = refl;
  nodes = refl;
  joined = refl;
}
  where
    by : (n : List ℕ) (j : ℕ) (b : Bool) → (bytes_eq n hub && ltb j 8) ≡ b → ((n ≡ hub) × (j < 8)) ⊎ (cond b (rested (second.shard n j)) (second.shard n j) ≡ second.shard n j)
    by n j true e = let p = and_parts (bytes_eq n hub) (ltb j 8) e in inl ((bytes_decides n hub).0 p.0, ltb-true j 8 p.1)
    by n j false e = inr refl

-- There is a run in which a node is made, makes a stream and crashes.
pub run-happens : Run first (Begin hub ∷ Call hub k (call.Create config 0) made_now.reply ∷ Crash hub ∷ []) third
run-happens = (begun, begins, (second, calls, (third, crashes, refl)))

pub a-run : ARun
a-run = record { first = first; last = third; node = hub; config = config; reply = made_now.reply; empty = starts-empty; run = run-happens; accepted = refl }
