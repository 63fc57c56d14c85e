-- A shard that is loaded answers a call.
use Rattle.std.proofs.Common.{◌≡◌, ℕ, Bool, true, false, List, [], ◌++◌, Option, Some, None, Ok, refl, sym, ap, ◌∙◌, cond}
use Rattle.std.specs.FinMap.{FinMap, insert, get}
use Rattle.std.specs.Ordering.{nat_cmp}
use Rattle.std.specs.Cmp.Lexicographic.{slice_cmp, bytes_decides}
use Rattle.stream_fold.proofs.FactLemmas.{at_text}
use Rattle.shard_machine.specs.declared.call.ShardCall.{ShardCall}
use Rattle.shard_machine.specs.declared.call.ShardCall.TheVariants as call
use Rattle.shard_machine.specs.declared.reply.Outcome.TheVariants as outcome
use Rattle.shard_machine.specs.Images.{LogImage, NameFacts, Names, if_stands, live_in}
use Rattle.shard_machine.specs.Views.{Askers, Copy, Effect, copies_of, copies_under, replied}
use Rattle.shard_machine.specs.Answers.{Answers, pumps}
use Rattle.shard_machine.specs.Steps.{Held, Step, Succeeds, HaveRoom, view_in, after_effect}
use Rattle.run_soundness.specs.Shards.{ShardState, Moves, ever_after}

-- ---- a call

pub succeeds : (old : Held) (c : ShardCall) (does : Effect) (new : Held) → old.loaded ≡ true → Answers (view_in old) c (Ok does) → HaveRoom old does.records → new ≡ after_effect old does → Succeeds old c does.reply does.records new
succeeds old c does new loaded answers room becomes = record {
  ready = old;
  loaded = [];
  is_ready = record { loads = λ e. absurd (let z : true ≡ false = sym loaded ∙ e in cc); same = λ e. (refl, refl) };
  does = does;
  answers = answers;
  room = room;
  replies = refl;
  joins = refl;
  becomes = becomes;
}

-- the shard behind it
abbrev pub moved : ShardState → Effect → Held → ShardState
moved old does new = record { held = new; log = old.log ++ does.records; ever = ever_after new does.reply old.ever }

pub moves : (old : ShardState) (c : ShardCall) (does : Effect) (new : Held) → Step old.held c does.reply does.records new → Moves old c does.reply (moved old does new)
moves old c does new step = record { records = does.records; step = step; log = refl; ever = refl }

-- ---- what is looked up

pub own : {X : Type 0} (m : FinMap (slice_cmp nat_cmp) X) (name : List ℕ) (x : X) → get (insert m name x) name ≡ Some x
own m name x = at_text m name x name ∙ ap (λ (b : Bool). cond b (Some x) (get m name)) ((bytes_decides name name).1 refl)

-- what stands under a name that was put in last
pub live-own : (boot : ℕ) (names : Names) (name : List ℕ) (known : NameFacts) → known.stands ≡ true → live_in (record { boot = boot; names = insert names name known }) name ≡ Some known
live-own boot names name known e = ap if_stands (own names name known) ∙ ap (λ (b : Bool). cond b (Some known) None) e

abbrev copies_if : List ℕ → Option NameFacts → List Copy
copies_if name None = []
copies_if name (Some known) = copies_of name known.stream

pub copies-live : (i : LogImage) (name : List ℕ) (known : NameFacts) → live_in i name ≡ Some known → copies_under i name ≡ copies_of name known.stream
copies-live i name known e = ap (copies_if name) e

-- ---- a pump without consumers

-- what a shard holds that is loaded and has made no consumer
abbrev pub resting : List ℕ → LogImage → Askers → ℕ → Held
resting node i askers end = record { node = node; image = i; doubt = None; loaded = true; given = 0; consumers = []; askers = askers; end = end }

-- nothing is sent
abbrev pub quiet : Askers → Effect
quiet askers = record { reply = replied outcome.Sent None [] []; records = []; given = 0; consumers = []; askers = askers }

pub pumps-quietly : (node : List ℕ) (i : LogImage) (askers : Askers) (end : ℕ) (name : List ℕ) (known : NameFacts) → live_in i name ≡ Some known
    → Succeeds (resting node i askers end) (call.Pump name 4294967295 0) (quiet askers).reply [] (resting node i askers end)
pumps-quietly node i askers end name known live =
    succeeds (resting node i askers end) (call.Pump name 4294967295 0) (quiet askers) (resting node i askers end) refl (ap (pumps (view_in (resting node i askers end)) name 4294967295 0) (sym live)) tt refl
