-- What is shown of the streams that are held.
use Rattle.std.proofs.Common.{◌≡◌, ℕ, Bool, true, false, cond, List, length, Option, Some, None, Ok, Err, sym, ap, ◌∙◌}
use Rattle.std.specs.FinMap.{get}
use Rattle.stream_fold.specs.FactLaws.{FactsTell}
use Rattle.stream_fold.specs.Held.{first_of}
use Rattle.stream_fold.specs.Histories.{size_of}
use Rattle.stream_fold.specs.declared.entry.Numbered.{Numbered}
use Rattle.log_replay.specs.declared.replay.Standing.{Standing}
use Rattle.shard_machine.specs.declared.call.Which.{Which}
use Rattle.shard_machine.specs.declared.facts.CopyFact.{CopyFact}
use Rattle.shard_machine.specs.declared.facts.Facts.{Facts}
use Rattle.shard_machine.specs.declared.reply.Outcome.TheVariants as outcome
use Rattle.shard_machine.specs.declared.reply.ShardRefusal.TheVariants as refusal
use Rattle.shard_machine.specs.Answers.{Answered, gets, row_by}
use Rattle.shard_machine.specs.Images.{LogImage, NameFacts, count_of, if_stands, incarnation_in, live_in}
use Rattle.shard_machine.specs.Views.{View, reads}
use Rattle.shard_streams.specs.HeldImages.{ShowsLive}
use Rattle.shard_streams.specs.Plans.{Finds, IsShown}
use Rattle.shard_streams.proofs.Shown.{shown}

-- ---- one message

abbrev got : View → Option Numbered → Answered
got v None = Err refusal.NoMessage
got v (Some row) = Ok (reads v (outcome.Found row))

-- the message that is meant is the one that the state keeps
got-is : FactsTell → (standing : Standing) (which : Which) (o : Option Numbered) → o ≡ row_by standing.state.held.rows which
    → (v : View) (name : List ℕ) (live : ShowsLive v.image name (Some standing)) → gets v which (live_in v.image name) ≡ got v o
got-is tell standing which o e v name live =
    let is = shown tell name standing live.0 live.2 in
    ap (gets v which) live.1 ∙ ap (got v) (ap (λ (rows : List Numbered). row_by rows which) is.rows ∙ sym e)

pub finds-row : FactsTell → (standing : Standing) (which : Which) (row : Numbered) → Some row ≡ row_by standing.state.held.rows which
    → (v : View) (name : List ℕ) → ShowsLive v.image name (Some standing) → Finds v name which (Ok row)
finds-row tell standing which row e v name live = sym (got-is tell standing which (Some row) e v name live)

pub finds-none : FactsTell → (standing : Standing) (which : Which) → None ≡ row_by standing.state.held.rows which
    → (v : View) (name : List ℕ) → ShowsLive v.image name (Some standing) → Finds v name which (Err refusal.NoMessage)
finds-none tell standing which e v name live = sym (got-is tell standing which None e v name live)

-- ---- the facts of a stream

known-by : (o : Option NameFacts) (known : NameFacts) → if_stands o ≡ Some known → o ≡ Some known
known-by None known e = absurd (let z : None ≡ Some known = e in cc)
known-by (Some n) known e = by n.stands e
  where
    by : (b : Bool) → cond b (Some n) None ≡ Some known → Some n ≡ Some known
    by true h = h
    by false h = absurd (let z : None ≡ Some known = h in cc)

-- how often a stream was made under a name is known of the one that stands
pub incarnation-live : (i : LogImage) (name : List ℕ) (known : NameFacts) → live_in i name ≡ Some known → incarnation_in i name ≡ known.incarnation
incarnation-live i name known e = ap count_of (known-by (get i.names name) known e)

-- the facts of the stream are shown
pub shows-facts : FactsTell → (standing : Standing) (facts : Facts) (count : ℕ) (copies : List CopyFact) (v : View) (name : List ℕ) → ShowsLive v.image name (Some standing) → facts.incarnation ≡ incarnation_in v.image name
    → facts.config ≡ standing.state.held.limits → facts.created ≡ standing.created → facts.first ≡ first_of standing.state.held.rows standing.state.held.last → facts.last ≡ standing.state.held.last
    → facts.count ≡ length standing.state.held.rows → facts.bytes ≡ size_of standing.state.held.rows → facts.consumers ≡ count → facts.copies ≡ copies → IsShown v name count copies facts
shows-facts tell standing facts count copies v name live incarnation config created first last kept bytes consumers told =
    let is = shown tell name standing live.0 live.2 in
    let known : NameFacts = live.0 in
    let front : first_of standing.state.held.rows standing.state.held.last ≡ first_of known.stream.rows known.stream.last =
    ap (λ (rows : List Numbered). first_of rows standing.state.held.last) (sym is.rows) ∙ ap (first_of known.stream.rows) (sym is.last) in
    record {
      known = known;
      stands = live.1;
      are = λ i. record {
        config = (config ∙ sym is.config) i;
        created = (created ∙ live.2.created) i;
        incarnation = (incarnation ∙ incarnation-live v.image name known live.1) i;
        first = (first ∙ front) i;
        last = (last ∙ sym is.last) i;
        count = (kept ∙ ap (λ (rows : List Numbered). length rows) (sym is.rows)) i;
        bytes = (bytes ∙ ap size_of (sym is.rows)) i;
        consumers = consumers i;
        copies = told i;
      };
    }
