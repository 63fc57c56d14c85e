-- What a call that takes messages away is answered, by what the state of the stream shows.
use Rattle.std.proofs.Common.{◌≡◌, ℕ, cond, List, Option, Some, None, is_some, Ok, Err, sym, ap, ◌∙◌}
use Rattle.std.specs.Prelude.{count_by}
use Rattle.std.proofs.lemmas.Bool.{eq-eqb, ne_eqb}
use Rattle.nats_text.specs.declared.message.Message.{Message}
use Rattle.stream_fold.specs.Facts.{StreamFacts}
use Rattle.stream_fold.specs.FactLaws.{FactsTell}
use Rattle.stream_fold.specs.Histories.{is_purged, is_expired, message_at}
use Rattle.stream_fold.specs.declared.config.Config.{Config}
use Rattle.stream_fold.specs.declared.entry.Entry.{Entry}
use Rattle.stream_fold.specs.declared.entry.Entry.TheVariants.{Del, Purge, Expire}
use Rattle.stream_fold.specs.declared.entry.Numbered.{Numbered}
use Rattle.log_replay.specs.declared.replay.Standing.{Standing}
use Rattle.shard_machine.specs.declared.call.ShardCall.TheVariants as call
use Rattle.shard_machine.specs.declared.reply.Outcome.{Outcome}
use Rattle.shard_machine.specs.declared.reply.Outcome.TheVariants as outcome
use Rattle.shard_machine.specs.declared.reply.ShardRefusal.TheVariants as refusal
use Rattle.shard_machine.specs.Answers.{Answered, deletes, takes, purges, expires, below_or_all}
use Rattle.shard_machine.specs.Images.{NameFacts, live_in}
use Rattle.shard_machine.specs.Views.{View, reads, writes}
use Rattle.shard_streams.specs.HeldImages.{ShowsLive}
use Rattle.shard_streams.specs.Plans.{Plans}
use Rattle.shard_streams.proofs.Shown.{shown}

-- ---- one message

abbrev deleted : View → List ℕ → NameFacts → ℕ → Option Message → Answered
deleted v name known seq None = Err refusal.NoMessage
deleted v name known seq (Some m) = Ok (writes v name known.stream (Del seq) outcome.Deleted)

-- the message isn't kept
pub deletes-none : FactsTell → (standing : Standing) (seq : ℕ) → None ≡ message_at seq standing.state.held.rows
    → (v : View) (name : List ℕ) → ShowsLive v.image name (Some standing) → Plans v (call.Delete name seq) name (Err refusal.NoMessage)
deletes-none tell standing seq e v name live =
    let is = shown tell name standing live.0 live.2 in
    sym (ap (deletes v name seq) live.1 ∙ ap (deleted v name live.0 seq) (ap (message_at seq) is.rows ∙ sym e))

-- it is kept, and goes
pub deletes-some : FactsTell → (standing : Standing) (seq : ℕ) (m : Message) → Some m ≡ message_at seq standing.state.held.rows
    → (v : View) (name : List ℕ) → ShowsLive v.image name (Some standing) → Plans v (call.Delete name seq) name (Ok (record { entry = Some (Del seq); outcome = outcome.Deleted }))
deletes-some tell standing seq m e v name live =
    let is = shown tell name standing live.0 live.2 in
    let here : message_at seq live.0.stream.rows ≡ Some m = ap (message_at seq) is.rows ∙ sym e in
    record {
      known = live.0;
      stands = live.1;
      answers = sym (ap (deletes v name seq) live.1 ∙ ap (deleted v name live.0 seq) here);
      follows = λ begun. (begun, live.0, live.1, record { fits = ap is_some here; faultless = tt });
    }

-- ---- all that match

takes-none : (v : View) (name : List ℕ) (f : StreamFacts) (e : Entry) (count : ℕ) (what : Outcome) → count ≡ 0 → takes v name f e count what ≡ Ok (reads v what)
takes-none v name f e count what none = ap (λ b. cond b (Ok (reads v what)) (Ok (writes v name f e what))) (eq-eqb count 0 none)

takes-some : (v : View) (name : List ℕ) (f : StreamFacts) (e : Entry) (count : ℕ) (what : Outcome) → (count ≡ 0 → ⊥) → takes v name f e count what ≡ Ok (writes v name f e what)
takes-some v name f e count what some = ap (λ b. cond b (Ok (reads v what)) (Ok (writes v name f e what))) (ne_eqb count 0 some)

-- what a purge is answered, by how many messages the state shows that it takes
module _ (tell : FactsTell) (standing : Standing) (pattern : List ℕ) (below : Option ℕ) (end count : ℕ) (to : end ≡ below_or_all below standing.state.held.last) (counted : count ≡ count_by (is_purged pattern end) standing.state.held.rows) (v : View) (name : List ℕ) (live : ShowsLive v.image name (Some standing)) where
  purges-are : purges v name pattern below (live_in v.image name) ≡ takes v name live.0.stream (Purge pattern end) count (outcome.Purged count)
  purges-are =
      let is = shown tell name standing live.0 live.2 in
      let f : StreamFacts = live.0.stream in
      ap (purges v name pattern below) live.1
      ∙ (ap (λ (n : ℕ). takes v name f (Purge pattern n) (count_by (is_purged pattern n) f.rows) (outcome.Purged (count_by (is_purged pattern n) f.rows))) (ap (below_or_all below) is.last ∙ sym to)
      ∙ ap (λ (n : ℕ). takes v name f (Purge pattern end) n (outcome.Purged n)) (ap (λ (rows : List Numbered). count_by (is_purged pattern end) rows) is.rows ∙ sym counted))

  pub purges-none : count ≡ 0 → Plans v (call.Purge name pattern below) name (Ok (record { entry = None; outcome = outcome.Purged count }))
  purges-none none = sym (purges-are ∙ takes-none v name live.0.stream (Purge pattern end) count (outcome.Purged count) none)

  pub purges-some : (count ≡ 0 → ⊥) → Plans v (call.Purge name pattern below) name (Ok (record { entry = Some (Purge pattern end); outcome = outcome.Purged count }))
  purges-some some = record {
    known = live.0;
    stands = live.1;
    answers = sym (purges-are ∙ takes-some v name live.0.stream (Purge pattern end) count (outcome.Purged count) some);
    follows = λ begun. (begun, live.0, live.1, record { fits = tt; faultless = tt });
  }

-- ---- all that are old

-- what an expiry is answered, by how many messages the state shows that it takes
module _ (tell : FactsTell) (standing : Standing) (now count : ℕ) (counted : count ≡ count_by (is_expired standing.state.held.limits.max_age now) standing.state.held.rows) (v : View) (name : List ℕ) (live : ShowsLive v.image name (Some standing)) where
  expires-are : expires v name now (live_in v.image name) ≡ takes v name live.0.stream (Expire now) count (outcome.Expired count)
  expires-are =
      let is = shown tell name standing live.0 live.2 in
      let f : StreamFacts = live.0.stream in
      ap (expires v name now) live.1
      ∙ ap (λ (n : ℕ). takes v name f (Expire now) n (outcome.Expired n))
      (ap (λ (c : Config). count_by (is_expired c.max_age now) f.rows) is.config
      ∙ (ap (λ (rows : List Numbered). count_by (is_expired standing.state.held.limits.max_age now) rows) is.rows ∙ sym counted))

  pub expires-none : count ≡ 0 → Plans v (call.Expire name now) name (Ok (record { entry = None; outcome = outcome.Expired count }))
  expires-none none = sym (expires-are ∙ takes-none v name live.0.stream (Expire now) count (outcome.Expired count) none)

  pub expires-some : (count ≡ 0 → ⊥) → Plans v (call.Expire name now) name (Ok (record { entry = Some (Expire now); outcome = outcome.Expired count }))
  expires-some some = record {
    known = live.0;
    stands = live.1;
    answers = sym (expires-are ∙ takes-some v name live.0.stream (Expire now) count (outcome.Expired count) some);
    follows = λ begun. (begun, live.0, live.1, record { fits = tt; faultless = tt });
  }
