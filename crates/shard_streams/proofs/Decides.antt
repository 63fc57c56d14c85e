-- What a call on the streams of a shard is answered, by what is held of the stream.
use Rattle.std.proofs.Common.{◌≡◌, ℕ, ◌<◌, ◌≤◌, Bool, true, false, cond, nat_le, List, length, Option, Some, None, is_some, Result, Ok, Err, inl, inr, refl, sym, ap, ◌∙◌, subst}
use Rattle.std.proofs.lemmas.Bool.{le-leb, lt-leb}
use Rattle.stream_fold.specs.Checking.{config_fault}
use Rattle.stream_fold.specs.FactLaws.{FactsTell}
use Rattle.stream_fold.specs.Fits.{Fits, KeepsMembers}
use Rattle.stream_fold.specs.declared.config.Config.{Config}
use Rattle.stream_fold.specs.declared.entry.Entry.{Entry}
use Rattle.stream_fold.specs.declared.entry.Entry.TheVariants.{Limits}
use Rattle.log_replay.specs.declared.replay.Standing.{Standing}
use Rattle.shard_machine.specs.declared.call.ShardCall.TheVariants as call
use Rattle.shard_machine.specs.declared.reply.Outcome.TheVariants as outcome
use Rattle.shard_machine.specs.declared.reply.ShardRefusal.{ShardRefusal}
use Rattle.shard_machine.specs.declared.reply.ShardRefusal.TheVariants as refusal
use Rattle.shard_machine.specs.Answers.{Answered, Creates, Updates, creates, changed_member}
use Rattle.shard_machine.specs.Images.{NameFacts, live_in, live_names}
use Rattle.shard_machine.specs.Views.{View, reads, writes}
use Rattle.shard_streams.specs.declared.plan.Creation.{Creation}
use Rattle.shard_streams.specs.declared.plan.Creation.TheVariants.{Stands, New}
use Rattle.shard_streams.specs.HeldImages.{ShowsLive}
use Rattle.shard_streams.specs.Plans.{ClaimsName, Plans, PlansCreate, PlansRemove}
use Rattle.shard_streams.proofs.SameConfigs.{fitting-keeps, keeping-fits}
use Rattle.shard_streams.proofs.Shown.{shown, unless}

-- ---- creations

creates-by : (v : View) (c : Config) (now : ℕ) (fault : Option (List ℕ)) (o : Option NameFacts) (answer : Answered) → config_fault c ≡ fault → live_in v.image c.name ≡ o
    → Creates v c now fault o answer → Creates v c now (config_fault c) (live_in v.image c.name) answer
creates-by v c now fault o answer e live h =
    subst (λ (f : Option (List ℕ)). Creates v c now f (live_in v.image c.name) answer) (sym e) (subst (λ (x : Option NameFacts). Creates v c now fault x answer) (sym live) h)

-- a wrong member is told
pub creates-bad : (v : View) (c : Config) (now : ℕ) (member : List ℕ) → config_fault c ≡ Some member → PlansCreate v c now (Err (refusal.BadConfig member))
creates-bad v c now member e = creates-by v c now (Some member) (live_in v.image c.name) (Err (refusal.BadConfig member)) e refl refl

-- a stream of the name stands
pub creates-again : FactsTell → (standing : Standing) (c : Config) (result : Result Creation ShardRefusal) → ClaimsName standing.state.held.limits c result
    → (v : View) (now : ℕ) → config_fault c ≡ None → ShowsLive v.image c.name (Some standing) → PlansCreate v c now result
creates-again tell standing c (Ok Stands) claims v now fault live =
    let is = shown tell c.name standing live.0 live.2 in
    creates-by v c now None (Some live.0) (Ok (reads v (outcome.Made false))) fault live.1 (inl (is.config ∙ claims, refl))
creates-again tell standing c (Ok New) claims v now fault live = absurd claims
creates-again tell standing c (Err why) claims v now fault live =
    let is = shown tell c.name standing live.0 live.2 in
    unless why (λ h. creates-by v c now None (Some live.0) (Err why) fault live.1 (inr (λ same. h.1 (sym is.config ∙ same), ap (λ (w : ShardRefusal). Err w) h.0))) claims

-- there is place for another stream
pub creates-new : (v : View) (c : Config) (now n : ℕ) → n ≡ length (live_names v.image) → n < 256 → config_fault c ≡ None → live_in v.image c.name ≡ None → PlansCreate v c now (Ok New)
creates-new v c now n count place fault live =
    let test : nat_le 256 (length (live_names v.image)) ≡ false = lt-leb 256 (length (live_names v.image)) (subst (λ (k : ℕ). k < 256) count place) in
    record {
      free = live;
      answers = creates-by v c now None None (Ok (creates v c now)) fault live (sym (ap (λ (b : Bool). cond b (Err refusal.TooManyStreams) (Ok (creates v c now))) test));
      follows = λ begun number. (begun, record { free = live; faultless = fault; number = number });
    }

pub creates-too-many : (v : View) (c : Config) (now n : ℕ) → n ≡ length (live_names v.image) → 256 ≤ n → config_fault c ≡ None → live_in v.image c.name ≡ None → PlansCreate v c now (Err refusal.TooManyStreams)
creates-too-many v c now n count full fault live =
    let test : nat_le 256 (length (live_names v.image)) ≡ true = le-leb 256 (length (live_names v.image)) (subst (λ (k : ℕ). 256 ≤ k) count full) in
    creates-by v c now None None (Err refusal.TooManyStreams) fault live (sym (ap (λ (b : Bool). cond b (Err refusal.TooManyStreams) (Ok (creates v c now))) test))

-- ---- changes of the limits

updates-by : (v : View) (c : Config) (fault : Option (List ℕ)) (o : Option NameFacts) (answer : Answered) → config_fault c ≡ fault → live_in v.image c.name ≡ o
    → Updates v c fault o answer → Updates v c (config_fault c) (live_in v.image c.name) answer
updates-by v c fault o answer e live h =
    subst (λ (f : Option (List ℕ)). Updates v c f (live_in v.image c.name) answer) (sym e) (subst (λ (x : Option NameFacts). Updates v c fault x answer) (sym live) h)

pub updates-none : (v : View) (c : Config) → live_in v.image c.name ≡ None → Plans v (call.Update c) c.name (Err refusal.NoStream)
updates-none v c live = updates-by v c (config_fault c) None (Err refusal.NoStream) refl live (by (config_fault c))
  where
    by : (fault : Option (List ℕ)) → Updates v c fault None (Err refusal.NoStream)
    by None = refl
    by (Some member) = refl

pub updates-bad : (standing : Standing) (c : Config) (member : List ℕ) → config_fault c ≡ Some member
    → (v : View) → ShowsLive v.image c.name (Some standing) → Plans v (call.Update c) c.name (Err (refusal.BadConfig member))
updates-bad standing c member e v live = updates-by v c (Some member) (Some live.0) (Err (refusal.BadConfig member)) e live.1 refl

-- what can't change stays
pub updates-limits : FactsTell → (standing : Standing) (c : Config) (entry : Entry) (v : View) (live : ShowsLive v.image c.name (Some standing)) → config_fault c ≡ None → entry ≡ Limits c
    → Fits live.2.history entry → Plans v (call.Update c) c.name (Ok (record { entry = Some entry; outcome = outcome.Updated }))
updates-limits tell standing c entry v live fault e fits =
    let is = shown tell c.name standing live.0 live.2 in
    let keeps : KeepsMembers live.0.stream.config c = subst (λ (old : Config). KeepsMembers old c) (sym is.config) (fitting-keeps standing.state live.2.history entry c live.2.state e fits) in
    subst (λ (x : Entry). Plans v (call.Update c) c.name (Ok (record { entry = Some x; outcome = outcome.Updated }))) (sym e) (record {
      known = live.0;
      stands = live.1;
      answers = updates-by v c None (Some live.0) (Ok (writes v c.name live.0.stream (Limits c) outcome.Updated)) fault live.1 (inl (keeps, refl));
      follows = λ begun. (begun, live.0, live.1, record { fits = keeps; faultless = fault });
    })

-- what can't change would
pub updates-changed : FactsTell → (standing : Standing) (c : Config) (entry : Entry) (member : List ℕ) (v : View) (live : ShowsLive v.image c.name (Some standing)) → config_fault c ≡ None → entry ≡ Limits c
    → (Fits live.2.history entry → ⊥) → member ≡ changed_member standing.state.held.limits c → Plans v (call.Update c) c.name (Err (refusal.BadConfig member))
updates-changed tell standing c entry member v live fault e unfit is_so =
    let is = shown tell c.name standing live.0 live.2 in
    updates-by v c None (Some live.0) (Err (refusal.BadConfig member)) fault live.1
    (inr (
      λ keeps. unfit (keeping-fits standing.state live.2.history entry c live.2.state e (subst (λ (old : Config). KeepsMembers old c) is.config keeps)),
      ap (λ (m : List ℕ). Err (refusal.BadConfig m)) (is_so ∙ ap (λ (old : Config). changed_member old c) (sym is.config)),
    ))

-- ---- removals

pub removes-live : (v : View) (name : List ℕ) (standing : Standing) → ShowsLive v.image name (Some standing) → {T : Type 0} (value : T) → PlansRemove v name (Ok value)
removes-live v name standing live value = record {
  known = live.0;
  stands = live.1;
  follows = λ begun. (begun, ap is_some live.1);
}
