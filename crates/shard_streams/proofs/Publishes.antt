-- What a publish is answered, by what the state of the stream shows.
use Rattle.std.proofs.Common.{◌≡◌, ℕ, ◌+◌, ◌-◌, ◌<◌, ◌^◌, ◌==◌, max, Bool, true, false, cond, List, Option, Some, None, IfOk, IfErr, Result, Ok, Err, not, ◌&&◌, nat_lt, codes, refl, sym, ap, ◌∙◌, subst, arith}
use Rattle.std.proofs.lemmas.Bool.{eqb-false}
use Rattle.std.specs.Option.{unwrap_or}
use Rattle.nats_text.specs.Headers.{first_value}
use Rattle.nats_text.specs.declared.message.Message.{Message}
use Rattle.stream_fold.specs.Facts.{StreamFacts, verdict_by_facts, repeat_by_facts}
use Rattle.stream_fold.specs.FactLaws.{FactsTell, FactsTellVerdicts, FittingKeepWindow}
use Rattle.stream_fold.specs.Publishing.{verdict}
use Rattle.stream_fold.specs.Publishing.{UnlessNoMemory, verdict_behind, earlier_refusal, later_refusal, is_other_number, number_or_0, last_of, content_size, capped, is_full, rows_with, full}
use Rattle.stream_fold.specs.Transforming.{stored_subject}
use Rattle.stream_fold.specs.declared.config.Config.{Config}
use Rattle.stream_fold.specs.declared.entry.Entry.{Entry}
use Rattle.stream_fold.specs.declared.entry.Entry.TheVariants.{Put}
use Rattle.stream_fold.specs.declared.entry.Numbered.{Numbered}
use Rattle.stream_fold.specs.declared.verdict.Refusal.{Refusal}
use Rattle.stream_fold.specs.declared.verdict.Refusal.TheVariants.{IsMirror, BadHeader, WrongStream, WrongLast, WrongSubjectLast, TooLarge, SeqEnd, Full, NoMemory}
use Rattle.stream_fold.specs.declared.verdict.Verdict.TheVariants.{Fresh, Duplicate}
use Rattle.source_core.specs.Decisions.{at_time}
use Rattle.log_replay.specs.declared.replay.Standing.{Standing}
use Rattle.shard_machine.specs.declared.call.ShardCall.TheVariants as call
use Rattle.shard_machine.specs.declared.reply.Outcome.{Outcome}
use Rattle.shard_machine.specs.declared.reply.Outcome.TheVariants as outcome
use Rattle.shard_machine.specs.declared.reply.ShardRefusal.{ShardRefusal}
use Rattle.shard_machine.specs.declared.reply.ShardRefusal.TheVariants as refusal
use Rattle.shard_machine.specs.Answers.{publishes, publishes_by, takes_subject, transformed}
use Rattle.shard_machine.specs.Images.{NameFacts, live_in}
use Rattle.shard_machine.specs.Views.{View}
use Rattle.shard_streams.specs.declared.plan.Plan.{Plan}
use Rattle.shard_streams.specs.HeldImages.{IsStreamOf, ShowsLive}
use Rattle.shard_streams.specs.Plans.{DoesWith, Plans, PlansPublish, StoresWith, published, refusal_for}
use Rattle.shard_streams.proofs.Shown.{shown, unless}

-- ---- the subject

-- a publish that the stream takes is answered as the message under the subject under which it is stored
published-is : FactsTell → (standing : Standing) (m stored : Message) (now : ℕ) (v : View) (name : List ℕ) (live : ShowsLive v.image name (Some standing))
    → takes_subject standing.state.held.limits m.subject ≡ true → stored ≡ transformed standing.state.held.limits m
    → publishes v name m now (live_in v.image name) ≡ published v name live.0.stream stored now
published-is tell standing m stored now v name live takes e =
    let is = shown tell name standing live.0 live.2 in
    let f : StreamFacts = live.0.stream in
    ap (publishes v name m now) live.1
    ∙ (ap (λ (b : Bool). cond b (published v name f (transformed f.config m) now) (Err refusal.NoStream)) (ap (λ (c : Config). takes_subject c m.subject) is.config ∙ takes)
    ∙ (ap (λ (c : Config). published v name f (transformed c m) now) is.config
    ∙ ap (λ (x : Message). published v name f x now) (sym e)))

does-store : (v : View) (name : List ℕ) (m stored : Message) (now : ℕ) (known : NameFacts) (what : Outcome) (entry : Option Entry)
    → live_in v.image name ≡ Some known → publishes v name m now (live_in v.image name) ≡ published v name known.stream stored now
    → StoresWith v name known.stream stored now what entry → DoesWith v (call.Publish name m now) name what entry
does-store v name m stored now known what None live e s = s ∙ sym e
does-store v name m stored now known what (Some entry) live e s = record {
  known = known;
  stands = live;
  answers = s.0 ∙ sym e;
  follows = λ begun. (begun, known, live, record { fits = s.1; faultless = s.2 });
}

-- a plan for the message under the subject under which it is stored is a plan of the publish
pub plans-taken : FactsTell → (standing : Standing) (m stored : Message) (now : ℕ) (result : Result Plan ShardRefusal)
    → stored ≡ transformed standing.state.held.limits m
    → ((v : View) (name : List ℕ) (known : NameFacts) → IsStreamOf name standing known → PlansPublish v name known.stream stored now result)
    → (v : View) (name : List ℕ) → ShowsLive v.image name (Some standing) → takes_subject standing.state.held.limits m.subject ≡ true → Plans v (call.Publish name m now) name result
plans-taken tell standing m stored now (Ok plan) e plans v name live takes =
    does-store v name m stored now live.0 plan.outcome plan.entry live.1 (published-is tell standing m stored now v name live takes e) (plans v name live.0 live.2)
plans-taken tell standing m stored now (Err why) e plans v name live takes =
    unless why (λ is. is ∙ sym (published-is tell standing m stored now v name live takes e)) (plans v name live.0 live.2)

-- a subject that the stream doesn't take
pub plans-other : FactsTell → (standing : Standing) (m : Message) (now : ℕ) → takes_subject standing.state.held.limits m.subject ≡ false
    → (v : View) (name : List ℕ) → ShowsLive v.image name (Some standing) → Plans v (call.Publish name m now) name (Err refusal.NoStream)
plans-other tell standing m now other v name live =
    let is = shown tell name standing live.0 live.2 in
    let f : StreamFacts = live.0.stream in
    sym (ap (publishes v name m now) live.1
    ∙ ap (λ (b : Bool). cond b (published v name f (transformed f.config m) now) (Err refusal.NoStream)) (ap (λ (c : Config). takes_subject c m.subject) is.config ∙ other))

-- under this subject the message is stored
pub stored-under : (config : Config) (m : Message) (other : Option (List ℕ)) (subject : List ℕ) → unwrap_or other m.subject ≡ stored_subject config.transform m.subject → subject ≡ unwrap_or other m.subject
    → record m { subject = subject } ≡ transformed config m
stored-under config m other subject e is = ap (λ (s : List ℕ). record m { subject = s }) (is ∙ e)

-- ---- the verdict

verdict-known : FactsTellVerdicts → FittingKeepWindow → (standing : Standing) (m : Message) (now : ℕ) (name : List ℕ) (known : NameFacts) (s : IsStreamOf name standing known)
    → verdict_by_facts known.stream m now ≡ verdict s.history m now
verdict-known verdicts keep standing m now name known s = ap (λ (f : StreamFacts). verdict_by_facts f m now) s.facts_are ∙ verdicts s.history m now (keep s.history s.fit)

no-later : (e : Option Refusal) (d : Option ℕ) (l : Option Refusal) → verdict_behind e d l ≡ Ok Fresh → l ≡ None
no-later (Some why) d l h = absurd (cc)
no-later None (Some n) l h = absurd (let z : Ok (Duplicate n) ≡ Ok Fresh = h in cc)
no-later None None None h = refl
no-later None None (Some why) h = absurd (let z : Err why ≡ Ok Fresh = h in cc)

last-test : (a b c d : Bool) (x y z w : Refusal) (o : Option Refusal) → cond a (Some x) (cond b (Some y) (cond c (Some z) (cond d (Some w) o))) ≡ None → d ≡ false
last-test true b c d x y z w o h = absurd (let k : Some x ≡ None = h in cc)
last-test false true c d x y z w o h = absurd (let k : Some y ≡ None = h in cc)
last-test false false true d x y z w o h = absurd (let k : Some z ≡ None = h in cc)
last-test false false false true x y z w o h = absurd (let k : Some w ≡ None = h in cc)
last-test false false false false x y z w o h = refl

-- a message that is new is not behind the last number
not-at-end : (c : Config) (m : Message) (rows : List Numbered) (last : ℕ) → later_refusal c m rows last ≡ None → last == 2 ^ 63 - 1 ≡ false
not-at-end c m rows last h = last-test
    (is_other_number last (first_value (codes "Nats-Expected-Last-Sequence") m.headers))
    (is_other_number (number_or_0 (last_of m.subject rows)) (first_value (codes "Nats-Expected-Last-Subject-Sequence") m.headers))
    (not (c.max_msg_size == 0) && nat_lt c.max_msg_size (content_size m))
    (last == 2 ^ 63 - 1)
    (WrongLast last) (WrongSubjectLast (number_or_0 (last_of m.subject rows))) (TooLarge (capped (content_size m)) c.max_msg_size) SeqEnd
    (cond (is_full c (rows_with c m rows last)) (Some (full (rows_with c m rows last))) None) h

fits-next : (f : StreamFacts) (m : Message) (now : ℕ) → verdict_by_facts f m now ≡ Ok Fresh → f.last < 2 ^ 63 → f.last + 1 < 2 ^ 63
fits-next f m now fresh small =
    let later = no-later (earlier_refusal f.config m) (repeat_by_facts f (first_value (codes "Nats-Msg-Id") m.headers) now) (later_refusal f.config m f.rows f.last) fresh in
    let apart : f.last ≡ 2 ^ 63 - 1 → ⊥ = eqb-false f.last (2 ^ 63 - 1) (not-at-end f.config m f.rows f.last later) in
    omega arith

stores-next : (v : View) (name : List ℕ) (f : StreamFacts) (m : Message) (now : ℕ) → verdict_by_facts f m now ≡ Ok Fresh → f.last < 2 ^ 63
    → StoresWith v name f m now (outcome.Stored (f.last + 1)) (Some (Put (f.last + 1) (at_time (max now f.clock) m) None))
stores-next v name f m now fresh small = (sym (ap (publishes_by v name f m now) fresh), (omega arith, fits-next f m now fresh small, tt), tt)

-- the entry that stores a message by what a state shows
abbrev pub next_put : Standing → Message → ℕ → Entry
next_put standing m now = Put (standing.state.held.last + 1) (record m { time = max now standing.state.held.clock }) None

module _ (tell : FactsTell) (verdicts : FactsTellVerdicts) (keep : FittingKeepWindow) (standing : Standing) (m : Message) (now : ℕ) (v : View) (name : List ℕ) (known : NameFacts) (s : IsStreamOf name standing known) where
  stores-shown : verdict s.history m now ≡ Ok Fresh → standing.state.held.last < 2 ^ 63
      → StoresWith v name known.stream m now (outcome.Stored (standing.state.held.last + 1)) (Some (next_put standing m now))
  stores-shown fresh small =
      let is = shown tell name standing known s in
      subst (λ (n : ℕ). StoresWith v name known.stream m now (outcome.Stored (n + 1)) (Some (Put (n + 1) (record m { time = max now standing.state.held.clock }) None))) is.last
      (subst (λ (t : ℕ). StoresWith v name known.stream m now (outcome.Stored (known.stream.last + 1)) (Some (Put (known.stream.last + 1) (record m { time = max now t }) None))) is.clock
      (stores-next v name known.stream m now (verdict-known verdicts keep standing m now name known s ∙ fresh) (subst (λ (n : ℕ). n < 2 ^ 63) (sym is.last) small)))

  -- a message that is new is stored
  pub plans-fresh : (plan : Plan) → verdict s.history m now ≡ Ok Fresh → standing.state.held.last < 2 ^ 63
      → plan.entry ≡ Some (next_put standing m now) → plan.outcome ≡ outcome.Stored (standing.state.held.last + 1) → PlansPublish v name known.stream m now (Ok plan)
  plans-fresh plan fresh small entry what =
      subst (λ (e : Option Entry). StoresWith v name known.stream m now plan.outcome e) (sym entry)
      (subst (λ (o : Outcome). StoresWith v name known.stream m now o (Some (next_put standing m now))) (sym what) (stores-shown fresh small))

  -- one that repeats another is told its number
  pub plans-repeat : (plan : Plan) (seq : ℕ) → verdict s.history m now ≡ Ok (Duplicate seq) → plan.entry ≡ None → plan.outcome ≡ outcome.Duplicate seq → PlansPublish v name known.stream m now (Ok plan)
  plans-repeat plan seq repeated entry what =
      subst (λ (e : Option Entry). StoresWith v name known.stream m now plan.outcome e) (sym entry)
      (subst (λ (o : Outcome). StoresWith v name known.stream m now o None) (sym what)
      (sym (ap (publishes_by v name known.stream m now) (verdict-known verdicts keep standing m now name known s ∙ repeated))))

  refuses-by : (why : Refusal) → verdict s.history m now ≡ Err why → Err (refusal.Of why) ≡ published v name known.stream m now
  refuses-by why refused = sym (ap (publishes_by v name known.stream m now) (verdict-known verdicts keep standing m now name known s ∙ refused))

  -- one that is refused is told why
  pub plans-refused : (why : Refusal) → UnlessNoMemory why (verdict s.history m now ≡ Err why) → PlansPublish v name known.stream m now (Err (refusal_for why))
  plans-refused IsMirror h = refuses-by IsMirror h
  plans-refused (BadHeader header) h = refuses-by (BadHeader header) h
  plans-refused WrongStream h = refuses-by WrongStream h
  plans-refused (WrongLast kept) h = refuses-by (WrongLast kept) h
  plans-refused (WrongSubjectLast kept) h = refuses-by (WrongSubjectLast kept) h
  plans-refused (TooLarge size limit) h = refuses-by (TooLarge size limit) h
  plans-refused SeqEnd h = refuses-by SeqEnd h
  plans-refused (Full count bytes) h = refuses-by (Full count bytes) h
  plans-refused NoMemory h = tt

-- a copy is stored, unless memory ran out
abbrev pub StoresCopy : Standing → Message → ℕ → Result Plan ShardRefusal → Type 0
StoresCopy standing m now (Ok plan) = (plan.entry ≡ Some (next_put standing m now)) × (plan.outcome ≡ outcome.Stored (standing.state.held.last + 1)) × (standing.state.held.last < 2 ^ 63)
StoresCopy standing m now (Err why) = why ≡ refusal.NoMemory

pub copy-stores : (standing : Standing) (m : Message) (now : ℕ) (result : Result Plan ShardRefusal)
    → IfOk result (λ plan. (plan.entry ≡ Some (next_put standing m now)) × (plan.outcome ≡ outcome.Stored (standing.state.held.last + 1)))
    → IfOk result (λ plan. standing.state.held.last < 2 ^ 63)
    → IfErr result (λ why. why ≡ refusal.NoMemory) → StoresCopy standing m now result
copy-stores standing m now (Ok plan) is small fails = (is.0, is.1, small)
copy-stores standing m now (Err why) is small fails = fails

pub plans-copy : FactsTell → FactsTellVerdicts → FittingKeepWindow → (standing : Standing) (m : Message) (now : ℕ) (v : View) (name : List ℕ) (known : NameFacts) (s : IsStreamOf name standing known) (result : Result Plan ShardRefusal)
    → verdict s.history m now ≡ Ok Fresh → StoresCopy standing m now result → PlansPublish v name known.stream m now result
plans-copy tell verdicts keep standing m now v name known s (Ok plan) fresh h = plans-fresh tell verdicts keep standing m now v name known s plan fresh h.2 h.0 h.1
plans-copy tell verdicts keep standing m now v name known s (Err why) fresh h = subst (λ (w : ShardRefusal). PlansPublish v name known.stream m now (Err w)) (sym h) tt

-- ---- refusals

pub refusal-other : (why : Refusal) → (why ≡ NoMemory → ⊥) → refusal.Of why ≡ refusal_for why
refusal-other IsMirror apart = refl
refusal-other (BadHeader header) apart = refl
refusal-other WrongStream apart = refl
refusal-other (WrongLast kept) apart = refl
refusal-other (WrongSubjectLast kept) apart = refl
refusal-other (TooLarge size limit) apart = refl
refusal-other SeqEnd apart = refl
refusal-other (Full count bytes) apart = refl
refusal-other NoMemory apart = absurd (apart refl)
