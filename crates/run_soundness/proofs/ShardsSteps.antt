-- Each step keeps what each shard keeps: loads, faults and refusals too.
use Rattle.std.proofs.Common.{◌≡◌, ℕ, ◌+◌, ◌<◌, ◌≤◌, ◌^◌, Bool, true, false, leb, List, [], ◌∷◌, ◌++◌, Option, Some, None, refl, sym, ap, ◌∙◌, subst, arith, ◌⊎◌, inl, inr, append-nil, append_assoc}
use Rattle.std.specs.Prelude.{map, Contains, Ok}
use Rattle.std.proofs.lemmas.Bool.{and_parts, ltb-true}
use Rattle.nats_text.specs.declared.message.Stamp.{Stamp}
use Rattle.js_wire.specs.declared.packet.Packet.{Packet}
use Rattle.stream_fold.specs.declared.entry.Entry.{Entry}
use Rattle.stream_fold.specs.declared.entry.Numbered.{Numbered}
use Rattle.record_codec.specs.declared.records.Rec.{Rec}
use Rattle.record_codec.specs.declared.records.Rec.TheVariants.{Boot, Create, Remove, Of}
use Rattle.push_consumer.specs.Chains.{Sendings, with_rows}
use Rattle.push_consumer.specs.Progress.{ConsumerState}
use Rattle.shard_machine.specs.declared.call.ShardCall.{ShardCall}
use Rattle.shard_machine.specs.declared.reply.Outcome.{Outcome}
use Rattle.shard_machine.specs.declared.reply.Outcome.TheVariants as outcome
use Rattle.shard_machine.specs.declared.reply.ShardRefusal.{ShardRefusal}
use Rattle.shard_machine.specs.declared.reply.ShardRefusal.TheVariants as refusal
use Rattle.shard_machine.specs.declared.reply.ShardReply.{ShardReply}
use Rattle.shard_machine.specs.Logs.{boot}
use Rattle.shard_machine.specs.Images.{LogImage, image, image_after}
use Rattle.shard_machine.specs.Views.{Effect, idle_askers}
use Rattle.shard_machine.specs.Answers.{Answers}
use Rattle.shard_machine.specs.Steps.{Held, view_in, HaveRoom, has_room, needed, has_number, end_after, next_boot, may_open, IsSettled, IsReady, Succeeds, IsTurnedDown, LacksRoom, LacksRoomToLoad, Faults, FailsToLoad, StaysOrLoads, Refuses, RefusesWith, StepTo, refused_packets}
use Rattle.shard_machine.proofs.Images.{images-tell}
use Rattle.run_soundness.specs.Shards.{Consumer, ShardState, Distinct, IsGiven, ReadsRight, IsNewShard, Moves, LoadsOn, RestsOn, delivered, standing_of, answered_now, sent_now, made_by, ever_after}
use Rattle.run_soundness.specs.Below.{Laws}
use Rattle.run_soundness.proofs.Lists.{Contains-none, Contains-head, Contains-tail}
use Rattle.run_soundness.proofs.Stamps.{Apart, standing-is, Distinct-one, given-later, given-same}
use Rattle.run_soundness.proofs.Logs.{boot-push, boot-other}
use Rattle.run_soundness.proofs.LogsLegal.{LogOk, LogOk-push, LogOk-empty, MayStand}
use Rattle.run_soundness.proofs.Chains.{answered-is}
use Rattle.run_soundness.proofs.ShardsRows.{option_list, row-of}
use Rattle.run_soundness.proofs.ShardsKept.{ShardOk, AnswersOn, ShardOk-answers, ReadsRight-on, logs-with, image-with, before, number-of}
use Rattle.run_soundness.proofs.ShardsSent.{refused-none}

-- ---- the parts of a step

-- a shard is ready for a call: it loads, where it isn't loaded
pub record ReadyOn (old mid : ShardState) : Type 0 where
  pub records : List Rec
  pub is_ready : IsReady old.held records mid.held
  pub log : mid.log ≡ old.log ++ records
  pub ever : mid.ever ≡ old.ever

-- a disk failed while the call's record was appended
pub record FaultsOn (mid : ShardState) (c : ShardCall) (new : ShardState) : Type 0 where
  pub does : Effect
  pub answers : Answers (view_in mid.held) c (Ok does)
  pub doubtful : Rec
  pub is : does.records ≡ doubtful ∷ []
  pub room : HaveRoom mid.held does.records
  pub becomes : new.held ≡ record mid.held { doubt = Some doubtful; loaded = false; consumers = []; askers = idle_askers mid.held.askers }
  pub log : new.log ≡ mid.log
  pub ever : new.ever ≡ mid.ever

-- a disk failed during a load: all stays, or the doubt ended and the opening is in doubt
pub record FailsOn (old new : ShardState) : Type 0 where
  pub was : old.held.loaded ≡ false
  pub records : List Rec
  pub result :
      ((new.held ≡ old.held) × (records ≡ []))
      ⊎ (IsSettled old.held.doubt records × (may_open old.held records ≡ true) × (new.held ≡ record old.held { image = image_after old.held.image records; doubt = Some (next_boot (image_after old.held.image records)); end = end_after old.held.end records }))
  pub log : new.log ≡ old.log ++ records
  pub ever : new.ever ≡ old.ever

-- ---- records in doubt

-- how the doubt ended
pub record Settled (log : List Rec) (settled : List Rec) : Type 0 where
  pub one : Option Rec
  pub are : settled ≡ option_list one
  pub may : (r : Rec) → one ≡ Some r → MayStand log r

pub settled-as : (log : List Rec) (d : Option Rec) (settled : List Rec) → ((r : Rec) → d ≡ Some r → MayStand log r) → IsSettled d settled → Settled log settled
settled-as log None settled f s = record { one = None; are = s; may = λ r e. absurd (cc) }
settled-as log (Some r) settled f (inl s) = record { one = None; are = s; may = λ x e. absurd (cc) }
settled-as log (Some r) settled f (inr s) = record { one = Some r; are = s; may = f }

-- a record that may stand leaves the boot or raises it
boot-stands : (log : List Rec) (r : Rec) → MayStand log r → boot log ≤ boot (log ++ r ∷ [])
boot-stands log (Boot n) m =
    let q : boot (log ++ Boot n ∷ []) ≡ n = boot-push log n in
    let e : n ≡ boot log + 1 = m.follows.0 in
    omega arith
boot-stands log (Create t c) m = let q : boot (log ++ Create t c ∷ []) ≡ boot log = boot-other log (Create t c) tt in omega arith
boot-stands log (Remove n) m = let q : boot (log ++ Remove n ∷ []) ≡ boot log = boot-other log (Remove n) tt in omega arith
boot-stands log (Of n e) m = let q : boot (log ++ Of n e ∷ []) ≡ boot log = boot-other log (Of n e) tt in omega arith

boot-one : (log : List Rec) (o : Option Rec) → ((r : Rec) → o ≡ Some r → MayStand log r) → boot log ≤ boot (log ++ option_list o)
boot-one log None f = subst (λ (l : List Rec). boot log ≤ boot l) (sym (append-nil log)) (omega arith)
boot-one log (Some r) f = boot-stands log r (f r refl)

pub boot-settled : (log settled : List Rec) → Settled log settled → boot log ≤ boot (log ++ settled)
boot-settled log settled s = subst (λ (l : List Rec). boot log ≤ boot (log ++ l)) (sym s.are) (boot-one log s.one s.may)

pub logs-settled : (log settled : List Rec) → LogOk log → Settled log settled → LogOk (log ++ settled)
logs-settled log settled ok s = subst (λ (l : List Rec). LogOk (log ++ l)) (sym s.are) (logs-with log s.one ok s.may)

-- the next opening may stand behind the log, where there is room for it
pub boot-may : (log : List Rec) (i : LogImage) (end : ℕ) → i ≡ image log → has_room end i (next_boot i) ≡ true → MayStand log (next_boot i)
boot-may log i end e room =
    let b : i.boot ≡ boot log = ap (λ (x : LogImage). x.boot) e ∙ (images-tell log).boot in
    let below : i.boot + 1 < 2 ^ 63 = ltb-true (i.boot + 1) (2 ^ 63) (and_parts (leb (end + needed (next_boot i)) (2 ^ 40)) (has_number i (next_boot i)) room).1 in
    record { follows = (ap (λ n. n + 1) b, below); number = λ name x m is l no. absurd (cc) }

-- ---- a shard on which no consumer stands

-- all that was ever made stays as it is, and none stands
record Bare (s new : ShardState) (more : List Rec) : Type 0 where
  log : new.log ≡ s.log ++ more
  logs : LogOk (s.log ++ more)
  image_is : new.held.image ≡ image (s.log ++ more)
  names : (c : Consumer) → Contains s.ever c → IsGiven (boot (s.log ++ more)) new.held.given c.name
  ever : new.ever ≡ s.ever
  consumers : new.held.consumers ≡ []
  doubt : (r : Rec) → new.held.doubt ≡ Some r → MayStand (s.log ++ more) r
  certain : new.held.loaded ≡ true → new.held.doubt ≡ None
  booted : new.held.loaded ≡ true → 1 ≤ boot (s.log ++ more)

ok-bare : Laws → (s new : ShardState) (more : List Rec) → ShardOk s → Bare s new more → ShardOk new
ok-bare laws s new more ok b = record {
  image_is = b.image_is ∙ ap image (sym b.log);
  logs = subst LogOk (sym b.log) b.logs;
  names = λ c q. subst (λ (l : List Rec). IsGiven (boot l) new.held.given c.name) (sym b.log) (b.names c (subst (λ (l : List Consumer). Contains l c) b.ever q));
  once = subst Distinct (sym b.ever) ok.once;
  chains = λ c q. subst (λ (l : List Rec). ReadsRight l c) (sym b.log) (ReadsRight-on laws s.log more c b.logs (ok.chains c (subst (λ (l : List Consumer). Contains l c) b.ever q)));
  standing = λ c q. absurd (Contains-none c (subst (λ (l : List ConsumerState). Contains l c) b.consumers q));
  apart = subst Apart (sym b.consumers) tt;
  doubt = λ r e. subst (λ (l : List Rec). MayStand l r) (sym b.log) (b.doubt r e);
  certain = b.certain;
  none = λ l. b.consumers;
  booted = λ l. subst (λ (x : List Rec). 1 ≤ boot x) (sym b.log) (b.booted l);
}

-- ---- loads

-- A load keeps what each shard keeps.
pub ShardOk-loads : Laws → (s new : ShardState) → ShardOk s → LoadsOn s new → ShardOk new
ShardOk-loads laws s new ok l = ok-bare laws s new l.records ok bare
  where
    bare : Bare s new l.records
    bare =
        let st = settled-as s.log s.held.doubt l.loads.settled ok.doubt l.loads.in_or_out in
        let log1 : List Rec = s.log ++ l.loads.settled in
        let image1 : image_after s.held.image l.loads.settled ≡ image log1 = image-with s.held.image s.log l.loads.settled ok.image_is in
        let ok1 : LogOk log1 = logs-settled s.log l.loads.settled ok.logs st in
        let may : MayStand log1 (next_boot (image_after s.held.image l.loads.settled)) = boot-may log1 (image_after s.held.image l.loads.settled) (end_after s.held.end l.loads.settled) image1 l.loads.room in
        let next : ℕ = (image_after s.held.image l.loads.settled).boot + 1 in
        let is : s.log ++ l.records ≡ log1 ++ Boot next ∷ [] = ap (λ (x : List Rec). s.log ++ x) l.loads.joins ∙ sym (append_assoc s.log l.loads.settled (Boot next ∷ [])) in
        let le : boot s.log ≤ boot log1 = boot-settled s.log l.loads.settled st in
        let b : boot (s.log ++ l.records) ≡ next = ap boot is ∙ boot-push log1 next in
        let n : next ≡ boot log1 + 1 = may.follows.0 in
        record {
          log = l.log;
          logs = subst LogOk (sym is) (LogOk-push log1 (Boot next) ok1 may);
          image_is = ap (λ (h : Held). h.image) l.loads.becomes ∙ image-with s.held.image s.log l.records ok.image_is;
          names = λ c q. given-later (boot s.log) (boot (s.log ++ l.records)) s.held.given new.held.given c.name (omega arith) (ok.names c q);
          ever = l.ever;
          consumers = ap (λ (h : Held). h.consumers) l.loads.becomes;
          doubt = λ r e. absurd (let z : None ≡ Some r = sym (ap (λ (h : Held). h.doubt) l.loads.becomes) ∙ e in cc);
          certain = λ e. ap (λ (h : Held). h.doubt) l.loads.becomes;
          booted = λ e. omega arith;
        }

pub loaded-loads : (s new : ShardState) → LoadsOn s new → new.held.loaded ≡ true
loaded-loads s new l = ap (λ (h : Held). h.loaded) l.loads.becomes

-- all that is held, the log and the consumers are those of another state
same-state : (a b : ShardState) → a.held ≡ b.held → a.log ≡ b.log → a.ever ≡ b.ever → a ≡ b
same-state a b h l e = λ i. record { held = h i; log = l i; ever = e i }

-- a shard that is ready is loaded, and keeps it
pub ShardOk-ready : Laws → (old mid : ShardState) → ShardOk old → ReadyOn old mid → ShardOk mid × (mid.held.loaded ≡ true)
ShardOk-ready laws old mid ok r = by old.held.loaded refl
  where
    by : (b : Bool) → old.held.loaded ≡ b → ShardOk mid × (mid.held.loaded ≡ true)
    by true q =
        let same = r.is_ready.same q in
        let is : mid ≡ old = same-state mid old same.0 (r.log ∙ (ap (λ (l : List Rec). old.log ++ l) same.1 ∙ append-nil old.log)) r.ever in
        (subst ShardOk (sym is) ok, ap (λ (h : Held). h.loaded) same.0 ∙ q)
    by false q =
        let l : LoadsOn old mid = record { records = r.records; loads = r.is_ready.loads q; log = r.log; ever = r.ever } in
        (ShardOk-loads laws old mid ok l, loaded-loads old mid l)

-- a shard that forgets all but its log keeps it
pub ShardOk-rests : Laws → (old new : ShardState) → ShardOk old → RestsOn old new → ShardOk new
ShardOk-rests laws old new ok r =
    let nil : old.log ++ [] ≡ old.log = append-nil old.log in
    ok-bare laws old new [] ok (record {
      log = r.log ∙ sym nil;
      logs = subst LogOk (sym nil) ok.logs;
      image_is = ap (λ (h : Held). h.image) r.held ∙ (ok.image_is ∙ ap image (sym nil));
      names = λ c q. subst (λ (l : List Rec). IsGiven (boot l) new.held.given c.name) (sym nil) (subst (λ n. IsGiven (boot old.log) n c.name) (sym (ap (λ (h : Held). h.given) r.held)) (ok.names c q));
      ever = r.ever;
      consumers = ap (λ (h : Held). h.consumers) r.held;
      doubt = λ x e. subst (λ (l : List Rec). MayStand l x) (sym nil) (ok.doubt x (sym (ap (λ (h : Held). h.doubt) r.held) ∙ e));
      certain = λ e. absurd (let z : false ≡ true = sym (ap (λ (h : Held). h.loaded) r.held) ∙ e in cc);
      booted = λ e. absurd (let z : false ≡ true = sym (ap (λ (h : Held). h.loaded) r.held) ∙ e in cc);
    })

-- ---- faults

one_record : (o : Option Rec) (x r : Rec) → option_list o ≡ x ∷ [] → Some x ≡ Some r → o ≡ Some r
one_record None x r e f = absurd (cc)
one_record (Some y) x r e f = cc

-- the record of an answer that isn't sure may stand
pub doubtful-may : Laws → (mid : ShardState) (c : ShardCall) (new : ShardState) → ShardOk mid → mid.held.loaded ≡ true → (f : FaultsOn mid c new) → MayStand mid.log f.doubtful
doubtful-may laws mid c new ok loaded f =
    let r = row-of laws mid.log (view_in mid.held) (before mid ok loaded) c f.does (λ x e. number-of mid.held f.does.records x f.room e) f.answers in
    r.adds.may f.doubtful (one_record r.adds.one f.doubtful f.doubtful (sym r.adds.are ∙ f.is) refl)

pub ShardOk-faults : Laws → (mid : ShardState) (c : ShardCall) (new : ShardState) → ShardOk mid → mid.held.loaded ≡ true → FaultsOn mid c new → ShardOk new
ShardOk-faults laws mid c new ok loaded f =
    let nil : mid.log ++ [] ≡ mid.log = append-nil mid.log in
    ok-bare laws mid new [] ok (record {
      log = f.log ∙ sym nil;
      logs = subst LogOk (sym nil) ok.logs;
      image_is = ap (λ (h : Held). h.image) f.becomes ∙ (ok.image_is ∙ ap image (sym nil));
      names = λ k q. subst (λ (l : List Rec). IsGiven (boot l) new.held.given k.name) (sym nil) (subst (λ n. IsGiven (boot mid.log) n k.name) (sym (ap (λ (h : Held). h.given) f.becomes)) (ok.names k q));
      ever = f.ever;
      consumers = ap (λ (h : Held). h.consumers) f.becomes;
      doubt = λ x e. subst (λ (l : List Rec). MayStand l x) (sym nil)
          (let same : f.doubtful ≡ x = (let z : Some f.doubtful ≡ Some x = sym (ap (λ (h : Held). h.doubt) f.becomes) ∙ e in cc) in subst (MayStand mid.log) same (doubtful-may laws mid c new ok loaded f));
      certain = λ e. absurd (let z : false ≡ true = sym (ap (λ (h : Held). h.loaded) f.becomes) ∙ e in cc);
      booted = λ e. absurd (let z : false ≡ true = sym (ap (λ (h : Held). h.loaded) f.becomes) ∙ e in cc);
    })

fails-settled : Laws → (old new : ShardState) (records : List Rec) → ShardOk old → old.held.loaded ≡ false → IsSettled old.held.doubt records → may_open old.held records ≡ true →
    new.held ≡ record old.held { image = image_after old.held.image records; doubt = Some (next_boot (image_after old.held.image records)); end = end_after old.held.end records } → new.log ≡ old.log ++ records → new.ever ≡ old.ever → ShardOk new
fails-settled laws old new records ok out is room becomes log ever =
    let st = settled-as old.log old.held.doubt records ok.doubt is in
    let image1 : image_after old.held.image records ≡ image (old.log ++ records) = image-with old.held.image old.log records ok.image_is in
    let le : boot old.log ≤ boot (old.log ++ records) = boot-settled old.log records st in
    ok-bare laws old new records ok (record {
      log = log;
      logs = logs-settled old.log records ok.logs st;
      image_is = ap (λ (h : Held). h.image) becomes ∙ image1;
      names = λ c q. subst (λ n. IsGiven (boot (old.log ++ records)) n c.name) (sym (ap (λ (h : Held). h.given) becomes)) (given-same (boot old.log) (boot (old.log ++ records)) old.held.given c.name le (ok.names c q));
      ever = ever;
      consumers = ap (λ (h : Held). h.consumers) becomes ∙ ok.none out;
      doubt = λ r e. (let same : next_boot (image_after old.held.image records) ≡ r = (let z : Some (next_boot (image_after old.held.image records)) ≡ Some r = sym (ap (λ (h : Held). h.doubt) becomes) ∙ e in cc) in
          subst (MayStand (old.log ++ records)) same (boot-may (old.log ++ records) (image_after old.held.image records) (end_after old.held.end records) image1 room));
      certain = λ e. absurd (let z : false ≡ true = sym (ap (λ (h : Held). h.loaded) becomes ∙ out) ∙ e in cc);
      booted = λ e. absurd (let z : false ≡ true = sym (ap (λ (h : Held). h.loaded) becomes ∙ out) ∙ e in cc);
    })

pub ShardOk-fails : Laws → (old new : ShardState) → ShardOk old → FailsOn old new → ShardOk new
ShardOk-fails laws old new ok f = elim f.result [
  | inl same ↦ subst ShardOk (sym (same-state new old same.0 (f.log ∙ (ap (λ (l : List Rec). old.log ++ l) same.1 ∙ append-nil old.log)) f.ever)) ok
  | inr w ↦ fails-settled laws old new f.records ok f.was w.0 w.1 w.2 f.log f.ever
]

-- ---- what a step is

-- a call was answered
pub record Answered (old : ShardState) (c : ShardCall) (reply : ShardReply) (new : ShardState) : Type 0 where
  pub mid : ShardState
  pub ready : ReadyOn old mid
  pub does : Effect
  pub answers : AnswersOn mid c does new
  pub replies : reply ≡ does.reply

-- a call was refused, and nothing changed but by a load
pub record TurnedDown (old : ShardState) (c : ShardCall) (why : ShardRefusal) (reply : ShardReply) (new : ShardState) : Type 0 where
  pub outcome_is : reply.outcome ≡ outcome.Refused why
  pub packets : reply.packets ≡ refused_packets c why
  pub state : (new ≡ old) ⊎ ReadyOn old new

-- a disk failed
pub record Failed (old : ShardState) (c : ShardCall) (reply : ShardReply) (new : ShardState) : Type 0 where
  pub outcome_is : reply.outcome ≡ outcome.Refused refusal.DiskFault
  pub packets : reply.packets ≡ refused_packets c refusal.DiskFault
  pub state : ((mid : ShardState) × ReadyOn old mid × FaultsOn mid c new) ⊎ FailsOn old new

-- what came of a call
pub data Came (old : ShardState) (c : ShardCall) (reply : ShardReply) (new : ShardState) : Type 0 where
  Fine : Answered old c reply new → Came old c reply new
  Down : (why : ShardRefusal) → TurnedDown old c why reply new → Came old c reply new
  Fault : Failed old c reply new → Came old c reply new

-- ---- refusals leave the consumers

-- where nothing is delivered, and each that stands has the token that it had, all stay as they are
ever-still : (consumers : List ConsumerState) (packets : List Packet) (all : List Consumer) → ((name : Stamp) → delivered name packets ≡ []) →
    ((k : Consumer) (c : ConsumerState) → Contains all k → standing_of consumers k.name ≡ Some c → record k.sent { answered = c.progress.answered } ≡ k.sent) → map (sent_now consumers packets) all ≡ all
ever-still consumers packets [] none same = refl
ever-still consumers packets (k ∷ all) none same =
    let still : answered_now (standing_of consumers k.name) (with_rows k.sent (delivered k.name packets)) ≡ k.sent =
    ap (λ (rows : List Numbered). answered_now (standing_of consumers k.name) (with_rows k.sent rows)) (none k.name)
    ∙ by (standing_of consumers k.name) refl in
    ap (λ (s : Sendings). record k { sent = s } ∷ map (sent_now consumers packets) all) still
    ∙ ap (λ (l : List Consumer). k ∷ l) (ever-still consumers packets all none (λ x c q e. same x c (Contains-tail k all x q) e))
  where
    by : (o : Option ConsumerState) → standing_of consumers k.name ≡ o → answered_now o k.sent ≡ k.sent
    by None e = refl
    by (Some c) e = same k c (Contains-head k all) e

-- those that stand have the tokens that they had
tokens-same : (s : ShardState) → ShardOk s → (k : Consumer) (c : ConsumerState) → Contains s.ever k → standing_of s.held.consumers k.name ≡ Some c → record k.sent { answered = c.progress.answered } ≡ k.sent
tokens-same s ok k c q e =
    let w = standing-is s.held.consumers k.name c e in
    let st = ok.standing c w.0 in
    let same : st.made_as ≡ k = Distinct-one s.ever st.made_as k ok.once st.among q (st.name ∙ w.1) in
    subst (λ (x : Consumer). record x.sent { answered = c.progress.answered } ≡ x.sent) same (answered-is st.origin.history c st.made_as.sent st.right)

none-same : (k : Consumer) (c : ConsumerState) → standing_of [] k.name ≡ Some c → record k.sent { answered = c.progress.answered } ≡ k.sent
none-same k c e = absurd (cc)

-- ---- the parts of a step

tokens-in : (s : ShardState) (consumers : List ConsumerState) → ShardOk s → (consumers ≡ s.held.consumers) ⊎ (consumers ≡ []) → (k : Consumer) (p : ConsumerState) → Contains s.ever k → standing_of consumers k.name ≡ Some p → record k.sent { answered = p.progress.answered } ≡ k.sent
tokens-in s consumers ok (inl same) k p q e = tokens-same s ok k p q (ap (λ (l : List ConsumerState). standing_of l k.name) (sym same) ∙ e)
tokens-in s consumers ok (inr none) k p q e = none-same k p (ap (λ (l : List ConsumerState). standing_of l k.name) (sym none) ∙ e)

-- a shard that is ready has the consumers that it had, or none
ready-consumers : (old new : Held) (records : List Rec) → IsReady old records new → (new.consumers ≡ old.consumers) ⊎ (new.consumers ≡ [])
ready-consumers old new records r = by old.loaded refl
  where
    by : (b : Bool) → old.loaded ≡ b → (new.consumers ≡ old.consumers) ⊎ (new.consumers ≡ [])
    by true q = inl (ap (λ (h : Held). h.consumers) (r.same q).0)
    by false q = inr (ap (λ (h : Held). h.consumers) (r.loads q).becomes)

module _ (old : ShardState) (c : ShardCall) (reply : ShardReply) (new : ShardState) (m : Moves old c reply new) where
  succeeds : Succeeds old.held c reply m.records new.held → Answered old c reply new
  succeeds s =
      let mid : ShardState = record { held = s.ready; log = old.log ++ s.loaded; ever = old.ever } in
      record {
        mid = mid;
        ready = record { records = s.loaded; is_ready = s.is_ready; log = refl; ever = refl };
        does = s.does;
        answers = record {
          answers = s.answers;
          room = s.room;
          becomes = s.becomes;
          log = m.log ∙ (ap (λ (l : List Rec). old.log ++ l) s.joins ∙ sym (append_assoc old.log s.loaded s.does.records));
          ever = m.ever ∙ ap (λ (r : ShardReply). ever_after new.held r old.ever) s.replies;
        };
        replies = s.replies;
      }

  -- a refusal leaves the consumers
  refused-ever : ShardOk old → (why : ShardRefusal) → reply.outcome ≡ outcome.Refused why → reply.packets ≡ refused_packets c why → (new.held.consumers ≡ old.held.consumers) ⊎ (new.held.consumers ≡ []) → new.ever ≡ old.ever
  refused-ever ok why o p consumers =
      m.ever
      ∙ (ap (λ (x : Outcome). map (sent_now new.held.consumers reply.packets) old.ever ++ made_by x new.held) o
      ∙ (append-nil (map (sent_now new.held.consumers reply.packets) old.ever)
      ∙ ever-still new.held.consumers reply.packets old.ever (λ n. ap (delivered n) p ∙ refused-none n c why) (tokens-in old new.held.consumers ok consumers)))

  ready-on : ShardOk old → (why : ShardRefusal) → reply.outcome ≡ outcome.Refused why → reply.packets ≡ refused_packets c why → IsReady old.held m.records new.held → ReadyOn old new
  ready-on ok why o p r = record { records = m.records; is_ready = r; log = m.log; ever = refused-ever ok why o p (ready-consumers old.held new.held m.records r) }

  stays-on : ShardOk old → (why : ShardRefusal) → reply.outcome ≡ outcome.Refused why → reply.packets ≡ refused_packets c why → new.held ≡ old.held → m.records ≡ [] → new ≡ old
  stays-on ok why o p same none =
      same-state new old same (m.log ∙ (ap (λ (l : List Rec). old.log ++ l) none ∙ append-nil old.log)) (refused-ever ok why o p (inl (ap (λ (h : Held). h.consumers) same)))

  turned : ShardOk old → (why : ShardRefusal) → reply.outcome ≡ outcome.Refused why → reply.packets ≡ refused_packets c why → IsTurnedDown old.held c why m.records new.held → Came old c reply new
  turned ok why o p t = Down why (record { outcome_is = o; packets = p; state = inr (ready-on ok why o p t.is_ready) })

  lacks : ShardOk old → (end need : ℕ) → reply.outcome ≡ outcome.Refused (refusal.JournalFull end need) → reply.packets ≡ refused_packets c (refusal.JournalFull end need) →
      LacksRoom old.held c end need m.records new.held ⊎ LacksRoomToLoad old.held end need m.records new.held → Came old c reply new
  lacks ok end need o p (inl l) = Down (refusal.JournalFull end need) (record { outcome_is = o; packets = p; state = inr (ready-on ok (refusal.JournalFull end need) o p l.is_ready) })
  lacks ok end need o p (inr l) = Down (refusal.JournalFull end need) (record { outcome_is = o; packets = p; state = inl (stays-on ok (refusal.JournalFull end need) o p l.same l.none) })

  stays-or : ShardOk old → reply.outcome ≡ outcome.Refused refusal.NoMemory → reply.packets ≡ refused_packets c refusal.NoMemory → StaysOrLoads old.held m.records new.held → Came old c reply new
  stays-or ok o p (inl same) = Down refusal.NoMemory (record { outcome_is = o; packets = p; state = inl (stays-on ok refusal.NoMemory o p same.0 same.1) })
  stays-or ok o p (inr r) = Down refusal.NoMemory (record { outcome_is = o; packets = p; state = inr (ready-on ok refusal.NoMemory o p r) })

  faulty : ShardOk old → (made : Option Entry) → reply.outcome ≡ outcome.Refused refusal.DiskFault → reply.packets ≡ refused_packets c refusal.DiskFault → Faults old.held c made m.records new.held ⊎ FailsToLoad old.held made m.records new.held → Came old c reply new
  faulty ok made o p (inl f) =
      let mid : ShardState = record { held = f.ready; log = old.log ++ m.records; ever = old.ever } in
      Fault (record {
        outcome_is = o;
        packets = p;
        state = inl (
          mid,
          record { records = m.records; is_ready = f.is_ready; log = refl; ever = refl },
          record {
            does = f.does;
            answers = f.answers;
            doubtful = f.doubtful;
            is = f.is;
            room = f.room;
            becomes = f.becomes;
            log = m.log;
            ever = refused-ever ok refusal.DiskFault o p (inr (ap (λ (h : Held). h.consumers) f.becomes));
          },
        );
      })
  faulty ok made o p (inr f) =
      Fault (record {
        outcome_is = o;
        packets = p;
        state = inr (record { was = f.was; records = m.records; result = f.result; log = m.log; ever = refused-ever ok refusal.DiskFault o p (inl (fail-consumers f.result)) });
      })
    where
      fail-consumers :
          ((new.held ≡ old.held) × (m.records ≡ []))
          ⊎ (IsSettled old.held.doubt m.records × (may_open old.held m.records ≡ true) × (new.held ≡ record old.held { image = image_after old.held.image m.records; doubt = Some (next_boot (image_after old.held.image m.records)); end = end_after old.held.end m.records }))
          → new.held.consumers ≡ old.held.consumers
      fail-consumers (inl same) = ap (λ (h : Held). h.consumers) same.0
      fail-consumers (inr w) = ap (λ (h : Held). h.consumers) w.2

  by-refusal : ShardOk old → (why : ShardRefusal) (made : Option Entry) → reply.outcome ≡ outcome.Refused why → reply.packets ≡ refused_packets c why → Refuses old.held c why made m.records new.held → Came old c reply new
  by-refusal ok (refusal.Of why) made o p r = turned ok (refusal.Of why) o p r.1
  by-refusal ok refusal.NoStream made o p r = turned ok refusal.NoStream o p r.1
  by-refusal ok (refusal.BadConfig member) made o p r = turned ok (refusal.BadConfig member) o p r.1
  by-refusal ok refusal.NameTaken made o p r = turned ok refusal.NameTaken o p r.1
  by-refusal ok refusal.TooManyStreams made o p r = turned ok refusal.TooManyStreams o p r.1
  by-refusal ok (refusal.OldAttempt kept seen) made o p r = turned ok (refusal.OldAttempt kept seen) o p r.1
  by-refusal ok refusal.TooManyConsumers made o p r = turned ok refusal.TooManyConsumers o p r.1
  by-refusal ok refusal.NoMessage made o p r = turned ok refusal.NoMessage o p r.1
  by-refusal ok (refusal.JournalFull end need) made o p r = lacks ok end need o p r.1
  by-refusal ok (refusal.BadJournal place) made o p r = Down (refusal.BadJournal place) (record { outcome_is = o; packets = p; state = inl (stays-on ok (refusal.BadJournal place) o p r.1.same r.1.none) })
  by-refusal ok refusal.NoMemory made o p r = stays-or ok o p r.1
  by-refusal ok refusal.DiskFault made o p r = faulty ok made o p r

  refuses : ShardOk old → (why : ShardRefusal) → RefusesWith old.held c why reply m.records new.held → Came old c reply new
  refuses ok why r = by-refusal ok why r.doubted (ap (λ (x : ShardReply). x.outcome) r.replies) (ap (λ (x : ShardReply). x.packets) r.replies) r.refuses

  by-outcome : ShardOk old → (o : Outcome) → StepTo o old.held c reply m.records new.held → Came old c reply new
  by-outcome ok (outcome.Made fresh) s = Fine (succeeds s)
  by-outcome ok outcome.Updated s = Fine (succeeds s)
  by-outcome ok outcome.Removed s = Fine (succeeds s)
  by-outcome ok (outcome.Stored seq) s = Fine (succeeds s)
  by-outcome ok (outcome.Duplicate seq) s = Fine (succeeds s)
  by-outcome ok outcome.Deleted s = Fine (succeeds s)
  by-outcome ok (outcome.Purged count) s = Fine (succeeds s)
  by-outcome ok (outcome.Expired count) s = Fine (succeeds s)
  by-outcome ok (outcome.Found row) s = Fine (succeeds s)
  by-outcome ok (outcome.Info facts) s = Fine (succeeds s)
  by-outcome ok (outcome.Listed names) s = Fine (succeeds s)
  by-outcome ok (outcome.Consumer name) s = Fine (succeeds s)
  by-outcome ok outcome.Sent s = Fine (succeeds s)
  by-outcome ok (outcome.Heard decision) s = Fine (succeeds s)
  by-outcome ok (outcome.Refused why) s = refuses ok why s

  -- A step is an answer, a refusal or a fault of a disk, each behind a load where the shard wasn't loaded.
  pub moves-came : ShardOk old → Came old c reply new
  moves-came ok = by-outcome ok reply.outcome m.step

-- ---- each step

ok-answered : Laws → (old : ShardState) (c : ShardCall) (reply : ShardReply) (new : ShardState) → ShardOk old → Answered old c reply new → ShardOk new
ok-answered laws old c reply new ok a = let r = ShardOk-ready laws old a.mid ok a.ready in ShardOk-answers laws a.mid new c a.does r.0 r.1 a.answers

ok-turned : Laws → (old new : ShardState) → ShardOk old → (new ≡ old) ⊎ ReadyOn old new → ShardOk new
ok-turned laws old new ok (inl same) = subst ShardOk (sym same) ok
ok-turned laws old new ok (inr r) = (ShardOk-ready laws old new ok r).0

ok-failed : Laws → (old : ShardState) (c : ShardCall) (new : ShardState) → ShardOk old → ((mid : ShardState) × ReadyOn old mid × FaultsOn mid c new) ⊎ FailsOn old new → ShardOk new
ok-failed laws old c new ok (inl f) = let r = ShardOk-ready laws old f.0 ok f.1 in ShardOk-faults laws f.0 c new r.0 r.1 f.2
ok-failed laws old c new ok (inr f) = ShardOk-fails laws old new ok f

pub ShardOk-came : Laws → (old : ShardState) (c : ShardCall) (reply : ShardReply) (new : ShardState) → ShardOk old → Came old c reply new → ShardOk new
ShardOk-came laws old c reply new ok (Fine a) = ok-answered laws old c reply new ok a
ShardOk-came laws old c reply new ok (Down why t) = ok-turned laws old new ok t.state
ShardOk-came laws old c reply new ok (Fault f) = ok-failed laws old c new ok f.state

-- Every step keeps what each shard keeps.
pub ShardOk-step : Laws → (old : ShardState) (c : ShardCall) (reply : ShardReply) (new : ShardState) → ShardOk old → Moves old c reply new → ShardOk new
ShardOk-step laws old c reply new ok m = ShardOk-came laws old c reply new ok (moves-came old c reply new m ok)

-- and a shard that was never loaded has it
pub ShardOk-empty : (node : List ℕ) (s : ShardState) → IsNewShard node s → ShardOk s
ShardOk-empty node s e = record {
  image_is = ap (λ (h : Held). h.image) e.held ∙ ap image (sym e.log);
  logs = subst LogOk (sym e.log) LogOk-empty;
  names = λ c q. absurd (Contains-none c (subst (λ (l : List Consumer). Contains l c) e.ever q));
  once = subst Distinct (sym e.ever) tt;
  chains = λ c q. absurd (Contains-none c (subst (λ (l : List Consumer). Contains l c) e.ever q));
  standing = λ c q. absurd (Contains-none c (subst (λ (l : List ConsumerState). Contains l c) (ap (λ (h : Held). h.consumers) e.held) q));
  apart = subst Apart (sym (ap (λ (h : Held). h.consumers) e.held)) tt;
  doubt = λ r x. absurd (let z : None ≡ Some r = sym (ap (λ (h : Held). h.doubt) e.held) ∙ x in cc);
  certain = λ l. ap (λ (h : Held). h.doubt) e.held;
  none = λ l. ap (λ (h : Held). h.consumers) e.held;
  booted = λ l. absurd (let z : false ≡ true = sym (ap (λ (h : Held). h.loaded) e.held) ∙ l in cc);
}
