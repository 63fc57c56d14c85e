-- What each shard keeps by itself, whatever it is called with, and that each answer keeps it.
use Rattle.std.proofs.Common.{◌≡◌, ◌≢◌, ℕ, ◌+◌, ◌≤◌, ◌^◌, true, false, leb, List, [], ◌∷◌, ◌++◌, Option, Some, None, refl, sym, ap, ◌∙◌, subst, arith, ◌⊎◌, inl, inr, append-nil}
use Rattle.std.specs.Prelude.{map, Contains, Ok}
use Rattle.std.proofs.lemmas.Bool.{and_parts}
use Rattle.std.proofs.lemmas.List.Elements.{Contains-append_left, Contains-append_right, Contains-append_cases}
use Rattle.nats_text.specs.declared.message.Stamp.{Stamp}
use Rattle.js_wire.specs.declared.packet.Packet.{Packet}
use Rattle.record_codec.specs.declared.records.Rec.{Rec}
use Rattle.push_consumer.specs.Chains.{IsRight, no_sendings, with_rows}
use Rattle.push_consumer.specs.Progress.{ConsumerState}
use Rattle.replica_ask.specs.Orders.{same_stamp}
use Rattle.shard_machine.specs.declared.call.ShardCall.{ShardCall}
use Rattle.shard_machine.specs.Logs.{Made, boot, incarnation, made, live}
use Rattle.shard_machine.specs.Images.{LogImage, no_image, image, image_after, incarnation_in}
use Rattle.shard_machine.specs.Views.{Effect}
use Rattle.shard_machine.specs.Answers.{Answers, next_name}
use Rattle.shard_machine.specs.Steps.{Held, view_in, HaveRoom, has_number, needed, after_effect}
use Rattle.shard_machine.proofs.Images.{image_after-append, images-tell}
use Rattle.run_soundness.specs.Shards.{Consumer, ShardState, Distinct, IsGiven, IsRead, ReadsRight, delivered, standing_of, answered_now, sent_now, just_made, ever_after}
use Rattle.run_soundness.specs.Below.{Laws}
use Rattle.run_soundness.proofs.Lists.{Contains-none, Contains-one, Contains-head, map-back, map-on, none-found}
use Rattle.run_soundness.proofs.Stamps.{Apart, same_stamp-refl, standing-is, standing-of, Distinct-one, Distinct-map, Distinct-push, given-on}
use Rattle.run_soundness.proofs.Logs.{Stands, Stands-push, Leaves, NoBoot, boot-other, hist-append, live-is, live-from}
use Rattle.run_soundness.proofs.LogsLegal.{LogOk, LogOk-push, MayStand, log-rise}
use Rattle.run_soundness.proofs.Chains.{right-on}
use Rattle.run_soundness.proofs.ShardsRows.{Before, Row, Grew, option_list, row-of}

-- ---- the invariant

-- A consumer that stands was made here at some time, reads the stream that stands, and what it has sent is
-- right.
pub record IsStanding (log : List Rec) (ever : List Consumer) (c : ConsumerState) : Type 0 where
  pub made_as : Consumer
  pub among : Contains ever made_as
  pub name : made_as.name ≡ c.name
  pub stream : made_as.stream ≡ c.stream
  pub wanted : made_as.wanted ≡ c.wanted
  pub stands : Stands log made_as.stream made_as.incarnation
  pub origin : Made
  pub reads : IsRead log made_as origin
  pub right : IsRight origin.history c made_as.sent

-- What each shard keeps: its log is legal and has the image that is held; each name of a consumer was given
-- once, in an earlier boot or at most as the present count; what each consumer has sent is right; those that
-- stand read the streams that stand; a record in doubt may follow, and there is none where the shard is loaded;
-- where it isn't, no consumer stands.
pub record ShardOk (s : ShardState) : Type 0 where
  pub image_is : s.held.image ≡ image s.log
  pub logs : LogOk s.log
  pub names : (c : Consumer) → Contains s.ever c → IsGiven (boot s.log) s.held.given c.name
  pub once : Distinct s.ever
  pub chains : (c : Consumer) → Contains s.ever c → ReadsRight s.log c
  pub standing : (c : ConsumerState) → Contains s.held.consumers c → IsStanding s.log s.ever c
  pub apart : Apart s.held.consumers
  pub doubt : (r : Rec) → s.held.doubt ≡ Some r → MayStand s.log r
  pub certain : s.held.loaded ≡ true → s.held.doubt ≡ None
  pub none : s.held.loaded ≡ false → s.held.consumers ≡ []
  pub booted : s.held.loaded ≡ true → 1 ≤ boot s.log

-- a loaded shard answers a call, and its records join the log
pub record AnswersOn (mid : ShardState) (c : ShardCall) (does : Effect) (new : ShardState) : Type 0 where
  pub answers : Answers (view_in mid.held) c (Ok does)
  pub room : HaveRoom mid.held does.records
  pub becomes : new.held ≡ after_effect mid.held does
  pub log : new.log ≡ mid.log ++ does.records
  pub ever : new.ever ≡ ever_after new.held does.reply mid.ever

-- ---- logs that go on

-- what a consumer has sent is right for the log with more records
pub ReadsRight-on : Laws → (log more : List Rec) (c : Consumer) → LogOk (log ++ more) → ReadsRight log c → ReadsRight (log ++ more) c
ReadsRight-on laws log more c ok r =
    let g = hist-append log more c.stream c.incarnation r.origin r.reads in
    record {
      origin = g.0;
      reads = g.1;
      state = r.state;
      wanted = r.wanted;
      right = right-on laws r.origin.history g.0.history r.state c.sent g.2.history (log-rise laws (log ++ more) c.stream c.incarnation g.0 ok g.1) r.right;
    }

pub logs-with : (log : List Rec) (o : Option Rec) → LogOk log → ((r : Rec) → o ≡ Some r → MayStand log r) → LogOk (log ++ option_list o)
logs-with log None ok may = subst LogOk (sym (append-nil log)) ok
logs-with log (Some r) ok may = LogOk-push log r ok (may r refl)

pub stands-with : (log : List Rec) (o : Option Rec) (name : List ℕ) (i : ℕ) → ((r : Rec) → o ≡ Some r → Leaves r name) → Stands log name i → Stands (log ++ option_list o) name i
stands-with log None name i f s = subst (λ (l : List Rec). Stands l name i) (sym (append-nil log)) s
stands-with log (Some r) name i f s = Stands-push log r name i (f r refl) s

pub boot-with : (log : List Rec) (o : Option Rec) → ((r : Rec) → o ≡ Some r → NoBoot r) → boot (log ++ option_list o) ≡ boot log
boot-with log None f = ap boot (append-nil log)
boot-with log (Some r) f = boot-other log r (f r refl)

-- the image with more records
pub image-with : (i : LogImage) (log more : List Rec) → i ≡ image log → image_after i more ≡ image (log ++ more)
image-with i log more e = ap (λ (x : LogImage). image_after x more) e ∙ sym (image_after-append no_image log more)

-- ---- before an answer

-- a loaded shard answers by its log
pub before : (s : ShardState) → ShardOk s → s.held.loaded ≡ true → Before s.log (view_in s.held)
before s ok loaded = record {
  image_is = ok.image_is;
  logs = ok.logs;
  booted = ok.booted loaded;
  reading = λ c q. let st = ok.standing c q in (st.origin, ap (live s.log) (sym st.stream) ∙ live-from s.log st.made_as.stream st.made_as.incarnation st.origin st.stands st.reads);
  apart = ok.apart;
  fresh = λ c q e.
      let st = ok.standing c q in
      let g = ok.names st.made_as st.among in
      let b : st.made_as.name.boot ≡ boot s.log = ap (λ (x : Stamp). x.boot) (st.name ∙ e) ∙ (ap (λ (i : LogImage). i.boot) ok.image_is ∙ (images-tell s.log).boot) in
      let k : st.made_as.name.count ≡ s.held.given + 1 = ap (λ (x : Stamp). x.count) (st.name ∙ e) in
      let le : st.made_as.name.count ≤ s.held.given = g.count b in
      omega arith;
}

pub number-of : (h : Held) (records : List Rec) (r : Rec) → HaveRoom h records → records ≡ r ∷ [] → has_number h.image r ≡ true
number-of h [] r room e = absurd (cc)
number-of h (x ∷ xs) r room e = (let same : x ≡ r = cc in subst (λ y. has_number h.image y ≡ true) same (and_parts (leb (h.end + needed x) (2 ^ 40)) (has_number h.image x) room.0).1)

-- ---- an answer

-- the consumer that was just made
abbrev pub ghost_of : LogImage → ConsumerState → Consumer
ghost_of i c = record { name = c.name; stream = c.stream; incarnation = incarnation_in i c.stream; wanted = c.wanted; sent = no_sendings }

-- a consumer behind an answer: it was made before, or just now
pub record CameFrom (old : List Consumer) (consumers : List ConsumerState) (packets : List Packet) (i : LogImage) (made_now : Option ConsumerState) (d : Consumer) : Type 0 where
  pub from : ((k : Consumer) × Contains old k × (sent_now consumers packets k ≡ d)) ⊎ ((c : ConsumerState) × (made_now ≡ Some c) × (ghost_of i c ≡ d))

made-case : (i : LogImage) (o : Option ConsumerState) (d : Consumer) → Contains (just_made i o) d → (c : ConsumerState) × (o ≡ Some c) × (ghost_of i c ≡ d)
made-case i None d q = absurd (Contains-none d q)
made-case i (Some c) d q = (c, refl, Contains-one _ d q)

given-new : (i : LogImage) (b given more : ℕ) (c : ConsumerState) → c.name.boot ≡ b → c.name.count ≡ given + 1 → given + 1 ≤ more → IsGiven b more (ghost_of i c).name
given-new i b given more c e k le = record { boot = omega arith; count = λ x. omega arith }

module _ (laws : Laws) (mid new : ShardState) (call : ShardCall) (does : Effect) (ok : ShardOk mid) (loaded : mid.held.loaded ≡ true) (a : AnswersOn mid call does new) where
  pub row : Row mid.log (view_in mid.held) call does
  row = row-of laws mid.log (view_in mid.held) (before mid ok loaded) call does (λ r e. number-of mid.held does.records r a.room e) a.answers

  abbrev pub next_log : List Rec
  next_log = mid.log ++ option_list row.adds.one

  pub log-is : new.log ≡ next_log
  log-is = a.log ∙ ap (λ (l : List Rec). mid.log ++ l) row.adds.are

  pub next-ok : LogOk next_log
  next-ok = logs-with mid.log row.adds.one ok.logs row.adds.may

  pub held-image : new.held.image ≡ image next_log
  held-image =
      ap (λ (h : Held). h.image) a.becomes
      ∙ (image-with mid.held.image mid.log does.records ok.image_is
      ∙ ap (λ (l : List Rec). image (mid.log ++ l)) row.adds.are)

  consumers-are : new.held.consumers ≡ does.consumers
  consumers-are = ap (λ (h : Held). h.consumers) a.becomes

  abbrev pub made_now : Option ConsumerState
  made_now = row.evolves.made

  pub ever-is : new.ever ≡ map (sent_now does.consumers does.reply.packets) mid.ever ++ just_made new.held.image made_now
  ever-is =
      a.ever
      ∙ (ap (λ (l : List Consumer). map (sent_now new.held.consumers does.reply.packets) mid.ever ++ l) (row.evolves.made_is new.held consumers-are row.evolves.apart)
      ∙ ap (λ (cs : List ConsumerState). map (sent_now cs does.reply.packets) mid.ever ++ just_made new.held.image row.evolves.made) consumers-are)

  pub came-from : (d : Consumer) → Contains new.ever d → CameFrom mid.ever does.consumers does.reply.packets new.held.image made_now d
  came-from d q = elim (Contains-append_cases (map (sent_now does.consumers does.reply.packets) mid.ever) (just_made new.held.image made_now) d (subst (λ (l : List Consumer). Contains l d) ever-is q)) [
    | inl old ↦ (let w = map-back (sent_now does.consumers does.reply.packets) mid.ever d old in record { from = inl (w.of, w.here, w.is) })
    | inr own ↦ record { from = inr (made-case new.held.image made_now d own) }
  ]

  -- a consumer that was made before is there as it is now
  pub still-there : (k : Consumer) → Contains mid.ever k → Contains new.ever (sent_now does.consumers does.reply.packets k)
  still-there k q = subst (λ (l : List Consumer). Contains l (sent_now does.consumers does.reply.packets k)) (sym ever-is)
      (Contains-append_left (map (sent_now does.consumers does.reply.packets) mid.ever) (just_made new.held.image made_now) (sent_now does.consumers does.reply.packets k)
      (map-on (sent_now does.consumers does.reply.packets) mid.ever k q))

  pub made-there : (c : ConsumerState) → made_now ≡ Some c → Contains new.ever (ghost_of new.held.image c)
  made-there c e = subst (λ (l : List Consumer). Contains l (ghost_of new.held.image c)) (sym ever-is)
      (Contains-append_right (map (sent_now does.consumers does.reply.packets) mid.ever) (just_made new.held.image made_now) (ghost_of new.held.image c)
      (subst (λ (o : Option ConsumerState). Contains (just_made new.held.image o) (ghost_of new.held.image c)) (sym e) (Contains-head (ghost_of new.held.image c) [])))

  pub boot-is : boot next_log ≡ boot mid.log
  boot-is = boot-with mid.log row.adds.one row.adds.no_boot

  -- the name of a consumer that was just made
  pub new-name : (c : ConsumerState) → made_now ≡ Some c → (c.name.boot ≡ boot mid.log) × (c.name.count ≡ mid.held.given + 1) × (mid.held.given + 1 ≤ does.given)
  new-name c e =
      let n = row.evolves.new c e in (
        ap (λ (x : ConsumerState). x.name.boot) n.is ∙ (ap (λ (i : LogImage). i.boot) ok.image_is ∙ (images-tell mid.log).boot),
        ap (λ (x : ConsumerState). x.name.count) n.is,
        n.given,
      )

  fresh-name : (k : Consumer) (c : ConsumerState) → Contains mid.ever k → made_now ≡ Some c → k.name ≢ c.name
  fresh-name k c q e same =
      let n = new-name c e in
      let g = ok.names k q in
      let b : k.name.boot ≡ boot mid.log = ap (λ (x : Stamp). x.boot) same ∙ n.0 in
      let le : k.name.count ≤ mid.held.given = g.count b in
      let x : k.name.count ≡ mid.held.given + 1 = ap (λ (x : Stamp). x.count) same ∙ n.1 in
      omega arith

  given-is : new.held.given ≡ does.given
  given-is = ap (λ (h : Held). h.given) a.becomes

  name-on : (d : Consumer) → Contains new.ever d → IsGiven (boot next_log) does.given d.name
  name-on d q = subst (λ b. IsGiven b does.given d.name) (sym boot-is) (elim (came-from d q).from [
    | inl w ↦ subst (λ (x : Consumer). IsGiven (boot mid.log) does.given x.name) w.2 (given-on (boot mid.log) mid.held.given does.given w.0.name row.evolves.given (ok.names w.0 w.1))
    | inr w ↦ (let n = new-name w.0 w.1 in
        subst (λ (x : Consumer). IsGiven (boot mid.log) does.given x.name) w.2 (given-new new.held.image (boot mid.log) mid.held.given does.given w.0 n.0 n.1 n.2))
  ])

  once-with : (o : Option ConsumerState) → made_now ≡ o → Distinct (map (sent_now does.consumers does.reply.packets) mid.ever ++ just_made new.held.image o)
  once-with None e = subst Distinct (sym (append-nil (map (sent_now does.consumers does.reply.packets) mid.ever))) (Distinct-map (sent_now does.consumers does.reply.packets) (λ k. refl) mid.ever ok.once)
  once-with (Some c) e = Distinct-push (map (sent_now does.consumers does.reply.packets) mid.ever) _ (Distinct-map (sent_now does.consumers does.reply.packets) (λ k. refl) mid.ever ok.once)
      (λ k q same. let w = map-back (sent_now does.consumers does.reply.packets) mid.ever k q in fresh-name w.of c w.here e (ap (λ (x : Consumer). x.name) w.is ∙ same))

  pub once-on : Distinct new.ever
  once-on = subst Distinct (sym ever-is) (once-with made_now refl)

  -- a consumer that stood before
  standing-grew : (c d : ConsumerState) → Contains mid.held.consumers c → Contains does.consumers d → Grew mid.log does.reply.packets c d → IsStanding next_log new.ever d
  standing-grew c d q here g =
      let st = ok.standing c q in
      let k = st.made_as in
      let named : k.name ≡ d.name = st.name ∙ sym g.name in
      let is_now : standing_of does.consumers k.name ≡ Some d = ap (standing_of does.consumers) named ∙ standing-of does.consumers d row.evolves.apart here in
      let l : live mid.log c.stream ≡ Some st.origin = ap (live mid.log) (sym st.stream) ∙ live-from mid.log k.stream k.incarnation st.origin st.stands st.reads in
      let right = g.right st.origin k.sent l (log-rise laws mid.log k.stream k.incarnation st.origin ok.logs st.reads) st.right in
      let right2 : IsRight st.origin.history d (answered_now (standing_of does.consumers k.name) (with_rows k.sent (delivered k.name does.reply.packets))) =
      subst (λ (o : Option ConsumerState). IsRight st.origin.history d (answered_now o (with_rows k.sent (delivered k.name does.reply.packets)))) (sym is_now)
      (subst (λ (n : Stamp). IsRight st.origin.history d (answered_now (Some d) (with_rows k.sent (delivered n does.reply.packets)))) (sym st.name) right) in
      let on = hist-append mid.log (option_list row.adds.one) k.stream k.incarnation st.origin st.reads in
      record {
        made_as = sent_now does.consumers does.reply.packets k;
        among = still-there k st.among;
        name = named;
        stream = st.stream ∙ sym g.stream;
        wanted = st.wanted ∙ sym g.wanted;
        stands = stands-with mid.log row.adds.one k.stream k.incarnation (λ r e. subst (Leaves r) (sym (st.stream ∙ sym g.stream)) (row.adds.leaves r e d here)) st.stands;
        origin = on.0;
        reads = on.1;
        right = right-on laws st.origin.history on.0.history d (answered_now (standing_of does.consumers k.name) (with_rows k.sent (delivered k.name does.reply.packets))) on.2.history (log-rise laws next_log k.stream k.incarnation on.0 next-ok on.1) right2;
      }

  -- a consumer that was just made
  standing-made : (d : ConsumerState) → made_now ≡ Some d → IsStanding next_log new.ever d
  standing-made d e =
      let n = row.evolves.new d e in
      let li = live-is mid.log d.stream n.known n.reads_it in
      let there : Stands next_log d.stream (incarnation mid.log d.stream) = stands-with mid.log row.adds.one d.stream (incarnation mid.log d.stream) (λ r is. row.adds.leaves r is d n.here) li.0 in
      let inc : incarnation_in new.held.image d.stream ≡ incarnation mid.log d.stream =
      ap (λ (i : LogImage). incarnation_in i d.stream) held-image ∙ ((images-tell next_log).incarnation d.stream ∙ sym there.latest) in
      let on = hist-append mid.log (option_list row.adds.one) d.stream (incarnation mid.log d.stream) n.known li.1 in
      let fresh : IsRight n.known.history d no_sendings = subst (λ (x : ConsumerState). IsRight n.known.history x no_sendings) (sym n.is) (laws.new_right n.known.history (next_name (view_in mid.held)) d.stream d.wanted n.now) in
      record {
        made_as = ghost_of new.held.image d;
        among = made-there d e;
        name = refl;
        stream = refl;
        wanted = refl;
        stands = subst (λ i. Stands next_log d.stream i) (sym inc) there;
        origin = on.0;
        reads = subst (λ i. made next_log d.stream i ≡ Some on.0) (sym inc) on.1;
        right = right-on laws n.known.history on.0.history d no_sendings on.2.history (log-rise laws next_log d.stream (incarnation mid.log d.stream) on.0 next-ok on.1) fresh;
      }

  pub standing-on : (d : ConsumerState) → Contains does.consumers d → IsStanding next_log new.ever d
  standing-on d q = elim (row.evolves.back d q) [
    | inl w ↦ standing-grew w.0 d w.1 q w.2
    | inr made ↦ standing-made d made
  ]

  -- one that stands has sent what is right, one that doesn't has sent nothing more
  chain-by : (d : Consumer) (o : Option ConsumerState) → Contains new.ever d → standing_of does.consumers d.name ≡ o → ReadsRight next_log d
  chain-by d (Some c) q e =
      let w = standing-is does.consumers d.name c e in
      let st = standing-on c w.0 in
      let same : st.made_as ≡ d = Distinct-one new.ever st.made_as d once-on st.among q (st.name ∙ w.1) in
      subst (ReadsRight next_log) same (record { origin = st.origin; reads = st.reads; state = c; wanted = sym st.wanted; right = st.right })
  chain-by d None q e = elim (came-from d q).from [
    | inl w ↦ (let k = w.0 in
        let unnamed : (c : ConsumerState) → Contains does.consumers c → c.name ≢ k.name = λ c here same. absurd (
        let t : false ≡ true = sym (none-found (λ (x : ConsumerState). same_stamp x.name d.name) does.consumers c e here)
        ∙ (ap (λ n. same_stamp n d.name) (same ∙ ap (λ (x : Consumer). x.name) w.2) ∙ same_stamp-refl d.name) in cc) in
        let nothing : delivered k.name does.reply.packets ≡ [] = row.evolves.none k.name unnamed in
        let out : standing_of does.consumers k.name ≡ None = ap (standing_of does.consumers) (ap (λ (x : Consumer). x.name) w.2) ∙ e in
        let still : k.sent ≡ d.sent =
        ap (answered_now None) (ap (with_rows k.sent) (sym nothing))
        ∙ (ap (λ (o : Option ConsumerState). answered_now o (with_rows k.sent (delivered k.name does.reply.packets))) (sym out)
        ∙ ap (λ (x : Consumer). x.sent) w.2) in
        let r = ReadsRight-on laws mid.log (option_list row.adds.one) k next-ok (ok.chains k w.1) in
        subst (ReadsRight next_log) w.2 (record { origin = r.origin; reads = r.reads; state = r.state; wanted = r.wanted; right = subst (IsRight r.origin.history r.state) (still ∙ ap (λ (x : Consumer). x.sent) (sym w.2)) r.right }))
    | inr w ↦ (let n = row.evolves.new w.0 w.1 in
        let t : standing_of does.consumers d.name ≡ Some w.0 = ap (λ (x : Consumer). standing_of does.consumers x.name) (sym w.2) ∙ standing-of does.consumers w.0 row.evolves.apart n.here in
        absurd (let z : None ≡ Some w.0 = sym e ∙ t in cc))
  ]

  -- What is answered keeps what each shard keeps.
  pub ShardOk-answers : ShardOk new
  ShardOk-answers = record {
    image_is = held-image ∙ ap image (sym log-is);
    logs = subst LogOk (sym log-is) next-ok;
    names = λ d q. subst (λ (l : List Rec). IsGiven (boot l) new.held.given d.name) (sym log-is) (subst (λ n. IsGiven (boot next_log) n d.name) (sym given-is) (name-on d q));
    once = once-on;
    chains = λ d q. subst (λ (l : List Rec). ReadsRight l d) (sym log-is) (chain-by d (standing_of does.consumers d.name) q refl);
    standing = λ c q. subst (λ (l : List Rec). IsStanding l new.ever c) (sym log-is) (standing-on c (subst (λ (l : List ConsumerState). Contains l c) consumers-are q));
    apart = subst Apart (sym consumers-are) row.evolves.apart;
    doubt = λ r e. absurd (let z : None ≡ Some r = sym (ap (λ (h : Held). h.doubt) a.becomes) ∙ e in cc);
    certain = λ l. ap (λ (h : Held). h.doubt) a.becomes;
    none = λ l. absurd (let z : true ≡ false = sym (ap (λ (h : Held). h.loaded) a.becomes) ∙ l in cc);
    booted = λ l. subst (λ (x : List Rec). 1 ≤ boot x) (sym log-is) (subst (λ n. 1 ≤ n) (sym boot-is) (ok.booted loaded));
  }
