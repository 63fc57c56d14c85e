-- What stays as logs, chains and the bag grow.
use Rattle.std.proofs.Common.{◌≡◌, ℕ, zero, suc, ◌+◌, ◌-◌, ◌<◌, ◌≤◌, List, [], ◌∷◌, ◌++◌, length, Option, Some, None, refl, sym, ap, ◌∙◌, subst, arith, ◌⊎◌, inl, inr, length-append, append_assoc, append-nil}
use Rattle.std.specs.Prelude.{Contains, slice_get}
use Rattle.nats_text.specs.declared.message.Start.{Start}
use Rattle.nats_text.specs.declared.message.Start.TheVariants.{Seq, Time}
use Rattle.nats_text.specs.declared.origin.Origin.{Origin}
use Rattle.js_wire.specs.declared.packet.Packet.{Packet}
use Rattle.js_wire.specs.declared.packet.Packet.TheVariants.{Ask, Answer, Refuse, Delivery, Beat, FlowAsk, FlowReply}
use Rattle.stream_fold.specs.declared.config.Copies.{Copies}
use Rattle.stream_fold.specs.declared.config.Copies.TheVariants.{Nothing, Mirror, Sources}
use Rattle.stream_fold.specs.declared.entry.BoundTo.{BoundTo}
use Rattle.stream_fold.specs.declared.entry.Entry.{Entry}
use Rattle.stream_fold.specs.Copying.{IsRightStart, MirrorHolds, SourceHolds, copy_start, number_since}
use Rattle.stream_fold.specs.Histories.{History, with_entry, last, kept, NumbersRise}
use Rattle.stream_fold.proofs.Growth.{put-below, RiseFrom-append}
use Rattle.push_consumer.specs.Chains.{SkipsHoles, chain}
use Rattle.push_consumer.specs.declared.wanted.Wanted.{Wanted}
use Rattle.shard_machine.specs.Logs.{Made, made}
use Rattle.shard_machine.specs.Views.{node_or}
use Rattle.run_soundness.specs.Shards.{Consumer, ShardState, IsRead}
use Rattle.run_soundness.specs.Worlds.{World, shard_of}
use Rattle.run_soundness.specs.Soundness.{SaysOf, IsAsked, before_next, or_zero, Holds, HoldsBy}
use Rattle.run_soundness.specs.Below.{Laws}
use Rattle.run_soundness.proofs.Histories.{GoesOn, GoesOn-is, put-on}
use Rattle.run_soundness.proofs.Logs.{StreamGrows}
use Rattle.run_soundness.proofs.ShardsGrow.{Later, ShardGrows}

-- all shards and the bag go on
pub record WorldGrows (w v : World) : Type 0 where
  pub shards : (n : List ℕ) (k : ℕ) → ShardGrows (w.shard n k) (v.shard n k)
  pub bag : (p : Packet) → Contains w.bag p → Contains v.bag p

-- ---- histories

rise-front : (es xs : List Entry) → NumbersRise (es ++ xs) → NumbersRise es
rise-front es xs h = (RiseFrom-append es xs 0 h).0

-- what outlasts each entry outlasts several
grow-by : (P : History → Type 0) → ((k : History) (e : Entry) → NumbersRise (with_entry k e).entries → P k → P (with_entry k e)) → (h : History) (es : List Entry) → NumbersRise (h.entries ++ es) → P h → P (record { config = h.config; entries = h.entries ++ es })
grow-by P f h [] n p = subst (λ (l : List Entry). P (record { config = h.config; entries = l })) (sym (append-nil h.entries)) p
grow-by P f h (e ∷ es) n p =
    let all : NumbersRise ((h.entries ++ e ∷ []) ++ es) = subst NumbersRise (sym (append_assoc h.entries (e ∷ []) es)) n in
    subst (λ (l : List Entry). P (record { config = h.config; entries = l })) (append_assoc h.entries (e ∷ []) es)
    (grow-by P f (with_entry h e) es all (f h e (rise-front (h.entries ++ e ∷ []) es all) p))

pub MirrorHolds-on : Laws → (h k : History) (copy : List Entry) (start : ℕ) → GoesOn h k → NumbersRise k.entries → MirrorHolds h copy start → MirrorHolds k copy start
MirrorHolds-on laws h k copy start g n q =
    subst (λ (x : History). MirrorHolds x copy start) (sym (GoesOn-is h k g))
    (grow-by (λ (x : History). MirrorHolds x copy start) (λ x e m p. laws.mirrors_outlast x copy start e m p) h g.rest (subst NumbersRise g.entries n) q)

pub SourceHolds-on : Laws → (want : Origin) (h k copy : History) (index : ℕ) → GoesOn h k → NumbersRise k.entries → SourceHolds want h copy index → SourceHolds want k copy index
SourceHolds-on laws want h k copy index g n q =
    subst (λ (x : History). SourceHolds want x copy index) (sym (GoesOn-is h k g))
    (grow-by (λ (x : History). SourceHolds want x copy index) (λ x e m p. laws.sources_outlast want x copy index e m p) h g.rest (subst NumbersRise g.entries n) q)

-- a start that was right stays right
pub right-start-on : (h k : History) (from : Start) (start : ℕ) → GoesOn h k → IsRightStart h from start → IsRightStart k from start
right-start-on h k (Seq n) start g q = q
right-start-on h k (Time moment) start g q = record {
  front = q.front;
  rest = q.rest ++ g.rest;
  whole = g.entries ∙ (ap (λ (l : List Entry). l ++ g.rest) q.whole ∙ append_assoc q.front q.rest g.rest);
  is = q.is ∙ ap (λ c. number_since moment (kept (record { config = c; entries = q.front })) (last q.front + 1)) (sym g.config);
}

-- ---- what consumers read, have sent and were asked

pub read-on : (s t : ShardState) (c d : Consumer) (m : Made) → ShardGrows s t → Later c d → IsRead s.log c m → (n : Made) × IsRead t.log d n × StreamGrows m n
read-on s t c d m g l r =
    let q = g.mades c.stream c.incarnation m r in
    (q.0, subst (λ x. made t.log x d.incarnation ≡ Some q.0) (sym l.stream) (subst (λ x. made t.log c.stream x ≡ Some q.0) (sym l.incarnation) q.1), q.2)

get-prefix : (xs ys : List ℕ) (k x : ℕ) → slice_get xs k ≡ Some x → slice_get (xs ++ ys) k ≡ Some x
get-prefix [] ys k x e = absurd (cc)
get-prefix (y ∷ xs) ys zero x e = e
get-prefix (y ∷ xs) ys (suc k) x e = get-prefix xs ys k x e

pub chain-get : (c d : Consumer) (k x : ℕ) → Later c d → slice_get (chain c.sent) k ≡ Some x → slice_get (chain d.sent) k ≡ Some x
chain-get c d k x l e = subst (λ z. slice_get z k ≡ Some x) (sym l.sent) (get-prefix (chain c.sent) l.more k x e)

pub chain-length : (c d : Consumer) → Later c d → length (chain c.sent) ≤ length (chain d.sent)
chain-length c d l = subst (λ z. length (chain c.sent) ≤ length z) (sym l.sent) (let q = length-append (chain c.sent) l.more in omega arith)

pub asked-grows : (w v : World) (n : List ℕ) (k : ℕ) (c d : Consumer) → WorldGrows w v → Later c d → IsAsked w n k c → IsAsked v n k d
asked-grows w v n k c d g l a =
    let r = read-on (w.shard n k) (v.shard n k) c d a.origin (g.shards n k) l a.reads in
    record {
      from = a.from;
      ask = subst (λ (x : Wanted). Contains v.bag (Ask x.asker x.attempt n d.stream a.from x.filters)) (sym l.wanted)
          (subst (λ x. Contains v.bag (Ask c.wanted.asker c.wanted.attempt n x a.from c.wanted.filters)) (sym l.stream) (g.bag _ a.ask));
      place = a.place ∙ ap shard_of (sym l.stream);
      origin = r.0;
      reads = r.1;
      start = subst (λ (x : Wanted). IsRightStart r.0.history a.from x.start) (sym l.wanted) (right-start-on a.origin.history r.0.history a.from c.wanted.start r.2.history a.start);
    }

pub says-grows : (p : Packet) (s t : ShardState) (c d : Consumer) → ShardGrows s t → Later c d → SaysOf p s.log c → SaysOf p t.log d
says-grows (Ask a attempt origin stream from filters) s t c d g l q = q
says-grows (Answer a attempt name incarnation from) s t c d g l q =
    (l.name ∙ q.0, ap (λ (x : Wanted). x.asker) l.wanted ∙ q.1, ap (λ (x : Wanted). x.attempt) l.wanted ∙ q.2, l.incarnation ∙ q.3, ap (λ (x : Wanted). x.start) l.wanted ∙ q.4)
says-grows (Refuse a attempt code err_code) s t c d g l q = q
says-grows (Delivery a attempt stream name number seq pending m) s t c d g l q =
    let r = read-on s t c d q.5.0 g l q.5.1 in (
      l.name ∙ q.0,
      ap (λ (x : Wanted). x.asker) l.wanted ∙ q.1,
      ap (λ (x : Wanted). x.attempt) l.wanted ∙ q.2,
      l.stream ∙ q.3,
      (q.4.0, q.4.1, chain-get c d q.4.0 seq l q.4.2),
      (r.0, r.1, put-on q.5.0.history r.0.history seq m r.2.history q.5.2),
    )
says-grows (Beat a attempt origin stream name last_number last_seq stalled) s t c d g l q =
    (l.name ∙ q.0, ap (λ (x : Wanted). x.asker) l.wanted ∙ q.1, ap (λ (x : Wanted). x.attempt) l.wanted ∙ q.2, l.stream ∙ q.3, (let le = chain-length c d l in let k = q.4 in omega arith))
says-grows (FlowAsk a attempt origin stream name token) s t c d g l q = q
says-grows (FlowReply origin stream name token) s t c d g l q = q

-- ---- what copies hold

pub Holds-on : Laws → (c : Copies) (want : Origin) (h k g : History) (index : ℕ) → GoesOn h k → NumbersRise k.entries → Holds c want h g index → Holds c want k g index
Holds-on laws Nothing want h k g index on n q = q
Holds-on laws (Mirror o) want h k g index on n q = MirrorHolds-on laws h k g.entries (copy_start index g) on n q
Holds-on laws (Sources os) want h k g index on n q = SourceHolds-on laws want h k g index on n q

pub holds-grows : Laws → (w v : World) (n : List ℕ) (g : History) (index : ℕ) (want : Origin) (b : Option BoundTo) → WorldGrows w v → HoldsBy w n g index want b → HoldsBy v n g index want b
holds-grows laws w v n g index want None wg q = q
holds-grows laws w v n g index want (Some to) wg q =
    let sg = wg.shards (node_or n want.node) (shard_of want.stream) in
    let r = sg.mades want.stream to.incarnation q.origin q.reads in
    record {
      origin = r.0;
      reads = r.1;
      right = right-start-on q.origin.history r.0.history want.start to.start r.2.history q.right;
      holds = Holds-on laws g.config.copies want q.origin.history r.0.history g index r.2.history (sg.rise want.stream to.incarnation r.0 r.1) q.holds;
    }

-- ---- the member before the next one

pub get-some : (xs : List ℕ) (k : ℕ) → k < length xs → (x : ℕ) × (slice_get xs k ≡ Some x)
get-some [] k lt = absurd (omega arith)
get-some (x ∷ xs) zero lt = (x, refl)
get-some (x ∷ xs) (suc k) lt = get-some xs k (omega arith)

pub before-same : (c d : Consumer) (next : ℕ) → Later c d → next ≤ suc (length (chain c.sent)) → before_next d next ≡ before_next c next
before-same c d zero l le = ap (λ (x : Wanted). x.start - 1) l.wanted
before-same c d (suc zero) l le = ap (λ (x : Wanted). x.start - 1) l.wanted
before-same c d (suc (suc k)) l le = let q = get-some (chain c.sent) k (omega arith) in ap or_zero (chain-get c d k q.0 l q.1 ∙ sym q.1)

pub contains-get : (xs : List ℕ) (k x : ℕ) → slice_get xs k ≡ Some x → Contains xs x
contains-get [] k x e = absurd (cc)
contains-get (y ∷ xs) zero x e = (0, omega arith, (let q : Some y ≡ Some x = e in cc))
contains-get (y ∷ xs) (suc k) x e = let q = contains-get xs k x e in (suc q.0, omega arith, q.2)

-- what is up to the member before the next one was reached
pub before-reached : (h : History) (c : Consumer) (next s : ℕ) → SkipsHoles h c.wanted.start c.wanted.filters (chain c.sent) → next ≤ suc (length (chain c.sent)) → c.wanted.start ≤ s → s ≤ before_next c next → (s ≤ last h.entries) ⊎ (s ≡ 0)
before-reached h c zero s ok le from to = inr (omega arith)
before-reached h c (suc zero) s ok le from to = inr (omega arith)
before-reached h c (suc (suc k)) s ok le from to =
    let q = get-some (chain c.sent) k (omega arith) in
    let v = ok.members q.0 (contains-get (chain c.sent) k q.0 q.1) in
    let top = put-below h.entries q.0 v.message v.here in
    let is : before_next c (suc (suc k)) ≡ q.0 = ap or_zero q.1 in
    inl (omega arith)
