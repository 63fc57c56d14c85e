-- What a delivery says of the consumer to which its asker is bound.
use Rattle.std.proofs.Common.{◌≡◌, ℕ, zero, suc, ◌+◌, ◌<◌, ◌≤◌, true, List, [], ◌∷◌, length, Some, None, refl, sym, ap, ◌∙◌, subst, arith, ◌⊎◌, inl, inr}
use Rattle.std.specs.Prelude.{Contains, slice_get, slice_index_or}
use Rattle.std.proofs.lemmas.Bool.{cases_lt}
use Rattle.nats_text.specs.declared.message.Message.{Message}
use Rattle.nats_text.specs.declared.message.Stamp.{Stamp}
use Rattle.nats_text.specs.declared.message.Start.{Start}
use Rattle.nats_text.specs.declared.origin.Origin.{Origin}
use Rattle.js_wire.specs.declared.packet.AskerId.{AskerId}
use Rattle.js_wire.specs.declared.packet.Packet.TheVariants.{Ask, Delivery}
use Rattle.stream_fold.specs.Checking.{config_fault}
use Rattle.stream_fold.specs.Copying.{origin_named}
use Rattle.stream_fold.specs.Histories.{History, put, IsHole}
use Rattle.stream_fold.specs.RowLists.{Rises}
use Rattle.push_consumer.specs.Chains.{SkipsHoles, chain, next_of}
use Rattle.push_consumer.specs.Sends.{is_wanted}
use Rattle.shard_machine.specs.Logs.{Made}
use Rattle.shard_machine.specs.Views.{node_or}
use Rattle.run_soundness.specs.Shards.{Consumer, IsRead}
use Rattle.run_soundness.specs.Worlds.{World, shard_of}
use Rattle.run_soundness.specs.Soundness.{before_next, or_zero, IsToStore, HasStored, BagRight, IsReading}
use Rattle.run_soundness.proofs.Growing.{get-some}
use Rattle.run_soundness.proofs.Wanting.{stored-wanted}
use Rattle.run_soundness.proofs.Phases.{some_same}
use Rattle.run_soundness.proofs.ShardsKept.{ShardOk}
use Rattle.run_soundness.proofs.Stamps.{Distinct-one}

-- ---- of one attempt there is one place, and of one name there is one consumer

pub record SamePlace (n n' : List ℕ) (k k' : ℕ) (c c' : Consumer) : Type 0 where
  pub node : n' ≡ n
  pub shard : k' ≡ k
  pub stream : c'.stream ≡ c.stream

pub place_of : (a : AskerId) (attempt : Stamp) (n n' s s' : List ℕ) (from from' : Start) (fs fs' : List (List ℕ)) → Ask a attempt n s from fs ≡ Ask a attempt n' s' from' fs' → (n ≡ n') × (s ≡ s') × (from ≡ from') × (fs ≡ fs')
place_of a attempt n n' s s' from from' fs fs' e = ((cc), (cc), (cc), (cc))

pub same-place : (w : World) (bag : BagRight w) (n n' : List ℕ) (k k' : ℕ) (c c' : Consumer) → Contains (w.shard n k).ever c → Contains (w.shard n' k').ever c' → c'.wanted.asker ≡ c.wanted.asker → c'.wanted.attempt ≡ c.wanted.attempt → SamePlace n n' k k' c c'
same-place w bag n n' k k' c c' e e' sa st =
    let q = bag.asked n k c e in
    let q' = bag.asked n' k' c' e' in
    let ask' = subst (λ (x : AskerId). Contains w.bag (Ask x c.wanted.attempt n' c'.stream q'.from c'.wanted.filters)) sa (subst (λ (x : Stamp). Contains w.bag (Ask c'.wanted.asker x n' c'.stream q'.from c'.wanted.filters)) st q'.ask) in
    let p = place_of c.wanted.asker c.wanted.attempt n n' c.stream c'.stream q.from q'.from c.wanted.filters c'.wanted.filters (bag.one_ask c.wanted.asker c.wanted.attempt n n' c.stream c'.stream q.from q'.from c.wanted.filters c'.wanted.filters q.ask ask') in
    record { node = sym p.0; shard = q'.place ∙ (ap shard_of (sym p.1) ∙ sym q.place); stream = sym p.1 }

-- two consumers of one asker, attempt and name are one
pub same-consumer : (w : World) (bag : BagRight w) (ok : (n : List ℕ) (k : ℕ) → ShardOk (w.shard n k)) (n n' : List ℕ) (k k' : ℕ) (c c' : Consumer) →
    Contains (w.shard n k).ever c → Contains (w.shard n' k').ever c' → c'.wanted.asker ≡ c.wanted.asker → c'.wanted.attempt ≡ c.wanted.attempt → c'.name ≡ c.name → (n' ≡ n) × (k' ≡ k) × (c' ≡ c)
same-consumer w bag ok n n' k k' c c' e e' sa st na =
    let p = same-place w bag n n' k k' c c' e e' sa st in
    (p.node, p.shard, Distinct-one (w.shard n k).ever c' c (ok n k).once (subst (λ x. Contains (w.shard x k).ever c') p.node (subst (λ x. Contains (w.shard n' x).ever c') p.shard e')) e na)

-- a delivery to a bound asker is the member of its consumer's chain
pub record Delivered (b : Consumer) (h : History) (number seq : ℕ) (m : Message) : Type 0 where
  pub k : ℕ
  pub number_is : number ≡ suc k
  pub member : slice_get (chain b.sent) k ≡ Some seq
  pub put_there : put seq h.entries ≡ Some m

pub delivered : (w : World) (bag : BagRight w) (ok : (n : List ℕ) (k : ℕ) → ShardOk (w.shard n k)) (a : AskerId) (attempt name : Stamp) (next : ℕ) (g : History) (want : Origin) (b : IsReading w a attempt name next g want)
    (stream : List ℕ) (number seq pending : ℕ) (m : Message) → Contains w.bag (Delivery a attempt stream name number seq pending m) → Delivered b.c b.origin.history number seq m
delivered w bag ok a attempt name next g want b stream number seq pending m q =
    let n = node_or a.node want.node in
    let k = shard_of want.stream in
    let s = bag.says _ q refl in
    let v = s.4 in
    let e = same-consumer w bag ok n s.0 k s.1 b.c s.2 b.ever s.3 (v.1 ∙ sym b.asker) (v.2 ∙ sym b.attempt_is) (v.0 ∙ sym b.named) in
    let read : IsRead (w.shard n k).log b.c v.5.0 = subst (λ (x : Consumer). IsRead (w.shard n k).log x v.5.0) e.2 (subst (λ x. IsRead (w.shard x k).log s.2 v.5.0) e.0 (subst (λ x. IsRead (w.shard s.0 x).log s.2 v.5.0) e.1 v.5.1)) in
    let same : v.5.0 ≡ b.origin = some_same _ v.5.0 b.origin read b.reads in
    record {
      k = v.4.0;
      number_is = v.4.1;
      member = subst (λ (x : Consumer). slice_get (chain x.sent) v.4.0 ≡ Some seq) e.2 v.4.2;
      put_there = subst (λ (x : Made). put seq x.history.entries ≡ Some m) same v.5.2;
    }

-- ---- members of a chain stand in their order

pub rises-low : (low : ℕ) (xs : List ℕ) (k x : ℕ) → Rises low xs → slice_get xs k ≡ Some x → low ≤ x
rises-low low [] k x r e = absurd (cc)
rises-low low (y ∷ xs) zero x r e = let q : y ≡ x = cc in let p = r.0 in omega arith
rises-low low (y ∷ xs) (suc k) x r e = let q = rises-low (suc y) xs k x r.1 e in let p = r.0 in omega arith

pub rises-order : (low : ℕ) (xs : List ℕ) (i j x y : ℕ) → Rises low xs → slice_get xs i ≡ Some x → slice_get xs j ≡ Some y → i < j → x < y
rises-order low [] i j x y r e f lt = absurd (cc)
rises-order low (z ∷ xs) i zero x y r e f lt = absurd (omega arith)
rises-order low (z ∷ xs) zero (suc j) x y r e f lt = let q : z ≡ x = cc in let p = rises-low (suc z) xs j y r.1 f in omega arith
rises-order low (z ∷ xs) (suc i) (suc j) x y r e f lt = rises-order (suc z) xs i j x y r.1 e f (omega arith)

pub next-above : (low : ℕ) (xs : List ℕ) → Rises low xs → low ≤ next_of low xs
next-above low [] r = omega arith
next-above low (x ∷ xs) r = let q = next-above (suc x) xs r.1 in let p = r.0 in omega arith

pub rises-next : (low : ℕ) (xs : List ℕ) (k x : ℕ) → Rises low xs → slice_get xs k ≡ Some x → x < next_of low xs
rises-next low [] k x r e = absurd (cc)
rises-next low (y ∷ xs) zero x r e = let q : y ≡ x = cc in let p = next-above (suc y) xs r.1 in omega arith
rises-next low (y ∷ xs) (suc k) x r e = rises-next (suc y) xs k x r.1 e

pub get-contains : (xs : List ℕ) (s k : ℕ) → k < length xs → slice_index_or xs k s ≡ s → slice_get xs k ≡ Some s
get-contains [] s k lt e = absurd (omega arith)
get-contains (x ∷ xs) s zero lt e = ap Some e
get-contains (x ∷ xs) s (suc k) lt e = get-contains xs s k (omega arith) e

pub get-lt : (xs : List ℕ) (k x : ℕ) → slice_get xs k ≡ Some x → k < length xs
get-lt [] k x e = absurd (cc)
get-lt (y ∷ xs) zero x e = omega arith
get-lt (y ∷ xs) (suc k) x e = let q = get-lt xs k x e in omega arith

-- the k-th member is at least k past the start
pub rises-place : (low : ℕ) (xs : List ℕ) (k x : ℕ) → Rises low xs → slice_get xs k ≡ Some x → k ≤ x
rises-place low [] k x r e = absurd (cc)
rises-place low (y ∷ xs) zero x r e = omega arith
rises-place low (y ∷ xs) (suc k) x r e = let q = rises-from (suc y) xs k x r.1 e in omega arith
  where
    rises-from : (l : ℕ) (ys : List ℕ) (j z : ℕ) → Rises l ys → slice_get ys j ≡ Some z → l + j ≤ z
    rises-from l [] j z rr ee = absurd (cc)
    rises-from l (v ∷ ys) zero z rr ee = let q : v ≡ z = cc in let p = rr.0 in omega arith
    rises-from l (v ∷ ys) (suc j) z rr ee = let q = rises-from (suc v) ys j z rr.1 ee in let p = rr.0 in omega arith

up-to : (c : Consumer) (j i y s : ℕ) → Rises c.wanted.start (chain c.sent) → slice_get (chain c.sent) j ≡ Some y → slice_get (chain c.sent) i ≡ Some s → i < suc j → s ≤ y
up-to c j i y s r e f lt = elim (cases_lt i j) [
  | inl less ↦ (let p = rises-order c.wanted.start (chain c.sent) i j s y r f e less in omega arith)
  | inr more ↦ (let same : i ≡ j = omega arith in let z : Some s ≡ Some y = sym f ∙ (ap (λ x. slice_get (chain c.sent) x) same ∙ e) in let q : s ≡ y = cc in omega arith)
]

before-member : (c : Consumer) (k i s seq : ℕ) → Rises c.wanted.start (chain c.sent) → slice_get (chain c.sent) k ≡ Some seq → slice_get (chain c.sent) i ≡ Some s → i < k → s ≤ before_next c (suc k)
before-member c zero i s seq r e f lt = absurd (omega arith)
before-member c (suc j) i s seq r e f lt =
    let w = get-some (chain c.sent) j (let q = get-lt (chain c.sent) (suc j) seq e in omega arith) in
    subst (λ x. s ≤ x) (sym (ap or_zero w.1)) (up-to c j i w.0 s r w.1 f lt)

-- no member stands between the one before and the next
none-between : (c : Consumer) (k seq s : ℕ) → Rises c.wanted.start (chain c.sent) → slice_get (chain c.sent) k ≡ Some seq → before_next c (suc k) < s → s < seq → Contains (chain c.sent) s → ⊥
none-between c k seq s r e lo hi q =
    let f = get-contains (chain c.sent) s q.0 q.1 q.2 in
    elim (cases_lt q.0 k) [
      | inl less ↦ (let p = before-member c k q.0 s seq r e f less in omega arith)
      | inr more ↦ (let p = up-to c q.0 k s seq r f e (omega arith) in omega arith)
    ]

-- Up to the delivered number, nothing that the copy stores is left but what it has and holes.
pub left-out : (w : World) (a : AskerId) (attempt name : Stamp) (k seq : ℕ) (g : History) (want : Origin) (b : IsReading w a attempt name (suc k) g want) →
    SkipsHoles b.origin.history b.c.wanted.start b.c.wanted.filters (chain b.c.sent) →
    config_fault g.config ≡ None → origin_named a.index g.config.copies ≡ Some want → slice_get (chain b.c.sent) k ≡ Some seq →
    (s : ℕ) (m : Message) → b.c.wanted.start ≤ s → s < seq → put s b.origin.history.entries ≡ Some m → IsToStore g.config.copies want m s →
    HasStored g.config.copies a.index g s ⊎ IsHole b.origin.history s
left-out w a attempt name k seq g want b skips plain o member s m from lt e st = elim (cases_lt (before_next b.c (suc k)) s) [
  | inl between ↦ (let wtd = stored-wanted g.config want a.index m s plain o st in
      let top = rises-next b.c.wanted.start (chain b.c.sent) k seq skips.rises member in
      elim (skips.no_other s from (omega arith) (record { message = m; here = e; taken = subst (λ (f : List (List ℕ)). is_wanted f m.subject ≡ true) (sym b.filters) wtd })) [
        | inl mem ↦ absurd (none-between b.c k seq s skips.rises member between lt mem)
        | inr hole ↦ inr hole
      ])
  | inr before ↦ b.none_left s m from before e st
]
