-- What holds of a copy's asker by its phase, as all goes on.
use Rattle.std.proofs.Common.{◌≡◌, ℕ, suc, ◌+◌, ◌-◌, ◌≤◌, max, List, [], ◌∷◌, ◌++◌, Option, Some, None, refl, sym, ap, ◌∙◌, subst, arith, inl, inr, map}
use Rattle.std.specs.Prelude.{Contains}
use Rattle.nats_text.specs.declared.message.Stamp.{Stamp}
use Rattle.nats_text.specs.declared.message.Start.{Start}
use Rattle.nats_text.specs.declared.message.Start.TheVariants.{Seq}
use Rattle.nats_text.specs.declared.origin.Origin.{Origin}
use Rattle.js_wire.specs.declared.packet.AskerId.{AskerId}
use Rattle.js_wire.specs.declared.packet.Packet.TheVariants.{Ask}
use Rattle.stream_fold.specs.declared.config.Copies.{Copies}
use Rattle.stream_fold.specs.declared.config.Copies.TheVariants.{Nothing, Mirror, Sources}
use Rattle.stream_fold.specs.declared.entry.BoundTo.{BoundTo}
use Rattle.stream_fold.specs.declared.entry.Entry.{Entry}
use Rattle.stream_fold.specs.Copying.{bound, mark_or, last_mark, copy_start, start_by, Stored, PassesBy, IsNoPut}
use Rattle.stream_fold.specs.Fits.{AllFit}
use Rattle.stream_fold.specs.Histories.{History, with_entry, last, NumbersRise}
use Rattle.stream_fold.proofs.KeptRows.{put-positive}
use Rattle.push_consumer.specs.Chains.{SkipsHoles, chain}
use Rattle.push_consumer.specs.declared.wanted.Wanted.{Wanted}
use Rattle.replica_ask.specs.declared.phase.Phase.{Phase}
use Rattle.replica_ask.specs.declared.phase.Phase.TheVariants.{Idle, Asking, Bound, Stopped}
use Rattle.replica_ask.specs.Filters.{filters_of}
use Rattle.shard_machine.specs.Logs.{Made}
use Rattle.shard_machine.specs.Views.{node_or, reached, ask_start}
use Rattle.run_soundness.specs.Shards.{Consumer, ShardState, IsRead}
use Rattle.run_soundness.specs.Worlds.{World, shard_of}
use Rattle.run_soundness.specs.Soundness.{before_next, HasStored, IsReading, PhaseRight, copy_of}
use Rattle.run_soundness.proofs.Entries.{bound-passes, last_mark-passes, stored-passes, put-passes, last-passes, start-passes, point, reached-is, asks_from, ask_start-is}
use Rattle.run_soundness.proofs.Growing.{WorldGrows, read-on, before-same, before-reached, chain-length}
use Rattle.run_soundness.proofs.Histories.{IsHole-on, put-back_on}
use Rattle.run_soundness.proofs.ShardsGrow.{Later}
use Rattle.run_soundness.proofs.ShardsKept.{ShardOk}

pub some_same : {A : Type 0} (o : Option A) (x y : A) → o ≡ Some x → o ≡ Some y → x ≡ y
some_same o x y e f = let q : Some x ≡ Some y = sym e ∙ f in cc

-- the chain of a consumer skips holes of the stream that the phase speaks of
pub skips-of : (s : ShardState) (c : Consumer) (m : Made) → ShardOk s → Contains s.ever c → IsRead s.log c m → SkipsHoles m.history c.wanted.start c.wanted.filters (chain c.sent)
skips-of s c m ok e r =
    let w = ok.chains c e in
    let same : w.origin ≡ m = some_same _ w.origin m w.reads r in
    subst (λ (x : Made). SkipsHoles x.history c.wanted.start c.wanted.filters (chain c.sent)) same
    (subst (λ (x : Wanted). SkipsHoles w.origin.history x.start x.filters (chain c.sent)) w.wanted w.right.skips)

pub reading-grows : (w v : World) (a : AskerId) (attempt name : Stamp) (next : ℕ) (g : History) (want : Origin) → WorldGrows w v →
    ((n : List ℕ) (k : ℕ) → ShardOk (w.shard n k)) → IsReading w a attempt name next g want → IsReading v a attempt name next g want
reading-grows w v a attempt name next g want wg ok b =
    let n = node_or a.node want.node in
    let k = shard_of want.stream in
    let later = (wg.shards n k).ever b.c b.ever in
    let l : Later b.c later.0 = later.2 in
    let r = read-on (w.shard n k) (v.shard n k) b.c later.0 b.origin (wg.shards n k) l b.reads in
    let skips = skips-of (w.shard n k) b.c b.origin (ok n k) b.ever b.reads in
    let rise : NumbersRise r.0.history.entries = (wg.shards n k).rise later.0.stream later.0.incarnation r.0 r.1 in
    let same = before-same b.c later.0 next l b.sent in
    let starts : later.0.wanted.start ≡ b.c.wanted.start = ap (λ (x : Wanted). x.start) l.wanted in
    record {
      c = later.0;
      ever = later.1;
      named = l.name ∙ b.named;
      stream = l.stream ∙ b.stream;
      asker = ap (λ (x : Wanted). x.asker) l.wanted ∙ b.asker;
      attempt_is = ap (λ (x : Wanted). x.attempt) l.wanted ∙ b.attempt_is;
      filters = ap (λ (x : Wanted). x.filters) l.wanted ∙ b.filters;
      to = b.to;
      is_bound = b.is_bound;
      incarnation = l.incarnation ∙ b.incarnation;
      sent = (let q = chain-length b.c later.0 l in let p = b.sent in omega arith);
      begins = subst (λ x. x ≤ suc (reached (copy_of a g want))) (sym starts) b.begins;
      origin = r.0;
      reads = r.1;
      none_left = λ s m from to e st.
          let from' : b.c.wanted.start ≤ s = subst (λ x. x ≤ s) starts from in
          let to' : s ≤ before_next b.c next = subst (λ x. s ≤ x) same to in
          elim (before-reached b.origin.history b.c next s skips b.sent from' to') [
            | inl le ↦ (elim (b.none_left s m from' to' (put-back_on b.origin.history r.0.history s m r.2.history rise le e) st) [ inl q ↦ inl q | inr q ↦ inr (IsHole-on b.origin.history r.0.history s r.2.history rise q) ])
            | inr z ↦ (let p = put-positive r.0.history.entries s m rise e in absurd (omega arith))
          ];
      nothing_past = λ s q. subst (λ x. s ≤ x) (sym same) (b.nothing_past s q);
    }

pub phase-grows : (w v : World) (a : AskerId) (g : History) (want : Origin) (p : Phase) → WorldGrows w v →
    ((n : List ℕ) (k : ℕ) → ShardOk (w.shard n k)) → PhaseRight w a g want p → PhaseRight v a g want p
phase-grows w v a g want Idle wg ok q = q
phase-grows w v a g want (Asking attempt since) wg ok q = record { ask = wg.bag _ q.ask }
phase-grows w v a g want (Bound attempt name next heard) wg ok q = reading-grows w v a attempt name next g want wg ok q
phase-grows w v a g want (Stopped kept seen) wg ok q = q

-- ---- entries that a copy passes over

-- the entry is none of the copy's index, and where the copy is a mirror it is no Put
pub record PassesCopy (c : Copies) (i : ℕ) (e : Entry) : Type 0 where
  pub passes : PassesBy i e
  pub mirror : (o : Origin) → c ≡ Mirror o → IsNoPut e × PassesBy 0 e

-- the history fits, with the entry and without it
pub record BothFit (g : History) (e : Entry) : Type 0 where
  pub fit : AllFit g
  pub more : AllFit (with_entry g e)

point-passes : (c : Copies) (i : ℕ) (want : Origin) (g : History) (e : Entry) → BothFit g e → PassesCopy c i e → point c i want (with_entry g e) ≡ point c i want g
point-passes Nothing i want g e f p = refl
point-passes (Mirror o) i want g e f p = let m = p.mirror o refl in
    ap (λ x. max x (start_by (bound 0 (g.entries ++ e ∷ [])) want.start - 1)) (last-passes g.entries e m.0)
    ∙ ap (λ (b : Option BoundTo). max (last g.entries) (start_by b want.start - 1)) (bound-passes 0 g.entries e m.1)
point-passes (Sources os) i want g e f p =
    ap (λ (o : Option ℕ). mark_or o (copy_start i (with_entry g e) - 1)) (last_mark-passes i g.entries e p.passes)
    ∙ ap (λ x. mark_or (last_mark i g.entries) (x - 1)) (start-passes i g e f.fit f.more p.passes)

pub reached-passes : (a : AskerId) (g : History) (want : Origin) (e : Entry) → BothFit g e → PassesCopy g.config.copies a.index e → reached (copy_of a (with_entry g e) want) ≡ reached (copy_of a g want)
reached-passes a g want e f p = reached-is a (with_entry g e) want f.more ∙ (point-passes g.config.copies a.index want g e f p ∙ sym (reached-is a g want f.fit))

stored-back : (c : Copies) (i : ℕ) (g : History) (e : Entry) (s : ℕ) → PassesCopy c i e → HasStored c i (with_entry g e) s → HasStored c i g s
stored-back Nothing i g e s p q = q
stored-back (Mirror o) i g e s p q = (q.0, sym (put-passes g.entries e s (p.mirror o refl).0) ∙ q.1)
stored-back (Sources os) i g e s p q = subst (λ (l : List Stored). Contains (map (λ (r : Stored). r.mark) l) s) (stored-passes i g.entries e p.passes) q

stored-forth : (c : Copies) (i : ℕ) (g : History) (e : Entry) (s : ℕ) → PassesCopy c i e → HasStored c i g s → HasStored c i (with_entry g e) s
stored-forth Nothing i g e s p q = q
stored-forth (Mirror o) i g e s p q = (q.0, put-passes g.entries e s (p.mirror o refl).0 ∙ q.1)
stored-forth (Sources os) i g e s p q = subst (λ (l : List Stored). Contains (map (λ (r : Stored). r.mark) l) s) (sym (stored-passes i g.entries e p.passes)) q

asks-passes : (a : AskerId) (g : History) (want : Origin) (e : Entry) (o : Option BoundTo) → BothFit g e → PassesCopy g.config.copies a.index e → asks_from (copy_of a (with_entry g e) want) o ≡ asks_from (copy_of a g want) o
asks-passes a g want e None f p = refl
asks-passes a g want e (Some to) f p = ap (λ x. Seq (x + 1)) (reached-passes a g want e f p)

pub ask_start-passes : (a : AskerId) (g : History) (want : Origin) (e : Entry) → BothFit g e → PassesCopy g.config.copies a.index e → ask_start (copy_of a (with_entry g e) want) ≡ ask_start (copy_of a g want)
ask_start-passes a g want e f p =
    ask_start-is a (with_entry g e) want
    ∙ (ap (λ (o : Option BoundTo). asks_from (copy_of a (with_entry g e) want) o) (bound-passes a.index g.entries e p.passes)
    ∙ (asks-passes a g want e (bound a.index g.entries) f p
    ∙ sym (ask_start-is a g want)))

pub phase-passes : (w : World) (a : AskerId) (g : History) (want : Origin) (e : Entry) (p : Phase) → BothFit g e → PassesCopy g.config.copies a.index e → PhaseRight w a g want p → PhaseRight w a (with_entry g e) want p
phase-passes w a g want e Idle both f q = q
phase-passes w a g want e (Asking attempt since) both f q = record { ask = subst (λ (x : Start). Contains w.bag (Ask a attempt (node_or a.node want.node) want.stream x (filters_of want))) (sym (ask_start-passes a g want e both f)) q.ask }
phase-passes w a g want e (Bound attempt name next heard) both f b = record {
  c = b.c;
  ever = b.ever;
  named = b.named;
  stream = b.stream;
  asker = b.asker;
  attempt_is = b.attempt_is;
  filters = b.filters;
  to = b.to;
  is_bound = bound-passes a.index g.entries e f.passes ∙ b.is_bound;
  incarnation = b.incarnation;
  sent = b.sent;
  begins = subst (λ x. b.c.wanted.start ≤ suc x) (sym (reached-passes a g want e both f)) b.begins;
  origin = b.origin;
  reads = b.reads;
  none_left = λ s m from to x st. elim (b.none_left s m from to x st) [ inl q ↦ inl (stored-forth g.config.copies a.index g e s f q) | inr q ↦ inr q ];
  nothing_past = λ s q. b.nothing_past s (stored-back g.config.copies a.index g e s f q);
}
phase-passes w a g want e (Stopped kept seen) both f q = q
