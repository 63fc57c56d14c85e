-- What a copy's own decisions leave.
use Rattle.std.proofs.Common.{◌≡◌, ℕ, zero, suc, ◌+◌, ◌-◌, ◌<◌, ◌≤◌, max, Bool, true, false, cond, leb, List, [], ◌∷◌, ◌++◌, Option, Some, None, refl, sym, ap, ◌∙◌, subst, arith, ◌⊎◌, inl, inr, append-nil}
use Rattle.std.specs.Prelude.{Contains, slice_get, All}
use Rattle.std.proofs.lemmas.Bool.{cases_lt, cases_eq, eq-eqb}
use Rattle.std.proofs.lemmas.List.Elements.{Contains-append_left, Contains-append_right, Contains-append_cases}
use Rattle.nats_text.specs.declared.message.Message.{Message}
use Rattle.nats_text.specs.declared.message.Stamp.{Stamp}
use Rattle.nats_text.specs.declared.message.Start.{Start}
use Rattle.nats_text.specs.declared.message.Start.TheVariants.{Seq, Time}
use Rattle.nats_text.specs.declared.origin.Origin.{Origin}
use Rattle.js_wire.specs.declared.packet.AskerId.{AskerId}
use Rattle.js_wire.specs.declared.packet.Packet.TheVariants.{Ask, Answer}
use Rattle.stream_fold.specs.declared.config.Copies.{Copies}
use Rattle.stream_fold.specs.declared.config.Copies.TheVariants.{Nothing, Mirror, Sources}
use Rattle.stream_fold.specs.declared.entry.BoundTo.{BoundTo}
use Rattle.stream_fold.specs.declared.entry.Entry.{Entry}
use Rattle.stream_fold.specs.declared.entry.Entry.TheVariants.{Put, Del, Purge, Expire, Bind as BindEntry, Limits}
use Rattle.stream_fold.specs.declared.entry.Numbered.{Numbered}
use Rattle.stream_fold.specs.Checking.{config_fault}
use Rattle.stream_fold.specs.Copying.{bound, origin_named, copy_start, start_by, marks, mark, mark_or, last_mark, stored, number_since, Stored, IsVia, IsRightStart, MirrorHolds, SourceHolds, NumbersFollow, AreHolesFrom, AreHolesBetween}
use Rattle.stream_fold.specs.Fits.{AllFit}
use Rattle.stream_fold.specs.Histories.{History, with_entry, either, put, put_by, last, number_put, kept, NumbersRise}
use Rattle.stream_fold.specs.RowLists.{Rises, EachRow}
use Rattle.stream_fold.specs.Sourcing.{Route, via, sourced, route}
use Rattle.stream_fold.proofs.Folds.{last-push}
use Rattle.stream_fold.proofs.Growth.{put-below, put-append, RiseFrom-append}
use Rattle.stream_fold.proofs.KeptRows.{put-none_above, kept-put, put-positive}
use Rattle.push_consumer.specs.Chains.{SkipsHoles, chain}
use Rattle.replica_ask.specs.Filters.{filters_of}
use Rattle.source_core.specs.Decisions.{at_time}
use Rattle.shard_machine.specs.Logs.{Made}
use Rattle.shard_machine.specs.Views.{node_or, reached, ask_start}
use Rattle.run_soundness.specs.Shards.{Consumer, IsRead}
use Rattle.run_soundness.specs.Worlds.{World, shard_of}
use Rattle.run_soundness.specs.Soundness.{before_next, or_zero, IsToStore, HasStored, IsAwaiting, IsReading, Holds, HoldsNothing, BagRight, copy_of}
use Rattle.run_soundness.proofs.Entries.{either_none, bound-push, bound-binds, bound-passes, last_mark-push, stored-push, marks-store, marks-empty, last-none, put-passes, put-others, last-passes, start-passes, start-positive, start-is, point, reached-is, ask_start-is, asks_from, mark-top}
use Rattle.run_soundness.proofs.Growing.{get-some}
use Rattle.run_soundness.proofs.Deliveries.{place_of, rises-low, rises-order, get-lt, left-out}
use Rattle.run_soundness.specs.Below.{Laws}
use Rattle.run_soundness.proofs.Lists.{Contains-one, Contains-none, Contains-head}
use Rattle.run_soundness.proofs.Phases.{some_same, BothFit}
use Rattle.run_soundness.proofs.Wanting.{mirror-origin}

-- The entry stores the message of this number, and nothing else.
pub record StoresAs (c : Copies) (i : ℕ) (want : Origin) (g : History) (e : Entry) (seq : ℕ) : Type 0 where
  pub forth : (s : ℕ) → HasStored c i g s → HasStored c i (with_entry g e) s
  pub own : HasStored c i (with_entry g e) seq
  pub back : (s : ℕ) → HasStored c i (with_entry g e) s → HasStored c i g s ⊎ (s ≡ seq)
  pub no_bind : bound i (g.entries ++ e ∷ []) ≡ bound i g.entries
  pub point : point c i want g ≤ point c i want (with_entry g e)

before-below : (c : Consumer) (k seq : ℕ) → Rises c.wanted.start (chain c.sent) → slice_get (chain c.sent) k ≡ Some seq → before_next c (suc k) ≤ seq
before-below c zero seq r e = let q = rises-low c.wanted.start (chain c.sent) zero seq r e in omega arith
before-below c (suc j) seq r e =
    let w = get-some (chain c.sent) j (let q = get-lt (chain c.sent) (suc j) seq e in omega arith) in
    let p = rises-order c.wanted.start (chain c.sent) j (suc j) w.0 seq r w.1 e (omega arith) in
    let is : before_next c (suc (suc j)) ≡ w.0 = ap or_zero w.1 in omega arith

-- what is known of a bound asker and of the member of its consumer's chain that comes next
pub record NextMember (w : World) (a : AskerId) (attempt name : Stamp) (k seq : ℕ) (m : Message) (g : History) (want : Origin) : Type 0 where
  pub b : IsReading w a attempt name (suc k) g want
  pub skips : SkipsHoles b.origin.history b.c.wanted.start b.c.wanted.filters (chain b.c.sent)
  pub rise : NumbersRise b.origin.history.entries
  pub faultless : config_fault g.config ≡ None
  pub origin : origin_named a.index g.config.copies ≡ Some want
  pub member : slice_get (chain b.c.sent) k ≡ Some seq
  pub there : put seq b.origin.history.entries ≡ Some m

pub reading-stores : (w : World) (a : AskerId) (attempt name : Stamp) (k seq : ℕ) (m : Message) (e : Entry) (g : History) (want : Origin) → NextMember w a attempt name k seq m g want → BothFit g e →
    StoresAs g.config.copies a.index want g e seq → IsReading w a attempt name (suc (suc k)) (with_entry g e) want
reading-stores w a attempt name k seq m e g want n both st =
    let b = n.b in
    let is : before_next b.c (suc (suc k)) ≡ seq = ap or_zero n.member in
    record {
      c = b.c;
      ever = b.ever;
      named = b.named;
      stream = b.stream;
      asker = b.asker;
      attempt_is = b.attempt_is;
      filters = b.filters;
      to = b.to;
      is_bound = st.no_bind ∙ b.is_bound;
      incarnation = b.incarnation;
      sent = (let q = get-lt (chain b.c.sent) k seq n.member in omega arith);
      begins = (let p = st.point in let q = b.begins in let x = reached-is a g want both.fit in let y = reached-is a (with_entry g e) want both.more in omega arith);
      origin = b.origin;
      reads = b.reads;
      none_left = λ s x from to y q. elim (cases_lt s seq) [
        | inl lt ↦ (elim (left-out w a attempt name k seq g want b n.skips n.faultless n.origin n.member s x from lt y q) [ inl has ↦ inl (st.forth s has) | inr hole ↦ inr hole ])
        | inr ge ↦ (let same : seq ≡ s = (let to' : s ≤ seq = subst (λ z. s ≤ z) is to in omega arith) in inl (subst (λ z. HasStored g.config.copies a.index (with_entry g e) z) same st.own))
      ];
      nothing_past = λ s q. subst (λ z. s ≤ z) (sym is) (elim (st.back s q) [
        | inl old ↦ (let p = b.nothing_past s old in let r = before-below b.c k seq n.skips.rises n.member in omega arith)
        | inr own ↦ (omega arith)
      ]);
    }

pub reading-skips : (w : World) (a : AskerId) (attempt name : Stamp) (k seq : ℕ) (m : Message) (g : History) (want : Origin) → NextMember w a attempt name k seq m g want →
    (IsToStore g.config.copies want m seq → ⊥) → IsReading w a attempt name (suc (suc k)) g want
reading-skips w a attempt name k seq m g want n none =
    let b = n.b in
    let is : before_next b.c (suc (suc k)) ≡ seq = ap or_zero n.member in
    record {
      c = b.c;
      ever = b.ever;
      named = b.named;
      stream = b.stream;
      asker = b.asker;
      attempt_is = b.attempt_is;
      filters = b.filters;
      to = b.to;
      is_bound = b.is_bound;
      incarnation = b.incarnation;
      sent = (let q = get-lt (chain b.c.sent) k seq n.member in omega arith);
      begins = b.begins;
      origin = b.origin;
      reads = b.reads;
      none_left = λ s x from to y q. elim (cases_lt s seq) [
        | inl lt ↦ left-out w a attempt name k seq g want b n.skips n.faultless n.origin n.member s x from lt y q
        | inr ge ↦ (let same : s ≡ seq = (let to' : s ≤ seq = subst (λ z. s ≤ z) is to in omega arith) in
            let mm : x ≡ m = some_same _ x m (sym (ap (λ z. put z b.origin.history.entries) same) ∙ y) n.there in
            absurd (none (subst (λ (z : Message). IsToStore g.config.copies want z seq) mm (subst (λ z. IsToStore g.config.copies want x z) same q))))
      ];
      nothing_past = λ s q. subst (λ z. s ≤ z) (sym is) (let p = b.nothing_past s q in let r = before-below b.c k seq n.skips.rises n.member in omega arith);
    }

-- ---- what a mirror stores

put-own : (es : List Entry) (n : ℕ) (m : Message) → last es < n → put n (es ++ Put n m None ∷ []) ≡ Some m
put-own es n m lt =
    put-append es (Put n m None ∷ []) n
    ∙ (ap (λ (o : Option Message). either o (put n (Put n m None ∷ []))) (put-none_above es n lt)
    ∙ ap (λ t. either (cond t (Some m) None) None) (eq-eqb n n refl))

pub stores-mirror : (o : Origin) (i : ℕ) (want : Origin) (g : History) (seq : ℕ) (m : Message) → last g.entries < seq → StoresAs (Mirror o) i want g (Put seq m None) seq
stores-mirror o i want g seq m lt = record {
  forth = λ s q. (q.0, put-others g.entries seq m None s (λ e. (let p = put-below g.entries s q.0 q.1 in omega arith)) ∙ q.1);
  own = (m, put-own g.entries seq m lt);
  back = λ s q. elim (cases_eq s seq) [ inl e ↦ inr e | inr f ↦ inl (q.0, sym (put-others g.entries seq m None s f) ∙ q.1) ];
  no_bind = bound-passes i g.entries (Put seq m None) refl;
  point = (let p = last-push g.entries (Put seq m None) in let st = ap (λ (b : Option BoundTo). start_by b want.start) (bound-passes 0 g.entries (Put seq m None) refl) in omega arith);
}

pub mirror-stores : Laws → (w : World) (a : AskerId) (attempt name : Stamp) (k seq : ℕ) (m : Message) (o : Origin) (g : History) (want : Origin) (n : NextMember w a attempt name k seq m g want) → BothFit g (Put seq m None) →
    g.config.copies ≡ Mirror o → point (Mirror o) a.index want g < seq → MirrorHolds n.b.origin.history g.entries (copy_start a.index g) →
    MirrorHolds n.b.origin.history (g.entries ++ Put seq m None ∷ []) (copy_start a.index (with_entry g (Put seq m None)))
mirror-stores laws w a attempt name k seq m o g want n both is above mh =
    let zero_is : a.index ≡ 0 = (mirror-origin o want a.index (subst (λ (c : Copies). origin_named a.index c ≡ Some want) is n.origin)).1 in
    let st : copy_start a.index g ≡ start_by (bound 0 g.entries) want.start = start-is a.index g want both.fit n.origin ∙ ap (λ j. start_by (bound j g.entries) want.start) zero_is in
    let pos = start-positive a.index g in
    let r : reached (copy_of a g want) ≡ point (Mirror o) a.index want g = reached-is a g want both.fit ∙ ap (λ (c : Copies). point c a.index want g) is in
    let from = n.b.begins in
    let holes : AreHolesFrom n.b.origin.history (max (copy_start a.index g) (last g.entries + 1)) seq = λ s x lo lt e.
    elim (left-out w a attempt name k seq g want n.b n.skips n.faultless n.origin n.member s x (omega arith) lt e (subst (λ (c : Copies). IsToStore c want x s) (sym is) tt)) [
      | inl has ↦ (let q : HasStored (Mirror o) a.index g s = subst (λ (c : Copies). HasStored c a.index g s) is has in let p = put-below g.entries s q.0 q.1 in absurd (omega arith))
      | inr hole ↦ hole
    ] in
    subst (λ x. MirrorHolds n.b.origin.history (g.entries ++ Put seq m None ∷ []) x) (sym (start-passes a.index g (Put seq m None) both.fit both.more refl))
    (laws.mirrors_store n.b.origin.history g.entries (copy_start a.index g) seq m n.rise (omega arith) (omega arith) holes n.there mh)

-- ---- what a source stores

pub stores-source : (os : List Origin) (i : ℕ) (want : Origin) (g : History) (n seq : ℕ) (m : Message) → mark i g < seq → StoresAs (Sources os) i want g (Put n m (Some (record { index = i; seq = seq }))) seq
stores-source os i want g n seq m lt =
    let mk = marks-store i g.entries n seq m in
    record {
      forth = λ s q. subst (λ (l : List ℕ). Contains l s) (sym mk) (Contains-append_left (marks i g.entries) (seq ∷ []) s q);
      own = subst (λ (l : List ℕ). Contains l seq) (sym mk) (Contains-append_right (marks i g.entries) (seq ∷ []) seq (Contains-head seq []));
      back = λ s q. elim (Contains-append_cases (marks i g.entries) (seq ∷ []) s (subst (λ (l : List ℕ). Contains l s) mk q)) [ inl old ↦ inl old | inr own ↦ inr (sym (Contains-one seq s own)) ];
      no_bind = bound-push i g.entries (Put n m (Some (record { index = i; seq = seq }))) ∙ either_none (bound i g.entries);
      point = (let p : last_mark i (g.entries ++ Put n m (Some (record { index = i; seq = seq })) ∷ []) ≡ Some seq =
          last_mark-push i g.entries (Put n m (Some (record { index = i; seq = seq }))) ∙ ap (λ t. either (cond t (Some seq) None) (last_mark i g.entries)) (eq-eqb i i refl) in
          let q : mark i (with_entry g (Put n m (Some (record { index = i; seq = seq })))) ≡ seq = ap (λ (o : Option ℕ). mark_or o (copy_start i (with_entry g (Put n m (Some (record { index = i; seq = seq })))) - 1)) p in omega arith);
    }

via-time : (want : Origin) (m v : Message) (s : ℕ) (o : Option Route) → sourced want m s o ≡ Some v → v.time ≡ m.time
via-time want m v s None e = absurd (cc)
via-time want m v s (Some r) e = let z : Some _ ≡ Some v = e in sym (some-time _ v z)
  where
    some-time : (x y : Message) → Some x ≡ Some y → x.time ≡ y.time
    some-time x y q = let same : x ≡ y = cc in ap (λ (z : Message). z.time) same

with-time : (v : Message) (t : ℕ) → v.time ≡ t → v ≡ record v { time = t }
with-time v t e = λ i. record { subject = v.subject; headers = v.headers; payload = v.payload; time = e i }

pub source-stores : Laws → (w : World) (a : AskerId) (attempt name : Stamp) (k seq t : ℕ) (m v : Message) (os : List Origin) (g : History) (want : Origin) (n : NextMember w a attempt name k seq m g want) → AllFit g →
    g.config.copies ≡ Sources os → mark a.index g < seq → via want m seq ≡ Some v → SourceHolds want n.b.origin.history g a.index →
    SourceHolds want n.b.origin.history (with_entry g (Put (last g.entries + 1) (at_time t v) (Some (record { index = a.index; seq = seq })))) a.index
source-stores laws w a attempt name k seq t m v os g want n fit is above vi sh =
    let r : reached (copy_of a g want) ≡ mark a.index g = reached-is a g want fit ∙ ap (λ (c : Copies). point c a.index want g) is in
    let from = n.b.begins in
    let holes : AreHolesBetween want n.b.origin.history (mark a.index g) seq = λ s x y lo lt e f.
    elim (left-out w a attempt name k seq g want n.b n.skips n.faultless n.origin n.member s x (omega arith) lt e (subst (λ (c : Copies). IsToStore c want x s) (sym is) (y, f))) [
      | inl has ↦ (let q : Contains (marks a.index g.entries) s = subst (λ (c : Copies). HasStored c a.index g s) is has in let p = mark-top a.index g s sh.rise q in absurd (omega arith))
      | inr hole ↦ hole
    ] in
    laws.sources_store want n.b.origin.history g a.index seq (at_time t v) above holes
    (record { message = m; there = n.there; made = vi ∙ ap Some (with-time v m.time (via-time want m v seq (route want.filter want.maps m.subject) vi)) }) sh

-- ---- answers

-- What an Answer to the present attempt tells.
pub record Answered (w : World) (a : AskerId) (attempt name : Stamp) (inc from : ℕ) (g : History) (want : Origin) : Type 0 where
  pub c : Consumer
  pub ever : Contains (w.shard (node_or a.node want.node) (shard_of want.stream)).ever c
  pub named : c.name ≡ name
  pub stream : c.stream ≡ want.stream
  pub asker : c.wanted.asker ≡ a
  pub attempt_is : c.wanted.attempt ≡ attempt
  pub filters : c.wanted.filters ≡ filters_of want
  pub incarnation : c.incarnation ≡ inc
  pub start_is : c.wanted.start ≡ from
  pub origin : Made
  pub reads : IsRead (w.shard (node_or a.node want.node) (shard_of want.stream)).log c origin
  pub start : IsRightStart origin.history (ask_start (copy_of a g want)) c.wanted.start

pub answered : (w : World) (bag : BagRight w) (a : AskerId) (attempt name : Stamp) (inc from : ℕ) (g : History) (want : Origin) → IsAwaiting w a attempt g want →
    Contains w.bag (Answer a attempt name inc from) → Answered w a attempt name inc from g want
answered w bag a attempt name inc from g want asking q =
    let n = node_or a.node want.node in
    let s = bag.says _ q refl in
    let c = s.2 in
    let v = s.4 in
    let as' = bag.asked s.0 s.1 c s.3 in
    let ask' = subst (λ (x : AskerId). Contains w.bag (Ask x attempt s.0 c.stream as'.from c.wanted.filters)) v.1 (subst (λ (x : Stamp). Contains w.bag (Ask c.wanted.asker x s.0 c.stream as'.from c.wanted.filters)) v.2 as'.ask) in
    let p = place_of a attempt n s.0 want.stream c.stream (ask_start (copy_of a g want)) as'.from (filters_of want) c.wanted.filters
    (bag.one_ask a attempt n s.0 want.stream c.stream (ask_start (copy_of a g want)) as'.from (filters_of want) c.wanted.filters asking.ask ask') in
    let at_k : s.1 ≡ shard_of want.stream = as'.place ∙ ap shard_of (sym p.1) in
    record {
      c = c;
      ever = subst (λ x. Contains (w.shard x (shard_of want.stream)).ever c) (sym p.0) (subst (λ x. Contains (w.shard s.0 x).ever c) at_k s.3);
      named = v.0;
      stream = sym p.1;
      asker = v.1;
      attempt_is = v.2;
      filters = sym p.3;
      incarnation = v.3;
      start_is = v.4;
      origin = as'.origin;
      reads = subst (λ x. IsRead (w.shard x (shard_of want.stream)).log c as'.origin) (sym p.0) (subst (λ x. IsRead (w.shard s.0 x).log c as'.origin) at_k as'.reads);
      start = subst (λ (x : Start). IsRightStart as'.origin.history x c.wanted.start) (sym p.2) as'.start;
    }

since-positive : (moment end : ℕ) (rows : List Numbered) → 1 ≤ end → EachRow (λ row. 1 ≤ row.seq) rows → 1 ≤ number_since moment rows end
since-positive moment end [] le h = le
since-positive moment end (row ∷ rows) le h = since-by (leb moment row.message.time) row.seq (number_since moment rows end) h.0 (since-positive moment end rows le h.1)
  where
    since-by : (t : Bool) (x y : ℕ) → 1 ≤ x → 1 ≤ y → 1 ≤ cond t x y
    since-by true x y p q = p
    since-by false x y p q = q

rows-positive : (h : History) → NumbersRise h.entries → (rows : List Numbered) → EachRow (λ row. put row.seq h.entries ≡ Some row.message) rows → EachRow (λ row. 1 ≤ row.seq) rows
rows-positive h n [] q = tt
rows-positive h n (row ∷ rows) q = (put-positive h.entries row.seq row.message n q.0, rows-positive h n rows q.1)

-- a right start is at least 1
pub right-start-positive : (h : History) (from : Start) (start : ℕ) → NumbersRise h.entries → IsRightStart h from start → 1 ≤ start
right-start-positive h (Seq n) start rise q = omega arith
right-start-positive h (Time moment) start rise q =
    let early : History = record { config = h.config; entries = q.front } in
    let n : NumbersRise early.entries = (RiseFrom-append q.front q.rest 0 (subst NumbersRise q.whole rise)).0 in
    let p = since-positive moment (last q.front + 1) (kept early) (omega arith) (rows-positive early n (kept early) (kept-put early n)) in
    let is = q.is in omega arith

-- bound by an Answer: nothing was delivered yet
begins-with : (w : World) (a : AskerId) (attempt name : Stamp) (inc from : ℕ) (g k : History) (want : Origin) (d : Answered w a attempt name inc from g want) (to : BoundTo) → 1 ≤ d.c.wanted.start →
    bound a.index k.entries ≡ Some to → inc ≡ to.incarnation → d.c.wanted.start ≤ suc (reached (copy_of a k want)) →
    ((s : ℕ) → HasStored k.config.copies a.index k s → s ≤ d.c.wanted.start - 1) →
    IsReading w a attempt name 1 k want
begins-with w a attempt name inc from g k want d to pos bo same begins past = record {
  c = d.c;
  ever = d.ever;
  named = d.named;
  stream = d.stream;
  asker = d.asker;
  attempt_is = d.attempt_is;
  filters = d.filters;
  to = to;
  is_bound = bo;
  incarnation = d.incarnation ∙ same;
  sent = omega arith;
  begins = begins;
  origin = d.origin;
  reads = d.reads;
  none_left = λ s m lo hi e st. absurd (omega arith);
  nothing_past = past;
}

pub ask_start-bound : (a : AskerId) (g : History) (want : Origin) (to : BoundTo) → bound a.index g.entries ≡ Some to → ask_start (copy_of a g want) ≡ Seq (reached (copy_of a g want) + 1)
ask_start-bound a g want to e = ask_start-is a g want ∙ ap (asks_from (copy_of a g want)) e

pub ask_start-free : (a : AskerId) (g : History) (want : Origin) → bound a.index g.entries ≡ None → ask_start (copy_of a g want) ≡ want.start
ask_start-free a g want e = ask_start-is a g want ∙ ap (asks_from (copy_of a g want)) e

-- bound again, where the copy was
pub rebinds : (w : World) (a : AskerId) (attempt name : Stamp) (inc from : ℕ) (g : History) (want : Origin) (d : Answered w a attempt name inc from g want) (to : BoundTo) →
    bound a.index g.entries ≡ Some to → inc ≡ to.incarnation → ((s : ℕ) → HasStored g.config.copies a.index g s → s ≤ reached (copy_of a g want)) → IsReading w a attempt name 1 g want
rebinds w a attempt name inc from g want d to bo same sp =
    let q : d.c.wanted.start ≡ max 1 (reached (copy_of a g want) + 1) = subst (λ (x : Start). IsRightStart d.origin.history x d.c.wanted.start) (ask_start-bound a g want to bo) d.start in
    begins-with w a attempt name inc from g g want d to (omega arith) bo same (omega arith) (λ s h. let p = sp s h in omega arith)

-- ---- the first Bind

start-binds : (a : AskerId) (inc from : ℕ) (g : History) (want : Origin) → AllFit (with_entry g (BindEntry a.index inc from)) → origin_named a.index g.config.copies ≡ Some want → bound a.index g.entries ≡ None →
    copy_start a.index (with_entry g (BindEntry a.index inc from)) ≡ max 1 from
start-binds a inc from g want more o f = start-is a.index (with_entry g (BindEntry a.index inc from)) want more o ∙ ap (λ (b : Option BoundTo). start_by b want.start) (bound-binds a.index inc from g.entries f)

stored-binds : (i inc from : ℕ) (g : History) → stored i (g.entries ++ BindEntry i inc from ∷ []) ≡ stored i g.entries
stored-binds i inc from g = stored-push i g.entries (BindEntry i inc from) ∙ append-nil (stored i g.entries)

begin-point : (c : Copies) (a : AskerId) (want : Origin) (inc from : ℕ) (g : History) → g.config.copies ≡ c → AllFit (with_entry g (BindEntry a.index inc from)) → origin_named a.index c ≡ Some want → bound a.index g.entries ≡ None → HoldsNothing c g a.index →
    from ≤ suc (point c a.index want (with_entry g (BindEntry a.index inc from)))
begin-point Nothing a want inc from g is more o f hn = absurd (let z : None ≡ Some want = o in cc)
begin-point (Mirror x) a want inc from g is more o f hn =
    let z : a.index ≡ 0 = (mirror-origin x want a.index o).1 in
    let st : bound 0 (g.entries ++ BindEntry a.index inc from ∷ []) ≡ Some (record { incarnation = inc; start = from }) = subst (λ j. bound j (g.entries ++ BindEntry a.index inc from ∷ []) ≡ Some (record { incarnation = inc; start = from })) z (bound-binds a.index inc from g.entries f) in
    let q : start_by (bound 0 (g.entries ++ BindEntry a.index inc from ∷ [])) want.start ≡ max 1 from = ap (λ (b : Option BoundTo). start_by b want.start) st in omega arith
begin-point (Sources os) a want inc from g is more o f hn =
    let st = start-binds a inc from g want more (subst (λ (c : Copies). origin_named a.index c ≡ Some want) (sym is) o) f in
    let lm : last_mark a.index (g.entries ++ BindEntry a.index inc from ∷ []) ≡ None = last-none a.index (g.entries ++ BindEntry a.index inc from ∷ []) (stored-binds a.index inc from g ∙ hn) in
    let mk : mark a.index (with_entry g (BindEntry a.index inc from)) ≡ copy_start a.index (with_entry g (BindEntry a.index inc from)) - 1 = ap (λ (q : Option ℕ). mark_or q (copy_start a.index (with_entry g (BindEntry a.index inc from)) - 1)) lm in
    omega arith

no-stored : (c : Copies) (i inc from : ℕ) (g : History) (s : ℕ) → HoldsNothing c g i → HasStored c i (with_entry g (BindEntry i inc from)) s → ⊥
no-stored Nothing i inc from g s hn q = q
no-stored (Mirror o) i inc from g s hn q = let z : None ≡ Some q.0 = sym (put-passes g.entries (BindEntry i inc from) s tt ∙ hn s) ∙ q.1 in cc
no-stored (Sources os) i inc from g s hn q = Contains-none s (subst (λ (l : List ℕ). Contains l s) (marks-empty i (g.entries ++ BindEntry i inc from ∷ []) (stored-binds i inc from g ∙ hn)) q)

pub binds : (w : World) (a : AskerId) (attempt name : Stamp) (inc from : ℕ) (g : History) (want : Origin) (d : Answered w a attempt name inc from g want) → NumbersRise d.origin.history.entries → AllFit (with_entry g (BindEntry a.index inc from)) →
    origin_named a.index g.config.copies ≡ Some want → bound a.index g.entries ≡ None → HoldsNothing g.config.copies g a.index →
    IsReading w a attempt name 1 (with_entry g (BindEntry a.index inc from)) want
binds w a attempt name inc from g want d rise more o f hn =
    begins-with w a attempt name inc from g (with_entry g (BindEntry a.index inc from)) want d (record { incarnation = inc; start = from }) (right-start-positive d.origin.history (ask_start (copy_of a g want)) d.c.wanted.start rise d.start)
    (bound-binds a.index inc from g.entries f) refl
    (let p = begin-point g.config.copies a want inc from g refl more o f hn in let e = d.start_is in let r = reached-is a (with_entry g (BindEntry a.index inc from)) want more in omega arith)
    (λ s q. absurd (no-stored g.config.copies a.index inc from g s hn q))

either-has : (a b : Option Message) (y : Message) → b ≡ Some y → (x : Message) × (either a b ≡ Some x)
either-has None b y e = (y, e)
either-has (Some x) b y e = (x, refl)

put_by-number : (e : Entry) → (number_put e ≡ 0) ⊎ ((m : Message) × (put_by (number_put e) e ≡ Some m))
put_by-number (Put seq m k) = inr (m, ap (λ t. cond t (Some m) None) (eq-eqb seq seq refl))
put_by-number (Del seq) = inl refl
put_by-number (Purge p b) = inl refl
put_by-number (Expire n) = inl refl
put_by-number (BindEntry i c s) = inl refl
put_by-number (Limits c) = inl refl

last-put : (es : List Entry) → (last es ≡ 0) ⊎ ((m : Message) × (put (last es) es ≡ Some m))
last-put [] = inl refl
last-put (e ∷ es) = elim (last-put es) [
  | inl z ↦ (elim (put_by-number e) [
    | inl n ↦ inl (omega arith)
    | inr p ↦ inr (p.0, (let same : max (number_put e) (last es) ≡ number_put e = omega arith in subst (λ s. either (put_by s e) (put s es) ≡ Some p.0) (sym same) (ap (λ (x : Option Message). either x (put (number_put e) es)) p.1)))
  ])
  | inr q ↦ (elim (cases_lt (last es) (number_put e)) [
    | inl lt ↦ (elim (put_by-number e) [
      | inl n ↦ absurd (omega arith)
      | inr p ↦ inr (p.0, (let same : max (number_put e) (last es) ≡ number_put e = omega arith in subst (λ s. either (put_by s e) (put s es) ≡ Some p.0) (sym same) (ap (λ (x : Option Message). either x (put (number_put e) es)) p.1)))
    ])
    | inr ge ↦ (let same : max (number_put e) (last es) ≡ last es = omega arith in
        let r = either-has (put_by (last es) e) (put (last es) es) q.0 q.1 in
        inr (r.0, subst (λ s. either (put_by s e) (put s es) ≡ Some r.0) (sym same) r.1))
  ])
]

none-last : (es : List Entry) → ((s : ℕ) → put s es ≡ None) → last es ≡ 0
none-last es f = elim (last-put es) [ inl z ↦ z | inr q ↦ absurd (let z : None ≡ Some q.0 = sym (f (last es)) ∙ q.1 in cc) ]

none-all : (P : Stored → Type 0) (xs : List Stored) → xs ≡ [] → All P xs
none-all P xs e = subst (All P) (sym e) (λ k d lt. absurd (omega arith))

-- a copy that was just bound holds what it should
pub holds-binds : Laws → (c : Copies) (want : Origin) (h g : History) (i inc from : ℕ) → HoldsNothing c g i → ((os : List Origin) → c ≡ Sources os → NumbersFollow g.entries) →
    Holds c want h (with_entry g (BindEntry i inc from)) i
holds-binds laws Nothing want h g i inc from hn on = tt
holds-binds laws (Mirror x) want h g i inc from hn on = record {
  below = λ s lt. put-passes g.entries (BindEntry i inc from) s tt ∙ hn s;
  each = λ s lo hi. (let z = none-last g.entries hn in let p = last-passes g.entries (BindEntry i inc from) tt in let st = start-positive i (with_entry g (BindEntry i inc from)) in absurd (omega arith));
}
holds-binds laws (Sources os) want h g i inc from hn on =
    laws.sources_bind want h g i inc from hn (record {
      rise = subst (λ (l : List ℕ). Rises (copy_start i g) l) (sym (marks-empty i g.entries hn)) tt;
      follow = on os refl;
      each = none-all (IsVia want h) (stored i g.entries) hn;
      left_out = λ s x y lo hi e v. (let mk : mark i g ≡ copy_start i g - 1 = ap (λ (q : Option ℕ). mark_or q (copy_start i g - 1)) (last-none i g.entries hn) in let st = start-positive i g in absurd (omega arith));
    })

-- what was stored is up to where the copy is
pub stored-point : (c : Copies) (i : ℕ) (want : Origin) (g : History) (s : ℕ) → ((os : List Origin) → c ≡ Sources os → Rises (copy_start i g) (marks i g.entries)) → HasStored c i g s → s ≤ point c i want g
stored-point Nothing i want g s r q = absurd q
stored-point (Mirror o) i want g s r q = let p = put-below g.entries s q.0 q.1 in omega arith
stored-point (Sources os) i want g s r q = mark-top i g s (r os refl) q
