-- What becomes of the askers of a shard: an asker stays, is idle, asks, or follows its copy's decision.
use Rattle.std.proofs.Common.{◌≡◌, ℕ, Bool, true, false, cond, eqb, List, [], ◌∷◌, Option, Some, None, refl, sym, ap, ◌∙◌, subst, ◌⊎◌, inl, inr}
use Rattle.std.specs.Prelude.{⊤, map, option_map, slice_get, Contains}
use Rattle.std.specs.FinMap.{empty, get, insert, entries, get-empty, get-entries, get-from_entries}
use Rattle.std.specs.FinMap.Entries.{find}
use Rattle.std.specs.declared.cmp.Ordering.{Ordering}
use Rattle.std.specs.Ordering.{nat_cmp, eq_by_cmp}
use Rattle.std.specs.Cmp.{nat_cmp_total}
use Rattle.std.specs.Cmp.Lexicographic.{slice_cmp, nat_list_cmp_total, bytes_decides}
use Rattle.std.specs.Str.{bytes_eq}
use Rattle.std.proofs.lemmas.Bool.{eqb-true, eq-eqb}
use Rattle.js_wire.specs.declared.packet.Packet.{Packet}
use Rattle.js_wire.specs.declared.packet.Packet.TheVariants.{Ask, Answer, Refuse, Delivery, Beat, FlowAsk, FlowReply}
use Rattle.stream_fold.specs.declared.config.Config.{Config}
use Rattle.stream_fold.specs.declared.decision.Decision.{Decision}
use Rattle.stream_fold.specs.declared.entry.Entry.{Entry}
use Rattle.stream_fold.specs.Facts.{StreamFacts}
use Rattle.stream_fold.proofs.FactLemmas.{at_index, at_text}
use Rattle.record_codec.specs.declared.records.Rec.{Rec}
use Rattle.record_codec.specs.declared.records.Rec.TheVariants.{Create, Of}
use Rattle.replica_ask.specs.Askers.{AskerState, with_phase, asking}
use Rattle.replica_ask.specs.declared.phase.Phase.TheVariants.{Idle}
use Rattle.shard_machine.specs.declared.call.ShardCall.{ShardCall}
use Rattle.shard_machine.specs.declared.call.ShardCall.TheVariants as call
use Rattle.shard_machine.specs.Images.{LogImage, NameFacts, live_in, image_after}
use Rattle.shard_machine.specs.Views.{View, Effect, Askers, StreamAskers, Copy, origins_of, askers_of, with_asker, all_idle, idle_askers, idle_under, asker_of, ask_of, with_asked, with_all_asked}
use Rattle.shard_machine.specs.Answers.{addressee, copy_of_asker, decided_by}
use Rattle.run_soundness.proofs.Following.{entry_by, phase_by, asks_again}
use Rattle.run_soundness.proofs.Lists.{cons-cases, Contains-none, Contains-head, Contains-tail}
use Rattle.run_soundness.proofs.ShardsCopies.{IsCopyOf}

-- ---- looked up

-- the asker that a shard has of this stream and index
abbrev pub stored_at : Askers → List ℕ → ℕ → Option AskerState
stored_at askers stream index = get (askers_of askers stream) index

or_empty : Option StreamAskers → StreamAskers
or_empty None = empty
or_empty (Some found) = found

askers-of : (m : Askers) (s : List ℕ) (o : Option StreamAskers) → get m s ≡ o → askers_of m s ≡ or_empty o
unfolding or_empty
askers-of m s o e = ap of e
  where
    of : Option StreamAskers → StreamAskers
    of None = empty
    of (Some found) = found

inserted : (m : Askers) (s t : List ℕ) (x : StreamAskers) (b : Bool) → bytes_eq s t ≡ b → askers_of (insert m s x) t ≡ cond b x (askers_of m t)
unfolding or_empty
inserted m s t x true e = askers-of (insert m s x) t (Some x) (at_text m s x t ∙ ap (λ b. cond b (Some x) (get m t)) e)
inserted m s t x false e =
    askers-of (insert m s x) t (get m t) (at_text m s x t ∙ ap (λ b. cond b (Some x) (get m t)) e)
    ∙ sym (askers-of m t (get m t) refl)

stored-inserted : (m : Askers) (s t : List ℕ) (x : StreamAskers) (j : ℕ) → stored_at (insert m s x) t j ≡ cond (bytes_eq s t) (get x j) (stored_at m t j)
stored-inserted m s t x j = ap (λ (y : StreamAskers). get y j) (inserted m s t x (bytes_eq s t) refl) ∙ by (bytes_eq s t)
  where
    by : (b : Bool) → get (cond b x (askers_of m t)) j ≡ cond b (get x j) (get (askers_of m t) j)
    by true = refl
    by false = refl

-- the asker that was put in
pub with_asker-own : (s : List ℕ) (i : ℕ) (a : AskerState) (m : Askers) → stored_at (with_asker s i a m) s i ≡ Some a
with_asker-own s i a m =
    stored-inserted m s s (insert (askers_of m s) i a) i
    ∙ (ap (λ b. cond b (get (insert (askers_of m s) i a) i) (stored_at m s i)) ((bytes_decides s s).1 refl)
    ∙ (at_index (askers_of m s) i a i ∙ ap (λ b. cond b (Some a) (get (askers_of m s) i)) (eq-eqb i i refl)))

-- and the others
pub with_asker-cases : (s : List ℕ) (i : ℕ) (a : AskerState) (m : Askers) (t : List ℕ) (j : ℕ) → ((s ≡ t) × (i ≡ j)) ⊎ (stored_at (with_asker s i a m) t j ≡ stored_at m t j)
with_asker-cases s i a m t j = by (bytes_eq s t) refl (stored-inserted m s t (insert (askers_of m s) i a) j)
  where
    index : (b : Bool) → eqb i j ≡ b → s ≡ t → stored_at (with_asker s i a m) t j ≡ get (insert (askers_of m s) i a) j → ((s ≡ t) × (i ≡ j)) ⊎ (stored_at (with_asker s i a m) t j ≡ stored_at m t j)
    index true e same q = inl (same, eqb-true i j e)
    index false e same q = inr (q ∙ (at_index (askers_of m s) i a j ∙ (ap (λ b. cond b (Some a) (get (askers_of m s) j)) e ∙ ap (λ n. get (askers_of m n) j) same)))

    by : (b : Bool) → bytes_eq s t ≡ b → stored_at (with_asker s i a m) t j ≡ cond (bytes_eq s t) (get (insert (askers_of m s) i a) j) (stored_at m t j) → ((s ≡ t) × (i ≡ j)) ⊎ (stored_at (with_asker s i a m) t j ≡ stored_at m t j)
    by true e q = index (eqb i j) refl ((bytes_decides s t).0 e) (q ∙ ap (λ b. cond b (get (insert (askers_of m s) i a) j) (stored_at m t j)) e)
    by false e q = inr (q ∙ ap (λ b. cond b (get (insert (askers_of m s) i a) j) (stored_at m t j)) e)

-- ---- idle

abbrev pub rest_of : AskerState → AskerState
rest_of a = with_phase a Idle

module _ {K X : Type 0} (R : K → K → Ordering) (f : X → X) where
  find-map : (q : K) (es : List (K × X)) → find R q (map (λ p. (p.0, f p.1)) es) ≡ option_map f (find R q es)
  find-map q [] = refl
  find-map q (e ∷ es) = by (eq_by_cmp R q e.0) (find-map q es)
    where
      by : (b : Bool) → find R q (map (λ p. (p.0, f p.1)) es) ≡ option_map f (find R q es) → cond b (Some (f e.1)) (find R q (map (λ p. (p.0, f p.1)) es)) ≡ option_map f (cond b (Some e.1) (find R q es))
      by true h = refl
      by false h = h

get-idle : (m : StreamAskers) (i : ℕ) → get (all_idle m) i ≡ option_map rest_of (get m i)
get-idle m i =
    get-from_entries nat_cmp_total (map (λ p. (p.0, rest_of p.1)) (entries m)) i
    ∙ (find-map nat_cmp rest_of i (entries m) ∙ ap (option_map rest_of) (sym (get-entries m i)))

get-all_idle : (m : Askers) (s : List ℕ) → get (idle_askers m) s ≡ option_map all_idle (get m s)
get-all_idle m s =
    get-from_entries nat_list_cmp_total (map (λ p. (p.0, all_idle p.1)) (entries m)) s
    ∙ (find-map (slice_cmp nat_cmp) all_idle s (entries m) ∙ ap (option_map all_idle) (sym (get-entries m s)))

idle-or : (o : Option StreamAskers) (i : ℕ) → get (or_empty (option_map all_idle o)) i ≡ option_map rest_of (get (or_empty o) i)
unfolding or_empty
idle-or None i = get-empty nat_cmp i ∙ ap (option_map rest_of) (sym (get-empty nat_cmp i))
idle-or (Some found) i = get-idle found i

-- all askers are idle
pub stored-idle : (m : Askers) (s : List ℕ) (i : ℕ) → stored_at (idle_askers m) s i ≡ option_map rest_of (stored_at m s i)
stored-idle m s i =
    ap (λ (x : StreamAskers). get x i) (askers-of (idle_askers m) s (option_map all_idle (get m s)) (get-all_idle m s))
    ∙ (idle-or (get m s) i
    ∙ ap (λ (x : StreamAskers). option_map rest_of (get x i)) (sym (askers-of m s (get m s) refl)))

-- the askers of one stream are idle
pub stored-idle_under : (name : List ℕ) (m : Askers) (s : List ℕ) (i : ℕ) → (name ≡ s → stored_at (idle_under name m) s i ≡ option_map rest_of (stored_at m s i)) × ((name ≡ s) ⊎ (stored_at (idle_under name m) s i ≡ stored_at m s i))
unfolding or_empty
stored-idle_under name m s i = by (get m name) refl
  where
    under : Option StreamAskers → Askers
    under None = m
    under (Some found) = insert m name (all_idle found)

    none-here : get m name ≡ None → name ≡ s → stored_at m s i ≡ None
    none-here e same = ap (λ (x : StreamAskers). get x i) (askers-of m s None (ap (get m) (sym same) ∙ e)) ∙ get-empty nat_cmp i

    here : (found : StreamAskers) → get m name ≡ Some found → name ≡ s → stored_at (insert m name (all_idle found)) s i ≡ option_map rest_of (stored_at m s i)
    here found e same =
        stored-inserted m name s (all_idle found) i
        ∙ (ap (λ b. cond b (get (all_idle found) i) (stored_at m s i)) ((bytes_decides name s).1 same)
        ∙ (get-idle found i ∙ ap (λ (x : StreamAskers). option_map rest_of (get x i)) (sym (askers-of m s (Some found) (ap (get m) (sym same) ∙ e)))))

    else_by : (found : StreamAskers) (b : Bool) → bytes_eq name s ≡ b → (name ≡ s) ⊎ (stored_at (insert m name (all_idle found)) s i ≡ stored_at m s i)
    else_by found true q = inl ((bytes_decides name s).0 q)
    else_by found false q = inr (stored-inserted m name s (all_idle found) i ∙ ap (λ b. cond b (get (all_idle found) i) (stored_at m s i)) q)

    by : (o : Option StreamAskers) → get m name ≡ o → (name ≡ s → stored_at (under o) s i ≡ option_map rest_of (stored_at m s i)) × ((name ≡ s) ⊎ (stored_at (under o) s i ≡ stored_at m s i))
    by None e = (λ same. none-here e same ∙ ap (option_map rest_of) (sym (none-here e same)), inr refl)
    by (Some found) e = (here found e, else_by found (bytes_eq name s) refl)

-- ---- several copies ask

-- the copies that ask have asked, the others are as before
pub record AskedBy (v : View) (now : ℕ) (copies : List Copy) (askers : Askers) (s : List ℕ) (i : ℕ) : Type 0 where
  pub c : Copy
  pub among : Contains copies c
  pub stream : c.stream ≡ s
  pub index : c.index ≡ i
  pub stored : stored_at (with_all_asked v now copies askers) s i ≡ Some (asking (asker_of v c) now)

pub asked-cases : (v : View) (now : ℕ) (copies : List Copy) (askers : Askers) (s : List ℕ) (i : ℕ) → AskedBy v now copies askers s i ⊎ (stored_at (with_all_asked v now copies askers) s i ≡ stored_at askers s i)
asked-cases v now [] askers s i = inr refl
asked-cases v now (c ∷ cs) askers s i = elim (asked-cases v now cs (with_asked v now c askers) s i) [
  | inl w ↦ inl (record { c = w.c; among = Contains-tail c cs w.c w.among; stream = w.stream; index = w.index; stored = w.stored })
  | inr same ↦ (elim (with_asker-cases c.stream c.index (asking (asker_of v c) now) askers s i) [
    | inl own ↦ inl (record {
      c = c;
      among = Contains-head c cs;
      stream = own.0;
      index = own.1;
      stored = same ∙ (ap (λ t. stored_at (with_asked v now c askers) t i) (sym own.0) ∙ (ap (λ j. stored_at (with_asked v now c askers) c.stream j) (sym own.1) ∙ with_asker-own c.stream c.index (asking (asker_of v c) now) askers));
    })
    | inr other ↦ inr (same ∙ other)
  ])
]

-- each copy that asks has asked, or another one of its stream and index
pub asked-each : (v : View) (now : ℕ) (copies : List Copy) (askers : Askers) (c : Copy) → Contains copies c → AskedBy v now copies askers c.stream c.index
asked-each v now [] askers c q = absurd (Contains-none c q)
asked-each v now (x ∷ cs) askers c q = elim (cons-cases x cs c q) [
  | inr more ↦ (let w = asked-each v now cs (with_asked v now x askers) c more in record { c = w.c; among = Contains-tail x cs w.c w.among; stream = w.stream; index = w.index; stored = w.stored })
  | inl own ↦ (elim (asked-cases v now cs (with_asked v now x askers) c.stream c.index) [
    | inl w ↦ record { c = w.c; among = Contains-tail x cs w.c w.among; stream = w.stream; index = w.index; stored = w.stored }
    | inr same ↦ record {
      c = x;
      among = Contains-head x cs;
      stream = ap (λ (y : Copy). y.stream) own;
      index = ap (λ (y : Copy). y.index) own;
      stored = subst (λ (y : Copy). stored_at (with_all_asked v now (x ∷ cs) askers) y.stream y.index ≡ Some (asking (asker_of v x) now)) own
          (ap (λ (y : Copy). stored_at (with_all_asked v now cs (with_asked v now x askers)) y.stream y.index) own
          ∙ (same ∙ (ap (λ (y : Copy). stored_at (with_asked v now x askers) y.stream y.index) (sym own) ∙ with_asker-own x.stream x.index (asking (asker_of v x) now) askers)));
    }
  ])
]

-- of one stream and index there is one copy
pub copy-one : (i : LogImage) (c d : Copy) → IsCopyOf i c → IsCopyOf i d → c.stream ≡ d.stream → c.index ≡ d.index → c ≡ d
copy-one i c d p q streams indexes =
    let known : p.known ≡ q.known = (let z : Some p.known ≡ Some q.known = sym p.here ∙ (ap (live_in i) streams ∙ q.here) in cc) in
    let facts : c.facts ≡ d.facts = p.facts ∙ (ap (λ (k : NameFacts). k.stream) known ∙ sym q.facts) in
    let wants : c.want ≡ d.want = (let z : Some c.want ≡ Some d.want = sym p.origin ∙ (ap (λ f. slice_get (origins_of f) c.index) (ap (λ (x : StreamFacts). x.config.copies) facts) ∙ (ap (λ n. slice_get (origins_of d.facts.config.copies) n) indexes ∙ q.origin)) in cc) in
    λ j. record { stream = streams j; index = indexes j; facts = facts j; want = wants j }

-- ---- the summary of an answer

-- the record of an entry in a stream, where there is one
abbrev pub written : List ℕ → Option Entry → List Rec
written stream None = []
written stream (Some e) = Of stream e ∷ []

-- a copy asks
pub record AskedRow (v : View) (does : Effect) (stream : List ℕ) (index : ℕ) : Type 0 where
  pub c : Copy
  pub now : ℕ
  pub copy : IsCopyOf (image_after v.image does.records) c
  pub stream_is : c.stream ≡ stream
  pub index_is : c.index ≡ index
  pub stored : stored_at does.askers stream index ≡ Some (asking (asker_of v c) now)
  pub sent : Contains does.reply.packets (ask_of v c)

-- a copy follows its decision about the packet that was heard
pub record HeardRow (v : View) (called : ShardCall) (does : Effect) (stream : List ℕ) (index : ℕ) : Type 0 where
  pub packet : Packet
  pub now : ℕ
  pub is : called ≡ call.Heard packet now
  pub c : Copy
  pub heard : copy_of_asker v (addressee packet) ≡ Some c
  pub stream_is : c.stream ≡ stream
  pub index_is : c.index ≡ index
  pub d : Decision
  pub d_is : d ≡ decided_by c.facts.config.copies v c now packet
  pub stored : stored_at does.askers stream index ≡ Some (with_phase (asker_of v c) (phase_by d packet now (asker_of v c).phase))
  pub records : does.records ≡ written c.stream (entry_by d)
  pub no_ask : asks_again d ≡ false

-- what becomes of the asker of this stream and index
pub data AskerRow (v : View) (called : ShardCall) (does : Effect) (stream : List ℕ) (index : ℕ) : Type 0 where
  RowSame : stored_at does.askers stream index ≡ stored_at v.askers stream index → AskerRow v called does stream index
  RowIdle : stored_at does.askers stream index ≡ option_map rest_of (stored_at v.askers stream index) → AskerRow v called does stream index
  RowAsked : AskedRow v does stream index → AskerRow v called does stream index
  RowHeard : HeardRow v called does stream index → AskerRow v called does stream index

-- an Ask is that of a copy that has asked
pub record IsAskOf (v : View) (does : Effect) (p : Packet) : Type 0 where
  pub c : Copy
  pub is : p ≡ ask_of v c
  pub copy : IsCopyOf (image_after v.image does.records) c
  pub asked : AskedRow v does c.stream c.index

abbrev pub AskIs : View → Effect → Packet → Type 0
AskIs v does (Ask asker attempt origin stream start filters) = IsAskOf v does (Ask asker attempt origin stream start filters)
AskIs v does (Answer asker attempt consumer incarnation start) = ⊤
AskIs v does (Refuse asker attempt code err_code) = ⊤
AskIs v does (Delivery asker attempt stream consumer number seq pending message) = ⊤
AskIs v does (Beat asker attempt origin stream consumer last_number last_seq stalled) = ⊤
AskIs v does (FlowAsk asker attempt origin stream consumer token) = ⊤
AskIs v does (FlowReply origin stream consumer token) = ⊤

-- what becomes of all askers, and whose Asks are sent
pub record AskersRow (v : View) (called : ShardCall) (does : Effect) : Type 0 where
  pub each : (stream : List ℕ) (index : ℕ) → AskerRow v called does stream index
  pub asks : (p : Packet) → Contains does.reply.packets p → AskIs v does p
  -- each copy of a stream that was made asks
  pub made : (time : ℕ) (config : Config) → does.records ≡ Create time config ∷ [] → (c : Copy) → IsCopyOf (image_after v.image does.records) c → c.stream ≡ config.name → AskedRow v does c.stream c.index

-- ---- rows

-- no stream is made
abbrev pub MakesNone : Effect → Type 0
MakesNone does = (time : ℕ) (config : Config) → does.records ≡ Create time config ∷ [] → ⊥

pub no-records : (does : Effect) → does.records ≡ [] → MakesNone does
no-records does none time config e = (let z : [] ≡ Create time config ∷ [] = sym none ∙ e in cc)

-- nothing is sent
pub asks-nothing : (v : View) (does : Effect) → does.reply.packets ≡ [] → (p : Packet) → Contains does.reply.packets p → AskIs v does p
asks-nothing v does none p q = absurd (Contains-none p (subst (λ (l : List Packet). Contains l p) none q))

-- the askers stay, and nothing asks
pub askers-same : (v : View) (called : ShardCall) (does : Effect) → does.askers ≡ v.askers → MakesNone does → ((p : Packet) → Contains does.reply.packets p → AskIs v does p) → AskersRow v called does
askers-same v called does same none asks = record { each = λ s i. RowSame (ap (λ (m : Askers). stored_at m s i) same); asks = asks; made = λ t c e k is n. absurd (none t c e) }

-- all are idle
pub askers-idle : (v : View) (called : ShardCall) (does : Effect) → does.askers ≡ idle_askers v.askers → MakesNone does → ((p : Packet) → Contains does.reply.packets p → AskIs v does p) → AskersRow v called does
askers-idle v called does idle none asks = record { each = λ s i. RowIdle (ap (λ (m : Askers). stored_at m s i) idle ∙ stored-idle v.askers s i); asks = asks; made = λ t c e k is n. absurd (none t c e) }

-- those of one stream are idle
pub askers-under : (v : View) (called : ShardCall) (does : Effect) (name : List ℕ) → does.askers ≡ idle_under name v.askers → MakesNone does → ((p : Packet) → Contains does.reply.packets p → AskIs v does p) → AskersRow v called does
askers-under v called does name idle none asks = record {
  each = λ s i. let w = stored-idle_under name v.askers s i in
      elim w.1 [
        | inl same ↦ RowIdle (ap (λ (m : Askers). stored_at m s i) idle ∙ w.0 same)
        | inr other ↦ RowSame (ap (λ (m : Askers). stored_at m s i) idle ∙ other)
      ];
  asks = asks;
  made = λ t c e k is n. absurd (none t c e);
}

-- copies ask, and the packets are their Asks, with others that are none
module _ (v : View) (called : ShardCall) (does : Effect) (now : ℕ) (copies : List Copy) (are : (c : Copy) → Contains copies c → IsCopyOf (image_after v.image does.records) c) (askers : does.askers ≡ with_all_asked v now copies v.askers)
    (sent : (c : Copy) → Contains copies c → Contains does.reply.packets (ask_of v c)) where
  asked-row : (s : List ℕ) (i : ℕ) → AskedBy v now copies v.askers s i → AskedRow v does s i
  asked-row s i w = record { c = w.c; now = now; copy = are w.c w.among; stream_is = w.stream; index_is = w.index; stored = ap (λ (m : Askers). stored_at m s i) askers ∙ w.stored; sent = sent w.c w.among }

  -- the Ask of one of them
  pub ask-of-one : (c : Copy) → Contains copies c → AskIs v does (ask_of v c)
  ask-of-one c q =
      let w = asked-each v now copies v.askers c q in
      let same : w.c ≡ c = copy-one (image_after v.image does.records) w.c c (are w.c w.among) (are c q) w.stream w.index in
      record { c = w.c; is = ap (ask_of v) (sym same); copy = are w.c w.among; asked = subst (λ (x : Copy). AskedRow v does x.stream x.index) (sym same) (asked-row c.stream c.index w) }

  pub has-asked : (c : Copy) → Contains copies c → AskedRow v does c.stream c.index
  has-asked c q = asked-row c.stream c.index (asked-each v now copies v.askers c q)

  pub askers-asked : ((p : Packet) → Contains does.reply.packets p → AskIs v does p) → ((time : ℕ) (config : Config) → does.records ≡ Create time config ∷ [] → (c : Copy) → IsCopyOf (image_after v.image does.records) c → c.stream ≡ config.name → Contains copies c) → AskersRow v called does
  askers-asked asks made = record {
    each = λ s i. elim (asked-cases v now copies v.askers s i) [ inl w ↦ RowAsked (asked-row s i w) | inr same ↦ RowSame (ap (λ (m : Askers). stored_at m s i) askers ∙ same) ];
    asks = asks;
    made = λ t c e k is n. has-asked k (made t c e k is n);
  }

-- a copy follows its decision
pub askers-heard : (v : View) (called : ShardCall) (does : Effect) (packet : Packet) (now : ℕ) (c : Copy) (d : Decision) → called ≡ call.Heard packet now → copy_of_asker v (addressee packet) ≡ Some c → d ≡ decided_by c.facts.config.copies v c now packet →
    does.askers ≡ with_asker c.stream c.index (with_phase (asker_of v c) (phase_by d packet now (asker_of v c).phase)) v.askers → does.records ≡ written c.stream (entry_by d) → asks_again d ≡ false → MakesNone does →
    ((p : Packet) → Contains does.reply.packets p → AskIs v does p) → AskersRow v called does
askers-heard v called does packet now c d is heard d_is askers records no_ask none asks = record {
  each = λ s i. elim (with_asker-cases c.stream c.index (with_phase (asker_of v c) (phase_by d packet now (asker_of v c).phase)) v.askers s i) [
    | inl own ↦ RowHeard (record {
      packet = packet;
      now = now;
      is = is;
      c = c;
      heard = heard;
      stream_is = own.0;
      index_is = own.1;
      d = d;
      d_is = d_is;
      stored = ap (λ (m : Askers). stored_at m s i) askers
          ∙ (ap (λ t. stored_at (with_asker c.stream c.index (with_phase (asker_of v c) (phase_by d packet now (asker_of v c).phase)) v.askers) t i) (sym own.0)
          ∙ (ap (λ j. stored_at (with_asker c.stream c.index (with_phase (asker_of v c) (phase_by d packet now (asker_of v c).phase)) v.askers) c.stream j) (sym own.1)
          ∙ with_asker-own c.stream c.index (with_phase (asker_of v c) (phase_by d packet now (asker_of v c).phase)) v.askers));
      records = records;
      no_ask = no_ask;
    })
    | inr other ↦ RowSame (ap (λ (m : Askers). stored_at m s i) askers ∙ other)
  ];
  asks = asks;
  made = λ t k e x is2 n. absurd (none t k e);
}
