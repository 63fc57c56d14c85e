-- The copies of a shard, and the entries that they decide on.
use Rattle.std.proofs.Common.{◌≡◌, ℕ, zero, suc, ◌+◌, ◌-◌, ◌<◌, ◌≤◌, ◌^◌, max, Bool, true, false, cond, ◌||◌, leb, eqb, List, [], ◌∷◌, length, Option, Some, None, refl, sym, ap, ◌∙◌, subst, arith, inl, inr}
use Rattle.std.specs.Prelude.{slice_get, Contains}
use Rattle.std.specs.List.{find}
use Rattle.std.specs.FinMap.{get}
use Rattle.std.specs.Str.{bytes_eq}
use Rattle.std.proofs.lemmas.Bool.{leb-false}
use Rattle.nats_text.specs.declared.message.Message.{Message}
use Rattle.nats_text.specs.declared.message.Start.{Start}
use Rattle.nats_text.specs.declared.origin.Origin.{Origin}
use Rattle.js_wire.specs.declared.packet.AskerId.{AskerId}
use Rattle.js_wire.specs.declared.packet.Packet.{Packet}
use Rattle.js_wire.specs.declared.packet.Packet.TheVariants.{Ask, Answer as AnswerPacket, Refuse as RefusePacket, Delivery, Beat as BeatPacket, FlowAsk as FlowAskPacket, FlowReply}
use Rattle.stream_fold.specs.declared.config.Copies.{Copies}
use Rattle.stream_fold.specs.declared.config.Copies.TheVariants.{Nothing, Mirror, Sources}
use Rattle.stream_fold.specs.declared.decision.Decision.{Decision}
use Rattle.stream_fold.specs.declared.decision.Decision.TheVariants.{Store, Rebind, Ignore, Stop}
use Rattle.stream_fold.specs.declared.decision.Reason.TheVariants.{Back, Large, SeqEnd}
use Rattle.stream_fold.specs.declared.entry.BoundTo.{BoundTo}
use Rattle.stream_fold.specs.declared.entry.Entry.{Entry}
use Rattle.stream_fold.specs.declared.entry.Entry.TheVariants.{Put}
use Rattle.stream_fold.specs.Checking.{is_mirror}
use Rattle.stream_fold.specs.Copying.{Follows}
use Rattle.stream_fold.specs.Facts.{StreamFacts, FitsFacts, front_by_facts}
use Rattle.stream_fold.specs.Fits.{index_count}
use Rattle.stream_fold.specs.Publishing.{content_size, capped}
use Rattle.stream_fold.specs.Sourcing.{via}
use Rattle.mirror_core.specs.Decisions.{mirror_decision, other_decision, of_mirrored, on_mirrored, of_answer, of_beat, on_answer, on_beat, is_back, is_large}
use Rattle.mirror_core.specs.Entries.{IfEntry}
use Rattle.source_core.specs.Decisions.{source_decision, of_sourced, on_sourced, on_made, at_time}
use Rattle.replica_ask.specs.declared.phase.Order.{Order}
use Rattle.replica_ask.specs.declared.phase.Order.TheVariants.{Next, Old as OldOrder, Foreign as ForeignOrder, Gap as GapOrder, Beat as BeatOrder, FlowAsk as FlowOrder, Answer as AnswerOrder, Refuse as RefuseOrder}
use Rattle.replica_ask.specs.Orders.{order}
use Rattle.shard_machine.specs.Legal.{HasFaultless}
use Rattle.shard_machine.specs.Images.{LogImage, NameFacts, live_in, live_names}
use Rattle.shard_machine.specs.Views.{View, Copy, origins_of, copies_from, copies_of, copies_under, all_copies, reached_by, reached, asker_of}
use Rattle.shard_machine.specs.Answers.{copy_of_asker, decided_by}
use Rattle.run_soundness.proofs.Lists.{cons-cases, Contains-none, Contains-head, Contains-tail, flat-back, found}

-- ---- copies

-- one of the copies of these origins, the first of which has the index `from`
record IsOneOf (name : List ℕ) (f : StreamFacts) (from : ℕ) (origins : List Origin) (c : Copy) : Type 0 where
  stream : c.stream ≡ name
  facts : c.facts ≡ f
  place : ℕ
  index : c.index ≡ from + place
  origin : slice_get origins place ≡ Some c.want

one-of : (name : List ℕ) (f : StreamFacts) (from : ℕ) (origins : List Origin) (c : Copy) → Contains (copies_from name f from origins) c → IsOneOf name f from origins c
one-of name f from [] c q = absurd (Contains-none c q)
one-of name f from (origin ∷ origins) c q = elim (cons-cases (record { stream = name; index = from; facts = f; want = origin }) (copies_from name f (from + 1) origins) c q) [
  | inl e ↦ record {
    stream = ap (λ (x : Copy). x.stream) (sym e);
    facts = ap (λ (x : Copy). x.facts) (sym e);
    place = 0;
    index = ap (λ (x : Copy). x.index) (sym e) ∙ (let z : from ≡ from + 0 = omega arith in z);
    origin = ap (λ (x : Copy). Some x.want) e;
  }
  | inr more ↦ (let w = one-of name f (from + 1) origins c more in
      record { stream = w.stream; facts = w.facts; place = suc w.place; index = w.index ∙ (let z : from + 1 + w.place ≡ from + suc w.place = omega arith in z); origin = w.origin })
]

-- a copy of a stream that stands: what is known of the stream, and which of its origins it copies
pub record IsCopyOf (i : LogImage) (c : Copy) : Type 0 where
  pub known : NameFacts
  pub here : live_in i c.stream ≡ Some known
  pub facts : c.facts ≡ known.stream
  pub origin : slice_get (origins_of c.facts.config.copies) c.index ≡ Some c.want

copy_by : (i : LogImage) (name : List ℕ) (c : Copy) (o : Option NameFacts) → live_in i name ≡ o → ((known : NameFacts) → o ≡ Some known → Contains (copies_of name known.stream) c) → (o ≡ None → ⊥) → IsCopyOf i c
copy_by i name c None e f g = absurd (g refl)
copy_by i name c (Some known) e f g =
    let w = one-of name known.stream 0 (origins_of known.stream.config.copies) c (f known refl) in
    record {
      known = known;
      here = ap (live_in i) w.stream ∙ e;
      facts = w.facts;
      origin = subst (λ (x : StreamFacts). slice_get (origins_of x.config.copies) c.index ≡ Some c.want) (sym w.facts)
          (subst (λ k. slice_get (origins_of known.stream.config.copies) k ≡ Some c.want) (sym (w.index ∙ (let z : 0 + w.place ≡ w.place = omega arith in z))) w.origin);
    }

under_by : (i : LogImage) (name : List ℕ) (c : Copy) (o : Option NameFacts) → live_in i name ≡ o → Contains (copies_under i name) c → IsCopyOf i c
under_by i name c None e q = absurd (Contains-none c (subst (λ (x : Option NameFacts). Contains (of x) c) e q))
  where
    of : Option NameFacts → List Copy
    of None = []
    of (Some known) = copies_of name known.stream
under_by i name c (Some known) e q = copy_by i name c (Some known) e (λ k same. subst (λ (x : Option NameFacts). Contains (of x) c) (e ∙ same) q) (λ n. cc)
  where
    of : Option NameFacts → List Copy
    of None = []
    of (Some k) = copies_of name k.stream

-- a copy of the streams of a name
pub copy-under : (i : LogImage) (name : List ℕ) (c : Copy) → Contains (copies_under i name) c → IsCopyOf i c
copy-under i name c q = under_by i name c (live_in i name) refl q

-- it has the stream of that name
pub copy-stream : (i : LogImage) (name : List ℕ) (c : Copy) → Contains (copies_under i name) c → c.stream ≡ name
copy-stream i name c q = by (live_in i name) q
  where
    of : Option NameFacts → List Copy
    of None = []
    of (Some known) = copies_of name known.stream

    by : (o : Option NameFacts) → Contains (of o) c → c.stream ≡ name
    by None q = absurd (Contains-none c q)
    by (Some known) q = (one-of name known.stream 0 (origins_of known.stream.config.copies) c q).stream

-- each copy of a stream that stands is one of those
has-copy : (name : List ℕ) (f : StreamFacts) (from k : ℕ) (origins : List Origin) (want : Origin) → slice_get origins k ≡ Some want → Contains (copies_from name f from origins) (record { stream = name; index = from + k; facts = f; want = want })
has-copy name f from k [] want e = absurd (cc)
has-copy name f from zero (o ∷ origins) want e =
    let same : o ≡ want = cc in
    subst (λ n. Contains (copies_from name f from (o ∷ origins)) (record { stream = name; index = n; facts = f; want = want })) (let z : from ≡ from + 0 = omega arith in z)
    (subst (λ (x : Origin). Contains (copies_from name f from (o ∷ origins)) (record { stream = name; index = from; facts = f; want = x })) same (Contains-head (record { stream = name; index = from; facts = f; want = o }) (copies_from name f (from + 1) origins)))
has-copy name f from (suc k) (o ∷ origins) want e =
    subst (λ n. Contains (copies_from name f from (o ∷ origins)) (record { stream = name; index = n; facts = f; want = want })) (let z : from + 1 + k ≡ from + suc k = omega arith in z)
    (Contains-tail (record { stream = name; index = from; facts = f; want = o }) (copies_from name f (from + 1) origins) _ (has-copy name f (from + 1) k origins want e))

pub copy-among : (i : LogImage) (c : Copy) → IsCopyOf i c → Contains (copies_under i c.stream) c
copy-among i c is = by (live_in i c.stream) is.here
  where
    of : Option NameFacts → List Copy
    of None = []
    of (Some known) = copies_of c.stream known.stream

    by : (o : Option NameFacts) → o ≡ Some is.known → Contains (of o) c
    by None e = absurd (cc)
    by (Some known) e =
        let same : is.known ≡ known = cc in
        let facts : c.facts ≡ known.stream = is.facts ∙ ap (λ (k : NameFacts). k.stream) same in
        subst (λ (f : StreamFacts). Contains (copies_from c.stream f 0 (origins_of f.config.copies)) c) facts
        (subst (λ n. Contains (copies_from c.stream c.facts 0 (origins_of c.facts.config.copies)) (record { stream = c.stream; index = n; facts = c.facts; want = c.want })) (let z : 0 + c.index ≡ c.index = omega arith in z)
        (has-copy c.stream c.facts 0 c.index (origins_of c.facts.config.copies) c.want is.origin))

-- one of all copies
pub copy-all : (i : LogImage) (c : Copy) → Contains (all_copies i) c → IsCopyOf i c
copy-all i c q = let w = flat-back (copies_under i) (live_names i) c q in copy-under i w.of c w.part

-- the copy of an asker has its stream and its index, and its node is this one
pub record IsHeardBy (v : View) (id : AskerId) (c : Copy) : Type 0 where
  pub copy : IsCopyOf v.image c
  pub among : Contains (copies_under v.image id.stream) c
  pub node : bytes_eq id.node v.node ≡ true
  pub index : eqb c.index id.index ≡ true

heard_if : (v : View) (id : AskerId) (c : Copy) (b : Bool) → bytes_eq id.node v.node ≡ b → cond b (find (λ (x : Copy). eqb x.index id.index) (copies_under v.image id.stream)) None ≡ Some c → IsHeardBy v id c
heard_if v id c true n e =
    let w = found (λ (x : Copy). eqb x.index id.index) (copies_under v.image id.stream) c e in
    record { copy = copy-under v.image id.stream c w.here; among = w.here; node = n; index = w.passes }
heard_if v id c false n e = absurd (cc)

pub heard-by : (v : View) (id : AskerId) (c : Copy) → copy_of_asker v (Some id) ≡ Some c → IsHeardBy v id c
heard-by v id c e = heard_if v id c (bytes_eq id.node v.node) refl e

pub heard-copy : (v : View) (o : Option AskerId) (c : Copy) → copy_of_asker v o ≡ Some c → IsCopyOf v.image c
heard-copy v None c e = absurd (cc)
heard-copy v (Some id) c e = (heard-by v id c e).copy

-- ---- the entries that they decide on

-- The entry may come next in a history of these facts, and where its stream is no mirror it has the next
-- number.
pub record EntryOk (f : StreamFacts) (e : Entry) : Type 0 where
  pub fits : FitsFacts f e
  pub faultless : HasFaultless e
  pub number : is_mirror f.config.copies ≡ false → Follows f.last e

slice-bound : {X : Type 0} (xs : List X) (i : ℕ) (x : X) → slice_get xs i ≡ Some x → i < length xs
slice-bound [] i x e = absurd (cc)
slice-bound (y ∷ ys) zero x e = omega arith
slice-bound (y ∷ ys) (suc i) x e = let q = slice-bound ys i x e in omega arith

-- an index of the origins is one of the copies
index_in : (copies : Copies) (i : ℕ) (want : Origin) → slice_get (origins_of copies) i ≡ Some want → i < index_count copies
index_in Nothing i want e = absurd (cc)
index_in (Mirror origin) i want e = slice-bound (origin ∷ []) i want e
index_in (Sources origins) i want e = slice-bound origins i want e

module _ (f : StreamFacts) where
  if-test : (b : Bool) (d e : Decision) → IfEntry (EntryOk f) d → (b ≡ false → IfEntry (EntryOk f) e) → IfEntry (EntryOk f) (cond b d e)
  if-test true d e p q = p
  if-test false d e p q = q refl

  -- an answer
  answer-ok : (index : ℕ) (bound : Option BoundTo) (incarnation start : ℕ) → get f.bindings index ≡ bound → index < index_count f.config.copies → IfEntry (EntryOk f) (on_answer index bound incarnation start)
  answer-ok index None incarnation start e lt = record { fits = (lt, e); faultless = tt; number = λ no. tt }
  answer-ok index (Some to) incarnation start e lt = if-test (eqb to.incarnation incarnation) Rebind (Stop to.incarnation incarnation) tt (λ no. tt)

  of_answer-ok : (index : ℕ) (bound : Option BoundTo) (packet : Packet) → get f.bindings index ≡ bound → index < index_count f.config.copies → IfEntry (EntryOk f) (of_answer index bound packet)
  of_answer-ok index bound (Ask asker attempt origin stream start filters) e lt = tt
  of_answer-ok index bound (AnswerPacket asker attempt consumer incarnation start) e lt = answer-ok index bound incarnation start e lt
  of_answer-ok index bound (RefusePacket asker attempt code err_code) e lt = tt
  of_answer-ok index bound (Delivery asker attempt stream consumer number seq pending message) e lt = tt
  of_answer-ok index bound (BeatPacket asker attempt origin stream consumer last_number last_seq stalled) e lt = tt
  of_answer-ok index bound (FlowAskPacket asker attempt origin stream consumer token) e lt = tt
  of_answer-ok index bound (FlowReply origin stream consumer token) e lt = tt

  beat-ok : (stalled : Option ℕ) → IfEntry (EntryOk f) (on_beat stalled)
  beat-ok None = tt
  beat-ok (Some token) = tt

  of_beat-ok : (packet : Packet) → IfEntry (EntryOk f) (of_beat packet)
  of_beat-ok (Ask asker attempt origin stream start filters) = tt
  of_beat-ok (AnswerPacket asker attempt consumer incarnation start) = tt
  of_beat-ok (RefusePacket asker attempt code err_code) = tt
  of_beat-ok (Delivery asker attempt stream consumer number seq pending message) = tt
  of_beat-ok (BeatPacket asker attempt origin stream consumer last_number last_seq stalled) = beat-ok stalled
  of_beat-ok (FlowAskPacket asker attempt origin stream consumer token) = tt
  of_beat-ok (FlowReply origin stream consumer token) = tt

  other-ok : (index : ℕ) (bound : Option BoundTo) (o : Order) (packet : Packet) → get f.bindings index ≡ bound → index < index_count f.config.copies → IfEntry (EntryOk f) (other_decision index bound o packet)
  other-ok index bound Next packet e lt = tt
  other-ok index bound (OldOrder number next) packet e lt = tt
  other-ok index bound ForeignOrder packet e lt = tt
  other-ok index bound (GapOrder expected got) packet e lt = tt
  other-ok index bound BeatOrder packet e lt = of_beat-ok packet
  other-ok index bound FlowOrder packet e lt = tt
  other-ok index bound AnswerOrder packet e lt = of_answer-ok index bound packet e lt
  other-ok index bound RefuseOrder packet e lt = tt

  or_false : (a b : Bool) → (a || b) ≡ false → (a ≡ false) × (b ≡ false)
  or_false true b e = absurd (cc)
  or_false false b e = (refl, e)

  -- what isn't back is past what the copy has, and a number that a stream may have
  not-back : (reached seq : ℕ) → is_back reached seq ≡ false → (reached < seq) × (seq < 2 ^ 63)
  not-back reached seq e =
      let parts = or_false (leb (2 ^ 63) seq) (leb seq reached) e in
      (leb-false seq reached parts.1, leb-false (2 ^ 63) seq parts.0)

  -- a message of a mirror's origin
  mirrored-ok : (front seq : ℕ) (m : Message) → is_mirror f.config.copies ≡ true → f.last ≤ front → IfEntry (EntryOk f) (on_mirrored front seq m)
  mirrored-ok front seq m mirror le =
      if-test (is_back front seq) (Ignore (Back seq front)) (cond (is_large m) (Ignore (Large (capped (content_size m)))) (Store (Put seq m None))) tt
      (λ forward. if-test (is_large m) (Ignore (Large (capped (content_size m)))) (Store (Put seq m None)) tt
      (λ small. let p = not-back front seq forward in record {
        fits = ((let lt = p.0 in omega arith), p.1, tt);
        faultless = tt;
        number = λ no. absurd (let z : true ≡ false = sym mirror ∙ no in cc);
      }))

  of_mirrored-ok : (front : ℕ) (packet : Packet) → is_mirror f.config.copies ≡ true → f.last ≤ front → IfEntry (EntryOk f) (of_mirrored front packet)
  of_mirrored-ok front (Ask asker attempt origin stream start filters) mirror le = tt
  of_mirrored-ok front (AnswerPacket asker attempt consumer incarnation start) mirror le = tt
  of_mirrored-ok front (RefusePacket asker attempt code err_code) mirror le = tt
  of_mirrored-ok front (Delivery asker attempt stream consumer number seq pending message) mirror le = mirrored-ok front seq message mirror le
  of_mirrored-ok front (BeatPacket asker attempt origin stream consumer last_number last_seq stalled) mirror le = tt
  of_mirrored-ok front (FlowAskPacket asker attempt origin stream consumer token) mirror le = tt
  of_mirrored-ok front (FlowReply origin stream consumer token) mirror le = tt

  mirror-ok : (front : ℕ) (o : Order) (packet : Packet) → is_mirror f.config.copies ≡ true → f.last ≤ front → 0 < index_count f.config.copies → IfEntry (EntryOk f) (mirror_decision (get f.bindings 0) front o packet)
  mirror-ok front Next packet mirror le lt = of_mirrored-ok front packet mirror le
  mirror-ok front (OldOrder number next) packet mirror le lt = other-ok 0 (get f.bindings 0) (OldOrder number next) packet refl lt
  mirror-ok front ForeignOrder packet mirror le lt = other-ok 0 (get f.bindings 0) ForeignOrder packet refl lt
  mirror-ok front (GapOrder expected got) packet mirror le lt = other-ok 0 (get f.bindings 0) (GapOrder expected got) packet refl lt
  mirror-ok front BeatOrder packet mirror le lt = other-ok 0 (get f.bindings 0) BeatOrder packet refl lt
  mirror-ok front FlowOrder packet mirror le lt = other-ok 0 (get f.bindings 0) FlowOrder packet refl lt
  mirror-ok front AnswerOrder packet mirror le lt = other-ok 0 (get f.bindings 0) AnswerOrder packet refl lt
  mirror-ok front RefuseOrder packet mirror le lt = other-ok 0 (get f.bindings 0) RefuseOrder packet refl lt

  -- a message of a source's origin
  made-ok : (index mark now seq : ℕ) (o : Option Message) → seq < 2 ^ 63 → IfEntry (EntryOk f) (on_made index (record { mark = mark; last = f.last; clock = f.clock }) now seq o)
  made-ok index mark now seq None lt = tt
  made-ok index mark now seq (Some m) lt =
      if-test (leb (2 ^ 63 - 1) f.last) (Ignore SeqEnd) (Store (Put (f.last + 1) (at_time (max now f.clock) m) (Some (record { index = index; seq = seq })))) tt
      (λ room. let p = leb-false (2 ^ 63 - 1) f.last room in record { fits = (omega arith, omega arith, lt); faultless = tt; number = λ no. refl })

  sourced-ok : (want : Origin) (index mark now seq : ℕ) (m : Message) → IfEntry (EntryOk f) (on_sourced want index (record { mark = mark; last = f.last; clock = f.clock }) now seq m)
  sourced-ok want index mark now seq m =
      if-test (is_back mark seq) (Ignore (Back seq mark)) (cond (is_large m) (Ignore (Large (capped (content_size m)))) (on_made index (record { mark = mark; last = f.last; clock = f.clock }) now seq (via want m seq))) tt
      (λ forward. if-test (is_large m) (Ignore (Large (capped (content_size m)))) (on_made index (record { mark = mark; last = f.last; clock = f.clock }) now seq (via want m seq)) tt
      (λ small. made-ok index mark now seq (via want m seq) (not-back mark seq forward).1))

  of_sourced-ok : (want : Origin) (index mark now : ℕ) (packet : Packet) → IfEntry (EntryOk f) (of_sourced want index (record { mark = mark; last = f.last; clock = f.clock }) now packet)
  of_sourced-ok want index mark now (Ask asker attempt origin stream start filters) = tt
  of_sourced-ok want index mark now (AnswerPacket asker attempt consumer incarnation start) = tt
  of_sourced-ok want index mark now (RefusePacket asker attempt code err_code) = tt
  of_sourced-ok want index mark now (Delivery asker attempt stream consumer number seq pending message) = sourced-ok want index mark now seq message
  of_sourced-ok want index mark now (BeatPacket asker attempt origin stream consumer last_number last_seq stalled) = tt
  of_sourced-ok want index mark now (FlowAskPacket asker attempt origin stream consumer token) = tt
  of_sourced-ok want index mark now (FlowReply origin stream consumer token) = tt

  source-ok : (want : Origin) (index mark now : ℕ) (o : Order) (packet : Packet) → index < index_count f.config.copies → IfEntry (EntryOk f) (source_decision want index (get f.bindings index) (record { mark = mark; last = f.last; clock = f.clock }) now o packet)
  source-ok want index mark now Next packet lt = of_sourced-ok want index mark now packet
  source-ok want index mark now (OldOrder number next) packet lt = other-ok index (get f.bindings index) (OldOrder number next) packet refl lt
  source-ok want index mark now ForeignOrder packet lt = other-ok index (get f.bindings index) ForeignOrder packet refl lt
  source-ok want index mark now (GapOrder expected got) packet lt = other-ok index (get f.bindings index) (GapOrder expected got) packet refl lt
  source-ok want index mark now BeatOrder packet lt = other-ok index (get f.bindings index) BeatOrder packet refl lt
  source-ok want index mark now FlowOrder packet lt = other-ok index (get f.bindings index) FlowOrder packet refl lt
  source-ok want index mark now AnswerOrder packet lt = other-ok index (get f.bindings index) AnswerOrder packet refl lt
  source-ok want index mark now RefuseOrder packet lt = other-ok index (get f.bindings index) RefuseOrder packet refl lt

-- how far a mirror has come is at least its last number
front-last : (start : Start) (f : StreamFacts) → f.last ≤ front_by_facts start f
front-last start f = omega arith

decided-by : (copies : Copies) (v : View) (c : Copy) (now : ℕ) (packet : Packet) → c.facts.config.copies ≡ copies → c.index < index_count copies → IfEntry (EntryOk c.facts) (decided_by copies v c now packet)
decided-by Nothing v c now packet e lt = tt
decided-by (Mirror origin) v c now packet e lt =
    mirror-ok c.facts (reached c) (order (asker_of v c).phase packet) packet (ap is_mirror e)
    (subst (λ (x : Copies). c.facts.last ≤ reached_by x c.index c.want c.facts) (sym e) (front-last c.want.start c.facts))
    (subst (λ x. 0 < index_count x) (sym e) (omega arith))
decided-by (Sources origins) v c now packet e lt =
    source-ok c.facts c.want c.index (reached c) now (order (asker_of v c).phase packet) packet (subst (λ x. c.index < index_count x) (sym e) lt)

-- what a copy decides to store or to bind may come next in its history
pub decided-ok : (v : View) (c : Copy) (now : ℕ) (packet : Packet) → IsCopyOf v.image c → IfEntry (EntryOk c.facts) (decided_by c.facts.config.copies v c now packet)
decided-ok v c now packet is = decided-by c.facts.config.copies v c now packet refl (index_in c.facts.config.copies c.index c.want is.origin)
