-- Streams that grow keep what the world keeps of its copies.
use Rattle.std.proofs.Common.{◌≡◌, ℕ, ◌<◌, List, [], ◌∷◌, ◌++◌, length, take, set, get_or, Bool, true, false, cond, Option, None, Some, inl, inr, zero, suc, refl, sym, ap, subst, ◌∙◌, arith, append_assoc}
use Rattle.std.specs.Prelude.{◌⊎◌}
use Rattle.std.proofs.lemmas.List.{append-nil}
use Rattle.nats_text.specs.declared.message.Start.{Start}
use Rattle.nats_text.specs.declared.message.Start.TheVariants.{Seq, Time}
use Rattle.nats_text.specs.declared.origin.Origin.{Origin}
use Rattle.stream_fold.specs.declared.entry.Entry.{Entry}
use Rattle.stream_fold.specs.declared.entry.BoundTo.{BoundTo}
use Rattle.stream_fold.specs.declared.config.Config.{Config}
use Rattle.stream_fold.specs.declared.config.Copies.{Copies}
use Rattle.stream_fold.specs.declared.config.Copies.TheVariants.{Nothing, Mirror, Sources}
use Rattle.stream_fold.specs.Histories.{History, NumbersRise}
use Rattle.stream_fold.specs.Copying.{IsStored, IsLeftOut, IsRightStart, bound}
use Rattle.stream_fold.proofs.Growth.{put-stays}
use Rattle.stream_fold.proofs.KeptRows.{IsHole-stays}
use Rattle.leafd_cli.specs.Logs.{StreamLog, history_of, is_at, stream_at}
use Rattle.leafd_cli.specs.Legal.{stream_among, origin_among}
use Rattle.leafd_cli.specs.Copies.{CopyHolds}
use Rattle.leafd_cli.specs.Keeping.{KeepsCopy, AllKeep, IsNumbered, AllNumbered}
use Rattle.leafd_cli.proofs.Joined.{not_some}

-- a log that grew by some entries
pub record Grows (s t : StreamLog) : Type 0 where
  pub node : t.node ≡ s.node
  pub config : t.config ≡ s.config
  pub more : List Entry
  pub entries : t.entries ≡ s.entries ++ more
  pub rising : NumbersRise t.entries

-- ---- what holds of an origin holds of it when it has grown

each_longer : (c : Config) (origin copy more : List Entry) (seq : ℕ) → NumbersRise (origin ++ more) → IsStored (record { config = c; entries = origin }) copy seq ⊎ IsLeftOut (record { config = c; entries = origin }) copy seq → IsStored (record { config = c; entries = origin ++ more }) copy seq ⊎ IsLeftOut (record { config = c; entries = origin ++ more }) copy seq
each_longer c origin copy more seq rise (inl s) = inl (record { message = s.message; here = s.here; there = put-stays origin more seq s.message s.there })
each_longer c origin copy more seq rise (inr s) = inr (record { here = s.here; hole = IsHole-stays c origin more seq rise s.hole })

start_longer : (c : Config) (origin more : List Entry) (start : Start) (n : ℕ) → IsRightStart (record { config = c; entries = origin }) start n → IsRightStart (record { config = c; entries = origin ++ more }) start n
start_longer c origin more (Seq k) n r = r
start_longer c origin more (Time t) n r = record { front = r.front; rest = r.rest ++ more; whole = ap (λ es. es ++ more) r.whole ∙ append_assoc r.front r.rest more; is = r.is }

holds_longer : (b : Option BoundTo) (start : Start) (c : Config) (origin copy more : List Entry) → NumbersRise (origin ++ more) → CopyHolds b start (record { config = c; entries = origin }) copy → CopyHolds b start (record { config = c; entries = origin ++ more }) copy
holds_longer None start c origin copy more rise h = h
holds_longer (Some to) start c origin copy more rise h = (h.0, start_longer c origin more start to.start h.1, record { below = h.2.below; each = λ seq low high. each_longer c origin copy more seq rise (h.2.each seq low high) })

pub holds_grown : (b : Option BoundTo) (start : Start) (o p : StreamLog) (copy : List Entry) → Grows o p → CopyHolds b start (history_of o) copy → CopyHolds b start (history_of p) copy
holds_grown b start o p copy g h =
    let R : List Entry → Type 0 = λ es. NumbersRise es in
    let P : History → Type 0 = λ x. CopyHolds b start x copy in
    let q : record { config = o.config; entries = o.entries ++ g.more } ≡ record { config = p.config; entries = p.entries } = rw (g.config, g.entries) refl in
    subst P q (holds_longer b start o.config o.entries copy g.more (subst R g.entries g.rising) h)

-- ---- streams, one by one

abbrev pub AllGrown : List StreamLog → List StreamLog → Type 0
AllGrown [] [] = Unit {0}
AllGrown [] (t ∷ new) = ⊥
AllGrown (s ∷ old) [] = ⊥
AllGrown (s ∷ old) (t ∷ new) = Grows s t × AllGrown old new

grown-push : (old new : List StreamLog) (s t : StreamLog) → AllGrown old new → Grows s t → AllGrown (old ++ s ∷ []) (new ++ t ∷ [])
grown-push [] [] s t g h = (h, tt)
grown-push [] (y ∷ new) s t g h = absurd g
grown-push (x ∷ old) [] s t g h = absurd g
grown-push (x ∷ old) (y ∷ new) s t g h = (g.0, grown-push old new s t g.1 h)

abbrev FoundGrown : List ℕ → List ℕ → List StreamLog → StreamLog → Type 0
FoundGrown node name new o = (t : StreamLog) × (stream_at node name new ≡ Some t) × Grows o t

found_grown : (node name : List ℕ) (old new : List StreamLog) (o : StreamLog) → AllGrown old new → stream_at node name old ≡ Some o → FoundGrown node name new o
found_grown node name [] new o g e = not_some o e
found_grown node name (s ∷ old) [] o g e = absurd g
found_grown node name (s ∷ old) (t ∷ new) o g e =
    let same : is_at node name t ≡ is_at node name s = rw (g.0.node, g.0.config) refl in
    let P : Bool → Type 0 = λ b. is_at node name s ≡ b → cond b (Some s) (stream_at node name old) ≡ Some o → FoundGrown node name (t ∷ new) o in
    let go : (b : Bool) → P b = λ b. elim b as P [
      | true ↦ (λ a f. let so : s ≡ o = cc in let Q : StreamLog → Type 0 = λ x. Grows x t in (t, rw (same, a) refl, subst Q so g.0))
      | false ↦ (λ a f. let r = found_grown node name old new o g.1 f in (r.0, rw (same, a) r.1, r.2))
    ] in
    go (is_at node name s) refl e

origin_grown : (node : Option (List ℕ)) (name : List ℕ) (old new : List StreamLog) (o : StreamLog) → AllGrown old new → stream_among node name old ≡ Some o → (t : StreamLog) × (stream_among node name new ≡ Some t) × Grows o t
origin_grown None name old new o g e = not_some o e
origin_grown (Some node) name old new o g e = found_grown node name old new o g e

keeps_grown : (old new : List StreamLog) (s : StreamLog) (copies : Copies) → AllGrown old new → KeepsCopy old s copies → KeepsCopy new s copies
keeps_grown old new s Nothing g k = tt
keeps_grown old new s (Mirror want) g k =
    let o = origin_grown want.node want.stream old new k.0 g k.1 in
    (o.0, o.1, k.2, holds_grown (bound 0 s.entries) want.start k.0 o.0 s.entries o.2 k.3)
keeps_grown old new s (Sources wants) g k = k

-- a stream that grew and, over these streams before it, is as right a copy as it was
pub record Steps (before : List StreamLog) (s t : StreamLog) : Type 0 where
  pub grows : Grows s t
  pub own : KeepsCopy before s s.config.copies → KeepsCopy before t s.config.copies

abbrev pub AllStep : List StreamLog → List StreamLog → List StreamLog → Type 0
AllStep before [] [] = Unit {0}
AllStep before [] (t ∷ new) = ⊥
AllStep before (s ∷ old) [] = ⊥
AllStep before (s ∷ old) (t ∷ new) = Steps before s t × AllStep (before ++ s ∷ []) old new

pub keeps_steps : (before after old new : List StreamLog) → AllGrown before after → AllStep before old new → AllKeep before old → AllKeep after new
keeps_steps before after [] [] g st k = tt
keeps_steps before after [] (t ∷ new) g st k = absurd st
keeps_steps before after (s ∷ old) [] g st k = absurd st
keeps_steps before after (s ∷ old) (t ∷ new) g st k =
    let P : Copies → Type 0 = λ c. KeepsCopy after t c in
    let own : KeepsCopy after t s.config.copies = keeps_grown before after t s.config.copies g (st.0.own k.0) in
    (subst P (ap (λ c. c.copies) (sym st.0.grows.config)) own, keeps_steps (before ++ s ∷ []) (after ++ t ∷ []) old new (grown-push before after s t g st.0.grows) st.1 k.1)

pub step_none : (before : List StreamLog) (s : StreamLog) → IsNumbered s → Steps before s s
step_none before s n = record { grows = record { node = refl; config = refl; more = []; entries = sym (append-nil s.entries); rising = n.rising }; own = λ k. k }

pub all_step_none : (before streams : List StreamLog) → AllNumbered streams → AllStep before streams streams
all_step_none before [] n = tt
all_step_none before (s ∷ streams) n = (step_none before s n.0, all_step_none (before ++ s ∷ []) streams n.1)

-- the stream at one place stepped
pub all_step-set : (before streams : List StreamLog) (k : ℕ) (d t : StreamLog) → k < length streams → AllNumbered streams → Steps (before ++ take k streams) (get_or streams k d) t → AllStep before streams (set streams k t)
all_step-set before [] k d t h n st = absurd (omega (arith, h))
all_step-set before (x ∷ streams) zero d t h n st =
    let P : List StreamLog → Type 0 = λ b. Steps b x t in
    (subst P (append-nil before) st, all_step_none (before ++ x ∷ []) streams n.1)
all_step-set before (x ∷ streams) (suc k) d t h n st =
    let P : List StreamLog → Type 0 = λ b. Steps b (get_or streams k d) t in
    (step_none before x n.0, all_step-set (before ++ x ∷ []) streams k d t (omega (arith, h)) n.1 (subst P (sym (append_assoc before (x ∷ []) (take k streams))) st))

-- what is kept of the stream at a place
pub AllKeep-at : (before streams : List StreamLog) (k : ℕ) (d : StreamLog) → k < length streams → AllKeep before streams → KeepsCopy (before ++ take k streams) (get_or streams k d) (get_or streams k d).config.copies
AllKeep-at before [] k d h a = absurd (omega (arith, h))
AllKeep-at before (x ∷ streams) zero d h a = let P : List StreamLog → Type 0 = λ b. KeepsCopy b x x.config.copies in subst P (sym (append-nil before)) a.0
AllKeep-at before (x ∷ streams) (suc k) d h a =
    let s = get_or streams k d in
    let P : List StreamLog → Type 0 = λ b. KeepsCopy b s s.config.copies in
    subst P (append_assoc before (x ∷ []) (take k streams)) (AllKeep-at (before ++ x ∷ []) streams k d (omega (arith, h)) a.1)

-- one stream more
pub AllKeep-push : (before streams : List StreamLog) (t : StreamLog) → AllKeep before streams → KeepsCopy (before ++ streams) t t.config.copies → AllKeep before (streams ++ t ∷ [])
AllKeep-push before [] t a k = let P : List StreamLog → Type 0 = λ b. KeepsCopy b t t.config.copies in (subst P (append-nil before) k, tt)
AllKeep-push before (x ∷ streams) t a k =
    let P : List StreamLog → Type 0 = λ b. KeepsCopy b t t.config.copies in
    (a.0, AllKeep-push (before ++ x ∷ []) streams t a.1 (subst P (sym (append_assoc before (x ∷ []) streams)) k))

-- ---- a stream that was found among the first is found among all

pub stream_at-append : (node name : List ℕ) (streams more : List StreamLog) (o : StreamLog) → stream_at node name streams ≡ Some o → stream_at node name (streams ++ more) ≡ Some o
stream_at-append node name [] more o e = not_some o e
stream_at-append node name (s ∷ streams) more o e =
    let P : Bool → Type 0 = λ b. cond b (Some s) (stream_at node name streams) ≡ Some o → cond b (Some s) (stream_at node name (streams ++ more)) ≡ Some o in
    let go : (b : Bool) → P b = λ b. elim b as P [ true ↦ (λ f. f) | false ↦ (λ f. stream_at-append node name streams more o f) ] in
    go (is_at node name s) e

stream_among-append : (node : Option (List ℕ)) (name : List ℕ) (streams more : List StreamLog) (o : StreamLog) → stream_among node name streams ≡ Some o → stream_among node name (streams ++ more) ≡ Some o
stream_among-append None name streams more o e = not_some o e
stream_among-append (Some node) name streams more o e = stream_at-append node name streams more o e

pub origin_among-append : (want : Origin) (streams more : List StreamLog) (o : StreamLog) → origin_among want streams ≡ Some o → origin_among want (streams ++ more) ≡ Some o
origin_among-append want streams more o e = stream_among-append want.node want.stream streams more o e

-- a stream that is found is numbered like all
pub found_numbered : (node name : List ℕ) (streams : List StreamLog) (o : StreamLog) → AllNumbered streams → stream_at node name streams ≡ Some o → IsNumbered o
found_numbered node name [] o n e = not_some o e
found_numbered node name (s ∷ streams) o n e =
    let P : Bool → Type 0 = λ b. cond b (Some s) (stream_at node name streams) ≡ Some o → IsNumbered o in
    let go : (b : Bool) → P b = λ b. elim b as P [
      | true ↦ (λ f. let so : s ≡ o = cc in let Q : StreamLog → Type 0 = λ x. IsNumbered x in subst Q so n.0)
      | false ↦ (λ f. found_numbered node name streams o n.1 f)
    ] in
    go (is_at node name s) e

pub origin_numbered : (node : Option (List ℕ)) (name : List ℕ) (streams : List StreamLog) (o : StreamLog) → AllNumbered streams → stream_among node name streams ≡ Some o → IsNumbered o
origin_numbered None name streams o n e = not_some o e
origin_numbered (Some node) name streams o n e = found_numbered node name streams o n e
