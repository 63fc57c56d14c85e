-- What a settle does to the streams.
use Rattle.std.specs.Prelude.{IsSome}
use Rattle.std.proofs.Common.{◌≡◌, ℕ, ◌<◌, ◌≤◌, max, List, [], ◌∷◌, ◌++◌, length, map, take, drop, set, get_or, Option, None, Some, zero, suc, refl, sym, ap, subst, add-one, ◌∙◌, arith, take-append-drop}
use Rattle.std.proofs.lemmas.List.{append-nil, append_assoc, length-set, take_all, take_more_set}
use Rattle.nats_text.specs.declared.message.Start.{Start}
use Rattle.nats_text.specs.declared.message.Start.TheVariants.{Seq}
use Rattle.nats_text.specs.declared.origin.Origin.{Origin}
use Rattle.stream_fold.specs.declared.entry.Entry.{Entry}
use Rattle.stream_fold.specs.declared.entry.Entry.TheVariants.{Bind}
use Rattle.stream_fold.specs.declared.entry.Numbered.{Numbered}
use Rattle.stream_fold.specs.declared.entry.BoundTo.{BoundTo}
use Rattle.stream_fold.specs.declared.config.Copies.{Copies}
use Rattle.stream_fold.specs.declared.config.Copies.TheVariants.{Nothing, Mirror, Sources}
use Rattle.stream_fold.specs.Histories.{History, with_entry, last, kept, NumbersRise}
use Rattle.stream_fold.specs.Copying.{MirrorHolds, bindings, binding_at, bound, front}
use Rattle.stream_fold.specs.Fits.{index_count}
use Rattle.stream_fold.proofs.Folds.{bindings-append}
use Rattle.leafd_cli.specs.Logs.{StreamLog, history_of, limits_of}
use Rattle.leafd_cli.specs.Legal.{origin_among}
use Rattle.leafd_cli.specs.Copies.{CopyHolds, IsRightCopy, AreRight, IsThrough, AreThrough, HasAll}
use Rattle.leafd_cli.specs.Operations.{AreCopying, GrowsByCopying, AllGrow}
use Rattle.leafd_cli.specs.Plain.{copied_entry, rows_past, missing_of, missing_kind, fed_rows, fed, settled_stream, settle_at, settled_upto, no_stream}
use Rattle.leafd_cli.specs.Keeping.{KeepsCopy, AllKeep, IsNumbered, AllNumbered, AreSound, CanFollow}
use Rattle.leafd_cli.proofs.Joined.{binding_at-append, bindings-rows, no_last, HasAll-mono, HasAll-taken}
use Rattle.leafd_cli.proofs.Feeds.{fed_log, last-fed, MirrorHolds-fed}
use Rattle.leafd_cli.proofs.Following.{numbered-fed, can_follow, copied_on, bound_on}
use Rattle.leafd_cli.proofs.Numbers.{AllNumbered-at, AllNumbered-set}
use Rattle.leafd_cli.proofs.Steps.{Steps, keeps_steps, all_step-set, AllKeep-at, origin_among-append, origin_numbered}

-- a stream that was fed what it missed of the streams before it
pub record Feeds (before : List StreamLog) (s t : StreamLog) (copies : Copies) : Type 0 where
  pub right : KeepsCopy before t copies
  pub through : IsThrough before t copies
  pub node : t.node ≡ s.node
  pub config : t.config ≡ s.config
  pub more : List Entry
  pub entries : t.entries ≡ s.entries ++ more
  pub copying : AreCopying copies (history_of s) more
  pub numbered : IsNumbered t

bound-rows : (copy : List Entry) (rows : List Numbered) → bound 0 (copy ++ map copied_entry rows) ≡ bound 0 copy
bound-rows copy rows = ap (λ bs. binding_at 0 bs) (bindings-append copy (map copied_entry rows) ∙ (ap (λ bs. bindings copy ++ bs) (bindings-rows rows) ∙ append-nil (bindings copy)))

bound-bind : (copy : List Entry) → bound 0 copy ≡ None → bound 0 (copy ++ Bind 0 1 1 ∷ []) ≡ Some (record { incarnation = 1; start = 1 })
bound-bind copy e = ap (λ bs. binding_at 0 bs) (bindings-append copy (Bind 0 1 1 ∷ [])) ∙ (binding_at-append 0 (bindings copy) _ ∙ rw e refl)

abbrev HoldsFed : Option BoundTo → Start → History → List Entry → Type 0
HoldsFed b start origin copy = (to : BoundTo) × (bound 0 (fed_log b copy (rows_past (last copy) (kept origin))) ≡ Some to) × CopyHolds (Some to) start origin (fed_log b copy (rows_past (last copy) (kept origin)))

holds_fed : (b : Option BoundTo) (origin : History) (copy : List Entry) → bound 0 copy ≡ b → NumbersRise origin.entries → CopyHolds b (Seq 1) origin copy → HoldsFed b (Seq 1) origin copy
holds_fed None origin copy e rise none =
    (record { incarnation = 1; start = 1 }, bound-rows (copy ++ Bind 0 1 1 ∷ []) _ ∙ bound-bind copy e, (refl, refl, MirrorHolds-fed None origin copy rise (λ seq low high. absurd (omega (arith, no_last copy none))) (none 0)))
holds_fed (Some to) origin copy e rise holds =
    let one : to.start ≡ 1 = holds.1 in
    let from : max 1 to.start ≡ 1 = omega (arith, one) in
    let mirror : MirrorHolds origin copy 1 = let P : ℕ → Type 0 = λ n. MirrorHolds origin copy n in subst P from holds.2 in
    let P : ℕ → Type 0 = λ n. MirrorHolds origin (fed_log (Some to) copy (rows_past (last copy) (kept origin))) n in
    (to, bound-rows copy _ ∙ e, (holds.0, holds.1, subst P (sym from) (MirrorHolds-fed (Some to) origin copy rise mirror.each (mirror.below 0 (omega arith)))))

holds_from : (b : Option BoundTo) (start : Start) (origin : History) (copy : List Entry) → bound 0 copy ≡ b → start ≡ Seq 1 → NumbersRise origin.entries → CopyHolds b start origin copy → HoldsFed b start origin copy
holds_from b start origin copy e first rise holds =
    let P : Start → Type 0 = λ s. CopyHolds b s origin copy in
    let Q : Start → Type 0 = λ s. HoldsFed b s origin copy in
    subst Q (sym first) (holds_fed b origin copy e rise (subst P first holds))

-- rows that may follow fit the log of a mirror that is bound, one after another
copying_rows : (want : Origin) (to : BoundTo) (s : StreamLog) (rows : List Numbered) → bound 0 s.entries ≡ Some to → CanFollow (last s.entries) rows → AreCopying (Mirror want) (history_of s) (map copied_entry rows)
copying_rows want to s [] b can = tt
copying_rows want to s (r ∷ rows) b can =
    let t : StreamLog = record s { entries = s.entries ++ copied_entry r ∷ [] } in
    let P : Option BoundTo → Type 0 = λ o. IsSome o in
    ((tt, subst P (sym b) refl), (can.0, can.1, tt), copying_rows want to t rows (bound-rows s.entries (r ∷ []) ∙ b) (copied_on s r rows can))

abbrev more_log : Option BoundTo → List Numbered → List Entry
more_log None rows = Bind 0 1 1 ∷ map copied_entry rows
more_log (Some to) rows = map copied_entry rows

fed_log_is : (b : Option BoundTo) (copy : List Entry) (rows : List Numbered) → fed_log b copy rows ≡ copy ++ more_log b rows
fed_log_is None copy rows = append_assoc copy (Bind 0 1 1 ∷ []) (map copied_entry rows)
fed_log_is (Some to) copy rows = refl

-- a mirror has one index
mirror_index : (s : StreamLog) (want : Origin) → IsNumbered s → s.config.copies ≡ Mirror want → 0 < index_count (limits_of s).copies
mirror_index s want n is = let P : Copies → Type 0 = λ c. 0 < index_count c in let one : 0 < index_count (Mirror want) = omega arith in subst P (sym (n.copies ∙ is)) one

copying_more : (b : Option BoundTo) (want : Origin) (s : StreamLog) (rows : List Numbered) → bound 0 s.entries ≡ b → s.config.copies ≡ Mirror want → IsNumbered s → CanFollow (last s.entries) rows → AreCopying (Mirror want) (history_of s) (more_log b rows)
copying_more None want s rows e is n can =
    let t : StreamLog = record s { entries = s.entries ++ Bind 0 1 1 ∷ [] } in
    (tt, (mirror_index s want n is, e), copying_rows want (record { incarnation = 1; start = 1 }) t rows (bound-bind s.entries e) (bound_on s rows can))
copying_more (Some to) want s rows e is n can = copying_rows want to s rows e can

feeds_rows : (before : List StreamLog) (s o : StreamLog) (want : Origin) → s.config.copies ≡ Mirror want → origin_among want before ≡ Some o → want.start ≡ Seq 1 → IsNumbered s → IsNumbered o → CopyHolds (bound 0 s.entries) want.start (history_of o) s.entries → Feeds before s (fed_rows (rows_past (last s.entries) (kept (history_of o))) s) (Mirror want)
feeds_rows before s o want is found first n m holds =
    let b = bound 0 s.entries in
    let rows = rows_past (last s.entries) (kept (history_of o)) in
    let log : List Entry = fed_log b s.entries rows in
    let h : HoldsFed b want.start (history_of o) s.entries = holds_from b want.start (history_of o) s.entries refl first m.rising holds in
    let end = last-fed b s.entries rows in
    let all_taken : HasAll (last log) (kept (history_of o)) = HasAll-taken (last log) (last s.entries) (kept (history_of o)) (omega (arith, end)) (omega (arith, end)) in
    let P : Option BoundTo → Type 0 = λ x. CopyHolds x want.start (history_of o) log in
    record {
      right = (o, found, first, subst P (sym h.1) h.2);
      through = (o, found, h.0, h.1, HasAll-mono (last log) (front want.start log) (kept (history_of o)) (omega arith) all_taken);
      node = refl;
      config = refl;
      more = more_log b rows;
      entries = fed_log_is b s.entries rows;
      copying = copying_more b want s rows refl is n (can_follow (last s.entries) o m);
      numbered = numbered-fed s o n m;
    }

-- the stream at a place, fed with what it misses of all streams: its origin was made before it
feeds : (before after : List StreamLog) (s : StreamLog) (copies : Copies) → s.config.copies ≡ copies → AllNumbered (before ++ after) → IsNumbered s → KeepsCopy before s copies → Feeds before s (fed (missing_kind (before ++ after) s copies) s) copies
feeds before after s Nothing is all n k = record { right = tt; through = tt; node = refl; config = refl; more = []; entries = sym (append-nil s.entries); copying = tt; numbered = n }
feeds before after s (Mirror want) is all n k =
    let found : origin_among want (before ++ after) ≡ Some k.0 = origin_among-append want before after k.0 k.1 in
    let m : IsNumbered k.0 = origin_numbered want.node want.stream (before ++ after) k.0 all found in
    let P : Option StreamLog → Type 0 = λ x. Feeds before s (fed (missing_of x s) s) (Mirror want) in
    subst P (sym found) (feeds_rows before s k.0 want is k.1 k.2 n m k.3)
feeds before after s (Sources wants) is all n k = absurd k

pub feeds_at : (streams : List StreamLog) (k : ℕ) (s : StreamLog) → AllNumbered streams → IsNumbered s → KeepsCopy (take k streams) s s.config.copies → Feeds (take k streams) s (settled_stream streams s) s.config.copies
feeds_at streams k s all n keeps =
    let whole : take k streams ++ drop k streams ≡ streams = take-append-drop k streams in
    let A : List StreamLog → Type 0 = λ x. AllNumbered x in
    let P : List StreamLog → Type 0 = λ x. Feeds (take k streams) s (settled_stream x s) s.config.copies in
    subst P whole (feeds (take k streams) (drop k streams) s s.config.copies refl (subst A (sym whole) all) n keeps)

-- ---- each of some streams is through, over those before it

abbrev pub ThroughFrom : List StreamLog → List StreamLog → Type 0
ThroughFrom before [] = Unit {0}
ThroughFrom before (s ∷ streams) = IsThrough before s s.config.copies × ThroughFrom (before ++ s ∷ []) streams

through-push : (before streams : List StreamLog) (t : StreamLog) → ThroughFrom before streams → IsThrough (before ++ streams) t t.config.copies → ThroughFrom before (streams ++ t ∷ [])
through-push before [] t r h = let P : List StreamLog → Type 0 = λ b. IsThrough b t t.config.copies in (subst P (append-nil before) h, tt)
through-push before (s ∷ streams) t r h =
    let P : List StreamLog → Type 0 = λ b. IsThrough b t t.config.copies in
    (r.0, through-push (before ++ s ∷ []) streams t r.1 (subst P (sym (append_assoc before (s ∷ []) streams)) h))

through_more : (before after : List StreamLog) (s : StreamLog) (copies : Copies) → IsThrough before s copies → IsThrough (before ++ after) s copies
through_more before after s Nothing r = tt
through_more before after s (Mirror want) r = (r.0, origin_among-append want before after r.0 r.1, r.2, r.3, r.4)
through_more before after s (Sources wants) r = r

all_through : (before streams : List StreamLog) → ThroughFrom before streams → AreThrough (before ++ streams) streams
all_through before [] r = tt
all_through before (s ∷ streams) r =
    let P : List StreamLog → Type 0 = λ x. AreThrough x streams in
    (through_more before (s ∷ streams) s s.config.copies r.0, subst P (append_assoc before (s ∷ []) streams) (all_through (before ++ s ∷ []) streams r.1))

right_more : (before after : List StreamLog) (s : StreamLog) (copies : Copies) → KeepsCopy before s copies → IsRightCopy (before ++ after) s copies
right_more before after s Nothing k = tt
right_more before after s (Mirror want) k = (k.0, origin_among-append want before after k.0 k.1, k.3)
right_more before after s (Sources wants) k = absurd k

all_right : (before streams : List StreamLog) → AllKeep before streams → AreRight (before ++ streams) streams
all_right before [] k = tt
all_right before (s ∷ streams) k =
    let P : List StreamLog → Type 0 = λ x. AreRight x streams in
    (right_more before (s ∷ streams) s s.config.copies k.0, subst P (append_assoc before (s ∷ []) streams) (all_right (before ++ s ∷ []) streams k.1))

-- what the world keeps of its copies is more than that they are right
pub AreRight-kept : (streams : List StreamLog) → AreSound streams → AreRight streams streams
AreRight-kept streams k = all_right [] streams k.copies

-- ---- logs that grow by copying

AreCopying-append : (copies : Copies) (h : History) (xs ys : List Entry) → AreCopying copies h xs → AreCopying copies (record { config = h.config; entries = h.entries ++ xs }) ys → AreCopying copies h (xs ++ ys)
AreCopying-append copies h [] ys p q = let P : List Entry → Type 0 = λ es. AreCopying copies (record { config = h.config; entries = es }) ys in subst P (append-nil h.entries) q
AreCopying-append copies h (x ∷ xs) ys p q =
    let P : List Entry → Type 0 = λ es. AreCopying copies (record { config = h.config; entries = es }) ys in
    (p.0, p.1, AreCopying-append copies (with_entry h x) xs ys p.2 (subst P (sym (append_assoc h.entries (x ∷ []) xs)) q))

grows_not : (s : StreamLog) → GrowsByCopying s s
grows_not s = record { node = refl; config = refl; more = []; entries = sym (append-nil s.entries); copying = tt }

grows_more : (a b c : StreamLog) → GrowsByCopying a b → GrowsByCopying b c → GrowsByCopying a c
grows_more a b c p q =
    let P : Copies → Type 0 = λ x. AreCopying x (history_of b) q.more in
    let H : History → Type 0 = λ h. AreCopying a.config.copies h q.more in
    let same : history_of b ≡ record { config = a.config; entries = a.entries ++ p.more } = rw (p.config, p.entries) refl in
    record {
      node = q.node ∙ p.node;
      config = q.config ∙ p.config;
      more = p.more ++ q.more;
      entries = q.entries ∙ (ap (λ es. es ++ q.more) p.entries ∙ append_assoc a.entries p.more q.more);
      copying = AreCopying-append a.config.copies (history_of a) p.more q.more p.copying (subst H same (subst P (ap (λ x. x.copies) p.config) q.copying));
    }

pub all_grow_not : (streams : List StreamLog) → AllGrow streams streams
all_grow_not [] = tt
all_grow_not (s ∷ streams) = (grows_not s, all_grow_not streams)

all_grow_more : (a b c : List StreamLog) → AllGrow a b → AllGrow b c → AllGrow a c
all_grow_more [] [] [] p q = tt
all_grow_more [] [] (z ∷ c) p q = absurd q
all_grow_more [] (y ∷ b) c p q = absurd p
all_grow_more (x ∷ a) [] c p q = absurd p
all_grow_more (x ∷ a) (y ∷ b) [] p q = absurd q
all_grow_more (x ∷ a) (y ∷ b) (z ∷ c) p q = (grows_more x y z p.0 q.0, all_grow_more a b c p.1 q.1)

all_grow-set : (streams : List StreamLog) (k : ℕ) (d t : StreamLog) → k < length streams → GrowsByCopying (get_or streams k d) t → AllGrow streams (set streams k t)
all_grow-set [] k d t h g = absurd (omega (arith, h))
all_grow-set (x ∷ streams) zero d t h g = (g, all_grow_not streams)
all_grow-set (x ∷ streams) (suc k) d t h g = (grows_not x, all_grow-set streams k d t (omega (arith, h)) g)

-- ---- the streams after the first ones were fed

pub record FedUpto (k : ℕ) (first streams : List StreamLog) : Type 0 where
  pub grown : AllGrow first streams
  pub kept : AreSound streams
  pub through : ThroughFrom [] (take k streams)
  pub len : length streams ≡ length first

one_more : (k : ℕ) (first streams : List StreamLog) → k < length first → FedUpto k first streams → FedUpto (suc k) first (settle_at k streams)
one_more k first streams h f =
    let in_range : k < length streams = omega (arith, f.len) in
    let s : StreamLog = get_or streams k no_stream in
    let before : List StreamLog = take k streams in
    let n : IsNumbered s = AllNumbered-at streams k no_stream in_range f.kept.numbers in
    let fd : Feeds before s (settled_stream streams s) s.config.copies = feeds_at streams k s f.kept.numbers n (AllKeep-at [] streams k no_stream in_range f.kept.copies) in
    let t : StreamLog = settled_stream streams s in
    let new : List StreamLog = set streams k t in
    let steps : Steps before s t = record { grows = record { node = fd.node; config = fd.config; more = fd.more; entries = fd.entries; rising = fd.numbered.rising }; own = λ k. fd.right } in
    let T : Copies → Type 0 = λ x. IsThrough before t x in
    let front : take (suc k) new ≡ before ++ t ∷ [] = ap (λ n. take n new) (sym (add-one k)) ∙ take_more_set streams k t in_range in
    let Q : List StreamLog → Type 0 = λ x. ThroughFrom [] x in
    record {
      grown = all_grow_more first streams new f.grown (all_grow-set streams k no_stream t in_range (record { node = fd.node; config = fd.config; more = fd.more; entries = fd.entries; copying = fd.copying }));
      kept = record {
        copies = keeps_steps [] [] streams new tt (all_step-set [] streams k no_stream t in_range f.kept.numbers steps) f.kept.copies;
        numbers = AllNumbered-set streams k t f.kept.numbers fd.numbered;
      };
      through = subst Q (sym front) (through-push [] before t f.through (subst T (ap (λ x. x.copies) (sym fd.config)) fd.through));
      len = length-set streams k t ∙ f.len;
    }

pub fed_upto : (k : ℕ) (first : List StreamLog) → k ≤ length first → AreSound first → FedUpto k first (settled_upto k first)
fed_upto zero first h kept = record { grown = all_grow_not first; kept = kept; through = tt; len = refl }
fed_upto (suc k) first h kept = one_more k first (settled_upto k first) (omega arith) (fed_upto k first (omega arith) kept)

-- a settle leaves each copy right and through, and makes entries by copying alone
pub record SettlesAll (first streams : List StreamLog) : Type 0 where
  pub grown : AllGrow first streams
  pub kept : AreSound streams
  pub through : AreThrough streams streams

pub settles_all : (first : List StreamLog) → AreSound first → SettlesAll first (settled_upto (length first) first)
settles_all first kept =
    let streams : List StreamLog = settled_upto (length first) first in
    let f : FedUpto (length first) first streams = fed_upto (length first) first (omega arith) kept in
    let P : List StreamLog → Type 0 = λ x. ThroughFrom [] x in
    record { grown = f.grown; kept = f.kept; through = all_through [] streams (subst P (take_all (length first) streams (omega (arith, f.len))) f.through) }
