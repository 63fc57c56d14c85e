-- A state that stands for its log stands for it with one entry more, and entries that fit a log.
use Rattle.std.proofs.Common.{◌≡◌, ℕ, zero, suc, ◌+◌, ◌^◌, ◌<◌, List, [], ◌∷◌, ◌++◌, length, map, take, drop, get_or, None, Some, refl, sym, ap, subst, ◌∙◌, arith, append_assoc, add-one, take-append-drop}
use Rattle.std.proofs.Math.Seq.{drop-cons}
use Rattle.std.proofs.lemmas.List.{take_more, map-append, get_or_default, length-set}
use Rattle.nats_text.specs.declared.message.Message.{Message}
use Rattle.stream_fold.specs.declared.config.Copies.{Copies}
use Rattle.stream_fold.specs.declared.config.Copies.TheVariants.{Nothing, Mirror, Sources}
use Rattle.stream_fold.specs.declared.entry.Entry.TheVariants.{Put, Bind}
use Rattle.stream_fold.specs.declared.entry.Numbered.{Numbered}
use Rattle.stream_fold.specs.Histories.{last, kept}
use Rattle.stream_fold.specs.Fits.{index_count}
use Rattle.stream_fold.proofs.Folds.{last-push}
use Rattle.leafd_cli.specs.Logs.{StreamLog, history_of, limits_of}
use Rattle.leafd_cli.specs.Legal.{origin_among}
use Rattle.leafd_cli.specs.Plain.{copied_entry, missing_of, missing_kind, rows_past, no_stream, settle_at, settled_upto}
use Rattle.leafd_cli.specs.Keeping.{KeepsCopy, AllNumbered, AreSound, CanFollow}
use Rattle.leafd_cli.proofs.Joined.{not_some}
use Rattle.leafd_cli.proofs.Numbers.{AllNumbered-at}
use Rattle.leafd_cli.proofs.Steps.{AllKeep-at, origin_numbered, origin_among-append}
use Rattle.leafd_cli.proofs.Following.{can_follow, copied_on}
use Rattle.leafd_cli.proofs.Settles.{fed_upto}

-- what a stream misses may follow
missing_follows : (before after : List StreamLog) (s : StreamLog) (copies : Copies) (rows : List Numbered) → AllNumbered (before ++ after) → KeepsCopy before s copies → missing_kind (before ++ after) s copies ≡ Some rows → CanFollow (last s.entries) rows
missing_follows before after s Nothing rows n k e = not_some rows e
missing_follows before after s (Mirror want) rows n k e =
    let found : origin_among want (before ++ after) ≡ Some k.0 = origin_among-append want before after k.0 k.1 in
    let P : List Numbered → Type 0 = λ rs. CanFollow (last s.entries) rs in
    let same : rows_past (last s.entries) (kept (history_of k.0)) ≡ rows = let q : Some (rows_past (last s.entries) (kept (history_of k.0))) ≡ Some rows = ap (λ o. missing_of o s) (sym found) ∙ e in cc in
    subst P same (can_follow (last s.entries) k.0 (origin_numbered want.node want.stream (before ++ after) k.0 n found))
missing_follows before after s (Sources wants) rows n k e = absurd k

-- what misses something is a mirror
missing_mirror : (streams : List StreamLog) (s : StreamLog) (copies : Copies) (rows : List Numbered) → missing_kind streams s copies ≡ Some rows → 0 < index_count copies
missing_mirror streams s Nothing rows e = not_some rows e
missing_mirror streams s (Mirror want) rows e = omega arith
missing_mirror streams s (Sources wants) rows e = not_some rows e

pub feeds_follow : (streams : List StreamLog) (k : ℕ) (rows : List Numbered) → k < length streams → AreSound streams → missing_kind streams (get_or streams k no_stream) (get_or streams k no_stream).config.copies ≡ Some rows → CanFollow (last (get_or streams k no_stream).entries) rows
feeds_follow streams k rows h kept e =
    let s = get_or streams k no_stream in
    let whole : take k streams ++ drop k streams ≡ streams = take-append-drop k streams in
    let A : List StreamLog → Type 0 = λ x. AllNumbered x in
    let M : List StreamLog → Type 0 = λ x. missing_kind x s s.config.copies ≡ Some rows in
    missing_follows (take k streams) (drop k streams) s s.config.copies rows (subst A (sym whole) kept.numbers) (AllKeep-at [] streams k no_stream h kept.copies) (subst M (sym whole) e)

pub feeds_mirror : (streams : List StreamLog) (k : ℕ) (rows : List Numbered) → k < length streams → AreSound streams → missing_kind streams (get_or streams k no_stream) (get_or streams k no_stream).config.copies ≡ Some rows → 0 < index_count (limits_of (get_or streams k no_stream)).copies
feeds_mirror streams k rows h kept e =
    let s = get_or streams k no_stream in
    let P : Copies → Type 0 = λ c. 0 < index_count c in
    subst P (sym (AllNumbered-at streams k no_stream h kept.numbers).copies) (missing_mirror streams s s.config.copies rows e)

-- one row more was added
pub record AddsRow (first t : StreamLog) (rows : List Numbered) (i : ℕ) : Type 0 where
  pub stream : t ≡ record first { entries = first.entries ++ map copied_entry (take (i + 1) rows) }
  pub rest : CanFollow (last t.entries) (drop (i + 1) rows)

pub adds_row : (first s t : StreamLog) (rows : List Numbered) (i : ℕ) (row : Numbered) (m : Message) → i < length rows → row ≡ get_or rows i row → m ≡ row.message → s ≡ record first { entries = first.entries ++ map copied_entry (take i rows) } → t ≡ record s { entries = s.entries ++ Put row.seq m None ∷ [] } → CanFollow (last s.entries) (drop i rows) → AddsRow first t rows i
adds_row first s t rows i row m h at same is step can =
    let here : drop i rows ≡ row ∷ drop (i + 1) rows = drop-cons rows i row h ∙ (ap (λ x. x ∷ drop (suc i) rows) (sym at) ∙ ap (λ n. row ∷ drop n rows) (sym (add-one i))) in
    let C : List Numbered → Type 0 = λ rs. CanFollow (last s.entries) rs in
    let more : take (i + 1) rows ≡ take i rows ++ row ∷ [] = take_more rows i row h ∙ ap (λ x. take i rows ++ x ∷ []) (sym at) in
    let added : s.entries ++ Put row.seq m None ∷ [] ≡ s.entries ++ copied_entry row ∷ [] = ap (λ x. s.entries ++ Put row.seq x None ∷ []) same in
    let T : StreamLog → Type 0 = λ x. CanFollow (last x.entries) (drop (i + 1) rows) in
    let t_is : t ≡ record s { entries = s.entries ++ copied_entry row ∷ [] } = step ∙ ap (λ es. let x : StreamLog = record s { entries = es } in x) added in
    let log : (first.entries ++ map copied_entry (take i rows)) ++ copied_entry row ∷ [] ≡ first.entries ++ map copied_entry (take (i + 1) rows) =
    append_assoc first.entries (map copied_entry (take i rows)) (copied_entry row ∷ []) ∙ ap (λ es. first.entries ++ es) (sym (map-append copied_entry (take i rows) (row ∷ [])) ∙ ap (map copied_entry) (sym more)) in
    let S : StreamLog → Type 0 = λ x. record x { entries = x.entries ++ copied_entry row ∷ [] } ≡ record first { entries = first.entries ++ map copied_entry (take (i + 1) rows) } in
    record {
      stream = t_is ∙ subst S (sym is) (ap (λ es. let x : StreamLog = record first { entries = es } in x) log);
      rest = subst T (sym t_is) (copied_on s row (drop (i + 1) rows) (subst C here can));
    }

pub row_fits : (s : StreamLog) (rows : List Numbered) (i : ℕ) (row : Numbered) → i < length rows → row ≡ get_or rows i row → CanFollow (last s.entries) (drop i rows) → (last s.entries < row.seq) × (row.seq < 2 ^ 63) × Unit {0}
row_fits s rows i row h at can =
    let here : drop i rows ≡ row ∷ drop (suc i) rows = drop-cons rows i row h ∙ ap (λ x. x ∷ drop (suc i) rows) (sym at) in
    let C : List Numbered → Type 0 = λ rs. CanFollow (last s.entries) rs in
    let f = subst C here can in
    (f.0, f.1, tt)

-- the stream at a place, whatever stands in for none
pub stream_is : (streams seen : List StreamLog) (k : ℕ) (s : StreamLog) → k < length streams → seen ≡ streams → s ≡ get_or streams k s → s ≡ get_or seen k no_stream
stream_is streams seen k s h e at = at ∙ (get_or_default streams k s no_stream h ∙ ap (λ xs. get_or xs k no_stream) (sym e))

-- one stream more has taken what it missed
pub record SettlesMore (k : ℕ) (first new : List StreamLog) (end : ℕ) : Type 0 where
  pub streams : new ≡ settled_upto (k + 1) first
  pub many : length new ≡ end
  pub kept : AreSound new

length-settled : (k : ℕ) (first : List StreamLog) → length (settled_upto k first) ≡ length first
length-settled zero first = refl
length-settled (suc k) first = length-set (settled_upto k first) k _ ∙ length-settled k first

pub settles_more : (k : ℕ) (first now new : List StreamLog) (end : ℕ) → k < end → AreSound first → now ≡ settled_upto k first → length now ≡ end → new ≡ settle_at k now → SettlesMore k first new end
settles_more k first now new end h kept so long step =
    let is : new ≡ settled_upto (suc k) first = step ∙ ap (settle_at k) so in
    let many : length first ≡ end = sym (length-settled k first) ∙ (ap length (sym so) ∙ long) in
    let f = fed_upto (suc k) first (omega (arith, many, h)) kept in
    let P : List StreamLog → Type 0 = λ x. AreSound x in
    record {
      streams = is ∙ ap (λ n. settled_upto n first) (sym (add-one k));
      many = ap length is ∙ (length-settled (suc k) first ∙ many);
      kept = subst P (sym is) f.kept;
    }
