-- What comes of a load, by each way of its parts.
use Rattle.log_replay.specs.Replays.{IsReplayOf}
use Rattle.log_replay.specs.declared.replay.Replay.{Replay}
use Rattle.record_codec.specs.declared.records.Rec.TheVariants.{Boot, Create, Of, Remove}
use Rattle.record_codec.specs.declared.records.Rec.{Rec}
use Rattle.record_log.specs.Appending.{IsOpenAt}
use Rattle.record_log.specs.LogStates.{LogState}
use Rattle.record_log.specs.Opening.{FailsBy}
use Rattle.record_log.specs.Standing.{EachStandsFor, IsOneOf, SinceStandFor}
use Rattle.record_log.specs.declared.fault.OpenFault.TheVariants as open_as
use Rattle.record_log.specs.declared.fault.OpenFault.{OpenFault}
use Rattle.shard_calls.proofs.CallSteps.{bad, full, is_ready, loaded_as, loads, opening, too_long, unopened, unread, without_memory}
use Rattle.shard_calls.proofs.LogLists.{Within, one_left, way-joined}
use Rattle.shard_calls.proofs.ShardCalls.{moves-same}
use Rattle.shard_calls.proofs.ShardMoves.{each-within, end_after-append, keeps-loaded, keeps-unloaded, legal-push, since-within}
use Rattle.shard_calls.specs.Adding.{has_place}
use Rattle.shard_calls.specs.Failing.{failure}
use Rattle.shard_calls.specs.Memories.{MemoryParts, ShardState, at}
use Rattle.shard_calls.specs.Shards.{IsFor, IsReread, Keeps, KeepsIf, Moves, PassesBy, Readies, on_the_way, with_doubt}
use Rattle.shard_calls.specs.declared.doubt.Failure.{Failure}
use Rattle.shard_machine.proofs.Images.{image_after-append}
use Rattle.shard_machine.proofs.LogSteps.{boot-snoc}
use Rattle.shard_machine.specs.Images.{LogImage, image, image_after, next, no_image}
use Rattle.shard_machine.specs.Legal.{IsLegal, MayAllFollow, MayFollow}
use Rattle.shard_machine.specs.Logs.{boot, boot_after}
use Rattle.shard_machine.specs.Steps.{Held, IsReady, IsSettled, Refuses, end_after, entry_in_doubt, has_room, may_open, needed, next_boot, taken}
use Rattle.shard_machine.specs.declared.call.ShardCall.{ShardCall}
use Rattle.shard_machine.specs.declared.reply.ShardRefusal.TheVariants as refusal
use Rattle.shard_table.specs.Effects.{opened}
use Rattle.shard_table.specs.Holding.{Holds}
use Rattle.shard_table.specs.declared.table.Table.{Table}
use Rattle.std.proofs.Common.{Bool, Err, List, None, Ok, Option, Result, Some, [], ap, append-nil, append_assoc, arith, false, inl, inr, min, nat_le, nat_lt, refl, subst, sym, true, ℕ, ◌&&◌, ◌++◌, ◌+◌, ◌-◌, ◌<◌, ◌^◌, ◌∙◌, ◌∷◌, ◌≡◌, ◌≤◌}
use Rattle.std.proofs.lemmas.Bool.Decides.{nat_tests}
use Rattle.std.specs.Prelude.{OnErr}
use Rattle.stream_fold.specs.declared.entry.Entry.{Entry}

-- the image of a log has its number of openings
pub image-boot : (i : LogImage) (log : List Rec) → (image_after i log).boot ≡ boot_after i.boot log
unfolding boot_after
image-boot i [] = refl
image-boot i (Boot n ∷ log) = image-boot (next i (Boot n)) log
image-boot i (Create time config ∷ log) = image-boot (next i (Create time config)) log
image-boot i (Remove name ∷ log) = image-boot (next i (Remove name)) log
image-boot i (Of name entry ∷ log) = image-boot (next i (Of name entry)) log

-- a record that may follow has a small number, if it is an opening
small-after : (log : List Rec) (r : Rec) → boot log < 2 ^ 63 → MayFollow log r → boot_after (boot log) (r ∷ []) < 2 ^ 63
unfolding boot_after
small-after log (Boot n) small may = may.1
small-after log (Create time config) small may = small
small-after log (Remove name) small may = small
small-after log (Of name entry) small may = small

all-small : (log rs : List Rec) → boot log < 2 ^ 63 → MayAllFollow log rs → boot (log ++ rs) < 2 ^ 63
all-small log [] small may = subst (λ (l : List Rec). boot l < 2 ^ 63) (sym (append-nil log)) small
all-small log (r ∷ rs) small may =
    subst (λ (l : List Rec). boot l < 2 ^ 63) (append_assoc log (r ∷ []) rs)
    (all-small (log ++ r ∷ []) rs (subst (λ (n : ℕ). n < 2 ^ 63) (sym (boot-snoc 0 log r)) (small-after log r small may.0)) may.1)

-- the openings of a legal log are fewer than 2^63
pub boot-small : (log : List Rec) → IsLegal log → boot log < 2 ^ 63
unfolding boot_after
boot-small log legal = all-small [] log (omega arith) legal

-- the number of the next opening, where there are fewer than 2^63
pub opening-number : (b n : ℕ) → b < 2 ^ 63 → n ≡ min (b + 1) (2 ^ 64 - 1) → n ≡ b + 1
opening-number b n small is = omega arith

-- whether it is small enough is told by the one before
pub numbers-agree : (b n : ℕ) → n ≡ b + 1 → nat_lt b (2 ^ 63 - 1) ≡ nat_lt n (2 ^ 63)
numbers-agree b n is = grind (arith, nat_tests, is)

pub below-number : (b k : ℕ) → b ≡ k → nat_lt b (2 ^ 63 - 1) ≡ true → k + 1 < 2 ^ 63
below-number b k is small = grind (arith, nat_tests, is, small)

-- what stands for one of these logs stands for the one before with what was settled
pub settle : (log before : List Rec) (doubt : Option Rec) → IsOneOf log (with_doubt before doubt) → (settled : List Rec) × IsSettled doubt settled × (log ≡ before ++ settled)
settle log before None (inl is) = ([], refl, is ∙ sym (append-nil before))
settle log before None (inr none) = absurd none
settle log before (Some r) (inl is) = ([], inl refl, is ∙ sym (append-nil before))
settle log before (Some r) (inr (inl is)) = (r ∷ [], inr refl, is)
settle log before (Some r) (inr (inr none)) = absurd none

-- a log with what was settled is one of those for which the disks stood
pub settled-within : (before : List Rec) (doubt : Option Rec) (settled : List Rec) → IsSettled doubt settled → Within ((before ++ settled) ∷ []) (with_doubt before doubt)
settled-within before None settled is l (inl here) = inl (here ∙ ap (λ (s : List Rec). before ++ s) is ∙ append-nil before)
settled-within before (Some r) settled (inl none) l (inl here) = inl (here ∙ ap (λ (s : List Rec). before ++ s) none ∙ append-nil before)
settled-within before (Some r) settled (inr one) l (inl here) = inr (inl (here ∙ ap (λ (s : List Rec). before ++ s) one))
settled-within before doubt settled is l (inr none) = absurd none

-- ---- the next opening

module _ {D : Type 0} (images : D → List ℕ → Type 0) (moment : D → ℕ) (left_since : D → ℕ → List ℕ → Type 0) (m new : MemoryParts) (l l' : LogState D) (streams : Replay) (h : Held) (before settled : List Rec) (keeps : Keeps (at m l) h) (re : IsReread images l streams h before settled) (n : ℕ) where
  abbrev whole : List Rec
  whole = before ++ settled

  -- what is held of the log that was read
  abbrev found : LogImage
  found = image_after h.image settled

  image-whole : found ≡ image whole
  image-whole = ap (λ (i : LogImage). image_after i settled) re.image_is ∙ sym (image_after-append no_image before settled)

  boot-whole : found.boot ≡ streams.boot
  boot-whole = ap (λ (i : LogImage). i.boot) image-whole ∙ image-boot no_image whole ∙ sym re.replayed.boot_is

  pub streams-small : streams.boot < 2 ^ 63
  streams-small = subst (λ (b : ℕ). b < 2 ^ 63) (sym re.replayed.boot_is) (boot-small whole re.legal)

  -- the opening that is added is the next one
  pub is-next : n ≡ streams.boot + 1 → Boot n ≡ next_boot found
  is-next is = ap (λ (k : ℕ). Boot k) (is ∙ ap (λ (k : ℕ). k + 1) (sym boot-whole))

  end-whole : l.end ≡ end_after h.end settled
  end-whole = re.end ∙ end_after-append 17 before settled ∙ sym (ap (λ (e : ℕ). end_after e settled) re.end_is)

  -- the room that was looked for is that of a load
  pub opening-room : (numbered : Bool) → n ≡ streams.boot + 1 → numbered ≡ nat_lt n (2 ^ 63) → has_place l.end (Boot n) numbered ≡ may_open h settled
  opening-room numbered is number =
      ap (λ (e : ℕ). nat_le (e + needed (Boot n)) (2 ^ 40) && numbered) end-whole
      ∙ ap (λ (b : Bool). nat_le (end_after h.end settled + needed (Boot n)) (2 ^ 40) && b) number
      ∙ ap (λ (r : Rec). has_room (end_after h.end settled) found r) (is-next is)

  pub opening-follows : n ≡ streams.boot + 1 → nat_lt n (2 ^ 63) ≡ true → MayFollow whole (Boot n)
  opening-follows is small = (is ∙ ap (λ (k : ℕ). k + 1) re.replayed.boot_is, grind (arith, nat_tests, small))

  -- the view that was held before
  abbrev pub parts : KeepsIf false (at m l) h
  parts = subst (λ (b : Bool). KeepsIf b (at m l) h) (sym keeps.loaded ∙ re.off) keeps.parts

  module _ (is : n ≡ streams.boot + 1) (later : (moment l.main ≤ moment l'.main) × (moment l.spare ≤ moment l'.spare))
      (passes : (t u : ℕ) (logs : List (List Rec)) → t ≤ moment l.main → u ≤ moment l.spare → SinceStandFor left_since t u l.main l.spare logs → SinceStandFor left_since t u l'.main l'.spare ((whole ++ Boot n ∷ []) ∷ logs)) where
    both : whole ++ Boot n ∷ [] ≡ before ++ (settled ++ Boot n ∷ [])
    both = append_assoc before settled (Boot n ∷ [])

    on-the-way : (records : List Rec) → records ≡ settled ++ Boot n ∷ [] → PassesBy moment left_since l l' (on_the_way before h.doubt records)
    on-the-way records same t u logs le le' since = since-within images moment left_since l' t u ((whole ++ Boot n ∷ []) ∷ logs) _ (subst (λ (rs : List Rec). Within ((whole ++ Boot n ∷ []) ∷ logs) (logs ++ on_the_way before h.doubt rs)) (sym same) (way-joined logs before h.doubt settled (Boot n))) (passes t u logs le le' since)

    -- it was added
    module _ (place : may_open h settled ≡ true) (may : MayFollow whole (Boot n)) (is_open : IsOpenAt l' (l.end + taken (Boot n))) (stands : EachStandsFor images l'.main l'.spare ((whole ++ Boot n ∷ []) ∷ []))
        (on' : new.loaded ≡ true) (holds : Holds new.table (opened parts.1.node (next (image whole) (Boot n)))) where
      abbrev records : List Rec
      records = settled ++ Boot n ∷ []

      image-then : image_after h.image records ≡ next (image whole) (Boot n)
      image-then = image_after-append h.image settled (Boot n ∷ []) ∙ ap (λ (i : LogImage). next i (Boot n)) image-whole

      end-then : end_after h.end records ≡ l.end + taken (Boot n)
      end-then = end_after-append h.end settled (Boot n ∷ []) ∙ ap (λ (e : ℕ). e + taken (Boot n)) (sym end-whole)

      then_keeps : Keeps (at new l') (loaded_as h records)
      then_keeps = keeps-loaded (at new l') (loaded_as h records) on' refl refl (is_open.0, is_open.1 ∙ sym end-then)
          (subst (λ (i : LogImage). Holds new.table (opened h.node i)) (sym image-then) (subst (λ (node : List ℕ). Holds new.table (opened node (next (image whole) (Boot n)))) parts.3 holds))

      pub opens : (result : Result Unit Failure) → result ≡ Ok tt → Readies images moment left_since l (at new l') h before result
      opens result ok = subst (Readies images moment left_since l (at new l') h before) (sym ok) (
        records,
        loaded_as h records,
        subst (λ (r : Rec). IsReady h (settled ++ r ∷ []) (loaded_as h (settled ++ r ∷ []))) (sym (is-next is)) (loads h settled re.off re.is_settled place),
        record {
          keeps = then_keeps;
          stands = record {
            legal = subst IsLegal both (legal-push whole (Boot n) re.legal may);
            image_is = ap (λ (i : LogImage). image_after i records) re.image_is ∙ sym (image_after-append no_image before records);
            end_is = ap (λ (e : ℕ). end_after e records) re.end_is ∙ sym (end_after-append 17 before records);
            disks = subst (λ (x : List Rec). EachStandsFor images l'.main l'.spare (x ∷ [])) both stands;
          };
          later = later;
          passes = on-the-way (records ++ []) (append-nil records);
        },
      )

    -- a disk failed
    module _ (place : may_open h settled ≡ true) (stands : EachStandsFor images l'.main l'.spare (whole ∷ (whole ++ Boot n ∷ []) ∷ [])) (off' : new.loaded ≡ false) (doubted : new.doubt ≡ Some (Boot n)) (holds : Holds new.table (opened parts.1.node (image whole))) where
      doubt-is : Some (next_boot found) ≡ Some (Boot n)
      doubt-is = sym (ap (λ (r : Rec). Some r) (is-next is))

      pub opens-in-doubt : Readies {T = Unit} images moment left_since l (at new l') h before (Err (record { why = refusal.DiskFault; doubted = None }))
      opens-in-doubt = (
        settled,
        Boot n ∷ [],
        opening h settled,
        (λ c. unopened h c settled re.off re.is_settled place),
        (λ c. inr (inl (Boot n, refl, doubt-is))),
        record {
          keeps = keeps-unloaded (at new l') (opening h settled) (opened parts.1.node (image whole)) off' re.off (doubt-is ∙ sym doubted) holds parts.3 (sym image-whole);
          stands = record {
            legal = re.legal;
            image_is = image-whole;
            end_is = sym end-whole ∙ re.end;
            disks = subst (λ (d : Option Rec). EachStandsFor images l'.main l'.spare (with_doubt whole d)) (sym doubt-is) stands;
          };
          later = later;
          passes = on-the-way (settled ++ Boot n ∷ []) refl;
        },
      )

    -- there was no memory for it
    module _ (same_memory : new ≡ m) (stands : EachStandsFor images l'.main l'.spare (whole ∷ [])) where
      pub opens-short : Readies {T = Unit} images moment left_since l (at new l') h before (Err (record { why = refusal.NoMemory; doubted = None }))
      opens-short = (
        [],
        settled ++ Boot n ∷ [],
        h,
        (λ c. without_memory h c),
        (λ c. inr (inr (inr (re.off, settled, re.is_settled, ap (λ (r : Rec). settled ++ r ∷ []) (is-next is))))),
        record {
          keeps = subst (λ (x : MemoryParts). Keeps (at x l') h) (sym same_memory) (record { loaded = keeps.loaded; parts = subst (λ (b : Bool). KeepsIf b (at m l') h) (sym (sym keeps.loaded ∙ re.off)) parts });
          stands = subst (λ (x : List Rec). IsFor images l' h x) (sym (append-nil before)) (record {
            legal = re.legal_before;
            image_is = re.image_is;
            end_is = re.end_is;
            disks = each-within images moment left_since l' (whole ∷ []) (with_doubt before h.doubt) (settled-within before h.doubt settled re.is_settled) stands;
          });
          later = later;
          passes = on-the-way (settled ++ Boot n ∷ []) refl;
        },
      )

  -- nothing was written
  module _ (failure : Failure) (refuses : (c : ShardCall) → Refuses h c failure.why failure.doubted [] h) (same : l' ≡ l) (same_memory : new ≡ m) where
    pub opens-not : Readies {T = Unit} images moment left_since l (at new l') h before (Err failure)
    opens-not = (
      [],
      [],
      h,
      refuses,
      (λ c. inl refl),
      subst (λ (x : LogState D). Moves images moment left_since l (at new x) h.doubt before [] [] h) (sym same) (record {
        keeps = subst (λ (x : MemoryParts). Keeps (at x l) h) (sym same_memory) keeps;
        stands = subst (λ (x : List Rec). IsFor images l h x) (sym (append-nil before)) (record {
          legal = re.legal_before;
          image_is = re.image_is;
          end_is = re.end_is;
          disks = each-within images moment left_since l (whole ∷ []) (with_doubt before h.doubt) (settled-within before h.doubt settled re.is_settled) re.stands;
        });
        later = (omega arith, omega arith);
        passes = λ t u logs le le' since. since-within images moment left_since l t u logs _ (λ x one. one_left x logs _ one) since;
      }),
    )

  -- it has no room
  pub opening-full : (end need : ℕ) → n ≡ streams.boot + 1 → may_open h settled ≡ false → end ≡ l.end → need ≡ needed (Boot n) → (c : ShardCall) → Refuses h c (refusal.JournalFull end need) None [] h
  opening-full end need is lacks end_is need_is c =
      subst (λ (k : ℕ). Refuses h c (refusal.JournalFull k need) None [] h) (sym (end_is ∙ end-whole))
      (subst (λ (k : ℕ). Refuses h c (refusal.JournalFull (end_after h.end settled) k) None [] h) (sym (need_is ∙ ap needed (is-next is))) (full h c settled re.off re.is_settled lacks))

-- ---- readiness

-- a shard that isn't ready isn't loaded, if it keeps anything
pub not-ready : {D : Type 0} (m : MemoryParts) (l : LogState D) (h : Held) → Keeps (at m l) h → (m.loaded && l.is_open) ≡ false → h.loaded ≡ false
not-ready m l h keeps off = keeps.loaded ∙ by m.loaded refl
  where
    by : (b : Bool) → m.loaded ≡ b → m.loaded ≡ false
    by false is = is
    by true is =
        let is_open : l.is_open ≡ true = (subst (λ (x : Bool). KeepsIf x (at m l) h) is keeps.parts).1.0 in
        let wrong : true ≡ false = sym (ap (λ (x : Bool). x && l.is_open) is ∙ ap (λ (x : Bool). true && x) is_open) ∙ off in
        absurd (cc)

-- and one that is, is loaded
pub when-ready : (b o : Bool) → (b && o) ≡ true → (b ≡ true) × (o ≡ true)
when-ready true o both = (refl, both)
when-ready false o both = absurd (cc)

-- what isn't loaded is kept whatever becomes of the log
pub keeps-still : {D : Type 0} (m new : MemoryParts) (l l' : LogState D) (h : Held) → Keeps (at m l) h → h.loaded ≡ false → new.table ≡ m.table → new.loaded ≡ false → new.doubt ≡ m.doubt → Keeps (at new l') h
keeps-still m new l l' h keeps off table off' doubt =
    let was : KeepsIf false (at m l) h = subst (λ (x : Bool). KeepsIf x (at m l) h) (sym keeps.loaded ∙ off) keeps.parts in
    keeps-unloaded (at new l') h was.1 off' off (was.0 ∙ sym doubt) (subst (λ (t : Table). Holds t was.1) (sym table) was.2) was.3 was.4

module _ {D : Type 0} (images : D → List ℕ → Type 0) (moment : D → ℕ) (left_since : D → ℕ → List ℕ → Type 0) (l : LogState D) (h : Held) (before : List Rec) (is : IsFor images l h before) where
  -- it was loaded
  pub ready-still : (m : MemoryParts) → Keeps (at m l) h → h.loaded ≡ true → Readies {T = Unit} images moment left_since l (at m l) h before (Ok tt)
  ready-still m keeps on = ([], h, is_ready h on, moves-same images moment left_since m l h h before keeps is refl refl refl)

  -- nothing was read
  pub ready-short : (new : MemoryParts) → Keeps (at new l) h → Readies {T = Unit} images moment left_since l (at new l) h before (Err (record { why = refusal.NoMemory; doubted = None }))
  ready-short new keeps = ([], [], h, (λ c. without_memory h c), (λ c. inl refl), moves-same images moment left_since new l h h before keeps is refl refl refl)

  module _ (l' : LogState D) (later : (moment l.main ≤ moment l'.main) × (moment l.spare ≤ moment l'.spare))
      (passes : (t u : ℕ) (logs : List (List Rec)) → t ≤ moment l.main → u ≤ moment l.spare → SinceStandFor left_since t u l.main l.spare logs → SinceStandFor left_since t u l'.main l'.spare logs) where
    -- the disks could not be read
    pub ready-unread : (new : MemoryParts) (failure : Failure) → Keeps (at new l') h → ((c : ShardCall) → Refuses h c failure.why failure.doubted [] h) → EachStandsFor images l'.main l'.spare (with_doubt before h.doubt) → Readies {T = Unit} images moment left_since l (at new l') h before (Err failure)
    ready-unread new failure keeps refuses stands = (
      [],
      [],
      h,
      refuses,
      (λ c. inl refl),
      record {
        keeps = keeps;
        stands = subst (λ (x : List Rec). IsFor images l' h x) (sym (append-nil before)) (record { legal = is.legal; image_is = is.image_is; end_is = is.end_is; disks = stands });
        later = later;
        passes = λ t u logs le le' since. since-within images moment left_since l' t u logs _ (λ x one. one_left x logs _ one) (passes t u logs le le' since);
      },
    )

    moves-behind : (new : ShardState D) (d : Option Rec) (records tried : List Rec) (after : Held) → Moves images moment left_since l' new d before records tried after → Moves images moment left_since l new d before records tried after
    moves-behind new d records tried after moves = record {
      keeps = moves.keeps;
      stands = moves.stands;
      later = (omega (arith, later.0, moves.later.0), omega (arith, later.1, moves.later.1));
      passes = λ t u logs le le' since. moves.passes t u logs (omega (arith, le, later.0)) (omega (arith, le', later.1)) (passes t u logs le le' since);
    }

    -- what comes of the rest comes of the whole
    pub ready-behind : (new : ShardState D) (result : Result Unit Failure) → Readies images moment left_since l' new h before result → Readies images moment left_since l new h before result
    ready-behind new (Ok value) then = (then.0, then.1, then.2, moves-behind new h.doubt then.0 [] then.1 then.3)
    ready-behind new (Err failure) then = (then.0, then.1, then.2, then.3, then.4, moves-behind new h.doubt then.0 then.1 then.2 then.5)

-- why a call is refused whose load could not read the disks
pub failure-refuses : (h : Held) (fault : OpenFault) (doubted : Option Entry) → h.loaded ≡ false → doubted ≡ entry_in_doubt h.doubt → ((len : ℕ) → fault ≡ open_as.TooLong len → 2 ^ 40 < len) → (c : ShardCall) → Refuses h c (failure fault doubted).why (failure fault doubted).doubted [] h
failure-refuses h open_as.ReadFault doubted off is long c = subst (λ (d : Option Entry). Refuses h c refusal.DiskFault d [] h) (sym is) (unread h c off)
failure-refuses h open_as.SyncFault doubted off is long c = subst (λ (d : Option Entry). Refuses h c refusal.DiskFault d [] h) (sym is) (unread h c off)
failure-refuses h (open_as.BadJournal place) doubted off is long c = bad h c place off
failure-refuses h (open_as.TooLong len) doubted off is long c = too_long h c len off (long len refl)
failure-refuses h open_as.NoMemory doubted off is long c = without_memory h c

-- what was read is that of the shard
pub reread : {D : Type 0} (images : D → List ℕ → Type 0) (l l' : LogState D) (streams : Replay) (h : Held) (before log : List Rec) → h.loaded ≡ false → IsFor images l h before → IsLegal log → IsReplayOf streams log → l'.end ≡ end_after 17 log → EachStandsFor images l'.main l'.spare (log ∷ []) → IsOneOf log (with_doubt before h.doubt)
    → (settled : List Rec) × IsReread images l' streams h before settled
reread images l l' streams h before log off is legal replayed end stands one =
    let found = settle log before h.doubt one in (
      found.0,
      record {
        off = off;
        legal_before = is.legal;
        image_is = is.image_is;
        end_is = is.end_is;
        legal = subst IsLegal found.2 legal;
        replayed = subst (IsReplayOf streams) found.2 replayed;
        is_settled = found.1;
        end = end ∙ ap (end_after 17) found.2;
        stands = subst (λ (x : List Rec). EachStandsFor images l'.main l'.spare (x ∷ [])) found.2 stands;
      },
    )

-- the doubt of a shard that isn't loaded is that of its memory
pub doubt-same : {D : Type 0} (m : MemoryParts) (l : LogState D) (h : Held) → Keeps (at m l) h → h.loaded ≡ false → h.doubt ≡ m.doubt
doubt-same m l h keeps off = (subst (λ (x : Bool). KeepsIf x (at m l) h) (sym keeps.loaded ∙ off) keeps.parts).0

-- a disk that is too long has more than 2^40 bytes
pub too-long-is : (a b : List ℕ) (len : ℕ) → FailsBy a b (open_as.TooLong len) → 2 ^ 40 < len
too-long-is a b len long = elim long.1 [
  | inl main ↦ subst (λ (n : ℕ). 2 ^ 40 < n) (sym main.1.1) main.1.0
  | inr spare ↦ subst (λ (n : ℕ). 2 ^ 40 < n) (sym spare.2.1) spare.2.0
]

pub on-err : (P : Type 0) (r : Result Unit Failure) → P → OnErr r P
on-err P (Ok value) is = tt
on-err P (Err failure) is = is
