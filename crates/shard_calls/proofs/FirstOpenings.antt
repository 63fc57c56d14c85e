-- What the first opening of a log leaves, and what a load finds and leaves.
use Rattle.std.proofs.Common.{◌≡◌, ◌≢◌, ◌∙◌, ℕ, ◌+◌, ◌-◌, ◌<◌, ◌^◌, min, Bool, true, false, ◌&&◌, nat_le, nat_lt, List, [], ◌∷◌, ◌++◌, refl, sym, ap, subst, inl, inr, arith}
use Rattle.std.proofs.lemmas.Bool.Decides.{nat_tests}
use Rattle.log_replay.specs.Replays.{IsReplayOf}
use Rattle.log_replay.specs.declared.replay.Replay.{Replay}
use Rattle.record_codec.specs.declared.records.Rec.{Rec}
use Rattle.record_codec.specs.declared.records.Rec.TheVariants.{Boot}
use Rattle.record_log.specs.Appending.{IsOpenAt}
use Rattle.record_log.specs.LogStates.{LogState}
use Rattle.record_log.specs.Opening.{FailsBy}
use Rattle.record_log.specs.Standing.{StandIn, EachStandsFor, SinceStandFor, SinceStandOrTorn, IsOneOf}
use Rattle.record_log.specs.declared.fault.OpenFault.{OpenFault}
use Rattle.record_log.specs.declared.fault.OpenFault.TheVariants as open_as
use Rattle.shard_machine.proofs.Images.{image_after-append}
use Rattle.shard_machine.specs.Images.{LogImage, image, next, no_image}
use Rattle.shard_machine.specs.Legal.{IsLegal, MayFollow}
use Rattle.shard_machine.specs.Steps.{end_after, has_room, needed, next_boot, taken}
use Rattle.shard_machine.specs.Views.{View}
use Rattle.shard_table.specs.Effects.{opened}
use Rattle.shard_table.specs.Holding.{Holds}
use Rattle.shard_calls.specs.Adding.{has_place}
use Rattle.shard_calls.specs.FirstLoads.{LoadFails, OpeningFails, has_opening, held_of, opened_log, opened_logs}
use Rattle.shard_calls.specs.Memories.{MemoryParts, at}
use Rattle.shard_calls.specs.Shards.{Keeps, IsFor}
use Rattle.shard_calls.proofs.Loading.{boot-small, image-boot, opening-number}
use Rattle.shard_calls.proofs.LogLists.{Within, one_left, one_right, stands-within}
use Rattle.shard_calls.proofs.ShardMoves.{end_after-append, keeps-loaded, legal-push}

module _ {D : Type 0} (l l' : LogState D) (streams : Replay) (before : List Rec) (legal : IsLegal before) (replayed : IsReplayOf streams before) (end : l.end ≡ end_after 17 before) (n : ℕ) (is : n ≡ min (streams.boot + 1) (2 ^ 64 - 1)) where
  small : streams.boot < 2 ^ 63
  small = subst (λ (b : ℕ). b < 2 ^ 63) (sym replayed.boot_is) (boot-small before legal)

  pub first-number : n ≡ streams.boot + 1
  first-number = opening-number streams.boot n small is

  boot-is : (image before).boot ≡ streams.boot
  boot-is = image-boot no_image before ∙ sym replayed.boot_is

  pub opening-is : Boot n ≡ next_boot (image before)
  opening-is = ap (λ (k : ℕ). Boot k) (first-number ∙ ap (λ (k : ℕ). k + 1) (sym boot-is))

  -- the room that was looked for is that of the next opening
  pub first-room : (numbered : Bool) → numbered ≡ nat_lt n (2 ^ 63) → has_place l.end (Boot n) numbered ≡ has_opening before
  first-room numbered numbers =
      ap (λ (e : ℕ). nat_le (e + needed (Boot n)) (2 ^ 40) && numbered) end
      ∙ ap (λ (b : Bool). nat_le (end_after 17 before + needed (Boot n)) (2 ^ 40) && b) numbers
      ∙ ap (λ (r : Rec). has_room (end_after 17 before) (image before) r) opening-is

  pub first-may : nat_lt n (2 ^ 63) ≡ true → MayFollow before (Boot n)
  first-may number = (first-number ∙ ap (λ (k : ℕ). k + 1) replayed.boot_is, grind (arith, nat_tests, number))

  log-is : before ++ Boot n ∷ [] ≡ opened_log before
  log-is = ap (λ (r : Rec). before ++ r ∷ []) opening-is

  end-then : end_after 17 (opened_log before) ≡ l.end + taken (Boot n)
  end-then = end_after-append 17 before (next_boot (image before) ∷ []) ∙ ap (λ (e : ℕ). e + taken (next_boot (image before))) (sym end) ∙ ap (λ (r : Rec). l.end + taken r) (sym opening-is)

  image-then : image (opened_log before) ≡ next (image before) (Boot n)
  image-then = image_after-append no_image before (next_boot (image before) ∷ []) ∙ ap (λ (r : Rec). next (image before) r) (sym opening-is)

  pub first-keeps : (m : MemoryParts) (v : View) → m.loaded ≡ true → IsOpenAt l' (l.end + taken (Boot n)) → Holds m.table (opened v.node (next (image before) (Boot n))) → Keeps (at m l') (held_of v.node (opened_log before))
  first-keeps m v on is_open holds = keeps-loaded (at m l') (held_of v.node (opened_log before)) on refl refl (is_open.0, is_open.1 ∙ sym end-then) (subst (λ (i : LogImage). Holds m.table (opened v.node i)) (sym image-then) holds)

  pub first-stands : (images : D → List ℕ → Type 0) (node : List ℕ) → MayFollow before (Boot n) → EachStandsFor images l'.main l'.spare ((before ++ Boot n ∷ []) ∷ []) → IsFor images l' (held_of node (opened_log before)) (opened_log before)
  first-stands images node may stands = record {
    legal = subst IsLegal log-is (legal-push before (Boot n) legal may);
    image_is = refl;
    end_is = refl;
    disks = subst (λ (x : List Rec). EachStandsFor images l'.main l'.spare (x ∷ [])) log-is stands;
  }

  pub first-since : (left_since : D → ℕ → List ℕ → Type 0) (t u : ℕ) (logs : List (List Rec)) → SinceStandFor left_since t u l'.main l'.spare ((before ++ Boot n ∷ []) ∷ logs) → SinceStandFor left_since t u l'.main l'.spare (opened_log before ∷ logs)
  first-since left_since t u logs since = subst (λ (x : List Rec). SinceStandFor left_since t u l'.main l'.spare (x ∷ logs)) log-is since

  pub first-apart : (seen : D → List ℕ) (images : D → List ℕ → Type 0) (left_since : D → ℕ → List ℕ → Type 0) (t u : ℕ) (main spare : D) (logs : List (List Rec)) → SinceStandOrTorn seen images left_since t u main spare ((before ++ Boot n ∷ []) ∷ logs) l'.main l'.spare → SinceStandOrTorn seen images left_since t u main spare (opened_log before ∷ logs) l'.main l'.spare
  first-apart seen images left_since t u main spare logs since = subst (λ (x : List Rec). SinceStandOrTorn seen images left_since t u main spare (x ∷ logs) l'.main l'.spare) log-is since

  -- it has no room
  pub first-full : (e need len : ℕ) → has_opening before ≡ false → e ≡ l.end → need ≡ needed (Boot n) → len ≡ min (e + need) (2 ^ 64 - 1) → OpeningFails before (open_as.TooLong len)
  first-full e need len room end_is need_is len_is = (
    room,
    len_is ∙ ap (λ (k : ℕ). min (k + need) (2 ^ 64 - 1)) (end_is ∙ end) ∙ ap (λ (k : ℕ). min (end_after 17 before + k) (2 ^ 64 - 1)) (need_is ∙ ap needed opening-is),
  )

-- ---- what a load finds

-- what keeps a log from being opened keeps a shard from being loaded
pub load-fails : (a b : List ℕ) (fault : OpenFault) → FailsBy a b fault → LoadFails a b fault
load-fails a b open_as.ReadFault f = tt
load-fails a b open_as.SyncFault f = tt
load-fails a b (open_as.BadJournal place) f = f
load-fails a b (open_as.TooLong len) f = inl f
load-fails a b open_as.NoMemory f = tt

-- and so does what keeps the opening from being added
pub opening-fails : (a b : List ℕ) (log : List Rec) (fault : OpenFault) → IsLegal log → StandIn log a b → OpeningFails log fault → LoadFails a b fault
opening-fails a b log open_as.ReadFault legal stands f = tt
opening-fails a b log open_as.SyncFault legal stands f = tt
opening-fails a b log (open_as.BadJournal place) legal stands f = absurd f
opening-fails a b log (open_as.TooLong len) legal stands f = inr (record { log = log; legal = legal; stands = stands; room = f.0; len_is = f.1 })
opening-fails a b log open_as.NoMemory legal stands f = tt

-- two disks with bytes aren't formatted
pub not-torn : {D : Type 0} (seen : D → List ℕ) (images : D → List ℕ → Type 0) (left_since : D → ℕ → List ℕ → Type 0) (t u : ℕ) (main spare main' spare' : D) (logs : List (List Rec)) → seen main ≢ [] → seen spare ≢ [] → SinceStandOrTorn seen images left_since t u main spare logs main' spare' → SinceStandFor left_since t u main' spare' logs
not-torn seen images left_since t u main spare main' spare' logs some some' since a b left right = elim (since a b left right) [
  | inl stands ↦ stands
  | inr torn ↦ elim torn [ inl first ↦ absurd (some first.0) | inr second ↦ absurd (some' second.0) ]
]

-- disks that stand for one of some logs stand for one of more
pub since-more : {D : Type 0} (left_since : D → ℕ → List ℕ → Type 0) (t u : ℕ) (main spare : D) (xs ys : List (List Rec)) → Within xs ys → SinceStandFor left_since t u main spare xs → SinceStandFor left_since t u main spare ys
since-more left_since t u main spare xs ys within since a b left right = stands-within a b xs ys within (since a b left right)

-- the log isn't touched
pub since-still : {D : Type 0} (left_since : D → ℕ → List ℕ → Type 0) (t u : ℕ) (old new : LogState D) (log : List Rec) (logs : List (List Rec)) → new ≡ old → SinceStandFor left_since t u old.main old.spare logs → SinceStandFor left_since t u new.main new.spare (log ∷ logs)
since-still left_since t u old new log logs same since = subst (λ (l : LogState _). SinceStandFor left_since t u l.main l.spare (log ∷ logs)) (sym same) (λ a b left right. inr (since a b left right))

-- the same since two disks were opened
pub apart-more : {D : Type 0} (seen : D → List ℕ) (images : D → List ℕ → Type 0) (left_since : D → ℕ → List ℕ → Type 0) (t u : ℕ) (main spare main' spare' : D) (xs ys : List (List Rec)) → Within xs ys → SinceStandOrTorn seen images left_since t u main spare xs main' spare' → SinceStandOrTorn seen images left_since t u main spare ys main' spare'
apart-more seen images left_since t u main spare main' spare' xs ys within since a b left right = elim (since a b left right) [ inl stands ↦ inl (stands-within a b xs ys within stands) | inr torn ↦ inr torn ]

pub apart-still : {D : Type 0} (seen : D → List ℕ) (images : D → List ℕ → Type 0) (left_since : D → ℕ → List ℕ → Type 0) (t u : ℕ) (main spare : D) (old new : LogState D) (log : List Rec) (logs : List (List Rec)) → new ≡ old → SinceStandOrTorn seen images left_since t u main spare logs old.main old.spare → SinceStandOrTorn seen images left_since t u main spare (log ∷ logs) new.main new.spare
apart-still seen images left_since t u main spare old new log logs same since = subst (λ (l : LogState _). SinceStandOrTorn seen images left_since t u main spare (log ∷ logs) l.main l.spare) (sym same) (λ a b left right. elim (since a b left right) [ inl stands ↦ inl (inr stands) | inr torn ↦ inr torn ])

opened-one : (log : List Rec) (logs : List (List Rec)) → IsOneOf log logs → IsOneOf (opened_log log) (opened_logs logs)
opened-one log [] one = absurd one
opened-one log (x ∷ logs) (inl here) = inl (ap opened_log here)
opened-one log (x ∷ logs) (inr there) = inr (opened-one log logs there)

pub within-left : (logs more : List (List Rec)) → Within logs (logs ++ more)
within-left logs more log one = one_left log logs more one

-- a log with its opening, beside some logs of which it is one, is within those and their openings
pub within-opened : (log : List Rec) (logs : List (List Rec)) → IsOneOf log logs → Within (opened_log log ∷ logs) (logs ++ opened_logs logs)
within-opened log logs one l (inl here) = one_right l logs (opened_logs logs) (subst (λ (x : List Rec). IsOneOf x (opened_logs logs)) (sym here) (opened-one log logs one))
within-opened log logs one l (inr there) = one_left l logs (opened_logs logs) there
