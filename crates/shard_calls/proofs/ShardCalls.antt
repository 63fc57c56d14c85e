-- What comes of a call of a loaded shard, by each way of its parts.
use Rattle.record_codec.specs.declared.records.Rec.{Rec}
use Rattle.record_log.specs.Appending.{IsOpenAt}
use Rattle.record_log.specs.LogStates.{LogState}
use Rattle.record_log.specs.Standing.{EachStandsFor, SinceStandFor}
use Rattle.shard_calls.proofs.CallSteps.{Replies, answered, doubting, faulted, lacking, refusal-step, turned_down, without_memory}
use Rattle.shard_calls.proofs.LogLists.{Within, one_left, way-added}
use Rattle.shard_calls.proofs.ShardMoves.{for-after, keeps-loaded, keeps-unloaded, kept-loaded, legal-push, since-within}
use Rattle.shard_calls.specs.Adding.{has_place}
use Rattle.shard_calls.specs.Memories.{MemoryParts, at}
use Rattle.shard_calls.specs.PreparedCalls.{IsReadyIn}
use Rattle.shard_calls.specs.Shards.{IsFor, Keeps, KeepsIf, Moves, StepsFrom, StepsOn, on_the_way, with_doubt}
use Rattle.shard_machine.proofs.Legality.{tell-legal}
use Rattle.shard_machine.specs.Answers.{Answers}
use Rattle.shard_machine.specs.Images.{LogImage, MayFollowImage, image, image_after}
use Rattle.shard_machine.specs.Legal.{IsLegal, MayFollow}
use Rattle.shard_machine.specs.Steps.{HaveRoom, Held, Refuses, Step, after_effect, end_after, entry_of, has_number, has_room, needed, taken, view_in}
use Rattle.shard_machine.specs.Views.{Effect, View}
use Rattle.shard_machine.specs.declared.call.ShardCall.{ShardCall}
use Rattle.shard_machine.specs.declared.reply.ShardRefusal.TheVariants as refusal
use Rattle.shard_machine.specs.declared.reply.ShardRefusal.{ShardRefusal}
use Rattle.shard_machine.specs.declared.reply.ShardReply.{ShardReply}
use Rattle.shard_table.specs.Answering.{Does, Gives, Prepares, TurnsDown, record_in}
use Rattle.shard_table.specs.Effects.{effected}
use Rattle.shard_table.specs.Holding.{Holds}
use Rattle.shard_table.specs.declared.answered.Answered.TheVariants.{Append, Done}
use Rattle.shard_table.specs.declared.answered.Prepared.{Prepared}
use Rattle.shard_table.specs.declared.table.Table.{Table}
use Rattle.std.proofs.Common.{Bool, Err, List, None, Ok, Option, Some, [], ap, append-nil, arith, false, inl, inr, nat_le, refl, subst, sym, true, ℕ, ◌&&◌, ◌++◌, ◌+◌, ◌^◌, ◌∙◌, ◌∷◌, ◌≡◌, ◌≤◌}

-- the table turned the call down
turned-by : (h : Held) (c : ShardCall) (why : ShardRefusal) → h.loaded ≡ true → TurnsDown (view_in h) c why → Refuses h c why None [] h
turned-by h c (refusal.Of why) on t = turned_down h c (refusal.Of why) on t
turned-by h c refusal.NoStream on t = turned_down h c refusal.NoStream on t
turned-by h c (refusal.BadConfig member) on t = turned_down h c (refusal.BadConfig member) on t
turned-by h c refusal.NameTaken on t = turned_down h c refusal.NameTaken on t
turned-by h c refusal.TooManyStreams on t = turned_down h c refusal.TooManyStreams on t
turned-by h c (refusal.OldAttempt kept seen) on t = turned_down h c (refusal.OldAttempt kept seen) on t
turned-by h c refusal.TooManyConsumers on t = turned_down h c refusal.TooManyConsumers on t
turned-by h c refusal.NoMessage on t = turned_down h c refusal.NoMessage on t
turned-by h c (refusal.JournalFull end need) on t = absurd t
turned-by h c (refusal.BadJournal place) on t = absurd t
turned-by h c refusal.NoMemory on t = without_memory h c
turned-by h c refusal.DiskFault on t = absurd t

module _ {D : Type 0} (images : D → List ℕ → Type 0) (moment : D → ℕ) (left_since : D → ℕ → List ℕ → Type 0) where
  -- the log isn't touched
  pub moves-same : (m : MemoryParts) (l : LogState D) (h after : Held) (log : List Rec) → Keeps (at m l) after → IsFor images l h log → after.image ≡ h.image → after.end ≡ h.end → after.doubt ≡ h.doubt → Moves images moment left_since l (at m l) h.doubt log [] [] after
  moves-same m l h after log keeps is same_image same_end same_doubt = record {
    keeps = keeps;
    stands = record {
      legal = subst IsLegal (sym (append-nil log)) is.legal;
      image_is = same_image ∙ is.image_is ∙ ap image (sym (append-nil log));
      end_is = same_end ∙ is.end_is ∙ ap (end_after 17) (sym (append-nil log));
      disks = subst (λ (x : List Rec). EachStandsFor images l.main l.spare (with_doubt x after.doubt)) (sym (append-nil log)) (subst (λ (d : Option Rec). EachStandsFor images l.main l.spare (with_doubt log d)) (sym same_doubt) is.disks);
    };
    later = (omega arith, omega arith);
    passes = λ t u logs le le' since. since-within images moment left_since l t u logs _ (λ x one. one_left x logs _ one) since;
  }

  module _ (m new : MemoryParts) (l : LogState D) (c : ShardCall) (h : Held) (on : m.loaded ≡ true) (on' : new.loaded ≡ true) (keeps : Keeps (at m l) h) where
    held-on : h.loaded ≡ true
    held-on = keeps.loaded ∙ on

    -- the call was refused
    module _ (why : ShardRefusal) (reply : ShardReply) (gives : (v : View) → Holds m.table v → Gives v c (Err why) new.table) (replies : Replies c why None reply) where
      abbrev parts : KeepsIf true (at m l) h
      parts = kept-loaded (at m l) h on keeps

      still : Keeps (at new l) h
      still = keeps-loaded (at new l) h on' held-on parts.0 parts.1 (gives (view_in h) parts.2).1

      pub turned-from : StepsFrom c reply (at new l) h
      turned-from = record { records = []; after = h; step = refusal-step h c why None [] h reply replies (turned-by h c why held-on (gives (view_in h) parts.2).0); keeps = still }

      pub turned-on : (log : List Rec) → IsFor images l h log → StepsOn images moment left_since l c reply (at new l) h log
      unfolding turned-from
      turned-on log is = record {
        records = [];
        after = h;
        step = turned-from.step;
        tried = [];
        is_tried = inl refl;
        moves = moves-same new l h h log still is refl refl refl;
      }

    -- the call makes no record
    module _ (reply : ShardReply) (gives : (v : View) → Holds m.table v → Gives v c (Ok (Done reply)) new.table) where
      abbrev kept : KeepsIf true (at m l) h
      kept = kept-loaded (at m l) h on keeps

      abbrev does : Does (view_in h) c reply new.table
      does = gives (view_in h) kept.2

      abbrev e : Effect
      e = does.effect

      none : e.records ≡ []
      none = does.none

      done_step : Step h c reply [] (after_effect h e)
      done_step = subst (λ (records : List Rec). Step h c reply records (after_effect h e)) none (subst (λ (x : ShardReply). Step h c x e.records (after_effect h e)) (sym does.replies)
          (answered h c e held-on does.answers (subst (HaveRoom h) (sym none) tt)))

      end_same : end_after h.end e.records ≡ h.end
      end_same = ap (end_after h.end) none

      done_keeps : Keeps (at new l) (after_effect h e)
      done_keeps = keeps-loaded (at new l) (after_effect h e) on' refl refl (kept.1.0, kept.1.1 ∙ sym end_same) does.becomes

      pub done-from : StepsFrom c reply (at new l) h
      done-from = record { records = []; after = after_effect h e; step = done_step; keeps = done_keeps }

      pub done-on : (log : List Rec) → IsFor images l h log → StepsOn images moment left_since l c reply (at new l) h log
      done-on log is = record {
        records = [];
        after = after_effect h e;
        step = done_step;
        tried = [];
        is_tried = inl refl;
        moves = moves-same new l h (after_effect h e) log done_keeps is (ap (image_after h.image) none) end_same (sym kept.0);
      }

    -- the call is prepared
    module _ (prepared : Prepared) (gives : (v : View) → Holds m.table v → Gives v c (Ok (Append prepared)) new.table) (some : (v : View) × (e : Effect) × IsReadyIn new.table prepared c v e) where
      abbrev found : Prepares (view_in h) c prepared new.table
      found = gives (view_in h) (kept-loaded (at m l) h on keeps).2

      abbrev pub prepared-effect : Effect
      prepared-effect = found.effect

      pub prepared-keeps : Keeps (at new l) h
      prepared-keeps = keeps-loaded (at new l) h on' held-on (kept-loaded (at m l) h on keeps).0 (kept-loaded (at m l) h on keeps).1 found.same

      booted : 1 ≤ h.image.boot
      booted = subst (λ (n : ℕ). 1 ≤ n) (sym some.2.holds.boot ∙ found.same.boot) some.2.booted

      pub prepared-ready : IsReadyIn new.table prepared c (view_in h) prepared-effect
      prepared-ready = record { holds = found.same; booted = booted; answers = found.answers; one = found.one; is_prepared = found.is_prepared; follows = found.follows booted }

-- ---- a record is added

-- what is known of a call that is prepared, and of the shard that keeps this
pub record Written {D : Type 0} (m : MemoryParts) (l : LogState D) (c : ShardCall) (h : Held) (e : Effect) (r : Rec) : Type 0 where
  pub on : m.loaded ≡ true
  pub keeps : Keeps (at m l) h
  pub answers : Answers (view_in h) c (Ok e)
  pub one : e.records ≡ r ∷ []
  pub follows : has_number h.image r ≡ true → MayFollowImage h.image r

-- that is known of what is prepared
pub written : {D : Type 0} (m : MemoryParts) (l : LogState D) (c : ShardCall) (h : Held) (e : Effect) (prepared : Prepared) (r : Rec) → m.loaded ≡ true → Keeps (at m l) h → IsReadyIn m.table prepared c (view_in h) e → r ≡ record_in prepared → Written m l c h e r
written m l c h e prepared r on keeps ready is = subst (Written m l c h e) (sym is) (record { on = on; keeps = keeps; answers = ready.answers; one = ready.one; follows = ready.follows })

and-right : (a b : Bool) → (a && b) ≡ true → b ≡ true
and-right true b both = both
and-right false b both = absurd (cc)

-- where there is a place for a record, its numbers are small enough
pub place-number : (end : ℕ) (r : Rec) (numbered : Bool) → has_place end r numbered ≡ true → numbered ≡ true
place-number end r numbered place = and-right (nat_le (end + needed r) (2 ^ 40)) numbered place

module _ {D : Type 0} (images : D → List ℕ → Type 0) (moment : D → ℕ) (left_since : D → ℕ → List ℕ → Type 0) (m new : MemoryParts) (l l' : LogState D) (c : ShardCall) (h : Held) (e : Effect) (r : Rec) (w : Written m l c h e r) where
  abbrev was : KeepsIf true (at m l) h
  was = kept-loaded (at m l) h w.on w.keeps

  h-on : h.loaded ≡ true
  h-on = w.keeps.loaded ∙ w.on

  -- the room that was looked for is that of the step
  pub room-is : (numbered : Bool) → numbered ≡ has_number h.image r → has_place l.end r numbered ≡ has_room h.end h.image r
  room-is numbered is = ap (λ (n : ℕ). nat_le (n + needed r) (2 ^ 40) && numbered) was.1.1 ∙ ap (λ (b : Bool). nat_le (h.end + needed r) (2 ^ 40) && b) is

  have-room : has_room h.end h.image r ≡ true → HaveRoom h e.records
  have-room room = subst (HaveRoom h) (sym w.one) (room, refl)

  pub may-follow : (log : List Rec) → IsFor images l h log → has_number h.image r ≡ true → MayFollow log r
  may-follow log is number = (tell-legal log r).0 (subst (λ (i : LogImage). MayFollowImage i r) is.image_is (w.follows number))

  end-one : end_after h.end e.records ≡ h.end + taken r
  end-one = ap (end_after h.end) w.one

  log-one : (log : List Rec) → log ++ e.records ≡ log ++ r ∷ []
  log-one log = ap (λ (records : List Rec). log ++ records) w.one

  -- it was added, and the call is done
  module _ (reply : ShardReply) (on' : new.loaded ≡ true) (room : has_room h.end h.image r ≡ true) (is_open : IsOpenAt l' (l.end + taken r)) (replies : reply ≡ e.reply) (holds : Holds new.table (effected (view_in h) e)) where
    added_step : Step h c reply e.records (after_effect h e)
    added_step = subst (λ (x : ShardReply). Step h c x e.records (after_effect h e)) (sym replies) (answered h c e h-on w.answers (have-room room))

    added_keeps : Keeps (at new l') (after_effect h e)
    added_keeps = keeps-loaded (at new l') (after_effect h e) on' refl refl (is_open.0, is_open.1 ∙ ap (λ (n : ℕ). n + taken r) was.1.1 ∙ sym end-one) holds

    pub added-from : StepsFrom c reply (at new l') h
    added-from = record { records = e.records; after = after_effect h e; step = added_step; keeps = added_keeps }

    pub added-on : (log : List Rec) → IsFor images l h log → MayFollow log r → EachStandsFor images l'.main l'.spare ((log ++ r ∷ []) ∷ []) → (moment l.main ≤ moment l'.main) × (moment l.spare ≤ moment l'.spare)
        → ((t u : ℕ) (logs : List (List Rec)) → t ≤ moment l.main → u ≤ moment l.spare → SinceStandFor left_since t u l.main l.spare logs → SinceStandFor left_since t u l'.main l'.spare ((log ++ r ∷ []) ∷ logs))
        → StepsOn images moment left_since l c reply (at new l') h log
    added-on log is may stands later passes = record {
      records = e.records;
      after = after_effect h e;
      step = added_step;
      tried = [];
      is_tried = inl refl;
      moves = record {
        keeps = added_keeps;
        stands = for-after images moment left_since l l' h (after_effect h e) log e.records is (subst IsLegal (sym (log-one log)) (legal-push log r is.legal may)) refl refl (subst (λ (x : List Rec). EachStandsFor images l'.main l'.spare (x ∷ [])) (sym (log-one log)) stands);
        later = later;
        passes = λ t u logs le le' since. since-within images moment left_since l' t u ((log ++ r ∷ []) ∷ logs) _ (subst (λ (rs : List Rec). Within ((log ++ r ∷ []) ∷ logs) (logs ++ on_the_way log h.doubt rs)) (sym (append-nil e.records ∙ w.one)) (way-added logs log h.doubt r)) (passes t u logs le le' since);
      };
    }

  -- nothing was written, and nothing changes
  module _ (why : ShardRefusal) (reply : ShardReply) (refuses : Refuses h c why None [] h) (same : l' ≡ l) (same_memory : new ≡ m) (replies : Replies c why None reply) where
    same_step : Step h c reply [] h
    same_step = refusal-step h c why None [] h reply replies refuses

    same_keeps : Keeps (at new l') h
    same_keeps = subst (λ (x : LogState D). Keeps (at new x) h) (sym same) (subst (λ (x : MemoryParts). Keeps (at x l) h) (sym same_memory) w.keeps)

    pub same-from : StepsFrom c reply (at new l') h
    same-from = record { records = []; after = h; step = same_step; keeps = same_keeps }

    pub same-on : (log : List Rec) → IsFor images l h log → StepsOn images moment left_since l c reply (at new l') h log
    same-on log is = subst (λ (x : LogState D). StepsOn images moment left_since l c reply (at new x) h log) (sym same) (record {
      records = [];
      after = h;
      step = same_step;
      tried = [];
      is_tried = inl refl;
      moves = moves-same images moment left_since new l h h log (subst (λ (x : LogState D). Keeps (at new x) h) same same_keeps) is refl refl refl;
    })

  -- the record has no room
  pub has-none : (end need : ℕ) → has_room h.end h.image r ≡ false → end ≡ l.end → need ≡ needed r → Refuses h c (refusal.JournalFull end need) None [] h
  has-none end need lacks end_is need_is =
      subst (λ (n : ℕ). Refuses h c (refusal.JournalFull n need) None [] h) (sym (end_is ∙ was.1.1))
      (subst (λ (n : ℕ). Refuses h c (refusal.JournalFull h.end n) None [] h) (sym need_is) (lacking h c e r h-on w.answers w.one lacks))

  -- the disks stand for the log alone
  pub stands-alone : (log : List Rec) → IsFor images l h log → EachStandsFor images l.main l.spare (log ∷ [])
  stands-alone log is = subst (λ (d : Option Rec). EachStandsFor images l.main l.spare (with_doubt log d)) was.0 is.disks

  -- there was no memory for it
  module _ (reply : ShardReply) (is_open : IsOpenAt l' l.end) (same_memory : new ≡ m) (replies : Replies c refusal.NoMemory None reply) where
    short_step : Step h c reply [] h
    short_step = refusal-step h c refusal.NoMemory None [] h reply replies (without_memory h c)

    short_keeps : Keeps (at new l') h
    short_keeps = subst (λ (x : MemoryParts). Keeps (at x l') h) (sym same_memory) (keeps-loaded (at m l') h w.on h-on was.0 (is_open.0, is_open.1 ∙ was.1.1) was.2)

    pub short-from : StepsFrom c reply (at new l') h
    short-from = record { records = []; after = h; step = short_step; keeps = short_keeps }

    pub short-on : (log : List Rec) → IsFor images l h log → EachStandsFor images l'.main l'.spare (log ∷ []) → (moment l.main ≤ moment l'.main) × (moment l.spare ≤ moment l'.spare)
        → ((t u : ℕ) (logs : List (List Rec)) → t ≤ moment l.main → u ≤ moment l.spare → SinceStandFor left_since t u l.main l.spare logs → SinceStandFor left_since t u l'.main l'.spare ((log ++ r ∷ []) ∷ logs))
        → StepsOn images moment left_since l c reply (at new l') h log
    short-on log is stands later passes = record {
      records = [];
      after = h;
      step = short_step;
      tried = e.records;
      is_tried = inr (inr (inl (e, w.answers, refl)));
      moves = record {
        keeps = short_keeps;
        stands = subst (λ (x : List Rec). IsFor images l' h x) (sym (append-nil log)) (record {
          legal = is.legal;
          image_is = is.image_is;
          end_is = is.end_is;
          disks = subst (λ (d : Option Rec). EachStandsFor images l'.main l'.spare (with_doubt log d)) (sym was.0) stands;
        });
        later = later;
        passes = λ t u logs le le' since. since-within images moment left_since l' t u ((log ++ r ∷ []) ∷ logs) _ (subst (λ (rs : List Rec). Within ((log ++ r ∷ []) ∷ logs) (logs ++ on_the_way log h.doubt rs)) (sym w.one) (way-added logs log h.doubt r)) (passes t u logs le le' since);
      };
    }

  -- a disk failed
  module _ (reply : ShardReply) (off : new.loaded ≡ false) (doubted : new.doubt ≡ Some r) (table : new.table ≡ m.table) (room : has_room h.end h.image r ≡ true) (replies : Replies c refusal.DiskFault (entry_of r) reply) where
    fault_step : Step h c reply [] (doubting h r)
    fault_step = refusal-step h c refusal.DiskFault (entry_of r) [] (doubting h r) reply replies (faulted h c e r h-on w.answers w.one (have-room room))

    fault_keeps : Keeps (at new l') (doubting h r)
    fault_keeps = keeps-unloaded (at new l') (doubting h r) (view_in h) off refl (sym doubted) (subst (λ (t : Table). Holds t (view_in h)) (sym table) was.2) refl refl

    pub fault-from : StepsFrom c reply (at new l') h
    fault-from = record { records = []; after = doubting h r; step = fault_step; keeps = fault_keeps }

    pub fault-on : (log : List Rec) → IsFor images l h log → EachStandsFor images l'.main l'.spare (log ∷ (log ++ r ∷ []) ∷ []) → (moment l.main ≤ moment l'.main) × (moment l.spare ≤ moment l'.spare)
        → ((t u : ℕ) (logs : List (List Rec)) → t ≤ moment l.main → u ≤ moment l.spare → SinceStandFor left_since t u l.main l.spare logs → SinceStandFor left_since t u l'.main l'.spare ((log ++ r ∷ []) ∷ logs))
        → StepsOn images moment left_since l c reply (at new l') h log
    fault-on log is stands later passes = record {
      records = [];
      after = doubting h r;
      step = fault_step;
      tried = r ∷ [];
      is_tried = inr (inl (r, refl, refl));
      moves = record {
        keeps = fault_keeps;
        stands = subst (λ (x : List Rec). IsFor images l' (doubting h r) x) (sym (append-nil log)) (record { legal = is.legal; image_is = is.image_is; end_is = is.end_is; disks = stands });
        later = later;
        passes = λ t u logs le le' since. since-within images moment left_since l' t u ((log ++ r ∷ []) ∷ logs) _ (way-added logs log h.doubt r) (passes t u logs le le' since);
      };
    }
