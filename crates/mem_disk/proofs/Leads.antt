-- Each call of a disk in memory leads on.
use Rattle.std.proofs.Common.{◌≡◌, ◌≢◌, ℕ, ◌+◌, ◌-◌, ◌^◌, ◌<◌, ◌≤◌, Bool, true, false, not, ◌||◌, ◌==◌, List, [], ◌∷◌, length, Option, Some, None, Result, Ok, Err, inl, inr, refl, sym, ap, subst, ◌∙◌, arith, append-nil}
use Rattle.std.specs.Prelude.{is_some, IsSome, IsErrOf, if◌then◌else◌}
use Rattle.std.proofs.lemmas.Bool.{cases_lt}
use Rattle.std.proofs.lemmas.Bool.Decides.{nat_tests}
use Rattle.leaf_edges.specs.declared.fault.EdgeError.{EdgeError}
use Rattle.leaf_edges.specs.declared.fault.EdgeError.TheVariants.{Failed, NoMemory}
use Rattle.leaf_edges.specs.Memory.{is_failing}
use Rattle.leaf_edges.specs.Disks.{Op, wrote, cut_to, synced}
use Rattle.mem_disk.specs.MemDisks.{Past, DiskState, IsSound, max_disk, refuses, counted, faulted, failed_at, stopped_at, done_with, burnt, disk_unsynced, write_answer, cut_answer, sync_answer, look_answer, Answers, AnswersOrNot}
use Rattle.mem_disk.specs.Leading.{burns, tried_of, LeadsTo}
use Rattle.mem_disk.specs.LeadingLaws.{leads_here}
use Rattle.mem_disk.proofs.Soundness.{IsShort, running, idle_past, sound_counted, sound_faulted, sound_failed, sound_more, sound_synced, tried_short}

none_there : {A : Type 0} (o : Option A) → is_some o ≡ false → o ≡ None
none_there None is = refl
none_there (Some a) is = absurd (cc)

not_one : (n : ℕ) → (n == 1) ≡ false → n ≢ 1
not_one n is = grind (arith, nat_tests)

is_one : (n : ℕ) → (n == 1) ≡ true → n ≡ 1
is_one n is = grind (arith, nat_tests)

-- a disk that isn't stopped and whose list is empty refuses nothing
never_refuses : (d : DiskState) → d.stopped ≡ None → d.failing ≡ [] → refuses d ≡ false
never_refuses d runs none = ap (λ s. is_some s || is_failing d.failing d.calls) runs ∙ ap (λ (l : List ℕ). is_failing l d.calls) none

module _ (d : DiskState) (sound : IsSound d) where
  -- only counts changed, and the call that failed last where it failed
  module _ (new : DiskState) (past : new.past ≡ d.past) (stopped : new.stopped ≡ d.stopped) (fuse : new.fuse ≡ d.fuse) (fate : new.fuse_fate ≡ d.fuse_fate) (failing : new.failing ≡ d.failing) (calls : d.calls ≤ new.calls) (faults : d.fault_count ≤ new.fault_count)
      (quiet : d.stopped ≡ None → d.failing ≡ [] → new.fault_count ≡ d.fault_count) (last : new.fault_count ≡ d.fault_count → new.fault_count < 2 ^ 64 - 1 → new.last_failed ≡ d.last_failed) (stays : IsSound d → IsSound new) where
    leads_still : LeadsTo d new
    leads_still = record {
      first = ap (λ (p : Past). p.first) past;
      failing = failing;
      fate = fate;
      ops = [];
      done = ap (λ (p : Past). p.done) past ∙ sym (append-nil d.past.done);
      calls = calls;
      faults = faults;
      way = inl (record {
        stopped = stopped;
        tried = ap (λ (p : Past). p.tried) past;
        fuse = omega (arith, fuse);
        left = λ lit. omega (arith, lit);
        idle = λ is. refl;
        quiet = quiet;
        last = last;
      });
      sound = stays;
    }

  leads_counted : LeadsTo d (counted d)
  leads_counted = leads_still (counted d) refl refl refl refl refl (omega (arith, sound.count)) (omega arith) (λ runs none. refl) (λ same below. refl) (sound_counted d)

  module _ (refused : refuses d ≡ true) where
    not_quiet : d.stopped ≡ None → d.failing ≡ [] → ⊥
    not_quiet runs none = cc (never_refuses d runs none, refused)

    leads_faulted : LeadsTo d (faulted d)
    leads_faulted = leads_still (faulted d) refl refl refl refl refl (omega (arith, sound.count)) (omega (arith, sound.range)) (λ runs none. absurd (not_quiet runs none)) (λ same below. refl) (sound_faulted d)

    leads_failed : (op : Op) → LeadsTo d (failed_at op d)
    leads_failed op = leads_still (failed_at op d) refl refl refl refl refl (omega (arith, sound.count)) (omega (arith, sound.range)) (λ runs none. absurd (not_quiet runs none)) (λ same below. absurd (omega (arith, same, below))) (λ s. sound_failed d s op)

  module _ (open_ : refuses d ≡ false) where
    runs_on : is_some d.stopped ≡ false
    runs_on = running (is_some d.stopped) (is_failing d.failing d.calls) open_

    not_idle : IsSome d.stopped → ⊥
    not_idle is = cc (runs_on, is)

    -- a write or a sync was done and counted
    leads_burnt : (op : Op) → burns (op ∷ []) ≡ 1 → (d.fuse == 1) ≡ false → (IsSound d → IsSound (burnt (done_with op d))) → LeadsTo d (burnt (done_with op d))
    leads_burnt op one lit stays = record {
      first = refl;
      failing = refl;
      fate = refl;
      ops = op ∷ [];
      done = refl;
      calls = omega (arith, sound.count);
      faults = omega arith;
      way = inl (record {
        stopped = refl;
        tried = refl;
        fuse = omega (arith, one);
        left = λ some. omega (arith, some, one, not_one d.fuse lit);
        idle = λ is. absurd (not_idle is);
        quiet = λ runs none. refl;
        last = λ same below. refl;
      });
      sound = stays;
    }

    -- a cut was done
    leads_cut : (len : ℕ) → (IsSound d → IsSound (done_with (cut_to len) d)) → LeadsTo d (done_with (cut_to len) d)
    leads_cut len stays = record {
      first = refl;
      failing = refl;
      fate = refl;
      ops = cut_to len ∷ [];
      done = refl;
      calls = omega (arith, sound.count);
      faults = omega arith;
      way = inl (record {
        stopped = refl;
        tried = refl;
        fuse = omega arith;
        left = λ some. omega (arith, some);
        idle = λ is. absurd (not_idle is);
        quiet = λ runs none. refl;
        last = λ same below. refl;
      });
      sound = stays;
    }

    -- the fuse stopped it
    leads_stopped : (op : Op) → (d.fuse == 1) ≡ true → (IsSound d → IsSound (stopped_at op (tried_of op) d)) → LeadsTo d (stopped_at op (tried_of op) d)
    leads_stopped op lit stays = record {
      first = refl;
      failing = refl;
      fate = refl;
      ops = [];
      done = sym (append-nil d.past.done);
      calls = omega (arith, sound.count);
      faults = omega (arith, sound.range);
      way = inr (record {
        running = none_there d.stopped runs_on;
        fuse = omega (arith, is_one d.fuse lit);
        stopped = refl;
        burnt = refl;
        at = op;
        tried = refl;
        rose = (omega (arith, sound.range), omega arith);
        only = λ one below. refl;
      });
      sound = stays;
    }

    idle : d.past.tried ≡ None
    idle = idle_past d sound open_

    -- what holds of it holds after a write, a cut or a sync
    sound_written : (place : ℕ) (bytes : List ℕ) → place + length bytes ≤ max_disk → IsSound (burnt (done_with (wrote place bytes) d))
    sound_written place bytes ends =
        let s = sound_more d sound idle (wrote place bytes) tt ends in
        record { idle = s.idle; range = s.range; count = omega arith; short = s.short }

    sound_tried : (place : ℕ) (bytes : List ℕ) → place + length bytes ≤ max_disk → IsSound (stopped_at (wrote place bytes) (Some (wrote place bytes)) d)
    sound_tried place bytes ends = record { idle = λ runs. absurd (cc); range = omega arith; count = omega arith; short = tried_short d sound idle (wrote place bytes) ends }

    sound_cut : (len : ℕ) → IsSound (done_with (cut_to len) d)
    sound_cut len =
        let s = sound_more d sound idle (cut_to len) tt tt in
        record { idle = s.idle; range = s.range; count = omega arith; short = s.short }

    sound_sync : IsSound (burnt (done_with synced d))
    sound_sync =
        let s = sound_synced d sound idle in
        record { idle = s.idle; range = s.range; count = omega arith; short = s.short }

    sound_stopped : IsSound (stopped_at synced None d)
    sound_stopped =
        let same : d.past ≡ record d.past { tried = None } = ap (λ (w : Option Op). record d.past { tried = w }) idle in
        record { idle = λ runs. absurd (cc); range = omega arith; count = omega arith; short = subst IsShort same sound.short }

-- ---- each call

within : (room n : ℕ) → (room < n → ⊥) → n ≤ room
within room n not_past = elim (cases_lt room n) [ inl past ↦ absurd (not_past past) | inr below ↦ below ]

write_by : (place : ℕ) (bytes : List ℕ) (old new : DiskState) (r f : Bool) (result : Result (Unit {0}) EdgeError) → IsSound old → refuses old ≡ r → (old.fuse == 1) ≡ f → (max_disk < place + length bytes → IsErrOf result NoMemory)
    → AnswersOrNot (if r then record { fails = true; left = failed_at (wrote place bytes) old } else if f then record { fails = true; left = stopped_at (wrote place bytes) (Some (wrote place bytes)) old } else record { fails = false; left = burnt (done_with (wrote place bytes) old) }) old new result
    → LeadsTo old new
write_by place bytes old new r f (Err NoMemory) sound refused lit limit h = subst (LeadsTo old) (sym h) (leads_here old)
write_by place bytes old new true f (Err Failed) sound refused lit limit h = subst (LeadsTo old) (sym h.1) (leads_failed old sound refused (wrote place bytes))
write_by place bytes old new true f (Ok v) sound refused lit limit h = absurd (cc (h.0))
write_by place bytes old new false true (Err Failed) sound refused lit limit h =
    let ends = within max_disk (place + length bytes) (λ past. cc (limit past)) in
    subst (LeadsTo old) (sym h.1) (leads_stopped old sound refused (wrote place bytes) lit (λ s. sound_tried old s refused place bytes ends))
write_by place bytes old new false true (Ok v) sound refused lit limit h = absurd (cc (h.0))
write_by place bytes old new false false (Err Failed) sound refused lit limit h = absurd (cc (h.0))
write_by place bytes old new false false (Ok v) sound refused lit limit h =
    let ends = within max_disk (place + length bytes) (λ past. cc (limit past)) in
    subst (LeadsTo old) (sym h.1) (leads_burnt old sound refused (wrote place bytes) (omega arith) lit (λ s. sound_written old s refused place bytes ends))

pub write_leads : (place : ℕ) (bytes : List ℕ) (old new : DiskState) (result : Result (Unit {0}) EdgeError) → IsSound old → (max_disk < place + length bytes → IsErrOf result NoMemory)
    → AnswersOrNot (write_answer (wrote place bytes) old) old new result → LeadsTo old new
write_leads place bytes old new result sound limit h = write_by place bytes old new (refuses old) (old.fuse == 1) result sound refl refl limit h

cut_by : (len : ℕ) (old new : DiskState) (r : Bool) (result : Result (Unit {0}) EdgeError) → IsSound old → refuses old ≡ r
    → AnswersOrNot (if r then record { fails = true; left = failed_at (cut_to len) old } else record { fails = false; left = done_with (cut_to len) old }) old new result → LeadsTo old new
cut_by len old new r (Err NoMemory) sound refused h = subst (LeadsTo old) (sym h) (leads_here old)
cut_by len old new true (Err Failed) sound refused h = subst (LeadsTo old) (sym h.1) (leads_failed old sound refused (cut_to len))
cut_by len old new true (Ok v) sound refused h = absurd (cc (h.0))
cut_by len old new false (Err Failed) sound refused h = absurd (cc (h.0))
cut_by len old new false (Ok v) sound refused h = subst (LeadsTo old) (sym h.1) (leads_cut old sound refused len (λ s. sound_cut old s refused len))

pub cut_leads : (len : ℕ) (old new : DiskState) (result : Result (Unit {0}) EdgeError) → IsSound old → AnswersOrNot (cut_answer (cut_to len) old) old new result → LeadsTo old new
cut_leads len old new result sound h = cut_by len old new (refuses old) result sound refl h

sync_by : (old new : DiskState) (r n f : Bool) (result : Result (Unit {0}) EdgeError) → IsSound old → refuses old ≡ r → (old.fuse == 1) ≡ f
    → Answers (if r then record { fails = true; left = failed_at synced old } else if n then record { fails = false; left = counted old } else if f then record { fails = true; left = stopped_at synced None old } else record { fails = false; left = burnt (done_with synced old) }) new result
    → LeadsTo old new
sync_by old new r n f (Err NoMemory) sound refused lit h = absurd h
sync_by old new true n f (Err Failed) sound refused lit h = subst (LeadsTo old) (sym h.1) (leads_failed old sound refused synced)
sync_by old new true n f (Ok v) sound refused lit h = absurd (cc (h.0))
sync_by old new false true f (Err Failed) sound refused lit h = absurd (cc (h.0))
sync_by old new false true f (Ok v) sound refused lit h = subst (LeadsTo old) (sym h.1) (leads_counted old sound)
sync_by old new false false true (Err Failed) sound refused lit h = subst (LeadsTo old) (sym h.1) (leads_stopped old sound refused synced lit (λ s. sound_stopped old s refused))
sync_by old new false false true (Ok v) sound refused lit h = absurd (cc (h.0))
sync_by old new false false false (Err Failed) sound refused lit h = absurd (cc (h.0))
sync_by old new false false false (Ok v) sound refused lit h = subst (LeadsTo old) (sym h.1) (leads_burnt old sound refused synced (omega arith) lit (λ s. sound_sync old s refused))

pub sync_leads : (old new : DiskState) (result : Result (Unit {0}) EdgeError) → IsSound old → Answers (sync_answer old) new result → LeadsTo old new
sync_leads old new result sound h = sync_by old new (refuses old) (not (disk_unsynced old)) (old.fuse == 1) result sound refl refl h

look_by : {T : Type 0} (old new : DiskState) (r : Bool) (result : Result T EdgeError) → IsSound old → refuses old ≡ r → Answers (if r then record { fails = true; left = faulted old } else record { fails = false; left = counted old }) new result → LeadsTo old new
look_by old new r (Err NoMemory) sound refused h = absurd h
look_by old new true (Err Failed) sound refused h = subst (LeadsTo old) (sym h.1) (leads_faulted old sound refused)
look_by old new true (Ok v) sound refused h = absurd (cc (h.0))
look_by old new false (Err Failed) sound refused h = absurd (cc (h.0))
look_by old new false (Ok v) sound refused h = subst (LeadsTo old) (sym h.1) (leads_counted old sound)

pub look_leads : {T : Type 0} (old new : DiskState) (result : Result T EdgeError) → IsSound old → Answers (look_answer old) new result → LeadsTo old new
look_leads old new result sound h = look_by old new (refuses old) result sound refl h
