-- Each answer of a disk in memory is one that a disk may give.
use Rattle.std.proofs.Common.{◌≡◌, ℕ, ◌-◌, ◌^◌, ◌≤◌, Bool, true, false, not, ◌==◌, List, [], ◌∷◌, ◌++◌, length, take, Option, Some, None, OnOk, Result, Ok, Err, refl, sym, ap, subst, arith}
use Rattle.std.specs.Prelude.{unwrap_or, cond, IsErrOf, if◌then◌else◌}
use Rattle.leaf_edges.specs.declared.fault.EdgeError.{EdgeError}
use Rattle.leaf_edges.specs.declared.fault.EdgeError.TheVariants.{Failed, NoMemory}
use Rattle.leaf_edges.specs.Memory.{risen}
use Rattle.leaf_edges.specs.Causes.{CausesOne, RoseByOne}
use Rattle.leaf_edges.specs.Disks.{Op, wrote, cut_to, synced, overwritten, Torn, Cut, Follows, Only, Unchanged, Elapses, Notes, NotesSync}
use Rattle.mem_disk.specs.declared.fate.Fate.{Fate}
use Rattle.mem_disk.specs.declared.fate.Fate.TheVariants.{Lost, All, Torn as TornFate}
use Rattle.mem_disk.specs.Contents.{Content, IsImage, picked}
use Rattle.mem_disk.specs.ReachLemmas.{reaches_none, reaches_all, reaches_torn}
use Rattle.mem_disk.specs.StepLemmas.{takes_none}
use Rattle.mem_disk.specs.MemDisks.{Past, DiskState, crash_content, crash_image, past_seen, PastImages, past_unsynced, disk_seen, disk_images, disk_moment, disk_left_since, disk_unsynced, disk_done, disk_failed, IsSound, refuses, failed_at, stopped_at, done_with, burnt, counted, faulted, write_answer, cut_answer, sync_answer, look_answer, Answers, AnswersOrNot}
use Rattle.mem_disk.specs.DiskLaws.{past_seen_is_image, past_synced_is_only}
use Rattle.mem_disk.proofs.Soundness.{idle_past}
use Rattle.mem_disk.proofs.Pasts.{PastElapses, still, time_more, seen_more, dirt_more, images_more, images_tried, time_tried, seen_synced, only_synced, clean_synced}

abbrev pub Untouched : DiskState → DiskState → Type 0
Untouched old new = Unchanged disk_seen disk_images disk_unsynced disk_done disk_failed old new

abbrev pub Passes : DiskState → DiskState → Type 0
Passes old new = Elapses disk_moment disk_left_since disk_images old new

abbrev pub Step : Type 1
Step = DiskState → Result (Unit {0}) EdgeError → Type 0

negated_true : (b : Bool) → not b ≡ true → b ≡ false
negated_true true e = sym e
negated_true false e = refl

negated_false : (b : Bool) → not b ≡ false → b ≡ true
negated_false true e = refl
negated_false false e = sym e

passes : (old new : DiskState) → PastElapses old.past new.past → Passes old new
passes old new h = record { later = h.later; nothing_else = h.nothing_else; keeps = h.keeps }

same_past : (old new : DiskState) → new.past ≡ old.past → Passes old new
same_past old new e = passes old new (subst (PastElapses old.past) (sym e) (still old.past))

untouched : (old new : DiskState) → new.past ≡ old.past → new.last_failed ≡ old.last_failed → Untouched old new
untouched old new e f = record {
  content = ap past_seen e;
  no_more = λ c now. subst (λ (p : Past). PastImages p c) e now;
  no_fewer = λ c now. subst (λ (p : Past). PastImages p c) (sym e) now;
  dirt = ap past_unsynced e;
  list = ap (λ (p : Past). p.done) e;
  last = f;
}

rises : (n : ℕ) → n ≤ 2 ^ 64 - 1 → RoseByOne n (risen n)
rises n fits = omega (arith, fits)

-- ---- a write

write_by : (op : Op) (old new : DiskState) (r f : Bool) (result : Result (Unit {0}) EdgeError) (P : Step) → refuses old ≡ r → P old (Err NoMemory) → P (failed_at op old) (Err Failed)
    → (refuses old ≡ false → P (stopped_at op (Some op) old) (Err Failed)) → (refuses old ≡ false → P (burnt (done_with op old)) (Ok tt))
    → AnswersOrNot (if r then record { fails = true; left = failed_at op old } else if f then record { fails = true; left = stopped_at op (Some op) old } else record { fails = false; left = burnt (done_with op old) }) old new result
    → P new result
write_by op old new r f (Err NoMemory) P is none refused stop done h = subst (λ (d : DiskState). P d (Err NoMemory)) (sym h) none
write_by op old new true f (Err Failed) P is none refused stop done h = subst (λ (d : DiskState). P d (Err Failed)) (sym h.1) refused
write_by op old new true f (Ok v) P is none refused stop done h = absurd (cc (h.0))
write_by op old new false true (Err Failed) P is none refused stop done h = subst (λ (d : DiskState). P d (Err Failed)) (sym h.1) (stop is)
write_by op old new false true (Ok v) P is none refused stop done h = absurd (cc (h.0))
write_by op old new false false (Err Failed) P is none refused stop done h = absurd (cc (h.0))
write_by op old new false false (Ok v) P is none refused stop done h = subst (λ (d : DiskState). P d (Ok tt)) (sym h.1) (done is)

-- what holds at each of the four ends of a write holds after it
pub write_ends : (op : Op) (old new : DiskState) (result : Result (Unit {0}) EdgeError) (P : Step) → AnswersOrNot (write_answer op old) old new result → P old (Err NoMemory) → P (failed_at op old) (Err Failed)
    → (refuses old ≡ false → P (stopped_at op (Some op) old) (Err Failed)) → (refuses old ≡ false → P (burnt (done_with op old)) (Ok tt)) → P new result
write_ends op old new result P h none refused stop done = write_by op old new (refuses old) (old.fuse == 1) result P refl none refused stop done h

module _ (place : ℕ) (bytes : List ℕ) (old new : DiskState) (result : Result (Unit {0}) EdgeError) (idle : IsSound old)
    (h : AnswersOrNot (write_answer (wrote place bytes) old) old new result) where
  write_op : Op
  write_op = wrote place bytes

  pub write_seen : OnOk result (disk_seen new ≡ overwritten (disk_seen old) place bytes)
  write_seen = write_ends (wrote place bytes) old new result (λ d r. OnOk r (disk_seen d ≡ overwritten (disk_seen old) place bytes)) h tt tt (λ is. tt)
      (λ is. seen_more old.past (wrote place bytes) (idle_past old idle is) (λ c. refl))

  pub write_dirt : OnOk result (disk_unsynced new ≡ true)
  write_dirt = write_ends (wrote place bytes) old new result (λ d r. OnOk r (disk_unsynced d ≡ true)) h tt tt (λ is. tt)
      (λ is. dirt_more old.past (wrote place bytes) (idle_past old idle is) (λ c. refl))

  pub write_notes : Notes disk_done disk_failed old new (wrote place bytes) result
  write_notes = write_ends (wrote place bytes) old new result (λ d r. Notes disk_done disk_failed old d (wrote place bytes) r) h (refl, refl) (refl, refl) (λ is. (refl, refl)) (λ is. (refl, refl))

  pub write_crash : Follows (Torn place (length bytes)) (disk_images old) (disk_images new)
  write_crash = write_ends (wrote place bytes) old new result (λ d r. Follows (Torn place (length bytes)) (disk_images old) (disk_images d)) h
      (λ c now. (c, now, takes_none (wrote place bytes) c)) (λ c now. (c, now, takes_none (wrote place bytes) c))
      (λ is. images_tried old.past (wrote place bytes) (idle_past old idle is))
      (λ is. images_more old.past (wrote place bytes) (idle_past old idle is) (λ c. refl))

  pub write_memory : IsErrOf result NoMemory → Untouched old new
  write_memory = write_ends (wrote place bytes) old new result (λ d r. IsErrOf r NoMemory → Untouched old d) h
      (λ e. untouched old old refl refl) (λ e. absurd (cc)) (λ is e. absurd (cc)) (λ is e. absurd (cc))

  pub write_time : Passes old new
  write_time = write_ends (wrote place bytes) old new result (λ d r. Passes old d) h
      (same_past old old refl) (same_past old (failed_at (wrote place bytes) old) refl)
      (λ is. passes old (stopped_at (wrote place bytes) (Some (wrote place bytes)) old) (time_tried old.past (wrote place bytes) (idle_past old idle is)))
      (λ is. passes old (burnt (done_with (wrote place bytes) old)) (time_more old.past (wrote place bytes) (idle_past old idle is)))

  pub write_cause : CausesOne old.fault_count new.fault_count result
  write_cause = write_ends (wrote place bytes) old new result (λ d r. CausesOne old.fault_count d.fault_count r) h refl (rises old.fault_count (omega (arith, idle.range))) (λ is. rises old.fault_count (omega (arith, idle.range))) (λ is. refl)

-- ---- a cut

cut_by : (op : Op) (old new : DiskState) (r : Bool) (result : Result (Unit {0}) EdgeError) (P : Step) → refuses old ≡ r → P old (Err NoMemory) → P (failed_at op old) (Err Failed)
    → (refuses old ≡ false → P (done_with op old) (Ok tt))
    → AnswersOrNot (if r then record { fails = true; left = failed_at op old } else record { fails = false; left = done_with op old }) old new result
    → P new result
cut_by op old new r (Err NoMemory) P is none refused done h = subst (λ (d : DiskState). P d (Err NoMemory)) (sym h) none
cut_by op old new true (Err Failed) P is none refused done h = subst (λ (d : DiskState). P d (Err Failed)) (sym h.1) refused
cut_by op old new true (Ok v) P is none refused done h = absurd (cc (h.0))
cut_by op old new false (Err Failed) P is none refused done h = absurd (cc (h.0))
cut_by op old new false (Ok v) P is none refused done h = subst (λ (d : DiskState). P d (Ok tt)) (sym h.1) (done is)

-- what holds at each of the three ends of a cut holds after it
pub cut_ends : (op : Op) (old new : DiskState) (result : Result (Unit {0}) EdgeError) (P : Step) → AnswersOrNot (cut_answer op old) old new result → P old (Err NoMemory) → P (failed_at op old) (Err Failed)
    → (refuses old ≡ false → P (done_with op old) (Ok tt)) → P new result
cut_ends op old new result P h none refused done = cut_by op old new (refuses old) result P refl none refused done h

module _ (len : ℕ) (old new : DiskState) (result : Result (Unit {0}) EdgeError) (idle : IsSound old) (h : AnswersOrNot (cut_answer (cut_to len) old) old new result) where
  pub cut_seen : OnOk result (disk_seen new ≡ take len (disk_seen old))
  cut_seen = cut_ends (cut_to len) old new result (λ d r. OnOk r (disk_seen d ≡ take len (disk_seen old))) h tt tt (λ is. seen_more old.past (cut_to len) (idle_past old idle is) (λ c. refl))

  pub cut_dirt : OnOk result (disk_unsynced new ≡ true)
  cut_dirt = cut_ends (cut_to len) old new result (λ d r. OnOk r (disk_unsynced d ≡ true)) h tt tt (λ is. dirt_more old.past (cut_to len) (idle_past old idle is) (λ c. refl))

  pub cut_notes : Notes disk_done disk_failed old new (cut_to len) result
  cut_notes = cut_ends (cut_to len) old new result (λ d r. Notes disk_done disk_failed old d (cut_to len) r) h (refl, refl) (refl, refl) (λ is. (refl, refl))

  pub cut_crash : Follows (Cut len) (disk_images old) (disk_images new)
  cut_crash = cut_ends (cut_to len) old new result (λ d r. Follows (Cut len) (disk_images old) (disk_images d)) h
      (λ c now. (c, now, takes_none (cut_to len) c)) (λ c now. (c, now, takes_none (cut_to len) c))
      (λ is. images_more old.past (cut_to len) (idle_past old idle is) (λ c. refl))

  pub cut_memory : IsErrOf result NoMemory → Untouched old new
  cut_memory = cut_ends (cut_to len) old new result (λ d r. IsErrOf r NoMemory → Untouched old d) h (λ e. untouched old old refl refl) (λ e. absurd (cc)) (λ is e. absurd (cc))

  pub cut_time : Passes old new
  cut_time = cut_ends (cut_to len) old new result (λ d r. Passes old d) h
      (same_past old old refl) (same_past old (failed_at (cut_to len) old) refl)
      (λ is. passes old (done_with (cut_to len) old) (time_more old.past (cut_to len) (idle_past old idle is)))

  pub cut_cause : CausesOne old.fault_count new.fault_count result
  cut_cause = cut_ends (cut_to len) old new result (λ d r. CausesOne old.fault_count d.fault_count r) h refl (rises old.fault_count (omega (arith, idle.range))) (λ is. refl)

-- ---- a sync

sync_by : (old new : DiskState) (r n f : Bool) (result : Result (Unit {0}) EdgeError) (P : Step) → refuses old ≡ r → not (disk_unsynced old) ≡ n → P (failed_at synced old) (Err Failed)
    → (disk_unsynced old ≡ false → P (counted old) (Ok tt)) → (refuses old ≡ false → P (stopped_at synced None old) (Err Failed))
    → (refuses old ≡ false → disk_unsynced old ≡ true → P (burnt (done_with synced old)) (Ok tt))
    → Answers (if r then record { fails = true; left = failed_at synced old } else if n then record { fails = false; left = counted old } else if f then record { fails = true; left = stopped_at synced None old } else record { fails = false; left = burnt (done_with synced old) }) new result
    → P new result
sync_by old new r n f (Err NoMemory) P is dirt refused nothing stop done h = absurd h
sync_by old new true n f (Err Failed) P is dirt refused nothing stop done h = subst (λ (d : DiskState). P d (Err Failed)) (sym h.1) refused
sync_by old new true n f (Ok v) P is dirt refused nothing stop done h = absurd (cc (h.0))
sync_by old new false true f (Err Failed) P is dirt refused nothing stop done h = absurd (cc (h.0))
sync_by old new false true f (Ok v) P is dirt refused nothing stop done h = subst (λ (d : DiskState). P d (Ok tt)) (sym h.1) (nothing (negated_true (disk_unsynced old) dirt))
sync_by old new false false true (Err Failed) P is dirt refused nothing stop done h = subst (λ (d : DiskState). P d (Err Failed)) (sym h.1) (stop is)
sync_by old new false false true (Ok v) P is dirt refused nothing stop done h = absurd (cc (h.0))
sync_by old new false false false (Err Failed) P is dirt refused nothing stop done h = absurd (cc (h.0))
sync_by old new false false false (Ok v) P is dirt refused nothing stop done h = subst (λ (d : DiskState). P d (Ok tt)) (sym h.1) (done is (negated_false (disk_unsynced old) dirt))

-- what holds at each of the four ends of a sync holds after it
pub sync_ends : (old new : DiskState) (result : Result (Unit {0}) EdgeError) (P : Step) → Answers (sync_answer old) new result → P (failed_at synced old) (Err Failed)
    → (disk_unsynced old ≡ false → P (counted old) (Ok tt)) → (refuses old ≡ false → P (stopped_at synced None old) (Err Failed))
    → (refuses old ≡ false → disk_unsynced old ≡ true → P (burnt (done_with synced old)) (Ok tt)) → P new result
sync_ends old new result P h refused nothing stop done = sync_by old new (refuses old) (not (disk_unsynced old)) (old.fuse == 1) result P refl refl refused nothing stop done h

module _ (old new : DiskState) (result : Result (Unit {0}) EdgeError) (idle : IsSound old) (h : Answers (sync_answer old) new result) where
  -- the past of a disk that is stopped at a sync is as before
  untried : refuses old ≡ false → record old.past { tried = None } ≡ old.past
  untried is = ap (λ (w : Option Op). record old.past { tried = w }) (sym (idle_past old idle is))

  pub sync_seen : OnOk result (disk_seen new ≡ disk_seen old)
  sync_seen = sync_ends old new result (λ d r. OnOk r (disk_seen d ≡ disk_seen old)) h tt (λ clean. refl) (λ is. tt) (λ is dirt. seen_synced old.past (idle_past old idle is))

  pub sync_durable : OnOk result (Only (disk_seen old) (disk_images new))
  sync_durable = sync_ends old new result (λ d r. OnOk r (Only (disk_seen old) (disk_images d))) h tt (λ clean. past_synced_is_only old.past clean) (λ is. tt) (λ is dirt. only_synced old.past (idle_past old idle is))

  pub sync_dirt : OnOk result (disk_unsynced new ≡ false)
  sync_dirt = sync_ends old new result (λ d r. OnOk r (disk_unsynced d ≡ false)) h tt (λ clean. clean) (λ is. tt) (λ is dirt. clean_synced old.past (idle_past old idle is))

  pub sync_notes : NotesSync disk_done disk_failed disk_unsynced old new result
  sync_notes = sync_ends old new result (λ d r. NotesSync disk_done disk_failed disk_unsynced old d r) h (refl, refl)
      (λ clean. (sym (ap (λ (b : Bool). cond b (disk_done old ++ synced ∷ []) (disk_done old)) clean), refl))
      (λ is. (refl, refl))
      (λ is dirt. (sym (ap (λ (b : Bool). cond b (disk_done old ++ synced ∷ []) (disk_done old)) dirt), refl))

  pub sync_crash : (c : List ℕ) → disk_images new c → disk_images old c
  sync_crash = sync_ends old new result (λ d r. (c : List ℕ) → disk_images d c → disk_images old c) h (λ c now. now) (λ clean c now. now)
      (λ is c now. subst (λ (p : Past). PastImages p c) (untried is) now)
      (λ is dirt c now. subst (disk_images old) (sym (only_synced old.past (idle_past old idle is) c now)) (past_seen_is_image old.past))

  pub sync_time : Passes old new
  sync_time = sync_ends old new result (λ d r. Passes old d) h (same_past old (failed_at synced old) refl) (λ clean. same_past old (counted old) refl)
      (λ is. same_past old (stopped_at synced None old) (untried is))
      (λ is dirt. passes old (burnt (done_with synced old)) (time_more old.past synced (idle_past old idle is)))

  pub sync_cause : CausesOne old.fault_count new.fault_count result
  sync_cause = sync_ends old new result (λ d r. CausesOne old.fault_count d.fault_count r) h (rises old.fault_count (omega (arith, idle.range))) (λ clean. refl) (λ is. rises old.fault_count (omega (arith, idle.range))) (λ is dirt. refl)

-- ---- a length or a read

look_by : {T : Type 0} (old new : DiskState) (r : Bool) (result : Result T EdgeError) (P : DiskState → Result T EdgeError → Type 0) → P (faulted old) (Err Failed) → ((v : T) → P (counted old) (Ok v))
    → Answers (if r then record { fails = true; left = faulted old } else record { fails = false; left = counted old }) new result → P new result
look_by old new r (Err NoMemory) P refused done h = absurd h
look_by old new true (Err Failed) P refused done h = subst (λ (d : DiskState). P d (Err Failed)) (sym h.1) refused
look_by old new true (Ok v) P refused done h = absurd (cc (h.0))
look_by old new false (Err Failed) P refused done h = absurd (cc (h.0))
look_by old new false (Ok v) P refused done h = subst (λ (d : DiskState). P d (Ok v)) (sym h.1) (done v)

module _ {T : Type 0} (old new : DiskState) (result : Result T EdgeError) (idle : IsSound old) (h : Answers (look_answer old) new result) where
  pub look_same : Untouched old new
  look_same = look_by old new (refuses old) result (λ d r. Untouched old d) (untouched old (faulted old) refl refl) (λ v. untouched old (counted old) refl refl) h

  pub look_time : Passes old new
  look_time = look_by old new (refuses old) result (λ d r. Passes old d) (same_past old (faulted old) refl) (λ v. same_past old (counted old) refl) h

  pub look_memory : IsErrOf result NoMemory → ⊥
  look_memory = look_by old new (refuses old) result (λ d r. IsErrOf r NoMemory → ⊥) (λ e. cc) (λ v e. cc) h

  pub look_cause : CausesOne old.fault_count new.fault_count result
  look_cause = look_by old new (refuses old) result (λ d r. CausesOne old.fault_count d.fault_count r) (rises old.fault_count (omega (arith, idle.range))) (λ v. refl) h

-- ---- a stop

picked_is : (fate : Fate) (c : Content) → IsImage c (picked fate c)
picked_is Lost c = reaches_none c.base c.since
picked_is All c = reaches_all c.base c.since
picked_is TornFate c = reaches_torn c.base c.since

-- what a stop leaves is one of the images from before it
pub crash_is_image : (d : DiskState) → PastImages d.past (crash_image d)
crash_is_image d = picked_is (unwrap_or d.stopped Lost) (crash_content d.past)
