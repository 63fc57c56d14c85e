-- What the parts of a state stand for, and how an entry changes them. No public clause says this.
use Rattle.std.specs.Prelude.{◌≡◌, ℕ, ◌+◌, ◌-◌, ◌^◌, ◌<◌, ◌≤◌, max, min, nat_le, vec_len, ⊤, not, ◌==◌, if◌then◌else◌, filter, codes, Option, None, Some, Result, List, [], ◌∷◌, ◌++◌, count_by}
use Rattle.std.specs.Vec.{vec_capacity}
use Rattle.std.specs.Str.{bytes_eq}
use Rattle.nats_text.specs.Headers.{first_value}
use Rattle.nats_text.specs.declared.message.Message.{Message}
use Rattle.stream_fold.specs.declared.parts.Parts.{Parts}
use Rattle.stream_fold.specs.declared.parts.Sent.{Sent}
use Rattle.stream_fold.specs.declared.entry.Entry.{Entry}
use Rattle.stream_fold.specs.declared.entry.Entry.TheVariants.{Put}
use Rattle.stream_fold.specs.declared.entry.Mark.{Mark}
use Rattle.stream_fold.specs.declared.entry.Numbered.{Numbered}
use Rattle.stream_fold.specs.declared.verdict.Verdict.{Verdict}
use Rattle.stream_fold.specs.declared.verdict.Refusal.{Refusal}
use Rattle.stream_fold.specs.Histories.{has_subject_of, limits_after, changed_rows, rows_after, newest_of_subjects, number_put, moment_of, mark_of}
use Rattle.stream_fold.specs.Copying.{bound_by}
use Rattle.stream_fold.specs.Held.{Held, State, id_of, repeated_in}
use Rattle.stream_fold.specs.Publishing.{verdict_behind, earlier_refusal, later_refusal}
use Rattle.stream_fold.specs.RowLists.{with_place, EachRow, seqs, Rises}
use Rattle.stream_fold.specs.Transforming.{own_transform}

abbrev pub held_in : Parts → Held
held_in p = record {
  limits = p.config;
  window = p.window;
  rows = p.rows.rows;
  last = p.last;
  clock = p.clock;
  bindings = p.bindings.items;
  marks = p.marks.items;
  sent = p.sent.items;
}

-- how many entries may be taken without memory
abbrev pub room_in : Parts → ℕ
room_in p =
    min (min p.rows.room (vec_capacity p.bindings - vec_len p.bindings))
    (min (vec_capacity p.marks - vec_len p.marks) (vec_capacity p.sent - vec_len p.sent))

abbrev pub state_in : Parts → State
state_in p = record { held = held_in p; room = room_in p; spare = p.spare; coming = p.coming }

-- the marks with this one in place of an earlier one of its index
abbrev pub with_mark : Mark → List Mark → List Mark
with_mark mark ms = filter (λ m. not (m.index == mark.index)) ms ++ mark ∷ []

abbrev pub with_mark_of : Option Mark → List Mark → List Mark
with_mark_of None marks = marks
with_mark_of (Some mark) marks = with_mark mark marks

-- without those at the front whose time plus the window is no more above the clock
abbrev pub still_open : ℕ → ℕ → List Sent → List Sent
still_open window clock [] = []
still_open window clock (s ∷ ss) = if nat_le (s.time + window) clock then still_open window clock ss else s ∷ ss

-- with the latest of an identifier in place of an earlier one
abbrev pub with_sent : Sent → List Sent → List Sent
with_sent sent ss = filter (λ s. not (bytes_eq s.id sent.id)) ss ++ sent ∷ []

abbrev pub sent_after : ℕ → ℕ → Option (List ℕ) → Entry → List Sent → List Sent
sent_after window clock None e ss = ss
sent_after window clock (Some id) e ss = still_open window clock (with_sent (record { id = id; seq = number_put e; time = moment_of e }) ss)

-- what is held after one entry more, before the limits
abbrev pub changed : Held → Entry → Held
changed held e = record {
  limits = limits_after held.limits e;
  window = held.window;
  rows = changed_rows held.limits e held.rows;
  last = max held.last (number_put e);
  clock = max held.clock (moment_of e);
  bindings = held.bindings ++ bound_by e;
  marks = with_mark_of (mark_of e) held.marks;
  sent = sent_after held.window (max held.clock (moment_of e)) (id_of e) e held.sent;
}

-- what is held after one entry more
abbrev pub held_after : Held → Entry → Held
held_after held e = record (changed held e) { rows = rows_after held.limits e held.rows }

-- what is held after one entry more, where the limit of each subject is applied alone
abbrev pub changed_newest : Held → Entry → Held
changed_newest held e = record (changed held e) { rows = newest_of_subjects (limits_after held.limits e).max_per_subject (changed_rows held.limits e held.rows) }

-- what is held after a message more, which takes the place of the first one of its subject where so
-- many stand
abbrev pub with_message : Held → Numbered → Option Mark → Held
with_message held row mark = record (changed held (Put row.seq row.message mark)) { rows = with_place held.limits.max_per_subject row.message.subject held.rows ++ row ∷ [] }

-- what a publish is answered, by what is held
abbrev pub verdict_held : Held → Message → ℕ → Result Verdict Refusal
verdict_held held m now = verdict_behind (earlier_refusal held.limits m) (repeated_in held (first_value (codes "Nats-Msg-Id") m.headers) now) (later_refusal held.limits m held.rows held.last)

-- none of the messages has so many later ones of its subject
abbrev pub AreNewest : ℕ → List Numbered → Type 0
AreNewest n [] = ⊤
AreNewest n (row ∷ rows) = (count_by (has_subject_of row) rows < n) × AreNewest n rows

-- the last number is below 2^63, the limit of each subject takes nothing away, and the numbers of the
-- messages rise up to the last one
pub record IsSettled (held : Held) : Type 0 where
  pub last : held.last < 2 ^ 63
  pub newest : ¬ (held.limits.max_per_subject ≡ 0) → AreNewest held.limits.max_per_subject held.rows
  pub rises : Rises 0 (seqs held.rows)
  pub below : EachRow (λ row. row.seq ≤ held.last) held.rows

-- what is held is settled, and the transform that was read is that of the configuration in force
pub record IsWhole (p : Parts) : Type 0 where
  pub settled : IsSettled (held_in p)
  pub transform : p.transform ≡ own_transform p.config.transform
