-- A pump under way: what it has sent and what is still to be sent are together what it sends.
use Rattle.std.proofs.Common.{◌≡◌, ℕ, ◌+◌, ◌-◌, ◌<◌, ◌≤◌, Bool, true, false, cond, ◌||◌, eqb, List, [], ◌∷◌, ◌++◌, length, Some, None, refl, sym, ap, ◌∙◌, arith, append_assoc, append-nil}
use Rattle.std.proofs.lemmas.Bool.{ne_eqb, eq-eqb}
use Rattle.js_wire.specs.declared.packet.Packet.{Packet}
use Rattle.nats_text.specs.declared.message.Message.{Message}
use Rattle.stream_fold.specs.declared.entry.Numbered.{Numbered}
use Rattle.stream_fold.specs.Histories.{message_at}
use Rattle.stream_fold.specs.Publishing.{next_match}
use Rattle.push_consumer.specs.Progress.{Progress, ConsumerState, is_spent, after_row, after_rows, next_number}
use Rattle.push_consumer.specs.Pumps.{rows_sent, packets_of, packets_sent}
use Rattle.push_consumer.specs.Sends.{rows_from, to_send}
use Rattle.push_consumer.proofs.Finding.{rows_none, rows_next}

-- With so much of the budget left, from this number on, with so many messages still to be sent, this
-- progress and these packets.
pub record IsUnderWay (c : ConsumerState) (rows : List Numbered) (budget left from pending : ℕ) (q : Progress) (packets : List Packet) : Type 0 where
  pub waiting : pending ≡ length (rows_from from c.wanted.filters rows)
  pub sends : packets ++ packets_sent c left q (rows_from from c.wanted.filters rows) ≡ packets_sent c budget c.progress (to_send rows c)
  pub counts : after_rows q (rows_sent left q (rows_from from c.wanted.filters rows)) ≡ after_rows c.progress (rows_sent budget c.progress (to_send rows c))

pub begins : (c : ConsumerState) (rows : List Numbered) (budget from pending : ℕ) → from ≡ next_number c.wanted.start c.progress → pending ≡ length (rows_from from c.wanted.filters rows) → IsUnderWay c rows budget budget from pending c.progress []
begins c rows budget from pending e waits = record {
  waiting = waits;
  sends = ap (λ n. packets_sent c budget c.progress (rows_from n c.wanted.filters rows)) e;
  counts = ap (λ n. after_rows c.progress (rows_sent budget c.progress (rows_from n c.wanted.filters rows))) e;
}

-- one row more
pub goes_on : (c : ConsumerState) (rows : List Numbered) (budget left from pending : ℕ) (q : Progress) (packets : List Packet) (n : ℕ) (m : Message) (q' : Progress) (packets' : List Packet) → IsUnderWay c rows budget left from pending q packets → 0 < left → is_spent q ≡ false → next_match from c.wanted.filters rows ≡ Some n → message_at n rows ≡ Some m → q' ≡ after_row q (record { seq = n; message = m }) → packets' ≡ packets ++ packets_of c q (pending - 1) (record { seq = n; message = m }) → IsUnderWay c rows budget (left - 1) (n + 1) (pending - 1) q' packets'
goes_on c rows budget left from pending q packets n m q' packets' h some open_window next found counted sent =
    let row : Numbered = record { seq = n; message = m } in
    let behind = rows_from (n + 1) c.wanted.filters rows in
    let all : rows_from from c.wanted.filters rows ≡ row ∷ behind = rows_next from n c.wanted.filters rows m next found in
    let waiting : pending - 1 ≡ length behind = omega (arith, h.waiting, ap length all) in
    let test : (eqb left 0 || is_spent q) ≡ false = ap (λ b. b || is_spent q) (ne_eqb left 0 (λ e. absurd (omega (arith, e, some)))) ∙ open_window in
    let sends : packets_sent c left q (rows_from from c.wanted.filters rows) ≡ packets_of c q (length behind) row ++ packets_sent c (left - 1) (after_row q row) behind =
    ap (packets_sent c left q) all ∙ ap (λ b. cond b [] (packets_of c q (length behind) row ++ packets_sent c (left - 1) (after_row q row) behind)) test in
    let rest : rows_sent left q (rows_from from c.wanted.filters rows) ≡ row ∷ rows_sent (left - 1) (after_row q row) behind =
    ap (rows_sent left q) all ∙ ap (λ b. cond b [] (row ∷ rows_sent (left - 1) (after_row q row) behind)) test in
    record {
      waiting = waiting;
      sends =
          ap (λ ps. ps ++ packets_sent c (left - 1) q' behind) (sent ∙ ap (λ k. packets ++ packets_of c q k row) waiting)
          ∙ (ap (λ p. (packets ++ packets_of c q (length behind) row) ++ packets_sent c (left - 1) p behind) counted
          ∙ (append_assoc packets (packets_of c q (length behind) row) (packets_sent c (left - 1) (after_row q row) behind)
          ∙ (ap (λ ps. packets ++ ps) (sym sends) ∙ h.sends)));
      counts =
          ap (λ p. after_rows p (rows_sent (left - 1) p behind)) counted
          ∙ (sym (ap (after_rows q) rest) ∙ h.counts);
    }

-- what a pump leaves at its end
pub record IsDone (c : ConsumerState) (rows : List Numbered) (budget : ℕ) (q : Progress) (packets : List Packet) : Type 0 where
  pub sends : packets ≡ packets_sent c budget c.progress (to_send rows c)
  pub counts : q ≡ after_rows c.progress (rows_sent budget c.progress (to_send rows c))

stops-step : (c : ConsumerState) (left : ℕ) (q : Progress) (rest : List Numbered) → (eqb left 0 || is_spent q) ≡ true → (packets_sent c left q rest ≡ []) × (rows_sent left q rest ≡ [])
stops-step c left q [] e = (refl, refl)
stops-step c left q (row ∷ rows) e = (
  ap (λ b. cond b [] (packets_of c q (length rows) row ++ packets_sent c (left - 1) (after_row q row) rows)) e,
  ap (λ b. cond b [] (row ∷ rows_sent (left - 1) (after_row q row) rows)) e,
)

ends : (c : ConsumerState) (rows : List Numbered) (budget left from pending : ℕ) (q : Progress) (packets : List Packet) → IsUnderWay c rows budget left from pending q packets → packets_sent c left q (rows_from from c.wanted.filters rows) ≡ [] → rows_sent left q (rows_from from c.wanted.filters rows) ≡ [] → IsDone c rows budget q packets
ends c rows budget left from pending q packets h none nothing = record {
  sends = sym (append-nil packets) ∙ (ap (λ ps. packets ++ ps) (sym none) ∙ h.sends);
  counts = ap (after_rows q) (sym nothing) ∙ h.counts;
}

-- it ends where nothing is left of the budget
pub ends_budget : (c : ConsumerState) (rows : List Numbered) (budget left from pending : ℕ) (q : Progress) (packets : List Packet) → IsUnderWay c rows budget left from pending q packets → left ≤ 0 → IsDone c rows budget q packets
ends_budget c rows budget left from pending q packets h none =
    let stop = stops-step c left q (rows_from from c.wanted.filters rows) (ap (λ b. b || is_spent q) (eq-eqb left 0 (omega (arith, none)))) in
    ends c rows budget left from pending q packets h stop.0 stop.1

either-true : (b d : Bool) → d ≡ true → (b || d) ≡ true
either-true true d e = refl
either-true false d e = e

-- it ends where the window is spent
pub ends_window : (c : ConsumerState) (rows : List Numbered) (budget left from pending : ℕ) (q : Progress) (packets : List Packet) → IsUnderWay c rows budget left from pending q packets → is_spent q ≡ true → IsDone c rows budget q packets
ends_window c rows budget left from pending q packets h spent =
    let stop = stops-step c left q (rows_from from c.wanted.filters rows) (either-true (eqb left 0) (is_spent q) spent) in
    ends c rows budget left from pending q packets h stop.0 stop.1

-- it ends where no message is next
pub ends_rows : (c : ConsumerState) (rows : List Numbered) (budget left from pending : ℕ) (q : Progress) (packets : List Packet) → IsUnderWay c rows budget left from pending q packets → next_match from c.wanted.filters rows ≡ None → IsDone c rows budget q packets
ends_rows c rows budget left from pending q packets h none =
    let empty : rows_from from c.wanted.filters rows ≡ [] = rows_none from c.wanted.filters rows none in
    ends c rows budget left from pending q packets h (ap (packets_sent c left q) empty) (ap (rows_sent left q) empty)

-- ---- a count of the messages

-- so many were counted up to a number
pub record IsCounted (rows : List Numbered) (filters : List (List ℕ)) (start from count : ℕ) : Type 0 where
  pub all : count + length (rows_from from filters rows) ≡ length (rows_from start filters rows)
  pub below : count ≤ from
