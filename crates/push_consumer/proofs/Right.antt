-- What was sent stays right through each call of a consumer, and as the history grows.
use Rattle.std.proofs.Common.{◌≡◌, ℕ, suc, ◌+◌, ◌-◌, ◌<◌, ◌≤◌, Bool, true, false, cond, ◌||◌, eqb, leb, List, [], ◌∷◌, ◌++◌, length, map, take, drop, ltb, refl, sym, ap, ◌∙◌, subst, arith, append_assoc, append-nil}
use Rattle.std.specs.Prelude.{filter}
use Rattle.std.proofs.lemmas.Bool.{and_parts, ltb-true, leb-true, ne_eqb}
use Rattle.nats_text.specs.declared.message.Stamp.{Stamp}
use Rattle.stream_fold.specs.declared.entry.Entry.{Entry}
use Rattle.stream_fold.specs.declared.entry.Numbered.{Numbered}
use Rattle.stream_fold.specs.Histories.{History, NumbersRise, kept}
use Rattle.stream_fold.specs.Held.{State, StandsFor as StateStandsFor}
use Rattle.stream_fold.specs.Laws.{HolesStay, PutsStay, KeptRise, KeptWerePut}
use Rattle.stream_fold.specs.Publishing.{is_next}
use Rattle.stream_fold.specs.RowLists.{seqs}
use Rattle.push_consumer.specs.declared.wanted.Wanted.{Wanted}
use Rattle.push_consumer.specs.Chains.{Sent, Sendings, StandsFor, IsRight, SkipsHoles, WithinWindow, no_sendings, with_row, with_rows, chain, next_of, last_of}
use Rattle.push_consumer.specs.Laws.{answered_to}
use Rattle.push_consumer.specs.Progress.{Progress, ConsumerState, new_consumer, answered_by, is_awaited, is_spent, latest_token, next_number, after_row, after_rows, after_beat, beats}
use Rattle.push_consumer.specs.Pumps.{rows_sent, pump_rows, pumped}
use Rattle.push_consumer.specs.Sends.{rows_from, to_send}
use Rattle.push_consumer.proofs.Finding.{sends_wanted}
use Rattle.push_consumer.proofs.Holes.{skips_none, skips_more, skips_longer}
use Rattle.push_consumer.proofs.Sending.{stands_row, stands_answer, chain_row}
use Rattle.push_consumer.proofs.Windows.{within_row, within_answer}

-- a new consumer
pub right_new : (h : History) (name : Stamp) (stream : List ℕ) (what : Wanted) (now : ℕ) → IsRight h (new_consumer name stream what now) no_sendings
right_new h name stream what now = record {
  stands = record { count = refl; last = refl; answer = refl; unanswered = refl; recent = refl; tokens = omega arith; due = tt };
  skips = skips_none h what.start what.filters;
  window = omega arith;
}

-- ---- a pump

-- the progress is that of what was sent, which is within the window
record Stands (q : Progress) (c : Sendings) : Type 0 where
  stands : StandsFor q c
  window : WithinWindow c

rows-step : (z d : Bool) (q : Progress) (c : Sendings) (row : Numbered) (rest : List Numbered) → is_spent q ≡ d → Stands q c → (Stands (after_row q row) (with_row c row) → Stands (after_rows (after_row q row) rest) (with_rows (with_row c row) rest)) → Stands (after_rows q (cond (z || d) [] (row ∷ rest))) (with_rows c (cond (z || d) [] (row ∷ rest)))
rows-step true d q c row rest is h ih = h
rows-step false true q c row rest is h ih = h
rows-step false false q c row rest is h ih = ih (record { stands = stands_row q c row h.stands; window = within_row q c row h.stands is })

-- the rows that are sent
stands_rows : (budget : ℕ) (q : Progress) (c : Sendings) (rows : List Numbered) → Stands q c → Stands (after_rows q (rows_sent budget q rows)) (with_rows c (rows_sent budget q rows))
stands_rows budget q c [] h = h
stands_rows budget q c (row ∷ rows) h = rows-step (eqb budget 0) (is_spent q) q c row (rows_sent (budget - 1) (after_row q row) rows) refl h (stands_rows (budget - 1) (after_row q row) (with_row c row) rows)

taken-step : (b : Bool) (row : Numbered) (rows rest : List Numbered) → rest ≡ take (length rest) rows → cond b [] (row ∷ rest) ≡ take (length (cond b [] (row ∷ rest))) (row ∷ rows)
taken-step true row rows rest e = refl
taken-step false row rows rest e = ap (λ rs. row ∷ rs) e

-- the rows that are sent are the first ones
sent_first : (budget : ℕ) (q : Progress) (rows : List Numbered) → rows_sent budget q rows ≡ take (length (rows_sent budget q rows)) rows
sent_first budget q [] = refl
sent_first budget q (row ∷ rows) = taken-step ((eqb budget 0) || is_spent q) row rows (rows_sent (budget - 1) (after_row q row) rows) (sent_first (budget - 1) (after_row q row) rows)

-- the chain with these rows more
chain_rows : (c : Sendings) (rows : List Numbered) → chain (with_rows c rows) ≡ chain c ++ seqs rows
chain_rows c [] = sym (append-nil (chain c))
chain_rows c (row ∷ rows) = chain_rows (with_row c row) rows ∙ (ap (λ ns. ns ++ seqs rows) (chain_row c row) ∙ append_assoc (chain c) (row.seq ∷ []) (seqs rows))

next_of-last : (start x : ℕ) (xs : List ℕ) → next_of start (x ∷ xs) ≡ last_of (x ∷ xs) + 1
next_of-last start x [] = omega arith
next_of-last start x (y ∷ ys) = next_of-last (suc x) y ys

-- the next number is that behind the chain
next_of_chain : (start n last : ℕ) (sent : List Sent) → n ≡ length sent → last ≡ last_of (map (λ (s : Sent). s.seq) sent) → cond (eqb n 0) start (last + 1) ≡ next_of start (map (λ (s : Sent). s.seq) sent)
next_of_chain start n last [] e f = ap (λ k. cond (eqb k 0) start (last + 1)) e
next_of_chain start n last (s ∷ ss) e f =
    let some : eqb n 0 ≡ false = ne_eqb n 0 (λ q. absurd (omega (arith, e, q))) in
    ap (λ b. cond b start (last + 1)) some
    ∙ (ap (λ k. k + 1) f ∙ sym (next_of-last start s.seq (map (λ (x : Sent). x.seq) ss)))

next_sent : (start : ℕ) (q : Progress) (c : Sendings) → StandsFor q c → next_number start q ≡ next_of start (chain c)
next_sent start q c h = next_of_chain start q.count q.last c.sent h.count h.last

-- a pump over the kept messages of a history
skips_pump : (h : History) (p : ConsumerState) (c : Sendings) (budget : ℕ) (rows : List Numbered) → KeptRise → KeptWerePut → NumbersRise h.entries → rows ≡ kept h → IsRight h p c → SkipsHoles h p.wanted.start p.wanted.filters (chain (with_rows c (rows_sent budget p.progress (to_send rows p))))
skips_pump h p c budget rows rises were rise same ok =
    let start = p.wanted.start in
    let filters = p.wanted.filters in
    let next : next_number start p.progress ≡ next_of start (chain c) = next_sent start p.progress c ok.stands in
    let all : to_send rows p ≡ filter (is_next (next_of start (chain c)) filters) (kept h) =
    ap (rows_from (next_number start p.progress) filters) same
    ∙ (sends_wanted (next_number start p.progress) filters (kept h) (rises h rise)
    ∙ ap (λ n. filter (is_next n filters) (kept h)) next) in
    let sent = rows_sent budget p.progress (to_send rows p) in
    let first : sent ≡ take (length sent) (filter (is_next (next_of start (chain c)) filters) (kept h)) = sent_first budget p.progress (to_send rows p) ∙ ap (take (length sent)) all in
    let numbers : chain (with_rows c sent) ≡ chain c ++ seqs (take (length sent) (filter (is_next (next_of start (chain c)) filters) (kept h))) = chain_rows c sent ∙ ap (λ rs. chain c ++ seqs rs) first in
    subst (SkipsHoles h start filters) (sym numbers) (skips_more h start filters (chain c) (length sent) rises were rise ok.skips)

pump-step : (h : History) (p : ConsumerState) (c : Sendings) (b : Bool) (moment : ℕ) (sent : List Numbered) → IsRight h p c → Stands (after_rows p.progress sent) (with_rows c sent) → SkipsHoles h p.wanted.start p.wanted.filters (chain (with_rows c sent)) → IsRight h (record p { progress = after_rows p.progress (cond b [] sent); moment = moment }) (with_rows c (cond b [] sent))
pump-step h p c true moment sent ok stands skips = record { stands = ok.stands; skips = ok.skips; window = ok.window }
pump-step h p c false moment sent ok stands skips = record { stands = stands.stands; skips = skips; window = stands.window }

pub right_pump : (h : History) (state : State) (p : ConsumerState) (c : Sendings) (budget now : ℕ) → KeptRise → KeptWerePut → NumbersRise h.entries → StateStandsFor state h → IsRight h p c → IsRight h (pumped state.held.rows budget now p) (with_rows c (pump_rows state.held.rows budget p))
right_pump h state p c budget now rises were rise stands ok =
    let rows = state.held.rows in
    pump-step h p c p.paused (pumped rows budget now p).moment (rows_sent budget p.progress (to_send rows p)) ok
    (stands_rows budget p.progress c (to_send rows p) (record { stands = ok.stands; window = ok.window }))
    (skips_pump h p c budget rows rises were rise stands.rows ok)

-- ---- the other calls

answer-step : (h : History) (p : ConsumerState) (c : Sendings) (token : ℕ) (b : Bool) → is_awaited token p.progress ≡ b → IsRight h p c → IsRight h (record p { progress = cond b (record p.progress { answered = token; unanswered = drop (token - p.progress.answered) p.progress.unanswered }) p.progress }) (cond b (record c { answered = token }) c)
answer-step h p c token false is ok = record { stands = ok.stands; skips = ok.skips; window = ok.window }
answer-step h p c token true is ok =
    let parts = and_parts (ltb p.progress.answered token) (leb token (latest_token p.progress)) is in
    let later : p.progress.answered < token = ltb-true p.progress.answered token parts.0 in
    let known : token ≤ latest_token p.progress = leb-true token (latest_token p.progress) parts.1 in
    let given : p.progress.answered ≡ c.answered = ok.stands.answer in
    record {
      stands = stands_answer p.progress c token ok.stands later known;
      skips = ok.skips;
      window = within_answer c token ok.stands.tokens (omega arith) ok.window;
    }

-- an answer to a flow request
pub right_answer : (h : History) (p : ConsumerState) (c : Sendings) (token : ℕ) → IsRight h p c → IsRight h (record p { progress = answered_by token p.progress }) (answered_to token p c)
right_answer h p c token ok = answer-step h p c token (is_awaited token p.progress) refl ok

beat-step : (h : History) (p : ConsumerState) (c : Sendings) (now : ℕ) (b : Bool) → IsRight h p c → IsRight h (cond b (record p { moment = now }) p) c
beat-step h p c now true ok = record { stands = ok.stands; skips = ok.skips; window = ok.window }
beat-step h p c now false ok = ok

-- a beat
pub right_beat : (h : History) (p : ConsumerState) (c : Sendings) (now : ℕ) → IsRight h p c → IsRight h (after_beat now p) c
right_beat h p c now ok = beat-step h p c now (beats now p) ok

-- a pause, or its end
pub right_pause : (h : History) (p : ConsumerState) (c : Sendings) (now_paused : Bool) → IsRight h p c → IsRight h (record p { paused = now_paused }) c
right_pause h p c now_paused ok = record { stands = ok.stands; skips = ok.skips; window = ok.window }

-- a longer history
pub right_longer : (h : History) (more : List Entry) (p : ConsumerState) (c : Sendings) → HolesStay → PutsStay → NumbersRise (h.entries ++ more) → IsRight h p c → IsRight (record { config = h.config; entries = h.entries ++ more }) p c
right_longer h more p c holes stay rise ok = record {
  stands = ok.stands;
  skips = skips_longer h.config h.entries more p.wanted.start p.wanted.filters (chain c) holes stay rise ok.skips;
  window = ok.window;
}
