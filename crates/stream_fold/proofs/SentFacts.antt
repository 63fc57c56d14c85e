-- What the facts say of messages that a publish may repeat.
use Rattle.std.proofs.Common.{◌≡◌, ℕ, ◌+◌, ◌≤◌, max, Bool, true, false, cond, List, [], ◌∷◌, Option, Some, None, refl, sym, ap, ◌∙◌, arith}
use Rattle.std.specs.Prelude.{nat_lt, codes}
use Rattle.std.specs.FinMap.{get, get-empty}
use Rattle.std.specs.Cmp.Lexicographic.{slice_cmp, bytes_decides}
use Rattle.std.specs.Ordering.{nat_cmp}
use Rattle.std.specs.Str.{bytes_eq}
use Rattle.std.proofs.lemmas.Bool.{ltb-true, lt-ltb}
use Rattle.nats_text.specs.Headers.{first_value}
use Rattle.nats_text.specs.declared.message.Message.{Message}
use Rattle.stream_fold.specs.declared.config.Config.{Config}
use Rattle.stream_fold.specs.declared.entry.Entry.{Entry}
use Rattle.stream_fold.specs.declared.entry.Entry.TheVariants.{Put, Del, Purge, Expire, Bind, Limits}
use Rattle.stream_fold.specs.declared.entry.Numbered.{Numbered}
use Rattle.stream_fold.specs.declared.parts.Sent.{Sent}
use Rattle.stream_fold.specs.Histories.{History, with_entry, either, last, clock, moment_of, kept, stands, limits_after}
use Rattle.stream_fold.specs.Publishing.{dup, dup_of, in_window, latest_sent, sent_by, is_value, verdict, verdict_behind, earlier_refusal, later_refusal}
use Rattle.stream_fold.specs.Fits.{Fits, FitAfter, AllFit}
use Rattle.stream_fold.specs.Held.{latest_in, number_in, id_of}
use Rattle.stream_fold.specs.Facts.{StreamFacts, sends, sent_with, facts_after, facts_from, new_facts, facts, dup_by_facts, repeat_by_facts, verdict_by_facts, open_sent, LeavesWindow, AllLeaveWindow, KeepsWindow}
use Rattle.stream_fold.proofs.Folds.{stands-push}
use Rattle.stream_fold.proofs.Stepping.{either_assoc, either-None}
use Rattle.stream_fold.proofs.FactLemmas.{if_open, get-while_open, get-sent_with, facts-tell}

-- ---- one message at several moments

absurd_bool : {A : Type 0} → true ≡ false → A
absurd_bool e = absurd (cc)

open-later_by : (w c d : ℕ) (id : List ℕ) (row : Numbered) (a b : Bool) → c ≤ d → nat_lt c (row.message.time + w) ≡ a → nat_lt d (row.message.time + w) ≡ b
    → if_open w d (cond a (Some (record { id = id; seq = row.seq; time = row.message.time })) None) ≡ cond b (Some (record { id = id; seq = row.seq; time = row.message.time })) None
open-later_by w c d id row true true le p q = rw q refl
open-later_by w c d id row true false le p q = rw q refl
open-later_by w c d id row false true le p q =
    let x = ltb-true d (row.message.time + w) q in
    absurd_bool (sym (lt-ltb c (row.message.time + w) (omega (arith, x, le))) ∙ p)
open-later_by w c d id row false false le p q = refl

-- what is open at a moment was open before
open-later : (w c d : ℕ) (id : List ℕ) (o : Option Numbered) → c ≤ d → if_open w d (open_sent w c id o) ≡ open_sent w d id o
open-later w c d id None le = refl
open-later w c d id (Some row) le = open-later_by w c d id row (nat_lt c (row.message.time + w)) (nat_lt d (row.message.time + w)) le refl refl

number-later_by : (w c d : ℕ) (id : List ℕ) (row : Numbered) (a b : Bool) → c ≤ d → nat_lt c (row.message.time + w) ≡ a → nat_lt d (row.message.time + w) ≡ b
    → number_in w d (cond a (Some (record { id = id; seq = row.seq; time = row.message.time })) None) ≡ cond b (Some row.seq) None
number-later_by w c d id row true true le p q = rw q refl
number-later_by w c d id row true false le p q = rw q refl
number-later_by w c d id row false true le p q =
    let x = ltb-true d (row.message.time + w) q in
    absurd_bool (sym (lt-ltb c (row.message.time + w) (omega (arith, x, le))) ∙ p)
number-later_by w c d id row false false le p q = refl

-- the number that is repeated at a moment is that of a message which is open now
number-later : (w c d : ℕ) (id : List ℕ) (o : Option Numbered) → c ≤ d → number_in w d (open_sent w c id o) ≡ in_window w d o
number-later w c d id None le = refl
number-later w c d id (Some row) le = number-later_by w c d id row (nat_lt c (row.message.time + w)) (nat_lt d (row.message.time + w)) le refl refl

-- ---- one entry more

-- a message under an identifier, or another one
newer : (w d : ℕ) (id other : List ℕ) (number : ℕ) (message : Message) (b : Bool) → bytes_eq other id ≡ b → (now : Option Sent) (before : Option Numbered) → if_open w d now ≡ open_sent w d id before
    → if_open w d (either (cond b (Some (record { id = other; seq = number; time = message.time })) None) now) ≡ open_sent w d id (either (cond b (Some (record { seq = number; message = message })) None) before)
newer w d id other number message true q now before e =
    ap (λ i. if_open w d (Some (record { id = i; seq = number; time = message.time }))) ((bytes_decides other id).0 q)
    ∙ by (nat_lt d (message.time + w)) refl
  where
    by : (a : Bool) → nat_lt d (message.time + w) ≡ a → if_open w d (Some (record { id = id; seq = number; time = message.time })) ≡ open_sent w d id (Some (record { seq = number; message = message }))
    by true p = rw p refl
    by false p = rw p refl
newer w d id other number message false q now before e = e

sent-put : (w d : ℕ) (id : List ℕ) (o : Option (List ℕ)) (number : ℕ) (message : Message) (now : Option Sent) (before : Option Numbered) → if_open w d now ≡ open_sent w d id before
    → if_open w d (either (latest_in id (sends o (Put number message None))) now) ≡ open_sent w d id (either (cond (is_value id o) (Some (record { seq = number; message = message })) None) before)
sent-put w d id None number message now before e = e
sent-put w d id (Some other) number message now before e = newer w d id other number message (bytes_eq other id) refl now before e

sent-entry : (w d : ℕ) (id : List ℕ) (e : Entry) (now : Option Sent) (before : Option Numbered) → if_open w d now ≡ open_sent w d id before
    → if_open w d (either (latest_in id (sends (id_of e) e)) now) ≡ open_sent w d id (either (sent_by id e) before)
sent-entry w d id (Put number message None) now before e = sent-put w d id (first_value (codes "Nats-Msg-Id") message.headers) number message now before e
sent-entry w d id (Put number message (Some mark)) now before e = e
sent-entry w d id (Del number) now before e = e
sent-entry w d id (Purge pattern below) now before e = e
sent-entry w d id (Expire at) now before e = e
sent-entry w d id (Bind index incarnation start) now before e = e
sent-entry w d id (Limits config) now before e = e

window-after : (c : Config) (w : ℕ) (e : Entry) → c.window ≡ w → LeavesWindow w e → (limits_after c e).window ≡ w
window-after c w (Put number message mark) is leaves = is
window-after c w (Del number) is leaves = is
window-after c w (Purge pattern below) is leaves = is
window-after c w (Expire at) is leaves = is
window-after c w (Bind index incarnation start) is leaves = is
window-after c w (Limits config) is leaves = leaves

sent-after : (w : ℕ) (f : StreamFacts) (e : Entry) (id : List ℕ) (before : Option Numbered) → f.config.window ≡ w → LeavesWindow w e → get f.sent id ≡ open_sent w f.clock id before
    → get (facts_after f e).sent id ≡ open_sent w (max f.clock (moment_of e)) id (either (sent_by id e) before)
sent-after w f e id before is leaves h =
    let d : ℕ = max f.clock (moment_of e) in
    get-while_open (limits_after f.config e).window d (sent_with (sends (id_of e) e) f.sent) id
    ∙ ap (λ v. if_open v d (get (sent_with (sends (id_of e) e) f.sent) id)) (window-after f.config w e is leaves)
    ∙ ap (if_open w d) (get-sent_with (sends (id_of e) e) f.sent id)
    ∙ sent-entry w d id e (get f.sent id) before (ap (if_open w d) h ∙ open-later w f.clock d id before (omega arith))

sent-from : (w : ℕ) (f : StreamFacts) (es : List Entry) (id : List ℕ) (before : Option Numbered) → f.config.window ≡ w → AllLeaveWindow w es → get f.sent id ≡ open_sent w f.clock id before
    → get (facts_from f es).sent id ≡ open_sent w (facts_from f es).clock id (either (latest_sent id es) before)
sent-from w f [] id before is leave h = h
sent-from w f (e ∷ es) id before is leave h =
    sent-from w (facts_after f e) es id (either (sent_by id e) before) (window-after f.config w e is leave.0) leave.1 (sent-after w f e id before is leave.0 h)
    ∙ ap (open_sent w (facts_from (facts_after f e) es).clock id) (either_assoc (latest_sent id es) (sent_by id e) before)

window-from : (w : ℕ) (f : StreamFacts) (es : List Entry) → f.config.window ≡ w → AllLeaveWindow w es → (facts_from f es).config.window ≡ w
window-from w f [] is leave = is
window-from w f (e ∷ es) is leave = window-from w (facts_after f e) es (window-after f.config w e is leave.0) leave.1

-- ---- whole histories

pub window-kept : (h : History) → KeepsWindow h → (facts h).config.window ≡ h.config.window
window-kept h keeps = window-from h.config.window (new_facts h.config) h.entries refl keeps

-- of each identifier the latest message, while it is open
pub holds-open : (h : History) (id : List ℕ) → KeepsWindow h → get (facts h).sent id ≡ open_sent h.config.window (clock h.entries) id (latest_sent id h.entries)
holds-open h id keeps =
    sent-from h.config.window (new_facts h.config) h.entries id None refl keeps (get-empty (slice_cmp nat_cmp) id)
    ∙ ap (λ o. open_sent h.config.window (facts h).clock id o) (either-None (latest_sent id h.entries))
    ∙ ap (λ c. open_sent h.config.window c id (latest_sent id h.entries)) (facts-tell h).clock

-- what a publish of an identifier would repeat
pub tell-repeats : (h : History) (id : List ℕ) (now : ℕ) → KeepsWindow h → dup_by_facts (facts h) id now ≡ dup h id now
tell-repeats h id now keeps =
    let w : ℕ = h.config.window in
    let c : ℕ = clock h.entries in
    ap (λ v. number_in v (max now (facts h).clock) (get (facts h).sent id)) (window-kept h keeps)
    ∙ ap (λ k. number_in w (max now k) (get (facts h).sent id)) (facts-tell h).clock
    ∙ ap (number_in w (max now c)) (holds-open h id keeps)
    ∙ number-later w c (max now c) id (latest_sent id h.entries) (omega arith)

repeats_of : (h : History) (o : Option (List ℕ)) (now : ℕ) → KeepsWindow h → repeat_by_facts (facts h) o now ≡ dup_of h o now
repeats_of h None now keeps = refl
repeats_of h (Some id) now keeps = tell-repeats h id now keeps

-- what a publish is answered
pub tell-verdicts : (h : History) (m : Message) (now : ℕ) → KeepsWindow h → verdict_by_facts (facts h) m now ≡ verdict h m now
tell-verdicts h m now keeps =
    let t = facts-tell h in
    let id : Option (List ℕ) = first_value (codes "Nats-Msg-Id") m.headers in
    let repeated : Option ℕ = repeat_by_facts (facts h) id now in
    ap (λ (c : Config). verdict_behind (earlier_refusal c m) repeated (later_refusal c m (facts h).rows (facts h).last)) t.limits
    ∙ ap (λ (rows : List Numbered). verdict_behind (earlier_refusal (stands h).limits m) repeated (later_refusal (stands h).limits m rows (facts h).last)) t.rows
    ∙ ap (λ n. verdict_behind (earlier_refusal (stands h).limits m) repeated (later_refusal (stands h).limits m (kept h) n)) t.last
    ∙ ap (λ r. verdict_behind (earlier_refusal (stands h).limits m) r (later_refusal (stands h).limits m (kept h) (last h.entries))) (repeats_of h id now keeps)

-- ---- entries that fit

fit-leaves : (h : History) (w : ℕ) (e : Entry) → (stands h).limits.window ≡ w → Fits h e → LeavesWindow w e
fit-leaves h w (Put number message mark) is fits = tt
fit-leaves h w (Del number) is fits = tt
fit-leaves h w (Purge pattern below) is fits = tt
fit-leaves h w (Expire at) is fits = tt
fit-leaves h w (Bind index incarnation start) is fits = tt
fit-leaves h w (Limits config) is fits = fits.window ∙ is

fit-leave : (h : History) (w : ℕ) (es : List Entry) → (stands h).limits.window ≡ w → FitAfter h es → AllLeaveWindow w es
fit-leave h w [] is fit = tt
fit-leave h w (e ∷ es) is fit =
    let leaves = fit-leaves h w e is fit.0 in
    (leaves, fit-leave (with_entry h e) w es (ap (λ k. k.limits.window) (stands-push h e) ∙ window-after (stands h).limits w e is leaves) fit.1)

-- where each entry fits those before it, the window stays
pub fitting-keep : (h : History) → AllFit h → KeepsWindow h
fitting-keep h fit = fit-leave (record { config = h.config; entries = [] }) h.config.window h.entries refl fit
