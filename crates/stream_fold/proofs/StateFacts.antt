-- A state that stands for a history shows its facts.
use Rattle.std.proofs.Common.{◌≡◌, ℕ, ◌+◌, ◌<◌, ◌≤◌, max, Bool, true, false, cond, List, [], ◌∷◌, ◌++◌, Option, Some, None, is_some, refl, sym, ap, ◌∙◌, arith}
use Rattle.std.specs.Prelude.{nat_lt}
use Rattle.std.specs.FinMap.{get, empty, get-empty, same_map}
use Rattle.std.specs.FinMap as maps
use Rattle.std.specs.Ordering.{nat_cmp}
use Rattle.std.specs.Cmp.{nat_cmp_total}
use Rattle.std.specs.Cmp.Lexicographic.{slice_cmp, nat_list_cmp_total, bytes_decides}
use Rattle.std.specs.Str.{bytes_eq}
use Rattle.std.proofs.lemmas.Bool.{ltb-true, ltb-false, le-ltb}
use Rattle.stream_fold.specs.declared.entry.Entry.{Entry}
use Rattle.stream_fold.specs.declared.entry.Numbered.{Numbered}
use Rattle.stream_fold.specs.declared.parts.Sent.{Sent}
use Rattle.stream_fold.specs.Histories.{History, with_entry, either, clock}
use Rattle.stream_fold.specs.Copying.{binding_at}
use Rattle.stream_fold.specs.Publishing.{in_window, latest_sent}
use Rattle.stream_fold.specs.Held.{State, StandsFor, latest_in, number_in}
use Rattle.stream_fold.specs.Facts.{bindings_with, sent_with, while_open, marks_in, facts_after, facts, dup_by_facts, open_sent, AllLeaveWindow, KeepsWindow, facts_in}
use Rattle.stream_fold.proofs.Stepping.{either-None}
use Rattle.stream_fold.proofs.FactLemmas.{if_open, get-while_open, get-sent_with, get-marks_in, get-bindings_with, facts-push, facts-tell}
use Rattle.stream_fold.proofs.SentFacts.{window-kept, tell-repeats, holds-open}

-- ---- one identifier

-- what is found under an identifier has it
later-id : (id : List ℕ) (t s : Sent) (o : Option Sent) (b : Bool) → bytes_eq t.id id ≡ b → (o ≡ Some s → s.id ≡ id) → either o (cond b (Some t) None) ≡ Some s → s.id ≡ id
later-id id t s (Some u) b q h e = h e
later-id id t s None true q h e = let same : t ≡ s = cc in ap (λ (x : Sent). x.id) (sym same) ∙ (bytes_decides t.id id).0 q
later-id id t s None false q h e = absurd (cc)

latest-id : (id : List ℕ) (ss : List Sent) (s : Sent) → latest_in id ss ≡ Some s → s.id ≡ id
latest-id id [] s e = absurd (cc)
latest-id id (t ∷ ss) s e = later-id id t s (latest_in id ss) (bytes_eq t.id id) refl (latest-id id ss s) e

-- two that give the same numbers at each moment from the clock on
abbrev AreAlike : ℕ → ℕ → Option Sent → Option Numbered → Type 0
AreAlike w c o r = (moment : ℕ) → c ≤ moment → number_in w moment o ≡ in_window w moment r

if_some : (b d : Bool) (x y : ℕ) → cond b (Some x) None ≡ (let o : Option ℕ = cond d (Some y) None in o) → b ≡ d
if_some true true x y e = refl
if_some false false x y e = refl
if_some true false x y e = absurd (cc)
if_some false true x y e = absurd (cc)

-- they are open at the same moments
open_alike : (w c moment : ℕ) (s : Sent) (row : Numbered) → AreAlike w c (Some s) (Some row) → c ≤ moment → nat_lt moment (s.time + w) ≡ nat_lt moment (row.message.time + w)
open_alike w c moment s row alike le = if_some (nat_lt moment (s.time + w)) (nat_lt moment (row.message.time + w)) s.seq row.seq (alike moment le)

shut : (n : ℕ) → nat_lt n n ≡ false
shut n = le-ltb n n (omega arith)

-- so their times are the same, where they are open at the clock
same_times : (w c : ℕ) (s : Sent) (row : Numbered) → AreAlike w c (Some s) (Some row) → c < s.time + w → c < row.message.time + w → s.time ≡ row.message.time
same_times w c s row alike lt gt =
    let no_longer = ltb-false (s.time + w) (row.message.time + w) (sym (open_alike w c (s.time + w) s row alike (omega (arith, lt))) ∙ shut (s.time + w)) in
    let no_shorter = ltb-false (row.message.time + w) (s.time + w) (open_alike w c (row.message.time + w) s row alike (omega (arith, gt)) ∙ shut (row.message.time + w)) in
    omega (arith, no_longer, no_shorter)

same_Some : (x y : ℕ) → Some x ≡ Some y → x ≡ y
same_Some x y e = cc

-- a message, where it is open
abbrev open_if : Bool → List ℕ → Numbered → Option Sent
open_if b id row = cond b (Some (record { id = id; seq = row.seq; time = row.message.time })) None

both_open : (w c : ℕ) (id : List ℕ) (s : Sent) (row : Numbered) (b : Bool) → s.id ≡ id → AreAlike w c (Some s) (Some row) → nat_lt c (s.time + w) ≡ b → nat_lt c (row.message.time + w) ≡ b
    → cond (is_some (cond b (Some s.seq) None)) (Some s) None ≡ open_if b id row
both_open w c id s row false is alike p q = refl
both_open w c id s row true is alike p q =
    let seqs : s.seq ≡ row.seq = same_Some s.seq row.seq (sym (ap (λ b. cond b (Some s.seq) None) p) ∙ (alike c (omega arith) ∙ ap (λ b. cond b (Some row.seq) None) q)) in
    let times : s.time ≡ row.message.time = same_times w c s row alike (ltb-true c (s.time + w) p) (ltb-true c (row.message.time + w) q) in
    λ i. Some (record { id = is i; seq = seqs i; time = times i })

-- what is found in a list is the latest message, while that is open
same_open : (w c : ℕ) (id : List ℕ) (o : Option Sent) (r : Option Numbered) → ((s : Sent) → o ≡ Some s → s.id ≡ id) → AreAlike w c o r → if_open w c o ≡ open_sent w c id r
same_open w c id None None is alike = refl
same_open w c id None (Some row) is alike = by (nat_lt c (row.message.time + w)) refl
  where
    by : (b : Bool) → nat_lt c (row.message.time + w) ≡ b → None ≡ open_if b id row
    by false q = refl
    by true q = absurd (let z : None ≡ Some row.seq = alike c (omega arith) ∙ ap (λ b. cond b (Some row.seq) None) q in cc)
same_open w c id (Some s) None is alike = by (nat_lt c (s.time + w)) refl
  where
    by : (b : Bool) → nat_lt c (s.time + w) ≡ b → cond (is_some (cond b (Some s.seq) None)) (Some s) None ≡ None
    by false q = refl
    by true q = absurd (let z : Some s.seq ≡ None = sym (ap (λ b. cond b (Some s.seq) None) q) ∙ alike c (omega arith) in cc)
same_open w c id (Some s) (Some row) is alike =
    both_open w c id s row (nat_lt c (s.time + w)) (is s refl) alike refl (sym (open_alike w c c s row alike (omega arith)))
    ∙ ap (λ b. open_if b id row) (open_alike w c c s row alike (omega arith))

-- ---- a whole state

module _ (state : State) (h : History) (keeps : KeepsWindow h) (s : StandsFor state h) where
  marks_are : marks_in state.held.marks ≡ (facts h).marks
  marks_are = same_map nat_cmp_total maps.nat_cmp-IsAntisymmetric _ _ (λ i. get-marks_in state.held.marks i ∙ (s.marks i ∙ sym ((facts-tell h).marks i)))

  bindings_are : bindings_with state.held.bindings empty ≡ (facts h).bindings
  bindings_are = same_map nat_cmp_total maps.nat_cmp-IsAntisymmetric _ _ (λ i.
      get-bindings_with state.held.bindings empty i
      ∙ (ap (λ o. either o (binding_at i state.held.bindings)) (get-empty nat_cmp i)
      ∙ (s.bound i ∙ sym ((facts-tell h).bound i))))

  alike : (id : List ℕ) → AreAlike h.config.window (clock h.entries) (latest_in id state.held.sent) (latest_sent id h.entries)
  alike id moment le =
      let own : max moment state.held.clock ≡ moment = omega (arith, le, s.clock) in
      let its : max moment (clock h.entries) ≡ moment = omega (arith, le) in
      ap (λ w. number_in w moment (latest_in id state.held.sent)) (sym s.window)
      ∙ (ap (λ n. number_in state.held.window n (latest_in id state.held.sent)) (sym own)
      ∙ (s.repeats id moment
      ∙ ap (λ n. in_window h.config.window n (latest_sent id h.entries)) its))

  sent_at : (id : List ℕ) → get (while_open state.held.window state.held.clock (sent_with state.held.sent empty)) id ≡ get (facts h).sent id
  sent_at id =
      get-while_open state.held.window state.held.clock (sent_with state.held.sent empty) id
      ∙ (ap (if_open state.held.window state.held.clock) (get-sent_with state.held.sent empty id ∙ (ap (either (latest_in id state.held.sent)) (get-empty (slice_cmp nat_cmp) id) ∙ either-None (latest_in id state.held.sent)))
      ∙ (ap (λ w. if_open w state.held.clock (latest_in id state.held.sent)) s.window
      ∙ (ap (λ c. if_open h.config.window c (latest_in id state.held.sent)) s.clock
      ∙ (same_open h.config.window (clock h.entries) id (latest_in id state.held.sent) (latest_sent id h.entries) (latest-id id state.held.sent) (alike id)
      ∙ sym (holds-open h id keeps)))))

  sent_are : while_open state.held.window state.held.clock (sent_with state.held.sent empty) ≡ (facts h).sent
  sent_are = same_map nat_list_cmp_total (maps.slice_cmp-IsAntisymmetric maps.nat_cmp-IsAntisymmetric) _ _ sent_at

-- what it shows are the facts of the history
pub shows-facts : (state : State) (h : History) → KeepsWindow h → StandsFor state h → facts_in state.held ≡ facts h
shows-facts state h keeps s =
    let t = facts-tell h in
    let limits = s.limits ∙ sym t.limits in
    let last = s.last ∙ sym t.last in
    let clock = s.clock ∙ sym t.clock in
    let rows = s.rows ∙ sym t.rows in
    λ i. record {
      config = limits i;
      last = last i;
      clock = clock i;
      marks = marks_are state h keeps s i;
      bindings = bindings_are state h keeps s i;
      sent = sent_are state h keeps s i;
      rows = rows i;
    }

front-keeps : (w : ℕ) (es : List Entry) (e : Entry) → AllLeaveWindow w (es ++ e ∷ []) → AllLeaveWindow w es
front-keeps w [] e keeps = tt
front-keeps w (x ∷ es) e keeps = (keeps.0, front-keeps w es e keeps.1)

-- after one entry more it shows the facts with that entry
pub shown-grow : (old new : State) (h : History) (e : Entry) → KeepsWindow (with_entry h e) → StandsFor old h → StandsFor new (with_entry h e) → facts_in new.held ≡ facts_after (facts_in old.held) e
shown-grow old new h e keeps before now =
    shows-facts new (with_entry h e) keeps now
    ∙ (facts-push h e
    ∙ ap (λ f. facts_after f e) (sym (shows-facts old h (front-keeps h.config.window h.entries e keeps) before)))

-- histories of the same facts have the same states
pub facts-suffice : (state : State) (h other : History) → KeepsWindow h → KeepsWindow other → facts h ≡ facts other → StandsFor state h → StandsFor state other
facts-suffice state h other keeps same_window same s =
    let t = facts-tell h in
    let u = facts-tell other in
    record {
      limits = s.limits ∙ (sym t.limits ∙ (ap (λ f. f.config) same ∙ u.limits));
      window = s.window ∙ (sym (window-kept h keeps) ∙ (ap (λ f. f.config.window) same ∙ window-kept other same_window));
      rows = s.rows ∙ (sym t.rows ∙ (ap (λ f. f.rows) same ∙ u.rows));
      last = s.last ∙ (sym t.last ∙ (ap (λ f. f.last) same ∙ u.last));
      clock = s.clock ∙ (sym t.clock ∙ (ap (λ f. f.clock) same ∙ u.clock));
      bound = λ i. s.bound i ∙ (sym (t.bound i) ∙ (ap (λ f. get f.bindings i) same ∙ u.bound i));
      marks = λ i. s.marks i ∙ (sym (t.marks i) ∙ (ap (λ f. get f.marks i) same ∙ u.marks i));
      repeats = λ id now. s.repeats id now ∙ (sym (tell-repeats h id now keeps) ∙ (ap (λ f. dup_by_facts f id now) same ∙ tell-repeats other id now same_window));
    }
