-- A state after one entry more stands for the history with that entry.
use Rattle.std.proofs.Common.{◌≡◌, ℕ, ◌≤◌, max, Bool, true, false, cond, eqb, List, [], ◌∷◌, ◌++◌, Option, Some, None, refl, sym, ap, ◌∙◌, subst, arith}
use Rattle.std.specs.Prelude.{codes, Result}
use Rattle.nats_text.specs.Headers.{first_value}
use Rattle.nats_text.specs.declared.message.Message.{Message}
use Rattle.stream_fold.specs.declared.config.Config.{Config}
use Rattle.stream_fold.specs.declared.entry.Entry.{Entry}
use Rattle.stream_fold.specs.declared.entry.BoundTo.{BoundTo}
use Rattle.stream_fold.specs.declared.entry.Numbered.{Numbered}
use Rattle.stream_fold.specs.declared.parts.Binding.{Binding}
use Rattle.stream_fold.specs.declared.verdict.Verdict.{Verdict}
use Rattle.stream_fold.specs.declared.verdict.Refusal.{Refusal}
use Rattle.stream_fold.specs.Histories.{History, with_entry, either, last, clock, kept, stands, mark_of, moment_of, limits_after, rows_after, number_put}
use Rattle.stream_fold.specs.Copying.{bound, bound_by, bindings, binding_at, last_mark, mark_by, mark_in}
use Rattle.stream_fold.specs.Publishing.{dup, dup_of, in_window, latest_sent, sent_by, verdict, verdict_behind, earlier_refusal, later_refusal, GivesVerdict}
use Rattle.stream_fold.specs.Held.{Held, State, StandsFor, repeated_in, latest_in, number_in}
use Rattle.stream_fold.specs.Parts.{held_after, verdict_held}
use Rattle.stream_fold.proofs.Folds.{last-push, clock-push, bindings-push, stands-push}
use Rattle.stream_fold.proofs.Marking.{mark_in-with}
use Rattle.stream_fold.proofs.Sending.{sent-step, number_or, number_or-either}

pub either_assoc : {A : Type 0} (a b c : Option A) → either a (either b c) ≡ either (either a b) c
either_assoc (Some x) b c = refl
either_assoc None b c = refl

pub either-None : {A : Type 0} (a : Option A) → either a None ≡ a
either-None (Some x) = refl
either-None None = refl

-- the last mark, with an entry more
last_mark-push : (index : ℕ) (es : List Entry) (e : Entry) → last_mark index (es ++ e ∷ []) ≡ either (mark_by index (mark_of e)) (last_mark index es)
last_mark-push index [] e = sym (either-None (mark_by index (mark_of e)))
last_mark-push index (x ∷ xs) e = ap (λ o. either o (mark_by index (mark_of x))) (last_mark-push index xs e) ∙ sym (either_assoc (mark_by index (mark_of e)) (last_mark index xs) (mark_by index (mark_of x)))

-- the latest message of an identifier, with an entry more
latest_sent-push : (id : List ℕ) (es : List Entry) (e : Entry) → latest_sent id (es ++ e ∷ []) ≡ either (sent_by id e) (latest_sent id es)
latest_sent-push id [] e = sym (either-None (sent_by id e))
latest_sent-push id (x ∷ xs) e = ap (λ o. either o (sent_by id x)) (latest_sent-push id xs e) ∙ sym (either_assoc (sent_by id e) (latest_sent id xs) (sent_by id x))

binding-step : (b : Bool) (to : BoundTo) (all first rest : Option BoundTo) → all ≡ either first rest → cond b (Some to) all ≡ either (cond b (Some to) first) rest
binding-step true to all first rest e = refl
binding-step false to all first rest e = e

pub binding_at-append : (index : ℕ) (bs cs : List Binding) → binding_at index (bs ++ cs) ≡ either (binding_at index bs) (binding_at index cs)
binding_at-append index [] cs = refl
binding_at-append index (b ∷ bs) cs = binding-step (eqb b.index index) b.to (binding_at index (bs ++ cs)) (binding_at index bs) (binding_at index cs) (binding_at-append index bs cs)

pub bound-push : (index : ℕ) (es : List Entry) (e : Entry) → bound index (es ++ e ∷ []) ≡ either (bound index es) (binding_at index (bound_by e))
bound-push index es e = ap (binding_at index) (bindings-push es e) ∙ binding_at-append index (bindings es) (bound_by e)

module _ (state : State) (h : History) (e : Entry) (s : StandsFor state h) where
  bound_after : (index : ℕ) → binding_at index (held_after state.held e).bindings ≡ bound index (with_entry h e).entries
  bound_after index = binding_at-append index state.held.bindings (bound_by e) ∙ (ap (λ o. either o (binding_at index (bound_by e))) (s.bound index) ∙ sym (bound-push index h.entries e))

  marks_after : (index : ℕ) → mark_in index (held_after state.held e).marks ≡ last_mark index (with_entry h e).entries
  marks_after index = mark_in-with index (mark_of e) state.held.marks ∙ (ap (either (mark_by index (mark_of e))) (s.marks index) ∙ sym (last_mark-push index h.entries e))

  clock_after : max state.held.clock (moment_of e) ≡ clock (with_entry h e).entries
  clock_after = ap (λ n. max n (moment_of e)) s.clock ∙ sym (clock-push h.entries e)

  -- a repeat at a moment that isn't before either clock
  repeats_at : (id : List ℕ) (moment : ℕ) → max state.held.clock (moment_of e) ≤ moment → number_in state.held.window moment (latest_in id (held_after state.held e).sent) ≡ in_window h.config.window moment (latest_sent id (with_entry h e).entries)
  repeats_at id moment le =
      let top : ℕ = max state.held.clock (moment_of e) in
      let own : max moment state.held.clock ≡ moment = omega (arith, le) in
      let its : max moment (clock h.entries) ≡ moment = omega (arith, le, s.clock) in
      let earlier : number_in state.held.window moment (latest_in id state.held.sent) ≡ in_window h.config.window moment (latest_sent id h.entries) =
      sym (ap (λ n. number_in state.held.window n (latest_in id state.held.sent)) own) ∙ (s.repeats id moment ∙ ap (λ n. in_window h.config.window n (latest_sent id h.entries)) its) in
      sent-step id state.held.window top moment e state.held.sent le
      ∙ (ap (λ w. number_or w moment (sent_by id e) (latest_in id state.held.sent)) s.window
      ∙ (number_or-either h.config.window moment (sent_by id e) (latest_sent id h.entries) (latest_in id state.held.sent) (ap (λ w. number_in w moment (latest_in id state.held.sent)) (sym s.window) ∙ earlier)
      ∙ ap (in_window h.config.window moment) (sym (latest_sent-push id h.entries e))))

  repeats_after : (id : List ℕ) (now : ℕ) → repeated_in (held_after state.held e) (Some id) now ≡ dup (with_entry h e) id now
  repeats_after id now =
      repeats_at id (max now (max state.held.clock (moment_of e))) (omega arith)
      ∙ ap (λ n. in_window h.config.window (max now n) (latest_sent id (with_entry h e).entries)) clock_after

  stands_after : (new : State) → new.held ≡ held_after state.held e → StandsFor new (with_entry h e)
  stands_after new step = record {
    limits = ap (λ (k : Held). k.limits) step ∙ (ap (λ c. limits_after c e) s.limits ∙ sym (ap (λ k. k.limits) (stands-push h e)));
    window = ap (λ (k : Held). k.window) step ∙ s.window;
    rows = ap (λ (k : Held). k.rows) step ∙ (ap (λ c. rows_after c e state.held.rows) s.limits ∙ (ap (rows_after (stands h).limits e) s.rows ∙ sym (ap (λ k. k.rows) (stands-push h e))));
    last = ap (λ (k : Held). k.last) step ∙ (ap (λ n. max n (number_put e)) s.last ∙ sym (last-push h.entries e));
    clock = ap (λ (k : Held). k.clock) step ∙ clock_after;
    bound = λ index. ap (λ (k : Held). binding_at index k.bindings) step ∙ bound_after index;
    marks = λ index. ap (λ (k : Held). mark_in index k.marks) step ∙ marks_after index;
    repeats = λ id now. ap (λ (k : Held). repeated_in k (Some id) now) step ∙ repeats_after id now;
  }

-- what stands for a history stands for it with the entry after the step
pub stands_on : (old new : State) (e : Entry) → new.held ≡ held_after old.held e → (h : History) → StandsFor old h → StandsFor new (with_entry h e)
stands_on old new e step h s = stands_after old h e s new step

-- what is held tells the repeats of the history
repeats_of : (state : State) (h : History) (o : Option (List ℕ)) (now : ℕ) → StandsFor state h → repeated_in state.held o now ≡ dup_of h o now
repeats_of state h None now s = refl
repeats_of state h (Some id) now s = s.repeats id now

-- what is held gives the verdict of each history that it stands for
pub gives_verdict : (state : State) (h : History) (m : Message) (now : ℕ) (result : Result Verdict Refusal) → StandsFor state h → GivesVerdict result (verdict_held state.held m now) → GivesVerdict result (verdict h m now)
gives_verdict state h m now result s gives =
    let id : Option (List ℕ) = first_value (codes "Nats-Msg-Id") m.headers in
    let limits : verdict_held state.held m now ≡ verdict_behind (earlier_refusal (stands h).limits m) (repeated_in state.held id now) (later_refusal (stands h).limits m state.held.rows state.held.last) =
    ap (λ (c : Config). verdict_behind (earlier_refusal c m) (repeated_in state.held id now) (later_refusal c m state.held.rows state.held.last)) s.limits in
    let rows = ap (λ (rs : List Numbered). verdict_behind (earlier_refusal (stands h).limits m) (repeated_in state.held id now) (later_refusal (stands h).limits m rs state.held.last)) s.rows in
    let last_is = ap (λ n. verdict_behind (earlier_refusal (stands h).limits m) (repeated_in state.held id now) (later_refusal (stands h).limits m (kept h) n)) s.last in
    let repeats = ap (λ r. verdict_behind (earlier_refusal (stands h).limits m) r (later_refusal (stands h).limits m (kept h) (last h.entries))) (repeats_of state h id now s) in
    subst (GivesVerdict result) (limits ∙ (rows ∙ (last_is ∙ repeats))) gives
