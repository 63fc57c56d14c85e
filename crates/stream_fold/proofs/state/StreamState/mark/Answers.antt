use Rattle.std.proofs.Common.{◌≡◌, ◌-◌, Some, None, sym, ap, ◌∙◌}
use Rattle.std.specs.Option.{option_copied}
use Rattle.stream_fold.specs.declared.config.Config.{Config}
use Rattle.stream_fold.specs.Copying.{mark_in, last_mark, mark_or, copy_start, start_of, bound, origin_named}
use Rattle.stream_fold.specs.Held.{State}
use Rattle.stream_fold.proofs.state.StreamState.mark.Goals as goal

pub returns-in-Some : goal.returns-in-Some
returns-in-Some c = λ h s.
    let index = c.args.index in
    let marks : mark_in index c.self.inside.parts.marks.items ≡ last_mark index h.entries = ap (λ (k : State). mark_in index k.held.marks) c.self.view_is ∙ s.marks index in
    let found : last_mark index h.entries ≡ Some c.in-Some.seq = sym marks ∙ (sym (ap (mark_in index) c.deref.ensures.value) ∙ (sym c.last_mark.ensures ∙ c.in-Some.is)) in
    sym (ap (λ o. mark_or o (copy_start index h - 1)) found)

pub returns-in-None : goal.returns-in-None
returns-in-None c = λ h s.
    let index = c.args.index in
    let marks : mark_in index c.self.inside.parts.marks.items ≡ last_mark index h.entries = ap (λ (k : State). mark_in index k.held.marks) c.self.view_is ∙ s.marks index in
    let none : last_mark index h.entries ≡ None = sym marks ∙ (sym (ap (mark_in index) c.deref.ensures.value) ∙ (sym c.last_mark.ensures ∙ c.in-None.is)) in
    let start : c.start_of.result ≡ copy_start index h = c.start_of.ensures.value ∙ (ap (λ b. start_of b (option_copied c.origin_named.result)) (c.bound.ensures ∙ s.bound index) ∙ ap (start_of (bound index h.entries)) (c.origin_named.ensures ∙ (ap (λ (l : Config). origin_named index l.copies) c.config.ensures ∙ ap (λ (l : Config). origin_named index l.copies) s.limits))) in
    ap (λ n. n - 1) start ∙ sym (ap (λ o. mark_or o (copy_start index h - 1)) none)
