use Rattle.std.proofs.Common.{◌≡◌, ◌∙◌, ◌==◌, ◌++◌, length, drop, codes, true, false, MatchOption, Option, Some, None, List, ℕ, Bor, ap, sym, refl}
use Rattle.std.specs.List.{starts_with}
use Rattle.subject_transform.specs.Domains.{domain_prefix}
use Rattle.subject_transform.proofs.Prefixes.{no_second, third, behind_three}
use Rattle.subject_transform.proofs.domain.DomainMap.behind_prefix.Goals as goal

over : {T : Type 0} {A A' : Type 0} {B B' : T → Type 0} (o : Option T) → (A → A') → ((r : T) → B r → B' r) → MatchOption o A B → MatchOption o A' B'
over None f g h = f h
over (Some r) f g h = g r h

pub returns-in_err-called : goal.returns-in_err-called
returns-in_err-called c =
    let d : c.bytes.result.now ≡ c.args.self.now = c.bytes.ensures.value ∙ c.self.view_is in
    let first = c.in_ok-named.ensures in
    let other = ap (λ b. starts_with ◌==◌ c.in_ok-named.named.now b) (sym d) ∙ c.in_err-called.ensures in
    rw c.from_residual-in_err-called.ensures
    (no_second (codes "$JS.") c.args.self.now (codes ".API.") c.args.subject.now c.in_ok-named.named.now first.0 first.1 other)

pub returns : goal.returns
returns c =
    let d : c.bytes.result.now ≡ c.args.self.now = c.bytes.ensures.value ∙ c.self.view_is in
    let a = codes "$JS." in
    let e = codes ".API." in
    let b = c.args.self.now in
    let s = c.args.subject.now in
    let n = c.in_ok-named.named.now in
    let m = c.in_ok-called.called.now in
    let first = c.in_ok-named.ensures in
    let second = c.in_ok-called.ensures in
    let g : starts_with ◌==◌ n b ≡ true = ap (λ t. starts_with ◌==◌ n t) (sym d) ∙ second.0 in
    let f : m ≡ drop (length b) n = second.1 ∙ ap (λ t. drop (length t) n) d in
    let whole = third a b e s n m first.0 first.1 g f in
    over c.stripped-3.result
    (λ no. whole ∙ no)
    (λ r yes. (whole ∙ yes.0, yes.1 ∙ behind_three a b e s n m first.1 f))
    c.stripped-3.ensures
