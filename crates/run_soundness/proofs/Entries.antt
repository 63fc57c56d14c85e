-- What one entry more does to what copies are bound to, have stored and have come to.
use Rattle.std.proofs.Common.{◌≡◌, ◌≢◌, ℕ, suc, ◌+◌, ◌-◌, ◌≤◌, Bool, true, false, cond, eqb, List, [], ◌∷◌, ◌++◌, Option, Some, None, refl, sym, ap, ◌∙◌, subst, arith, ◌⊎◌, inl, inr, append_assoc, append-nil, map}
use Rattle.std.specs.Prelude.{Contains}
use Rattle.std.proofs.lemmas.Bool.{eqb-true, eq-eqb}
use Rattle.std.proofs.lemmas.List.{map-append}
use Rattle.nats_text.specs.declared.message.Message.{Message}
use Rattle.nats_text.specs.declared.message.Start.{Start}
use Rattle.nats_text.specs.declared.message.Start.TheVariants.{Seq, Time}
use Rattle.nats_text.specs.declared.origin.Origin.{Origin}
use Rattle.js_wire.specs.declared.packet.AskerId.{AskerId}
use Rattle.stream_fold.specs.declared.config.Config.{Config}
use Rattle.stream_fold.specs.declared.config.Copies.{Copies}
use Rattle.stream_fold.specs.declared.config.Copies.TheVariants.{Nothing, Mirror, Sources}
use Rattle.stream_fold.specs.declared.entry.BoundTo.{BoundTo}
use Rattle.stream_fold.specs.declared.entry.Entry.{Entry}
use Rattle.stream_fold.specs.declared.entry.Entry.TheVariants.{Put, Del, Purge, Expire, Bind, Limits}
use Rattle.stream_fold.specs.declared.entry.Mark.{Mark}
use Rattle.stream_fold.specs.declared.parts.Binding.{Binding}
use Rattle.stream_fold.specs.Copying.{bound_by, bindings, binding_at, bound, start_by, start_of, origin_named, copy_start, mark_by, last_mark, mark_or, mark, front, Stored, stored_under, stored_by, stored, marks, PassesBy, IsNoPut}
use Rattle.stream_fold.specs.Facts.{facts}
use Rattle.stream_fold.specs.Fits.{AllFit}
use Rattle.stream_fold.specs.Histories.{History, with_entry, either, put, put_by, last, number_put, mark_of, stands}
use Rattle.stream_fold.specs.RowLists.{Rises}
use Rattle.stream_fold.proofs.Folds.{last-push, bindings-push, bindings-append}
use Rattle.stream_fold.proofs.Growth.{put-append}
use Rattle.stream_fold.proofs.FactLemmas.{facts-tell}
use Rattle.shard_machine.specs.Views.{Copy, reached_by, reached, ask_start}
use Rattle.run_soundness.specs.Soundness.{copy_of}
use Rattle.run_soundness.proofs.LogsLegal.{fit-keeps}
use Rattle.run_soundness.proofs.Lists.{cons-cases, Contains-head, Contains-tail, Contains-none}

pub either_none : {A : Type 0} (a : Option A) → either a None ≡ a
either_none (Some x) = refl
either_none None = refl

either_assoc : {A : Type 0} (a b c : Option A) → either (either a b) c ≡ either a (either b c)
either_assoc (Some x) b c = refl
either_assoc None b c = refl

-- ---- bindings

at_cons : (i : ℕ) (b : Binding) (o : Option BoundTo) (p : Option BoundTo) (t : Bool) → cond t (Some b.to) (either o p) ≡ either (cond t (Some b.to) o) p
at_cons i b o p true = refl
at_cons i b o p false = refl

binding-append : (i : ℕ) (xs ys : List Binding) → binding_at i (xs ++ ys) ≡ either (binding_at i xs) (binding_at i ys)
binding-append i [] ys = refl
binding-append i (b ∷ xs) ys = ap (λ (o : Option BoundTo). cond (eqb b.index i) (Some b.to) o) (binding-append i xs ys) ∙ at_cons i b (binding_at i xs) (binding_at i ys) (eqb b.index i)

pub bound-push : (i : ℕ) (es : List Entry) (e : Entry) → bound i (es ++ e ∷ []) ≡ either (bound i es) (binding_at i (bound_by e))
bound-push i es e = ap (binding_at i) (bindings-push es e) ∙ binding-append i (bindings es) (bound_by e)

pub other-index : (a b : ℕ) → a ≢ b → eqb a b ≡ false
other-index a b f = by (eqb a b) refl
  where
    by : (t : Bool) → eqb a b ≡ t → t ≡ false
    by true e = absurd (f (eqb-true a b e))
    by false e = refl

binds-none : (i : ℕ) (e : Entry) → PassesBy i e → binding_at i (bound_by e) ≡ None
binds-none i (Put number message mark) p = refl
binds-none i (Del number) p = refl
binds-none i (Purge pattern below) p = refl
binds-none i (Expire now) p = refl
binds-none i (Bind other incarnation start) p = ap (λ t. cond t (Some (record { incarnation = incarnation; start = start })) None) (other-index other i p)
binds-none i (Limits config) p = refl

pub bound-passes : (i : ℕ) (es : List Entry) (e : Entry) → PassesBy i e → bound i (es ++ e ∷ []) ≡ bound i es
bound-passes i es e p = bound-push i es e ∙ (ap (λ (o : Option BoundTo). either (bound i es) o) (binds-none i e p) ∙ either_none (bound i es))

pub bound-binds : (i inc from : ℕ) (es : List Entry) → bound i es ≡ None → bound i (es ++ Bind i inc from ∷ []) ≡ Some (record { incarnation = inc; start = from })
bound-binds i inc from es free =
    bound-push i es (Bind i inc from)
    ∙ (ap (λ (o : Option BoundTo). either o (binding_at i (bound_by (Bind i inc from)))) free
    ∙ ap (λ t. cond t (Some (record { incarnation = inc; start = from })) None) (eq-eqb i i refl))

-- ---- marks

pub last_mark-push : (i : ℕ) (es : List Entry) (e : Entry) → last_mark i (es ++ e ∷ []) ≡ either (mark_by i (mark_of e)) (last_mark i es)
last_mark-push i [] e = sym (either_none (mark_by i (mark_of e)))
last_mark-push i (x ∷ es) e =
    ap (λ (o : Option ℕ). either o (mark_by i (mark_of x))) (last_mark-push i es e)
    ∙ either_assoc (mark_by i (mark_of e)) (last_mark i es) (mark_by i (mark_of x))

marks-none : (i : ℕ) (e : Entry) → PassesBy i e → mark_by i (mark_of e) ≡ None
marks-none i (Put number message mark) p = p
marks-none i (Del number) p = refl
marks-none i (Purge pattern below) p = refl
marks-none i (Expire now) p = refl
marks-none i (Bind other incarnation start) p = refl
marks-none i (Limits config) p = refl

pub last_mark-passes : (i : ℕ) (es : List Entry) (e : Entry) → PassesBy i e → last_mark i (es ++ e ∷ []) ≡ last_mark i es
last_mark-passes i es e p = last_mark-push i es e ∙ ap (λ (o : Option ℕ). either o (last_mark i es)) (marks-none i e p)

-- ---- what was stored

pub stored-push : (i : ℕ) (es : List Entry) (e : Entry) → stored i (es ++ e ∷ []) ≡ stored i es ++ stored_by i e
stored-push i [] e = append-nil (stored_by i e)
stored-push i (x ∷ es) e = ap (λ (l : List Stored). stored_by i x ++ l) (stored-push i es e) ∙ sym (append_assoc (stored_by i x) (stored i es) (stored_by i e))

stores-none : (i : ℕ) (e : Entry) → PassesBy i e → stored_by i e ≡ []
stores-none i (Put number message mark) p = ap (λ (o : Option ℕ). stored_under o message) p
stores-none i (Del number) p = refl
stores-none i (Purge pattern below) p = refl
stores-none i (Expire now) p = refl
stores-none i (Bind other incarnation start) p = refl
stores-none i (Limits config) p = refl

pub stored-passes : (i : ℕ) (es : List Entry) (e : Entry) → PassesBy i e → stored i (es ++ e ∷ []) ≡ stored i es
stored-passes i es e p = stored-push i es e ∙ (ap (λ (l : List Stored). stored i es ++ l) (stores-none i e p) ∙ append-nil (stored i es))

mark_own : (i n seq : ℕ) (m : Message) → stored_by i (Put n m (Some (record { index = i; seq = seq }))) ≡ (record { mark = seq; message = m }) ∷ []
mark_own i n seq m = ap (λ t. stored_under (cond t (Some seq) None) m) (eq-eqb i i refl)

pub marks-store : (i : ℕ) (es : List Entry) (n seq : ℕ) (m : Message) → marks i (es ++ Put n m (Some (record { index = i; seq = seq })) ∷ []) ≡ marks i es ++ seq ∷ []
marks-store i es n seq m =
    ap (map (λ (s : Stored). s.mark)) (stored-push i es (Put n m (Some (record { index = i; seq = seq }))) ∙ ap (λ (l : List Stored). stored i es ++ l) (mark_own i n seq m))
    ∙ map-append (λ (s : Stored). s.mark) (stored i es) ((record { mark = seq; message = m }) ∷ [])

-- ---- puts

puts-none : (s : ℕ) (e : Entry) → IsNoPut e → put_by s e ≡ None
puts-none s (Put number message mark) p = absurd p
puts-none s (Del number) p = refl
puts-none s (Purge pattern below) p = refl
puts-none s (Expire now) p = refl
puts-none s (Bind other incarnation start) p = refl
puts-none s (Limits config) p = refl

number-none : (e : Entry) → IsNoPut e → number_put e ≡ 0
number-none (Put number message mark) p = absurd p
number-none (Del number) p = refl
number-none (Purge pattern below) p = refl
number-none (Expire now) p = refl
number-none (Bind other incarnation start) p = refl
number-none (Limits config) p = refl

pub put-passes : (es : List Entry) (e : Entry) (s : ℕ) → IsNoPut e → put s (es ++ e ∷ []) ≡ put s es
put-passes es e s p = put-append es (e ∷ []) s ∙ (ap (λ (o : Option Message). either (put s es) (either o None)) (puts-none s e p) ∙ either_none (put s es))

pub last-passes : (es : List Entry) (e : Entry) → IsNoPut e → last (es ++ e ∷ []) ≡ last es
last-passes es e p = let q = last-push es e in let z = number-none e p in omega arith

put_by-other : (s n : ℕ) (m : Message) (k : Option Mark) → s ≢ n → put_by s (Put n m k) ≡ None
put_by-other s n m k f = ap (λ t. cond t (Some m) None) (other-index n s (λ e. f (sym e)))

pub put-others : (es : List Entry) (n : ℕ) (m : Message) (k : Option Mark) (s : ℕ) → s ≢ n → put s (es ++ Put n m k ∷ []) ≡ put s es
put-others es n m k s f = put-append es (Put n m k ∷ []) s ∙ (ap (λ (o : Option Message). either (put s es) (either o None)) (put_by-other s n m k f) ∙ either_none (put s es))

-- ---- copies

-- the copies are those of the creation
pub copies-are : (g : History) → AllFit g → (stands g).limits.copies ≡ g.config.copies
copies-are g fit = (fit-keeps g fit).copies

pub start-passes : (i : ℕ) (g : History) (e : Entry) → AllFit g → AllFit (with_entry g e) → PassesBy i e → copy_start i (with_entry g e) ≡ copy_start i g
start-passes i g e fit more p =
    ap (λ (o : Option BoundTo). start_of o (origin_named i (stands (with_entry g e)).limits.copies)) (bound-passes i g.entries e p)
    ∙ ap (λ (c : Copies). start_of (bound i g.entries) (origin_named i c)) (copies-are (with_entry g e) more ∙ sym (copies-are g fit))

start-by-positive : (b : Option BoundTo) (s : Start) → 1 ≤ start_by b s
start-by-positive None (Seq n) = omega arith
start-by-positive None (Time t) = omega arith
start-by-positive (Some to) s = omega arith

pub start-positive : (i : ℕ) (g : History) → 1 ≤ copy_start i g
start-positive i g = by (origin_named i (stands g).limits.copies)
  where
    by : (o : Option Origin) → 1 ≤ start_of (bound i g.entries) o
    by None = omega arith
    by (Some o) = start-by-positive (bound i g.entries) o.start

-- where a copy starts of which the index names this origin
pub start-is : (i : ℕ) (g : History) (want : Origin) → AllFit g → origin_named i g.config.copies ≡ Some want → copy_start i g ≡ start_by (bound i g.entries) want.start
start-is i g want fit o =
    ap (λ (c : Copies). start_of (bound i g.entries) (origin_named i c)) (copies-are g fit)
    ∙ ap (λ (x : Option Origin). start_of (bound i g.entries) x) o

-- how far a copy has come
abbrev pub point : Copies → ℕ → Origin → History → ℕ
point Nothing i want g = 0
point (Mirror o) i want g = front want.start g.entries
point (Sources os) i want g = mark i g

reached-by : (c : Copies) (i : ℕ) (want : Origin) (g : History) → reached_by c i want (facts g) ≡ point c i want g
reached-by Nothing i want g = refl
reached-by (Mirror o) i want g = (facts-tell g).front want.start
reached-by (Sources os) i want g = (facts-tell g).mark i

pub reached-is : (a : AskerId) (g : History) (want : Origin) → AllFit g → reached (copy_of a g want) ≡ point g.config.copies a.index want g
reached-is a g want fit =
    ap (λ (c : Config). reached_by c.copies a.index want (facts g)) (facts-tell g).limits
    ∙ (ap (λ (c : Copies). reached_by c a.index want (facts g)) (copies-are g fit)
    ∙ reached-by g.config.copies a.index want g)

-- where a copy asks from, by what it is bound to
abbrev pub asks_from : Copy → Option BoundTo → Start
asks_from c None = c.want.start
asks_from c (Some to) = Seq (reached c + 1)

pub ask_start-is : (a : AskerId) (g : History) (want : Origin) → ask_start (copy_of a g want) ≡ asks_from (copy_of a g want) (bound a.index g.entries)
ask_start-is a g want = ap (λ (o : Option BoundTo). asks_from (copy_of a g want) o) ((facts-tell g).bound a.index)

-- ---- the last mark is the greatest

final : List ℕ → Option ℕ
final [] = None
final (x ∷ xs) = either (final xs) (Some x)

final-under : (i : ℕ) (es : List Entry) (o : Option ℕ) (m : Message) → last_mark i es ≡ final (marks i es) → either (last_mark i es) o ≡ final (map (λ (s : Stored). s.mark) (stored_under o m ++ stored i es))
unfolding final
final-under i es None m e = either_none (last_mark i es) ∙ e
final-under i es (Some x) m e = ap (λ (o : Option ℕ). either o (Some x)) e

final-entry : (i : ℕ) (es : List Entry) (e : Entry) → last_mark i es ≡ final (marks i es) → last_mark i (e ∷ es) ≡ final (marks i (e ∷ es))
final-entry i es (Put number message k) e = final-under i es (mark_by i k) message e
final-entry i es (Del number) e = either_none (last_mark i es) ∙ e
final-entry i es (Purge pattern below) e = either_none (last_mark i es) ∙ e
final-entry i es (Expire now) e = either_none (last_mark i es) ∙ e
final-entry i es (Bind other incarnation start) e = either_none (last_mark i es) ∙ e
final-entry i es (Limits config) e = either_none (last_mark i es) ∙ e

last-final : (i : ℕ) (es : List Entry) → last_mark i es ≡ final (marks i es)
unfolding final
last-final i [] = refl
last-final i (e ∷ es) = final-entry i es e (last-final i es)

rises-above : (low : ℕ) (xs : List ℕ) (s : ℕ) → Rises low xs → Contains xs s → low ≤ s
rises-above low [] s r q = absurd (Contains-none s q)
rises-above low (x ∷ xs) s r q = elim (cons-cases x xs s q) [
  | inl e ↦ (let p = r.0 in omega arith)
  | inr more ↦ (let p = rises-above (suc x) xs s r.1 more in let z = r.0 in omega arith)
]

final-by : (x : ℕ) (xs : List ℕ) (t : ℕ) (o : Option ℕ) → final xs ≡ o → either o (Some x) ≡ Some t → ((z : ℕ) → final xs ≡ Some z → Contains xs z) → Contains (x ∷ xs) t
final-by x xs t None e q f = (let same : x ≡ t = cc in subst (λ y. Contains (x ∷ xs) y) same (Contains-head x xs))
final-by x xs t (Some z) e q f = (let same : z ≡ t = cc in Contains-tail x xs t (subst (λ y. Contains xs y) same (f z e)))

final-in : (xs : List ℕ) (t : ℕ) → final xs ≡ Some t → Contains xs t
unfolding final
final-in [] t e = absurd (cc)
final-in (x ∷ xs) t e = final-by x xs t (final xs) refl e (λ z q. final-in xs z q)

none-by : (x : ℕ) (o : Option ℕ) → either o (Some x) ≡ None → ⊥
none-by x None e = cc
none-by x (Some z) e = cc

final-none : (xs : List ℕ) (t : ℕ) → final xs ≡ None → Contains xs t → ⊥
unfolding final
final-none [] t e q = Contains-none t q
final-none (x ∷ xs) t e q = none-by x (final xs) e

top-by : (low n x : ℕ) (xs : List ℕ) (s : ℕ) (o : Option ℕ) → final xs ≡ o → Rises (suc x) xs → (x ≡ s) ⊎ Contains xs s → (Contains xs s → s ≤ mark_or (final xs) n) → s ≤ mark_or (either o (Some x)) n
top-by low n x xs s None e r (inl same) f = omega arith
top-by low n x xs s None e r (inr more) f = absurd (final-none xs s e more)
top-by low n x xs s (Some z) e r (inl same) f = let q = rises-above (suc x) xs z r (final-in xs z e) in omega arith
top-by low n x xs s (Some z) e r (inr more) f = subst (λ (o : Option ℕ). s ≤ mark_or o n) e (f more)

final-top : (low n : ℕ) (xs : List ℕ) (s : ℕ) → Rises low xs → Contains xs s → s ≤ mark_or (final xs) n
unfolding final
final-top low n [] s r q = absurd (Contains-none s q)
final-top low n (x ∷ xs) s r q = top-by low n x xs s (final xs) refl r.1 (cons-cases x xs s q) (λ more. final-top (suc x) n xs s r.1 more)

-- each mark is at most how far the source has come
pub mark-top : (i : ℕ) (g : History) (s : ℕ) → Rises (copy_start i g) (marks i g.entries) → Contains (marks i g.entries) s → s ≤ mark i g
mark-top i g s r q = subst (λ (o : Option ℕ). s ≤ mark_or o (copy_start i g - 1)) (sym (last-final i g.entries)) (final-top (copy_start i g) (copy_start i g - 1) (marks i g.entries) s r q)

-- what was never stored has no mark
pub marks-empty : (i : ℕ) (es : List Entry) → stored i es ≡ [] → marks i es ≡ []
marks-empty i es e = ap (map (λ (s : Stored). s.mark)) e

pub last-none : (i : ℕ) (es : List Entry) → stored i es ≡ [] → last_mark i es ≡ None
unfolding final
last-none i es e = last-final i es ∙ ap final (marks-empty i es e)

-- ---- longer histories

pub bound-append : (i : ℕ) (es xs : List Entry) → bound i (es ++ xs) ≡ either (bound i es) (bound i xs)
bound-append i es xs = ap (binding_at i) (bindings-append es xs) ∙ binding-append i (bindings es) (bindings xs)

pub stored-append : (i : ℕ) (es xs : List Entry) → stored i (es ++ xs) ≡ stored i es ++ stored i xs
stored-append i [] xs = refl
stored-append i (e ∷ es) xs = ap (λ (l : List Stored). stored_by i e ++ l) (stored-append i es xs) ∙ sym (append_assoc (stored_by i e) (stored i es) (stored i xs))

pub marks-append : (i : ℕ) (es xs : List Entry) → marks i (es ++ xs) ≡ marks i es ++ marks i xs
marks-append i es xs = ap (map (λ (s : Stored). s.mark)) (stored-append i es xs) ∙ map-append (λ (s : Stored). s.mark) (stored i es) (stored i xs)

-- the last mark is one of the marks
pub last-in : (i : ℕ) (es : List Entry) (x : ℕ) → last_mark i es ≡ Some x → Contains (marks i es) x
last-in i es x e = final-in (marks i es) x (sym (last-final i es) ∙ e)

-- a mark is never below the start
pub mark-above : (low : ℕ) (xs : List ℕ) (s : ℕ) → Rises low xs → Contains xs s → low ≤ s
mark-above low xs s r q = rises-above low xs s r q
