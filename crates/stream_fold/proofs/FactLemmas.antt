-- The facts of a history say what it leaves.
use Rattle.std.proofs.Common.{◌≡◌, ◌↔◌, ℕ, ◌<◌, max, Bool, true, false, cond, eqb, List, [], ◌∷◌, ◌++◌, Option, Some, None, is_some, IsSome, refl, sym, ap, ◌∙◌, subst, arith}
use Rattle.std.specs.Prelude.{◌-◌}
use Rattle.std.specs.FinMap.{FinMap, get, insert, get-empty, get-insert, get-retain_keys}
use Rattle.std.specs.FinMap as maps
use Rattle.std.specs.Ordering.{nat_cmp}
use Rattle.std.specs.Cmp.{nat_cmp_total, unsigned_tied, nat_eq_equiv}
use Rattle.std.specs.Cmp.Lexicographic.{slice_cmp, nat_list_cmp_total, bytes_decides}
use Rattle.std.specs.Str.{bytes_eq}
use Rattle.std.proofs.lemmas.Bool.{eqb-true}
use Rattle.std.proofs.lemmas.Map.Text.{is_eq-slice_cmp}
use Rattle.stream_fold.specs.declared.entry.BoundTo.{BoundTo}
use Rattle.stream_fold.specs.declared.entry.Entry.{Entry}
use Rattle.stream_fold.specs.declared.entry.Entry.TheVariants.{Put, Del, Purge, Expire, Bind, Limits}
use Rattle.stream_fold.specs.declared.entry.Mark.{Mark}
use Rattle.stream_fold.specs.declared.parts.Binding.{Binding}
use Rattle.stream_fold.specs.declared.parts.Sent.{Sent}
use Rattle.stream_fold.specs.Histories.{History, Folded, with_entry, either, last, clock, mark_of, standing, stands, message_at}
use Rattle.stream_fold.specs.Copying.{bindings, bound_by, binding_at, last_mark, mark_by, mark_in, mark_or, start_by, start_of, origin_named}
use Rattle.stream_fold.specs.Fits.{Fits, KeepsMembers, index_count}
use Rattle.stream_fold.specs.Held.{latest_in, number_in}
use Rattle.stream_fold.specs.Facts.{Marks, Bindings, SentById, StreamFacts, marks_with, first_bound, bindings_with, sent_with, while_open, marks_in, facts_after, facts_from, new_facts, facts, start_by_facts, FitsFacts}
use Rattle.stream_fold.specs.FactLaws.{TellOf}
use Rattle.stream_fold.proofs.Stepping.{either_assoc, either-None, binding_at-append}

-- ---- look-ups in maps

same_flipped : (x y : ℕ) → eqb x y ≡ eqb y x
same_flipped x y = nat_eq_equiv.symm x y

bytes_flipped : (x y : List ℕ) → bytes_eq x y ≡ bytes_eq y x
bytes_flipped x y = by (bytes_eq x y) (bytes_eq y x) refl refl
  where
    by : (a b : Bool) → bytes_eq x y ≡ a → bytes_eq y x ≡ b → a ≡ b
    by true true p q = refl
    by false false p q = refl
    by true false p q = let e = (bytes_decides x y).0 p in sym ((bytes_decides y x).1 (sym e)) ∙ q
    by false true p q = let e = (bytes_decides y x).0 q in sym p ∙ (bytes_decides x y).1 (sym e)

pub at_index : {X : Type 0} (m : FinMap nat_cmp X) (k : ℕ) (v : X) (i : ℕ) → get (insert m k v) i ≡ cond (eqb k i) (Some v) (get m i)
at_index m k v i = get-insert nat_cmp_total m k v i ∙ ap (λ b. cond b (Some v) (get m i)) (unsigned_tied i k ∙ same_flipped i k)

pub at_text : {X : Type 0} (m : FinMap (slice_cmp nat_cmp) X) (k : List ℕ) (v : X) (t : List ℕ) → get (insert m k v) t ≡ cond (bytes_eq k t) (Some v) (get m t)
at_text m k v t = get-insert nat_list_cmp_total m k v t ∙ ap (λ b. cond b (Some v) (get m t)) (is_eq-slice_cmp t k ∙ bytes_flipped t k)

cond-either : {A : Type 0} (b : Bool) (x : A) (o : Option A) → cond b (Some x) o ≡ either (cond b (Some x) None) o
cond-either true x o = refl
cond-either false x o = refl

-- ---- marks

pub get-marks_in : (ms : List Mark) (i : ℕ) → get (marks_in ms) i ≡ mark_in i ms
get-marks_in [] i = get-empty nat_cmp i
get-marks_in (m ∷ ms) i = at_index (marks_in ms) m.index m.seq i ∙ ap (cond (eqb m.index i) (Some m.seq)) (get-marks_in ms i)

get-marks_with : (o : Option Mark) (marks : Marks) (i : ℕ) → get (marks_with o marks) i ≡ either (mark_by i o) (get marks i)
get-marks_with None marks i = refl
get-marks_with (Some m) marks i = at_index marks m.index m.seq i ∙ cond-either (eqb m.index i) m.seq (get marks i)

pub get-marks : (f : StreamFacts) (es : List Entry) (i : ℕ) → get (facts_from f es).marks i ≡ either (last_mark i es) (get f.marks i)
get-marks f [] i = refl
get-marks f (e ∷ es) i =
    get-marks (facts_after f e) es i
    ∙ ap (either (last_mark i es)) (get-marks_with (mark_of e) f.marks i)
    ∙ either_assoc (last_mark i es) (mark_by i (mark_of e)) (get f.marks i)

-- ---- bindings

-- what is bound already stays so
already : (b : Bool) (to : BoundTo) (o rest : Option BoundTo) → (b ≡ true → o ≡ Some to) → (new : BoundTo) → either o rest ≡ either o (cond b (Some new) rest)
already true to o rest h new = ap (λ x. either x rest) (h refl) ∙ sym (ap (λ x. either x (Some new)) (h refl))
already false to o rest h new = refl

newly : (b : Bool) (o rest : Option BoundTo) (new : BoundTo) → (b ≡ true → o ≡ None) → either (cond b (Some new) o) rest ≡ either o (cond b (Some new) rest)
newly true o rest new h = sym (ap (λ x. either x (Some new)) (h refl))
newly false o rest new h = refl

get-first : (b : Binding) (m : Bindings) (i : ℕ) (rest o : Option BoundTo) → get m b.index ≡ o → either (get (first_bound o b m) i) rest ≡ either (get m i) (cond (eqb b.index i) (Some b.to) rest)
get-first b m i rest None e =
    ap (λ o. either o rest) (at_index m b.index b.to i)
    ∙ newly (eqb b.index i) (get m i) rest b.to (λ q. ap (get m) (sym (eqb-true b.index i q)) ∙ e)
get-first b m i rest (Some to) e = already (eqb b.index i) to (get m i) rest (λ q. ap (get m) (sym (eqb-true b.index i q)) ∙ e) b.to

pub get-bindings_with : (bs : List Binding) (m : Bindings) (i : ℕ) → get (bindings_with bs m) i ≡ either (get m i) (binding_at i bs)
get-bindings_with [] m i = sym (either-None (get m i))
get-bindings_with (b ∷ bs) m i =
    get-bindings_with bs (first_bound (get m b.index) b m) i
    ∙ get-first b m i (binding_at i bs) (get m b.index) refl

pub get-bindings : (f : StreamFacts) (es : List Entry) (i : ℕ) → get (facts_from f es).bindings i ≡ either (get f.bindings i) (binding_at i (bindings es))
get-bindings f [] i = sym (either-None (get f.bindings i))
get-bindings f (e ∷ es) i =
    get-bindings (facts_after f e) es i
    ∙ ap (λ o. either o (binding_at i (bindings es))) (get-bindings_with (bound_by e) f.bindings i)
    ∙ sym (either_assoc (get f.bindings i) (binding_at i (bound_by e)) (binding_at i (bindings es)))
    ∙ ap (either (get f.bindings i)) (sym (binding_at-append i (bound_by e) (bindings es)))

-- ---- messages of clients

pub get-sent_with : (ss : List Sent) (m : SentById) (id : List ℕ) → get (sent_with ss m) id ≡ either (latest_in id ss) (get m id)
get-sent_with [] m id = refl
get-sent_with (s ∷ ss) m id =
    get-sent_with ss (insert m s.id s) id
    ∙ ap (either (latest_in id ss)) (at_text m s.id s id ∙ cond-either (bytes_eq s.id id) s (get m id))
    ∙ either_assoc (latest_in id ss) (cond (bytes_eq s.id id) (Some s) None) (get m id)

-- one that is open at the clock
abbrev pub if_open : ℕ → ℕ → Option Sent → Option Sent
if_open window clock o = cond (is_some (number_in window clock o)) o None

pub get-while_open : (window clock : ℕ) (m : SentById) (id : List ℕ) → get (while_open window clock m) id ≡ if_open window clock (get m id)
get-while_open window clock m id =
    get-retain_keys m (λ t. is_some (number_in window clock (get m t))) id
    (λ t tied. ap (λ x. is_some (number_in window clock (get m x))) (sym (maps.slice_cmp-IsAntisymmetric maps.nat_cmp-IsAntisymmetric id t tied)))

-- ---- the rest

facts_from-append : (f : StreamFacts) (es more : List Entry) → facts_from f (es ++ more) ≡ facts_from (facts_from f es) more
facts_from-append f [] more = refl
facts_from-append f (e ∷ es) more = facts_from-append (facts_after f e) es more

-- the facts after an entry are a function of those before it
pub facts-push : (h : History) (e : Entry) → facts (with_entry h e) ≡ facts_after (facts h) e
facts-push h e = facts_from-append (new_facts h.config) h.entries (e ∷ [])

folded : (f : StreamFacts) (es : List Entry) → record { limits = (facts_from f es).config; rows = (facts_from f es).rows } ≡ standing (record { limits = f.config; rows = f.rows }) es
folded f [] = refl
folded f (e ∷ es) = folded (facts_after f e) es

pub last_is : (f : StreamFacts) (es : List Entry) → (facts_from f es).last ≡ max f.last (last es)
last_is f [] = omega arith
last_is f (e ∷ es) = omega (arith, last_is (facts_after f e) es)

pub clock_is : (f : StreamFacts) (es : List Entry) → (facts_from f es).clock ≡ max f.clock (clock es)
clock_is f [] = omega arith
clock_is f (e ∷ es) = omega (arith, clock_is (facts_after f e) es)

pub facts-tell : (h : History) → TellOf h (facts h)
facts-tell h = record {
  limits = limits;
  rows = ap (λ (k : Folded). k.rows) (folded none h.entries);
  last = omega (arith, last_is none h.entries);
  clock = omega (arith, clock_is none h.entries);
  bound = bound_is;
  marks = mark_is;
  start = start_is;
  mark = λ i. ap (λ o. mark_or o (start_by_facts i (facts h) - 1)) (mark_is i) ∙ ap (λ n. mark_or (last_mark i h.entries) (n - 1)) (start_is i);
  front = λ start. ap (λ n. max n (start_by (get (facts h).bindings 0) start - 1)) (let q : (facts h).last ≡ last h.entries = omega (arith, last_is none h.entries) in q)
      ∙ ap (λ o. max (last h.entries) (start_by o start - 1)) (bound_is 0);
}
  where
    none : StreamFacts
    none = new_facts h.config

    limits : (facts h).config ≡ (stands h).limits
    limits = ap (λ (k : Folded). k.limits) (folded none h.entries)

    bound_is : (i : ℕ) → get (facts h).bindings i ≡ binding_at i (bindings h.entries)
    bound_is i = get-bindings none h.entries i ∙ ap (λ o. either o (binding_at i (bindings h.entries))) (get-empty nat_cmp i)

    mark_is : (i : ℕ) → get (facts h).marks i ≡ last_mark i h.entries
    mark_is i = get-marks none h.entries i ∙ (ap (either (last_mark i h.entries)) (get-empty nat_cmp i) ∙ either-None (last_mark i h.entries))

    start_is : (i : ℕ) → start_by_facts i (facts h) ≡ start_of (binding_at i (bindings h.entries)) (origin_named i (stands h).limits.copies)
    start_is i = ap (λ o. start_of o (origin_named i (facts h).config.copies)) (bound_is i) ∙ ap (λ c. start_of (binding_at i (bindings h.entries)) (origin_named i c.copies)) limits

-- which entries may come next is to be read off the facts
pub tell-fits : (h : History) (e : Entry) → FitsFacts (facts h) e ↔ Fits h e
tell-fits h (Put number message mark) = let q = (facts-tell h).last in (
  λ f. (subst (λ n. n < number) q f.0, f.1, f.2),
  λ f. (subst (λ n. n < number) (sym q) f.0, f.1, f.2),
)
tell-fits h (Del number) = let q = (facts-tell h).rows in (
  λ f. subst (λ rows. IsSome (message_at number rows)) q f,
  λ f. subst (λ rows. IsSome (message_at number rows)) (sym q) f,
)
tell-fits h (Purge pattern below) = (λ f. f, λ f. f)
tell-fits h (Expire now) = (λ f. f, λ f. f)
tell-fits h (Bind index incarnation start) = let t = facts-tell h in (
  λ f. (subst (λ c. index < index_count c.copies) t.limits f.0, sym (t.bound index) ∙ f.1),
  λ f. (subst (λ c. index < index_count c.copies) (sym t.limits) f.0, t.bound index ∙ f.1),
)
tell-fits h (Limits config) = let q = (facts-tell h).limits in (
  λ f. subst (λ c. KeepsMembers c config) q f,
  λ f. subst (λ c. KeepsMembers c config) (sym q) f,
)
