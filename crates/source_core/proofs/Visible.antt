-- Texts all of whose bytes are above the space: names, subjects, patterns, and the destinations of
-- transforms that make a subject.
use Rattle.std.proofs.Common.{◌≡◌, ℕ, ◌+◌, ◌-◌, ◌≤◌, List, [], ◌∷◌, ◌++◌, length, take, drop, map, Bool, true, false, ◌&&◌, cond, eqb, ltb, leb, Option, None, Some, Result, Ok, Err, refl, sym, ap, subst, ◌∙◌, arith}
use Rattle.std.specs.Prelude.{is_some, is_ok, codes, nat_lt, ◌==◌}
use Rattle.std.specs.Char.{to_ascii_lowercase}
use Rattle.std.specs.List.{list_all, join_with_byte, ends_with}
use Rattle.std.specs.Str.{bytes_eq, str_eq_ignore_ascii_case}
use Rattle.std.proofs.lemmas.Bool.{and_parts, and_from, eqb-true, leb-true, ltb-false, lt-ltb, false≢true}
use Rattle.std.proofs.lemmas.List.{take-append-drop, drop-drop}
use Rattle.std.proofs.lemmas.List.Folds.{list_all-append, list_all-map}
use Rattle.std.proofs.lemmas.Slice.Eq.{bytes_eq-Decides}
use Rattle.nats_text.specs.Matching.{matches}
use Rattle.nats_text.specs.Numbers.{is_digit, number_of, number_after}
use Rattle.nats_text.specs.Pieces.{onto_first, pieces}
use Rattle.nats_text.specs.Text.{tokens, tail, is_name, is_subject, is_pattern, are_pattern_tokens, is_token, is_literal_token, is_subject_byte, is_name_byte}
use Rattle.subject_transform.specs.declared.fault.TransformFault.{TransformFault}
use Rattle.subject_transform.specs.declared.fault.TransformKind.{TransformKind}
use Rattle.subject_transform.specs.declared.fault.TransformKind.TheVariants.{TailMismatch}
use Rattle.subject_transform.specs.Parts.{Part, is_number, is_separator, is_separator_byte, if_numbered, read_wildcard, read_partition, read_two, read_split, read_function, function_named, read_closed, read_opened, is_braced, unbraced, is_dollar, is_bad_token, read_part}
use Rattle.subject_transform.specs.Transforms.{same, read_last, then_parts, read_tokens, read_destination, star_count, ends_in_tail, text_of, subject_of, sub}
use Rattle.subject_transform.specs.Values.{value}

abbrev pub above : ℕ → Bool
above b = nat_lt 32 b

abbrev pub visible : List ℕ → Bool
visible bs = list_all above bs

-- ---- tests and outcomes

not-err : {A E : Type 0} {k : E} {x : A} → Err k ≡ Ok x → ⊥
not-err e = false≢true (ap is_ok e)

pub not-none : {A : Type 0} {x : A} → None ≡ Some x → ⊥
not-none e = false≢true (ap is_some e)

abbrev value_or : {A E : Type 0} → A → Result A E → A
value_or d (Ok x) = x
value_or d (Err e) = d

same-ok : {A E : Type 0} {x y : A} → ◌≡◌ {A = Result A E} (Ok x) (Ok y) → x ≡ y
same-ok {x = x} e = ap (value_or x) e

split : {A Q : Type 0} (b : Bool) (x y z : A) → cond b x y ≡ z → (b ≡ true → x ≡ z → Q) → (b ≡ false → y ≡ z → Q) → Q
split true x y z e f g = f refl e
split false x y z e f g = g refl e

choose : {A B Q : Type 0} (f : A → B) (b : Bool) (x y : A) (z : B) → f (cond b x y) ≡ z → (b ≡ true → f x ≡ z → Q) → (b ≡ false → f y ≡ z → Q) → Q
choose f true x y z e g h = g refl e
choose f false x y z e g h = h refl e

-- ---- lists of bytes

pub all-weaker : {X : Type 0} (p q : X → Bool) → ((x : X) → p x ≡ true → q x ≡ true) → (xs : List X) → list_all p xs ≡ true → list_all q xs ≡ true
all-weaker p q more [] e = refl
all-weaker p q more (x ∷ xs) e = let h = and_parts _ _ e in and_from _ _ (more x h.0) (all-weaker p q more xs h.1)

onto-all : (b : ℕ) (parts : List (List ℕ)) → list_all visible (onto_first b parts) ≡ true → (above b ≡ true) × (list_all visible parts ≡ true)
onto-all b [] e = ((and_parts _ _ (and_parts _ _ e).0).0, refl)
onto-all b (x ∷ xs) e =
    let h = and_parts _ _ e in
    let g = and_parts _ _ h.0 in
    (g.0, and_from _ _ g.1 h.1)

pub pieces-visible : (c : ℕ) (bs : List ℕ) → above c ≡ true → list_all visible (pieces c bs) ≡ true → visible bs ≡ true
pieces-visible c [] at e = refl
pieces-visible c (b ∷ bs) at e =
    let P : Bool → Type 0 = λ t. eqb b c ≡ t → list_all visible (cond t ([] ∷ pieces c bs) (onto_first b (pieces c bs))) ≡ true → (above b && visible bs) ≡ true in
    let go : (t : Bool) → P t = λ t. elim t as P [
      | true ↦ (λ same k. and_from _ _ (subst (λ x. above x ≡ true) (sym (eqb-true b c same)) at) (pieces-visible c bs at k))
      | false ↦ (λ other k. let o = onto-all b (pieces c bs) k in and_from _ _ o.0 (pieces-visible c bs at o.1))
    ] in
    go (eqb b c) refl e

append-visible : (xs ys : List ℕ) → visible xs ≡ true → visible ys ≡ true → visible (xs ++ ys) ≡ true
append-visible xs ys e f = list_all-append above xs ys ∙ and_from _ _ e f

append-parts : (xs ys : List ℕ) → visible (xs ++ ys) ≡ true → (visible xs ≡ true) × (visible ys ≡ true)
append-parts xs ys e = and_parts _ _ (sym (list_all-append above xs ys) ∙ e)

cut-visible : (n : ℕ) (bs : List ℕ) → visible (take n bs) ≡ true → visible (drop n bs) ≡ true → visible bs ≡ true
cut-visible n bs e f = subst (λ xs. visible xs ≡ true) (take-append-drop n bs) (append-visible (take n bs) (drop n bs) e f)

join-visible : (c : ℕ) (parts : List (List ℕ)) → visible (join_with_byte c parts) ≡ true → list_all visible parts ≡ true
join-visible c [] e = refl
join-visible c (x ∷ []) e = and_from _ _ e refl
join-visible c (x ∷ y ∷ ys) e =
    let h = append-parts x (c ∷ join_with_byte c (y ∷ ys)) e in
    and_from _ _ h.0 (join-visible c (y ∷ ys) (and_parts _ _ h.1).1)

equal-visible : (xs ys : List ℕ) → bytes_eq xs ys ≡ true → visible ys ≡ true → visible xs ≡ true
equal-visible xs ys e f = subst (λ zs. visible zs ≡ true) (sym ((bytes_eq-Decides xs ys).0 e)) f

-- ---- names, subjects and patterns

byte-visible : (b : ℕ) → is_subject_byte b ≡ true → above b ≡ true
byte-visible b e = (and_parts _ _ e).0

token-visible : (t : List ℕ) → is_token t ≡ true → visible t ≡ true
token-visible t e = all-weaker is_subject_byte above byte-visible t (and_parts _ _ e).1

pub subject-visible : (bs : List ℕ) → is_subject bs ≡ true → visible bs ≡ true
subject-visible bs e =
    pieces-visible 46 bs refl (all-weaker is_literal_token visible (λ t h. token-visible t (and_parts _ _ (and_parts _ _ h).0).0) (tokens bs) (and_parts _ _ e).1)

tokens-visible : (ts : List (List ℕ)) → are_pattern_tokens ts ≡ true → list_all visible ts ≡ true
tokens-visible [] e = refl
tokens-visible (t ∷ []) e = and_from _ _ (token-visible t e) refl
tokens-visible (t ∷ u ∷ ts) e =
    let h = and_parts _ _ e in
    and_from _ _ (token-visible t (and_parts _ _ h.0).0) (tokens-visible (u ∷ ts) h.1)

pub pattern-visible : (bs : List ℕ) → is_pattern bs ≡ true → visible bs ≡ true
pattern-visible bs e = pieces-visible 46 bs refl (tokens-visible (tokens bs) (and_parts _ _ e).1)

name_byte-visible : (b : ℕ) → is_name_byte b ≡ true → above b ≡ true
name_byte-visible b e =
    (and_parts _ _ (and_parts _ _ (and_parts _ _ (and_parts _ _ (and_parts _ _ (and_parts _ _ e).0).0).0).0).0).0

pub name-visible : (bs : List ℕ) → is_name bs ≡ true → visible bs ≡ true
name-visible bs e = all-weaker is_name_byte above name_byte-visible bs (and_parts _ _ e).1

-- ---- the arguments of functions

some-cond : {A : Type 0} (b : Bool) (o : Option A) → is_some (cond b o None) ≡ true → (b ≡ true) × (is_some o ≡ true)
some-cond true o e = (refl, e)
some-cond false o e = absurd (false≢true e)

digit-visible : (b : ℕ) → is_digit b ≡ true → above b ≡ true
digit-visible b e = lt-ltb 32 b (omega (arith, leb-true 48 b (and_parts _ _ e).0))

number-visible : (t : List ℕ) → is_number t ≡ true → visible t ≡ true
number-visible t e =
    let short = some-cond (leb (length t) 10) (number_of t) e in
    let some = some-cond _ (number_after 0 t) short.1 in
    let digits = some-cond _ _ some.1 in
    all-weaker is_digit above digit-visible t (and_parts _ _ digits.0).0

separator_byte-visible : (b : ℕ) → is_separator_byte b ≡ true → above b ≡ true
separator_byte-visible b e = (and_parts _ _ (and_parts _ _ (and_parts _ _ (and_parts _ _ e).0).0).0).0

separator-visible : (t : List ℕ) → is_separator t ≡ true → visible t ≡ true
separator-visible t e = all-weaker is_separator_byte above separator_byte-visible t (and_parts _ _ e).1

numbered : (a b : Bool) (part p : Part) → if_numbered a b part ≡ Ok p → a ≡ true
numbered true b part p e = refl
numbered false b part p e = absurd (not-err e)

wildcard-visible : (stars : ℕ) (ts : List (List ℕ)) (p : Part) → read_wildcard stars ts ≡ Ok p → list_all visible ts ≡ true
wildcard-visible stars [] p e = absurd (not-err e)
wildcard-visible stars (i ∷ []) p e =
    split (eqb (length i) 0) _ _ _ e (λ _ bad. absurd (not-err bad)) (λ _ r. and_from _ _ (number-visible i (numbered _ _ _ _ r)) refl)
wildcard-visible stars (i ∷ j ∷ ts) p e = absurd (not-err e)

partition-visible : (stars : ℕ) (ts : List (List ℕ)) (p : Part) → read_partition stars ts ≡ Ok p → list_all visible ts ≡ true
partition-visible stars [] p e = absurd (not-err e)
partition-visible stars (n ∷ []) p e = absurd (not-err e)
partition-visible stars (n ∷ i ∷ is) p e =
    let h = and_parts _ _ (numbered _ _ _ _ e) in
    and_from _ _ (number-visible n (and_parts _ _ h.0).0) (all-weaker is_number visible number-visible (i ∷ is) h.1)

two-visible : (read : List ℕ → List ℕ → Result Part TransformKind) (p : Part) (ts : List (List ℕ)) → read_two read ts ≡ Ok p → ((t u : List ℕ) → read t u ≡ Ok p → (visible t ≡ true) × (visible u ≡ true)) → list_all visible ts ≡ true
two-visible read p [] e each = absurd (not-err e)
two-visible read p (t ∷ []) e each = absurd (not-err e)
two-visible read p (t ∷ u ∷ []) e each = let h = each t u e in and_from _ _ h.0 (and_from _ _ h.1 refl)
two-visible read p (t ∷ u ∷ v ∷ vs) e each = absurd (not-err e)

split-visible : (stars : ℕ) (p : Part) (i separator : List ℕ) → read_split stars i separator ≡ Ok p → (visible i ≡ true) × (visible separator ≡ true)
split-visible stars p i separator e =
    split (is_separator separator) _ _ _ e (λ is r. (number-visible i (numbered _ _ _ _ r), separator-visible separator is)) (λ _ bad. absurd (not-err bad))

numbers-visible : (i k : List ℕ) (is_long is_there : Bool) (part p : Part) → if_numbered (is_number i && is_number k && is_long) is_there part ≡ Ok p → (visible i ≡ true) × (visible k ≡ true)
numbers-visible i k is_long is_there part p e =
    let h = and_parts _ _ (and_parts _ _ (numbered _ _ _ _ e)).0 in
    (number-visible i h.0, number-visible k h.1)

-- ---- the names of functions

lower-visible : (b : ℕ) → above (to_ascii_lowercase b) ≡ true → above b ≡ true
lower-visible b e =
    let P : Bool → Type 0 = λ t. ltb b 65 ≡ t → above (cond t b (cond (ltb b 91) (b + 32) b)) ≡ true → above b ≡ true in
    let go : (t : Bool) → P t = λ t. elim t as P [ true ↦ (λ _ k. k) | false ↦ (λ high k. lt-ltb 32 b (omega (arith, ltb-false b 65 high))) ] in
    go (ltb b 65) refl e

cased-visible : (name text : List ℕ) → list_all above (map to_ascii_lowercase text) ≡ true → str_eq_ignore_ascii_case name text ≡ true → visible name ≡ true
cased-visible name text is e =
    let same = (bytes_eq-Decides (map to_ascii_lowercase name) (map to_ascii_lowercase text)).0 e in
    let lower : list_all above (map to_ascii_lowercase name) ≡ true = ap (list_all above) same ∙ is in
    all-weaker (λ b. above (to_ascii_lowercase b)) above lower-visible name (sym (list_all-map above to_ascii_lowercase name) ∙ lower)

-- the name of a function and its arguments
record IsCall (name : List ℕ) (ts : List (List ℕ)) : Type 0 where
  name_is : visible name ≡ true
  arguments_are : list_all visible ts ≡ true

call : (name text : List ℕ) (ts : List (List ℕ)) → list_all above (map to_ascii_lowercase text) ≡ true → str_eq_ignore_ascii_case name text ≡ true → list_all visible ts ≡ true → IsCall name ts
call name text ts is same arguments = record { name_is = cased-visible name text is same; arguments_are = arguments }

function-visible : (stars : ℕ) (name : List ℕ) (ts : List (List ℕ)) (p : Part) → read_function stars (function_named name) ts ≡ Ok p → IsCall name ts
function-visible stars name ts p e =
    choose (λ o. read_function stars o ts) (str_eq_ignore_ascii_case name (codes "wildcard")) _ _ _ e (λ is r. call name (codes "wildcard") ts refl is (wildcard-visible stars ts p r)) λ _ e.
    choose (λ o. read_function stars o ts) (str_eq_ignore_ascii_case name (codes "partition")) _ _ _ e (λ is r. call name (codes "partition") ts refl is (partition-visible stars ts p r)) λ _ e.
    choose (λ o. read_function stars o ts) (str_eq_ignore_ascii_case name (codes "split")) _ _ _ e (λ is r. call name (codes "split") ts refl is (two-visible _ p ts r (split-visible stars p))) λ _ e.
    choose (λ o. read_function stars o ts) (str_eq_ignore_ascii_case name (codes "splitfromleft")) _ _ _ e (λ is r. call name (codes "splitfromleft") ts refl is (two-visible _ p ts r (λ i k. numbers-visible i k _ _ _ p))) λ _ e.
    choose (λ o. read_function stars o ts) (str_eq_ignore_ascii_case name (codes "splitfromright")) _ _ _ e (λ is r. call name (codes "splitfromright") ts refl is (two-visible _ p ts r (λ i k. numbers-visible i k _ _ _ p))) λ _ e.
    choose (λ o. read_function stars o ts) (str_eq_ignore_ascii_case name (codes "slicefromleft")) _ _ _ e (λ is r. call name (codes "slicefromleft") ts refl is (two-visible _ p ts r (λ i k. numbers-visible i k _ _ _ p))) λ _ e.
    choose (λ o. read_function stars o ts) (str_eq_ignore_ascii_case name (codes "slicefromright")) _ _ _ e (λ is r. call name (codes "slicefromright") ts refl is (two-visible _ p ts r (λ i k. numbers-visible i k _ _ _ p))) λ _ e.
    absurd (not-err e)

-- ---- functions

closed-visible : (stars : ℕ) (name behind : List ℕ) (p : Part) → read_closed stars name behind ≡ Ok p → (visible name ≡ true) × (visible behind ≡ true)
closed-visible stars name behind p e =
    split (ends_with ◌==◌ behind (codes ")")) _ _ _ e (λ ends r.
    let front = take (length behind - 1) behind in
    let called = function-visible stars name (pieces 44 front) p r in
    let arguments = pieces-visible 44 front refl called.arguments_are in
    let last : visible (drop (length behind - 1) behind) ≡ true = subst (λ xs. visible xs ≡ true) ((bytes_eq-Decides (codes ")") (drop (length behind - 1) behind)).0 ends) refl in
    (called.name_is, cut-visible (length behind - 1) behind arguments last)) (λ _ bad. absurd (not-err bad))

opened-visible : (stars : ℕ) (ts : List (List ℕ)) (p : Part) → read_opened stars ts ≡ Ok p → list_all visible ts ≡ true
opened-visible stars [] p e = absurd (not-err e)
opened-visible stars (name ∷ []) p e = absurd (not-err e)
opened-visible stars (name ∷ t ∷ ts) p e =
    let h = closed-visible stars name (join_with_byte 40 (t ∷ ts)) p e in
    and_from _ _ h.0 (join-visible 40 (t ∷ ts) h.1)

braced-visible : (stars : ℕ) (t : List ℕ) (p : Part) → is_braced t ≡ true → read_opened stars (pieces 40 (unbraced t)) ≡ Ok p → visible t ≡ true
braced-visible stars t p is e =
    let h = and_parts _ _ is in
    let g = and_parts _ _ h.0 in
    let long = leb-true 4 (length t) g.0 in
    let first : visible (take 2 t) ≡ true = subst (λ xs. visible xs ≡ true) ((bytes_eq-Decides (codes "{{") (take 2 t)).0 g.1) refl in
    let last : visible (drop (length t - 2) t) ≡ true = subst (λ xs. visible xs ≡ true) ((bytes_eq-Decides (codes "}}") (drop (length t - 2) t)).0 h.1) refl in
    let inner = pieces-visible 40 (unbraced t) refl (opened-visible stars (pieces 40 (unbraced t)) p e) in
    let behind : drop (length t - 2 - 2) (drop 2 t) ≡ drop (length t - 2) t = drop-drop (length t - 2 - 2) 2 t ∙ ap (λ n. drop n t) (omega (arith, long)) in
    cut-visible 2 t first (cut-visible (length t - 2 - 2) (drop 2 t) inner (ap visible behind ∙ last))

dollar-visible : (t : List ℕ) → is_dollar t ≡ true → visible t ≡ true
dollar-visible t is =
    let h = and_parts _ _ is in
    let first : visible (take 1 t) ≡ true = subst (λ xs. visible xs ≡ true) ((bytes_eq-Decides (codes "$") (take 1 t)).0 (and_parts _ _ h.0).1) refl in
    cut-visible 1 t first (all-weaker is_digit above digit-visible (drop 1 t) h.1)

-- ---- destinations

-- a token, where what its part gives is visible
part-visible : (stars : ℕ) (is_last : Bool) (t : List ℕ) (ps ts : List (List ℕ)) (p : Part) → read_part stars is_last t ≡ Ok p → visible (value ps ts p) ≡ true → visible t ≡ true
part-visible stars is_last t ps ts p e v =
    split (is_bad_token is_last t) _ _ _ e (λ _ bad. absurd (not-err bad)) λ _ e.
    split (bytes_eq t tail) _ _ _ e (λ is _. equal-visible t tail is refl) λ _ e.
    split (is_dollar t) _ _ _ e (λ is _. dollar-visible t is) λ _ e.
    split (is_braced t) _ _ _ e (λ is r. braced-visible stars t p is r) λ _ e.
    subst (λ q. visible (value ps ts q) ≡ true) (sym (same-ok e)) v

-- the parts of a token and of those behind it
record Parted (r : Result Part TransformKind) (others : Result (List Part) TransformFault) (parts : List Part) : Type 0 where
  first : Part
  rest_are : List Part
  first_is : r ≡ Ok first
  others_are : others ≡ Ok rest_are
  whole : parts ≡ first ∷ rest_are

parted : (place : ℕ) (r : Result Part TransformKind) (others : Result (List Part) TransformFault) (parts : List Part) → then_parts place r others ≡ Ok parts → Parted r others parts
parted place (Err k) others parts e = absurd (not-err e)
parted place (Ok p) (Ok ps) parts e = record { first = p; rest_are = ps; first_is = refl; others_are = refl; whole = sym (same-ok e) }
parted place (Ok p) (Err f) parts e = absurd (not-err e)

last-read : (stars : ℕ) (wants : Bool) (t : List ℕ) (r : Result Part TransformKind) (p : Part) → read_last stars wants t r ≡ Ok p → r ≡ Ok p
last-read stars wants t (Err k) p e = absurd (not-err e)
last-read stars wants t (Ok q) p e = split (same wants (bytes_eq t tail)) (Ok q) (Err TailMismatch) (Ok p) e (λ _ is. is) (λ _ bad. absurd (not-err bad))

all-read : (stars : ℕ) (wants : Bool) (ps ts toks : List (List ℕ)) (place : ℕ) (parts : List Part) → read_tokens stars wants place toks ≡ Ok parts → list_all visible (map (value ps ts) parts) ≡ true → list_all visible toks ≡ true
all-read stars wants ps ts [] place parts e v = absurd (not-err e)
all-read stars wants ps ts (t ∷ []) place parts e v =
    let h = parted place _ _ parts e in
    let w = and_parts _ _ (subst (λ qs. list_all visible (map (value ps ts) qs) ≡ true) h.whole v) in
    and_from _ _ (part-visible stars true t ps ts h.first (last-read stars wants t _ h.first h.first_is) w.0) refl
all-read stars wants ps ts (t ∷ u ∷ toks) place parts e v =
    let h = parted place _ _ parts e in
    let w = and_parts _ _ (subst (λ qs. list_all visible (map (value ps ts) qs) ≡ true) h.whole v) in
    and_from _ _ (part-visible stars false t ps ts h.first h.first_is w.0) (all-read stars wants ps ts (u ∷ toks) _ h.rest_are h.others_are w.1)

-- a destination that makes a subject is a text of at most 1,024 bytes above the space
pub record IsClear (dest : List ℕ) : Type 0 where
  pub seen : visible dest ≡ true
  pub short : length dest ≤ 1024

made-clear : (src dest subject made : List ℕ) (r : Result (List Part) TransformFault) → read_destination (tokens src) dest ≡ r → subject_of (text_of (tokens src) (tokens subject) r) ≡ Some made → IsClear dest
made-clear src dest subject made (Err f) is e = absurd (not-none e)
made-clear src dest subject made (Ok parts) is e =
    split (ltb 1024 (length dest)) _ _ _ is (λ _ bad. absurd (not-err bad)) λ short read.
    split (is_subject (join_with_byte 46 (map (value (tokens src) (tokens subject)) parts))) _ _ _ e (λ legal _.
    let values = join-visible 46 (map (value (tokens src) (tokens subject)) parts) (subject-visible _ legal) in
    record { seen = pieces-visible 46 dest refl (all-read (star_count (tokens src)) (ends_in_tail (tokens src)) (tokens src) (tokens subject) (tokens dest) 0 parts read values); short = ltb-false _ _ short }) (λ _ none. absurd (not-none none))

pub sub-clear : (src dest subject made : List ℕ) → sub src dest subject ≡ Some made → IsClear dest
sub-clear src dest subject made e =
    split (matches src subject) _ _ _ e (λ _ e. made-clear src dest subject made (read_destination (tokens src) dest) refl e) (λ _ none. absurd (not-none none))
