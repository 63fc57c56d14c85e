-- Steps of loops over pairs.
use Rattle.std.proofs.Common.{◌≡◌, ◌⊎◌, ℕ, ◌+◌, ◌-◌, ◌<◌, Bool, true, false, cond, ◌||◌, List, [], ◌∷◌, ◌++◌, map, length, drop, get_or, Option, Some, None, inl, inr, refl, sym, ap, ◌∙◌, subst, Ordering, append_assoc, append-nil, map-id, BTreeMap, BTreeSet, unwrap_or, arith}
use Rattle.std.specs.Prelude.{nat_lt}
use Rattle.std.specs.BTreeMap.{insert_entry, WritesThrough}
use Rattle.std.specs.List.{list_any}
use Rattle.std.specs.List.Sorted.{IsStrictlySortedBy}
use Rattle.std.specs.Map.{lookup, keys_of}
use Rattle.std.specs.Ordering.{is_eq, match_ordering}
use Rattle.std.specs.declared.cmp.Ordering.TheVariants.{Less, Equal, Greater}
use Rattle.std.specs.Option.{is_some}
use Rattle.std.proofs.lemmas.Bool.{cases_Bool, true≢false}
use Rattle.interest_list.specs.declared.subscription.Subscription.{Subscription}
use Rattle.interest_list.specs.declared.telling.Told.{Told}
use Rattle.interest_list.specs.Tellings.{told, changes, frame_on, frame_off}
use Rattle.interest_list.proofs.Taking.{told-rises}
use Rattle.interest_list.proofs.Steps.{left}
use Rattle.told_pairs.specs.declared.pair.Pair.{Pair}
use Rattle.told_pairs.specs.Keys.{key_cmp, same_key}
use Rattle.told_pairs.specs.Wants.{IsOf, Weight, Wants, total_in, share_in, to_tell, weight_told, weight_of}
use Rattle.told_pairs.specs.Tellings.{AreAll, as_told, come, gone, told_list, told_at, has_place}
use Rattle.told_pairs.proofs.Keys.{key_is, key_itself, key_turned}
use Rattle.told_pairs.proofs.Changing.{changes_by}
use Rattle.told_pairs.proofs.Lookups.{keys_given, lookup_given, at_told, rises_told}
use Rattle.told_pairs.proofs.Saying.{told_is, at_kept_list}

-- ---- what is told is put behind one another

told_cons : (e : Pair × ℕ) (es : List (Pair × ℕ)) → told_list (e ∷ es) ≡ told_list (e ∷ []) ++ told_list es
told_cons e es = elim (cases_Bool (nat_lt 0 e.1)) [
  | inl some ↦ rw some refl
  | inr none ↦ rw none refl
]

map_both : {A B : Type 0} (f : A → B) (xs ys : List A) → map f (xs ++ ys) ≡ map f xs ++ map f ys
map_both f [] ys = refl
map_both f (x ∷ xs) ys = ap (λ (l : List _). f x ∷ l) (map_both f xs ys)

module _ {X : Type 0} (f : Told → X) (v : Pair → ℕ) where
  pub more_told : (held now all : List X) (k : Pair) (rest it : List Pair) (w : ℕ) → it ≡ k ∷ rest → w ≡ v k → now ≡ held ++ map f (told_list ((k, w) ∷ []))
      → held ++ map f (told_list (map (λ p. (p, v p)) it)) ≡ all → now ++ map f (told_list (map (λ p. (p, v p)) rest)) ≡ all
  more_told held now all k rest it w is here more so =
      let tail = told_list (map (λ p. (p, v p)) rest) in
      let one = told_list ((k, v k) ∷ []) in
      let at_w : now ≡ held ++ map f one = more ∙ ap (λ (n : ℕ). held ++ map f (told_list ((k, n) ∷ []))) here in
      ap (λ (l : List X). l ++ map f tail) at_w
      ∙ (append_assoc held (map f one) (map f tail)
      ∙ (ap (λ (l : List X). held ++ l) (sym (map_both f one tail))
      ∙ (ap (λ (l : List Told). held ++ map f l) (sym (told_cons (k, v k) (map (λ p. (p, v p)) rest)))
      ∙ (ap (λ (ks : List Pair). held ++ map f (told_list (map (λ p. (p, v p)) ks))) (sym is) ∙ so))))

-- ---- sets of pairs

-- a pair that isn't among these isn't one of those
abbrev pub Holds : List Pair → List Pair → Type 0
Holds keys pairs = (p : Pair) → list_any (same_key p) keys ≡ false → list_any (same_key p) pairs ≡ false

or_false : (b c : Bool) → b ≡ false → c ≡ false → (b || c) ≡ false
or_false b c e f = rw e f

-- a pair joins the set
abbrev pub Joins : Pair → BTreeSet Pair → BTreeSet Pair → Type 0
Joins k old new = (p : Pair) → list_any (same_key p) new.keys ≡ cond (same_key k p) true (list_any (same_key p) old.keys)

pub joined_old : (k : Pair) (old new : BTreeSet Pair) → Joins k old new → Holds new.keys old.keys
joined_old k old new j p none = elim (cases_Bool (same_key k p)) [
  | inl same ↦ absurd (true≢false (sym (j p ∙ rw same refl) ∙ none))
  | inr other ↦ sym (j p ∙ rw other refl) ∙ none
]

pub joined_key : (k : Pair) (old new : BTreeSet Pair) → Joins k old new → (p : Pair) → list_any (same_key p) new.keys ≡ false → same_key p k ≡ false
joined_key k old new j p none = elim (cases_Bool (same_key k p)) [
  | inl same ↦ absurd (true≢false (sym (j p ∙ rw same refl) ∙ none))
  | inr other ↦ key_turned p k ∙ other
]

-- what is left of the list isn't in the set yet
abbrev pub Collected : List Pair → List Pair → List Pair → Type 0
Collected keys rest all = (p : Pair) → list_any (same_key p) keys ≡ false → list_any (same_key p) rest ≡ false → list_any (same_key p) all ≡ false

pub collected_more : (all it rest : List Pair) (k : Pair) (old new : BTreeSet Pair) → it ≡ k ∷ rest → Joins k old new → Collected old.keys it all → Collected new.keys rest all
collected_more all it rest k old new is j h p none away = h p (joined_old k old new j p none) (ap (λ (l : List Pair). list_any (same_key p) l) is ∙ or_false (same_key p k) (list_any (same_key p) rest) (joined_key k old new j p none) away)

pub collected_all : (all it : List Pair) (keys : List Pair) → it ≡ [] → Collected keys it all → Holds keys all
collected_all all it keys is h p none = h p none (ap (λ (l : List Pair). list_any (same_key p) l) is)

pub rest_at : (pairs : List Pair) (at : ℕ) (k : Pair) → at < length pairs → k ≡ get_or pairs at k → drop at pairs ≡ k ∷ drop (at + 1) pairs
rest_at pairs at k lt is = left pairs at k lt is

-- a pair that stands nowhere has no weight
no_weight : {X : Type 0} (p : Pair) (es : List (Pair × X)) → list_any (same_key p) (keys_of es) ≡ false → lookup (same_key p) es ≡ None
no_weight p [] h = refl
no_weight p (e ∷ es) h = elim (cases_Bool (same_key p e.0)) [
  | inl same ↦ absurd (true≢false (sym (rw same refl) ∙ h))
  | inr other ↦ rw other (no_weight p es (rw other at h))
]

nothing_told : (q : Option (List ℕ)) → 0 ≡ weight_told q 0
nothing_told None = refl
nothing_told (Some g) = refl

pub all_are : (wants : Wants) (told : List (Pair × ℕ)) (keys : List Pair) → Holds keys (keys_of wants) → Holds keys (keys_of told) → (link : ℕ) → AreAll wants link told keys
all_are wants told keys w t link p none =
    let a : told_at p told ≡ 0 = ap (λ (o : Option ℕ). unwrap_or o 0) (no_weight p told (t p none)) in
    let b : weight_of p wants ≡ None = no_weight p wants (w p none) in
    a ∙ (nothing_told p.queue ∙ sym (ap (λ (o : Option Weight). weight_told p.queue (total_in o - share_in link o)) b))

-- ---- places

abbrev pub Told-at : List (Pair × ℕ) → List (Pair × ℕ) → Type 0
Told-at old new = (p : Pair) → told_at p new ≡ told_at p old

-- each pair has a place, or is left
abbrev pub Placed : List Pair → List Pair → List (Pair × ℕ) → Type 0
Placed all rest told = (p : Pair) → list_any (same_key p) all ≡ true → (has_place p told ≡ true) ⊎ (list_any (same_key p) rest ≡ true)

pub placed_more : (all it rest : List Pair) (k : Pair) (old new : List (Pair × ℕ)) → it ≡ k ∷ rest → ((p : Pair) → has_place p old ≡ true → has_place p new ≡ true) → has_place k new ≡ true → Placed all it old → Placed all rest new
placed_more all it rest k old new is stay here h p among = elim (h p among) [
  | inl had ↦ inl (stay p had)
  | inr later ↦ elim (cases_Bool (same_key p k)) [
    | inl same ↦ inl (subst (λ (q : Pair). has_place q new ≡ true) (sym (key_is p k same)) here)
    | inr other ↦ inr (rw other at (sym (ap (λ (l : List Pair). list_any (same_key p) l) is) ∙ later))
  ]
]

pub placed_all : (all it : List Pair) (told : List (Pair × ℕ)) → it ≡ [] → Placed all it told → (p : Pair) → list_any (same_key p) all ≡ true → has_place p told ≡ true
placed_all all it told is h p among = elim (h p among) as (λ _. has_place p told ≡ true) [
  | inl had ↦ had
  | inr later ↦ absurd (true≢false (sym later ∙ ap (λ (l : List Pair). list_any (same_key p) l) is))
]

-- a new place says nothing of any pair
pub new_place : (k : Pair) (old new : List (Pair × ℕ)) → has_place k old ≡ false → ((p : Pair) → lookup (same_key p) new ≡ cond (same_key k p) (Some 0) (lookup (same_key p) old)) → Told-at old new
new_place k old new none put p = elim (cases_Bool (same_key k p)) [
  | inl same ↦ ap (λ (o : Option ℕ). unwrap_or o 0) {y = Some 0} (put p ∙ rw same refl) ∙ sym (unplaced (lookup (same_key p) old) (ap (λ (q : Pair). has_place q old) (sym (key_is k p same)) ∙ none))
  | inr other ↦ ap (λ (o : Option ℕ). unwrap_or o 0) {y = lookup (same_key p) old} (put p ∙ rw other refl)
] where
  unplaced : (o : Option ℕ) → is_some o ≡ false → unwrap_or o 0 ≡ 0
  unplaced None e = refl
  unplaced (Some n) e = absurd (true≢false e)

pub place_stays : (k : Pair) (w : ℕ) (old new : List (Pair × ℕ)) → ((p : Pair) → lookup (same_key p) new ≡ cond (same_key k p) (Some w) (lookup (same_key p) old)) → (p : Pair) → has_place p old ≡ true → has_place p new ≡ true
place_stays k w old new put p had = elim (cases_Bool (same_key k p)) [
  | inl same ↦ ap is_some {y = Some w} (put p ∙ rw same refl)
  | inr other ↦ ap is_some {y = lookup (same_key p) old} (put p ∙ rw other refl) ∙ had
]

-- a weight that was written where there is a place
pub wrote : (k : Pair) (w : ℕ) (old new : BTreeMap Pair ℕ) → has_place k old.entries ≡ true → WritesThrough key_cmp (key_cmp k) old w new → (p : Pair) → lookup (same_key p) new.entries ≡ cond (same_key k p) (Some w) (lookup (same_key p) old.entries)
wrote k w old new had h = by (lookup (same_key k) old.entries) refl where
  by : (o : Option ℕ) → lookup (same_key k) old.entries ≡ o → (p : Pair) → lookup (same_key p) new.entries ≡ cond (same_key k p) (Some w) (lookup (same_key p) old.entries)
  by None e = absurd (true≢false (sym had ∙ ap is_some e))
  by (Some n) e = (h.3 (rw e refl)).0

-- ---- weights that are settled

-- each pair of the rest will have its weight
abbrev pub Settles : (Pair → ℕ) → List Pair → List Pair → List (Pair × ℕ) → List (Pair × ℕ) → Type 0
Settles v all rest first told = (p : Pair) → cond (list_any (same_key p) rest) (v p) (told_at p told) ≡ cond (list_any (same_key p) all) (v p) (told_at p first)

-- and a place for it, where it isn't 0
abbrev pub CanSettle : (Pair → ℕ) → List Pair → List (Pair × ℕ) → Type 0
CanSettle v rest told = (p : Pair) → list_any (same_key p) rest ≡ true → 0 < v p → has_place p told ≡ true

module _ (v : Pair → ℕ) (all it rest : List Pair) (k : Pair) (is : it ≡ k ∷ rest) where
  among_it : (p : Pair) → list_any (same_key p) it ≡ (same_key p k || list_any (same_key p) rest)
  among_it p = ap (λ (l : List Pair). list_any (same_key p) l) is

  pub settles_more : (first old new : List (Pair × ℕ)) (w : ℕ) → w ≡ v k → ((p : Pair) → told_at p new ≡ cond (same_key k p) w (told_at p old)) → Settles v all it first old → Settles v all rest first new
  settles_more first old new w here put h p = sym (by (same_key k p) refl (list_any (same_key p) rest)) ∙ (ap (λ (b : Bool). cond b (v p) (told_at p old)) (sym (among_it p ∙ ap (λ (b : Bool). b || list_any (same_key p) rest) (key_turned p k))) ∙ h p) where
    by : (b : Bool) → same_key k p ≡ b → (later : Bool) → cond (b || later) (v p) (told_at p old) ≡ cond later (v p) (told_at p new)
    by true e true = refl
    by true e false = sym (put p ∙ (rw e (here ∙ ap v (key_is k p e))))
    by false e true = refl
    by false e false = sym (put p ∙ rw e refl)

  pub can_now : (old : List (Pair × ℕ)) → CanSettle v it old → 0 < v k → has_place k old ≡ true
  can_now old h some = h k (among_it k ∙ rw (key_itself k) refl) some

  pub can_more : (old new : List (Pair × ℕ)) (w : ℕ) → w ≡ v k → ((p : Pair) → has_place p old ≡ true → has_place p new ≡ cond (same_key k p) (nat_lt 0 w) true) → CanSettle v it old → CanSettle v rest new
  can_more old new w here stay h p among some = stay p (h p (among_it p ∙ by (same_key p k) among) some) ∙ elim (cases_Bool (same_key k p)) [
    | inl same ↦ rw same (ap (λ (n : ℕ). nat_lt 0 n) (here ∙ ap v (key_is k p same)) ∙ grind (arith, some))
    | inr other ↦ rw other refl
  ] where
    by : (b : Bool) {c : Bool} → c ≡ true → (b || c) ≡ true
    by true e = refl
    by false e = e

pub settled : (v : Pair → ℕ) (all it : List Pair) (first told : List (Pair × ℕ)) → it ≡ [] → Settles v all it first told → (p : Pair) → told_at p told ≡ cond (list_any (same_key p) all) (v p) (told_at p first)
settled v all it first told is h p = sym (ap (λ (l : List Pair). cond (list_any (same_key p) l) (v p) (told_at p told)) is) ∙ h p

-- what is to be told, from the pairs that somebody wants
pub told_given : (link : ℕ) (subs : List Subscription) (wants : Wants) → IsStrictlySortedBy key_cmp (keys_of wants) → IsOf subs wants → told_list (map (λ p. (p, to_tell link p wants)) (keys_of wants)) ≡ told link subs
told_given link subs wants sorted h =
    let v : Pair → ℕ = λ p. to_tell link p wants in
    told_is link subs wants (map (λ p. (p, to_tell link p wants)) (keys_of wants)) (subst (λ (l : List Pair). IsStrictlySortedBy key_cmp l) (sym (keys_given v (keys_of wants))) sorted) h (λ p.
    lookup_given v p (keys_of wants) ∙ elim (cases_Bool (list_any (same_key p) (keys_of wants))) [
      | inl here ↦ rw here refl
      | inr away ↦ rw away (nothing_told p.queue ∙ sym (ap (λ (o : Option Weight). weight_told p.queue (total_in o - share_in link o)) (no_weight p wants away)))
    ])

-- the list that was made is what is to be told
pub all_told : (link : ℕ) (wants : Wants) (all : List Told) (it : List Pair) → it ≡ [] → IsStrictlySortedBy key_cmp (keys_of wants)
    → all ++ map (λ t. t) (told_list (map (λ p. (p, to_tell link p wants)) it)) ≡ map (λ t. t) (told_list (map (λ p. (p, to_tell link p wants)) (keys_of wants)))
    → (subs : List Subscription) → IsOf subs wants → all ≡ told link subs
all_told link wants all it is sorted so subs h =
    sym (append-nil all)
    ∙ (sym (ap (λ (l : List Pair). all ++ map (λ t. t) (told_list (map (λ p. (p, to_tell link p wants)) l))) is)
    ∙ (so ∙ (map-id (told_list (map (λ p. (p, to_tell link p wants)) (keys_of wants))) ∙ told_given link subs wants sorted h)))

-- a place without weight isn't told
pub placed_list : (k : Pair) (es : List (Pair × ℕ)) → has_place k es ≡ false → told_list (insert_entry key_cmp es k 0) ≡ told_list es
placed_list k [] h = refl
placed_list k (e ∷ es) h = by (key_cmp k e.0) h (placed_list k es) where
  behind : (rest : List (Pair × ℕ)) → told_list rest ≡ told_list es → told_list (e ∷ rest) ≡ told_list (e ∷ es)
  behind rest same = elim (cases_Bool (nat_lt 0 e.1)) [
    | inl some ↦ rw some (ap (λ (l : List Told). as_told e ∷ l) same)
    | inr none ↦ rw none same
  ]

  by : (o : Ordering) → is_some (cond (is_eq o) (Some e.1) (lookup (same_key k) es)) ≡ false → (has_place k es ≡ false → told_list (insert_entry key_cmp es k 0) ≡ told_list es)
      → told_list (match_ordering o ((k, 0) ∷ e ∷ es) ((e.0, 0) ∷ es) (e ∷ insert_entry key_cmp es k 0)) ≡ told_list (e ∷ es)
  by Less n more = refl
  by Equal n more = absurd (true≢false n)
  by Greater n more = behind (insert_entry key_cmp es k 0) (more n)

-- ---- what a telling comes to

pub settled_is : (wants : Wants) (link : ℕ) (keys : List Pair) (old places new : List (Pair × ℕ)) → AreAll wants link old keys → Told-at old places
    → ((p : Pair) → told_at p new ≡ cond (list_any (same_key p) keys) (to_tell link p wants) (told_at p places)) → (p : Pair) → told_at p new ≡ to_tell link p wants
settled_is wants link keys old places new all same settled p = elim (cases_Bool (list_any (same_key p) keys)) [
  | inl here ↦ settled p ∙ rw here refl
  | inr away ↦ settled p ∙ rw away (same p ∙ all p away)
]

pub frames_are : (link : ℕ) (subs : List Subscription) (wants : Wants) (old : List (Pair × ℕ)) (keys : List Pair) → IsStrictlySortedBy key_cmp (keys_of old) → IsStrictlySortedBy key_cmp keys → AreAll wants link old keys → IsOf subs wants
    → changes (told_list old) (told link subs) ≡ map frame_off (gone (λ p. told_at p old) (λ p. to_tell link p wants) keys) ++ map frame_on (come (λ p. told_at p old) (λ p. to_tell link p wants) keys)
frames_are link subs wants old keys so sk all h =
    changes_by (told_list old) (told link subs) (rises_told old so) (told-rises link subs) (λ p. told_at p old) (λ p. to_tell link p wants) (λ t. at_told t old so) (λ t. at_kept_list link subs wants h t) keys sk all
