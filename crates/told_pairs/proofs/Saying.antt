-- What a link is to be told, from the weights of each pair.
use Rattle.std.proofs.Common.{◌≡◌, ℕ, ◌+◌, ◌-◌, ◌≤◌, Bool, true, false, cond, not, ◌&&◌, ◌||◌, ltb, leb, List, [], ◌∷◌, Option, Some, None, inl, inr, refl, sym, ap, ap₂, ◌∙◌, Ordering, arith}
use Rattle.std.specs.Prelude.{filter, map, min, nat_lt, sum_by}
use Rattle.std.specs.List.{list_any, list_all}
use Rattle.std.specs.List.Sorted.{IsStrictlySortedBy}
use Rattle.std.specs.Map.{keys_of}
use Rattle.std.specs.Ordering.{is_eq}
use Rattle.std.specs.Str.{bytes_eq}
use Rattle.std.specs.declared.cmp.Ordering.TheVariants.{Less, Equal, Greater}
use Rattle.std.proofs.lemmas.Bool.{cases_Bool, and_parts, and_from}
use Rattle.std.proofs.lemmas.List.Sums.{sum_by-cons}
use Rattle.subject_transform.specs.Domains.{crosses}
use Rattle.interest_list.specs.declared.subscription.Subscription.{Subscription}
use Rattle.interest_list.specs.declared.telling.Told.{Told}
use Rattle.interest_list.specs.Changes.{is_weight}
use Rattle.interest_list.specs.Lists.{told_cmp, is_link, same_queue, max_weight}
use Rattle.interest_list.specs.Orders.{placed, placed_among}
use Rattle.interest_list.specs.Tellings.{told, telling, of_others, is_told}
use Rattle.interest_list.proofs.Rising.{at, if_at, at-placed, same_items}
use Rattle.interest_list.proofs.Taking.{pairs_total, told-rises}
use Rattle.told_pairs.specs.declared.pair.Pair.{Pair}
use Rattle.told_pairs.specs.Keys.{key_cmp, same_key}
use Rattle.told_pairs.specs.Wants.{Wants, IsOf, is_for, is_own, wanted, own, to_tell, weight_told, pair_of}
use Rattle.told_pairs.specs.Tellings.{told_at, told_list}
use Rattle.told_pairs.proofs.Keys.{by_bytes, key_is, key_turned}
use Rattle.told_pairs.proofs.Lookups.{key_of, telling_of, at_told, rises_told}

-- it has the pattern and the queue
abbrev pub is_pair : Pair → Subscription → Bool
is_pair p s = bytes_eq s.pattern p.pattern && same_queue s.queue p.queue

pair_key : (p : Pair) (s : Subscription) → is_pair p s ≡ same_key (pair_of s) p
pair_key p s = sym (by_bytes (pair_of s) p)

-- the weights of these that have the pair
abbrev pub weight_in : Pair → List Subscription → ℕ
weight_in p xs = sum_by (λ x. x.weight) (filter (is_pair p) xs)

-- what is told of a pair, where someone wants it
abbrev pub said : List Subscription → Pair → Told
said others p = record { pattern = p.pattern; queue = p.queue; weight = elim p.queue [ None ↦ 1 | Some q ↦ min (weight_in p others) max_weight ] }

telling_is : (others : List Subscription) (s : Subscription) (p : Pair) → same_key (pair_of s) p ≡ true → telling others s ≡ said others p
telling_is others s p e = ap (said others) (key_is (pair_of s) p e)

module _ (others : List Subscription) (t : Told) where
  abbrev k : Pair
  k = key_of t

  at_among : (ss : List Subscription) (ys : List Told) → at told_cmp t (placed_among told_cmp (map (telling others) ss) ys) ≡ cond (list_any (is_pair k) ss) (Some (said others k)) (at told_cmp t ys)
  at_among [] ys = refl
  at_among (s ∷ ss) ys =
      at_among ss (placed told_cmp (telling others s) ys)
      ∙ (ap (λ (o : Option Told). cond (list_any (is_pair k) ss) (Some (said others k)) o) (at-placed told_cmp pairs_total t (telling others s) ys)
      ∙ by (told_cmp t (telling others s)) refl (list_any (is_pair k) ss))
    where
      turned : is_pair k s ≡ is_eq (told_cmp t (telling others s))
      turned = pair_key k s ∙ key_turned (pair_of s) k

      both : (b : Bool) → cond b (Some (said others k)) (Some (said others k)) ≡ Some (said others k)
      both true = refl
      both false = refl

      by : (r : Ordering) → told_cmp t (telling others s) ≡ r → (rest : Bool)
          → cond rest (Some (said others k)) (if_at r (telling others s) (at told_cmp t ys)) ≡ cond (is_pair k s || rest) (Some (said others k)) (at told_cmp t ys)
      by Less q rest = rw (turned ∙ ap is_eq q) refl
      by Greater q rest = rw (turned ∙ ap is_eq q) refl
      by Equal q rest =
          let here : is_pair k s ≡ true = turned ∙ ap is_eq q in
          rw here (ap (λ (u : Told). cond rest (Some (said others k)) (Some u)) (telling_is others s k (sym (pair_key k s) ∙ here)) ∙ both rest)

  pub at_tellings : at told_cmp t (placed_among told_cmp (map (telling others) others) []) ≡ cond (list_any (is_pair k) others) (Some (said others k)) None
  at_tellings = at_among others []

-- ---- the weights

weight_least : (s : Subscription) → is_weight s.weight ≡ true → 1 ≤ s.weight
weight_least s w = let p = (and_parts (ltb 0 s.weight) (leb s.weight max_weight) w).0 in grind (arith, p)

pub all_weigh : (f : Subscription → Bool) (xs : List Subscription) → list_all (λ s. is_weight s.weight) xs ≡ true → list_all (λ s. is_weight s.weight) (filter f xs) ≡ true
all_weigh f [] h = refl
all_weigh f (x ∷ xs) h =
    let p = and_parts (is_weight x.weight) (list_all (λ s. is_weight s.weight) xs) h in
    elim (cases_Bool (f x)) [
      | inl y ↦ rw y (and_from (is_weight x.weight) (list_all (λ s. is_weight s.weight) (filter f xs)) p.0 (all_weigh f xs p.1))
      | inr z ↦ rw z (all_weigh f xs p.1)
    ]

-- someone has the pair exactly where it has a weight
weight_where : (p : Pair) (xs : List Subscription) → list_all (λ s. is_weight s.weight) xs ≡ true → list_any (is_pair p) xs ≡ nat_lt 0 (weight_in p xs)
weight_where p [] h = refl
weight_where p (x ∷ xs) h =
    let w = and_parts (is_weight x.weight) (list_all (λ s. is_weight s.weight) xs) h in
    elim (cases_Bool (is_pair p x)) [
      | inl y ↦ rw y (
          let one = sum_by-cons (λ (s : Subscription). s.weight) x (filter (is_pair p) xs) in
          let least = weight_least x w.0 in
          sym (grind (arith, one, least)))
      | inr z ↦ rw z (weight_where p xs w.1)
    ]

-- one that has the pair among those that pass
one_in : (f g : Subscription → Bool) (s : Subscription) (ss : List Subscription) → sum_by (λ x. x.weight) (filter g (filter f (s ∷ ss))) ≡ cond (f s && g s) s.weight 0 + sum_by (λ x. x.weight) (filter g (filter f ss))
one_in f g s ss = elim (cases_Bool (f s)) [
  | inr z ↦ rw z (omega arith)
  | inl y ↦ rw y (elim (cases_Bool (g s)) [
    | inr z ↦ rw z (omega arith)
    | inl q ↦ rw q (sum_by-cons (λ (x : Subscription). x.weight) s (filter g (filter f ss)))
  ])
]

split_weight : (c q l : Bool) (w : ℕ) → cond ((c && not l) && q) w 0 + cond ((c && q) && l) w 0 ≡ cond (c && q) w 0
split_weight false q l w = refl
split_weight true false true w = refl
split_weight true false false w = refl
split_weight true true true w = omega arith
split_weight true true false w = omega arith

-- the weight of the others is that of all without the link's own
pub weight_of_others : (link : ℕ) (p : Pair) (subs : List Subscription) → weight_in p (of_others link subs) + own link p subs ≡ wanted p subs
weight_of_others link p [] = refl
weight_of_others link p (s ∷ ss) =
    let rest = weight_of_others link p ss in
    let a = one_in (is_told link) (is_pair p) s ss in
    let b = sum_by-cons (λ (x : Subscription). cond (is_own link p x) x.weight 0) s ss in
    let c = sum_by-cons (λ (x : Subscription). cond (is_for p x) x.weight 0) s ss in
    let d = split_weight (crosses s.pattern) (is_pair p s) (is_link link s.holder) s.weight in
    omega (arith, rest, a, b, c, d)

-- what is said of a pair where someone wants it, by its weight
said_by : (p : Pair) (w : ℕ) → cond (nat_lt 0 w) (Some (record { pattern = p.pattern; queue = p.queue; weight = elim p.queue [ None ↦ 1 | Some q ↦ min w max_weight ] })) None ≡ telling_of p (weight_told p.queue w)
said_by p w = by p.queue where
  by : (q : Option (List ℕ)) → cond (nat_lt 0 w) (Some (record { pattern = p.pattern; queue = q; weight = elim q [ None ↦ 1 | Some g ↦ min w max_weight ] })) None ≡ telling_of (record { pattern = p.pattern; queue = q }) (weight_told q w)
  by None = elim (cases_Bool (nat_lt 0 w)) [
    | inl y ↦ (let one : min w 1 ≡ 1 = grind (arith, y) in rw (y, one) refl)
    | inr z ↦ (let none : min w 1 ≡ 0 = grind (arith, z) in rw (z, none) refl)
  ]
  by (Some g) = elim (cases_Bool (nat_lt 0 w)) [
    | inl y ↦ (let some : nat_lt 0 (min w max_weight) ≡ true = grind (arith, y) in rw (y, some) refl)
    | inr z ↦ (let none : min w max_weight ≡ 0 = grind (arith, z) in rw (z, none) refl)
  ]

-- what a link is to be told of a pair
pub at_list : (link : ℕ) (subs : List Subscription) → list_all (λ s. is_weight s.weight) subs ≡ true → (t : Told) → at told_cmp t (told link subs) ≡ telling_of (key_of t) (weight_told t.queue (wanted (key_of t) subs - own link (key_of t) subs))
at_list link subs h t =
    let others = of_others link subs in
    let p = key_of t in
    let sums = weight_of_others link p subs in
    let weight : weight_in p others ≡ wanted p subs - own link p subs = omega (arith, sums) in
    at_tellings others t ∙ (ap (λ (b : Bool). cond b (Some (said others p)) None) (weight_where p others (all_weigh (is_told link) subs h))
    ∙ (said_by p (weight_in p others) ∙ ap (λ (n : ℕ). telling_of p (weight_told t.queue n)) weight))

-- the same from what is kept
pub at_kept_list : (link : ℕ) (subs : List Subscription) (wants : Wants) → IsOf subs wants → (t : Told) → at told_cmp t (told link subs) ≡ telling_of (key_of t) (to_tell link (key_of t) wants)
at_kept_list link subs wants h t =
    at_list link subs h.weighed t ∙ ap₂ (λ (m n : ℕ). telling_of (key_of t) (weight_told t.queue (m - n))) (sym (h.totals (key_of t))) (sym (h.shares link (key_of t)))

-- what was told is what is to be told, where it is so pair by pair
pub told_is : (link : ℕ) (subs : List Subscription) (wants : Wants) (held : List (Pair × ℕ)) → IsStrictlySortedBy key_cmp (keys_of held) → IsOf subs wants → ((p : Pair) → told_at p held ≡ to_tell link p wants) → told_list held ≡ told link subs
told_is link subs wants held sorted h same =
    same_items told_cmp pairs_total (told_list held) (told link subs) (rises_told held sorted) (told-rises link subs) (λ t.
    at_told t held sorted ∙ (ap (telling_of (key_of t)) (same (key_of t)) ∙ sym (at_kept_list link subs wants h t)))

-- two lists of what was told are one where each pair has the same weight in both
pub same_told_list : (a b : List (Pair × ℕ)) → IsStrictlySortedBy key_cmp (keys_of a) → IsStrictlySortedBy key_cmp (keys_of b) → ((p : Pair) → told_at p a ≡ told_at p b) → told_list a ≡ told_list b
same_told_list a b sa sb same =
    same_items told_cmp pairs_total (told_list a) (told_list b) (rises_told a sa) (rises_told b sb) (λ t.
    at_told t a sa ∙ (ap (telling_of (key_of t)) (same (key_of t)) ∙ sym (at_told t b sb)))
