-- Who takes the frames that a link is told holds what it is to be told.
use Rattle.std.proofs.Common.{◌≡◌, ℕ, ◌≤◌, Bool, true, false, cond, not, ◌||◌, eqb, leb, ltb, List, [], ◌∷◌, ◌++◌, Option, Some, None, inl, inr, refl, sym, ap, ◌∙◌, subst, Ordering, append_assoc, arith}
use Rattle.std.specs.Prelude.{filter, map, min, sum_by}
use Rattle.std.specs.Option.{is_some}
use Rattle.std.specs.Cmp.{IsTotalOrder, then_total, on_total, both_tied, tied_itself}
use Rattle.std.specs.Cmp.Lexicographic.{nat_list_cmp_total, bytes_decides}
use Rattle.std.specs.Str.{bytes_eq}
use Rattle.std.specs.Ordering.{is_eq, is_lt, is_gt, ordering_reverse}
use Rattle.std.specs.declared.cmp.Ordering.TheVariants.{Less, Equal, Greater}
use Rattle.std.proofs.lemmas.Bool.{cases_Bool, true≢false, and_from, and_parts, eqb-true}
use Rattle.std.proofs.lemmas.List.Sums.{sum_by-cons}
use Rattle.std.proofs.lemmas.Map.Text.{is_eq-slice_cmp}
use Rattle.leaf_frames.specs.declared.frame.LeafFrame.{LeafFrame}
use Rattle.interest_list.specs.declared.subscription.Subscription.{Subscription}
use Rattle.interest_list.specs.declared.telling.Told.{Told}
use Rattle.interest_list.specs.Orders.{placed, placed_among, queue_cmp, text_cmp}
use Rattle.interest_list.specs.Lists.{same_queue, told_cmp, max_weight}
use Rattle.interest_list.specs.Tellings.{told, changes, frame_on, frame_off, has_pair, has_told, same_pair, same_told, telling, of_others, is_told, is_same_pair, group_weight}
use Rattle.interest_list.specs.Changes.{is_weight}
use Rattle.interest_list.specs.Taking.{taken, taken_all, has_told_weight}
use Rattle.interest_list.proofs.Rising.{Each, Rises, at, if_at, or_else, kept_if, each-filter, each-among, rises-among, rises-filter, at-equal, at-alike, at-among, at-filter, at-kept, same_items, at-below, below-equal}

-- ---- the order of pairs

queues_turned : (a b : Option (List ℕ)) → queue_cmp a b ≡ ordering_reverse (queue_cmp b a)
queues_turned None None = refl
queues_turned None (Some b) = refl
queues_turned (Some a) None = refl
queues_turned (Some a) (Some b) = nat_list_cmp_total.antisymm a b

queues_chain : (a b c : Option (List ℕ)) → queue_cmp a b ≡ Less → queue_cmp b c ≡ Less → queue_cmp a c ≡ Less
queues_chain None None c e k = k
queues_chain None (Some b) None e k = absurd (true≢false (ap is_gt k))
queues_chain None (Some b) (Some c) e k = refl
queues_chain (Some a) None c e k = absurd (true≢false (ap is_gt e))
queues_chain (Some a) (Some b) None e k = absurd (true≢false (ap is_gt k))
queues_chain (Some a) (Some b) (Some c) e k = nat_list_cmp_total.trans a b c e k

queues_alike : (a b c : Option (List ℕ)) → queue_cmp a b ≡ Equal → queue_cmp a c ≡ queue_cmp b c
queues_alike None None c e = refl
queues_alike None (Some b) c e = absurd (true≢false (ap is_lt e))
queues_alike (Some a) None c e = absurd (true≢false (ap is_gt e))
queues_alike (Some a) (Some b) None e = refl
queues_alike (Some a) (Some b) (Some c) e = nat_list_cmp_total.congr a b c e

queues_total : IsTotalOrder queue_cmp
queues_total = record { antisymm = queues_turned; trans = queues_chain; congr = queues_alike }

pub pairs_total : IsTotalOrder told_cmp
pairs_total = then_total (on_total (λ (t : Told). t.pattern) nat_list_cmp_total) (on_total (λ (t : Told). t.queue) queues_total)

queues_tie : (a b : Option (List ℕ)) → same_queue a b ≡ is_eq (queue_cmp a b)
queues_tie None None = refl
queues_tie None (Some b) = refl
queues_tie (Some a) None = refl
queues_tie (Some a) (Some b) = sym (is_eq-slice_cmp a b)

-- what is equal in the order has the same pattern and queue
pairs_tie : (a b : Told) → same_pair a b ≡ is_eq (told_cmp a b)
pairs_tie a b = both_tied (bytes_eq a.pattern b.pattern) (same_queue a.queue b.queue) (text_cmp a.pattern b.pattern) (queue_cmp a.queue b.queue) (sym (is_eq-slice_cmp a.pattern b.pattern)) (queues_tie a.queue b.queue)

equal_of : (r : Ordering) → is_eq r ≡ true → r ≡ Equal
equal_of Less e = absurd (true≢false (sym e))
equal_of Equal e = refl
equal_of Greater e = absurd (true≢false (sym e))

pair-equal : (a b : Told) → same_pair a b ≡ true → told_cmp a b ≡ Equal
pair-equal a b e = equal_of (told_cmp a b) (sym (pairs_tie a b) ∙ e)

queue-same : (a b : Option (List ℕ)) → same_queue a b ≡ true → a ≡ b
queue-same None None e = refl
queue-same None (Some b) e = absurd (true≢false (sym e))
queue-same (Some a) None e = absurd (true≢false (sym e))
queue-same (Some a) (Some b) e = ap Some ((bytes_decides a b).0 e)

told-same : (a b : Told) → same_told a b ≡ true → a ≡ b
told-same a b e =
    let both = and_parts (same_pair a b) (eqb a.weight b.weight) e in
    let pair = and_parts (bytes_eq a.pattern b.pattern) (same_queue a.queue b.queue) both.0 in
    let p : a.pattern ≡ b.pattern = (bytes_decides a.pattern b.pattern).0 pair.0 in
    let q : a.queue ≡ b.queue = queue-same a.queue b.queue pair.1 in
    let w : a.weight ≡ b.weight = eqb-true a.weight b.weight both.1 in
    λ i. record { pattern = p i; queue = q i; weight = w i }

-- ---- pairs in a list

abbrev found : Told → List Told → Option Told
found p ts = at told_cmp p ts

if-found : (r : Ordering) (x : Told) (rest : Option Told) → is_some (if_at r x rest) ≡ (is_eq r || is_some rest)
if-found Less x rest = refl
if-found Equal x rest = refl
if-found Greater x rest = refl

pair-found : (ts : List Told) (t : Told) → has_pair ts t ≡ is_some (found t ts)
pair-found [] t = refl
pair-found (x ∷ ts) t = ap (λ b. b || has_pair ts t) (pairs_tie t x) ∙ (ap (λ b. is_eq (told_cmp t x) || b) (pair-found ts t) ∙ sym (if-found (told_cmp t x) x (found t ts)))

told-found : (ts : List Told) (t : Told) → Rises told_cmp ts → has_told ts t ≡ true → found t ts ≡ Some t
told-found [] t h e = absurd (true≢false (sym e))
told-found (x ∷ ts) t h e = elim (cases_Bool (same_told t x)) [
  | inl here ↦ ap (λ r. if_at r x (found t ts)) (pair-equal t x ((and_parts (same_pair t x) (eqb t.weight x.weight) here).0)) ∙ ap Some (sym (told-same t x here))
  | inr other ↦ by (told_cmp t x) refl (told-found ts t h.1 (sym (ap (λ b. b || has_told ts t) other) ∙ e))
] where
  by : (r : Ordering) → told_cmp t x ≡ r → found t ts ≡ Some t → if_at r x (found t ts) ≡ Some t
  by Less k so = so
  by Greater k so = so
  by Equal k so = absurd (true≢false (ap is_some (sym so ∙ at-below told_cmp pairs_total t ts (below-equal told_cmp pairs_total t x ts k h.0))))

-- ---- frames, taken one after another

pub taken-both : (fs gs : List LeafFrame) (held : List Told) → taken_all (fs ++ gs) held ≡ taken_all gs (taken_all fs held)
taken-both [] gs held = refl
taken-both (f ∷ fs) gs held = taken-both fs gs (taken f held)

pair-alike : (g a b : Told) → told_cmp a b ≡ Equal → not (same_pair a g) ≡ not (same_pair b g)
pair-alike g a b e = ap not (pairs_tie a g ∙ (ap is_eq (pairs_total.congr a b g e) ∙ sym (pairs_tie b g)))

gone : (b c : Bool) (o : Option Told) → cond c None (cond (not b) o None) ≡ cond (b || c) None o
gone true true o = refl
gone true false o = refl
gone false true o = refl
gone false false o = refl

turned_pair : (p g : Told) → same_pair p g ≡ same_pair g p
turned_pair p g = pairs_tie p g ∙ (ap is_eq (pairs_total.antisymm p g) ∙ (level (told_cmp g p) ∙ sym (pairs_tie g p))) where
  level : (r : Ordering) → is_eq (ordering_reverse r) ≡ is_eq r
  level Less = refl
  level Equal = refl
  level Greater = refl

offs-found : (gs held : List Told) (p : Told) → found p (taken_all (map frame_off gs) held) ≡ cond (has_pair gs p) None (found p held)
offs-found [] held p = refl
offs-found (g ∷ gs) held p =
    offs-found gs (filter (λ t. not (same_pair t g)) held) p
    ∙ (ap (λ o. cond (has_pair gs p) None o) (at-filter told_cmp pairs_total (λ t. not (same_pair t g)) (pair-alike g) p held)
    ∙ gone (same_pair p g) (has_pair gs p) (found p held))

offs-rise : (gs held : List Told) → Rises told_cmp held → Rises told_cmp (taken_all (map frame_off gs) held)
offs-rise [] held h = h
offs-rise (g ∷ gs) held h = offs-rise gs (filter (λ t. not (same_pair t g)) held) (rises-filter told_cmp pairs_total (λ t. not (same_pair t g)) held h)

-- a weight that is told
abbrev pub Fits : Told → Type 0
Fits t = has_told_weight t ≡ true

on-taken : (u : Told) (held : List Told) → Fits u → taken (frame_on u) held ≡ placed told_cmp u held
on-taken u held fit = by u.queue refl fit where
  by : (q : Option (List ℕ)) → u.queue ≡ q → elim q [ None ↦ eqb u.weight 1 | Some g ↦ is_weight u.weight ] ≡ true
      → taken (frame_on (record { pattern = u.pattern; queue = q; weight = u.weight })) held ≡ placed told_cmp (record { pattern = u.pattern; queue = q; weight = u.weight }) held
  by None e w = ap (λ n. placed told_cmp (record { pattern = u.pattern; queue = None; weight = n }) held) (sym (eqb-true u.weight 1 w))
  by (Some g) e w = refl

ons-taken : (us held : List Told) → Each Fits us → taken_all (map frame_on us) held ≡ placed_among told_cmp us held
ons-taken [] held h = refl
ons-taken (u ∷ us) held h = ap (taken_all (map frame_on us)) (on-taken u held h.0) ∙ ons-taken us (placed told_cmp u held) h.1

-- ---- from what was told to what is to be told

module _ (old new : List Told) (ro : Rises told_cmp old) (rn : Rises told_cmp new) where
  abbrev stays : Told → Bool
  stays t = not (has_pair new t)

  abbrev comes : Told → Bool
  comes t = not (has_told old t)

  abbrev either_way : Option Told → Option Told → Option Told
  either_way m n = or_else (kept_if comes n) (cond (is_some (kept_if stays m)) None m)

  none-new : (p : Told) (m : Option Told) → found p old ≡ m → found p new ≡ None → cond (is_some (kept_if stays m)) None m ≡ None
  none-new p None e k = refl
  none-new p (Some u) e k =
      let same : told_cmp p u ≡ Equal = at-equal told_cmp pairs_total p u old e in
      let none : has_pair new u ≡ false = pair-found new u ∙ ap is_some (sym (at-alike told_cmp pairs_total p u new same) ∙ k) in
      ap (λ b. cond (is_some (cond (not b) (Some u) None)) None (Some u)) none

  some-new : (p t : Told) → found p new ≡ Some t → either_way (found p old) (Some t) ≡ Some t
  some-new p t k = elim (cases_Bool (has_told old t)) [
    | inl held ↦
        let same : told_cmp p t ≡ Equal = at-equal told_cmp pairs_total p t new k in
        let there : found p old ≡ Some t = at-alike told_cmp pairs_total p t old same ∙ told-found old t ro held in
        let pair : has_pair new t ≡ true = pair-found new t ∙ ap is_some (sym (at-alike told_cmp pairs_total p t new same) ∙ k) in
        ap (λ b. or_else (cond (not b) (Some t) None) (cond (is_some (kept_if stays (found p old))) None (found p old))) held
        ∙ (ap (λ m. cond (is_some (kept_if stays m)) None m) there ∙ ap (λ b. cond (is_some (cond (not b) (Some t) None)) None (Some t)) pair)
    | inr other ↦ ap (λ b. or_else (cond (not b) (Some t) None) (cond (is_some (kept_if stays (found p old))) None (found p old))) other
  ]

  found-new : (p : Told) (n : Option Told) → found p new ≡ n → either_way (found p old) n ≡ n
  found-new p None k = none-new p (found p old) refl k
  found-new p (Some t) k = some-new p t k

  pub changes_lead : Each Fits new → taken_all (changes old new) old ≡ new
  changes_lead fit =
      let offs = filter stays old in
      let ons = filter comes new in
      let left : List Told = taken_all (map frame_off offs) old in
      let rl : Rises told_cmp left = offs-rise offs old ro in
      let all : taken_all (changes old new) old ≡ placed_among told_cmp ons left = taken-both (map frame_off offs) (map frame_on ons) old ∙ ons-taken ons left (each-filter Fits comes new fit) in
      all ∙ same_items told_cmp pairs_total (placed_among told_cmp ons left) new (rises-among told_cmp pairs_total ons left rl) rn (λ p.
      at-among told_cmp pairs_total p ons left (rises-filter told_cmp pairs_total comes new rn)
      ∙ (ap (λ o. or_else o (found p left)) (at-kept told_cmp pairs_total comes p new rn)
      ∙ (ap (λ o. or_else (kept_if comes (found p new)) o) (offs-found offs old p ∙ ap (λ b. cond b None (found p old)) (pair-found offs p ∙ ap is_some (at-kept told_cmp pairs_total stays p old ro)))
      ∙ found-new p (found p new) refl)))

-- ---- what is told

-- the weight of a subscription is one that it may have
abbrev pub Weighs : Subscription → Type 0
Weighs s = is_weight s.weight ≡ true

same-self : (s : Subscription) → is_same_pair s s ≡ true
same-self s = and_from (bytes_eq s.pattern s.pattern) (same_queue s.queue s.queue) ((bytes_decides s.pattern s.pattern).1 refl) (queues_tie s.queue s.queue ∙ ap is_eq (tied_itself queues_total s.queue))

weight-least : (s : Subscription) → Weighs s → 1 ≤ s.weight
weight-least s w = let p = (and_parts (ltb 0 s.weight) (leb s.weight max_weight) w).0 in grind (arith, p)

abbrev weight_in : Subscription → List Subscription → ℕ
weight_in s xs = sum_by (λ x. x.weight) (filter (is_same_pair s) xs)

among-least : (pre : List Subscription) (s : Subscription) (post : List Subscription) → Weighs s → 1 ≤ weight_in s (pre ++ s ∷ post)
among-least [] s post w = rw (same-self s) (
    let one = sum_by-cons (λ (x : Subscription). x.weight) s (filter (is_same_pair s) post) in
    let least = weight-least s w in
    omega (arith, one, least))
among-least (x ∷ pre) s post w = elim (cases_Bool (is_same_pair s x)) [
  | inl so ↦ rw so (
      let one = sum_by-cons (λ (y : Subscription). y.weight) x (filter (is_same_pair s) (pre ++ s ∷ post)) in
      let least = among-least pre s post w in
      omega (arith, one, least))
  | inr other ↦ rw other (among-least pre s post w)
]

capped : (n : ℕ) → 1 ≤ n → is_weight (min n max_weight) ≡ true
capped n h = grind (arith, h)

weighed-fits : (pattern : List ℕ) (q : Option (List ℕ)) (n : ℕ) → is_weight n ≡ true → Fits (record { pattern = pattern; queue = q; weight = elim q [ None ↦ 1 | Some g ↦ n ] })
weighed-fits pattern None n w = refl
weighed-fits pattern (Some g) n w = w

telling-fits : (pre : List Subscription) (s : Subscription) (post : List Subscription) → Weighs s → Fits (telling (pre ++ s ∷ post) s)
telling-fits pre s post w = weighed-fits s.pattern s.queue (group_weight (pre ++ s ∷ post) s) (capped (weight_in s (pre ++ s ∷ post)) (among-least pre s post w))

tellings-fit : (pre ss : List Subscription) → Each Weighs ss → Each Fits (map (telling (pre ++ ss)) ss)
tellings-fit pre [] h = tt
tellings-fit pre (s ∷ ss) h = (telling-fits pre s ss h.0, subst (λ all. Each Fits (map (telling all) ss)) (append_assoc pre (s ∷ []) ss) (tellings-fit (pre ++ s ∷ []) ss h.1))

pub told-fits : (link : ℕ) (subs : List Subscription) → Each Weighs subs → Each Fits (told link subs)
told-fits link subs h =
    let others = of_others link subs in
    each-among told_cmp Fits (map (telling others) others) [] (tellings-fit [] others (each-filter Weighs (λ s. is_told link s) subs h)) tt

pub told-rises : (link : ℕ) (subs : List Subscription) → Rises told_cmp (told link subs)
told-rises link subs = rises-among told_cmp pairs_total (map (telling (of_others link subs)) (of_others link subs)) [] tt
