-- What a link is told, over the plain list of subscriptions, and the frames that tell it what has changed.
use Rattle.std.specs.Prelude.{ℕ, ◌==◌, Bool, ◌&&◌, not, min, List, [], ◌∷◌, ◌++◌, Some, None, filter, map, sum_by, option_map, if◌then◌else◌}
use Rattle.std.specs.List.{list_any}
use Rattle.std.specs.Str.{bytes_eq}
use Rattle.subject_transform.specs.Domains.{crosses}
use Rattle.leaf_frames.specs.declared.frame.LeafFrame.{LeafFrame}
use Rattle.leaf_frames.specs.declared.frame.LeafFrame.TheVariants.{SubOn, SubOff}
use Rattle.interest_list.specs.declared.subscription.Subscription.{Subscription}
use Rattle.interest_list.specs.declared.telling.Told.{Told}
use Rattle.interest_list.specs.declared.telling.ToldTo.{ToldTo}
use Rattle.interest_list.specs.Orders.{placed, in_order}
use Rattle.interest_list.specs.Lists.{Interests, is_link, same_queue, told_cmp, link_cmp, max_weight}

-- the link is told of it: it crosses to other nodes, and another than the link wants it
abbrev pub is_told : ℕ → Subscription → Bool
is_told link s = crosses s.pattern && not (is_link link s.holder)

-- what the link is told of
abbrev pub of_others : ℕ → List Subscription → List Subscription
of_others link subs = filter (is_told link) subs

-- they have the same pattern and the same queue
abbrev pub is_same_pair : Subscription → Subscription → Bool
is_same_pair a b = bytes_eq b.pattern a.pattern && same_queue b.queue a.queue

-- the weights of those with the pattern and queue of this one, at most the greatest weight
abbrev pub group_weight : List Subscription → Subscription → ℕ
group_weight subs s = min (sum_by (λ x. x.weight) (filter (is_same_pair s) subs)) max_weight

-- 1 for a plain pattern; for a group the weight of all its members
abbrev pub told_weight : List Subscription → Subscription → ℕ
told_weight subs s = elim s.queue [ None ↦ 1 | Some q ↦ group_weight subs s ]

-- what is told of a subscription
abbrev pub telling : List Subscription → Subscription → Told
telling subs s = record { pattern = s.pattern; queue = s.queue; weight = told_weight subs s }

-- each pair of pattern and queue that others than this link want, by pattern and queue in byte order
abbrev pub told : ℕ → List Subscription → List Told
told link subs = in_order told_cmp (map (telling (of_others link subs)) (of_others link subs))

-- the same pattern and queue
abbrev pub same_pair : Told → Told → Bool
same_pair a b = bytes_eq a.pattern b.pattern && same_queue a.queue b.queue

-- the same pattern, queue and weight
abbrev pub same_told : Told → Told → Bool
same_told a b = same_pair a b && (a.weight == b.weight)

-- the pair stands in the list, whatever its weight
abbrev pub has_pair : List Told → Told → Bool
has_pair ts t = list_any (same_pair t) ts

-- it stands in the list with its weight
abbrev pub has_told : List Told → Told → Bool
has_told ts t = list_any (same_told t) ts

-- LS+ with the weight of a group
abbrev pub frame_on : Told → LeafFrame
frame_on t = SubOn t.pattern (option_map (λ q. (q, t.weight)) t.queue)

-- LS-
abbrev pub frame_off : Told → LeafFrame
frame_off t = SubOff t.pattern t.queue

-- LS- for each pair that is gone, then LS+ for each that is new or has another weight
abbrev pub changes : List Told → List Told → List LeafFrame
changes old new = map frame_off (filter (λ t. not (has_pair new t)) old) ++ map frame_on (filter (λ t. not (has_told old t)) new)

-- what a link was told
abbrev pub told_before : ℕ → List ToldTo → List Told
told_before link [] = []
told_before link (t ∷ ts) = if t.link == link then t.told else told_before link ts

-- the frames that tell a link what has changed since it was told last
abbrev pub news : ℕ → Interests → List LeafFrame
news link it = changes (told_before link it.told_to) (told link it.subs)

-- the link was told all
abbrev pub informed : ℕ → Interests → Interests
informed link it = record it { told_to = placed link_cmp (record { link = link; told = told link it.subs }) it.told_to }
