-- How much weight wants each pair of pattern and queue: by the list of subscriptions, and as it is kept.
use Rattle.std.specs.Prelude.{◌≡◌, ◌⊎◌, ℕ, ◌+◌, ◌-◌, ◌<◌, ◌^◌, Bool, true, false, ◌&&◌, ◌==◌, min, cond, List, Option, None, Some, ⊤, sum_by}
use Rattle.std.specs.List.{list_all}
use Rattle.std.specs.Map.{lookup}
use Rattle.std.specs.Option.{unwrap_or}
use Rattle.std.specs.Ordering.{is_eq, nat_cmp}
use Rattle.std.specs.Str.{bytes_eq}
use Rattle.subject_transform.specs.Domains.{crosses}
use Rattle.interest_list.specs.declared.subscription.Holder.{Holder}
use Rattle.interest_list.specs.declared.subscription.Holder.TheVariants.{Client, Link, Inner}
use Rattle.interest_list.specs.declared.subscription.Subscription.{Subscription}
use Rattle.interest_list.specs.Changes.{is_weight}
use Rattle.interest_list.specs.Lists.{is_link, same_queue, max_weight}
use Rattle.told_pairs.specs.declared.pair.Pair.{Pair}
use Rattle.told_pairs.specs.Keys.{same_key}

-- it crosses to other nodes, and has this pattern and queue
abbrev pub is_for : Pair → Subscription → Bool
is_for p s = crosses s.pattern && (bytes_eq s.pattern p.pattern && same_queue s.queue p.queue)

-- the same, and this link holds it
abbrev pub is_own : ℕ → Pair → Subscription → Bool
is_own link p s = is_for p s && is_link link s.holder

-- the weights of those that want the pair
abbrev pub wanted : Pair → List Subscription → ℕ
wanted p subs = sum_by (λ s. cond (is_for p s) s.weight 0) subs

-- the weights of those of them that this link holds
abbrev pub own : ℕ → Pair → List Subscription → ℕ
own link p subs = sum_by (λ s. cond (is_own link p s) s.weight 0) subs

-- ---- as it is kept

-- the weight of all together, and that of each link that holds some
pub record Weight : Type 0 where
  pub total : ℕ
  pub shares : List (ℕ × ℕ)

-- the weight that wants each pair
abbrev pub Wants : Type 0
Wants = List (Pair × Weight)

-- the share of a link among these
abbrev pub share_at : ℕ → List (ℕ × ℕ) → ℕ
share_at link shares = unwrap_or (lookup (λ l. is_eq (nat_cmp link l)) shares) 0

abbrev pub total_in : Option Weight → ℕ
total_in None = 0
total_in (Some w) = w.total

abbrev pub share_in : ℕ → Option Weight → ℕ
share_in link None = 0
share_in link (Some w) = share_at link w.shares

-- what is kept of a pair
abbrev pub weight_of : Pair → Wants → Option Weight
weight_of p wants = lookup (same_key p) wants

-- the weight that wants the pair
abbrev pub total_of : Pair → Wants → ℕ
total_of p wants = total_in (weight_of p wants)

-- this link's own share of it
abbrev pub share_of : ℕ → Pair → Wants → ℕ
share_of link p wants = share_in link (weight_of p wants)

-- what is kept is that of these subscriptions
pub record IsOf (subs : List Subscription) (wants : Wants) : Type 0 where
  pub weighed : list_all (λ s. is_weight s.weight) subs ≡ true
  pub totals : (p : Pair) → total_of p wants ≡ wanted p subs
  pub shares : (link : ℕ) (p : Pair) → share_of link p wants ≡ own link p subs

-- a weight as it is told: 1 for a plain pattern, at most the greatest weight for a group, and 0 where nobody wants it
abbrev pub weight_told : Option (List ℕ) → ℕ → ℕ
weight_told None n = min n 1
weight_told (Some q) n = min n max_weight

-- the weight of the pair that a link is to be told: that of the others
abbrev pub to_tell : ℕ → Pair → Wants → ℕ
to_tell link p wants = weight_told p.queue (total_of p wants - share_of link p wants)

-- ---- what a change makes of it

-- the link that holds it
abbrev pub holding : Holder → Option ℕ
holding (Client conn sid) = None
holding (Link conn) = Some conn
holding Inner = None

-- the pair of a subscription
abbrev pub pair_of : Subscription → Pair
pair_of s = record { pattern = s.pattern; queue = s.queue }

-- it is this link
abbrev pub is_held : Option ℕ → ℕ → Bool
is_held None link = false
is_held (Some l) link = l == link

-- the greatest sum that is kept
abbrev pub most : ℕ
most = 2 ^ 64 - 1

-- a weight became another one, and with it the share of the link that holds it, if one does
pub record Alters (held : Option ℕ) (by : ℕ → ℕ) (old : Option Weight) (new : Weight) : Type 0 where
  pub total : new.total ≡ by (total_in old)
  pub shares : (link : ℕ) → share_in link (Some new) ≡ cond (is_held held link) (by (share_in link old)) (share_in link old)

-- the share of a link became another one
abbrev pub Shares : ℕ → (ℕ → ℕ) → List (ℕ × ℕ) → List (ℕ × ℕ) → Type 0
Shares link by old new = (l : ℕ) → share_at l new ≡ cond (link == l) (by (share_at l old)) (share_at l old)

-- the weights of a pair became others, and with them the share of the link that holds it, if one does
pub record Becomes (pair : Pair) (held : Option ℕ) (by : ℕ → ℕ) (old new : Wants) : Type 0 where
  pub totals : (p : Pair) → total_of p new ≡ cond (same_key pair p) (by (total_of p old)) (total_of p old)
  pub shares : (link : ℕ) (p : Pair) → share_of link p new ≡ cond (same_key pair p && is_held held link) (by (share_of link p old)) (share_of link p old)

-- somebody wants the pair, and so does the link, if there is one
abbrev pub HasWeight : Pair → Option ℕ → Wants → Type 0
HasWeight p None wants = 0 < total_of p wants
HasWeight p (Some link) wants = (0 < total_of p wants) × (0 < share_of link p wants)

-- the link, if there is one, has a share
abbrev pub HasShare : Option ℕ → Weight → Type 0
HasShare None w = ⊤
HasShare (Some link) w = 0 < share_in link (Some w)

-- more by this weight
abbrev pub raised : ℕ → ℕ → ℕ
raised weight n = min (n + weight) most

-- less by this weight
abbrev pub lowered : ℕ → ℕ → ℕ
lowered weight n = n - weight

-- another weight in place of one
abbrev pub reweighed : ℕ → ℕ → ℕ → ℕ
reweighed before weight n = raised weight (n - before)

-- a pair of which nothing was left is gone
abbrev pub IsTidied : Wants → Wants → Type 0
IsTidied old new = (p : Pair) → (weight_of p new ≡ weight_of p old) ⊎ ((total_of p old ≡ 0) × (weight_of p new ≡ None))
