-- What a change makes of the list of subscriptions, and where it is refused.
use Rattle.std.specs.Prelude.{◌≡◌, ◌⊎◌, ℕ, ◌==◌, Bool, true, ◌&&◌, not, nat_lt, nat_le, List, [], ◌∷◌, ◌++◌, Option, Some, None, Result, Err, filter, map, if◌then◌else◌, ⊤, MatchResult}
use Rattle.std.specs.List.{list_any}
use Rattle.leaf_frames.specs.declared.frame.LeafFrame.{LeafFrame}
use Rattle.interest_list.specs.declared.subscription.Holder.TheVariants.{Client, Link, Inner}
use Rattle.interest_list.specs.declared.subscription.Subscription.{Subscription}
use Rattle.interest_list.specs.declared.telling.ToldTo.{ToldTo}
use Rattle.interest_list.specs.declared.change.Change.{Change}
use Rattle.interest_list.specs.declared.change.Change.TheVariants.{Add, Remove, LinkOn, LinkOff, InnerOn, InnerOff, DropConn}
use Rattle.interest_list.specs.declared.fault.InterestFault.{InterestFault}
use Rattle.interest_list.specs.declared.fault.InterestFault.TheVariants.{SidTaken, NoSid, TooMany, NoMemory}
use Rattle.interest_list.specs.Orders.{placed}
use Rattle.interest_list.specs.Lists.{Interests, subscription_cmp, is_of_client, is_of_link, is_of_node, is_of, is_full, max_weight}
use Rattle.interest_list.specs.Tellings.{news, informed}

-- what a client wants
abbrev pub of_client : ℕ → List ℕ → List ℕ → Option (List ℕ) → Subscription
of_client conn sid pattern queue = record { holder = Client conn sid; pattern = pattern; queue = queue; weight = 1 }

-- what a link wants
abbrev pub of_link : ℕ → List ℕ → Option (List ℕ) → ℕ → Subscription
of_link conn pattern queue weight = record { holder = Link conn; pattern = pattern; queue = queue; weight = weight }

-- what the node itself wants
abbrev pub of_node : List ℕ → Subscription
of_node pattern = record { holder = Inner; pattern = pattern; queue = None; weight = 1 }

-- a weight that a group may have
abbrev pub is_weight : ℕ → Bool
is_weight weight = nat_lt 0 weight && nat_le weight max_weight

-- where the change brings a weight, a group may have it
abbrev pub has_weight : Change → Bool
has_weight (LinkOn conn pattern queue weight) = is_weight weight
has_weight (Add conn sid pattern queue) = true
has_weight (Remove conn sid) = true
has_weight (LinkOff conn pattern queue) = true
has_weight (InnerOn pattern) = true
has_weight (InnerOff pattern) = true
has_weight (DropConn conn) = true

-- the list with a subscription, in place of one that is the same
abbrev pub with_sub : Subscription → List Subscription → List Subscription
with_sub s subs = placed subscription_cmp s subs

-- the list without some
abbrev pub without : (Subscription → Bool) → List Subscription → List Subscription
without test subs = filter (λ s. not (test s)) subs

-- what one more subscription is refused for
abbrev pub too_many : List Subscription → Option InterestFault
too_many subs = if is_full subs then Some TooMany else None

-- what a change is refused for that brings a subscription, or another weight where it stands
abbrev pub if_new : (Subscription → Bool) → List Subscription → Option InterestFault
if_new test subs = if list_any test subs then None else too_many subs

-- what a change is refused for that takes a subscription away
abbrev pub if_there : (Subscription → Bool) → List Subscription → Option InterestFault
if_there test subs = if list_any test subs then None else Some NoSid

-- The refusal of a change, if it is refused: a number that the connection has; a subscription past the most; nothing
-- that could be taken away.
abbrev pub refusal : Change → List Subscription → Option InterestFault
refusal (Add conn sid pattern queue) subs = if list_any (is_of_client conn sid) subs then Some SidTaken else too_many subs
refusal (Remove conn sid) subs = if_there (is_of_client conn sid) subs
refusal (LinkOn conn pattern queue weight) subs = if_new (is_of_link conn pattern queue) subs
refusal (LinkOff conn pattern queue) subs = if_there (is_of_link conn pattern queue) subs
refusal (InnerOn pattern) subs = if_new (is_of_node pattern) subs
refusal (InnerOff pattern) subs = if_there (is_of_node pattern) subs
refusal (DropConn conn) subs = None

-- the list after a change
abbrev pub changed : Change → List Subscription → List Subscription
changed (Add conn sid pattern queue) subs = with_sub (of_client conn sid pattern queue) subs
changed (Remove conn sid) subs = without (is_of_client conn sid) subs
changed (LinkOn conn pattern queue weight) subs = with_sub (of_link conn pattern queue weight) subs
changed (LinkOff conn pattern queue) subs = without (is_of_link conn pattern queue) subs
changed (InnerOn pattern) subs = with_sub (of_node pattern) subs
changed (InnerOff pattern) subs = without (is_of_node pattern) subs
changed (DropConn conn) subs = without (is_of conn) subs

-- what was told to others than a link
abbrev pub forgotten : ℕ → List ToldTo → List ToldTo
forgotten link ts = filter (λ t. not (t.link == link)) ts

-- what was told to the links after a change: a connection that is gone is told nothing any more
abbrev pub told_after : Change → List ToldTo → List ToldTo
told_after (DropConn conn) ts = forgotten conn ts
told_after (Add conn sid pattern queue) ts = ts
told_after (Remove conn sid) ts = ts
told_after (LinkOn conn pattern queue weight) ts = ts
told_after (LinkOff conn pattern queue) ts = ts
told_after (InnerOn pattern) ts = ts
told_after (InnerOff pattern) ts = ts

-- the whole after a change
abbrev pub after : Change → Interests → Interests
after change it = record { subs = changed change it.subs; told_to = told_after change it.told_to }

-- the answer is the refusal where there is one; and else it is Ok, unless there is no memory
abbrev pub Answers : {T : Type 0} → Option InterestFault → Result T InterestFault → Type 0
Answers (Some fault) result = result ≡ Err fault
Answers None result = MatchResult result (λ _. ⊤) (λ fault. fault ≡ NoMemory)

-- an Ok comes only where there is no refusal, and what is answered else is the refusal, or want of memory
abbrev pub MayAnswer : {T : Type 0} → Option InterestFault → Result T InterestFault → Type 0
MayAnswer refused result = MatchResult result (λ _. refused ≡ None) (λ fault. (fault ≡ NoMemory) ⊎ (refused ≡ Some fault))

-- the whole after these changes, the first first
abbrev pub after_all : List Change → Interests → Interests
after_all [] it = it
after_all (c ∷ cs) it = after_all cs (after c it)

-- the first refusal among these changes
abbrev pub first_refusal : List Change → List Subscription → Option InterestFault
first_refusal [] subs = None
first_refusal (c ∷ cs) subs = elim (refusal c subs) [ None ↦ first_refusal cs (changed c subs) | Some fault ↦ Some fault ]

-- each of these links was told all
abbrev pub all_informed : List ℕ → Interests → Interests
all_informed [] it = it
all_informed (l ∷ ls) it = all_informed ls (informed l it)

-- what each of these links is told, link by link
abbrev pub all_news : {P : Type 0} → (ℕ → LeafFrame → P) → List ℕ → Interests → List P
all_news carried [] it = []
all_news carried (l ∷ ls) it = map (carried l) (news l it) ++ all_news carried ls (informed l it)
