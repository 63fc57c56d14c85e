-- Subscriptions by their patterns, and those that match a subject.
use Rattle.std.specs.Prelude.{◌≡◌, ℕ, Bool, List, [], ◌∷◌, ◌++◌, Option, Some, None, filter}
use Rattle.std.specs.BTreeMap.{BTreeMap}
use Rattle.std.specs.BTreeSet.{BTreeSet}
use Rattle.std.specs.Global.{Vec}
use Rattle.std.specs.List.Sorted.{IsStrictlySortedBy}
use Rattle.std.specs.Str.{bytes_eq}
use Rattle.nats_text.specs.Matching.{matches}
use Rattle.interest_list.specs.Lists.{subscription_cmp}
use Rattle.interest_list.specs.declared.subscription.Subscription.{Subscription}
use Rattle.pattern_tree.specs.Reached.{value_at}

-- the subscriptions whose pattern matches the subject
abbrev pub matching : List ℕ → List Subscription → List Subscription
matching subject subs = filter (λ s. matches s.pattern subject) subs

-- the subscription is one of this pattern
abbrev pub has_pattern : List ℕ → Subscription → Bool
has_pattern pattern s = bytes_eq s.pattern pattern

-- the subscriptions of these sets
abbrev pub all_of : List (BTreeSet Subscription) → List Subscription
all_of [] = []
all_of (set ∷ sets) = set.keys ++ all_of sets

-- subscriptions by the bytes of their patterns
abbrev pub Listing : Type 0
Listing = BTreeMap (Vec ℕ) (BTreeSet Subscription)

abbrev pub keys_in : Option (BTreeSet Subscription) → List Subscription
keys_in None = []
keys_in (Some set) = set.keys

-- the subscriptions that are listed under a pattern
abbrev pub listed : List ℕ → Listing → List Subscription
listed pattern listing = keys_in (value_at pattern listing)

-- the subscriptions stand in order, each once, and under each pattern those that have it
pub record IsListed (subs : List Subscription) (listing : Listing) : Type 0 where
  pub rises : IsStrictlySortedBy subscription_cmp subs
  pub lists : (pattern : List ℕ) → listed pattern listing ≡ filter (has_pattern pattern) subs
