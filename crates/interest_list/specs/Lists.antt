-- The list of subscriptions: its order, and what stands in it.
use Rattle.std.specs.Prelude.{ℕ, ◌==◌, ◌&&◌, Bool, true, false, nat_le, List, [], length, Option, None, Some}
use Rattle.std.specs.Str.{bytes_eq}
use Rattle.std.specs.Ordering.{nat_cmp, ordering_then}
use Rattle.std.specs.declared.cmp.Ordering.{Ordering}
use Rattle.std.specs.declared.cmp.Ordering.TheVariants.{Less, Greater}
use Rattle.interest_list.specs.declared.subscription.Holder.{Holder}
use Rattle.interest_list.specs.declared.subscription.Holder.TheVariants.{Client, Link, Inner}
use Rattle.interest_list.specs.declared.subscription.Subscription.{Subscription}
use Rattle.interest_list.specs.declared.telling.Told.{Told}
use Rattle.interest_list.specs.declared.telling.ToldTo.{ToldTo}
use Rattle.interest_list.specs.Orders.{text_cmp, queue_cmp}

-- who gets messages, and what each link was told: the subscriptions in the order `subscription_cmp`, and the
-- links in the order of their numbers
pub record Interests : Type 0 where
  pub subs : List Subscription
  pub told_to : List ToldTo

-- nobody wants anything, and no link was told anything
abbrev pub no_interest : Interests
no_interest = record { subs = []; told_to = [] }

-- clients first, by connection and number; then links by connection; then the node itself; those that are alike
-- stand by what they want
abbrev pub holder_cmp : Holder → Holder → Ordering → Ordering
holder_cmp (Client c s) (Client d t) wants = ordering_then (nat_cmp c d) (text_cmp s t)
holder_cmp (Client c s) (Link d) wants = Less
holder_cmp (Client c s) Inner wants = Less
holder_cmp (Link c) (Client d t) wants = Greater
holder_cmp (Link c) (Link d) wants = ordering_then (nat_cmp c d) wants
holder_cmp (Link c) Inner wants = Less
holder_cmp Inner (Client d t) wants = Greater
holder_cmp Inner (Link d) wants = Greater
holder_cmp Inner Inner wants = wants

-- by pattern and queue, in byte order
abbrev pub pair_cmp : List ℕ → Option (List ℕ) → List ℕ → Option (List ℕ) → Ordering
pair_cmp p q r s = ordering_then (text_cmp p r) (queue_cmp q s)

-- The order of the list. Equal are two of a client with the same number, two of a link with the same pattern and
-- queue, and two of the node with the same pattern.
abbrev pub subscription_cmp : Subscription → Subscription → Ordering
subscription_cmp a b = holder_cmp a.holder b.holder (pair_cmp a.pattern a.queue b.pattern b.queue)

-- the order of what is told: by pattern and queue
abbrev pub told_cmp : Told → Told → Ordering
told_cmp a b = pair_cmp a.pattern a.queue b.pattern b.queue

-- the order of the links
abbrev pub link_cmp : ToldTo → ToldTo → Ordering
link_cmp a b = nat_cmp a.link b.link

-- the same queue, or none
abbrev pub same_queue : Option (List ℕ) → Option (List ℕ) → Bool
same_queue None None = true
same_queue None (Some b) = false
same_queue (Some a) None = false
same_queue (Some a) (Some b) = bytes_eq a b

-- the client of this connection holds it under this number
abbrev pub is_client : ℕ → List ℕ → Holder → Bool
is_client conn sid (Client c s) = (c == conn) && bytes_eq s sid
is_client conn sid (Link c) = false
is_client conn sid Inner = false

-- this link holds it
abbrev pub is_link : ℕ → Holder → Bool
is_link conn (Client c s) = false
is_link conn (Link c) = c == conn
is_link conn Inner = false

-- the node itself holds it
abbrev pub is_inner : Holder → Bool
is_inner (Client c s) = false
is_inner (Link c) = false
is_inner Inner = true

-- this connection holds it
abbrev pub is_on : ℕ → Holder → Bool
is_on conn (Client c s) = c == conn
is_on conn (Link c) = c == conn
is_on conn Inner = false

-- the subscription of a client with this number
abbrev pub is_of_client : ℕ → List ℕ → Subscription → Bool
is_of_client conn sid s = is_client conn sid s.holder

-- the subscription of a link with this pattern and queue
abbrev pub is_of_link : ℕ → List ℕ → Option (List ℕ) → Subscription → Bool
is_of_link conn pattern queue s = is_link conn s.holder && bytes_eq s.pattern pattern && same_queue s.queue queue

-- the node's own subscription of this pattern
abbrev pub is_of_node : List ℕ → Subscription → Bool
is_of_node pattern s = is_inner s.holder && bytes_eq s.pattern pattern

-- a subscription of this connection
abbrev pub is_of : ℕ → Subscription → Bool
is_of conn s = is_on conn s.holder

-- the most subscriptions that a node has
abbrev pub max_subscriptions : ℕ
max_subscriptions = 65536

-- the greatest weight of a group
abbrev pub max_weight : ℕ
max_weight = 65536

-- as many subscriptions stand as may
abbrev pub is_full : List Subscription → Bool
is_full subs = nat_le max_subscriptions (length subs)
