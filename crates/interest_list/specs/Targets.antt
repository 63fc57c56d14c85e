-- Who gets a message, over the plain list of subscriptions.
use Rattle.std.specs.Prelude.{ℕ, ◌-◌, ◌%◌, ◌==◌, Bool, true, false, ◌&&◌, not, nat_lt, List, [], ◌∷◌, ◌++◌, Option, Some, None, filter, map, sum_by, is_none, if◌then◌else◌}
use Rattle.std.specs.List.{list_any, filter_map}
use Rattle.std.specs.Str.{bytes_eq}
use Rattle.std.specs.Ordering.{nat_cmp}
use Rattle.nats_text.specs.Matching.{matches}
use Rattle.subject_transform.specs.Domains.{crosses}
use Rattle.interest_list.specs.declared.subscription.Holder.{Holder}
use Rattle.interest_list.specs.declared.subscription.Holder.TheVariants.{Client, Link, Inner}
use Rattle.interest_list.specs.declared.subscription.Subscription.{Subscription}
use Rattle.interest_list.specs.declared.target.CameFrom.{CameFrom}
use Rattle.interest_list.specs.declared.target.CameFrom.TheVariants.{Client as FromClient, Link as FromLink, Inner as FromInner}
use Rattle.interest_list.specs.declared.target.Target.{Target}
use Rattle.interest_list.specs.declared.target.Target.TheVariants.{Client as ToClient, Link as ToLink, Inner as ToInner}
use Rattle.interest_list.specs.Orders.{text_cmp, in_order}
use Rattle.interest_list.specs.Lists.{is_link, is_inner}

-- a message goes back to the client it came from only where that wants its own messages
abbrev pub is_muted : CameFrom → ℕ → Bool
is_muted (FromClient c echo) conn = (c == conn) && not echo
is_muted (FromLink c) conn = false
is_muted FromInner conn = false

-- the message came by this link
abbrev pub came_by : CameFrom → ℕ → Bool
came_by (FromClient c echo) conn = false
came_by (FromLink c) conn = c == conn
came_by FromInner conn = false

-- The holder isn't shut out: nothing goes back to where it came from, and what doesn't cross to other nodes goes
-- to no link.
abbrev pub may_get : Bool → CameFrom → Holder → Bool
may_get outward from (Client conn sid) = not (is_muted from conn)
may_get outward from (Link conn) = outward && not (came_by from conn)
may_get outward from Inner = true

-- the subscription matches the subject, and its holder isn't shut out
abbrev pub is_live : List ℕ → Bool → CameFrom → Subscription → Bool
is_live subject outward from s = matches s.pattern subject && may_get outward from s.holder

-- the subscriptions that match and aren't shut out
abbrev pub live : List ℕ → CameFrom → List Subscription → List Subscription
live subject from subs = filter (is_live subject (crosses subject) from) subs

-- it wants all messages, and not those of a group
abbrev pub is_plain : Subscription → Bool
is_plain s = is_none s.queue

-- it is a member of this group
abbrev pub is_member : List ℕ → Subscription → Bool
is_member queue s = elim s.queue [ None ↦ false | Some q ↦ bytes_eq q queue ]

-- the members of a group: clients in order of connection and number, then links
abbrev pub members : List ℕ → List Subscription → List Subscription
members queue subs = filter (is_member queue) subs

-- the weights of these subscriptions together
abbrev pub weights : List Subscription → ℕ
weights subs = sum_by (λ s. s.weight) subs

-- the one in whose weight a number falls, where the weights are laid one behind another
abbrev pub at_weight : ℕ → List Subscription → Option Subscription
at_weight n [] = None
at_weight n (s ∷ ss) = if nat_lt n s.weight then Some s else at_weight (n - s.weight) ss

-- the member of a group that gets the message: that at the number modulo the sum of the weights
abbrev pub chosen : ℕ → List Subscription → List ℕ → Option Subscription
chosen pick subs queue = at_weight (pick % weights (members queue subs)) (members queue subs)

-- the groups of these subscriptions, in byte order, each once
abbrev pub groups : List Subscription → List (List ℕ)
groups subs = in_order text_cmp (filter_map (λ s. s.queue) subs)

-- the group is served: where groups are given, only these are
abbrev pub is_served : Option (List (List ℕ)) → List ℕ → Bool
is_served None queue = true
is_served (Some given) queue = list_any (λ g. bytes_eq g queue) given

-- the subscriptions that get the message: each plain one, and of each group that is served the chosen one
abbrev pub served : Option (List (List ℕ)) → ℕ → List Subscription → List Subscription
served given pick subs = filter is_plain subs ++ filter_map (chosen pick subs) (filter (is_served given) (groups subs))

-- the client that holds it, by its number
abbrev pub client_target : Subscription → Option Target
client_target s = elim s.holder [ Client conn sid ↦ Some (ToClient conn sid) | Link conn ↦ None | Inner ↦ None ]

-- the link that holds it
abbrev pub link_of : Subscription → Option ℕ
link_of s = elim s.holder [ Client conn sid ↦ None | Link conn ↦ Some conn | Inner ↦ None ]

-- a link with the groups for which it was chosen
abbrev pub link_target : List Subscription → ℕ → Target
link_target subs conn = ToLink conn (groups (filter (λ s. is_link conn s.holder) subs))

-- the links of these subscriptions, in order, each once
abbrev pub links : List Subscription → List ℕ
links subs = in_order nat_cmp (filter_map link_of subs)

-- the node itself, once, where it is among them
abbrev pub inner_target : List Subscription → List Target
inner_target subs = if list_any (λ s. is_inner s.holder) subs then ToInner ∷ [] else []

-- the holders of these subscriptions: each client, then each link once, then the node itself once
abbrev pub holders : List Subscription → List Target
holders subs = filter_map client_target subs ++ map (link_target subs) (links subs) ++ inner_target subs

-- who gets a message of this subject: `given` are the groups that it names, if it names any
abbrev pub targets : List Subscription → List ℕ → CameFrom → Option (List (List ℕ)) → ℕ → List Target
targets subs subject from given pick = holders (served given pick (live subject from subs))
