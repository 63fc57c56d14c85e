-- What stands in all that changes and tellings bring about.
use Rattle.std.proofs.Common.{◌≡◌, ℕ, Bool, true, not, ◌==◌, List, [], ◌∷◌, inl, inr, refl}
use Rattle.std.specs.Prelude.{filter}
use Rattle.std.specs.List.{list_all}
use Rattle.std.proofs.lemmas.Bool.{cases_Bool}
use Rattle.interest_list.specs.declared.change.Change.{Change}
use Rattle.interest_list.specs.declared.change.Change.TheVariants.{Add, Remove, LinkOn, LinkOff, InnerOn, InnerOff, DropConn}
use Rattle.interest_list.specs.declared.subscription.Subscription.{Subscription}
use Rattle.interest_list.specs.declared.telling.Told.{Told}
use Rattle.interest_list.specs.declared.telling.ToldTo.{ToldTo}
use Rattle.interest_list.specs.Lists.{Interests, subscription_cmp, told_cmp, link_cmp, is_of_client, is_of_link, is_of_node, is_of}
use Rattle.interest_list.specs.Tellings.{told, told_before}
use Rattle.interest_list.specs.Changes.{changed, told_after, has_weight, with_sub, of_client, of_link, of_node}
use Rattle.interest_list.specs.Taking.{IsReached, NewsLeadToTold, WeightsAreTold, has_told_weight}
use Rattle.interest_list.specs.Taking.IsReached.{begun, by_change, by_telling}
use Rattle.interest_list.proofs.Rising.{Each, Rises, each-filter, each-placed}
use Rattle.interest_list.proofs.Taking.{Weighs, Fits, told-fits, told-rises, changes_lead}

-- what a link was told rises
abbrev Rose : ToldTo → Type 0
Rose t = Rises told_cmp t.told

record Whole (it : Interests) : Type 0 where
  weigh : Each Weighs it.subs
  rise : Each Rose it.told_to

left : (test : Subscription → Bool) (subs : List Subscription) → Each Weighs subs → Each Weighs (filter (λ s. not (test s)) subs)
left test subs h = each-filter Weighs (λ s. not (test s)) subs h

comes : (s : Subscription) (subs : List Subscription) → Weighs s → Each Weighs subs → Each Weighs (with_sub s subs)
comes s subs w h = each-placed subscription_cmp Weighs s subs w h

weighed : (c : Change) (subs : List Subscription) → has_weight c ≡ true → Each Weighs subs → Each Weighs (changed c subs)
weighed (Add conn sid pattern queue) subs w h = comes (of_client conn sid pattern queue) subs refl h
weighed (Remove conn sid) subs w h = left (is_of_client conn sid) subs h
weighed (LinkOn conn pattern queue weight) subs w h = comes (of_link conn pattern queue weight) subs w h
weighed (LinkOff conn pattern queue) subs w h = left (is_of_link conn pattern queue) subs h
weighed (InnerOn pattern) subs w h = comes (of_node pattern) subs refl h
weighed (InnerOff pattern) subs w h = left (is_of_node pattern) subs h
weighed (DropConn conn) subs w h = left (is_of conn) subs h

rose : (c : Change) (ts : List ToldTo) → Each Rose ts → Each Rose (told_after c ts)
rose (Add conn sid pattern queue) ts h = h
rose (Remove conn sid) ts h = h
rose (LinkOn conn pattern queue weight) ts h = h
rose (LinkOff conn pattern queue) ts h = h
rose (InnerOn pattern) ts h = h
rose (InnerOff pattern) ts h = h
rose (DropConn conn) ts h = each-filter Rose (λ t. not (t.link == conn)) ts h

whole : (it : Interests) → IsReached it → Whole it
whole _ begun = record { weigh = tt; rise = tt }
whole _ (by_change c it w r) =
    let before = whole it r in
    record { weigh = weighed c it.subs w before.weigh; rise = rose c it.told_to before.rise }
whole _ (by_telling link it r) =
    let before = whole it r in
    record { weigh = before.weigh; rise = each-placed link_cmp Rose (record { link = link; told = told link it.subs }) it.told_to (told-rises link it.subs) before.rise }

before-rises : (link : ℕ) (ts : List ToldTo) → Each Rose ts → Rises told_cmp (told_before link ts)
before-rises link [] h = tt
before-rises link (t ∷ ts) h = elim (cases_Bool (t.link == link)) [
  | inl so ↦ rw so h.0
  | inr other ↦ rw other (before-rises link ts h.1)
]

pub news_lead : NewsLeadToTold
news_lead link it r =
    let all = whole it r in
    changes_lead (told_before link it.told_to) (told link it.subs) (before-rises link it.told_to all.rise) (told-rises link it.subs) (told-fits link it.subs all.weigh)

each-true : (ts : List Told) → Each Fits ts → list_all has_told_weight ts ≡ true
each-true [] h = refl
each-true (t ∷ ts) h = rw h.0 (each-true ts h.1)

pub weights_told : WeightsAreTold
weights_told link it r = each-true (told link it.subs) (told-fits link it.subs ((whole it r).weigh))
