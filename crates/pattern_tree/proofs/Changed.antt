-- What stands after a change stands under its pattern again.
use Rattle.std.proofs.Common.{◌≡◌, ℕ, true, false, List, Option, Some, None, inl, inr, refl, sym, ap, ◌∙◌, subst}
use Rattle.std.specs.Prelude.{filter, IfSome}
use Rattle.std.specs.BTreeSet.{replace_key}
use Rattle.std.specs.Cmp.{tied_itself}
use Rattle.std.specs.List.{find, list_any}
use Rattle.std.specs.List.Sorted.{IsStrictlySortedBy}
use Rattle.std.specs.Set.{remove_key}
use Rattle.std.specs.Str.{bytes_eq}
use Rattle.std.proofs.lemmas.Bool.{cases_Bool}
use Rattle.interest_list.specs.Lists.{subscription_cmp}
use Rattle.interest_list.specs.Orders.{placed}
use Rattle.interest_list.specs.declared.subscription.Subscription.{Subscription}
use Rattle.pattern_tree.specs.Order.{is_same, subscriptions_total}
use Rattle.pattern_tree.specs.Standing.{Listing, listed, has_pattern, IsListed}
use Rattle.pattern_tree.proofs.Listings.{Lists}
use Rattle.pattern_tree.proofs.Sorted.{replaced_is_placed, in_placed, out_placed, in_removed, out_removed, put_and_taken, none_among}

-- where it was found, what holds of what was found
of_found : {A : Type 0} (P : A → Type 0) (o : Option A) (x : A) → o ≡ Some x → P x → IfSome o P
of_found P o x is h = subst (λ q. IfSome q P) (sym is) h

pub taken_listed : (e t : Subscription) (subs news : List Subscription) (old new : Listing) (pattern : List ℕ) → IsListed subs old → find (is_same e) subs ≡ Some t → news ≡ remove_key (is_same e) subs → IsStrictlySortedBy subscription_cmp news → pattern ≡ t.pattern → Lists (λ ks. remove_key (is_same e) ks) pattern old new → IsListed news new
taken_listed e t subs news old new pattern h here is rises at lists = record { rises = rises; lists = under } where
  under : (q : List ℕ) → listed q new ≡ filter (has_pattern q) news
  under q = elim (cases_Bool (bytes_eq pattern q)) [
    | inl same ↦ lists q ∙ rw same (ap (λ ks. remove_key (is_same e) ks) (h.lists q) ∙ (sym (in_removed (is_same e) (has_pattern q) subs (of_found (λ s. has_pattern q s ≡ true) (find (is_same e) subs) t here (ap (λ p. bytes_eq p q) (sym at) ∙ same))) ∙ ap (λ ks. filter (has_pattern q) ks) (sym is)))
    | inr other ↦ lists q ∙ rw other (h.lists q ∙ (sym (out_removed (is_same e) (has_pattern q) subs (of_found (λ s. has_pattern q s ≡ false) (find (is_same e) subs) t here (ap (λ p. bytes_eq p q) (sym at) ∙ other))) ∙ ap (λ ks. filter (has_pattern q) ks) (sym is)))
  ]

answers : (q : List ℕ) (x : Subscription) (o : Option Subscription) → IfSome o (λ s. s.pattern ≡ x.pattern) → IfSome o (λ s. has_pattern q s ≡ has_pattern q x)
answers q x None h = h
answers q x (Some s) h = ap (λ p. bytes_eq p q) h

pub put_listed : (x : Subscription) (subs news : List Subscription) (old new : Listing) → IsListed subs old → IfSome (find (is_same x) subs) (λ s. s.pattern ≡ x.pattern) → news ≡ replace_key subscription_cmp subs x → IsStrictlySortedBy subscription_cmp news → Lists (λ ks. replace_key subscription_cmp ks x) x.pattern old new → IsListed news new
put_listed x subs news old new h keeps is rises lists = record { rises = rises; lists = under } where
  news_are : news ≡ placed subscription_cmp x subs
  news_are = is ∙ replaced_is_placed subscription_cmp x subs

  under : (q : List ℕ) → listed q new ≡ filter (has_pattern q) news
  under q = elim (cases_Bool (bytes_eq x.pattern q)) [
    | inl same ↦ lists q ∙ rw same (ap (λ ks. replace_key subscription_cmp ks x) (h.lists q) ∙ (replaced_is_placed subscription_cmp x (filter (has_pattern q) subs) ∙ (sym (in_placed subscription_cmp subscriptions_total (has_pattern q) x subs same h.rises (answers q x (find (is_same x) subs) keeps)) ∙ ap (λ ks. filter (has_pattern q) ks) (sym news_are))))
    | inr other ↦ lists q ∙ rw other (h.lists q ∙ (sym (out_placed subscription_cmp (has_pattern q) x subs other (answers q x (find (is_same x) subs) keeps)) ∙ ap (λ ks. filter (has_pattern q) ks) (sym news_are)))
  ]

-- what was listed and taken away again leaves all as it was
pub undone : (x : Subscription) (subs news : List Subscription) (old mid new : Listing) → IsListed subs old → list_any (is_same x) subs ≡ false → news ≡ subs → Lists (λ ks. replace_key subscription_cmp ks x) x.pattern old mid → Lists (λ ks. remove_key (is_same x) ks) x.pattern mid new → IsListed news new
undone x subs news old mid new h none is first then = record { rises = subst (λ ks. IsStrictlySortedBy subscription_cmp ks) (sym is) h.rises; lists = λ q. under q ∙ (h.lists q ∙ ap (λ ks. filter (has_pattern q) ks) (sym is)) } where
  absent : (q : List ℕ) → list_any (is_same x) (listed q old) ≡ false
  absent q = ap (λ ks. list_any (is_same x) ks) (h.lists q) ∙ none_among (is_same x) (has_pattern q) subs none

  under : (q : List ℕ) → listed q new ≡ listed q old
  under q = elim (cases_Bool (bytes_eq x.pattern q)) [
    | inl same ↦ then q ∙ rw same (ap (λ ks. remove_key (is_same x) ks) (first q ∙ rw same refl) ∙ put_and_taken subscription_cmp subscriptions_total x (listed q old) (absent q) (tied_itself subscriptions_total x))
    | inr other ↦ then q ∙ rw other (first q ∙ rw other refl)
  ]
