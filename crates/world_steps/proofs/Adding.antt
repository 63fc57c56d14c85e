-- What holds of a net holds of the one without nodes, and of it once a node was made.
use Rattle.std.proofs.Common.{◌≡◌, ℕ, zero, suc, ◌<◌, Bool, true, List, [], ◌∷◌, ◌++◌, length, Some, refl, sym, ap, ◌∙◌, subst, arith, ◌⊎◌, inl, inr}
use Rattle.std.specs.Prelude.{Contains, slice_get}
use Rattle.std.proofs.lemmas.List.Elements.{Contains-append_left, Contains-get_or, Contains-push}
use Rattle.std.proofs.lemmas.Option.{slice_get_within, get_or_from_slice_get}
use Rattle.js_wire.specs.declared.packet.Packet.{Packet}
use Rattle.run_soundness.specs.Shards.{ShardState}
use Rattle.run_soundness.specs.Worlds.{World}
use Rattle.world_steps.specs.Links.{Site, Net, new_site}
use Rattle.world_steps.specs.Nets.{AreSent, AllSent, names_of, AreApart, HubIsJoined, IsWhole, IsNew, IsUnused, AddsNode}
use Rattle.world_steps.proofs.Wholes.{sent-more}

pub new-whole : (net : Net) → IsNew net → IsWhole net
new-whole net new = record {
  nodes = new.nodes ∙ ap names_of (sym new.sites);
  apart = λ i j name here there. absurd (let z : slice_get (names_of []) i ≡ Some name = subst (λ (l : List Site). slice_get (names_of l) i ≡ Some name) new.sites here in let lt : i < 0 = slice_get_within (names_of []) i name z in omega (arith, lt));
  hub = subst (λ (l : List Site). HubIsJoined net.world.joined (names_of l)) (sym new.sites) tt;
  sent = subst (λ (l : List Site). AllSent net.world l) (sym new.sites) tt;
  unused = λ node k none. new.unused node k;
}

pub got-in : (ns : List (List ℕ)) (i : ℕ) (n : List ℕ) → slice_get ns i ≡ Some n → Contains ns n
got-in ns i n e = subst (λ (x : List ℕ). Contains ns x) (get_or_from_slice_get ns i n n e) (Contains-get_or ns i n (slice_get_within ns i n e))

got-push : (ns : List (List ℕ)) (n x : List ℕ) (i : ℕ) → slice_get (ns ++ n ∷ []) i ≡ Some x → (slice_get ns i ≡ Some x) ⊎ ((i ≡ length ns) × (x ≡ n))
got-push [] n x zero e = let z : n ≡ x = cc in inr (refl, sym z)
got-push [] n x (suc i) e = absurd (let lt : i < 0 = slice_get_within [] i x e in omega (arith, lt))
got-push (m ∷ ns) n x zero e = inl e
got-push (m ∷ ns) n x (suc i) e = elim (got-push ns n x i e) [
  | inl old ↦ inl old
  | inr last ↦ inr (ap suc last.0, last.1)
]

apart-push : (ns : List (List ℕ)) (n : List ℕ) → (Contains ns n → ⊥) → AreApart ns → AreApart (ns ++ n ∷ [])
apart-push ns n none apart i j x here there = elim (got-push ns n x i here) [
  | inl h ↦ (elim (got-push ns n x j there) [
    | inl t ↦ apart i j x h t
    | inr t ↦ absurd (none (subst (λ (y : List ℕ). Contains ns y) t.1 (got-in ns i x h)))
  ])
  | inr h ↦ (elim (got-push ns n x j there) [
    | inl t ↦ absurd (none (subst (λ (y : List ℕ). Contains ns y) h.1 (got-in ns j x t)))
    | inr t ↦ h.0 ∙ sym t.0
  ])
]

names-push : (sites : List Site) (s : Site) → names_of (sites ++ s ∷ []) ≡ names_of sites ++ s.name ∷ []
names-push [] s = refl
names-push (t ∷ sites) s = ap (λ (ns : List (List ℕ)). t.name ∷ ns) (names-push sites s)

hub-push : (old new : List ℕ → Bool) (ns : List (List ℕ)) (n : List ℕ) → new n ≡ true → ((m : List ℕ) → (m ≡ n) ⊎ (new m ≡ old m)) → HubIsJoined old ns → HubIsJoined new (ns ++ n ∷ [])
hub-push old new [] n up others h = up
hub-push old new (m ∷ ns) n up others h = elim (others m) [
  | inl e ↦ subst (λ (x : List ℕ). new x ≡ true) (sym e) up
  | inr same ↦ same ∙ h
]

none-sent : (w : World) → AreSent w Rattle.world_steps.specs.Links.empty_channel
none-sent w p h = absurd (let lt : h.0 < 0 = h.1 in omega (arith, lt))

sent-push : (w : World) (sites : List Site) (name : List ℕ) → AllSent w sites → AllSent w (sites ++ new_site name ∷ [])
sent-push w [] name all = (none-sent w, none-sent w, tt)
sent-push w (s ∷ sites) name all = (all.0, all.1, sent-push w sites name all.2)

pub added-whole : (node : List ℕ) (old new : Net) → IsWhole old → AddsNode node old new → IsWhole new
added-whole node old new whole h =
    let names : names_of new.sites ≡ names_of old.sites ++ node ∷ [] = ap names_of h.sites ∙ names-push old.sites (new_site node) in
    record {
      nodes = h.begins.nodes ∙ (ap (λ (ns : List (List ℕ)). ns ++ node ∷ []) whole.nodes ∙ sym names);
      apart = subst AreApart (sym names) (apart-push (names_of old.sites) node (subst (λ (ns : List (List ℕ)). Contains ns node → ⊥) whole.nodes h.begins.new_name) whole.apart);
      hub = subst (HubIsJoined new.world.joined) (sym names) (hub-push old.world.joined new.world.joined (names_of old.sites) node h.joined h.begins.joined whole.hub);
      sent = subst (λ (l : List Site). AllSent new.world l) (sym h.sites)
          (sent-push new.world old.sites node (sent-more old.world new.world old.sites (λ p c. subst (λ (l : List Packet). Contains l p) (sym h.begins.bag) c) whole.sent));
      unused = λ n k none. elim (h.begins.others n k) [
        | inl here ↦ absurd (none (subst (λ (l : List (List ℕ)). Contains l n) (sym h.begins.nodes) (subst (λ (x : List ℕ). Contains (old.world.nodes ++ node ∷ []) x) (sym here.0) (Contains-push old.world.nodes node))))
        | inr same ↦ subst (λ (s : ShardState). IsUnused n s) (sym same)
            (whole.unused n k (λ there. none (subst (λ (l : List (List ℕ)). Contains l n) (sym h.begins.nodes) (Contains-append_left old.world.nodes (node ∷ []) n there))))
      ];
    }
