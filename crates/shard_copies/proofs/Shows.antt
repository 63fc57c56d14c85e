-- Askers in a list show the askers of a view, before and after a change.
use Rattle.std.proofs.Common.{◌≡◌, ℕ, Bool, true, false, cond, eqb, ◌&&◌, List, [], ◌∷◌, Option, Some, None, IsSome, refl, sym, ap, ◌∙◌, subst, ◌⊎◌, inl, inr}
use Rattle.std.specs.Prelude.{map, option_map, find}
use Rattle.std.specs.FinMap.{get, empty}
use Rattle.std.specs.Cmp.Lexicographic.{bytes_decides}
use Rattle.std.specs.Str.{bytes_eq}
use Rattle.std.proofs.lemmas.Bool.{eqb-true, eq-eqb}
use Rattle.js_wire.specs.declared.packet.AskerId.{AskerId}
use Rattle.replica_ask.specs.Askers.{AskerState, new_asker, with_phase}
use Rattle.replica_ask.specs.declared.phase.Phase.TheVariants.{Idle}
use Rattle.shard_machine.specs.Views.{View, Askers, Copy, askers_of, asker_or_new, asker_of, with_asker, with_asked, with_all_asked, idle_askers, idle_under}
use Rattle.shard_copies.specs.Asked.{AskersState, is_of, id_in, shown, ShowsAskers, HavePlaces, asked_of}
use Rattle.shard_copies.specs.Places.{changed_in, put_in, put_all}
use Rattle.shard_copies.proofs.Lookups.{stored_at, stored-empty, with_asker-own, with_asker-cases, rest_of, stored-idle, stored-idle_under}

-- ---- names

and-parts : (b c : Bool) → (b && c) ≡ true → (b ≡ true) × (c ≡ true)
and-parts true c h = (refl, h)
and-parts false c h = absurd (let z : false ≡ true = h in cc)

-- the asker of a name has it
pub is-of-true : (id : AskerId) (a : AskerState) → is_of id a ≡ true → a.id ≡ id
is-of-true id a h =
    let p = and-parts (eqb a.id.index id.index && bytes_eq a.id.stream id.stream) (bytes_eq a.id.node id.node) h in
    let q = and-parts (eqb a.id.index id.index) (bytes_eq a.id.stream id.stream) p.0 in
    let node : a.id.node ≡ id.node = (bytes_decides a.id.node id.node).0 p.1 in
    let stream : a.id.stream ≡ id.stream = (bytes_decides a.id.stream id.stream).0 q.1 in
    let index : a.id.index ≡ id.index = eqb-true a.id.index id.index q.0 in
    λ i. record { node = node i; stream = stream i; index = index i }

has-own : (id : AskerId) → ((eqb id.index id.index && bytes_eq id.stream id.stream) && bytes_eq id.node id.node) ≡ true
has-own id = by (eqb id.index id.index) (bytes_eq id.stream id.stream) (bytes_eq id.node id.node) (eq-eqb id.index id.index refl) ((bytes_decides id.stream id.stream).1 refl) ((bytes_decides id.node id.node).1 refl)
  where
    by : (b c d : Bool) → b ≡ true → c ≡ true → d ≡ true → ((b && c) && d) ≡ true
    by b c d e f g = ap (λ x. (x && c) && d) e ∙ (ap (λ x. (true && x) && d) f ∙ g)

-- an asker is of its own name
pub is-of-own : (id : AskerId) (a : AskerState) → a.id ≡ id → is_of id a ≡ true
is-of-own id a e = ap (λ (x : AskerId). (eqb x.index id.index && bytes_eq x.stream id.stream) && bytes_eq x.node id.node) e ∙ has-own id

-- whether it is of a name depends on its own name alone
pub is-of-same : (id : AskerId) (a b : AskerState) → a.id ≡ b.id → is_of id a ≡ is_of id b
is-of-same id a b e = ap (λ (x : AskerId). (eqb x.index id.index && bytes_eq x.stream id.stream) && bytes_eq x.node id.node) e

-- ---- lists

none-some : IsSome {T = AskerState} None → ⊥
none-some h = let z : false ≡ true = h in absurd (cc)

find-passes : (id : AskerId) (all : List AskerState) (a : AskerState) → find (is_of id) all ≡ Some a → a.id ≡ id
find-passes id [] a e = absurd (cc)
find-passes id (x ∷ xs) a e = by (is_of id x) refl e (find-passes id xs a)
  where
    by : (b : Bool) → is_of id x ≡ b → cond b (Some x) (find (is_of id) xs) ≡ Some a → (find (is_of id) xs ≡ Some a → a.id ≡ id) → a.id ≡ id
    by true p q rest = let same : x ≡ a = cc in ap (λ (y : AskerState). y.id) (sym same) ∙ is-of-true id x p
    by false p q rest = rest q

module _ (id : AskerId) (change : AskerState → AskerState) (keeps : (a : AskerState) → a.id ≡ id → (change a).id ≡ id) where
  -- the asker of the name is the changed one
  find-changed : (all : List AskerState) → find (is_of id) (changed_in id change all) ≡ option_map change (find (is_of id) all)
  find-changed [] = refl
  find-changed (x ∷ xs) = by (is_of id x) refl (find-changed xs)
    where
      by : (b : Bool) → is_of id x ≡ b → find (is_of id) (changed_in id change xs) ≡ option_map change (find (is_of id) xs) → find (is_of id) (cond b (change x ∷ xs) (x ∷ changed_in id change xs)) ≡ option_map change (cond b (Some x) (find (is_of id) xs))
      by true p rest = ap (λ b. cond b (Some (change x)) (find (is_of id) xs)) (is-of-own id (change x) (keeps x (is-of-true id x p)))
      by false p rest = ap (λ b. cond b (Some x) (find (is_of id) (changed_in id change xs))) p ∙ rest

  -- and the others stay
  find-others : (other : AskerId) (all : List AskerState) → ((a : AskerState) → a.id ≡ id → is_of other a ≡ false) → find (is_of other) (changed_in id change all) ≡ find (is_of other) all
  find-others other [] differs = refl
  find-others other (x ∷ xs) differs = by (is_of id x) refl (find-others other xs differs)
    where
      by : (b : Bool) → is_of id x ≡ b → find (is_of other) (changed_in id change xs) ≡ find (is_of other) xs → find (is_of other) (cond b (change x ∷ xs) (x ∷ changed_in id change xs)) ≡ cond (is_of other x) (Some x) (find (is_of other) xs)
      by true p rest =
          let own : x.id ≡ id = is-of-true id x p in
          ap (λ b. cond b (Some (change x)) (find (is_of other) xs)) (differs (change x) (keeps x own))
          ∙ sym (ap (λ b. cond b (Some x) (find (is_of other) xs)) (differs x own))
      by false p rest = ap (cond (is_of other x) (Some x)) rest

-- ---- what is shown

-- the asker that is shown has the name that was looked up
pub shown-id : (s : AskersState) (stream : List ℕ) (index : ℕ) → (shown s stream index).id ≡ id_in s stream index
shown-id s stream index = by (find (is_of (id_in s stream index)) s.all) refl
  where
    by : (o : Option AskerState) → find (is_of (id_in s stream index)) s.all ≡ o → (asker_or_new (id_in s stream index) s.boot o).id ≡ id_in s stream index
    by None e = refl
    by (Some a) e = find-passes (id_in s stream index) s.all a e

-- the asker of a view's copy is the one that is shown
pub asker-shown : (s : AskersState) (v : View) → ShowsAskers s v v.askers → (c : Copy) → asker_of v c ≡ shown s c.stream c.index
asker-shown s v h c =
    ap (λ (n : List ℕ). asker_or_new (record { node = n; stream = c.stream; index = c.index }) v.image.boot (get (askers_of v.askers c.stream) c.index)) (sym h.node)
    ∙ (ap (λ (b : ℕ). asker_or_new (id_in s c.stream c.index) b (get (askers_of v.askers c.stream) c.index)) (sym h.boot)
    ∙ sym (h.each c.stream c.index))

-- other askers, of the same shard
abbrev pub with_list : AskersState → List AskerState → AskersState
with_list s all = record { node = s.node; boot = s.boot; all = all }

module _ (s : AskersState) (stream : List ℕ) (index : ℕ) (change : AskerState → AskerState) (keeps : (a : AskerState) → a.id ≡ id_in s stream index → (change a).id ≡ id_in s stream index) where
  changed : AskersState
  changed = with_list s (changed_in (id_in s stream index) change s.all)

  -- the asker of this stream and index is the changed one, where one that isn't there stays as it is
  shown-changed : (find (is_of (id_in s stream index)) s.all ≡ None → change (new_asker (id_in s stream index) s.boot) ≡ new_asker (id_in s stream index) s.boot)
      → shown (with_list s (changed_in (id_in s stream index) change s.all)) stream index ≡ change (shown s stream index)
  shown-changed stays = ap (asker_or_new (id_in s stream index) s.boot) (find-changed (id_in s stream index) change keeps s.all) ∙ by (find (is_of (id_in s stream index)) s.all) stays
    where
      by : (o : Option AskerState) → (o ≡ None → change (new_asker (id_in s stream index) s.boot) ≡ new_asker (id_in s stream index) s.boot)
          → asker_or_new (id_in s stream index) s.boot (option_map change o) ≡ change (asker_or_new (id_in s stream index) s.boot o)
      by None e = sym (e refl)
      by (Some a) e = refl

  -- and the others stay
  shown-others : (t : List ℕ) (j : ℕ) → is_of (id_in s t j) (new_asker (id_in s stream index) s.boot) ≡ false
      → shown (with_list s (changed_in (id_in s stream index) change s.all)) t j ≡ shown s t j
  shown-others t j differs = ap (asker_or_new (id_in s t j) s.boot) (find-others (id_in s stream index) change keeps (id_in s t j) s.all (λ a e. is-of-same (id_in s t j) a (new_asker (id_in s stream index) s.boot) e ∙ differs))

-- A change of one asker shows the view's askers with the changed one in its place.
pub shows-changed : (s : AskersState) (v : View) (askers : Askers) (stream : List ℕ) (index : ℕ) (change : AskerState → AskerState) (one : AskerState)
    → ((a : AskerState) → a.id ≡ id_in s stream index → (change a).id ≡ id_in s stream index)
    → (find (is_of (id_in s stream index)) s.all ≡ None → change (new_asker (id_in s stream index) s.boot) ≡ new_asker (id_in s stream index) s.boot)
    → change (shown s stream index) ≡ one → ShowsAskers s v askers
    → ShowsAskers (with_list s (changed_in (id_in s stream index) change s.all)) v (with_asker stream index one askers)
shows-changed s v askers stream index change one keeps stays is h = record { node = h.node; boot = h.boot; each = λ t j. by t j (is_of (id_in s t j) (new_asker (id_in s stream index) s.boot)) refl }
  where
    own : (t : List ℕ) (j : ℕ) → stream ≡ t → index ≡ j → shown (with_list s (changed_in (id_in s stream index) change s.all)) t j ≡ asker_or_new (id_in s t j) s.boot (stored_at (with_asker stream index one askers) t j)
    own t j e f = subst (λ (x : List ℕ). shown (with_list s (changed_in (id_in s stream index) change s.all)) x j ≡ asker_or_new (id_in s x j) s.boot (stored_at (with_asker stream index one askers) x j)) e
        (subst (λ (n : ℕ). shown (with_list s (changed_in (id_in s stream index) change s.all)) stream n ≡ asker_or_new (id_in s stream n) s.boot (stored_at (with_asker stream index one askers) stream n)) f
        (shown-changed s stream index change keeps stays ∙ (is ∙ sym (ap (asker_or_new (id_in s stream index) s.boot) (with_asker-own stream index one askers)))))

    by : (t : List ℕ) (j : ℕ) (b : Bool) → is_of (id_in s t j) (new_asker (id_in s stream index) s.boot) ≡ b
        → shown (with_list s (changed_in (id_in s stream index) change s.all)) t j ≡ asker_or_new (id_in s t j) s.boot (stored_at (with_asker stream index one askers) t j)
    by t j true e =
        let same : id_in s stream index ≡ id_in s t j = is-of-true (id_in s t j) (new_asker (id_in s stream index) s.boot) e in
        own t j (ap (λ (x : AskerId). x.stream) same) (ap (λ (x : AskerId). x.index) same)
    by t j false e = elim (with_asker-cases stream index one askers t j) [
      | inl same ↦ own t j same.0 same.1
      | inr same ↦ shown-others s stream index change keeps t j e ∙ (h.each t j ∙ sym (ap (asker_or_new (id_in s t j) s.boot) same))
    ]

-- ---- askers that asked

some-not-none : (o : Option AskerState) → IsSome o → o ≡ None → ⊥
some-not-none None h e = none-some h
some-not-none (Some a) h e = absurd (cc)

-- an asker has its place still
kept-put : (one : AskerState) (id : AskerId) (all : List AskerState) → IsSome (find (is_of id) all) → IsSome (find (is_of id) (put_in one all))
kept-put one id all h = by (is_of id one) refl
  where
    some-mapped : (o : Option AskerState) → IsSome o → IsSome (option_map (λ _. one) o)
    some-mapped None k = absurd (none-some k)
    some-mapped (Some a) k = refl

    by : (b : Bool) → is_of id one ≡ b → IsSome (find (is_of id) (put_in one all))
    by true e =
        let same : one.id ≡ id = is-of-true id one e in
        let here : IsSome (find (is_of one.id) all) = subst (λ (x : AskerId). IsSome (find (is_of x) all)) (sym same) h in
        subst (λ (x : AskerId). IsSome (find (is_of x) (put_in one all))) same
        (subst IsSome (sym (find-changed one.id (λ _. one) (λ a q. refl) all)) (some-mapped (find (is_of one.id) all) here))
    by false e = subst IsSome (sym (find-others one.id (λ _. one) (λ a q. refl) id all (λ a q. is-of-same id a one q ∙ e))) h

places-put : (one : AskerState) (all ones : List AskerState) → HavePlaces all ones → HavePlaces (put_in one all) ones
places-put one all [] h = h
places-put one all (x ∷ xs) h = (kept-put one x.id all h.0, places-put one all xs h.1)

-- Askers that asked, put in their places one after another, are those of the view whose copies asked.
pub shows-asked : (v : View) (now : ℕ) (copies : List Copy) (s : AskersState) (askers : Askers) (ones : List AskerState)
    → ((c : Copy) → (asked_of v now c).id ≡ id_in s c.stream c.index) → ones ≡ map (asked_of v now) copies → HavePlaces s.all ones → ShowsAskers s v askers
    → ShowsAskers (with_list s (put_all ones s.all)) v (with_all_asked v now copies askers)
shows-asked v now [] s askers [] ids e places h = h
shows-asked v now [] s askers (x ∷ xs) ids e places h = absurd (cc)
shows-asked v now (c ∷ cs) s askers [] ids e places h = absurd (cc)
shows-asked v now (c ∷ cs) s askers (one ∷ ones) ids e places h =
    let is : one ≡ asked_of v now c = cc in
    let rest : ones ≡ map (asked_of v now) cs = cc in
    let id : one.id ≡ id_in s c.stream c.index = ap (λ (a : AskerState). a.id) is ∙ ids c in
    let there : IsSome (find (is_of (id_in s c.stream c.index)) s.all) = subst (λ (x : AskerId). IsSome (find (is_of x) s.all)) id places.0 in
    let step : ShowsAskers (with_list s (changed_in (id_in s c.stream c.index) (λ _. one) s.all)) v (with_asker c.stream c.index (asked_of v now c) askers) =
    shows-changed s v askers c.stream c.index (λ _. one) (asked_of v now c) (λ a q. id) (λ none. absurd (some-not-none (find (is_of (id_in s c.stream c.index)) s.all) there none)) is h in
    let put : ShowsAskers (with_list s (put_in one s.all)) v (with_asked v now c askers) =
    subst (λ (x : AskerId). ShowsAskers (with_list s (changed_in x (λ _. one) s.all)) v (with_asker c.stream c.index (asked_of v now c) askers)) (sym id) step in
    shows-asked v now cs (with_list s (put_in one s.all)) (with_asked v now c askers) ones ids rest (places-put one s.all ones places.1) put

-- ---- askers that forget what they asked

or-idle : (id : AskerId) (boot : ℕ) (o : Option AskerState) → asker_or_new id boot (option_map rest_of o) ≡ rest_of (asker_or_new id boot o)
or-idle id boot None = refl
or-idle id boot (Some a) = refl

module _ (id : AskerId) (change : AskerState → AskerState) (keeps : (a : AskerState) → (change a).id ≡ a.id) where
  find-mapped : (all : List AskerState) → find (is_of id) (map change all) ≡ option_map change (find (is_of id) all)
  find-mapped [] = refl
  find-mapped (x ∷ xs) = ap (λ b. cond b (Some (change x)) (find (is_of id) (map change xs))) (is-of-same id (change x) x (keeps x)) ∙ by (is_of id x) (find-mapped xs)
    where
      by : (b : Bool) → find (is_of id) (map change xs) ≡ option_map change (find (is_of id) xs) → cond b (Some (change x)) (find (is_of id) (map change xs)) ≡ option_map change (cond b (Some x) (find (is_of id) xs))
      by true h = refl
      by false h = h

-- all are idle
pub shows-idle : (s : AskersState) (v : View) (askers : Askers) → ShowsAskers s v askers → ShowsAskers (with_list s (map rest_of s.all)) v (idle_askers askers)
shows-idle s v askers h = record {
  node = h.node;
  boot = h.boot;
  each = λ t j.
      ap (asker_or_new (id_in s t j) s.boot) (find-mapped (id_in s t j) rest_of (λ a. refl) s.all)
      ∙ (or-idle (id_in s t j) s.boot (find (is_of (id_in s t j)) s.all)
      ∙ (ap rest_of (h.each t j)
      ∙ sym (ap (asker_or_new (id_in s t j) s.boot) (stored-idle askers t j) ∙ or-idle (id_in s t j) s.boot (stored_at askers t j))));
}

-- the askers of a stream are idle
abbrev pub rest_under : List ℕ → AskerState → AskerState
rest_under name a = cond (bytes_eq a.id.stream name) (with_phase a Idle) a

rest-under-id : (name : List ℕ) (a : AskerState) → (rest_under name a).id ≡ a.id
rest-under-id name a = by (bytes_eq a.id.stream name)
  where
    by : (b : Bool) → (cond b (with_phase a Idle) a).id ≡ a.id
    by true = refl
    by false = refl

pub shows-idle_under : (name : List ℕ) (s : AskersState) (v : View) (askers : Askers) → ShowsAskers s v askers → ShowsAskers (with_list s (map (rest_under name) s.all)) v (idle_under name askers)
shows-idle_under name s v askers h = record { node = h.node; boot = h.boot; each = λ t j. each t j (bytes_eq t name) refl }
  where
    found : (t : List ℕ) (j : ℕ) → shown (with_list s (map (rest_under name) s.all)) t j ≡ asker_or_new (id_in s t j) s.boot (option_map (rest_under name) (find (is_of (id_in s t j)) s.all))
    found t j = ap (asker_or_new (id_in s t j) s.boot) (find-mapped (id_in s t j) (rest_under name) (rest-under-id name) s.all)

    mapped : (t : List ℕ) (j : ℕ) (b : Bool) → bytes_eq t name ≡ b → (o : Option AskerState) → find (is_of (id_in s t j)) s.all ≡ o
        → asker_or_new (id_in s t j) s.boot (option_map (rest_under name) o) ≡ cond b (rest_of (asker_or_new (id_in s t j) s.boot o)) (asker_or_new (id_in s t j) s.boot o)
    mapped t j true e None q = refl
    mapped t j false e None q = refl
    mapped t j true e (Some a) q = ap (λ b. cond b (with_phase a Idle) a) (ap (λ (x : AskerId). bytes_eq x.stream name) (find-passes (id_in s t j) s.all a q) ∙ e)
    mapped t j false e (Some a) q = ap (λ b. cond b (with_phase a Idle) a) (ap (λ (x : AskerId). bytes_eq x.stream name) (find-passes (id_in s t j) s.all a q) ∙ e)

    each : (t : List ℕ) (j : ℕ) (b : Bool) → bytes_eq t name ≡ b → shown (with_list s (map (rest_under name) s.all)) t j ≡ asker_or_new (id_in s t j) s.boot (stored_at (idle_under name askers) t j)
    each t j true e =
        let same : name ≡ t = sym ((bytes_decides t name).0 e) in
        found t j ∙ (mapped t j true e (find (is_of (id_in s t j)) s.all) refl
        ∙ (ap rest_of (h.each t j)
        ∙ sym (ap (asker_or_new (id_in s t j) s.boot) ((stored-idle_under name askers t j).0 same) ∙ or-idle (id_in s t j) s.boot (stored_at askers t j))))
    each t j false e = elim ((stored-idle_under name askers t j).1) [
      | inl same ↦ absurd (let z : bytes_eq t name ≡ true = (bytes_decides t name).1 (sym same) in cc)
      | inr same ↦ found t j ∙ (mapped t j false e (find (is_of (id_in s t j)) s.all) refl ∙ (h.each t j ∙ sym (ap (asker_or_new (id_in s t j) s.boot) same)))
    ]

-- ---- a shard that was just opened

pub shows-none : (s : AskersState) (v : View) (node : List ℕ) (boot : ℕ) → s ≡ record { node = node; boot = boot; all = [] } → v.node ≡ node → v.image.boot ≡ boot → ShowsAskers s v empty
shows-none s v node boot is n b = subst (λ (x : AskersState). ShowsAskers x v empty) (sym is) (record {
  node = sym n;
  boot = sym b;
  each = λ t j.
      sym (ap (asker_or_new (record { node = node; stream = t; index = j }) boot) (stored-empty t j));
})
