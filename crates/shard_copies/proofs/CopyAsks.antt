-- What copies ask, copy by copy, and the places of their askers.
use Rattle.std.proofs.Common.{◌≡◌, ℕ, zero, suc, ◌+◌, ◌<◌, Bool, true, false, cond, eqb, ◌==◌, List, [], ◌∷◌, ◌++◌, map, length, take, get_or, Option, Some, None, IsSome, refl, sym, ap, ◌∙◌, subst, arith, append_assoc, append-nil, length-take}
use Rattle.std.specs.Prelude.{filter, find, slice_get, option_map}
use Rattle.std.specs.FinMap.{get}
use Rattle.std.specs.Str.{bytes_eq}
use Rattle.std.proofs.lemmas.Bool.{eq-eqb, eqb-true}
use Rattle.std.proofs.lemmas.List.{take_more, map-append}
use Rattle.std.proofs.lemmas.List.Elements.{filter-append}
use Rattle.nats_text.specs.declared.message.Start.{Start}
use Rattle.nats_text.specs.declared.origin.Origin.{Origin}
use Rattle.js_wire.specs.declared.packet.AskerId.{AskerId}
use Rattle.js_wire.specs.declared.packet.Packet.{Packet}
use Rattle.js_wire.specs.declared.packet.Packet.TheVariants.{Ask}
use Rattle.stream_fold.specs.Facts.{StreamFacts}
use Rattle.replica_ask.specs.Askers.{AskerState, new_asker, next_attempt, asking}
use Rattle.replica_ask.specs.Filters.{filters_of}
use Rattle.shard_machine.specs.Views.{View, Askers, Copy, copies_from, askers_of, asker_or_new, asker_of, ask_of, asks_of, ask_start, node_or}
use Rattle.shard_copies.specs.declared.chosen.Chosen.{Chosen}
use Rattle.shard_copies.specs.declared.chosen.Chosen.TheVariants as chosen_as
use Rattle.shard_copies.specs.Asked.{AskersState, AskingState, is_of, id_in, shown, ShowsAskers, ShowsSame, HavePlaces, Asks, copy_of, copy_at, chosen, asked_of}
use Rattle.shard_copies.specs.Places.{is_chosen}
use Rattle.shard_copies.proofs.Shows.{is-of-own, is-of-true, shown-id, asker-shown, with_list}

-- ---- look-ups that stay

pub same-refl : (s : AskersState) → ShowsSame s s
same-refl s = record { node = refl; boot = refl; each = λ t j. refl }

pub same-trans : (a b c : AskersState) → ShowsSame a b → ShowsSame b c → ShowsSame a c
same-trans a b c h k = record { node = k.node ∙ h.node; boot = k.boot ∙ h.boot; each = λ t j. k.each t j ∙ h.each t j }

-- askers that look the same show the same view
pub shows-same : (a b : AskersState) (v : View) (askers : Askers) → ShowsSame a b → ShowsAskers a v askers → ShowsAskers b v askers
shows-same a b v askers h k = record {
  node = h.node ∙ k.node;
  boot = h.boot ∙ k.boot;
  each = λ t j.
      h.each t j ∙ (k.each t j
      ∙ (ap (λ (n : List ℕ). asker_or_new (record { node = n; stream = t; index = j }) a.boot (get (askers_of askers t) j)) (sym h.node)
      ∙ ap (λ (m : ℕ). asker_or_new (id_in b t j) m (get (askers_of askers t) j)) (sym h.boot)));
}

-- ---- a place more

none-is : IsSome {T = AskerState} None → ⊥
none-is h = let z : false ≡ true = h in absurd (cc)

-- a look-up goes on where it found nothing
find-push-none : (id : AskerId) (all : List AskerState) (one : AskerState) → find (is_of id) all ≡ None → find (is_of id) (all ++ one ∷ []) ≡ cond (is_of id one) (Some one) None
find-push-none id [] one e = refl
find-push-none id (x ∷ xs) one e = by (is_of id x) e (find-push-none id xs one)
  where
    by : (b : Bool) → cond b (Some x) (find (is_of id) xs) ≡ None → (find (is_of id) xs ≡ None → find (is_of id) (xs ++ one ∷ []) ≡ cond (is_of id one) (Some one) None) → cond b (Some x) (find (is_of id) (xs ++ one ∷ [])) ≡ cond (is_of id one) (Some one) None
    by true e rest = absurd (cc)
    by false e rest = rest e

-- and stops where it found one
find-push-some : (id : AskerId) (all : List AskerState) (one a : AskerState) → find (is_of id) all ≡ Some a → find (is_of id) (all ++ one ∷ []) ≡ Some a
find-push-some id [] one a e = absurd (cc)
find-push-some id (x ∷ xs) one a e = by (is_of id x) e (find-push-some id xs one a)
  where
    by : (b : Bool) → cond b (Some x) (find (is_of id) xs) ≡ Some a → (find (is_of id) xs ≡ Some a → find (is_of id) (xs ++ one ∷ []) ≡ Some a) → cond b (Some x) (find (is_of id) (xs ++ one ∷ [])) ≡ Some a
    by true e rest = e
    by false e rest = rest e

-- An asker that has asked nothing can be there or not.
pub same-push : (s : AskersState) (stream : List ℕ) (index : ℕ) → ShowsSame s (with_list s (s.all ++ new_asker (id_in s stream index) s.boot ∷ []))
same-push s stream index = record { node = refl; boot = refl; each = λ t j. by t j (find (is_of (id_in s t j)) s.all) refl }
  where
    new : AskerState
    new = new_asker (id_in s stream index) s.boot

    tested : (t : List ℕ) (j : ℕ) (b : Bool) → is_of (id_in s t j) (new_asker (id_in s stream index) s.boot) ≡ b → asker_or_new (id_in s t j) s.boot (cond b (Some (new_asker (id_in s stream index) s.boot)) None) ≡ new_asker (id_in s t j) s.boot
    tested t j true e = ap (λ (id : AskerId). new_asker id s.boot) (is-of-true (id_in s t j) (new_asker (id_in s stream index) s.boot) e)
    tested t j false e = refl

    by : (t : List ℕ) (j : ℕ) (o : Option AskerState) → find (is_of (id_in s t j)) s.all ≡ o → shown (with_list s (s.all ++ new_asker (id_in s stream index) s.boot ∷ [])) t j ≡ shown s t j
    by t j None e =
        ap (asker_or_new (id_in s t j) s.boot) (find-push-none (id_in s t j) s.all (new_asker (id_in s stream index) s.boot) e)
        ∙ (tested t j (is_of (id_in s t j) (new_asker (id_in s stream index) s.boot)) refl
        ∙ sym (ap (asker_or_new (id_in s t j) s.boot) e))
    by t j (Some a) e =
        ap (asker_or_new (id_in s t j) s.boot) (find-push-some (id_in s t j) s.all (new_asker (id_in s stream index) s.boot) a e)
        ∙ sym (ap (asker_or_new (id_in s t j) s.boot) e)

kept-push : (id : AskerId) (all : List AskerState) (one : AskerState) → IsSome (find (is_of id) all) → IsSome (find (is_of id) (all ++ one ∷ []))
kept-push id all one h = by (find (is_of id) all) refl h
  where
    by : (o : Option AskerState) → find (is_of id) all ≡ o → IsSome o → IsSome (find (is_of id) (all ++ one ∷ []))
    by None e k = absurd (none-is k)
    by (Some a) e k = subst IsSome (sym (find-push-some id all one a e)) refl

pub places-push : (all : List AskerState) (one : AskerState) (ones : List AskerState) → HavePlaces all ones → HavePlaces (all ++ one ∷ []) ones
places-push all one [] h = h
places-push all one (x ∷ xs) h = (kept-push x.id all one h.0, places-push all one xs h.1)

-- the asker that was added is found
pub found-push : (s : AskersState) (stream : List ℕ) (index : ℕ) → find (is_of (id_in s stream index)) s.all ≡ None → IsSome (find (is_of (id_in s stream index)) (s.all ++ new_asker (id_in s stream index) s.boot ∷ []))
found-push s stream index e = subst IsSome (sym (find-push-none (id_in s stream index) s.all (new_asker (id_in s stream index) s.boot) e ∙ ap (λ b. cond b (Some (new_asker (id_in s stream index) s.boot)) None) (is-of-own (id_in s stream index) (new_asker (id_in s stream index) s.boot) refl))) refl

-- one asker more that has its place
pub places-more : (all : List AskerState) (ones : List AskerState) (one : AskerState) → HavePlaces all ones → IsSome (find (is_of one.id) all) → HavePlaces all (ones ++ one ∷ [])
places-more all [] one h k = (k, tt)
places-more all (x ∷ xs) one h k = (h.0, places-more all xs one h.1 k)

-- ---- what is asked

pub asks-none : (a : AskingState) (v : View) (now : ℕ) → Asks a a v now []
asks-none a v now = record { packets = sym (append-nil a.packets); askers = sym (append-nil a.askers) }

pub asks-join : (a b d : AskingState) (v : View) (now : ℕ) (cs ds : List Copy) → Asks a b v now cs → Asks b d v now ds → Asks a d v now (cs ++ ds)
asks-join a b d v now cs ds h k = record {
  packets = k.packets ∙ (ap (λ (p : List Packet). p ++ map (ask_of v) ds) h.packets ∙ (append_assoc a.packets (map (ask_of v) cs) (map (ask_of v) ds) ∙ ap (λ (p : List Packet). a.packets ++ p) (sym (map-append (ask_of v) cs ds))));
  askers = k.askers ∙ (ap (λ (p : List AskerState). p ++ map (asked_of v now) ds) h.askers ∙ (append_assoc a.askers (map (asked_of v now) cs) (map (asked_of v now) ds) ∙ ap (λ (p : List AskerState). a.askers ++ p) (sym (map-append (asked_of v now) cs ds))));
}

-- a copy asks: its packet, and its asker then
pub asks-one : (s : AskersState) (a d : AskingState) (v : View) (now : ℕ) (c : Copy) (start : Start) (one : AskerState) → ShowsAskers s v v.askers → one ≡ shown s c.stream c.index → start ≡ ask_start c
    → d.packets ≡ a.packets ++ Ask one.id (next_attempt one) (node_or s.node c.want.node) c.want.stream start (filters_of c.want) ∷ [] → d.askers ≡ a.askers ++ asking one now ∷ [] → Asks a d v now (c ∷ [])
asks-one s a d v now c start one h is at packets askers =
    let same : one ≡ asker_of v c = is ∙ sym (asker-shown s v h c) in
    let id : one.id ≡ record { node = v.node; stream = c.stream; index = c.index } = ap (λ (x : AskerState). x.id) is ∙ (shown-id s c.stream c.index ∙ ap (λ (n : List ℕ). record { node = n; stream = c.stream; index = c.index }) h.node) in
    record {
      packets = packets ∙ ap (λ (p : Packet). a.packets ++ p ∷ [])
          (ap (λ (x : AskerId). Ask x (next_attempt one) (node_or s.node c.want.node) c.want.stream start (filters_of c.want)) id
          ∙ (ap (λ (x : AskerState). Ask (record { node = v.node; stream = c.stream; index = c.index }) (next_attempt x) (node_or s.node c.want.node) c.want.stream start (filters_of c.want)) same
          ∙ (ap (λ (n : List ℕ). Ask (record { node = v.node; stream = c.stream; index = c.index }) (next_attempt (asker_of v c)) (node_or n c.want.node) c.want.stream start (filters_of c.want)) h.node
          ∙ ap (λ (x : Start). Ask (record { node = v.node; stream = c.stream; index = c.index }) (next_attempt (asker_of v c)) (node_or v.node c.want.node) c.want.stream x (filters_of c.want)) at)));
      askers = askers ∙ ap (λ (x : AskerState). a.askers ++ asking x now ∷ []) same;
    }

-- ---- copies in the order of their origins

copies-push : (name : List ℕ) (f : StreamFacts) (k : ℕ) (xs : List Origin) (x : Origin) → copies_from name f k (xs ++ x ∷ []) ≡ copies_from name f k xs ++ copy_of name (k + length xs) f x ∷ []
copies-push name f k [] x = ap (λ (n : ℕ). copy_of name n f x ∷ []) (let e : k ≡ k + 0 = omega arith in e)
copies-push name f k (y ∷ ys) x =
    ap (λ (r : List Copy). copy_of name k f y ∷ r) (copies-push name f (k + 1) ys x ∙ ap (λ (n : ℕ). copies_from name f (k + 1) ys ++ copy_of name n f x ∷ []) (let e : k + 1 + length ys ≡ k + length (y ∷ ys) = omega arith in e))

pub copies-more : (name : List ℕ) (f : StreamFacts) (origins : List Origin) (i : ℕ) (x : Origin) → i < length origins → x ≡ get_or origins i x
    → copies_from name f 0 (take (i + 1) origins) ≡ copies_from name f 0 (take i origins) ++ copy_of name i f x ∷ []
copies-more name f origins i x l at =
    let more : take (i + 1) origins ≡ take i origins ++ x ∷ [] = take_more origins i x l ∙ ap (λ (y : Origin). take i origins ++ y ∷ []) (sym at) in
    let long : 0 + length (take i origins) ≡ i = omega (arith, length-take i origins) in
    ap (copies_from name f 0) more ∙ (copies-push name f 0 (take i origins) x ∙ ap (λ (n : ℕ). copies_from name f 0 (take i origins) ++ copy_of name n f x ∷ []) long)

-- those that are meant are those that pass the test
filter-all : (copies : List Copy) → filter (λ c. true) copies ≡ copies
filter-all [] = refl
filter-all (c ∷ cs) = ap (λ (r : List Copy). c ∷ r) (filter-all cs)

pub chosen-filter : (which : Chosen) (v : View) (now : ℕ) (copies : List Copy) → filter (is_chosen which v now) copies ≡ chosen which v now copies
chosen-filter chosen_as.All v now copies = filter-all copies
chosen-filter chosen_as.Due v now copies = refl
chosen-filter (chosen_as.OfNode node) v now copies = refl

module _ (a b : AskingState) (v : View) (now : ℕ) (p : Copy → Bool) (name : List ℕ) (f : StreamFacts) (origins : List Origin) (i : ℕ) (x : Origin) (l : i < length origins) (at : x ≡ get_or origins i x) where
  -- a copy that is meant asks behind those before it
  pub asks-passes : (d : AskingState) → Asks a b v now (filter p (copies_from name f 0 (take i origins))) → p (copy_of name i f x) ≡ true → Asks b d v now (copy_of name i f x ∷ [])
      → Asks a d v now (filter p (copies_from name f 0 (take (i + 1) origins)))
  asks-passes d h passes one =
      subst (λ (cs : List Copy). Asks a d v now cs)
      (sym (ap (filter p) (copies-more name f origins i x l at) ∙ (filter-append p (copies_from name f 0 (take i origins)) (copy_of name i f x ∷ []) ∙ ap (λ b. filter p (copies_from name f 0 (take i origins)) ++ cond b (copy_of name i f x ∷ []) []) passes)))
      (asks-join a b d v now (filter p (copies_from name f 0 (take i origins))) (copy_of name i f x ∷ []) h one)

  -- one that isn't meant doesn't
  pub asks-fails : Asks a b v now (filter p (copies_from name f 0 (take i origins))) → p (copy_of name i f x) ≡ false → Asks a b v now (filter p (copies_from name f 0 (take (i + 1) origins)))
  asks-fails h fails =
      subst (λ (cs : List Copy). Asks a b v now cs)
      (sym (ap (filter p) (copies-more name f origins i x l at) ∙ (filter-append p (copies_from name f 0 (take i origins)) (copy_of name i f x ∷ []) ∙ (ap (λ b. filter p (copies_from name f 0 (take i origins)) ++ cond b (copy_of name i f x ∷ []) []) fails ∙ append-nil (filter p (copies_from name f 0 (take i origins)))))))
      h

-- the copy of an index is that of the origin of the index
copy-from : (name : List ℕ) (f : StreamFacts) (origins : List Origin) (k n : ℕ) → find (λ c. c.index == k + n) (copies_from name f k origins) ≡ option_map (copy_of name (k + n) f) (slice_get origins n)
copy-from name f [] k n = refl
copy-from name f (o ∷ os) k zero =
    ap (λ b. cond b (Some (copy_of name k f o)) (find (λ c. c.index == k + 0) (copies_from name f (k + 1) os))) (eq-eqb k (k + 0) (omega arith))
    ∙ ap (λ (m : ℕ). Some (copy_of name m f o)) (let e : k ≡ k + 0 = omega arith in e)
copy-from name f (o ∷ os) k (suc n) =
    let e : k + suc n ≡ k + 1 + n = omega arith in
    ap (λ b. cond b (Some (copy_of name k f o)) (find (λ c. c.index == k + suc n) (copies_from name f (k + 1) os))) (differ k n (eqb k (k + suc n)) refl)
    ∙ (ap (λ (m : ℕ). find (λ c. c.index == m) (copies_from name f (k + 1) os)) e
    ∙ (copy-from name f os (k + 1) n ∙ ap (λ (m : ℕ). option_map (copy_of name m f) (slice_get os n)) (sym e)))
  where
    differ : (k n : ℕ) (b : Bool) → eqb k (k + suc n) ≡ b → b ≡ false
    differ k n true e = absurd (let z : k ≡ k + suc n = eqb-true k (k + suc n) e in omega arith)
    differ k n false e = refl

pub copy-at : (name : List ℕ) (f : StreamFacts) (origins : List Origin) (n : ℕ) → copy_at n (copies_from name f 0 origins) ≡ option_map (copy_of name n f) (slice_get origins n)
copy-at name f origins n =
    let e : 0 + n ≡ n = omega arith in
    ap (λ (m : ℕ). find (λ c. c.index == m) (copies_from name f 0 origins)) (sym e) ∙ (copy-from name f origins 0 n ∙ ap (λ (m : ℕ). option_map (copy_of name m f) (slice_get origins n)) e)
