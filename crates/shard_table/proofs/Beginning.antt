-- A table that was just opened, and what is looked up in one.
use Rattle.std.proofs.Common.{◌≡◌, ℕ, zero, suc, ◌+◌, ◌-◌, ◌<◌, ◌≤◌, ◌^◌, Bool, true, false, cond, eqb, ◌==◌, List, [], ◌∷◌, length, Option, Some, None, refl, sym, ap, ◌∙◌, subst, arith}
use Rattle.std.specs.Prelude.{find, nat_lt, slice_get, option_map}
use Rattle.std.specs.FinMap.{empty, get}
use Rattle.std.proofs.lemmas.Bool.{eq-eqb, eqb-true, ltb-true, lt-ltb}
use Rattle.nats_text.specs.declared.origin.Origin.{Origin}
use Rattle.stream_fold.specs.declared.config.Config.{Config}
use Rattle.stream_fold.specs.declared.config.Copies.{Copies}
use Rattle.stream_fold.specs.declared.entry.BoundTo.{BoundTo}
use Rattle.stream_fold.specs.Copying.{binding_at}
use Rattle.stream_fold.specs.Facts.{StreamFacts, facts}
use Rattle.stream_fold.specs.FactLaws.{FactsTell, TellOf}
use Rattle.stream_fold.specs.Held.{State, StandsFor}
use Rattle.stream_fold.specs.Histories.{History}
use Rattle.stream_fold.specs.Publishing.{next_match}
use Rattle.replica_ask.specs.Askers.{AskerState}
use Rattle.replica_ask.specs.declared.phase.Phase.{Phase}
use Rattle.log_replay.specs.declared.replay.Standing.{Standing}
use Rattle.shard_machine.specs.Images.{LogImage, NameFacts, live_in}
use Rattle.shard_machine.specs.Views.{View, Copy, asker_of, asker_or_new, askers_of, copies_from, copies_of, copies_under, origins_of}
use Rattle.shard_copies.specs.Asked.{AskersState, ShowsAskers, copy_at, copy_of, id_in, shown}
use Rattle.shard_copies.specs.Standing.{ConsumersState, no_consumers}
use Rattle.shard_streams.specs.HeldImages.{HoldsImage, IsStreamOf}
use Rattle.shard_table.specs.declared.table.Table.{Table}
use Rattle.shard_table.specs.Effects.{opened}
use Rattle.shard_table.specs.Holding.{Holds, copy_seen, copy_shown, match_seen}
use Rattle.shard_table.proofs.Asking.{copies-live, copies-gone}

-- ---- openings

-- no consumer stands and no asker has asked
pub begins : (t : Table) (node : List ℕ) (i : LogImage) (boot : ℕ) → HoldsImage t.streams.replay i → boot ≡ i.boot → t.consumers ≡ no_consumers boot → ShowsAskers t.askers (opened node i) empty → Holds t (opened node i)
begins t node i boot image is consumers askers = record {
  streams = image;
  boot = ap (λ (s : ConsumersState). s.boot) consumers ∙ is;
  given = ap (λ (s : ConsumersState). s.given) consumers;
  consumers = ap (λ (s : ConsumersState). s.all) consumers;
  askers = askers;
}

-- ---- numbers

-- a number that is one more is below one that is one more
pub lt-more : (n k : ℕ) → nat_lt n k ≡ nat_lt (n + 1) (k + 1)
lt-more n k = by (nat_lt n k) (nat_lt (n + 1) (k + 1)) refl refl
  where
    by : (a b : Bool) → nat_lt n k ≡ a → nat_lt (n + 1) (k + 1) ≡ b → a ≡ b
    by true true p q = refl
    by false false p q = refl
    by true false p q = let l : n < k = ltb-true n k p in sym (lt-ltb (n + 1) (k + 1) (omega arith)) ∙ q
    by false true p q = let l : n + 1 < k + 1 = ltb-true (n + 1) (k + 1) q in sym p ∙ lt-ltb n k (omega arith)

-- ---- copies

-- the copy of an index is that of the origin of the index
copy-from : (name : List ℕ) (f : StreamFacts) (origins : List Origin) (k n : ℕ) → find (λ c. c.index == k + n) (copies_from name f k origins) ≡ option_map (copy_of name (k + n) f) (slice_get origins n)
copy-from name f [] k n = refl
copy-from name f (o ∷ os) k zero =
    ap (λ b. cond b (Some (copy_of name k f o)) (find (λ c. c.index == k + 0) (copies_from name f (k + 1) os))) (eq-eqb k (k + 0) (omega arith))
    ∙ ap (λ (m : ℕ). Some (copy_of name m f o)) (let e : k ≡ k + 0 = omega arith in e)
copy-from name f (o ∷ os) k (suc n) =
    let e : k + suc n ≡ k + 1 + n = omega arith in
    ap (λ b. cond b (Some (copy_of name k f o)) (find (λ c. c.index == k + suc n) (copies_from name f (k + 1) os))) (differ k n (eqb k (k + suc n)) refl)
    ∙ (ap (λ (m : ℕ). find (λ c. c.index == m) (copies_from name f (k + 1) os)) e
    ∙ (copy-from name f os (k + 1) n ∙ ap (λ (m : ℕ). option_map (copy_of name m f) (slice_get os n)) (sym e)))
  where
    differ : (k n : ℕ) (b : Bool) → eqb k (k + suc n) ≡ b → b ≡ false
    differ k n true e = absurd (let z : k ≡ k + suc n = eqb-true k (k + suc n) e in omega arith)
    differ k n false e = refl

copy-at : (name : List ℕ) (f : StreamFacts) (origins : List Origin) (n : ℕ) → copy_at n (copies_from name f 0 origins) ≡ option_map (copy_of name n f) (slice_get origins n)
copy-at name f origins n =
    let e : 0 + n ≡ n = omega arith in
    ap (λ (m : ℕ). find (λ c. c.index == m) (copies_from name f 0 origins)) (sym e) ∙ (copy-from name f origins 0 n ∙ ap (λ (m : ℕ). option_map (copy_of name m f) (slice_get origins n)) e)

get-below : (xs : List Origin) (n : ℕ) → n < length xs → (x : Origin) × (slice_get xs n ≡ Some x)
get-below [] n l = absurd (omega arith)
get-below (x ∷ xs) zero l = (x, refl)
get-below (x ∷ xs) (suc n) l = get-below xs n (omega arith)

get-past : (xs : List Origin) (n : ℕ) → length xs ≤ n → slice_get xs n ≡ None
get-past [] n l = refl
get-past (x ∷ xs) zero l = absurd (omega arith)
get-past (x ∷ xs) (suc n) l = get-past xs n (omega arith)

-- the asker of a copy is the one that is looked up
asker-shown : (s : AskersState) (v : View) → ShowsAskers s v v.askers → (c : Copy) → shown s c.stream c.index ≡ asker_of v c
asker-shown s v h c =
    h.each c.stream c.index
    ∙ (ap (λ (n : List ℕ). asker_or_new (record { node = n; stream = c.stream; index = c.index }) s.boot (get (askers_of v.askers c.stream) c.index)) h.node
    ∙ ap (λ (m : ℕ). asker_or_new (record { node = v.node; stream = c.stream; index = c.index }) m (get (askers_of v.askers c.stream) c.index)) h.boot)

module _ (v : View) (name : List ℕ) (known : NameFacts) (live : live_in v.image name ≡ Some known) where
  copies-are : copies_under v.image name ≡ copies_of name known.stream
  copies-are = copies-live v name known live

  -- a copy is seen
  pub seen-here : (tell : FactsTell) (standing : Standing) (s : AskersState) (index : ℕ) (phase : Phase) (bound : Option BoundTo) → IsStreamOf name standing known → ShowsAskers s v v.askers → index < length (origins_of standing.state.held.limits.copies)
      → phase ≡ (shown s name index).phase → bound ≡ binding_at index standing.state.held.bindings → Some (phase, bound) ≡ copy_seen v name index
  seen-here tell standing s index phase bound is shows l phase_is bound_is =
      let told : TellOf is.history (facts is.history) = tell is.history in
      let same : standing.state.held.limits.copies ≡ known.stream.config.copies = ap (λ (c : Config). c.copies) (is.state.limits ∙ (sym told.limits ∙ ap (λ (f : StreamFacts). f.config) (sym is.facts_are))) in
      let found = get-below (origins_of known.stream.config.copies) index (subst (λ (x : Copies). index < length (origins_of x)) same l) in
      let c : Copy = copy_of name index known.stream found.0 in
      let at : copy_at index (copies_under v.image name) ≡ Some c = ap (copy_at index) copies-are ∙ (copy-at name known.stream (origins_of known.stream.config.copies) index ∙ ap (option_map (copy_of name index known.stream)) found.1) in
      let asker : phase ≡ (asker_of v c).phase = phase_is ∙ ap (λ (a : AskerState). a.phase) (asker-shown s v shows c) in
      let binding : bound ≡ get known.stream.bindings index = bound_is ∙ (is.state.bound index ∙ (sym (told.bound index) ∙ ap (λ (f : StreamFacts). get f.bindings index) (sym is.facts_are))) in
      ap (λ (p : Phase). Some (p, bound)) asker ∙ (ap (λ (b : Option BoundTo). Some ((asker_of v c).phase, b)) binding ∙ sym (ap (option_map (copy_shown v)) at))

  -- none of this index is
  pub seen-past : (tell : FactsTell) (standing : Standing) (index : ℕ) → IsStreamOf name standing known → length (origins_of standing.state.held.limits.copies) ≤ index → None ≡ copy_seen v name index
  seen-past tell standing index is l =
      let told : TellOf is.history (facts is.history) = tell is.history in
      let same : standing.state.held.limits.copies ≡ known.stream.config.copies = ap (λ (c : Config). c.copies) (is.state.limits ∙ (sym told.limits ∙ ap (λ (f : StreamFacts). f.config) (sym is.facts_are))) in
      let past = get-past (origins_of known.stream.config.copies) index (subst (λ (x : Copies). length (origins_of x) ≤ index) same l) in
      let at : copy_at index (copies_under v.image name) ≡ None = ap (copy_at index) copies-are ∙ (copy-at name known.stream (origins_of known.stream.config.copies) index ∙ ap (option_map (copy_of name index known.stream)) past) in
      sym (ap (option_map (copy_shown v)) at)

  -- a match is seen
  pub match-here : (tell : FactsTell) (standing : Standing) (from : ℕ) (filters : List (List ℕ)) → IsStreamOf name standing known → next_match from filters standing.state.held.rows ≡ match_seen from filters (live_in v.image name)
  match-here tell standing from filters is =
      let told : TellOf is.history (facts is.history) = tell is.history in
      ap (next_match from filters) (is.state.rows ∙ (sym told.rows ∙ ap (λ (f : StreamFacts). f.rows) (sym is.facts_are))) ∙ sym (ap (match_seen from filters) live)

-- of a stream that doesn't stand no copy is seen
pub seen-gone : (v : View) (name : List ℕ) (index : ℕ) → live_in v.image name ≡ None → None ≡ copy_seen v name index
seen-gone v name index gone = sym (ap (λ (cs : List Copy). option_map (copy_shown v) (copy_at index cs)) (copies-gone v name gone))
