-- What copies decide, by what is looked up of them.
use Rattle.std.proofs.Common.{◌≡◌, ℕ, zero, suc, ◌-◌, ◌<◌, ◌≤◌, max, length, get_or, arith, List, [], ◌∷◌, Option, Some, None, refl, sym, ap, ◌∙◌, subst}
use Rattle.std.specs.Prelude.{find, slice_get, option_map}
use Rattle.std.specs.FinMap.{get}
use Rattle.nats_text.specs.declared.origin.Origin.{Origin}
use Rattle.js_wire.specs.declared.packet.AskerId.{AskerId}
use Rattle.js_wire.specs.declared.packet.Packet.{Packet}
use Rattle.stream_fold.specs.declared.config.Copies.{Copies}
use Rattle.stream_fold.specs.declared.config.Copies.TheVariants.{Nothing, Mirror, Sources}
use Rattle.stream_fold.specs.declared.config.Config.{Config}
use Rattle.stream_fold.specs.declared.decision.Decision.{Decision}
use Rattle.stream_fold.specs.declared.decision.Decision.TheVariants.{Ignore}
use Rattle.stream_fold.specs.declared.decision.Reason.TheVariants.{Foreign}
use Rattle.stream_fold.specs.declared.entry.BoundTo.{BoundTo}
use Rattle.stream_fold.specs.Copying.{binding_at, bound, start_by, mark}
use Rattle.stream_fold.specs.Facts.{StreamFacts, mark_by_facts}
use Rattle.stream_fold.specs.FactLaws.{TellOf}
use Rattle.stream_fold.specs.Held.{State, StandsFor}
use Rattle.stream_fold.specs.Histories.{History, last, clock}
use Rattle.replica_ask.specs.Askers.{AskerState, new_asker, with_phase}
use Rattle.replica_ask.specs.Orders.{order}
use Rattle.replica_ask.specs.declared.phase.Phase.{Phase}
use Rattle.replica_ask.specs.declared.phase.Phase.TheVariants.{Idle}
use Rattle.mirror_core.specs.Decisions.{mirror_decision}
use Rattle.mirror_core.specs.Entries.{front_held, mirror_start}
use Rattle.source_core.specs.Decisions.{Reached, source_decision}
use Rattle.shard_machine.specs.Views.{View, Askers, Copy, copies_from, copies_of, origins_of, reached, reached_by, asker_of, asker_or_new, with_asker}
use Rattle.shard_machine.specs.Answers.{decided_by}
use Rattle.shard_copies.specs.Asked.{AskersState, is_of, id_in, shown, ShowsAskers, copy_of, copy_at, decided_at, phase_behind}
use Rattle.shard_copies.specs.Places.{changed_in, moved_on}
use Rattle.shard_copies.proofs.Shows.{asker-shown, shows-changed, with_list}
use Rattle.shard_copies.proofs.CopyAsks.{copy-at}

-- ---- an idle asker

-- to a copy that has asked nothing all packets are foreign
idle-ignores : (copies : Copies) (v : View) (c : Copy) (now : ℕ) (packet : Packet) → (asker_of v c).phase ≡ Idle → decided_by copies v c now packet ≡ Ignore Foreign
idle-ignores Nothing v c now packet e = refl
idle-ignores (Mirror o) v c now packet e = ap (λ (p : Phase). mirror_decision (get c.facts.bindings 0) (reached c) (order p packet) packet) e
idle-ignores (Sources os) v c now packet e = ap (λ (p : Phase). source_decision c.want c.index (get c.facts.bindings c.index) (record { mark = reached c; last = c.facts.last; clock = c.facts.clock }) now (order p packet) packet) e

idle-shown : (s : AskersState) (v : View) → ShowsAskers s v v.askers → (c : Copy) → find (is_of (id_in s c.stream c.index)) s.all ≡ None → (asker_of v c).phase ≡ Idle
idle-shown s v h c none = ap (λ (a : AskerState). a.phase) (asker-shown s v h c) ∙ ap (λ (o : Option AskerState). (asker_or_new (id_in s c.stream c.index) s.boot o).phase) none

-- the copy of an index has it, and its stream
found-at : (name : List ℕ) (f : StreamFacts) (index : ℕ) (c : Copy) → copy_at index (copies_of name f) ≡ Some c → (c.stream ≡ name) × (c.index ≡ index)
found-at name f index c e = by (slice_get (origins_of f.config.copies) index) (sym (copy-at name f (origins_of f.config.copies) index) ∙ e)
  where
    by : (o : Option Origin) → option_map (copy_of name index f) o ≡ Some c → (c.stream ≡ name) × (c.index ≡ index)
    by None q = absurd (cc)
    by (Some x) q = let same : copy_of name index f x ≡ c = cc in (ap (λ (d : Copy). d.stream) (sym same), ap (λ (d : Copy). d.index) (sym same))

-- a packet for a copy whose asker isn't there is foreign
pub decides-none : (s : AskersState) (v : View) → ShowsAskers s v v.askers → (name : List ℕ) (f : StreamFacts) (index now : ℕ) (packet : Packet) → find (is_of (id_in s name index)) s.all ≡ None
    → decided_at v now packet (copy_at index (copies_of name f)) ≡ Ignore Foreign
decides-none s v h name f index now packet none = by (copy_at index (copies_of name f)) refl
  where
    by : (o : Option Copy) → copy_at index (copies_of name f) ≡ o → decided_at v now packet o ≡ Ignore Foreign
    by None e = refl
    by (Some c) e =
        let is = found-at name f index c e in
        let here : find (is_of (id_in s c.stream c.index)) s.all ≡ None =
        ap (λ (t : List ℕ). find (is_of (id_in s t c.index)) s.all) is.0 ∙ (ap (λ (j : ℕ). find (is_of (id_in s name j)) s.all) is.1 ∙ none) in
        idle-ignores c.facts.config.copies v c now packet (idle-shown s v h c here)

-- the asker that is found is that of the copy
pub asker-found : (s : AskersState) (v : View) → ShowsAskers s v v.askers → (name : List ℕ) (index : ℕ) (a : AskerState) → find (is_of (id_in s name index)) s.all ≡ Some a
    → (c : Copy) → c.stream ≡ name → c.index ≡ index → asker_of v c ≡ a
asker-found s v h name index a found c e f =
    asker-shown s v h c
    ∙ (ap (λ (t : List ℕ). shown s t c.index) e
    ∙ (ap (λ (j : ℕ). shown s name j) f
    ∙ ap (asker_or_new (id_in s name index) s.boot) found))

-- A copy that followed its decision has its asker in another phase.
pub follows-shows : (s : AskersState) (v : View) (c : Copy) (name : List ℕ) (index : ℕ) (d : Decision) (packet : Packet) (now : ℕ)
    → ShowsAskers s v v.askers → c.stream ≡ name → c.index ≡ index → d ≡ decided_at v now packet (Some c)
    → ShowsAskers (with_list s (changed_in (id_in s name index) (moved_on d packet now) s.all)) v (with_asker c.stream c.index (with_phase (asker_of v c) (phase_behind d packet now (asker_of v c).phase)) v.askers)
follows-shows s v c name index d packet now h e f is =
    let one : AskerState = with_phase (asker_of v c) (phase_behind d packet now (asker_of v c).phase) in
    let stays : find (is_of (id_in s c.stream c.index)) s.all ≡ None → moved_on d packet now (new_asker (id_in s c.stream c.index) s.boot) ≡ new_asker (id_in s c.stream c.index) s.boot =
    λ none. ap (λ (x : Decision). moved_on x packet now (new_asker (id_in s c.stream c.index) s.boot)) (is ∙ idle-ignores c.facts.config.copies v c now packet (idle-shown s v h c none)) in
    let own : ShowsAskers (with_list s (changed_in (id_in s c.stream c.index) (moved_on d packet now) s.all)) v (with_asker c.stream c.index one v.askers) =
    shows-changed s v v.askers c.stream c.index (moved_on d packet now) one (λ a q. q) stays (ap (moved_on d packet now) (sym (asker-shown s v h c))) h in
    subst (λ (t : List ℕ). ShowsAskers (with_list s (changed_in (id_in s t index) (moved_on d packet now) s.all)) v (with_asker c.stream c.index one v.askers)) e
    (subst (λ (j : ℕ). ShowsAskers (with_list s (changed_in (id_in s c.stream j) (moved_on d packet now) s.all)) v (with_asker c.stream c.index one v.askers)) f own)

-- ---- by the state of the stream

module _ (state : State) (h : History) (f : StreamFacts) (tell : TellOf h f) (stands : StandsFor state h) where
  same-copies : f.config.copies ≡ state.held.limits.copies
  same-copies = ap (λ (c : Config). c.copies) (tell.limits ∙ sym stands.limits)

  same-bound : (index : ℕ) → get f.bindings index ≡ binding_at index state.held.bindings
  same-bound index = tell.bound index ∙ sym (stands.bound index)

  -- a stream that copies nothing has no copy
  pub decides-nothing : (v : View) (now : ℕ) (packet : Packet) (name : List ℕ) (index : ℕ) → state.held.limits.copies ≡ Nothing → decided_at v now packet (copy_at index (copies_of name f)) ≡ Ignore Foreign
  decides-nothing v now packet name index e = ap (λ (x : Copies). decided_at v now packet (copy_at index (copies_from name f 0 (origins_of x)))) (same-copies ∙ e)

  -- an index past the origins has none either
  pub decides-past : (v : View) (now : ℕ) (packet : Packet) (name : List ℕ) (index : ℕ) → slice_get (origins_of state.held.limits.copies) index ≡ None → decided_at v now packet (copy_at index (copies_of name f)) ≡ Ignore Foreign
  decides-past v now packet name index e =
      ap (decided_at v now packet) (copy-at name f (origins_of f.config.copies) index
      ∙ (ap (λ (x : Copies). option_map (copy_of name index f) (slice_get (origins_of x) index)) same-copies
      ∙ ap (option_map (copy_of name index f)) e))

  -- a mirror decides by its front
  pub decides-mirror : (v : View) (now : ℕ) (packet : Packet) (name : List ℕ) (o : Origin) (a : AskerState) → state.held.limits.copies ≡ Mirror o → asker_of v (copy_of name 0 f o) ≡ a
      → decided_at v now packet (copy_at 0 (copies_of name f)) ≡ mirror_decision (binding_at 0 state.held.bindings) (front_held state.held) (order a.phase packet) packet
  decides-mirror v now packet name o a e is =
      let mirror : f.config.copies ≡ Mirror o = same-copies ∙ e in
      let there : copy_at 0 (copies_of name f) ≡ Some (copy_of name 0 f o) = ap (λ (x : Copies). copy_at 0 (copies_from name f 0 (origins_of x))) mirror in
      let reach : reached (copy_of name 0 f o) ≡ front_held state.held =
      ap (λ (x : Copies). reached_by x 0 o f) mirror
      ∙ (tell.front o.start
      ∙ (ap (λ (n : ℕ). max n (start_by (bound 0 h.entries) o.start - 1)) (sym stands.last)
      ∙ (ap (λ (b : Option BoundTo). max state.held.last (start_by b o.start - 1)) (sym (stands.bound 0))
      ∙ sym (ap (λ (x : Copies). max state.held.last (mirror_start (binding_at 0 state.held.bindings) x - 1)) e)))) in
      ap (decided_at v now packet) there
      ∙ (ap (λ (x : Copies). decided_by x v (copy_of name 0 f o) now packet) mirror
      ∙ (ap (λ (b : Option BoundTo). mirror_decision b (reached (copy_of name 0 f o)) (order (asker_of v (copy_of name 0 f o)).phase packet) packet) (same-bound 0)
      ∙ (ap (λ (n : ℕ). mirror_decision (binding_at 0 state.held.bindings) n (order (asker_of v (copy_of name 0 f o)).phase packet) packet) reach
      ∙ ap (λ (x : AskerState). mirror_decision (binding_at 0 state.held.bindings) (front_held state.held) (order x.phase packet) packet) is)))

  -- a source decides by its mark
  pub decides-source : (v : View) (now : ℕ) (packet : Packet) (name : List ℕ) (origins : List Origin) (index : ℕ) (want : Origin) (a : AskerState) → state.held.limits.copies ≡ Sources origins → slice_get origins index ≡ Some want
      → asker_of v (copy_of name index f want) ≡ a
      → decided_at v now packet (copy_at index (copies_of name f)) ≡ source_decision want index (binding_at index state.held.bindings) (record { mark = mark index h; last = state.held.last; clock = state.held.clock }) now (order a.phase packet) packet
  decides-source v now packet name origins index want a e at is =
      let sources : f.config.copies ≡ Sources origins = same-copies ∙ e in
      let there : copy_at index (copies_of name f) ≡ Some (copy_of name index f want) =
      copy-at name f (origins_of f.config.copies) index
      ∙ (ap (λ (x : Copies). option_map (copy_of name index f) (slice_get (origins_of x) index)) sources
      ∙ ap (option_map (copy_of name index f)) at) in
      let reach : reached (copy_of name index f want) ≡ mark index h = ap (λ (x : Copies). reached_by x index want f) sources ∙ tell.mark index in
      let own : Reached = record { mark = mark index h; last = state.held.last; clock = state.held.clock } in
      let place : record { mark = reached (copy_of name index f want); last = f.last; clock = f.clock } ≡ own =
      λ i. record { mark = reach i; last = (tell.last ∙ sym stands.last) i; clock = (tell.clock ∙ sym stands.clock) i } in
      ap (decided_at v now packet) there
      ∙ (ap (λ (x : Copies). decided_by x v (copy_of name index f want) now packet) sources
      ∙ (ap (λ (b : Option BoundTo). source_decision want index b (record { mark = reached (copy_of name index f want); last = f.last; clock = f.clock }) now (order (asker_of v (copy_of name index f want)).phase packet) packet) (same-bound index)
      ∙ (ap (λ (r : Reached). source_decision want index (binding_at index state.held.bindings) r now (order (asker_of v (copy_of name index f want)).phase packet) packet) place
      ∙ ap (λ (x : AskerState). source_decision want index (binding_at index state.held.bindings) own now (order x.phase packet) packet) is)))

-- ---- origins by index

pub found-within : (xs : List Origin) (n : ℕ) → n < length xs → (x : Origin) × (slice_get xs n ≡ Some x)
found-within [] n l = absurd (omega arith)
found-within (x ∷ xs) zero l = (x, refl)
found-within (x ∷ xs) (suc n) l = found-within xs n (omega arith)

pub found-past : (xs : List Origin) (n : ℕ) → length xs ≤ n → slice_get xs n ≡ None
found-past [] n l = refl
found-past (x ∷ xs) zero l = absurd (omega arith)
found-past (x ∷ xs) (suc n) l = found-past xs n (omega arith)

pub found-read : (xs : List Origin) (n : ℕ) (x : Origin) → n < length xs → x ≡ get_or xs n x → slice_get xs n ≡ Some x
found-read [] n x l at = absurd (omega arith)
found-read (y ∷ ys) zero x l at = ap Some (sym at)
found-read (y ∷ ys) (suc n) x l at = found-read ys n x (omega arith) at

-- the copy of an index that has an origin
pub copy-is : (name : List ℕ) (f : StreamFacts) (xs : List Origin) (n : ℕ) (x : Origin) (c : Copy) → xs ≡ origins_of f.config.copies → slice_get xs n ≡ Some x → copy_at n (copies_of name f) ≡ Some c → copy_of name n f x ≡ c
copy-is name f xs n x c e at is =
    let there : Some (copy_of name n f x) ≡ Some c =
    sym (ap (option_map (copy_of name n f)) (ap (λ (ys : List Origin). slice_get ys n) (sym e) ∙ at)) ∙ (sym (copy-at name f (origins_of f.config.copies) n) ∙ is) in
    cc

pub no-copy : (name : List ℕ) (f : StreamFacts) (xs : List Origin) (n : ℕ) (c : Copy) → xs ≡ origins_of f.config.copies → slice_get xs n ≡ None → copy_at n (copies_of name f) ≡ Some c → ⊥
no-copy name f xs n c e at is =
    let there : None ≡ Some c =
    sym (ap (option_map (copy_of name n f)) (ap (λ (ys : List Origin). slice_get ys n) (sym e) ∙ at)) ∙ (sym (copy-at name f (origins_of f.config.copies) n) ∙ is) in
    absurd (cc)
