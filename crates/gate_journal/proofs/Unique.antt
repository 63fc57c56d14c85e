-- Bytes are read in one way only.
use Rattle.std.proofs.Common.{◌≡◌, ◌≢◌, ◌==◌, ⊎_elim, true, false, ℕ, ◌+◌, ◌≤◌, ◌<◌, ◌^◌, List, [], ◌∷◌, ◌++◌, length, get_or, take, drop, All, refl, sym, ◌∙◌, ap, subst, arith, append_assoc, length-append}
use Rattle.std.specs.Prelude.{Bool, suc}
use Rattle.std.specs.Int.{w32, w64, to_le_bytes, from_le_bytes}
use Rattle.std.proofs.lemmas.Nat.{from_le_bytes-to_le_bytes_4, from_le_bytes-to_le_bytes_8}
use Rattle.std.proofs.lemmas.List.{take_at, drop_at}
use Rattle.std.proofs.lemmas.Bool.Decides.{nat_tests}
use Rattle.gate_journal.specs.declared.area.Ending.{Ending}
use Rattle.gate_journal.specs.declared.area.Ending.TheVariants.{Closed, Missing, Unreadable}
use Rattle.gate_journal.specs.Areas.{head, magic, block, blocks, end_of, IsBody, IsArea, IsUnreadable, IsHeadless, BreaksAt, IsBroken, EndsIn, AreaState, Holds}

-- the parts of a head and what follows it
pub record SameHead (a b g k : ℕ) (r s : List ℕ) : Type 0 where
  pub gates : a ≡ b
  pub stamps : g ≡ k
  pub rests : r ≡ s

same_head : (a b g k : ℕ) (r s : List ℕ) → g < 2 ^ 64 → k < 2 ^ 64 → head a g ++ r ≡ head b k ++ s → SameHead a b g k r s
same_head a b g k r s lg lk e = record {
  gates = ap (λ (l : List ℕ). get_or l 8 0) e;
  stamps = sym (from_le_bytes-to_le_bytes_8 g lg) ∙ ap (λ (l : List ℕ). from_le_bytes w64 (take 8 (drop 9 l))) e ∙ from_le_bytes-to_le_bytes_8 k lk;
  rests = ap (drop 17) e;
}

-- no record begins here
abbrev Stops : List ℕ → Type 0
Stops r = (body rest : List ℕ) → IsBody body → r ≡ block body ++ rest → ⊥

closed_stops : (gate : ℕ) (c : List ℕ) → gate ≢ 1 → Stops (gate ∷ c)
closed_stops gate c shut body rest legal e = shut (ap (λ (l : List ℕ). get_or l 0 0) e)

unreadable_stops : (r : List ℕ) → IsUnreadable r → Stops r
unreadable_stops [] u body rest legal e = absurd (omega (arith, ap length e))
unreadable_stops (gate ∷ c) u body rest legal e =
    let is : c ≡ to_le_bytes w32 (length body) ++ body ++ rest = ap (drop 1) e in
    let size : from_le_bytes w32 (take 4 c) ≡ length body = ap (λ (l : List ℕ). from_le_bytes w32 (take 4 l)) is ∙ from_le_bytes-to_le_bytes_4 (length body) (omega (arith, legal.1)) in
    let long : length c ≡ 4 + length body + length rest = omega (arith, ap length is, length-append (to_le_bytes w32 (length body) ++ body) rest, length-append (to_le_bytes w32 (length body)) body) in
    ⊎_elim (λ few. absurd (omega (arith, few, long)))
    (⊎_elim (λ none. absurd (omega (arith, none, size, legal.0)))
    (⊎_elim (λ many. absurd (omega (arith, many, size, legal.1))) (λ past. absurd (omega (arith, past, size, long)))))
    u.1

pub record SameWalk (bs cs : List (List ℕ)) (r s : List ℕ) : Type 0 where
  pub bodies : bs ≡ cs
  pub rests : r ≡ s

same_walk : (bs cs : List (List ℕ)) (r s : List ℕ) → All IsBody bs → All IsBody cs → Stops r → Stops s → blocks bs ++ r ≡ blocks cs ++ s → SameWalk bs cs r s
same_walk [] [] r s lb lc stop stop' e = record { bodies = refl; rests = e }
same_walk [] (c ∷ cs) r s lb lc stop stop' e = absurd (stop c (blocks cs ++ s) (lc 0 [] (omega arith)) (e ∙ append_assoc (block c) (blocks cs) s))
same_walk (b ∷ bs) [] r s lb lc stop stop' e = absurd (stop' b (blocks bs ++ r) (lb 0 [] (omega arith)) (sym e ∙ append_assoc (block b) (blocks bs) r))
same_walk (b ∷ bs) (c ∷ cs) r s lb lc stop stop' e =
    let both : block b ++ (blocks bs ++ r) ≡ block c ++ (blocks cs ++ s) = sym (append_assoc (block b) (blocks bs) r) ∙ e ∙ append_assoc (block c) (blocks cs) s in
    let legal : IsBody b = lb 0 [] (omega arith) in
    let legal' : IsBody c = lc 0 [] (omega arith) in
    let size : length b ≡ length c =
    sym (from_le_bytes-to_le_bytes_4 (length b) (omega (arith, legal.1))) ∙ ap (λ (l : List ℕ). from_le_bytes w32 (take 4 (drop 1 l))) both ∙ from_le_bytes-to_le_bytes_4 (length c) (omega (arith, legal'.1)) in
    let tails : b ++ (blocks bs ++ r) ≡ c ++ (blocks cs ++ s) = ap (drop 5) both in
    let same : b ≡ c = sym (take_at b (blocks bs ++ r) (length b) refl) ∙ ap (take (length b)) tails ∙ take_at c (blocks cs ++ s) (length b) (sym size) in
    let more : blocks bs ++ r ≡ blocks cs ++ s = sym (drop_at b (blocks bs ++ r) (length b) refl) ∙ ap (drop (length b)) tails ∙ drop_at c (blocks cs ++ s) (length b) (sym size) in
    let rest = same_walk bs cs r s (λ k d lt. lb (suc k) d (omega (arith, lt))) (λ k d lt. lc (suc k) d (omega (arith, lt))) stop stop' more in
    record { bodies = ap (λ (x : List ℕ). x ∷ bs) same ∙ ap (λ (l : List (List ℕ)). c ∷ l) rest.bodies; rests = rest.rests }

area_is : (k : Bool) (g : ℕ) (bs : List (List ℕ)) (c : List ℕ) (a : IsArea k g bs c) → c ≡ head a.area_gate g ++ (blocks bs ++ a.gate ∷ a.rest)
area_is k g bs c a = a.is ∙ append_assoc (head a.area_gate g) (blocks bs) (a.gate ∷ a.rest)

bodies_same : (k k' : Bool) (g g' : ℕ) (bs cs : List (List ℕ)) (c : List ℕ) (a : IsArea k g bs c) (b : IsArea k' g' cs c) → k' ≡ k → blocks bs ++ a.gate ∷ a.rest ≡ blocks cs ++ b.gate ∷ b.rest → bs ≡ cs
bodies_same true k' g g' bs cs c a b counts e = (same_walk bs cs (a.gate ∷ a.rest) (b.gate ∷ b.rest) a.legal b.legal (closed_stops a.gate a.rest (a.closed refl)) (closed_stops b.gate b.rest (b.closed counts)) e).bodies
bodies_same false k' g g' bs cs c a b counts e = a.unread refl ∙ sym (b.unread counts)

pub one_area : (c : List ℕ) (k k' : Bool) (g g' : ℕ) (bs bs' : List (List ℕ)) → IsArea k g bs c → IsArea k' g' bs' c → (k ≡ k') × (g ≡ g') × (bs ≡ bs')
one_area c k k' g g' bs bs' a b =
    let same = same_head a.area_gate b.area_gate g g' (blocks bs ++ a.gate ∷ a.rest) (blocks bs' ++ b.gate ∷ b.rest) a.stamp b.stamp (sym (area_is k g bs c a) ∙ area_is k' g' bs' c b) in
    let counts : k ≡ k' = sym a.counted ∙ ap (λ (x : ℕ). x == 1) same.gates ∙ b.counted in
    (counts, same.stamps, bodies_same k k' g g' bs bs' c a b (sym counts) same.rests)

headed : (a g : ℕ) (r c : List ℕ) → c ≡ head a g ++ r → 18 ≤ length c → IsHeadless c → ⊥
headed a g r c is long none = ⊎_elim (λ few. absurd (omega (arith, few, long))) (λ (other : take 8 c ≢ magic). other (ap (take 8) is)) none

breaks_is : (p : ℕ) (c : List ℕ) (b : BreaksAt p c) → c ≡ head 1 b.generation ++ (blocks b.bodies ++ b.rest)
breaks_is p c b = b.is ∙ append_assoc (head 1 b.generation) (blocks b.bodies) b.rest

breaks_headed : (p : ℕ) (c : List ℕ) → BreaksAt p c → IsHeadless c → ⊥
breaks_headed p c b = headed 1 b.generation (blocks b.bodies ++ b.rest) c (breaks_is p c b) b.long

both_break : (p q : ℕ) (c : List ℕ) → BreaksAt p c → BreaksAt q c → p ≡ q
both_break p q c b d =
    let same = same_head 1 1 b.generation d.generation (blocks b.bodies ++ b.rest) (blocks d.bodies ++ d.rest) b.stamp d.stamp (sym (breaks_is p c b) ∙ breaks_is q c d) in
    let walk = same_walk b.bodies d.bodies b.rest d.rest b.legal d.legal (unreadable_stops b.rest b.unreadable) (unreadable_stops d.rest d.unreadable) same.rests in
    b.place_is ∙ ap end_of walk.bodies ∙ sym d.place_is

pub one_place : (c : List ℕ) (p q : ℕ) → IsBroken p c → IsBroken q c → p ≡ q
one_place c p q =
    ⊎_elim
    (λ none. ⊎_elim (λ none'. none.0 ∙ sym none'.0) (λ d. absurd (breaks_headed q c d none.1)))
    (λ b. ⊎_elim (λ none. absurd (breaks_headed p c b none.1)) (both_break p q c b))

area_long : (k : Bool) (g : ℕ) (bs : List (List ℕ)) (c : List ℕ) → IsArea k g bs c → 18 ≤ length c
area_long k g bs c a = omega (arith, ap length (area_is k g bs c a), length-append (head a.area_gate g) (blocks bs ++ a.gate ∷ a.rest), length-append (blocks bs) (a.gate ∷ a.rest))

readable : (gate : ℕ) (c r : List ℕ) → gate ≢ 1 → gate ∷ c ≡ r → IsUnreadable r → ⊥
readable gate c r shut is u = shut (subst IsUnreadable (sym is) u).0

whole_counts : (g p : ℕ) (bs : List (List ℕ)) (c : List ℕ) → IsArea true g bs c → BreaksAt p c → ⊥
whole_counts g p bs c a b =
    let same = same_head a.area_gate 1 g b.generation (blocks bs ++ a.gate ∷ a.rest) (blocks b.bodies ++ b.rest) a.stamp b.stamp (sym (area_is true g bs c a) ∙ breaks_is p c b) in
    let walk = same_walk bs b.bodies (a.gate ∷ a.rest) b.rest a.legal b.legal (closed_stops a.gate a.rest (a.closed refl)) (unreadable_stops b.rest b.unreadable) same.rests in
    readable a.gate a.rest b.rest (a.closed refl) walk.rests b.unreadable

whole_breaks : (k : Bool) (g p : ℕ) (bs : List (List ℕ)) (c : List ℕ) → IsArea k g bs c → BreaksAt p c → ⊥
whole_breaks true g p bs c a b = whole_counts g p bs c a b
whole_breaks false g p bs c a b =
    let same = same_head a.area_gate 1 g b.generation (blocks bs ++ a.gate ∷ a.rest) (blocks b.bodies ++ b.rest) a.stamp b.stamp (sym (area_is false g bs c a) ∙ breaks_is p c b) in
    absurd (grind (arith, nat_tests, a.counted, same.gates))

pub whole : (c : List ℕ) (k : Bool) (g p : ℕ) (bs : List (List ℕ)) → IsArea k g bs c → IsBroken p c → ⊥
whole c k g p bs a =
    ⊎_elim
    (λ none. headed a.area_gate g (blocks bs ++ a.gate ∷ a.rest) c (area_is k g bs c a) (area_long k g bs c a) none.1)
    (whole_breaks k g p bs c a)

ends_stop : (e : Ending) (r : List ℕ) → EndsIn e r → Stops r
ends_stop Closed r h = subst Stops (sym h.2) (closed_stops h.0 h.1 h.3)
ends_stop Missing r h = subst Stops (sym h) (unreadable_stops [] tt)
ends_stop Unreadable r h = subst Stops (sym h.1) (unreadable_stops (1 ∷ h.0) (refl, h.2))

gate_is : (a b : ℕ) (c d r : List ℕ) → r ≡ a ∷ c → r ≡ b ∷ d → a ≡ b
gate_is a b c d r e f = ap (λ (l : List ℕ). get_or l 0 0) (sym e ∙ f)

one_ending : (e f : Ending) (r : List ℕ) → EndsIn e r → EndsIn f r → e ≡ f
one_ending Closed Closed r h k = refl
one_ending Closed Missing r h k = absurd (omega (arith, ap length (sym h.2 ∙ k)))
one_ending Closed Unreadable r h k = absurd (h.3 (gate_is h.0 1 h.1 k.0 r h.2 k.1))
one_ending Missing Closed r h k = absurd (omega (arith, ap length (sym k.2 ∙ h)))
one_ending Missing Missing r h k = refl
one_ending Missing Unreadable r h k = absurd (omega (arith, ap length (sym k.1 ∙ h)))
one_ending Unreadable Closed r h k = absurd (k.3 (gate_is k.0 1 k.1 h.0 r k.2 h.1))
one_ending Unreadable Missing r h k = absurd (omega (arith, ap length (sym h.1 ∙ k)))
one_ending Unreadable Unreadable r h k = refl

holds_is : (x : AreaState) (c : List ℕ) (h : Holds x c) → c ≡ head h.area_gate x.generation ++ (blocks x.bodies ++ h.rest)
holds_is x c h = h.is ∙ append_assoc (head h.area_gate x.generation) (blocks x.bodies) h.rest

abbrev state_of : Bool → ℕ → List (List ℕ) → Ending → AreaState
state_of counts generation bodies ending = record { counts = counts; generation = generation; bodies = bodies; ending = ending }

same_state : (x y : AreaState) → x.counts ≡ y.counts → x.generation ≡ y.generation → x.bodies ≡ y.bodies → x.ending ≡ y.ending → x ≡ y
same_state x y a b c d = ap (λ (k : Bool). state_of k x.generation x.bodies x.ending) a ∙ ap (λ (n : ℕ). state_of y.counts n x.bodies x.ending) b ∙ ap (λ (bs : List (List ℕ)). state_of y.counts y.generation bs x.ending) c ∙ ap (state_of y.counts y.generation y.bodies) d

held_parts : (k : Bool) (x y : AreaState) (c : List ℕ) (h : Holds x c) (j : Holds y c) → x.counts ≡ k → y.counts ≡ k → blocks x.bodies ++ h.rest ≡ blocks y.bodies ++ j.rest → (x.bodies ≡ y.bodies) × (x.ending ≡ y.ending)
held_parts true x y c h j a b e =
    let walk = same_walk x.bodies y.bodies h.rest j.rest h.legal j.legal (ends_stop x.ending h.rest (h.ends a)) (ends_stop y.ending j.rest (j.ends b)) e in
    (walk.bodies, one_ending x.ending y.ending h.rest (h.ends a) (subst (EndsIn y.ending) (sym walk.rests) (j.ends b)))
held_parts false x y c h j a b e = ((h.unread a).0 ∙ sym (j.unread b).0, (h.unread a).1 ∙ sym (j.unread b).1)

pub one_held : (c : List ℕ) (x y : AreaState) → Holds x c → Holds y c → x ≡ y
one_held c x y h j =
    let same = same_head h.area_gate j.area_gate x.generation y.generation (blocks x.bodies ++ h.rest) (blocks y.bodies ++ j.rest) h.stamp j.stamp (sym (holds_is x c h) ∙ holds_is y c j) in
    let counts : x.counts ≡ y.counts = sym h.counted ∙ ap (λ (n : ℕ). n == 1) same.gates ∙ j.counted in
    let parts = held_parts y.counts x y c h j counts refl same.rests in
    same_state x y counts same.stamps parts.0 parts.1

pub held_headed : (c : List ℕ) (x : AreaState) → Holds x c → IsHeadless c → ⊥
held_headed c x h = headed h.area_gate x.generation (blocks x.bodies ++ h.rest) c (holds_is x c h) h.long
