-- Once the message was copied the nodes have settled.
use Rattle.std.proofs.Common.{◌≡◌, ℕ, zero, suc, ◌≤◌, ◌-◌, Bool, true, false, cond, ◌&&◌, eqb, ltb, List, [], ◌∷◌, Option, None, Some, refl, sym, ap, ◌∙◌, subst, arith}
use Rattle.std.specs.Prelude.{Contains, max, slice_get}
use Rattle.std.specs.FinMap.{empty, get, insert, get-empty}
use Rattle.std.specs.Ordering.{nat_cmp}
use Rattle.std.specs.Str.{bytes_eq}
use Rattle.std.specs.Cmp.Lexicographic.{slice_cmp, bytes_decides}
use Rattle.std.proofs.lemmas.Bool.{and_parts}
use Rattle.nats_text.specs.declared.message.Start.TheVariants.{Seq}
use Rattle.nats_text.specs.declared.origin.Origin.{Origin}
use Rattle.stream_fold.proofs.FactLemmas.{at_text}
use Rattle.stream_fold.specs.declared.entry.BoundTo.{BoundTo}
use Rattle.stream_fold.specs.declared.entry.Numbered.{Numbered}
use Rattle.stream_fold.specs.Copying.{start_by}
use Rattle.stream_fold.specs.Facts.{StreamFacts}
use Rattle.replica_ask.specs.Askers.{AskerState}
use Rattle.shard_machine.specs.Images.{LogImage, NameFacts, Names, if_stands, live_in, no_image}
use Rattle.shard_machine.specs.Steps.{Held, view_in}
use Rattle.shard_machine.specs.Views.{Copy, all_copies, asker_of, origins_of, reached}
use Rattle.run_soundness.proofs.ShardsCopies.{copy-all}
use Rattle.run_soundness.specs.Shards.{ShardState}
use Rattle.world_steps.specs.CaughtUp.{AllCaughtUp, HasAll, HasCaughtUp, origin_shard}
use Rattle.run_examples.proofs.Worlds.{here, elsewhere}
use Rattle.run_examples.proofs.Origin as origin
use Rattle.run_examples.proofs.Origin.{hub, leaf, orders, copies, new_image, none-live}
use Rattle.run_examples.proofs.Mirror as mirror
use Rattle.run_examples.proofs.Copying.{never, loaded, with_both, k, j}
use Rattle.run_examples.proofs.Stepping.{h1, h2, h3, h4, h5, h6, l1, l2, l3, l4, l5, l6, w7, w8, w9, w10, w11, w12}

-- ---- names

-- no name but this one is known
abbrev Alone : Names → List ℕ → Type 0
Alone names name = (t : List ℕ) → bytes_eq name t ≡ false → get names t ≡ None

alone-empty : (name : List ℕ) → Alone empty name
alone-empty name t e = get-empty (slice_cmp nat_cmp) t

alone-insert : (names : Names) (name : List ℕ) (known : NameFacts) → Alone names name → Alone (insert names name known) name
alone-insert names name known h t e = at_text names name known t ∙ (ap (λ (b : Bool). cond b (Some known) (get names t)) e ∙ h t e)

-- what stands is what was put in last
stands-alone : (boot : ℕ) (names : Names) (name : List ℕ) (known : NameFacts) (t : List ℕ) (x : NameFacts) → known.stands ≡ true → Alone names name → live_in (record { boot = boot; names = insert names name known }) t ≡ Some x → (t ≡ name) × (x ≡ known)
stands-alone boot names name known t x stands h e = by (bytes_eq name t) refl
  where
    at : if_stands (cond (bytes_eq name t) (Some known) (get names t)) ≡ Some x
    at = ap if_stands (sym (at_text names name known t)) ∙ e

    by : (b : Bool) → bytes_eq name t ≡ b → (t ≡ name) × (x ≡ known)
    by true q =
        let one : if_stands (Some known) ≡ Some x = subst (λ b. if_stands (cond b (Some known) (get names t)) ≡ Some x) q at in
        let is : Some known ≡ Some x = sym (ap (λ (b : Bool). cond b (Some known) None) stands) ∙ one in
        (sym ((bytes_decides name t).0 q), (let z : x ≡ known = cc in z))
    by false q =
        let none : if_stands None ≡ Some x = ap if_stands (sym (h t q)) ∙ subst (λ b. if_stands (cond b (Some known) (get names t)) ≡ Some x) q at in
        absurd (let z : None ≡ Some x = none in cc)

-- ---- the shards

-- the shard behind all calls, by whether it is the one of the stream or that of the mirror
abbrev shard_by : Bool → Bool → ShardState → ShardState
shard_by a b base = cond b l6 (cond b l5 (cond b l4 (cond b l3 (cond a h6 (cond a h5 (cond b l2 (cond b l1 (cond a h4 (cond a h3 (cond a h2 (cond a h1 base)))))))))))

-- what the nets of the last step have where no stream was made
unused-by : (node : List ℕ) (n : ℕ) (c : Copy) → Contains (all_copies (with_both.shard node n).held.image) c → ⊥
unused-by node n c q = by (bytes_eq node leaf && ltb n 8) (bytes_eq node hub && ltb n 8) q
  where
    none : (i : LogImage) → ((name : List ℕ) → live_in i name ≡ None) → Contains (all_copies i) c → ⊥
    none i h q = let is = copy-all i c q in absurd (let z : None ≡ Some is.known = sym (h c.stream) ∙ is.here in cc)

    by : (a b : Bool) → Contains (all_copies (cond a (loaded leaf) (cond b (loaded hub) (never node))).held.image) c → ⊥
    by true b q = none new_image none-live q
    by false true q = none new_image none-live q
    by false false q = none no_image (λ name. ap if_stands (get-empty (slice_cmp nat_cmp) name)) q

-- ---- the one copy

abbrev its_copy : Copy
its_copy = record { stream = copies; index = 0; facts = mirror.known_copied.stream; want = mirror.want }

same-copy : (c : Copy) → c.stream ≡ copies → c.facts ≡ mirror.known_copied.stream → slice_get (mirror.want ∷ []) c.index ≡ Some c.want → c ≡ its_copy
same-copy c s f o = by c.index refl o
  where
    by : (n : ℕ) → c.index ≡ n → slice_get (mirror.want ∷ []) n ≡ Some c.want → c ≡ its_copy
    by zero e o =
        let w : c.want ≡ mirror.want = cc in
        ap (λ (x : List ℕ). record c { stream = x }) s
        ∙ (ap (λ (x : ℕ). record c { stream = copies; index = x }) e
        ∙ (ap (λ (x : StreamFacts). record c { stream = copies; index = 0; facts = x }) f
        ∙ ap (λ (x : Origin). record { stream = copies; index = 0; facts = mirror.known_copied.stream; want = x }) w))
    by (suc n) e o = absurd (cc)

-- what is the copy's is known
its-facts : (c : Copy) → Contains (all_copies mirror.with_copy.image) c → c ≡ its_copy
its-facts c q =
    let is = copy-all mirror.with_copy.image c q in
    let one = stands-alone 1 mirror.bound_image.names copies mirror.known_copied c.stream is.known refl (alone-insert (origin.with_first mirror.mirror).names copies mirror.known_bound (alone-insert empty copies mirror.known_made (alone-empty copies))) is.here in
    let facts : c.facts ≡ mirror.known_copied.stream = is.facts ∙ ap (λ (n : NameFacts). n.stream) one.1 in
    same-copy c one.0 facts (subst (λ f. slice_get (origins_of f.config.copies) c.index ≡ Some c.want) facts is.origin)

-- the hub's stream copies nothing
no-copies : (c : Copy) → Contains (all_copies origin.with_delivery.image) c → ⊥
no-copies c q =
    let is = copy-all origin.with_delivery.image c q in
    let one = stands-alone 1 (origin.with_first origin.origin).names orders origin.known_stored c.stream is.known refl (alone-insert empty orders origin.known_made (alone-empty orders)) is.here in
    let facts : c.facts ≡ origin.known_stored.stream = is.facts ∙ ap (λ (n : NameFacts). n.stream) one.1 in
    let none : slice_get (origins_of origin.known_stored.stream.config.copies) c.index ≡ Some c.want = subst (λ f. slice_get (origins_of f.config.copies) c.index ≡ Some c.want) facts is.origin in
    absurd (by c.index none)
  where
    by : (n : ℕ) → slice_get (origins_of origin.known_stored.stream.config.copies) n ≡ Some c.want → ⊥
    by n e = cc

origin-is : origin_shard w12 leaf its_copy ≡ origin.with_delivery
origin-is = ap (λ (s : ShardState). s.held)
    (elsewhere w11 leaf j l6 [] hub k refl ∙ (elsewhere w10 leaf j l5 mirror.takes.reply.packets hub k refl ∙ (elsewhere w9 leaf j l4 [] hub k refl ∙ (elsewhere w8 leaf j l3 mirror.binds.reply.packets hub k refl ∙ here w7 hub k h6 origin.delivered.reply.packets))))

is-at-one : 1 ≤ reached its_copy
is-at-one = subst (λ n. 1 ≤ n) (sym reached-is) (omega arith)
  where
    reached-is : reached its_copy ≡ 1
    reached-is = ap (λ (o : Option BoundTo). max 1 (start_by o (Seq 1) - 1)) mirror.is-bound

has-all : (known : NameFacts) → known ≡ origin.known_stored → HasAll its_copy known.stream.rows
has-all known is row q stored = subst (λ (n : NameFacts). Contains n.stream.rows row → row.seq ≤ reached its_copy) (sym is) one q
  where
    one : Contains origin.known_stored.stream.rows row → row.seq ≤ reached its_copy
    one (zero, lt, e) = subst (λ (r : Numbered). r.seq ≤ reached its_copy) e is-at-one
    one (suc n, lt, e) = absurd (omega arith)

caught-up : (known : NameFacts) → live_in (origin_shard w12 leaf its_copy).image orders ≡ Some known
    → HasCaughtUp its_copy (asker_of (view_in mirror.with_copy) its_copy).phase (get its_copy.facts.bindings 0) (origin_shard w12 leaf its_copy).image.boot known
caught-up known live =
    let stored : live_in origin.with_delivery.image orders ≡ Some known = subst (λ (h : Held). live_in h.image orders ≡ Some known) origin-is live in
    let is : known ≡ origin.known_stored = (let z : Some origin.known_stored ≡ Some known = sym origin.stored-live ∙ stored in cc) in
    subst (λ (a : AskerState). HasCaughtUp its_copy a.phase (get its_copy.facts.bindings 0) (origin_shard w12 leaf its_copy).image.boot known) (sym (mirror.its-asker mirror.with_copy.image mirror.known_copied mirror.took mirror.askers_bound))
    (subst (λ (o : Option BoundTo). HasCaughtUp its_copy mirror.took.phase o (origin_shard w12 leaf its_copy).image.boot known) (sym mirror.is-bound)
    (subst (λ (h : Held). HasCaughtUp its_copy mirror.took.phase (Some (record { incarnation = 1; start = 1 })) h.image.boot known) (sym origin-is)
    (refl, ap (λ (n : NameFacts). n.incarnation) (sym is), has-all known is)))

pub all-caught-up : AllCaughtUp w12
all-caught-up node n c known r = by (bytes_eq node hub && eqb n k) (bytes_eq node leaf && eqb n j) refl refl r.copy
  where
    Goal : Held → Type 0
    Goal h = HasCaughtUp c (asker_of (view_in h) c).phase (get c.facts.bindings c.index) (origin_shard w12 node c).image.boot known

    at-leaf : node ≡ leaf → Contains (all_copies mirror.with_copy.image) c → Goal mirror.with_copy
    at-leaf same q = subst (λ (x : Copy). live_in (origin_shard w12 node x).image x.want.stream ≡ Some known → HasCaughtUp x (asker_of (view_in mirror.with_copy) x).phase (get x.facts.bindings x.index) (origin_shard w12 node x).image.boot known)
        (sym (its-facts c q))
        (subst (λ n. live_in (origin_shard w12 n its_copy).image orders ≡ Some known → HasCaughtUp its_copy (asker_of (view_in mirror.with_copy) its_copy).phase (get its_copy.facts.bindings 0) (origin_shard w12 n its_copy).image.boot known) (sym same) (caught-up known))
        r.stands

    by : (a b : Bool) → (bytes_eq node hub && eqb n k) ≡ a → (bytes_eq node leaf && eqb n j) ≡ b → Contains (all_copies (shard_by (bytes_eq node hub && eqb n k) (bytes_eq node leaf && eqb n j) (with_both.shard node n)).held.image) c
        → Goal (shard_by (bytes_eq node hub && eqb n k) (bytes_eq node leaf && eqb n j) (with_both.shard node n)).held
    by a true ea eb q =
        let is : shard_by (bytes_eq node hub && eqb n k) (bytes_eq node leaf && eqb n j) (with_both.shard node n) ≡ l6 = ap (λ b. shard_by (bytes_eq node hub && eqb n k) b (with_both.shard node n)) eb in
        subst (λ (s : ShardState). Goal s.held) (sym is) (at-leaf ((bytes_decides node leaf).0 (and_parts (bytes_eq node leaf) (eqb n j) eb).0) (subst (λ (s : ShardState). Contains (all_copies s.held.image) c) is q))
    by true false ea eb q =
        let is : shard_by (bytes_eq node hub && eqb n k) (bytes_eq node leaf && eqb n j) (with_both.shard node n) ≡ h6 = ap (λ a. shard_by a (bytes_eq node leaf && eqb n j) (with_both.shard node n)) ea ∙ ap (λ b. shard_by true b (with_both.shard node n)) eb in
        absurd (no-copies c (subst (λ (s : ShardState). Contains (all_copies s.held.image) c) is q))
    by false false ea eb q =
        let is : shard_by (bytes_eq node hub && eqb n k) (bytes_eq node leaf && eqb n j) (with_both.shard node n) ≡ with_both.shard node n = ap (λ a. shard_by a (bytes_eq node leaf && eqb n j) (with_both.shard node n)) ea ∙ ap (λ b. shard_by false b (with_both.shard node n)) eb in
        absurd (unused-by node n c (subst (λ (s : ShardState). Contains (all_copies s.held.image) c) is q))
