-- What holds of a net holds of it after each task, each step and each round.
use Rattle.std.proofs.Common.{◌≡◌, ℕ, zero, suc, ◌<◌, Bool, true, false, cond, List, [], ◌∷◌, map, Option, Some, None, refl, sym, ap, ◌∙◌, subst, arith, ◌⊎◌, inl, inr}
use Rattle.std.specs.Prelude.{Contains, ⊤, flat_map, min, replicate, reverse}
use Rattle.std.specs.Str.{bytes_eq}
use Rattle.std.specs.Cmp.Lexicographic.{bytes_decides}
use Rattle.std.proofs.lemmas.List.Elements.{Contains-append_left, Contains-append_right, Contains-push, Contains-append_cases}
use Rattle.std.proofs.lemmas.List.Sorted.{IsPermutation-sym, IsPermutation-reverse, Contains-permutation}
use Rattle.js_wire.specs.declared.packet.Packet.{Packet}
use Rattle.shard_machine.specs.declared.call.ShardCall.{ShardCall}
use Rattle.shard_machine.specs.declared.call.ShardCall.TheVariants as call
use Rattle.run_soundness.specs.Worlds.{World, Event, MayCall, shard_of}
use Rattle.world_steps.specs.declared.event.Direction.{Direction}
use Rattle.world_steps.specs.declared.event.Direction.TheVariants.{ToLeaf, ToHub}
use Rattle.world_steps.specs.declared.event.Event.{Event as Order}
use Rattle.world_steps.specs.declared.event.Event.TheVariants as order
use Rattle.world_steps.specs.declared.outcome.StepOutcome.{StepOutcome}
use Rattle.world_steps.specs.declared.job.Job.{Job}
use Rattle.world_steps.specs.Links.{Site, Channel, Net, empty_channel, channel, channel_if, channel_of, site_of, after_first, after_carry, first_arriving, arriving, once_more, without_first, change_channel, hub_name, is_hub, losing, repeating, turned_round, emptied}
use Rattle.world_steps.specs.Routes.{Moments}
use Rattle.world_steps.specs.Works.{working, WorksOff}
use Rattle.world_steps.specs.Tasks.{Task, Work, CarryOne, Turn, Arrives, Turns, come_to, due_by, without_frame, receiver, Does, DoesAll}
use Rattle.world_steps.specs.Steps.{Steps, IsLegal, tasks_of, with_ordered, named_stream, called, carried, carriable, leaf_of, direction_of, turned, told, all_told, numbers_below, link_moments}
use Rattle.world_steps.specs.Settling.{Settles, tick, tick_node, round_tasks, round_moments, Lane, next_lane}
use Rattle.world_steps.specs.Nets.{AreSent, AllSent, names_of, AreApart, HubIsJoined, IsWhole, MayAll}
use Rattle.world_steps.proofs.Wholes.{names-change, sent-change, Good, good-routed, works-whole, may-append}

-- ---- a frame is taken

sent-first : (w : World) (p : Packet) (ps : List Packet) (c : Channel) → ((q : Packet) → Contains (p ∷ ps) q → Contains w.bag q) → AreSent w (without_first p ps c)
sent-first w p ps c all q h = elim (Contains-append_cases ps (once_more c.repeats p) q h) [
  | inl left ↦ all q (Contains-append_right (p ∷ []) ps q left)
  | inr again ↦ by c.repeats again
]
  where
    by : (n : ℕ) → Contains (once_more n p) q → Contains w.bag q
    by zero x = absurd (let lt : x.0 < 0 = x.1 in omega (arith, lt))
    by (suc n) x = all q (Contains-append_left (p ∷ []) ps q x)

sent-after : (w : World) (ps : List Packet) (c : Channel) → ((q : Packet) → Contains ps q → Contains w.bag q) → AreSent w c → AreSent w (after_first ps c)
sent-after w [] c frames all = all
sent-after w (p ∷ ps) c frames all = sent-first w p ps c frames

keeps-carry : (w : World) (c : Channel) → AreSent w c → AreSent w (after_carry c)
keeps-carry w c all = sent-after w c.frames c all all

arriving-sent : (w : World) (ps : List Packet) (losses : ℕ) (q : Packet) → ((x : Packet) → Contains ps x → Contains w.bag x) → first_arriving ps losses ≡ Some q → Contains w.bag q
arriving-sent w [] losses q all e = absurd (cc)
arriving-sent w (p ∷ ps) zero q all e = let same : p ≡ q = cc in subst (λ (x : Packet). Contains w.bag x) same (all p (Contains-append_left (p ∷ []) ps p (Contains-push [] p)))
arriving-sent w (p ∷ ps) (suc n) q all e = absurd (cc)

sent-in : (w : World) (direction : Direction) (s : Site) → AreSent w s.to_leaf → AreSent w s.to_hub → AreSent w (channel direction s)
sent-in w ToLeaf s down up = down
sent-in w ToHub s down up = up

none-sent : (w : World) → AreSent w empty_channel
none-sent w p h = absurd (let lt : h.0 < 0 = h.1 in omega (arith, lt))

found-if : (w : World) (direction : Direction) (s : Site) (o : Option Site) (b : Bool) → AreSent w (channel direction s) → AreSent w (channel_if direction o) → AreSent w (channel_if direction (cond b (Some s) o))
found-if w direction s o true here else' = here
found-if w direction s o false here else' = else'

sent-found : (w : World) (leaf : List ℕ) (direction : Direction) (sites : List Site) → AllSent w sites → AreSent w (channel_of sites leaf direction)
sent-found w leaf direction [] all = none-sent w
sent-found w leaf direction (s ∷ sites) all = found-if w direction s (site_of sites leaf) (bytes_eq s.name leaf) (sent-in w direction s all.0 all.1) (sent-found w leaf direction sites all.2)

-- ---- a net whose sites change

whole-sites : (net : Net) (sites : List Site) → names_of sites ≡ names_of net.sites → AllSent net.world sites → IsWhole net → IsWhole (record { world = net.world; sites = sites })
whole-sites net sites same sent whole = record {
  nodes = whole.nodes ∙ sym same;
  apart = subst AreApart (sym same) whole.apart;
  hub = subst (HubIsJoined net.world.joined) (sym same) whole.hub;
  sent = sent;
  unused = whole.unused;
}

whole-change : (net : Net) (leaf : List ℕ) (direction : Direction) (change : Channel → Channel) → ((c : Channel) → AreSent net.world c → AreSent net.world (change c)) → IsWhole net →
    IsWhole (record { world = net.world; sites = change_channel leaf direction change net.sites })
whole-change net leaf direction change keeps whole =
    whole-sites net (change_channel leaf direction change net.sites) (names-change leaf direction change net.sites) (sent-change net.world leaf direction change net.sites keeps whole.sent) whole

-- ---- tasks

worked-whole : (m : Moments) (at : List ℕ) (old : Net) (jobs : List Job) (es : List Event) (new : Net) → IsWhole old → MayAll old.world.bag at jobs → WorksOff m at old jobs es new → IsWhole new
worked-whole m at old jobs es new whole may h = (works-whole m at old.world old.sites jobs es (working new.world new.sites []) whole may h).0

arrives-whole : (m : Moments) (net : Net) (at : List ℕ) (o : Option Packet) (es : List Event) (new : Net) → IsWhole net → ((q : Packet) → o ≡ Some q → Contains net.world.bag q) → Arrives m net at o es new → IsWhole new
arrives-whole m net at None es new whole sent h = subst IsWhole (sym h.1) whole
arrives-whole m net at (Some p) es new whole sent h =
    let g = good-routed net.world m.now at p (names_of net.sites) (record { sites = net.sites; jobs = [] }) (sent p refl) (record { named = refl; sent = whole.sent; may = tt }) in
    worked-whole m at (come_to m net at p) (due_by m net at p).jobs es new (whole-sites net (due_by m net at p).sites g.named g.sent whole) g.may h

-- what a task may be: its calls may be made, and the hub's link isn't turned
abbrev MayDo : Net → Task → Type 0
MayDo net (Work m at jobs) = (bag : List Packet) → MayAll bag at jobs
MayDo net (CarryOne m leaf direction) = ⊤
MayDo net (Turn leaf up) = is_hub net.sites leaf ≡ false

hub-stays : (joined joined' : List ℕ → Bool) (sites : List Site) (leaf : List ℕ) → is_hub sites leaf ≡ false → ((n : List ℕ) → (n ≡ leaf) ⊎ (joined' n ≡ joined n)) → HubIsJoined joined (names_of sites) → HubIsJoined joined' (names_of sites)
hub-stays joined joined' [] leaf not others h = tt
hub-stays joined joined' (s ∷ sites) leaf not others h = elim (others s.name) [
  | inl e ↦ absurd (let z : true ≡ false = sym ((bytes_decides s.name leaf).1 e) ∙ not in cc)
  | inr same ↦ same ∙ h
]

turns-whole : (leaf : List ℕ) (up : Bool) (old : Net) (es : List Event) (new : Net) → is_hub old.sites leaf ≡ false → IsWhole old → Turns leaf up old es new → IsWhole new
turns-whole leaf up old es new not whole h = record {
  nodes = h.links.nodes ∙ (whole.nodes ∙ ap names_of (sym h.sites));
  apart = subst (λ (l : List Site). AreApart (names_of l)) (sym h.sites) whole.apart;
  hub = subst (λ (l : List Site). HubIsJoined new.world.joined (names_of l)) (sym h.sites) (hub-stays old.world.joined new.world.joined old.sites leaf not h.links.others whole.hub);
  sent = subst (λ (l : List Site). AllSent new.world l) (sym h.sites) (Rattle.world_steps.proofs.Wholes.sent-more old.world new.world old.sites (λ p c. subst (λ (l : List Packet). Contains l p) (sym h.links.bag) c) whole.sent);
  unused = λ n k none. subst (λ s. Rattle.world_steps.specs.Nets.IsUnused n s) (sym (h.links.shards n k)) (whole.unused n k (λ there. none (subst (λ (l : List (List ℕ)). Contains l n) (sym h.links.nodes) there)));
}

does-whole : (t : Task) (old : Net) (es : List Event) (new : Net) → MayDo old t → IsWhole old → Does t old es new → IsWhole new
does-whole (Work m at jobs) old es new may whole h = worked-whole m at old jobs es new whole (may old.world.bag) h
does-whole (CarryOne m leaf direction) old es new may whole h =
    arrives-whole m (without_frame old leaf direction) (receiver old.sites leaf direction) (arriving (channel_of old.sites leaf direction)) es new
    (whole-change old leaf direction after_carry (keeps-carry old.world) whole)
    (λ q e. arriving-sent old.world (channel_of old.sites leaf direction).frames (channel_of old.sites leaf direction).losses q (sent-found old.world leaf direction old.sites whole.sent) e) h
does-whole (Turn leaf up) old es new may whole h = turns-whole leaf up old es new may whole h

-- ---- lists of tasks

-- a task that may be done in any net: the calls of a node may be made, and no link is turned
abbrev AnyDo : Task → Type 0
AnyDo (Work m at jobs) = (bag : List Packet) → MayAll bag at jobs
AnyDo (CarryOne m leaf direction) = ⊤
AnyDo (Turn leaf up) = ⊥

abbrev AllDo : List Task → Type 0
AllDo [] = ⊤
AllDo (t ∷ ts) = AnyDo t × AllDo ts

any-may : (net : Net) (t : Task) → AnyDo t → MayDo net t
any-may net (Work m at jobs) h = h
any-may net (CarryOne m leaf direction) h = h
any-may net (Turn leaf up) h = absurd h

all-whole : (ts : List Task) (old : Net) (es : List Event) (new : Net) → AllDo ts → IsWhole old → DoesAll ts old es new → IsWhole new
all-whole [] old es new may whole h = subst IsWhole (sym h.1) whole
all-whole (t ∷ ts) old es new may whole h =
    all-whole ts h.2 h.1 new may.1 (does-whole t old h.0 h.2 (any-may old t may.0) whole h.4) h.5

may-flat : (f : ℕ → List Job) (bag : List Packet) (at : List ℕ) (ns : List ℕ) → ((k : ℕ) → MayAll bag at (f k)) → MayAll bag at (flat_map f ns)
may-flat f bag at [] each = tt
may-flat f bag at (n ∷ ns) each = may-append bag at (f n) (flat_map f ns) (each n) (may-flat f bag at ns each)

may-told : (bag : List Packet) (at : List ℕ) (timer : ℕ) (peer : List ℕ) (up : Bool) (k : ℕ) → MayAll bag at (told timer peer up k)
may-told bag at timer peer true k = (tt, tt)
may-told bag at timer peer false k = (tt, (tt, tt))

may-all-told : (bag : List Packet) (at : List ℕ) (timer : ℕ) (peer : List ℕ) (up : Bool) → MayAll bag at (all_told timer peer up)
may-all-told bag at timer peer up = may-flat (told timer peer up) bag at (numbers_below 8) (λ k. may-told bag at timer peer up k)

-- ---- the step of each event

-- a call that names a stream may be made at the stream's shard
may-named : (bag : List Packet) (c : ShardCall) (at stream : List ℕ) → named_stream c ≡ Some stream → MayCall bag c at (shard_of stream)
may-named bag (call.Create config now) at stream e = let z : config.name ≡ stream = cc in ap shard_of (sym z)
may-named bag (call.Update config) at stream e = let z : config.name ≡ stream = cc in ap shard_of (sym z)
may-named bag (call.Remove name) at stream e = let z : name ≡ stream = cc in ap shard_of (sym z)
may-named bag (call.Publish name message now) at stream e = let z : name ≡ stream = cc in ap shard_of (sym z)
may-named bag (call.Delete name seq) at stream e = let z : name ≡ stream = cc in ap shard_of (sym z)
may-named bag (call.Purge name pattern below) at stream e = let z : name ≡ stream = cc in ap shard_of (sym z)
may-named bag (call.Expire name now) at stream e = let z : name ≡ stream = cc in ap shard_of (sym z)
may-named bag (call.Get name which) at stream e = let z : name ≡ stream = cc in ap shard_of (sym z)
may-named bag (call.Info name) at stream e = let z : name ≡ stream = cc in ap shard_of (sym z)
may-named bag call.Names at stream e = absurd (cc)
may-named bag (call.MakeConsumer ask now) at stream e = absurd (cc)
may-named bag (call.Pump name budget now) at stream e = let z : name ≡ stream = cc in ap shard_of (sym z)
may-named bag (call.FlowReply packet) at stream e = absurd (cc)
may-named bag (call.Reach node there now) at stream e = absurd (cc)
may-named bag (call.Heard packet now) at stream e = absurd (cc)
may-named bag (call.Tick now) at stream e = absurd (cc)
may-named bag call.LinkLost at stream e = absurd (cc)

called-do : (m : Moments) (node : List ℕ) (c : ShardCall) (o : Option (List ℕ)) → named_stream c ≡ o → AllDo (called m node c o)
called-do m node c None e = tt
called-do m node c (Some stream) e = (λ bag. (may-named bag c node stream e, tt), tt)

carried-do : (n : ℕ) (m : Moments) (leaf : List ℕ) (direction : Direction) → AllDo (replicate n (CarryOne m leaf direction))
carried-do zero m leaf direction = tt
carried-do (suc n) m leaf direction = (tt, carried-do n m leaf direction)

turned-whole : (m : Moments) (old : Net) (leaf : List ℕ) (up : Bool) (es : List Event) (new : Net) → is_hub old.sites leaf ≡ false → IsWhole old → DoesAll (turned m old leaf up) old es new → IsWhole new
turned-whole m old leaf up es new not whole h =
    all-whole (Work (link_moments m up) (hub_name old.sites) (all_told m.timer leaf up) ∷ Work (link_moments m up) leaf (all_told m.timer (hub_name old.sites) up) ∷ []) h.2 h.1 new
    (λ bag. may-all-told bag (hub_name old.sites) m.timer leaf up, (λ bag. may-all-told bag leaf m.timer (hub_name old.sites) up, tt))
    (turns-whole leaf up old h.0 h.2 not whole h.4) h.5

turned-if : (m : Moments) (old : Net) (leaf : List ℕ) (up b : Bool) (es : List Event) (new : Net) → is_hub old.sites leaf ≡ false → IsWhole old → DoesAll (cond b (turned m old leaf up) []) old es new → IsWhole new
turned-if m old leaf up true es new not whole h = turned-whole m old leaf up es new not whole h
turned-if m old leaf up false es new not whole h = subst IsWhole (sym h.1) whole

turned-unless : (m : Moments) (old : Net) (leaf : List ℕ) (up b : Bool) (es : List Event) (new : Net) → is_hub old.sites leaf ≡ false → IsWhole old → DoesAll (cond b [] (turned m old leaf up)) old es new → IsWhole new
turned-unless m old leaf up true es new not whole h = subst IsWhole (sym h.1) whole
turned-unless m old leaf up false es new not whole h = turned-whole m old leaf up es new not whole h

keeps-turned : (w : World) (c : Channel) → AreSent w c → AreSent w (turned_round c)
keeps-turned w c all p h = all p (Contains-permutation (reverse c.frames) c.frames p (IsPermutation-sym c.frames (reverse c.frames) (IsPermutation-reverse c.frames)) h)

keeps-emptied : (w : World) (c : Channel) → AreSent w c → AreSent w (emptied c)
keeps-emptied w c all = none-sent w

pub step-whole : (m : Moments) (o : Order) (old new : Net) (es : List Event) → IsWhole old → IsLegal old o → DoesAll (tasks_of m old o) (with_ordered o old) es new → IsWhole new
step-whole m (order.Call node c) old new es whole legal h = all-whole (called m node c (named_stream c)) old es new (called-do m node c (named_stream c) refl) whole h
step-whole m (order.Carry from to count) old new es whole legal h =
    all-whole (carried m old (leaf_of old.sites from to) (direction_of old.sites from) count) old es new
    (carried-do (min count (carriable old (leaf_of old.sites from to) (direction_of old.sites from))) m (leaf_of old.sites from to) (direction_of old.sites from)) whole h
step-whole m (order.Lose from to count) old new es whole legal h =
    subst IsWhole (sym h.1) (whole-change old (leaf_of old.sites from to) (direction_of old.sites from) (losing count) (λ c all. all) whole)
step-whole m (order.Repeat from to count) old new es whole legal h =
    subst IsWhole (sym h.1) (whole-change old (leaf_of old.sites from to) (direction_of old.sites from) (repeating count) (λ c all. all) whole)
step-whole m (order.Reverse from to) old new es whole legal h =
    subst IsWhole (sym h.1) (whole-change old (leaf_of old.sites from to) (direction_of old.sites from) turned_round (keeps-turned old.world) whole)
step-whole m (order.Drop from to) old new es whole legal h =
    subst IsWhole (sym h.1) (whole-change old (leaf_of old.sites from to) (direction_of old.sites from) emptied (keeps-emptied old.world) whole)
step-whole m (order.Cut leaf) old new es whole legal h = turned-if m old leaf false (old.world.joined leaf) es new legal.no_hub whole h
step-whole m (order.Join leaf) old new es whole legal h = turned-unless m old leaf true (old.world.joined leaf) es new legal.no_hub whole h

pub steps-whole : (m : Moments) (o : Order) (old new : Net) (es : List Event) (out : StepOutcome) → IsWhole old → IsLegal old o → Steps m o old es out new → IsWhole new
steps-whole m o old new es out whole legal h = step-whole m o old new es whole legal h.does

-- ---- rounds

ticked : (bag : List Packet) (at : List ℕ) (timer k : ℕ) → MayAll bag at (tick timer k)
ticked bag at timer k = (tt, (tt, tt))

ticks-do : (m : Moments) (sites : List Site) → AllDo (map (tick_node m) sites)
ticks-do m [] = tt
ticks-do m (s ∷ sites) = (λ bag. may-flat (tick m.timer) bag s.name (numbers_below 8) (λ k. ticked bag s.name m.timer k), ticks-do m sites)

round-do : (m : Moments) (sites : List Site) (o : Option Lane) → AllDo (round_tasks m sites o)
round-do m sites None = ticks-do (round_moments m None) sites
round-do m sites (Some lane) = (tt, tt)

pub settles-whole : (n : ℕ) (m end : Moments) (old new : Net) (es : List Event) → IsWhole old → Settles n m old es end new → IsWhole new
settles-whole zero m end old new es whole h = subst IsWhole (sym h.3) whole
settles-whole (suc n) m end old new es whole h =
    settles-whole n (round_moments m (next_lane old)) end h.3 new h.2
    (all-whole (round_tasks m old.sites (next_lane old)) old h.1 h.3 (round-do m old.sites (next_lane old)) whole h.5) h.6
