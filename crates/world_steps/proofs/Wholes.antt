-- What holds of a net holds of it after all that nodes do.
use Rattle.std.proofs.Common.{◌≡◌, ℕ, Bool, true, false, cond, ◌&&◌, List, [], ◌∷◌, ◌++◌, map, Option, Some, None, refl, sym, ap, ◌∙◌, subst, inl, inr}
use Rattle.std.specs.Prelude.{Contains, is_some}
use Rattle.std.specs.Str.{bytes_eq}
use Rattle.std.specs.Cmp.Lexicographic.{bytes_decides}
use Rattle.std.proofs.lemmas.List.Elements.{Contains-append_left, Contains-append_right, Contains-push, Contains-push_cases}
use Rattle.js_wire.specs.declared.packet.Packet.{Packet}
use Rattle.js_wire.specs.declared.packet.Packet.TheVariants.{Ask, Answer, Refuse, Delivery, Beat, FlowAsk, FlowReply}
use Rattle.shard_machine.specs.declared.call.ShardCall.{ShardCall}
use Rattle.shard_machine.specs.declared.call.ShardCall.TheVariants as call
use Rattle.shard_machine.specs.declared.reply.ShardReply.{ShardReply}
use Rattle.run_soundness.specs.Shards.{ShardState}
use Rattle.run_soundness.specs.Worlds.{World, Event, MayCall, Calls, shard_of}
use Rattle.world_steps.specs.declared.event.Direction.{Direction}
use Rattle.world_steps.specs.declared.event.Direction.TheVariants.{ToLeaf, ToHub}
use Rattle.world_steps.specs.declared.job.Job.{Job}
use Rattle.world_steps.specs.Links.{Site, Channel, is_hub, site_of, with_channel, change_channel, with_frame}
use Rattle.world_steps.specs.Routes.{Moments, Due, destination, stream_of, call_of, pump, packet_jobs, pump_if, followers, listed, operated, is_accepted, sent_by_hub, sent_by_leaf, sent, routed, all_routed}
use Rattle.world_steps.specs.Works.{Working, due_then, Works}
use Rattle.world_steps.specs.Nets.{AreSent, AllSent, names_of, IsWhole, IsUnused, MayAll}

-- ---- channels that change

names-if : (leaf : List ℕ) (direction : Direction) (change : Channel → Channel) (s : Site) (b : Bool) → (cond b (with_channel direction change s) s).name ≡ s.name
names-if leaf ToLeaf change s true = refl
names-if leaf ToHub change s true = refl
names-if leaf direction change s false = refl

pub names-change : (leaf : List ℕ) (direction : Direction) (change : Channel → Channel) (sites : List Site) → names_of (change_channel leaf direction change sites) ≡ names_of sites
names-change leaf direction change [] = refl
names-change leaf direction change (s ∷ sites) =
    ap (λ (n : List ℕ). n ∷ names_of (change_channel leaf direction change sites)) (names-if leaf direction change s (bytes_eq s.name leaf))
    ∙ ap (λ (ns : List (List ℕ)). s.name ∷ ns) (names-change leaf direction change sites)

-- a change keeps all sent
abbrev Keeps : World → (Channel → Channel) → Type 0
Keeps w change = (c : Channel) → AreSent w c → AreSent w (change c)

sent-site : (w : World) (direction : Direction) (change : Channel → Channel) (s : Site) (b : Bool) → Keeps w change → AreSent w s.to_leaf → AreSent w s.to_hub →
    AreSent w (cond b (with_channel direction change s) s).to_leaf × AreSent w (cond b (with_channel direction change s) s).to_hub
sent-site w ToLeaf change s true keeps down up = (keeps s.to_leaf down, up)
sent-site w ToHub change s true keeps down up = (down, keeps s.to_hub up)
sent-site w direction change s false keeps down up = (down, up)

pub sent-change : (w : World) (leaf : List ℕ) (direction : Direction) (change : Channel → Channel) (sites : List Site) → Keeps w change → AllSent w sites → AllSent w (change_channel leaf direction change sites)
sent-change w leaf direction change [] keeps all = tt
sent-change w leaf direction change (s ∷ sites) keeps all =
    let here = sent-site w direction change s (bytes_eq s.name leaf) keeps all.0 all.1 in
    (here.0, here.1, sent-change w leaf direction change sites keeps all.2)

keeps-frame : (w : World) (p : Packet) → Contains w.bag p → Keeps w (with_frame p)
keeps-frame w p there c all q h = elim (Contains-push_cases c.frames p q h) [
  | inl old ↦ all q old
  | inr e ↦ subst (λ (x : Packet). Contains w.bag x) e there
]

-- ---- bags that grow

abbrev pub Grows : List Packet → List Packet → Type 0
Grows old new = (p : Packet) → Contains old p → Contains new p

pub sent-more : (w v : World) (sites : List Site) → Grows w.bag v.bag → AllSent w sites → AllSent v sites
sent-more w v [] more all = tt
sent-more w v (s ∷ sites) more all = (λ p h. more p (all.0 p h), λ p h. more p (all.1 p h), sent-more w v sites more all.2)

may-ask : (old new : List Packet) (p : Packet) (at : List ℕ) (k : ℕ) → Grows old new → Rattle.run_soundness.specs.Worlds.IsAskedHere old p at k → Rattle.run_soundness.specs.Worlds.IsAskedHere new p at k
may-ask old new (Ask asker attempt origin stream start filters) at k more h = (more (Ask asker attempt origin stream start filters) h.0, h.1, h.2)
may-ask old new (Answer asker attempt consumer incarnation start) at k more h = tt
may-ask old new (Refuse asker attempt code err_code) at k more h = tt
may-ask old new (Delivery asker attempt stream consumer number seq pending message) at k more h = tt
may-ask old new (Beat asker attempt origin stream consumer last_number last_seq stalled) at k more h = tt
may-ask old new (FlowAsk asker attempt origin stream consumer token) at k more h = tt
may-ask old new (FlowReply origin stream consumer token) at k more h = tt

pub may-more : (old new : List Packet) (c : ShardCall) (at : List ℕ) (k : ℕ) → Grows old new → MayCall old c at k → MayCall new c at k
may-more old new (call.Create config now) at k more h = h
may-more old new (call.Update config) at k more h = h
may-more old new (call.Remove name) at k more h = h
may-more old new (call.Publish name message now) at k more h = h
may-more old new (call.Delete name seq) at k more h = h
may-more old new (call.Purge name pattern below) at k more h = h
may-more old new (call.Expire name now) at k more h = h
may-more old new (call.Get name which) at k more h = h
may-more old new (call.Info name) at k more h = h
may-more old new call.Names at k more h = h
may-more old new (call.MakeConsumer ask now) at k more h = may-ask old new ask at k more h
may-more old new (call.Pump name budget now) at k more h = h
may-more old new (call.FlowReply packet) at k more h = h
may-more old new (call.Reach node there now) at k more h = h
may-more old new (call.Heard packet now) at k more h = (more packet h.0, h.1)
may-more old new (call.Tick now) at k more h = h
may-more old new call.LinkLost at k more h = h

pub may-all-more : (old new : List Packet) (at : List ℕ) (jobs : List Job) → Grows old new → MayAll old at jobs → MayAll new at jobs
may-all-more old new at [] more h = tt
may-all-more old new at (j ∷ js) more h = (may-more old new j.call at j.shard more h.0, may-all-more old new at js more h.1)

pub may-append : (bag : List Packet) (at : List ℕ) (js ks : List Job) → MayAll bag at js → MayAll bag at ks → MayAll bag at (js ++ ks)
may-append bag at [] ks h g = g
may-append bag at (j ∷ js) ks h g = (h.0, may-append bag at js ks h.1 g)

-- ---- packets

-- a packet that was sent may make its call where it is for
pub may-packet : (bag : List Packet) (now : ℕ) (p : Packet) → Contains bag p → MayCall bag (call_of now p) (destination p) (shard_of (stream_of p))
may-packet bag now (Ask asker attempt origin stream start filters) c = (c, refl, refl)
may-packet bag now (Answer asker attempt consumer incarnation start) c = (c, (refl, refl))
may-packet bag now (Refuse asker attempt code err_code) c = (c, (refl, refl))
may-packet bag now (Delivery asker attempt stream consumer number seq pending message) c = (c, (refl, refl))
may-packet bag now (Beat asker attempt origin stream consumer last_number last_seq stalled) c = (c, (refl, refl))
may-packet bag now (FlowAsk asker attempt origin stream consumer token) c = (c, (refl, refl))
may-packet bag now (FlowReply origin stream consumer token) c = tt

may-own : (bag : List Packet) (now : ℕ) (at : List ℕ) (p : Packet) → Contains bag p → destination p ≡ at → MayAll bag at (packet_jobs now p)
may-own bag now at p there here = (subst (λ (n : List ℕ). MayCall bag (call_of now p) n (shard_of (stream_of p))) here (may-packet bag now p there), (refl, tt))

-- What is under way at a node's work: the sites have the names of the nodes, all frames were sent, and the calls may be made.
pub record Good (w : World) (at : List ℕ) (names : List (List ℕ)) (d : Due) : Type 0 where
  pub named : names_of d.sites ≡ names
  pub sent : AllSent w d.sites
  pub may : MayAll w.bag at d.jobs

good-if : (w : World) (at : List ℕ) (names : List (List ℕ)) (d e f : Due) (b : Bool) → Good w at names e → Good w at names f → Good w at names (cond b e f)
good-if w at names d e f true g h = g
good-if w at names d e f false g h = h

sent-by : (w : World) (at leaf : List ℕ) (direction : Direction) (p : Packet) (names : List (List ℕ)) (d : Due) (b : Bool) → Contains w.bag p → Good w at names d →
    Good w at names (record { sites = cond b (change_channel leaf direction (with_frame p) d.sites) d.sites; jobs = d.jobs })
sent-by w at leaf direction p names d true there g = record {
  named = names-change leaf direction (with_frame p) d.sites ∙ g.named;
  sent = sent-change w leaf direction (with_frame p) d.sites (keeps-frame w p there) g.sent;
  may = g.may;
}
sent-by w at leaf direction p names d false there g = g

good-sent : (w : World) (at : List ℕ) (p : Packet) (names : List (List ℕ)) (d : Due) (b : Bool) → Contains w.bag p → Good w at names d →
    Good w at names (record { sites = cond b (sent_by_hub w.joined p d.sites) (sent_by_leaf w.joined at p d.sites); jobs = d.jobs })
good-sent w at p names d true there g = sent-by w at (destination p) ToLeaf p names d (w.joined (destination p)) there g
good-sent w at p names d false there g = sent-by w at at ToHub p names d (w.joined at && is_some (site_of d.sites (destination p))) there g

good-routed-if : (w : World) (now : ℕ) (at : List ℕ) (p : Packet) (names : List (List ℕ)) (d : Due) (b : Bool) → bytes_eq (destination p) at ≡ b → Contains w.bag p → Good w at names d →
    Good w at names (cond b (record { sites = d.sites; jobs = d.jobs ++ packet_jobs now p }) (record { sites = sent w.joined at p d.sites; jobs = d.jobs }))
good-routed-if w now at p names d true here there g = record {
  named = g.named;
  sent = g.sent;
  may = may-append w.bag at d.jobs (packet_jobs now p) g.may (may-own w.bag now at p there ((bytes_decides (destination p) at).0 here));
}
good-routed-if w now at p names d false here there g = good-sent w at p names d (is_hub d.sites at) there g

pub good-routed : (w : World) (now : ℕ) (at : List ℕ) (p : Packet) (names : List (List ℕ)) (d : Due) → Contains w.bag p → Good w at names d → Good w at names (routed now w.joined at p d)
good-routed w now at p names d there g = good-routed-if w now at p names d (bytes_eq (destination p) at) refl there g

pub good-all : (w : World) (now : ℕ) (at : List ℕ) (ps : List Packet) (names : List (List ℕ)) (d : Due) → Grows ps w.bag → Good w at names d → Good w at names (all_routed now w.joined at ps d)
good-all w now at [] names d there g = g
good-all w now at (p ∷ ps) names d there g =
    good-all w now at ps names (routed now w.joined at p d) (λ x h. there x (Contains-append_right (p ∷ []) ps x h))
    (good-routed w now at p names d (there p (Contains-append_left (p ∷ []) ps p (Contains-push [] p))) g)

-- ---- what follows a call

may-pump-if : (bag : List Packet) (at : List ℕ) (now : ℕ) (o : Option (List ℕ)) → MayAll bag at (pump_if now o)
may-pump-if bag at now None = tt
may-pump-if bag at now (Some name) = (refl, tt)

may-pumps : (bag : List Packet) (at : List ℕ) (now : ℕ) (names : List (List ℕ)) → MayAll bag at (map (pump now) names)
may-pumps bag at now [] = tt
may-pumps bag at now (name ∷ names) = (refl, may-pumps bag at now names)

may-accepted : (bag : List Packet) (at : List ℕ) (now : ℕ) (o : Option (List ℕ)) (b : Bool) → MayAll bag at (cond b (pump_if now o) [])
may-accepted bag at now o true = may-pump-if bag at now o
may-accepted bag at now o false = tt

pub may-followers : (bag : List Packet) (at : List ℕ) (m : Moments) (c : ShardCall) (reply : ShardReply) → MayAll bag at (followers m c reply.outcome)
may-followers bag at m c reply =
    may-append bag at (cond (is_accepted reply.outcome) (pump_if m.now (operated c)) []) (map (pump m.timer) (listed reply.outcome))
    (may-accepted bag at m.now (operated c) (is_accepted reply.outcome)) (may-pumps bag at m.timer (listed reply.outcome))

-- ---- calls

-- the bag before a call is a part of that after it, and so are the packets of the reply
call-grows : (w v : World) (at : List ℕ) (k : ℕ) (c : ShardCall) (reply : ShardReply) → Calls w at k c reply v → Grows w.bag v.bag
call-grows w v at k c reply h p there = subst (λ (l : List Packet). Contains l p) (sym h.bag) (Contains-append_left w.bag reply.packets p there)

call-sends : (w v : World) (at : List ℕ) (k : ℕ) (c : ShardCall) (reply : ShardReply) → Calls w at k c reply v → Grows reply.packets v.bag
call-sends w v at k c reply h p there = subst (λ (l : List Packet). Contains l p) (sym h.bag) (Contains-append_right w.bag reply.packets p there)

pub good-call : (m : Moments) (w v : World) (at : List ℕ) (j : Job) (js : List Job) (reply : ShardReply) (names : List (List ℕ)) (sites : List Site) → Calls w at j.shard j.call reply v →
    Good w at names (record { sites = sites; jobs = j ∷ js }) → Good v at names (due_then m v at j.call reply sites js)
good-call m w v at j js reply names sites h g =
    good-all v m.now at reply.packets names (record { sites = sites; jobs = followers m j.call reply.outcome ++ js }) (call-sends w v at j.shard j.call reply h) (record {
      named = g.named;
      sent = sent-more w v sites (call-grows w v at j.shard j.call reply h) g.sent;
      may = may-append v.bag at (followers m j.call reply.outcome) js (may-followers v.bag at m j.call reply)
          (may-all-more w.bag v.bag at js (call-grows w v at j.shard j.call reply h) g.may.1);
    })

-- shards of names that no node has stay unused
unused-call : (w v : World) (at : List ℕ) (k : ℕ) (c : ShardCall) (reply : ShardReply) → Calls w at k c reply v →
    ((n : List ℕ) (j : ℕ) → (Contains w.nodes n → ⊥) → IsUnused n (w.shard n j)) → (n : List ℕ) (j : ℕ) → (Contains v.nodes n → ⊥) → IsUnused n (v.shard n j)
unused-call w v at k c reply h old n j none = elim (h.others n j) [
  | inl here ↦ absurd (none' (subst (λ (x : List ℕ). Contains w.nodes x) (sym here.0) h.there))
  | inr same ↦ subst (λ (s : ShardState). IsUnused n s) (sym same) (old n j none')
]
  where
    none' : Contains w.nodes n → ⊥
    none' there = none (subst (λ (l : List (List ℕ)). Contains l n) (sym h.nodes) there)

pub whole-call : (m : Moments) (w v : World) (at : List ℕ) (j : Job) (js : List Job) (reply : ShardReply) (sites : List Site) → Calls w at j.shard j.call reply v →
    IsWhole (record { world = w; sites = sites }) → MayAll w.bag at (j ∷ js) →
    IsWhole (record { world = v; sites = (due_then m v at j.call reply sites js).sites }) × MayAll v.bag at (due_then m v at j.call reply sites js).jobs
whole-call m w v at j js reply sites h whole may =
    let g = good-call m w v at j js reply (names_of sites) sites h (record { named = refl; sent = whole.sent; may = may }) in (
      record {
        nodes = h.nodes ∙ (whole.nodes ∙ sym g.named);
        apart = subst (λ (ns : List (List ℕ)). Rattle.world_steps.specs.Nets.AreApart ns) (sym g.named) whole.apart;
        hub = subst (λ (ns : List (List ℕ)). Rattle.world_steps.specs.Nets.HubIsJoined v.joined ns) (sym g.named)
            (subst (λ (f : List ℕ → Bool). Rattle.world_steps.specs.Nets.HubIsJoined f (names_of sites)) (sym h.joined) whole.hub);
        sent = g.sent;
        unused = unused-call w v at j.shard j.call reply h whole.unused;
      },
      g.may,
    )

pub works-whole : (m : Moments) (at : List ℕ) (w : World) (sites : List Site) (jobs : List Job) (es : List Event) (end : Working) →
    IsWhole (record { world = w; sites = sites }) → MayAll w.bag at jobs → Works m at w sites jobs es end →
    IsWhole (record { world = end.world; sites = end.due.sites }) × MayAll end.world.bag at end.due.jobs
works-whole m at w sites jobs [] end whole may h =
    subst (λ (x : Working). IsWhole (record { world = x.world; sites = x.due.sites }) × MayAll x.world.bag at x.due.jobs) (sym h) (whole, may)
works-whole m at w sites [] (e ∷ es) end whole may h = absurd h
works-whole m at w sites (j ∷ js) (e ∷ es) end whole may h =
    let next = whole-call m w h.1 at j js h.0 sites h.4 whole may in
    works-whole m at h.1 (due_then m h.1 at j.call h.0 sites js).sites (due_then m h.1 at j.call h.0 sites js).jobs es end next.0 next.1 h.5
