-- A packet is put behind the frames of a link.
use Rattle.std.proofs.Common.{◌≡◌, ℕ, zero, suc, ◌<◌, Bool, true, false, cond, ◌&&◌, List, [], ◌∷◌, length, Option, Some, None, refl, sym, ap, ◌∙◌, subst, arith}
use Rattle.std.specs.Prelude.{slice_get, slice_set, slice_index_or, is_some, not}
use Rattle.std.specs.List.{position_from}
use Rattle.std.specs.Str.{bytes_eq}
use Rattle.js_wire.specs.declared.packet.Packet.{Packet}
use Rattle.world_steps.specs.declared.event.Direction.{Direction}
use Rattle.world_steps.specs.declared.event.Direction.TheVariants.{ToLeaf, ToHub}
use Rattle.world_steps.specs.Links.{Site, change_channel, is_hub, site_of, with_frame}
use Rattle.world_steps.specs.Nets.{AreApart}
use Rattle.world_steps.specs.Routes.{destination, sent, sent_by_hub, sent_by_leaf}
use Rattle.world_links.specs.States.{LinkState, sites_in, names_in, is_named, is_up, joined_in, name_at, on_channel, pushed, pushed_if, pushed_at, SameJoined}
use Rattle.world_links.proofs.Places.{read-at, same-name, own-name, others-names, find-at, site-found, site-missing, name-is, joined-is, apart-kept, changed-at, joined-kept, same-names, position-is, none-found}

set-same : (links : List LinkState) (place : ℕ) (l : LinkState) → slice_get links place ≡ Some l → slice_set links place l ≡ links
set-same [] place l e = refl
set-same (x ∷ links) zero l e = (let z : x ≡ l = cc in ap (λ (y : LinkState). y ∷ links) (sym z))
set-same (x ∷ links) (suc place) l e = ap (λ ls. x ∷ ls) (set-same links place l e)

pushed-is : (links : List LinkState) (place : ℕ) (l : LinkState) (direction : Direction) (p : Packet) → slice_get links place ≡ Some l → pushed_at place direction p links ≡ slice_set links place (pushed direction p l)
pushed-is links place l direction p e = ap (pushed_if links place direction p) e

-- a packet goes behind the frames where the link is up
pushed-sites : (links : List LinkState) (place : ℕ) (l : LinkState) (direction : Direction) (p : Packet) → AreApart (names_in links) → slice_get links place ≡ Some l
    → sites_in (pushed_at place direction p links) ≡ cond l.joined (change_channel l.site.name direction (with_frame p) (sites_in links)) (sites_in links)
pushed-sites links place l direction p h e = ap sites_in (pushed-is links place l direction p e) ∙ by l.joined
  where
    by : (b : Bool) → sites_in (slice_set links place (cond b (on_channel direction (with_frame p) l) l)) ≡ cond b (change_channel l.site.name direction (with_frame p) (sites_in links)) (sites_in links)
    by true = changed-at links place l direction (with_frame p) h e
    by false = ap sites_in (set-same links place l e)

pushed-name : (direction : Direction) (p : Packet) (l : LinkState) → (pushed direction p l).site.name ≡ l.site.name
pushed-name direction p l = by l.joined
  where
    by : (b : Bool) → (cond b (on_channel direction (with_frame p) l) l).site.name ≡ l.site.name
    by true = same-names direction (with_frame p) l
    by false = refl

pushed-up : (direction : Direction) (p : Packet) (l : LinkState) → (pushed direction p l).joined ≡ l.joined
pushed-up direction p l = by l.joined
  where
    by : (b : Bool) → (cond b (on_channel direction (with_frame p) l) l).joined ≡ l.joined
    by true = refl
    by false = refl

pushed-joined : (links : List LinkState) (place : ℕ) (l : LinkState) (direction : Direction) (p : Packet) → slice_get links place ≡ Some l → SameJoined links (pushed_at place direction p links)
pushed-joined links place l direction p e name =
    ap (λ (ls : List LinkState). joined_in ls name) (pushed-is links place l direction p e)
    ∙ joined-kept links place l (pushed direction p l) e (pushed-name direction p l) (pushed-up direction p l) name

at-place : (links : List LinkState) (place : ℕ) → place < length links → (l : LinkState) × (slice_get links place ≡ Some l)
at-place [] place lt = absurd (omega arith)
at-place (x ∷ links) zero lt = (x, refl)
at-place (x ∷ links) (suc place) lt = at-place links place (omega arith)

-- ---- from the hub

pub hub-sends : (links : List LinkState) (p : Packet) (place : ℕ) → AreApart (names_in links) → position_from (is_named (destination p)) 0 links ≡ Some place
    → sites_in (pushed_at place ToLeaf p links) ≡ sent_by_hub (joined_in links) p (sites_in links)
hub-sends links p place h found =
    let w = position-is (destination p) links 0 place found in
    let at : slice_get links place ≡ Some w.2 = subst (λ n. slice_get links n ≡ Some w.2) (let z : w.0 ≡ place = omega (arith, w.1) in z) w.3 in
    let named : w.2.site.name ≡ destination p = same-name w.2.site.name (destination p) w.4 in
    let up : joined_in links (destination p) ≡ w.2.joined = ap (joined_in links) (sym named) ∙ ap is_up (find-at links place w.2 h at) in
    pushed-sites links place w.2 ToLeaf p h at
    ∙ (ap (λ n. cond w.2.joined (change_channel n ToLeaf (with_frame p) (sites_in links)) (sites_in links)) named
    ∙ ap (λ b. cond b (change_channel (destination p) ToLeaf (with_frame p) (sites_in links)) (sites_in links)) (sym up))

pub hub-drops : (links : List LinkState) (p : Packet) → position_from (is_named (destination p)) 0 links ≡ None → sites_in links ≡ sent_by_hub (joined_in links) p (sites_in links)
hub-drops links p missing = sym (ap (λ b. cond b (change_channel (destination p) ToLeaf (with_frame p) (sites_in links)) (sites_in links)) (ap is_up (none-found (destination p) links 0 missing)))

pub pushed-same : (links : List LinkState) (place : ℕ) (direction : Direction) (p : Packet) → place < length links → SameJoined links (pushed_at place direction p links)
pushed-same links place direction p lt = (let w = at-place links place lt in pushed-joined links place w.0 direction p w.1)

pub pushed-apart : (links : List LinkState) (place : ℕ) (direction : Direction) (p : Packet) → AreApart (names_in links) → place < length links → AreApart (names_in (pushed_at place direction p links))
pushed-apart links place direction p h lt =
    let w = at-place links place lt in
    subst (λ (ls : List LinkState). AreApart (names_in ls)) (sym (pushed-is links place w.0 direction p w.1)) (apart-kept links place w.0 (pushed direction p w.0) h w.1 (pushed-name direction p w.0))

-- ---- from a leaf

pub leaf-sends : (links : List LinkState) (p : Packet) (place other : ℕ) → AreApart (names_in links) → place < length links → position_from (is_named (destination p)) 0 links ≡ Some other
    → sites_in (pushed_at place ToHub p links) ≡ sent_by_leaf (joined_in links) (name_at links place) p (sites_in links)
leaf-sends links p place other h lt found =
    let w = at-place links place lt in
    let o = position-is (destination p) links 0 other found in
    let at : slice_get links other ≡ Some o.2 = subst (λ n. slice_get links n ≡ Some o.2) (let z : o.0 ≡ other = omega (arith, o.1) in z) o.3 in
    let named : o.2.site.name ≡ destination p = same-name o.2.site.name (destination p) o.4 in
    let there : is_some (site_of (sites_in links) (destination p)) ≡ true = ap (λ n. is_some (site_of (sites_in links) n)) (sym named) ∙ ap is_some (site-found links o.2.site.name o.2 (find-at links other o.2 h at)) in
    let up : joined_in links (name_at links place) ≡ w.0.joined = joined-is links place w.0 h w.1 in
    pushed-sites links place w.0 ToHub p h w.1
    ∙ (ap (λ n. cond w.0.joined (change_channel n ToHub (with_frame p) (sites_in links)) (sites_in links)) (sym (name-is links place w.0 w.1))
    ∙ sym (ap (λ b. cond (b && is_some (site_of (sites_in links) (destination p))) (change_channel (name_at links place) ToHub (with_frame p) (sites_in links)) (sites_in links)) up
    ∙ (ap (λ b. cond (w.0.joined && b) (change_channel (name_at links place) ToHub (with_frame p) (sites_in links)) (sites_in links)) there
    ∙ by w.0.joined)))
  where
    by : (b : Bool) → cond (b && true) (change_channel (name_at links place) ToHub (with_frame p) (sites_in links)) (sites_in links) ≡ cond b (change_channel (name_at links place) ToHub (with_frame p) (sites_in links)) (sites_in links)
    by true = refl
    by false = refl

pub leaf-drops : (links : List LinkState) (p : Packet) (place : ℕ) → position_from (is_named (destination p)) 0 links ≡ None → sites_in links ≡ sent_by_leaf (joined_in links) (name_at links place) p (sites_in links)
leaf-drops links p place missing =
    sym (ap (λ (o : Option Site). cond (joined_in links (name_at links place) && is_some o) (change_channel (name_at links place) ToHub (with_frame p) (sites_in links)) (sites_in links)) (site-missing links (destination p) (none-found (destination p) links 0 missing))
    ∙ by (joined_in links (name_at links place)))
  where
    by : (b : Bool) → cond (b && false) (change_channel (name_at links place) ToHub (with_frame p) (sites_in links)) (sites_in links) ≡ sites_in links
    by true = refl
    by false = refl

-- ---- which of the two

pub first-is-hub : (links : List LinkState) → 0 < length links → is_hub (sites_in links) (name_at links 0) ≡ true
first-is-hub [] lt = absurd (omega arith)
first-is-hub (x ∷ links) lt = own-name x.site.name

pub others-are-leaves : (links : List LinkState) (place : ℕ) → AreApart (names_in links) → place < length links → 0 < place → is_hub (sites_in links) (name_at links place) ≡ false
others-are-leaves [] place h lt more = absurd (omega arith)
others-are-leaves (x ∷ links) zero h lt more = absurd (omega arith)
others-are-leaves (x ∷ links) (suc place) h lt more =
    let w = at-place links place (omega arith) in
    ap (bytes_eq x.site.name) (name-is links place w.0 w.1) ∙ others-names x links place w.0 h w.1

pub sent-by-hub : (links : List LinkState) (p : Packet) → 0 < length links → sent (joined_in links) (name_at links 0) p (sites_in links) ≡ sent_by_hub (joined_in links) p (sites_in links)
sent-by-hub links p lt = ap (λ b. cond b (sent_by_hub (joined_in links) p (sites_in links)) (sent_by_leaf (joined_in links) (name_at links 0) p (sites_in links))) (first-is-hub links lt)

pub sent-by-leaf : (links : List LinkState) (p : Packet) (place : ℕ) → AreApart (names_in links) → place < length links → 0 < place → sent (joined_in links) (name_at links place) p (sites_in links) ≡ sent_by_leaf (joined_in links) (name_at links place) p (sites_in links)
sent-by-leaf links p place h lt more = ap (λ b. cond b (sent_by_hub (joined_in links) p (sites_in links)) (sent_by_leaf (joined_in links) (name_at links place) p (sites_in links))) (others-are-leaves links place h lt more)

-- ---- what the answers of calls cite

pub pushed-in : (seen links : List LinkState) (place : ℕ) (direction : Direction) (p : Packet) (l m : LinkState) → links ≡ seen → place < length seen → l ≡ slice_index_or links place l → m ≡ pushed direction p l → slice_set links place m ≡ pushed_at place direction p seen
pushed-in seen links place direction p l m same lt read is =
    ap (slice_set links place) is
    ∙ (sym (pushed-is links place l direction p (read-at links place l (subst (λ (ls : List LinkState). place < length ls) (sym same) lt) read))
    ∙ ap (pushed_at place direction p) same)

pub pushed-up-is : (direction : Direction) (p : Packet) (l : LinkState) (b : Bool) → b ≡ l.joined → pushed direction p l ≡ cond b (on_channel direction (with_frame p) l) l
pushed-up-is direction p l b e = ap (λ t. cond t (on_channel direction (with_frame p) l) l) (sym e)

pub leaf-found : (links : List LinkState) (p : Packet) (place : ℕ) (name : List ℕ) (o : Option ℕ) (missing : Bool) → AreApart (names_in links) → place < length links → name ≡ destination p → o ≡ position_from (is_named name) 0 links → is_some o ≡ not missing → missing ≡ false
    → sites_in (pushed_at place ToHub p links) ≡ sent_by_leaf (joined_in links) (name_at links place) p (sites_in links)
leaf-found links p place name None missing h lt named is none there = absurd (let z : false ≡ true = none ∙ ap not there in cc)
leaf-found links p place name (Some other) missing h lt named is none there = leaf-sends links p place other h lt (ap (λ (n : List ℕ). position_from (is_named n) 0 links) (sym named) ∙ sym is)

pub leaf-missing : (links : List LinkState) (p : Packet) (place : ℕ) (name : List ℕ) (o : Option ℕ) (missing : Bool) → name ≡ destination p → o ≡ position_from (is_named name) 0 links → is_some o ≡ not missing → missing ≡ true
    → sites_in links ≡ sent_by_leaf (joined_in links) (name_at links place) p (sites_in links)
leaf-missing links p place name None missing named is none gone = leaf-drops links p place (ap (λ (n : List ℕ). position_from (is_named n) 0 links) (sym named) ∙ sym is)
leaf-missing links p place name (Some other) missing named is none gone = absurd (let z : true ≡ false = none ∙ ap not gone in cc)
