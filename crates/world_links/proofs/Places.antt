-- A node is found by its name at its place.
use Rattle.std.proofs.Common.{◌≡◌, ℕ, zero, suc, ◌+◌, ◌<◌, Bool, true, false, cond, List, [], ◌∷◌, ◌++◌, length, Some, None, Result, Ok, Err, refl, sym, ap, ◌∙◌, subst, arith, ◌⊎◌, inl, inr}
use Rattle.std.specs.Prelude.{map, find, Contains, IfOk, OnOk, OnErr, slice_get, slice_set, slice_index_or}
use Rattle.std.specs.List.{position_from}
use Rattle.std.specs.Str.{bytes_eq}
use Rattle.std.specs.Cmp.Lexicographic.{bytes_decides}
use Rattle.world_steps.specs.declared.event.Direction.{Direction}
use Rattle.world_steps.specs.declared.event.Direction.TheVariants.{ToLeaf, ToHub}
use Rattle.world_steps.specs.Links.{Channel, Site, changed_if, change_channel, channel, channel_if, channel_of, site_of, with_channel}
use Rattle.world_steps.specs.Nets.{AreApart}
use Rattle.world_links.specs.States.{LinkState, sites_in, names_in, is_named, is_up, is_up_at, joined_in, name_at, name_of, on_channel, channel_at, SameJoined, TurnsAt, Changes}

-- ---- names

pub same-name : (a b : List ℕ) → bytes_eq a b ≡ true → a ≡ b
same-name a b e = (bytes_decides a b).0 e

pub own-name : (a : List ℕ) → bytes_eq a a ≡ true
own-name a = (bytes_decides a a).1 refl

pub name-there : (links : List LinkState) (place : ℕ) (l : LinkState) → slice_get links place ≡ Some l → slice_get (names_in links) place ≡ Some l.site.name
name-there [] place l e = absurd (cc)
name-there (x ∷ links) zero l e = (let z : x ≡ l = cc in ap (λ (y : LinkState). Some y.site.name) z)
name-there (x ∷ links) (suc place) l e = name-there links place l e

pub apart-behind : (name : List ℕ) (names : List (List ℕ)) → AreApart (name ∷ names) → AreApart names
apart-behind name names h i j n a b = (let z : suc i ≡ suc j = h (suc i) (suc j) n a b in omega arith)

-- no later one has the name of the first
pub others-names : (x : LinkState) (links : List LinkState) (place : ℕ) (l : LinkState) → AreApart (names_in (x ∷ links)) → slice_get links place ≡ Some l → bytes_eq x.site.name l.site.name ≡ false
others-names x links place l h e = by (bytes_eq x.site.name l.site.name) refl
  where
    by : (b : Bool) → bytes_eq x.site.name l.site.name ≡ b → bytes_eq x.site.name l.site.name ≡ false
    by true q = absurd (let z : 0 ≡ suc place = h 0 (suc place) l.site.name (ap Some (same-name x.site.name l.site.name q)) (name-there links place l e) in omega arith)
    by false q = q

pub flipped : (a b : List ℕ) → bytes_eq a b ≡ false → bytes_eq b a ≡ false
flipped a b e = by (bytes_eq b a) refl
  where
    by : (t : Bool) → bytes_eq b a ≡ t → bytes_eq b a ≡ false
    by true q = absurd (let z : true ≡ false = sym (own-name a) ∙ (ap (bytes_eq a) (sym (same-name b a q)) ∙ e) in cc)
    by false q = q

-- ---- the link at a place

pub find-at : (links : List LinkState) (place : ℕ) (l : LinkState) → AreApart (names_in links) → slice_get links place ≡ Some l → find (is_named l.site.name) links ≡ Some l
find-at [] place l h e = absurd (cc)
find-at (x ∷ links) zero l h e = (let z : x ≡ l = cc in ap (λ b. cond b (Some x) (find (is_named l.site.name) links)) (ap (λ (y : LinkState). bytes_eq y.site.name l.site.name) z ∙ own-name l.site.name) ∙ ap Some z)
find-at (x ∷ links) (suc place) l h e = ap (λ b. cond b (Some x) (find (is_named l.site.name) links)) (others-names x links place l h e) ∙ find-at links place l (apart-behind x.site.name (names_in links) h) e

pub site-found : (links : List LinkState) (name : List ℕ) (l : LinkState) → find (is_named name) links ≡ Some l → site_of (sites_in links) name ≡ Some l.site
site-found [] name l e = absurd (cc)
site-found (x ∷ links) name l e = by (bytes_eq x.site.name name) e (site-found links name l)
  where
    by : (b : Bool) → cond b (Some x) (find (is_named name) links) ≡ Some l → (find (is_named name) links ≡ Some l → site_of (sites_in links) name ≡ Some l.site) → cond b (Some x.site) (site_of (sites_in links) name) ≡ Some l.site
    by true q h = (let z : x ≡ l = cc in ap (λ (y : LinkState). Some y.site) z)
    by false q h = h q

pub site-missing : (links : List LinkState) (name : List ℕ) → find (is_named name) links ≡ None → site_of (sites_in links) name ≡ None
site-missing [] name e = refl
site-missing (x ∷ links) name e = by (bytes_eq x.site.name name) e (site-missing links name)
  where
    by : (b : Bool) → cond b (Some x) (find (is_named name) links) ≡ None → (find (is_named name) links ≡ None → site_of (sites_in links) name ≡ None) → cond b (Some x.site) (site_of (sites_in links) name) ≡ None
    by true q h = absurd (cc)
    by false q h = h q

-- what is at a place
pub name-is : (links : List LinkState) (place : ℕ) (l : LinkState) → slice_get links place ≡ Some l → name_at links place ≡ l.site.name
name-is links place l e = ap name_of e

pub channel-is : (links : List LinkState) (place : ℕ) (l : LinkState) (direction : Direction) → AreApart (names_in links) → slice_get links place ≡ Some l → channel_at links place direction ≡ channel direction l.site
channel-is links place l direction h e =
    ap (λ n. channel_of (sites_in links) n direction) (name-is links place l e)
    ∙ ap (channel_if direction) (site-found links l.site.name l (find-at links place l h e))

pub joined-is : (links : List LinkState) (place : ℕ) (l : LinkState) → AreApart (names_in links) → slice_get links place ≡ Some l → joined_in links (name_at links place) ≡ l.joined
joined-is links place l h e = ap (joined_in links) (name-is links place l e) ∙ ap is_up (find-at links place l h e)

-- ---- a change at a place

pub names-kept : (links : List LinkState) (place : ℕ) (l m : LinkState) → slice_get links place ≡ Some l → m.site.name ≡ l.site.name → names_in (slice_set links place m) ≡ names_in links
names-kept [] place l m e same = absurd (cc)
names-kept (x ∷ links) zero l m e same = (let z : x ≡ l = cc in ap (λ n. n ∷ names_in links) (same ∙ ap (λ (y : LinkState). y.site.name) (sym z)))
names-kept (x ∷ links) (suc place) l m e same = ap (λ ns. x.site.name ∷ ns) (names-kept links place l m e same)

-- no site of another name changes
unchanged : (name : List ℕ) (change : Site → Site) (links : List LinkState) → ((place : ℕ) (l : LinkState) → slice_get links place ≡ Some l → bytes_eq l.site.name name ≡ false) → map (changed_if name change) (sites_in links) ≡ sites_in links
unchanged name change [] h = refl
unchanged name change (x ∷ links) h =
    ap (λ b. cond b (change x.site) x.site ∷ map (changed_if name change) (sites_in links)) (h 0 x refl)
    ∙ ap (λ sites. x.site ∷ sites) (unchanged name change links (λ place l e. h (suc place) l e))

pub changed-at : (links : List LinkState) (place : ℕ) (l : LinkState) (direction : Direction) (change : Channel → Channel) → AreApart (names_in links) → slice_get links place ≡ Some l
    → sites_in (slice_set links place (on_channel direction change l)) ≡ change_channel l.site.name direction change (sites_in links)
changed-at [] place l direction change h e = absurd (cc)
changed-at (x ∷ links) zero l direction change h e =
    let z : x ≡ l = cc in
    ap (λ sites. with_channel direction change l.site ∷ sites) (sym (unchanged l.site.name (with_channel direction change) links (λ place m at. flipped l.site.name m.site.name (ap (λ (y : LinkState). bytes_eq y.site.name m.site.name) (sym z) ∙ others-names x links place m h at))))
    ∙ sym (ap (λ b. cond b (with_channel direction change x.site) x.site ∷ map (changed_if l.site.name (with_channel direction change)) (sites_in links)) (ap (λ (y : LinkState). bytes_eq y.site.name l.site.name) z ∙ own-name l.site.name)
    ∙ ap (λ (y : LinkState). with_channel direction change y.site ∷ map (changed_if l.site.name (with_channel direction change)) (sites_in links)) z)
changed-at (x ∷ links) (suc place) l direction change h e =
    ap (λ sites. x.site ∷ sites) (changed-at links place l direction change (apart-behind x.site.name (names_in links) h) e)
    ∙ sym (ap (λ b. cond b (with_channel direction change x.site) x.site ∷ map (changed_if l.site.name (with_channel direction change)) (sites_in links)) (others-names x links place l h e))

-- whether a link is up stays, where one with the same name and state comes in its place
pub joined-kept : (links : List LinkState) (place : ℕ) (l m : LinkState) → slice_get links place ≡ Some l → m.site.name ≡ l.site.name → m.joined ≡ l.joined → SameJoined links (slice_set links place m)
joined-kept [] place l m e same up name = absurd (cc)
joined-kept (x ∷ links) zero l m e same up name =
    let z : x ≡ l = cc in
    let named : bytes_eq m.site.name name ≡ bytes_eq x.site.name name = ap (λ n. bytes_eq n name) (same ∙ ap (λ (y : LinkState). y.site.name) (sym z)) in
    let state : m.joined ≡ x.joined = up ∙ ap (λ (y : LinkState). y.joined) (sym z) in
    ap (λ b. is_up (cond b (Some m) (find (is_named name) links))) named ∙ by (bytes_eq x.site.name name) state
  where
    by : (b : Bool) → m.joined ≡ x.joined → is_up (cond b (Some m) (find (is_named name) links)) ≡ is_up (cond b (Some x) (find (is_named name) links))
    by true s = s
    by false s = refl
joined-kept (x ∷ links) (suc place) l m e same up name = by (bytes_eq x.site.name name) (joined-kept links place l m e same up name)
  where
    by : (b : Bool) → is_up (find (is_named name) (slice_set links place m)) ≡ is_up (find (is_named name) links) → is_up (cond b (Some x) (find (is_named name) (slice_set links place m))) ≡ is_up (cond b (Some x) (find (is_named name) links))
    by true h = refl
    by false h = h

-- one direction of the link at a place changes
pub changes-at : (links : List LinkState) (place : ℕ) (l : LinkState) (direction : Direction) (change : Channel → Channel) → AreApart (names_in links) → slice_get links place ≡ Some l → Changes place direction change links (slice_set links place (on_channel direction change l))
changes-at links place l direction change h e = record {
  sites = changed-at links place l direction change h e ∙ ap (λ n. change_channel n direction change (sites_in links)) (sym (name-is links place l e));
  joined = joined-kept links place l (on_channel direction change l) e (name-stays direction) refl;
}
  where
    name-stays : (d : Direction) → (with_channel d change l.site).name ≡ l.site.name
    name-stays ToLeaf = refl
    name-stays ToHub = refl

-- the link is up from now on, or down
pub turns-at : (links : List LinkState) (place : ℕ) (l : LinkState) (up : Bool) → AreApart (names_in links) → slice_get links place ≡ Some l → TurnsAt place up links (slice_set links place (record { site = l.site; joined = up }))
turns-at links place l up h e = record {
  sites = sites-kept links place l (record { site = l.site; joined = up }) e refl;
  now = now links place l h e;
  others = λ n. others links place l n h e;
}
  where
    sites-kept : (links : List LinkState) (place : ℕ) (l m : LinkState) → slice_get links place ≡ Some l → m.site ≡ l.site → sites_in (slice_set links place m) ≡ sites_in links
    sites-kept [] place l m e same = absurd (cc)
    sites-kept (x ∷ links) zero l m e same = (let z : x ≡ l = cc in ap (λ s. s ∷ sites_in links) (same ∙ ap (λ (y : LinkState). y.site) (sym z)))
    sites-kept (x ∷ links) (suc place) l m e same = ap (λ s. x.site ∷ s) (sites-kept links place l m e same)

    at-own : (links : List LinkState) (place : ℕ) (l m : LinkState) → AreApart (names_in links) → slice_get links place ≡ Some l → m.site ≡ l.site → joined_in (slice_set links place m) l.site.name ≡ m.joined
    at-own [] place l m h e same = absurd (cc)
    at-own (x ∷ links) zero l m h e same = ap (λ b. is_up (cond b (Some m) (find (is_named l.site.name) links))) (ap (λ (s : Site). bytes_eq s.name l.site.name) same ∙ own-name l.site.name)
    at-own (x ∷ links) (suc place) l m h e same = ap (λ b. is_up (cond b (Some x) (find (is_named l.site.name) (slice_set links place m)))) (others-names x links place l h e) ∙ at-own links place l m (apart-behind x.site.name (names_in links) h) e same

    now : (links : List LinkState) (place : ℕ) (l : LinkState) → AreApart (names_in links) → slice_get links place ≡ Some l → joined_in (slice_set links place (record { site = l.site; joined = up })) (name_at links place) ≡ up
    now links place l h e = ap (joined_in (slice_set links place (record { site = l.site; joined = up }))) (name-is links place l e) ∙ at-own links place l (record { site = l.site; joined = up }) h e refl

    elsewhere : (links : List LinkState) (place : ℕ) (l m : LinkState) (n : List ℕ) → slice_get links place ≡ Some l → m.site ≡ l.site → bytes_eq l.site.name n ≡ false → joined_in (slice_set links place m) n ≡ joined_in links n
    elsewhere [] place l m n e same other = absurd (cc)
    elsewhere (x ∷ links) zero l m n e same other =
        let z : x ≡ l = cc in
        ap (λ b. is_up (cond b (Some m) (find (is_named n) links))) (ap (λ (s : Site). bytes_eq s.name n) same ∙ other)
        ∙ sym (ap (λ b. is_up (cond b (Some x) (find (is_named n) links))) (ap (λ (y : LinkState). bytes_eq y.site.name n) z ∙ other))
    elsewhere (x ∷ links) (suc place) l m n e same other = by (bytes_eq x.site.name n) (elsewhere links place l m n e same other)
      where
        by : (b : Bool) → is_up (find (is_named n) (slice_set links place m)) ≡ is_up (find (is_named n) links) → is_up (cond b (Some x) (find (is_named n) (slice_set links place m))) ≡ is_up (cond b (Some x) (find (is_named n) links))
        by true h = refl
        by false h = h

    others : (links : List LinkState) (place : ℕ) (l : LinkState) (n : List ℕ) → AreApart (names_in links) → slice_get links place ≡ Some l → (n ≡ name_at links place) ⊎ (joined_in (slice_set links place (record { site = l.site; joined = up })) n ≡ joined_in links n)
    others links place l n h e = by (bytes_eq l.site.name n) refl
      where
        by : (b : Bool) → bytes_eq l.site.name n ≡ b → (n ≡ name_at links place) ⊎ (joined_in (slice_set links place (record { site = l.site; joined = up })) n ≡ joined_in links n)
        by true q = inl (sym (same-name l.site.name n q) ∙ sym (name-is links place l e))
        by false q = inr (elsewhere links place l (record { site = l.site; joined = up }) n e refl q)

-- ---- found by name

-- the place that is found is the first of the name
pub position-is : (name : List ℕ) (links : List LinkState) (from place : ℕ) → position_from (is_named name) from links ≡ Some place → (n : ℕ) × (place ≡ from + n) × (l : LinkState) × (slice_get links n ≡ Some l) × (bytes_eq l.site.name name ≡ true)
position-is name [] from place e = absurd (cc)
position-is name (x ∷ links) from place e = by (bytes_eq x.site.name name) refl e (position-is name links (from + 1) place)
  where
    by : (b : Bool) → bytes_eq x.site.name name ≡ b → cond b (Some from) (position_from (is_named name) (from + 1) links) ≡ Some place
        → (position_from (is_named name) (from + 1) links ≡ Some place → (n : ℕ) × (place ≡ from + 1 + n) × (l : LinkState) × (slice_get links n ≡ Some l) × (bytes_eq l.site.name name ≡ true))
        → (n : ℕ) × (place ≡ from + n) × (l : LinkState) × (slice_get (x ∷ links) n ≡ Some l) × (bytes_eq l.site.name name ≡ true)
    by true q e h = (0, (let z : from ≡ place = cc in omega arith), x, refl, q)
    by false q e h = (let w = h e in (suc w.0, (let z : place ≡ from + 1 + w.0 = w.1 in omega arith), w.2, w.3, w.4))

-- none has the name where no place is found
pub none-found : (name : List ℕ) (links : List LinkState) (from : ℕ) → position_from (is_named name) from links ≡ None → find (is_named name) links ≡ None
none-found name [] from e = refl
none-found name (x ∷ links) from e = by (bytes_eq x.site.name name) e (none-found name links (from + 1))
  where
    by : (b : Bool) → cond b (Some from) (position_from (is_named name) (from + 1) links) ≡ None → (position_from (is_named name) (from + 1) links ≡ None → find (is_named name) links ≡ None) → cond b (Some x) (find (is_named name) links) ≡ None
    by true e h = absurd (cc)
    by false e h = h e

-- ---- what the answers of calls cite

pub read-at : {A : Type 0} (xs : List A) (place : ℕ) (x : A) → place < length xs → x ≡ slice_index_or xs place x → slice_get xs place ≡ Some x
read-at [] place x lt e = absurd (omega arith)
read-at (y ∷ xs) zero x lt e = ap Some (sym e)
read-at (y ∷ xs) (suc place) x lt e = read-at xs place x (omega arith) e

pub same-names : (direction : Direction) (change : Channel → Channel) (l : LinkState) → (on_channel direction change l).site.name ≡ l.site.name
same-names ToLeaf change l = refl
same-names ToHub change l = refl

pub apart-kept : (links : List LinkState) (place : ℕ) (l m : LinkState) → AreApart (names_in links) → slice_get links place ≡ Some l → m.site.name ≡ l.site.name → AreApart (names_in (slice_set links place m))
apart-kept links place l m h e same = subst AreApart (sym (names-kept links place l m e same)) h

-- one direction of a link changed, where it stands
pub changed-there : (seen links : List LinkState) (place : ℕ) (direction : Direction) (change : Channel → Channel) (l m : LinkState) → links ≡ seen → AreApart (names_in links) → place < length seen → l ≡ slice_index_or links place l → m ≡ on_channel direction change l
    → Changes place direction change seen (slice_set links place m)
changed-there seen links place direction change l m same h lt read is =
    let at : slice_get links place ≡ Some l = read-at links place l (subst (λ (ls : List LinkState). place < length ls) (sym same) lt) read in
    subst (λ (old : List LinkState). Changes place direction change old (slice_set links place m)) same
    (subst (λ (x : LinkState). Changes place direction change links (slice_set links place x)) (sym is) (changes-at links place l direction change h at))

pub apart-there : (seen links : List LinkState) (place : ℕ) (l m : LinkState) → links ≡ seen → AreApart (names_in links) → place < length seen → l ≡ slice_index_or links place l → m.site.name ≡ l.site.name → AreApart (names_in (slice_set links place m))
apart-there seen links place l m same h lt read is = apart-kept links place l m h (read-at links place l (subst (λ (ls : List LinkState). place < length ls) (sym same) lt) read) is

pub channel-there : (seen links : List LinkState) (place : ℕ) (direction : Direction) (l : LinkState) → links ≡ seen → AreApart (names_in links) → place < length seen → l ≡ slice_index_or links place l → channel_at seen place direction ≡ channel direction l.site
channel-there seen links place direction l same h lt read =
    ap (λ (ls : List LinkState). channel_at ls place direction) (sym same) ∙ channel-is links place l direction h (read-at links place l (subst (λ (ls : List LinkState). place < length ls) (sym same) lt) read)

pub turned-there : (seen links : List LinkState) (place : ℕ) (up : Bool) (l m : LinkState) → links ≡ seen → AreApart (names_in links) → place < length seen → l ≡ slice_index_or links place l → m ≡ record { site = l.site; joined = up } → TurnsAt place up seen (slice_set links place m)
turned-there seen links place up l m same h lt read is =
    let at : slice_get links place ≡ Some l = read-at links place l (subst (λ (ls : List LinkState). place < length ls) (sym same) lt) read in
    subst (λ (old : List LinkState). TurnsAt place up old (slice_set links place m)) same
    (subst (λ (x : LinkState). TurnsAt place up links (slice_set links place x)) (sym is) (turns-at links place l up h at))

pub name-seen : (seen links : List LinkState) (place : ℕ) (l : LinkState) → links ≡ seen → place < length seen → l ≡ slice_index_or links place l → name_at seen place ≡ l.site.name
name-seen seen links place l same lt read = ap (λ (ls : List LinkState). name_at ls place) (sym same) ∙ name-is links place l (read-at links place l (subst (λ (ls : List LinkState). place < length ls) (sym same) lt) read)

pub up-seen : (seen links : List LinkState) (place : ℕ) (l : LinkState) → links ≡ seen → place < length seen → l ≡ slice_index_or links place l → is_up_at seen place ≡ l.joined
up-seen seen links place l same lt read = ap (λ (ls : List LinkState). is_up_at ls place) (sym same) ∙ ap is_up (read-at links place l (subst (λ (ls : List LinkState). place < length ls) (sym same) lt) read)

pub ok-then : {T E : Type 0} {P Q : Type 0} (r : Result T E) → (P → Q) → OnOk r P → OnOk r Q
ok-then (Ok value) f p = f p
ok-then (Err fault) f p = p

pub if-ok-then : {T E : Type 0} {P Q : T → Type 0} (r : Result T E) → ((value : T) → P value → Q value) → IfOk r P → IfOk r Q
if-ok-then (Ok value) f p = f value p
if-ok-then (Err fault) f p = p

-- a change of a channel that may fail leaves the name
pub name-after : {T E : Type 0} (r : Result T E) (old new : LinkState) (direction : Direction) (change : Channel → Channel) → OnOk r (new ≡ on_channel direction change old) → OnErr r (new ≡ old) → new.site.name ≡ old.site.name
name-after (Ok value) old new direction change ok err = ap (λ (l : LinkState). l.site.name) ok ∙ same-names direction change old
name-after (Err fault) old new direction change ok err = ap (λ (l : LinkState). l.site.name) err

-- ---- one node more

get-more : (names : List (List ℕ)) (name : List ℕ) (i : ℕ) (n : List ℕ) → slice_get (names ++ name ∷ []) i ≡ Some n → (slice_get names i ≡ Some n) ⊎ ((i ≡ length names) × (name ≡ n))
get-more [] name zero n e = inr (refl, (let z : name ≡ n = cc in z))
get-more [] name (suc i) n e = absurd (cc)
get-more (m ∷ names) name zero n e = inl e
get-more (m ∷ names) name (suc i) n e = elim (get-more names name i n e) [
  | inl there ↦ inl there
  | inr last ↦ inr ((let z : i ≡ length names = last.0 in omega arith), last.1)
]

in-names : (names : List (List ℕ)) (i : ℕ) (n : List ℕ) → slice_get names i ≡ Some n → Contains names n
in-names [] i n e = absurd (cc)
in-names (m ∷ names) zero n e = (0, (omega arith), (let z : m ≡ n = cc in z))
in-names (m ∷ names) (suc i) n e = (let w = in-names names i n e in (suc w.0, (let z : w.0 < length names = w.1 in omega arith), w.2))

within : (names : List (List ℕ)) (i : ℕ) (n : List ℕ) → slice_get names i ≡ Some n → i < length names
within [] i n e = absurd (cc)
within (m ∷ names) zero n e = omega arith
within (m ∷ names) (suc i) n e = (let z : i < length names = within names i n e in omega arith)

apart-more : (names : List (List ℕ)) (name : List ℕ) → AreApart names → (Contains names name → ⊥) → AreApart (names ++ name ∷ [])
apart-more names name h fresh i j n a b = by (get-more names name i n a) (get-more names name j n b)
  where
    by : (slice_get names i ≡ Some n) ⊎ ((i ≡ length names) × (name ≡ n)) → (slice_get names j ≡ Some n) ⊎ ((j ≡ length names) × (name ≡ n)) → i ≡ j
    by (inl x) (inl y) = h i j n x y
    by (inl x) (inr y) = absurd (fresh (subst (Contains names) (sym y.1) (in-names names i n x)))
    by (inr x) (inl y) = absurd (fresh (subst (Contains names) (sym x.1) (in-names names j n y)))
    by (inr x) (inr y) = x.0 ∙ sym y.0

names-more : (links : List LinkState) (l : LinkState) → names_in (links ++ l ∷ []) ≡ names_in links ++ l.site.name ∷ []
names-more [] l = refl
names-more (x ∷ links) l = ap (λ ns. x.site.name ∷ ns) (names-more links l)

pub apart-added : (seen links : List LinkState) (l : LinkState) → links ≡ seen → AreApart (names_in links) → (Contains (names_in seen) l.site.name → ⊥) → AreApart (names_in (links ++ l ∷ []))
apart-added seen links l same h fresh = subst AreApart (sym (names-more links l)) (apart-more (names_in links) l.site.name h (λ q. fresh (subst (λ (ls : List LinkState). Contains (names_in ls) l.site.name) same q)))
