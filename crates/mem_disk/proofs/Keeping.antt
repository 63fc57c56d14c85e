-- What keeps the fields of a history in step.
use Rattle.std.proofs.Common.{◌≡◌, ℕ, ◌≤◌, ◌<◌, ◌||◌, Bool, true, false, List, [], ◌∷◌, ◌++◌, length, take, drop, Option, Some, None, option_map, inl, inr, refl, sym, ap, subst, ◌∙◌, arith, length-append, length-drop, take_all, Vec}
use Rattle.std.specs.Prelude.{nat_lt, is_some, All, IfSome, vec_len, vec_capacity}
use Rattle.std.specs.declared.alloc.Global.{Global}
use Rattle.std.proofs.lemmas.List.{map-append, length-map, take-append-le, drop-append-le}
use Rattle.std.proofs.lemmas.List.Elements.{All-push, All-weaker}
use Rattle.std.proofs.lemmas.Bool.{cases_lt}
use Rattle.std.proofs.lemmas.Bool.Decides.{nat_tests}
use Rattle.std.proofs.Math.ListN.{drop_of_length-le}
use Rattle.mem_disk.specs.declared.entry.Entry.{Entry}
use Rattle.mem_disk.specs.declared.entry.Entry.TheVariants.{Sync}
use Rattle.mem_disk.specs.declared.history.History.TheInside.{Inside}
use Rattle.leaf_edges.specs.Disks.{Op, wrote, cut_to, synced}
use Rattle.mem_disk.specs.Contents.{Content, after_op, after_ops, settled, seen_in, after_call, after_calls}
use Rattle.mem_disk.specs.Entries.{op_of, ops_of, first_bytes, EndsWithin}
use Rattle.mem_disk.specs.Histories.{past_of, IsKept}
use Rattle.mem_disk.specs.MemDisks.{content_of, with_tried, has_some, past_seen, past_unsynced, IsChange}
use Rattle.mem_disk.specs.DiskLaws.{has_some-push}
use Rattle.mem_disk.proofs.OpLists.{after_ops-push, after_calls-push}

seen-after_call : (c : Content) (op : Op) → seen_in (after_call c op) ≡ after_op (seen_in c) op
seen-after_call c (wrote place bytes) = after_ops-push c.base c.since (wrote place bytes)
seen-after_call c (cut_to len) = after_ops-push c.base c.since (cut_to len)
seen-after_call c synced = refl

-- what a read gives is what the calls make of the first bytes
pub seen-after_calls : (c : Content) (ops : List Op) → seen_in (after_calls c ops) ≡ after_ops (seen_in c) ops
seen-after_calls c [] = refl
seen-after_calls c (op ∷ ops) = seen-after_calls (after_call c op) ops ∙ ap (λ (b : List ℕ). after_ops b ops) (seen-after_call c op)

pub lt_true : (a b : ℕ) → a < b → nat_lt a b ≡ true
lt_true a b below = grind (arith, nat_tests)

lt_false : (a b : ℕ) → b ≤ a → nat_lt a b ≡ false
lt_false a b above = grind (arith, nat_tests)

has_some-long : (ops : List Op) → 0 < length ops → has_some ops ≡ true
has_some-long [] some = absurd (omega arith)
has_some-long (op ∷ ops) some = refl

has_some-drop : (n : ℕ) (ops : List Op) → has_some (drop n ops) ≡ nat_lt n (length ops)
has_some-drop n ops = elim (cases_lt n (length ops)) [
  | inl below ↦ has_some-long (drop n ops) (omega (arith, length-drop n ops)) ∙ sym (lt_true n (length ops) below)
  | inr above ↦ ap has_some (drop_of_length-le ops {i = n} above) ∙ sym (lt_false n (length ops) above)
]

or_false : (b : Bool) → (b || false) ≡ b
or_false true = refl
or_false false = refl

or_true : (b : Bool) → (b || true) ≡ true
or_true true = refl
or_true false = refl

unsynced-tried : (c : Content) (tried : Option Entry) → has_some (with_tried c (option_map op_of tried)).since ≡ (has_some c.since || is_some tried)
unsynced-tried c None = sym (or_false (has_some c.since))
unsynced-tried c (Some entry) = has_some-push c.since (op_of entry) ∙ sym (or_true (has_some c.since))

first_bytes-push : (entries : List Entry) (entry : Entry) (kept bytes : List ℕ) → first_bytes (entries ++ entry ∷ []) kept bytes ≡ kept
first_bytes-push [] entry kept bytes = refl
first_bytes-push (e ∷ entries) entry kept bytes = refl

pub first_bytes-some : (entries : List Entry) (kept bytes : List ℕ) → 0 < length entries → first_bytes entries kept bytes ≡ kept
first_bytes-some [] kept bytes some = absurd (omega arith)
first_bytes-some (e ∷ entries) kept bytes some = refl

pub ends_within : (room more : ℕ) → room ≤ more → (op : Op) → EndsWithin room op → EndsWithin more op
ends_within room more le (wrote place bytes) ends = omega (arith, le, ends)
ends_within room more le (cut_to len) ends = tt
ends_within room more le synced ends = tt

pub tried_within : (room more : ℕ) → room ≤ more → (tried : Option Op) → IfSome tried (EndsWithin room) → IfSome tried (EndsWithin more)
tried_within room more le None ends = tt
tried_within room more le (Some op) ends = ends_within room more le op ends

untried : (tried : Option Entry) → option_map op_of tried ≡ None → is_some tried ≡ false
untried None none = refl
untried (Some entry) none = absurd (cc)

module _ (h : Inside) (kept : IsKept h) where
  pub kept_seen : past_seen (past_of h) ≡ h.bytes.items
  kept_seen = seen-after_calls (settled (past_of h).first) (past_of h).done ∙ kept.seen

  pub kept_unsynced : past_unsynced (past_of h) ≡ (nat_lt h.synced (length h.entries.items) || is_some h.tried)
  kept_unsynced =
      unsynced-tried (content_of (past_of h)) h.tried
      ∙ ap (λ (b : Bool). b || is_some h.tried) (ap (λ (c : Content). has_some c.since) kept.content ∙ has_some-drop h.synced (past_of h).done ∙ ap (nat_lt h.synced) (length-map h.entries.items op_of))

  -- where an entry is unsynced or a write was tried, something is unsynced
  pub unsynced_entry : h.synced < length h.entries.items → past_unsynced (past_of h) ≡ true
  unsynced_entry below = kept_unsynced ∙ ap (λ (b : Bool). b || is_some h.tried) (lt_true h.synced (length h.entries.items) below)

  pub unsynced_tried : length h.entries.items ≤ h.synced → past_unsynced (past_of h) ≡ is_some h.tried
  unsynced_tried above = kept_unsynced ∙ ap (λ (b : Bool). b || is_some h.tried) (lt_false h.synced (length h.entries.items) above)

  -- where something is unsynced and no write was tried, some entry is
  pub dirty_entry : (past_of h).tried ≡ None → past_unsynced (past_of h) ≡ true → h.synced < length h.entries.items
  dirty_entry idle dirt = elim (cases_lt h.synced (length h.entries.items)) [
    | inl below ↦ below
    | inr above ↦
        let none : is_some h.tried ≡ false = untried h.tried idle in
        let some : past_unsynced (past_of h) ≡ is_some h.tried = unsynced_tried above in
        absurd (cc)
  ]

-- one write or cut more
module _ (h : Inside) (kept : IsKept h) (bytes first : Vec ℕ Global) (entries : Vec Entry Global) (entry : Entry) (more : entries.items ≡ h.entries.items ++ entry ∷ []) (change : IsChange (op_of entry))
    (same : first.items ≡ (past_of h).first) (after : bytes.items ≡ after_op h.bytes.items (op_of entry)) (fits : EndsWithin (vec_capacity bytes) (op_of entry))
    (roomier : vec_capacity h.bytes ≤ vec_capacity bytes) (sync_room : vec_len entries < vec_capacity entries) where
  ops_more : ops_of entries.items ≡ ops_of h.entries.items ++ op_of entry ∷ []
  ops_more = ap ops_of more ∙ map-append op_of h.entries.items (entry ∷ [])

  first_more : first_bytes entries.items first.items bytes.items ≡ (past_of h).first
  first_more = ap (λ (l : List Entry). first_bytes l first.items bytes.items) more ∙ first_bytes-push h.entries.items entry first.items bytes.items ∙ same

  grows : (c : Content) (op : Op) → IsChange op → after_call c op ≡ record { base = c.base; since = c.since ++ op ∷ [] }
  grows c (wrote place new) is = refl
  grows c (cut_to len) is = refl
  grows c synced is = absurd is

  long : length h.entries.items ≡ length (ops_of h.entries.items)
  long = sym (length-map h.entries.items op_of)

  content : after_calls (settled (past_of h).first) (ops_of h.entries.items ++ op_of entry ∷ []) ≡ record { base = after_ops (past_of h).first (take h.synced (ops_of h.entries.items ++ op_of entry ∷ [])); since = drop h.synced (ops_of h.entries.items ++ op_of entry ∷ []) }
  content =
      let here : h.synced ≤ length (ops_of h.entries.items) = omega (arith, kept.mark, long) in
      after_calls-push (settled (past_of h).first) (ops_of h.entries.items) (op_of entry) ∙ ap (λ (c : Content). after_call c (op_of entry)) kept.content
      ∙ grows (record { base = after_ops (past_of h).first (take h.synced (ops_of h.entries.items)); since = drop h.synced (ops_of h.entries.items) }) (op_of entry) change
      ∙ ap (λ (l : List Op). record { base = after_ops (past_of h).first l; since = drop h.synced (ops_of h.entries.items) ++ op_of entry ∷ [] }) (sym (take-append-le h.synced (ops_of h.entries.items) (op_of entry ∷ []) here))
      ∙ ap (λ (l : List Op). record { base = after_ops (past_of h).first (take h.synced (ops_of h.entries.items ++ op_of entry ∷ [])); since = l }) (sym (drop-append-le h.synced (ops_of h.entries.items) (op_of entry ∷ []) here))

  abbrev Content-is : List ℕ → List Op → Type 0
  Content-is f o = after_calls (settled f) o ≡ record { base = after_ops f (take h.synced o); since = drop h.synced o }

  pub kept_added : IsKept (record { bytes = bytes; first = first; entries = entries; synced = h.synced; tried = h.tried })
  kept_added = record {
    seen = ap (λ (f : List ℕ). after_ops f (ops_of entries.items)) first_more ∙ ap (after_ops (past_of h).first) ops_more ∙ after_ops-push (past_of h).first (ops_of h.entries.items) (op_of entry)
        ∙ ap (λ (b : List ℕ). after_op b (op_of entry)) kept.seen ∙ sym after;
    mark = omega (arith, kept.mark, ap (λ (l : List Entry). length l) more, length-append h.entries.items (entry ∷ []));
    content = subst (λ (f : List ℕ). Content-is f (ops_of entries.items)) (sym first_more) (subst (Content-is (past_of h).first) (sym ops_more) content);
    sync_room = λ some. sync_room;
    first_room = omega (arith, kept.first_room, roomier, ap (λ (l : List ℕ). length l) first_more);
    room = subst (All (EndsWithin (vec_capacity bytes))) (sym ops_more)
        (All-push (EndsWithin (vec_capacity bytes)) (ops_of h.entries.items) (op_of entry) (All-weaker (EndsWithin (vec_capacity h.bytes)) (EndsWithin (vec_capacity bytes)) (ends_within (vec_capacity h.bytes) (vec_capacity bytes) roomier) (ops_of h.entries.items) kept.room) fits);
    tried_room = tried_within (vec_capacity h.bytes) (vec_capacity bytes) roomier (option_map op_of h.tried) kept.tried_room;
  }

-- one sync more, where some entry stands already
module _ (h : Inside) (kept : IsKept h) (entries : Vec Entry Global) (mark : ℕ) (some : 0 < length h.entries.items) (more : entries.items ≡ h.entries.items ++ Sync ∷ []) (all : mark ≡ length entries.items) where
  ops_synced : ops_of entries.items ≡ ops_of h.entries.items ++ synced ∷ []
  ops_synced = ap ops_of more ∙ map-append op_of h.entries.items (Sync ∷ [])

  first_same : first_bytes entries.items h.first.items h.bytes.items ≡ (past_of h).first
  first_same = ap (λ (l : List Entry). first_bytes l h.first.items h.bytes.items) more ∙ first_bytes-push h.entries.items Sync h.first.items h.bytes.items ∙ sym (first_bytes-some h.entries.items h.first.items h.bytes.items some)

  whole : mark ≡ length (ops_of entries.items)
  whole = all ∙ sym (length-map entries.items op_of)

  abbrev Synced-is : List ℕ → List Op → Type 0
  Synced-is f o = after_calls (settled f) o ≡ settled (after_ops f o)

  settled_all : Synced-is (past_of h).first (ops_of h.entries.items ++ synced ∷ [])
  settled_all =
      after_calls-push (settled (past_of h).first) (ops_of h.entries.items) synced
      ∙ ap settled (seen-after_calls (settled (past_of h).first) (ops_of h.entries.items) ∙ sym (after_ops-push (past_of h).first (ops_of h.entries.items) synced))

  settled_here : Synced-is (first_bytes entries.items h.first.items h.bytes.items) (ops_of entries.items)
  settled_here = subst (λ (f : List ℕ). Synced-is f (ops_of entries.items)) (sym first_same) (subst (Synced-is (past_of h).first) (sym ops_synced) settled_all)

  pub kept_synced : IsKept (record { bytes = h.bytes; first = h.first; entries = entries; synced = mark; tried = h.tried })
  kept_synced = record {
    seen = ap (λ (f : List ℕ). after_ops f (ops_of entries.items)) first_same ∙ ap (after_ops (past_of h).first) ops_synced ∙ after_ops-push (past_of h).first (ops_of h.entries.items) synced ∙ kept.seen;
    mark = omega (arith, all);
    content = settled_here
        ∙ ap (λ (l : List Op). record { base = after_ops (first_bytes entries.items h.first.items h.bytes.items) l; since = [] }) (sym (take_all mark (ops_of entries.items) (omega (arith, whole))))
        ∙ ap (λ (l : List Op). record { base = after_ops (first_bytes entries.items h.first.items h.bytes.items) (take mark (ops_of entries.items)); since = l }) (sym (drop_of_length-le (ops_of entries.items) {i = mark} (omega (arith, whole))));
    sync_room = λ below. absurd (omega (arith, below, all));
    first_room = omega (arith, kept.first_room, ap (λ (l : List ℕ). length l) first_same);
    room = subst (All (EndsWithin (vec_capacity h.bytes))) (sym ops_synced) (All-push (EndsWithin (vec_capacity h.bytes)) (ops_of h.entries.items) synced kept.room tt);
    tried_room = kept.tried_room;
  }
