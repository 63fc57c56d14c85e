-- The calls of several entries, done again.
use Rattle.std.proofs.Common.{◌≡◌, ℕ, ◌+◌, ◌-◌, ◌≤◌, ◌<◌, Bool, true, false, List, [], ◌∷◌, ◌++◌, map, length, take, drop, Option, Some, None, refl, sym, ap, subst, ◌∙◌, arith}
use Rattle.std.specs.Prelude.{All, slice_index_or, option_to_list}
use Rattle.std.proofs.lemmas.List.{map-append, map-id, length-map, take_more, take_rest, take-append-drop, take-map, drop-map, get_or-map}
use Rattle.std.proofs.lemmas.List.Elements.{All-take, All-drop, All-weaker}
use Rattle.mem_disk.specs.declared.entry.Entry.{Entry}
use Rattle.mem_disk.specs.declared.fate.Fate.TheVariants.{Torn}
use Rattle.leaf_edges.specs.Disks.{Op}
use Rattle.mem_disk.specs.Contents.{seen_in, after_op, after_ops, torn_op, picked}
use Rattle.mem_disk.specs.Entries.{op_of, ops_of, redone, EndsWithin}
use Rattle.mem_disk.specs.MemDisks.{with_tried}
use Rattle.mem_disk.proofs.Keeping.{ends_within}
use Rattle.mem_disk.proofs.OpLists.{after_ops-push, after_ops-append}

-- one entry more
pub replay_more : (b : List ℕ) (torn : Bool) (entries : List Entry) (i : ℕ) (entry : Entry) → i < length entries → entry ≡ slice_index_or entries i entry
    → after_ops b (map (redone torn) (ops_of (take (i + 1) entries))) ≡ after_op (after_ops b (map (redone torn) (ops_of (take i entries)))) (redone torn (op_of entry))
replay_more b torn entries i entry within is =
    let front : take (i + 1) entries ≡ take i entries ++ entry ∷ [] = take_more entries i entry within ∙ ap (λ (e : Entry). take i entries ++ e ∷ []) (sym is) in
    let ops : map (redone torn) (ops_of (take (i + 1) entries)) ≡ map (redone torn) (ops_of (take i entries)) ++ redone torn (op_of entry) ∷ [] =
    ap (λ (l : List Entry). map (redone torn) (ops_of l)) front ∙ ap (map (redone torn)) (map-append op_of (take i entries) (entry ∷ [])) ∙ map-append (redone torn) (ops_of (take i entries)) (op_of entry ∷ []) in
    ap (after_ops b) ops ∙ after_ops-push b (map (redone torn) (ops_of (take i entries))) (redone torn (op_of entry))

-- an entry of the list has room where each has
pub entry_room : (room : ℕ) (entries : List Entry) (i : ℕ) (entry : Entry) → i < length entries → entry ≡ slice_index_or entries i entry → All (EndsWithin room) (ops_of entries) → EndsWithin room (op_of entry)
entry_room room entries i entry within is each =
    subst (EndsWithin room) (get_or-map op_of entries i entry (op_of entry) within ∙ ap op_of (sym is)) (each i (op_of entry) (omega (arith, within, length-map entries op_of)))

pub ops_take : (n : ℕ) (entries : List Entry) → ops_of (take n entries) ≡ take n (ops_of entries)
ops_take n entries = sym (take-map op_of n entries)

-- the entries behind a place, as a slice of them has them
pub ops_rest : (n : ℕ) (entries : List Entry) → ops_of (take (length entries - n) (drop n entries)) ≡ drop n (ops_of entries)
ops_rest n entries = ap ops_of (take_rest entries n) ∙ sym (drop-map op_of n entries)

pub front_room : (room more n : ℕ) (entries : List Entry) → room ≤ more → All (EndsWithin room) (ops_of entries) → All (EndsWithin more) (ops_of (take n entries))
front_room room more n entries le each =
    subst (All (EndsWithin more)) (sym (ops_take n entries)) (All-take (EndsWithin more) n (ops_of entries) (All-weaker (EndsWithin room) (EndsWithin more) (ends_within room more le) (ops_of entries) each))

pub rest_room : (room more n : ℕ) (entries : List Entry) → room ≤ more → All (EndsWithin room) (ops_of entries) → All (EndsWithin more) (ops_of (take (length entries - n) (drop n entries)))
rest_room room more n entries le each =
    subst (All (EndsWithin more)) (sym (ops_rest n entries)) (All-drop (EndsWithin more) n (ops_of entries) (All-weaker (EndsWithin room) (EndsWithin more) (ends_within room more le) (ops_of entries) each))

-- done again whole, the calls up to a place
pub whole_front : (b : List ℕ) (n : ℕ) (entries : List Entry) → after_ops b (map (redone false) (ops_of (take n entries))) ≡ after_ops b (take n (ops_of entries))
whole_front b n entries = ap (after_ops b) (map-id (ops_of (take n entries)) ∙ ops_take n entries)

-- a stop that loses nothing
pub all_picked : (first : List ℕ) (n : ℕ) (ops : List Op) (tried : Option Op)
    → after_ops (after_ops first ops) (map (redone false) (option_to_list tried)) ≡ seen_in (with_tried (record { base = after_ops first (take n ops); since = drop n ops }) tried)
all_picked first n ops None = ap (after_ops first) (sym (take-append-drop n ops)) ∙ after_ops-append first (take n ops) (drop n ops)
all_picked first n ops (Some op) =
    ap (λ (b : List ℕ). after_op b op) (ap (after_ops first) (sym (take-append-drop n ops)) ∙ after_ops-append first (take n ops) (drop n ops))
    ∙ sym (after_ops-push (after_ops first (take n ops)) (drop n ops) op)

-- a stop that tears each write that is unsynced
pub torn_picked : (base : List ℕ) (since : List Op) (tried : Option Op)
    → after_ops (after_ops base (map (redone true) since)) (map (redone true) (option_to_list tried)) ≡ picked Torn (with_tried (record { base = base; since = since }) tried)
torn_picked base since None = refl
torn_picked base since (Some op) =
    sym (after_ops-push base (map torn_op since) (torn_op op)) ∙ ap (after_ops base) (sym (map-append torn_op since (op ∷ [])))
