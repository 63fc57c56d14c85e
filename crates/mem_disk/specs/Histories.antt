-- What holds of the fields of a history.
use Rattle.std.specs.Prelude.{◌≡◌, ◌<◌, ◌≤◌, length, take, drop, option_map, IfSome, All, vec_len, vec_capacity}
use Rattle.mem_disk.specs.Contents.{after_ops, after_calls, settled}
use Rattle.mem_disk.specs.Entries.{op_of, ops_of, first_bytes, EndsWithin}
use Rattle.mem_disk.specs.MemDisks.{Past}
use Rattle.mem_disk.specs.declared.history.History.TheInside.{Inside}

abbrev pub past_of : Inside → Past
past_of h = record { first = first_bytes h.entries.items h.first.items h.bytes.items; done = ops_of h.entries.items; tried = option_map op_of h.tried }

pub record IsKept (h : Inside) : Type 0 where
  -- the bytes are those that the entries give
  pub seen : after_ops (past_of h).first (past_of h).done ≡ h.bytes.items
  -- the entries from the mark on are unsynced
  pub mark : h.synced ≤ length h.entries.items
  pub content : after_calls (settled (past_of h).first) (past_of h).done ≡ record { base = after_ops (past_of h).first (take h.synced (past_of h).done); since = drop h.synced (past_of h).done }
  -- there is room for the entry of the next sync, and for each image that a crash may put in place
  pub sync_room : h.synced < length h.entries.items → vec_len h.entries < vec_capacity h.entries
  pub first_room : length (past_of h).first ≤ vec_capacity h.bytes
  pub room : All (EndsWithin (vec_capacity h.bytes)) (past_of h).done
  pub tried_room : IfSome (past_of h).tried (EndsWithin (vec_capacity h.bytes))
