use Rattle.std.proofs.Common.{◌≡◌, ◌<◌, ◌++◌, ◌∙◌, ap, sym, arith, length, take, vec_capacity}
use Rattle.std.specs.Prelude.{if◌then◌else◌}
use Rattle.std.proofs.lemmas.Bool.Decides.{nat_tests}
use Rattle.mem_disk.specs.Contents.{after_ops}
use Rattle.mem_disk.specs.Entries.{ops_of, first_bytes}
use Rattle.mem_disk.proofs.Keeping.{first_bytes-some}
use Rattle.mem_disk.proofs.Replaying.{front_room, whole_front}
use Rattle.mem_disk.proofs.history.rewind.Goals as goal

pub replay-requires : goal.replay-requires
replay-requires c =
    front_room (vec_capacity c.args.bytes.now) (vec_capacity c.extend_from_slice-grown.new.self) c.args.synced c.args.entries.now
    (omega (arith, c.clear.ensures.capacity, c.extend_from_slice-grown.ensures.capacity)) c.requires.room

pub returns-clause-items : goal.returns-clause-items
returns-clause-items c =
    let entries = c.args.entries.now in
    let first = c.args.first.now in
    let some : 0 < length entries = grind (arith, nat_tests, c.is_empty.ensures, c.if-is_empty.false) in
    let kept : first_bytes entries first c.args.bytes.now.items ≡ first = first_bytes-some entries first c.args.bytes.now.items some in
    let ok = c.extend_from_slice-grown.ensures.succeeds (omega (arith, c.clear.ensures.len, c.clear.ensures.capacity, c.requires.first, ap length kept)) in
    let grown : c.extend_from_slice-grown.new.self.items ≡ first =
    c.extend_from_slice-grown.ensures.items ∙ ap (λ b. if b then c.clear.new.self.items ++ first else c.clear.new.self.items) ok ∙ ap (λ l. l ++ first) c.clear.ensures.items in
    c.replay.ensures.items ∙ whole_front c.extend_from_slice-grown.new.self.items c.args.synced entries
    ∙ ap (λ b. after_ops b (take c.args.synced (ops_of entries))) (grown ∙ sym kept)
