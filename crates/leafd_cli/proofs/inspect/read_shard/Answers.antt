use Rattle.std.proofs.Common.{◌≡◌, ℕ, ap, sym, subst, ◌∙◌}
use Rattle.std.specs.Prelude.{Err, MatchOption}
use Rattle.leaf_edges.specs.Files.{CountsDisk}
use Rattle.shard_store.specs.Reads.{ReadsStore}
use Rattle.leafd_cli.specs.Folders.{contents}
use Rattle.leafd_cli.proofs.Sparing.{spare_kept, handed_bytes, same_bytes, same_seen, fault_told, causes_told}
use Rattle.leafd_cli.proofs.inspect.read_shard.Goals as goal

pub returns-in-Ok-clause-kept : goal.returns-in-Ok-clause-kept
returns-in-Ok-clause-kept g c = λ tells.
    let F = g.F.Files in
    let D = g.F.D.Disk in
    let out_is = c.deref.ensures.value ∙ c.in_ok-name.ensures in
    let back_is = c.deref-2.ensures.value ∙ c.in_ok-name.ensures in
    let same = same_bytes D.seen D.images D.moment D.left_since D.unsynced D.done D.failed c.in_ok-spare.spare c.read_streams-read.new.spare (c.in-Ok.ensures.spare_same (g.met.F.Files.disks_tell tells)) in
    let bytes = ap (contents F.place D.seen c.args.files.now) (sym out_is) ∙ handed_bytes D.seen D.images D.moment D.left_since D.unsynced D.done D.failed (F.place c.args.files.now c.deref.result.now) c.in_ok-spare.spare (c.in_ok-spare.ensures.disk tells) ∙ same_seen D.seen D.images D.moment D.left_since D.unsynced D.done D.failed c.in_ok-spare.spare c.read_streams-read.new.spare same in
    spare_kept F.place F.is_out D.seen F.handed F.text_of _ c.deref.result.now c.deref-2.result.now c.args.files.now c.disk.new.self c.put_back.new.files c.in_ok-spare.spare c.read_streams-read.new.spare out_is back_is (c.requires.in_place tells) bytes same (c.in_ok-spare.ensures.goes tells) (c.put_back.ensures.goes tells)

pub returns-clause-kept : goal.returns-clause-kept
returns-clause-kept g c = λ tells.
    let F = g.F.Files in
    let D = g.F.D.Disk in
    let out_is = c.deref.ensures.value ∙ c.in_ok-name.ensures in
    let back_is = c.deref-2.ensures.value ∙ c.in_ok-name.ensures in
    let same = same_bytes D.seen D.images D.moment D.left_since D.unsynced D.done D.failed c.in_ok-spare.spare c.read_streams-read.new.spare (c.in-Err.ensures.spare_same (g.met.F.Files.disks_tell tells)) in
    let bytes = ap (contents F.place D.seen c.args.files.now) (sym out_is) ∙ handed_bytes D.seen D.images D.moment D.left_since D.unsynced D.done D.failed (F.place c.args.files.now c.deref.result.now) c.in_ok-spare.spare (c.in_ok-spare.ensures.disk tells) ∙ same_seen D.seen D.images D.moment D.left_since D.unsynced D.done D.failed c.in_ok-spare.spare c.read_streams-read.new.spare same in
    spare_kept F.place F.is_out D.seen F.handed F.text_of _ c.deref.result.now c.deref-2.result.now c.args.files.now c.disk.new.self c.put_back.new.files c.in_ok-spare.spare c.read_streams-read.new.spare out_is back_is (c.requires.in_place tells) bytes same (c.in_ok-spare.ensures.goes tells) (c.put_back.ensures.goes tells)

pub returns-clause-answer : goal.returns-clause-answer
returns-clause-answer g c = λ tells.
    let F = g.F.Files in
    let D = g.F.D.Disk in
    let out_is = c.deref.ensures.value ∙ c.in_ok-name.ensures in
    let bytes = ap (contents F.place D.seen c.args.files.now) (sym out_is) ∙ handed_bytes D.seen D.images D.moment D.left_since D.unsynced D.done D.failed (F.place c.args.files.now c.deref.result.now) c.in_ok-spare.spare (c.in_ok-spare.ensures.disk tells) in
    fault_told c.args.shard _ _ c.in-Err.fault c.fault_of.result c.fault_of.ensures (subst (λ b. ReadsStore (D.seen c.args.disk.now) b (Err c.in-Err.fault)) (sym bytes) (c.in-Err.ensures.answer (g.met.F.Files.disks_tell tells)))

pub returns-clause-cause : goal.returns-clause-cause
returns-clause-cause g c = causes_told g.F.D.Disk.faults c.args.shard c.in-Err.fault c.fault_of.result c.args.disk.now c.read_streams-read.new.disk c.in_ok-spare.spare c.read_streams-read.new.spare _ _ _ _ c.fault_of.ensures c.requires.fresh (c.put_back.ensures.faults ∙ c.in_ok-spare.ensures.cause) c.in_ok-spare.ensures.count c.in-Err.ensures.cause
    (subst (λ (n : ℕ). MatchOption c.read_streams-read.new.spare (g.F.Files.disk_faults c.put_back.new.files ≡ n) (λ d. CountsDisk (g.F.D.Disk.faults d) n (g.F.Files.disk_faults c.put_back.new.files))) c.in_ok-spare.ensures.disk_faults c.put_back.ensures.disk_faults)
