use Rattle.std.proofs.Common.{◌≢◌, ℕ, List, ap, sym, subst, ◌∙◌}
use Rattle.std.specs.Prelude.{Option, Some, Ok}
use Rattle.std.specs.Option.{option_map}
use Rattle.leaf_edges.specs.Files.{IfHanded, GoesOut, SameFiles}
use Rattle.record_log.specs.declared.fault.Part.TheVariants.{Spare}
use Rattle.leafd_cli.specs.Folders.{contents, path}
use Rattle.leafd_cli.specs.Inspections.{ReadsDisks}
use Rattle.leafd_cli.proofs.Handing.{main_kept}
use Rattle.leafd_cli.proofs.Sparing.{handed_bytes}
use Rattle.leafd_cli.proofs.Pushing.{paths_apart, shard_faulted}
use Rattle.leafd_cli.proofs.inspect.read_store.Goals as goal

pub read_shard-read-requires-clause-in_place : goal.read_shard-read-requires-clause-in_place
read_shard-read-requires-clause-in_place g c = λ tells.
    let F = g.F.Files in
    let D = g.F.D.Disk in
    let files = c.args.files.now in
    let name = c.deref.result.now in
    let out_is = c.deref.ensures.value ∙ c.in_ok-name.ensures in
    let handed = subst (λ (o : Option _). IfHanded (Ok o) (λ d. GoesOut F.place F.is_out F.handed F.text_of name files c.disk.new.self) (SameFiles F.place F.is_out F.handed F.text_of files c.disk.new.self)) c.in-Some.is (c.in_ok-disk.ensures.goes tells) in
    let bytes = handed_bytes D.seen D.images D.moment D.left_since D.unsynced D.done D.failed (F.place files name) c.in_ok-disk.field-0 (c.in_ok-disk.ensures.disk tells) ∙ ap (option_map D.seen) c.in-Some.is in
    let apart = subst (λ (n : List ℕ). path c.args.dir.now c.args.shard Spare ≢ n) (sym out_is) (paths_apart c.args.dir.now c.args.shard) in
    handed.other_outs (path c.args.dir.now c.args.shard Spare) apart ∙ c.requires.in_place tells (path c.args.dir.now c.args.shard Spare)

pub returns-in-Ok-clause-kept : goal.returns-in-Ok-clause-kept
returns-in-Ok-clause-kept g c = λ tells.
    let F = g.F.Files in
    let D = g.F.D.Disk in
    let files = c.args.files.now in
    let name = c.deref.result.now in
    let out_is = c.deref.ensures.value ∙ c.in_ok-name.ensures in
    let handed = subst (λ (o : Option _). IfHanded (Ok o) (λ d. GoesOut F.place F.is_out F.handed F.text_of name files c.disk.new.self) (SameFiles F.place F.is_out F.handed F.text_of files c.disk.new.self)) c.in-Some.is (c.in_ok-disk.ensures.goes tells) in
    let bytes = handed_bytes D.seen D.images D.moment D.left_since D.unsynced D.done D.failed (F.place files name) c.in_ok-disk.field-0 (c.in_ok-disk.ensures.disk tells) ∙ ap (option_map D.seen) c.in-Some.is in
    main_kept F.place F.is_out D.seen F.handed F.text_of name c.deref-2.result.now files c.disk.new.self c.read_shard-read.new.files c.back.new.self c.read_shard-read.new.disk (c.deref-2.ensures.value ∙ sym c.deref.ensures.value) (c.requires.in_place tells name) (bytes ∙ ap Some (sym (c.in-Ok.ensures.same tells))) handed (c.in-Ok.ensures.kept tells) (c.back.ensures.goes tells)

pub returns-clause-kept : goal.returns-clause-kept
returns-clause-kept g c = λ tells.
    let F = g.F.Files in
    let D = g.F.D.Disk in
    let files = c.args.files.now in
    let name = c.deref.result.now in
    let out_is = c.deref.ensures.value ∙ c.in_ok-name.ensures in
    let handed = subst (λ (o : Option _). IfHanded (Ok o) (λ d. GoesOut F.place F.is_out F.handed F.text_of name files c.disk.new.self) (SameFiles F.place F.is_out F.handed F.text_of files c.disk.new.self)) c.in-Some.is (c.in_ok-disk.ensures.goes tells) in
    let bytes = handed_bytes D.seen D.images D.moment D.left_since D.unsynced D.done D.failed (F.place files name) c.in_ok-disk.field-0 (c.in_ok-disk.ensures.disk tells) ∙ ap (option_map D.seen) c.in-Some.is in
    main_kept F.place F.is_out D.seen F.handed F.text_of name c.deref-2.result.now files c.disk.new.self c.read_shard-read.new.files c.back.new.self c.read_shard-read.new.disk (c.deref-2.ensures.value ∙ sym c.deref.ensures.value) (c.requires.in_place tells name) (bytes ∙ ap Some (sym (c.in-Err.ensures.same tells))) handed (c.in-Err.ensures.kept tells) (c.back.ensures.goes tells)

pub returns-in-Ok-clause-answer : goal.returns-in-Ok-clause-answer
returns-in-Ok-clause-answer g c = λ tells.
    let F = g.F.Files in
    let D = g.F.D.Disk in
    let files = c.args.files.now in
    let name = c.deref.result.now in
    let out_is = c.deref.ensures.value ∙ c.in_ok-name.ensures in
    let handed = subst (λ (o : Option _). IfHanded (Ok o) (λ d. GoesOut F.place F.is_out F.handed F.text_of name files c.disk.new.self) (SameFiles F.place F.is_out F.handed F.text_of files c.disk.new.self)) c.in-Some.is (c.in_ok-disk.ensures.goes tells) in
    let bytes = handed_bytes D.seen D.images D.moment D.left_since D.unsynced D.done D.failed (F.place files name) c.in_ok-disk.field-0 (c.in_ok-disk.ensures.disk tells) ∙ ap (option_map D.seen) c.in-Some.is in
    let apart = subst (λ (n : List ℕ). path c.args.dir.now c.args.shard Spare ≢ n) (sym out_is) (paths_apart c.args.dir.now c.args.shard) in
    let spare = ap (option_map D.seen) (handed.other_places (path c.args.dir.now c.args.shard Spare) apart) in
    (D.seen c.in-Some.disk, ap (contents F.place D.seen files) (sym out_is) ∙ bytes, subst (λ (b : Option (List ℕ)). ReadsDisks c.args.shard (D.seen c.in-Some.disk) b (Ok c.in-Ok.found)) spare (c.in-Ok.ensures.answer tells))

pub returns-clause-answer : goal.returns-clause-answer
returns-clause-answer g c = λ tells.
    let F = g.F.Files in
    let D = g.F.D.Disk in
    let files = c.args.files.now in
    let name = c.deref.result.now in
    let out_is = c.deref.ensures.value ∙ c.in_ok-name.ensures in
    let handed = subst (λ (o : Option _). IfHanded (Ok o) (λ d. GoesOut F.place F.is_out F.handed F.text_of name files c.disk.new.self) (SameFiles F.place F.is_out F.handed F.text_of files c.disk.new.self)) c.in-Some.is (c.in_ok-disk.ensures.goes tells) in
    let bytes = handed_bytes D.seen D.images D.moment D.left_since D.unsynced D.done D.failed (F.place files name) c.in_ok-disk.field-0 (c.in_ok-disk.ensures.disk tells) ∙ ap (option_map D.seen) c.in-Some.is in
    let apart = subst (λ (n : List ℕ). path c.args.dir.now c.args.shard Spare ≢ n) (sym out_is) (paths_apart c.args.dir.now c.args.shard) in
    let spare = ap (option_map D.seen) (handed.other_places (path c.args.dir.now c.args.shard Spare) apart) in
    shard_faulted (contents F.place D.seen files) c.args.dir.now c.args.shard (D.seen c.in-Some.disk) _ c.in-Err.fault (ap (contents F.place D.seen files) (sym out_is) ∙ bytes) (sym spare) (c.in-Err.ensures.answer tells)
