use Rattle.std.proofs.Common.{◌≡◌, ◌≤◌}
use Rattle.leafd_cli.specs.Folders.{contents, KeepsFiles}
use Rattle.leafd_cli.specs.Inspecting.{ShowsBelow}
use Rattle.leafd_cli.proofs.inspect.report_of.Given as goal

-- the shards so far are printed, and the files are as they were
abbrev pub invariant-loop-shard : goal.invariant-loop-shard
invariant-loop-shard g l = record {
  within : l.shard ≤ 8;
  shown : g.F.Files.tells → ShowsBelow (contents g.F.Files.place g.F.D.Disk.seen l.initial.files) l.dir l.shard l.report.items;
  kept : g.F.Files.tells → KeepsFiles g.F.Files.place g.F.Files.is_out g.F.D.Disk.seen l.initial.files l.files;
  leads : g.F.Files.leads l.initial.files l.files;
  faults : g.F.Files.faults l.files ≡ g.F.Files.faults l.initial.files;
  disk_faults : g.F.Files.disk_faults l.files ≡ g.F.Files.disk_faults l.initial.files;
}
