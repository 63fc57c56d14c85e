use Rattle.record_log.proofs.Loads.{both_loaded, both_fail}
use Rattle.record_log.proofs.opening.load_disks.Goals as goal

pub returns-clause-loaded : goal.returns-clause-loaded
returns-clause-loaded g c =
    let disk = g.D.Disk in
    both_loaded disk.tells disk.seen disk.images (λ tells d. g.met.D.Disk.seen_is_image d tells) c.args.main.now c.args.spare.now c.ready_area.new.disk c.ready_area-2.new.disk c.in_ok-first.first c.in_ok-second.second c.open_areas.result
    c.open_areas.ensures c.in_ok-first.ensures.answer c.in_ok-first.ensures.only c.in_ok-second.ensures.answer c.in_ok-second.ensures.only

pub returns-clause-fault : goal.returns-clause-fault
returns-clause-fault g c = λ tells.
    let disk = g.D.Disk in
    both_fail (disk.seen c.args.main.now) (disk.seen c.args.spare.now) c.in_ok-first.first c.in_ok-second.second c.open_areas.result c.open_areas.ensures (c.in_ok-first.ensures.answer tells) (c.in_ok-second.ensures.answer tells)
