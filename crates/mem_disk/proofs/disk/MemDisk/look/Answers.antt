use Rattle.mem_disk.proofs.disk.MemDisk.look.Goals as goal

pub returns-then-refused-clause-sound : goal.returns-then-refused-clause-sound
returns-then-refused-clause-sound c = c.refuses-refused.ensures.sound

pub returns-clause-sound : goal.returns-clause-sound
returns-clause-sound c = c.refuses-refused.ensures.sound
