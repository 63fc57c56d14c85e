use Rattle.std.proofs.Common.{◌≡◌, drop}
use Rattle.mem_disk.specs.Stores.{text_in}
use Rattle.mem_disk.proofs.files.find_text.Given as goal

-- the name's text is that of the rest
abbrev pub invariant-loop-text : goal.invariant-loop-text
invariant-loop-text l = text_in (drop l.text-index l.texts) l.name ≡ text_in l.texts l.name
