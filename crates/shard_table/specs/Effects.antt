-- What a shard holds beside its journal once it was opened, and after an answer.
use Rattle.std.specs.Prelude.{ℕ, List, []}
use Rattle.std.specs.FinMap.{empty}
use Rattle.shard_machine.specs.Images.{LogImage, image_after}
use Rattle.shard_machine.specs.Views.{View, Effect}

-- just opened: no consumer stands, and no asker has asked
abbrev pub opened : List ℕ → LogImage → View
opened node image = record { node = node; image = image; given = 0; consumers = []; askers = empty }

-- after an effect, whose records have joined the log
abbrev pub effected : View → Effect → View
effected v e = record { node = v.node; image = image_after v.image e.records; given = e.given; consumers = e.consumers; askers = e.askers }
