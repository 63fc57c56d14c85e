use Rattle.std.proofs.Common.{◌≡◌, Decides, rules, refl}
use Rattle.std.proofs.lemmas.Slice.Eq.{slice_eq-Decides}
use Rattle.nats_text.specs.declared.origin.Mapping.{Mapping}
use Rattle.nats_text.specs.contracts.origin.MappingPartialEq.TheImpl as mapping
use Rattle.text_rows.proofs.values.same_origin.Goals as goal

mapping_eq : (a b : Mapping) → Decides (mapping.eq-value.it a b) (a ≡ b)
mapping_eq a b = search rules

pub returns : goal.returns
returns c =
    let x = c.args.x.now in
    let y = c.args.y.now in
    let maps = slice_eq-Decides mapping_eq x.maps y.maps _ refl in
    search (rules, maps)
