use Rattle.clap.proofs.WalkLemmas.{first_value-rows}
use Rattle.clap.specs.Matches.{found_of}
use Rattle.leafd_words.proofs.read.value_in.Goals as goal

pub returns-in-Some : goal.returns-in-Some
returns-in-Some c =
    let same = first_value-rows (found_of c.args.values.now) c.args.id.now in
    rw (← same, ← c.get_str.ensures, c.in-Some.is) c.as_bytes.ensures.value

pub returns-in-None : goal.returns-in-None
returns-in-None c =
    let same = first_value-rows (found_of c.args.values.now) c.args.id.now in
    rw (← same, ← c.get_str.ensures, c.in-None.is)
