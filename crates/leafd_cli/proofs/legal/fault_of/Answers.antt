use Rattle.std.proofs.Common.{◌≡◌, sym, subst}
use Rattle.leafd_script.specs.declared.line.Line.{Line}
use Rattle.leafd_cli.specs.Legal.{fault_in}
use Rattle.leafd_cli.proofs.legal.fault_of.Goals as goal

pub returns-in-Stream : goal.returns-in-Stream
returns-in-Stream c =
    let P : Line → Type 0 = λ line. c.making_fault.result ≡ fault_in c.args.nodes.now c.args.streams.now line in
    subst P (sym c.in-Stream.is) c.making_fault.ensures

pub returns-in-Mirror : goal.returns-in-Mirror
returns-in-Mirror c =
    let P : Line → Type 0 = λ line. c.making_fault-in-Mirror.result ≡ fault_in c.args.nodes.now c.args.streams.now line in
    subst P (sym c.in-Mirror.is) c.making_fault-in-Mirror.ensures
