use Rattle.std.proofs.Common.{◌≡◌, ℕ, List, [], ◌∷◌, ◌++◌, true, false, Option, Some, None, refl, sym, ap, ◌∙◌, subst}
use Rattle.std.specs.Option.{option_copied}
use Rattle.stream_fold.specs.declared.decision.Decision.{Decision}
use Rattle.stream_fold.specs.declared.decision.Decision.TheVariants.{Store, Bind, Rebind, Skip, Ignore, AskAgain, Reply, Heard, Refused, Stop}
use Rattle.shard_machine.specs.declared.call.ShardCall.TheVariants as call
use Rattle.shard_machine.specs.declared.reply.Outcome.TheVariants as outcome
use Rattle.shard_machine.specs.Views.{replied}
use Rattle.shard_table.specs.declared.answered.Answered.TheVariants.{Done}
use Rattle.shard_table.specs.Hearing.{IsHeard}
use Rattle.shard_table.proofs.Hears.{does-read, gives-done, hears-reads}
use Rattle.js_wire.specs.declared.packet.AskerId.{AskerId}
use Rattle.js_wire.specs.declared.packet.Packet.{Packet}
use Rattle.shard_machine.specs.Views.{View}
use Rattle.shard_table.proofs.table.Table.follow.Goals as goal

-- what was heard is this
heard-as : (v : View) (id : AskerId) (d e : Decision) (packet : Packet) (now : ℕ) → d ≡ e → IsHeard v id d packet now → IsHeard v id e packet now
heard-as v id d e packet now is x = subst (λ (y : Decision). IsHeard v id y packet now) is x

pub store-requires : goal.store-requires
store-requires c = (c.requires.0, c.args.packet.now, c.args.now, c.requires.1, heard-as c.requires.0 c.args.id.now c.args.decision (Store c.in-Store.entry) c.args.packet.now c.args.now c.in-Store.is c.requires.2)

pub bind-requires : goal.bind-requires
bind-requires c = (c.requires.0, c.args.packet.now, c.args.now, c.requires.1, heard-as c.requires.0 c.args.id.now c.args.decision (Bind c.in-Bind.entry) c.args.packet.now c.args.now c.in-Bind.is c.requires.2)

pub returns-in-Store : goal.returns-in-Store
returns-in-Store c = λ v h x. c.store.ensures v c.args.packet.now c.args.now h (heard-as v c.args.id.now c.args.decision (Store c.in-Store.entry) c.args.packet.now c.args.now c.in-Store.is x)

pub returns-in-Bind : goal.returns-in-Bind
returns-in-Bind c = λ v h x. c.bind.ensures v c.args.packet.now c.args.now h (heard-as v c.args.id.now c.args.decision (Bind c.in-Bind.entry) c.args.packet.now c.args.now c.in-Bind.is x)

pub returns-in-Rebind : goal.returns-in-Rebind
returns-in-Rebind c = λ v h x. c.move_on.ensures v h (heard-as v c.args.id.now c.args.decision Rebind c.args.packet.now c.args.now c.in-Rebind.is x) tt

pub returns-in-Skip : goal.returns-in-Skip
returns-in-Skip c = λ v h x. c.move_on-in-Skip.ensures v h (heard-as v c.args.id.now c.args.decision Skip c.args.packet.now c.args.now c.in-Skip.is x) tt

pub returns-in-Heard : goal.returns-in-Heard
returns-in-Heard c = λ v h x. c.move_on-in-Heard.ensures v h (heard-as v c.args.id.now c.args.decision Heard c.args.packet.now c.args.now c.in-Heard.is x) tt

pub returns-in-Ignore : goal.returns-in-Ignore
returns-in-Ignore c = λ v h x.
    let d : Decision = Ignore c.in-Ignore.reason in
    let packet = c.args.packet.now in
    gives-done v (call.Heard packet c.args.now) (Done c.with_outcome.result) (replied (outcome.Heard d) None [] []) c.args.self.now (ap Done c.with_outcome.ensures)
    (does-read c.args.self.now v packet c.args.now d (hears-reads v c.args.id.now d packet c.args.now (heard-as v c.args.id.now c.args.decision d packet c.args.now c.in-Ignore.is x) (λ copy phase. refl)) h)

pub returns-in-Refused : goal.returns-in-Refused
returns-in-Refused c = λ v h x.
    let packet = c.args.packet.now in
    gives-done v (call.Heard packet c.args.now) (Done c.with_outcome-in-Refused.result) (replied (outcome.Heard Refused) None [] []) c.args.self.now (ap Done c.with_outcome-in-Refused.ensures)
    (does-read c.args.self.now v packet c.args.now Refused (hears-reads v c.args.id.now Refused packet c.args.now (heard-as v c.args.id.now c.args.decision Refused packet c.args.now c.in-Refused.is x) (λ copy phase. refl)) h)

pub returns-in-AskAgain : goal.returns-in-AskAgain
returns-in-AskAgain c = λ v h x. c.ask_again.ensures v c.args.packet.now h (heard-as v c.args.id.now c.args.decision (AskAgain c.in-AskAgain.why) c.args.packet.now c.args.now c.in-AskAgain.is x)

pub returns-in-Reply : goal.returns-in-Reply
returns-in-Reply c = λ v h x. c.reply.ensures v h (heard-as v c.args.id.now c.args.decision Reply c.args.packet.now c.args.now c.in-Reply.is x)

pub returns-in-Stop : goal.returns-in-Stop
returns-in-Stop c = λ v h x. c.stop.ensures v h (heard-as v c.args.id.now c.args.decision (Stop c.in-Stop.kept c.in-Stop.seen) c.args.packet.now c.args.now c.in-Stop.is x)
