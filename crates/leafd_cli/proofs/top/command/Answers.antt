use Rattle.std.proofs.Common.{◌≡◌, false, map, refl, inl, inr}
use Rattle.std.specs.String.{string_bytes}
use Rattle.leafd_words.specs.Commands.{is_taken}
use Rattle.leafd_cli.proofs.Commands.{nothing_done, refused_done}
use Rattle.leafd_cli.proofs.top.command.Goals as goal

pub returns-in-Err-Usage-clause-ends : goal.returns-in-Err-Usage-clause-ends
returns-in-Err-Usage-clause-ends g c =
    let refused : is_taken (map string_bytes c.args.words.now) ≡ false = c.in-Err-Usage.ensures.usage (cc) in
    record { done = refused_done (map string_bytes c.args.words.now) _ _ _ _ refused; usage = λ _. refused; refused = λ _. inl refl }

pub returns-in-Err-NoMemory-clause-ends : goal.returns-in-Err-NoMemory-clause-ends
returns-in-Err-NoMemory-clause-ends g c = record { done = nothing_done _ _ _ _ _; usage = λ e. cc; refused = λ _. inr refl }
