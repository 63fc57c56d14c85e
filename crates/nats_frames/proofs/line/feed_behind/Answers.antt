use Rattle.std.proofs.Common.{◌≡◌, drop, None, Some, ap, ◌∙◌}
use Rattle.std.specs.List.{position_from}
use Rattle.std.proofs.lemmas.List.{take_rest}
use Rattle.nats_frames.specs.Lines.{is_feed}
use Rattle.nats_frames.proofs.Looks.{found_behind, none_behind}
use Rattle.nats_frames.proofs.line.feed_behind.Goals as goal

pub returns-in_err-at-clause-place : goal.returns-in_err-at-clause-place
returns-in_err-at-clause-place c =
    let bytes = c.args.bytes.now in
    let looked = c.args.looked in
    let none : None ≡ position_from is_feed 0 (drop looked bytes) = c.in_err-at.ensures.place ∙ ap (position_from is_feed 0) (take_rest bytes looked) in
    rw c.from_residual.ensures (none_behind bytes looked c.requires.looked c.requires.none none)

pub returns-clause-place : goal.returns-clause-place
returns-clause-place c =
    let bytes = c.args.bytes.now in
    let looked = c.args.looked in
    let found : Some c.in_ok-at.at ≡ position_from is_feed 0 (drop looked bytes) = c.in_ok-at.ensures.place ∙ ap (position_from is_feed 0) (take_rest bytes looked) in
    found_behind bytes looked c.in_ok-at.at c.requires.looked c.requires.none found
