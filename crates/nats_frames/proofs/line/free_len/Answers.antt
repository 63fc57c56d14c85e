use Rattle.std.proofs.Common.{◌≡◌, drop, length, None, Some, sym, ap, ◌∙◌, arith}
use Rattle.std.specs.List.{position_from}
use Rattle.std.proofs.lemmas.List.{take_rest, take_all}
use Rattle.nats_frames.specs.Lines.{is_feed, has_no_feed}
use Rattle.nats_frames.proofs.Looks.{none_behind, free_to, all_free}
use Rattle.nats_frames.proofs.line.free_len.Goals as goal

pub returns-in-Some-clause-none : goal.returns-in-Some-clause-none
returns-in-Some-clause-none c =
    let bytes = c.args.bytes.now in
    let looked = c.args.looked in
    let found : Some c.in-Some.at ≡ position_from is_feed 0 (drop looked bytes) = c.in-Some.ensures.place ∙ ap (position_from is_feed 0) (take_rest bytes looked) in
    free_to bytes looked c.in-Some.at c.requires.looked c.requires.none found

pub returns-in-None-clause-none : goal.returns-in-None-clause-none
returns-in-None-clause-none c =
    let bytes = c.args.bytes.now in
    let looked = c.args.looked in
    let none : None ≡ position_from is_feed 0 (drop looked bytes) = c.in-None.ensures.place ∙ ap (position_from is_feed 0) (take_rest bytes looked) in
    ap has_no_feed (take_all (length bytes) bytes (omega arith)) ∙ all_free 0 bytes (sym (none_behind bytes looked c.requires.looked c.requires.none none))
