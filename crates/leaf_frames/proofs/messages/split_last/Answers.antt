use Rattle.std.proofs.Common.{◌-◌, length, sym, arith}
use Rattle.leaf_frames.proofs.Splits.{split_at_last}
use Rattle.leaf_frames.proofs.messages.split_last.Goals as goal

pub returns-in-len1-up : goal.returns-in-len1-up
returns-in-len1-up c =
    let fs = c.args.fields.now in
    sym (split_at_last fs (length fs - 1) _ (omega (arith, c.in-len1-up.len_at_least)))
