use Rattle.std.proofs.Common.{◌≡◌, length, sym, ap, ◌∙◌, subst}
use Rattle.nats_frames.specs.Lines.{ending_at, line_end, IsEndWithin}
use Rattle.nats_frames.proofs.Ends.{end_within}
use Rattle.nats_frames.proofs.line.line_end.Goals as goal

pub returns-clause-end : goal.returns-clause-end
returns-clause-end c = c.ending_at.ensures ∙ ap (ending_at c.args.most c.args.bytes.now) c.feed_behind.ensures.place

pub returns-clause-within : goal.returns-clause-within
returns-clause-within c =
    let e : c.ending_at.result ≡ line_end c.args.most c.args.bytes.now = c.ending_at.ensures ∙ ap (ending_at c.args.most c.args.bytes.now) c.feed_behind.ensures.place in
    subst (λ end. IsEndWithin c.args.most (length c.args.bytes.now) end) (sym e) (end_within c.args.most c.args.bytes.now)
