use Rattle.std.proofs.Common.{◌≡◌, ◌-◌, ◌≤◌, drop, take, length, length-take, sym, ◌∙◌, subst, arith, ap}
use Rattle.std.specs.Prelude.{sum}
use Rattle.push_consumer.specs.Counts.{AreParts}
use Rattle.push_consumer.proofs.Counting.{parts_drop, sum_drop, turned}
use Rattle.push_consumer.proofs.counts.Counts.answer.Goals as goal

pub returns-clause-sound : goal.returns-clause-sound
returns-clause-sound c =
    let old = c.args.self.now in
    let gone = c.args.token - old.answered in
    let places : length (take old.held old.parts) ≡ old.held = omega (arith, length-take old.held old.parts, c.requires.four, c.requires.places) in
    let known : gone ≤ old.held = omega (arith, c.latest_token.ensures, c.if-latest_token-token.false, places) in
    let rest : take (old.held - gone) c.rotate_left.new.self ≡ drop gone (take old.held old.parts) = turned old.held gone old.parts c.rotate_left.new.self c.requires.four c.requires.places known c.rotate_left.ensures.after in
    record {
      four = c.rotate_left.ensures.len ∙ c.requires.four;
      places = omega (arith, c.requires.places);
      large = subst AreParts (sym rest) (parts_drop gone (take old.held old.parts) c.requires.large);
      bytes = omega (arith, ap sum rest, sum_drop gone (take old.held old.parts), c.requires.bytes);
      tokens = omega (arith, known, c.requires.tokens, c.if-token-self.false);
    }
