use Rattle.std.proofs.Common.{◌≡◌, ◌+◌, ◌≤◌, ◌++◌, ◌∷◌, [], length, length-take, take, sym, ◌∙◌, subst, arith, ap}
use Rattle.std.specs.Prelude.{sum}
use Rattle.std.proofs.Math.ListN.{set, length-set}
use Rattle.std.proofs.lemmas.Bool.{leb-true}
use Rattle.push_consumer.specs.Counts.{AreParts}
use Rattle.push_consumer.proofs.Counting.{parts_push, pushed, sum_push, sum_of}
use Rattle.push_consumer.proofs.counts.Counts.request.Goals as goal

pub returns-clause-sound : goal.returns-clause-sound
returns-clause-sound c =
    let old = c.args.self.now in
    let sound = c.requires.sound in
    let more : take (old.held + 1) (set old.parts old.held old.recent) ≡ take old.held old.parts ++ old.recent ∷ [] = pushed old.held old.recent old.parts (omega (arith, sound.four, c.requires.room)) in
    let due : 262144 ≤ old.recent = leb-true 262144 old.recent c.requires.due in
    let token = sum_of c.checked_add.result _ (c.latest_token.result + 1) c.in_ok-token.token c.checked_add.ensures c.in_ok-token.ensures.ok_part in
    let places : length (take old.held old.parts) ≡ old.held = omega (arith, length-take old.held old.parts, sound.four, sound.places) in
    record {
      four = length-set old.parts old.held old.recent ∙ sound.four;
      places = omega (arith, c.requires.room);
      large = subst AreParts (sym more) (parts_push (take old.held old.parts) old.recent sound.large due);
      bytes = omega (arith, ap sum more, sum_push (take old.held old.parts) old.recent, sound.bytes);
      tokens = omega (arith, c.latest_token.ensures, token.0, places);
    }
