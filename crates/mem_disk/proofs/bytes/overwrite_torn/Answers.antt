use Rattle.std.proofs.Common.{ℕ, List, ◌∙◌, ◌-◌, ◌+◌, ◌/◌, ◌∷◌, [], ap, arith, rules, length, take, length-take}
use Rattle.leaf_edges.specs.Disks.{overwritten}
use Rattle.mem_disk.proofs.Overwriting.{fill_none, fill_more}
use Rattle.mem_disk.proofs.bytes.overwrite_torn.Goals as goal

pub loop-i-init : goal.loop-i-init
loop-i-init c =
    let half = length c.args.new.now / 2 in
    record {
      done = c.overwrite.ensures.items ∙ fill_none c.args.bytes.now.items c.args.place (take half c.args.new.now) (half - half) 0xA5 (omega arith);
      room = search rules;
    }

pub loop-i-preserved : goal.loop-i-preserved
loop-i-preserved c =
    let before = c.args.bytes.now.items in
    let half = length c.args.new.now / 2 in
    let front : List ℕ = take half c.args.new.now in
    let i = c.loop-i.i in
    record {
      done = c.overwrite-in-loop-i.ensures.items ∙ ap (λ (l : List ℕ). overwritten l (c.args.place + i) (0xA5 ∷ [])) c.loop-i.invariant.done
          ∙ fill_more before c.args.place front (i - half) (i + 1 - half) (c.args.place + i) 0xA5 (omega (arith, c.loop-i.auto.i)) (omega (arith, c.loop-i.auto.i, length-take half c.args.new.now));
      room = search rules;
    }
