-- The steps in which the message is copied, and after which the nodes have settled.
use Rattle.std.proofs.Common.{List, [], ◌∷◌, ◌++◌, refl, ap, ◌∙◌}
use Rattle.shard_machine.specs.declared.call.ShardCall.TheVariants as call
use Rattle.shard_machine.specs.Images.{live_in}
use Rattle.run_soundness.specs.Shards.{ShardState}
use Rattle.run_soundness.specs.Worlds.{Event}
use Rattle.run_soundness.specs.Worlds.Event.{Call}
use Rattle.world_steps.specs.declared.event.Direction.TheVariants.{ToLeaf}
use Rattle.world_steps.specs.Links.{change_channel, after_carry}
use Rattle.run_examples.specs.Stepped.{CopiedInSteps}
use Rattle.run_examples.proofs.Shards.{quiet}
use Rattle.run_examples.proofs.Worlds.{here}
use Rattle.run_examples.proofs.Origin as origin
use Rattle.run_examples.proofs.Origin.{hub, leaf, copies, orders, message, ask, answer, delivery, most}
use Rattle.run_examples.proofs.Mirror as mirror
use Rattle.run_examples.proofs.Copying.{first, with_hub, with_both, begins, no-node, no-leaf, k, j}
use Rattle.run_examples.proofs.Settled.{all-caught-up}
use Rattle.run_examples.proofs.Stepping.{l6, w1, w2, w3, w4, w5, w6, w7, w8, w9, w10, w11, w12, c1, c2, c3, c4, c5, c6, c7, c8, c9, c10, c11, c12, pump_hub, pump_leaf, without_nodes, hub_alone, still, asking, answering, at_end, net, is-new}

-- ---- the events of each step

abbrev made_events : List Event
made_events = Call hub k (call.Create origin.origin 0) origin.made.reply ∷ Call hub k pump_hub (quiet origin.with_stream.askers).reply ∷ []

abbrev stored_events : List Event
stored_events = Call hub k (call.Publish orders message 0) origin.stored.reply ∷ Call hub k pump_hub (quiet origin.with_message.askers).reply ∷ []

abbrev mirrored_events : List Event
mirrored_events = Call leaf j (call.Create mirror.mirror 0) mirror.made.reply ∷ Call leaf j pump_leaf (quiet mirror.with_mirror.askers).reply ∷ []

abbrev asked_events : List Event
asked_events = Call hub k (call.MakeConsumer ask 0) origin.answered.reply ∷ Call hub k pump_hub origin.delivered.reply ∷ []

abbrev bound_events : List Event
bound_events = Call leaf j (call.Heard answer 0) mirror.binds.reply ∷ Call leaf j pump_leaf (quiet mirror.with_binding.askers).reply ∷ []

abbrev copied_events : List Event
copied_events = Call leaf j (call.Heard delivery 0) mirror.takes.reply ∷ Call leaf j pump_leaf (quiet mirror.with_copy.askers).reply ∷ []

-- ---- the steps

pub copied-in-steps : CopiedInSteps
copied-in-steps = record {
  hub = hub;
  leaf = leaf;
  origin = origin.origin;
  mirror = mirror.mirror;
  message = message;
  without_nodes = without_nodes;
  with_hub = hub_alone;
  with_leaf = net with_both still;
  with_stream = net w2 still;
  with_message = net w4 still;
  with_mirror = net w6 asking;
  once_asked = net w8 answering;
  once_copied = net w12 at_end;
  new = is-new;
  adds_hub = record { begins = begins first hub no-node (λ k. refl); joined = refl; sites = refl };
  adds_leaf = record { begins = begins with_hub leaf no-leaf (λ k. refl); joined = refl; sites = refl };
  made = origin.made.reply;
  makes = record {
    events = made_events;
    steps = record {
      does = (made_events, [], net w2 still, refl, (origin.made.reply, w1, refl, refl, c1, ((quiet origin.with_stream.askers).reply, w2, refl, refl, c2, refl)), (refl, refl));
      answers = (k, Call hub k pump_hub (quiet origin.with_stream.askers).reply ∷ [], refl);
    };
  };
  is_made = refl;
  stored = origin.stored.reply;
  stores = record {
    events = stored_events;
    steps = record {
      does = (stored_events, [], net w4 still, refl, (origin.stored.reply, w3, refl, refl, c3, ((quiet origin.with_message.askers).reply, w4, refl, refl, c4, refl)), (refl, refl));
      answers = (k, Call hub k pump_hub (quiet origin.with_message.askers).reply ∷ [], refl);
    };
  };
  is_stored = refl;
  mirrored = mirror.made.reply;
  mirrors = record {
    events = mirrored_events;
    steps = record {
      does = (mirrored_events, [], net w6 asking, refl, (mirror.made.reply, w5, refl, refl, c5, ((quiet mirror.with_mirror.askers).reply, w6, refl, refl, c6, refl)), (refl, refl));
      answers = (j, Call leaf j pump_leaf (quiet mirror.with_mirror.askers).reply ∷ [], refl);
    };
  };
  is_mirrored = refl;
  asks = record {
    events = asked_events;
    steps = record {
      does = (asked_events, [], net w8 answering, refl, (origin.answered.reply, w7, refl, refl, c7, (origin.delivered.reply, w8, refl, refl, c8, refl)), (refl, refl));
      answers = tt;
    };
  };
  copies = record {
    events = bound_events ++ copied_events;
    steps = record {
      does = (
        bound_events,
        copied_events,
        net w10 (change_channel leaf ToLeaf after_carry answering),
        refl,
        (mirror.binds.reply, w9, refl, refl, c9, ((quiet mirror.with_binding.askers).reply, w10, refl, refl, c10, refl)),
        (copied_events, [], net w12 at_end, refl, (mirror.takes.reply, w11, refl, refl, c11, ((quiet mirror.with_copy.askers).reply, w12, refl, refl, c12, refl)), (refl, refl)),
      );
      answers = tt;
    };
  };
  settled = (record { quiet = refl; caught_up = all-caught-up }, refl, refl, refl);
  known = mirror.known_copied;
  stands = ap (λ (s : ShardState). live_in s.held.image copies) (here w11 leaf j l6 []) ∙ mirror.copied-live;
  keeps = refl;
}
