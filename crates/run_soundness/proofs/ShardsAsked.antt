-- Where a consumer comes from: it was made before, or the call is an Ask for it.
use Rattle.std.proofs.Common.{◌≡◌, ℕ, true, List, ◌++◌, Some, sym, ap, ◌∙◌, subst, ◌⊎◌, inl, inr}
use Rattle.std.specs.Prelude.{Contains}
use Rattle.nats_text.specs.declared.message.Stamp.{Stamp}
use Rattle.nats_text.specs.declared.message.Start.{Start}
use Rattle.js_wire.specs.declared.packet.AskerId.{AskerId}
use Rattle.js_wire.specs.declared.packet.Packet.TheVariants.{Ask}
use Rattle.stream_fold.specs.Copying.{IsRightStart}
use Rattle.record_codec.specs.declared.records.Rec.{Rec}
use Rattle.push_consumer.specs.Progress.{ConsumerState}
use Rattle.shard_machine.specs.declared.call.ShardCall.{ShardCall}
use Rattle.shard_machine.specs.declared.call.ShardCall.TheVariants as call
use Rattle.shard_machine.specs.Logs.{Made, incarnation, made}
use Rattle.shard_machine.specs.Images.{LogImage, incarnation_in}
use Rattle.shard_machine.specs.Views.{Effect}
use Rattle.shard_machine.proofs.Images.{images-tell}
use Rattle.run_soundness.specs.Shards.{Consumer, ShardState, IsRead, sent_now}
use Rattle.run_soundness.proofs.Growing.{right-start-on}
use Rattle.run_soundness.specs.Below.{Laws}
use Rattle.run_soundness.proofs.Logs.{Stands, live-is, hist-append}
use Rattle.run_soundness.proofs.ShardsKept.{ShardOk, AnswersOn, ghost_of, row, next_log, held-image, came-from, stands-with, made_now}

-- A consumer was made for the Ask of the call, in the stream that the Ask names, with its filters, and its start is
-- right for that stream.
pub record MadeAsked (log : List Rec) (called : ShardCall) (d : Consumer) : Type 0 where
  pub asker : AskerId
  pub attempt : Stamp
  pub origin : List ℕ
  pub from : Start
  pub filters : List (List ℕ)
  pub now : ℕ
  pub is : called ≡ call.MakeConsumer (Ask asker attempt origin d.stream from filters) now
  pub wanted : d.wanted ≡ record { asker = asker; attempt = attempt; origin = origin; start = d.wanted.start; filters = filters }
  pub stream_made : Made
  pub reads : IsRead log d stream_made
  pub start : IsRightStart stream_made.history from d.wanted.start

module _ (laws : Laws) (mid new : ShardState) (called : ShardCall) (does : Effect) (ok : ShardOk mid) (loaded : mid.held.loaded ≡ true) (a : AnswersOn mid called does new) where
  made-asked : (c : ConsumerState) → made_now laws mid new called does ok loaded a ≡ Some c → MadeAsked new.log called (ghost_of new.held.image c)
  made-asked c e =
      let r = row laws mid new called does ok loaded a in
      let n = r.evolves.new c e in
      let for = r.evolves.asked c e in
      let li = live-is mid.log c.stream n.known n.reads_it in
      let nl : List Rec = next_log laws mid new called does ok loaded a in
      let there : Stands nl c.stream (incarnation mid.log c.stream) = stands-with mid.log r.adds.one c.stream (incarnation mid.log c.stream) (λ x is. r.adds.leaves x is c n.here) li.0 in
      let inc : incarnation_in new.held.image c.stream ≡ incarnation mid.log c.stream =
      ap (λ (i : LogImage). incarnation_in i c.stream) (held-image laws mid new called does ok loaded a) ∙ ((images-tell nl).incarnation c.stream ∙ sym there.latest) in
      let on = hist-append mid.log does.records c.stream (incarnation mid.log c.stream) n.known li.1 in
      record {
        asker = for.asker;
        attempt = for.attempt;
        origin = for.origin;
        from = for.start;
        filters = for.filters;
        now = for.now;
        is = for.is;
        wanted = for.wanted;
        stream_made = on.0;
        reads = subst (λ (l : List Rec). made l c.stream (incarnation_in new.held.image c.stream) ≡ Some on.0) (sym a.log) (subst (λ i. made (mid.log ++ does.records) c.stream i ≡ Some on.0) (sym inc) on.1);
        start = right-start-on n.known.history on.0.history for.start c.wanted.start on.2.history (for.begins n.known n.reads_it);
      }

  -- A consumer behind an answer was made before, or was made for the Ask of the call.
  pub came-asked : (d : Consumer) → Contains new.ever d → ((k : Consumer) × Contains mid.ever k × (sent_now does.consumers does.reply.packets k ≡ d)) ⊎ MadeAsked new.log called d
  came-asked d q = elim (came-from laws mid new called does ok loaded a d q).from [
    | inl old ↦ inl old
    | inr w ↦ inr (subst (MadeAsked new.log called) w.2 (made-asked w.0 w.1))
  ]
