-- What the packets of a reply deliver in the name of a consumer: only those of a pump deliver anything.
use Rattle.std.proofs.Common.{◌≡◌, ℕ, Bool, true, false, cond, List, [], ◌∷◌, ◌++◌, Option, Some, None, refl, ap, ◌∙◌}
use Rattle.std.specs.Prelude.{flat_map}
use Rattle.nats_text.specs.declared.message.Stamp.{Stamp}
use Rattle.js_wire.specs.declared.packet.Packet.{Packet}
use Rattle.js_wire.specs.declared.packet.Packet.TheVariants.{Ask, Answer, Refuse, Delivery, Beat, FlowAsk, FlowReply}
use Rattle.stream_fold.specs.declared.entry.Numbered.{Numbered}
use Rattle.push_consumer.specs.Progress.{ConsumerState, beats, beat, beat_at}
use Rattle.shard_machine.specs.declared.call.ShardCall.{ShardCall}
use Rattle.shard_machine.specs.declared.call.ShardCall.TheVariants as call
use Rattle.shard_machine.specs.declared.reply.ShardRefusal.{ShardRefusal}
use Rattle.shard_machine.specs.declared.reply.ShardRefusal.TheVariants as refusal
use Rattle.shard_machine.specs.Views.{View, Copy, asks_of}
use Rattle.shard_machine.specs.Answers.{beats_of, consumers_of, flow_answer}
use Rattle.shard_machine.specs.Steps.{refuse_with, refusal_packets, refused_packets}
use Rattle.run_soundness.specs.Shards.{delivered}
use Rattle.run_soundness.proofs.Chains.{delivered-append}

module _ (name : Stamp) where
  pub flat-none : {X : Type 0} (f : X → List Packet) → ((x : X) → delivered name (f x) ≡ []) → (xs : List X) → delivered name (flat_map f xs) ≡ []
  flat-none f none [] = refl
  flat-none f none (x ∷ xs) = delivered-append name (f x) (flat_map f xs) ∙ (ap (λ (l : List Numbered). l ++ delivered name (flat_map f xs)) (none x) ∙ flat-none f none xs)

  pub append-none : (xs ys : List Packet) → delivered name xs ≡ [] → delivered name ys ≡ [] → delivered name (xs ++ ys) ≡ []
  append-none xs ys e f = delivered-append name xs ys ∙ (ap (λ (l : List Numbered). l ++ delivered name ys) e ∙ f)

  pub asks-none : (v : View) (copies : List Copy) → delivered name (asks_of v copies) ≡ []
  asks-none v [] = refl
  asks-none v (c ∷ copies) = asks-none v copies

  pub beats-none : (v : View) (now : ℕ) (stream : List ℕ) → delivered name (beats_of v now stream) ≡ []
  beats-none v now stream = flat-none beat_list_at each (consumers_of stream v.consumers)
    where
      beat_list : Option Packet → List Packet
      beat_list None = []
      beat_list (Some packet) = packet ∷ []

      beat_list_at : ConsumerState → List Packet
      beat_list_at c = beat_list (beat_at now c)

      by : (c : ConsumerState) (b : Bool) → delivered name (beat_list (cond b (Some (beat c)) None)) ≡ []
      by c true = refl
      by c false = refl

      each : (c : ConsumerState) → delivered name (beat_list_at c) ≡ []
      each c = by c (beats now c)

  pub flow-none : (packet : Packet) → delivered name (flow_answer packet) ≡ []
  flow-none (Ask asker attempt origin stream start filters) = refl
  flow-none (Answer asker attempt consumer incarnation start) = refl
  flow-none (Refuse asker attempt code err_code) = refl
  flow-none (Delivery asker attempt stream consumer number seq pending message) = refl
  flow-none (Beat asker attempt origin stream consumer last_number last_seq None) = refl
  flow-none (Beat asker attempt origin stream consumer last_number last_seq (Some token)) = refl
  flow-none (FlowAsk asker attempt origin stream consumer token) = refl
  flow-none (FlowReply origin stream consumer token) = refl

  with-none : (packet : Packet) (code err_code : ℕ) → delivered name (refuse_with packet code err_code) ≡ []
  with-none (Ask asker attempt origin stream start filters) code err_code = refl
  with-none (Answer asker attempt consumer incarnation start) code err_code = refl
  with-none (Refuse asker attempt other other_err) code err_code = refl
  with-none (Delivery asker attempt stream consumer number seq pending message) code err_code = refl
  with-none (Beat asker attempt origin stream consumer last_number last_seq stalled) code err_code = refl
  with-none (FlowAsk asker attempt origin stream consumer token) code err_code = refl
  with-none (FlowReply origin stream consumer token) code err_code = refl

  refusal-none : (packet : Packet) (why : ShardRefusal) → delivered name (refusal_packets packet why) ≡ []
  refusal-none packet (refusal.Of why) = refl
  refusal-none packet refusal.NoStream = with-none packet 404 10059
  refusal-none packet (refusal.BadConfig member) = refl
  refusal-none packet refusal.NameTaken = refl
  refusal-none packet refusal.TooManyStreams = refl
  refusal-none packet (refusal.OldAttempt kept seen) = refl
  refusal-none packet refusal.TooManyConsumers = with-none packet 400 10912
  refusal-none packet refusal.NoMessage = refl
  refusal-none packet (refusal.JournalFull end need) = with-none packet 500 10913
  refusal-none packet (refusal.BadJournal place) = with-none packet 500 10915
  refusal-none packet refusal.NoMemory = refl
  refusal-none packet refusal.DiskFault = refl

  -- a refusal delivers nothing
  pub refused-none : (c : ShardCall) (why : ShardRefusal) → delivered name (refused_packets c why) ≡ []
  refused-none (call.Create config now) why = refl
  refused-none (call.Update config) why = refl
  refused-none (call.Remove stream) why = refl
  refused-none (call.Publish stream message now) why = refl
  refused-none (call.Delete stream seq) why = refl
  refused-none (call.Purge stream pattern below) why = refl
  refused-none (call.Expire stream now) why = refl
  refused-none (call.Get stream which) why = refl
  refused-none (call.Info stream) why = refl
  refused-none call.Names why = refl
  refused-none (call.MakeConsumer ask now) why = refusal-none ask why
  refused-none (call.Pump stream budget now) why = refl
  refused-none (call.FlowReply packet) why = refl
  refused-none (call.Reach node there now) why = refl
  refused-none (call.Heard packet now) why = refl
  refused-none (call.Tick now) why = refl
  refused-none call.LinkLost why = refl
