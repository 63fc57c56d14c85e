-- What is known of a stream that is held is what its state shows.
use Rattle.std.proofs.Common.{◌≡◌, List, ℕ, sym, ap, ◌∙◌}
use Rattle.stream_fold.specs.Facts.{StreamFacts}
use Rattle.stream_fold.specs.FactLaws.{FactsTell}
use Rattle.stream_fold.specs.Held.{State}
use Rattle.log_replay.specs.declared.replay.Standing.{Standing}
use Rattle.shard_machine.specs.declared.reply.ShardRefusal.{ShardRefusal}
use Rattle.shard_machine.specs.declared.reply.ShardRefusal.TheVariants as refusal
use Rattle.shard_machine.specs.Images.{NameFacts}
use Rattle.shard_streams.specs.HeldImages.{IsStreamOf}
use Rattle.shard_streams.specs.Plans.{UnlessNoRoom}

-- the facts are what the state shows
pub record AreShown (state : State) (f : StreamFacts) : Type 0 where
  pub config : f.config ≡ state.held.limits
  pub rows : f.rows ≡ state.held.rows
  pub last : f.last ≡ state.held.last
  pub clock : f.clock ≡ state.held.clock

-- what is known of a stream that is held is shown
pub shown : FactsTell → (name : List ℕ) (standing : Standing) (known : NameFacts) → IsStreamOf name standing known → AreShown standing.state known.stream
shown tell name standing known s =
    let t = tell s.history in
    record {
      config = ap (λ (f : StreamFacts). f.config) s.facts_are ∙ (t.limits ∙ sym s.state.limits);
      rows = ap (λ (f : StreamFacts). f.rows) s.facts_are ∙ (t.rows ∙ sym s.state.rows);
      last = ap (λ (f : StreamFacts). f.last) s.facts_are ∙ (t.last ∙ sym s.state.last);
      clock = ap (λ (f : StreamFacts). f.clock) s.facts_are ∙ (t.clock ∙ sym s.state.clock);
    }

-- a fact that follows from another one follows where memory ran out too
pub unless : {A B : Type 0} (why : ShardRefusal) → (A → B) → UnlessNoRoom why A → UnlessNoRoom why B
unless (refusal.Of why) f a = f a
unless refusal.NoStream f a = f a
unless (refusal.BadConfig member) f a = f a
unless refusal.NameTaken f a = f a
unless refusal.TooManyStreams f a = f a
unless (refusal.OldAttempt kept seen) f a = f a
unless refusal.TooManyConsumers f a = f a
unless refusal.NoMessage f a = f a
unless (refusal.JournalFull end need) f a = f a
unless (refusal.BadJournal place) f a = f a
unless refusal.NoMemory f a = tt
unless refusal.DiskFault f a = f a
