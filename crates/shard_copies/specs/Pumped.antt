-- How consumers that were pumped come to their places. No public clause says this.
use Rattle.std.specs.Prelude.{ℕ, List, [], ◌∷◌, if◌then◌else◌}
use Rattle.push_consumer.specs.Progress.{ConsumerState}
use Rattle.shard_machine.specs.Answers.{reads_stream}

-- the consumers, where these come one after another in the places of those of the stream
abbrev pub put_back : List ℕ → List ConsumerState → List ConsumerState → List ConsumerState
put_back name next [] = []
put_back name [] (c ∷ cs) = c ∷ cs
put_back name (n ∷ ns) (c ∷ cs) = if reads_stream name c then n ∷ put_back name ns cs else c ∷ put_back name (n ∷ ns) cs
