-- What the counts of a consumer stand for. No public clause says this.
use Rattle.std.specs.Prelude.{◌≡◌, ℕ, ◌+◌, ◌<◌, ◌≤◌, ◌^◌, List, [], ◌∷◌, take, length, sum, ⊤}
use Rattle.push_consumer.specs.declared.counts.Counts.{Counts}
use Rattle.push_consumer.specs.Progress.{Progress}

-- the progress that the counts hold
abbrev pub progress_in : Counts → Progress
progress_in counts = record { count = counts.count; last = counts.last; answered = counts.answered; unanswered = take counts.held counts.parts; recent = counts.recent }

-- each part is one for which a flow request is due
abbrev pub AreParts : List ℕ → Type 0
AreParts [] = ⊤
AreParts (x ∷ xs) = (262144 ≤ x) × AreParts xs

-- the parts are within their places and large enough, and all sums have 64 bits
pub record IsSound (counts : Counts) : Type 0 where
  pub four : length counts.parts ≡ 4
  pub places : counts.held ≤ 4
  pub large : AreParts (take counts.held counts.parts)
  pub bytes : sum (take counts.held counts.parts) + counts.recent < 2 ^ 64
  pub tokens : counts.answered + counts.held < 2 ^ 64
