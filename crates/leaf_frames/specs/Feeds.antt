-- A stream of a leaf link that comes in pieces.
use Rattle.std.specs.Prelude.{ℕ}
use Rattle.nats_frames.specs.Feeds.{Pending}

-- a stream, and how many of its bytes stand in the buffer, with those of frames that were taken
pub record Reading : Type 0 where
  pub pending : Pending
  pub held : ℕ
