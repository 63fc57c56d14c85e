-- The members of a configuration that may change.
use Rattle.std.specs.Prelude.{◌≡◌}
use Rattle.stream_fold.specs.declared.config.Config.{Config}

-- the members that may change are the same
pub record HasLimits (old new : Config) : Type 0 where
  pub subjects : old.subjects ≡ new.subjects
  pub max_msgs : old.max_msgs ≡ new.max_msgs
  pub max_bytes : old.max_bytes ≡ new.max_bytes
  pub max_age : old.max_age ≡ new.max_age
  pub max_per_subject : old.max_per_subject ≡ new.max_per_subject
  pub max_msg_size : old.max_msg_size ≡ new.max_msg_size
  pub discard : old.discard ≡ new.discard
  pub transform : old.transform ≡ new.transform
