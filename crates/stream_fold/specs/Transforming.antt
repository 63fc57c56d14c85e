-- The subject under which a stream with a transform of its own stores a message (the subject transform
-- of JetStream's streams).
use Rattle.std.specs.Prelude.{ℕ, List, Option, None, Some}
use Rattle.std.specs.Option.{unwrap_or}
use Rattle.nats_text.specs.declared.origin.Mapping.{Mapping}
use Rattle.subject_transform.specs.Transforms.{TransformTexts, sub}
use Rattle.stream_fold.specs.Checking.{transform_in}

-- the transform of a stream, where it has one and its texts are one
abbrev pub own_transform : Option Mapping → Option TransformTexts
own_transform None = None
own_transform (Some m) = transform_in m

-- what a transform makes of a subject, where there is one and it makes something
abbrev pub made_by : Option TransformTexts → List ℕ → Option (List ℕ)
made_by None subject = None
made_by (Some t) subject = sub t.src t.dest subject

-- the subject that takes the place of the one of a publish, where the stream's transform makes one
abbrev pub other_subject : Option Mapping → List ℕ → Option (List ℕ)
other_subject transform subject = made_by (own_transform transform) subject

-- the subject under which a stream stores what is published under this one
abbrev pub stored_subject : Option Mapping → List ℕ → List ℕ
stored_subject transform subject = unwrap_or (other_subject transform subject) subject
