-- What the first transform of a list whose source matches makes of a subject.
use Rattle.std.specs.Prelude.{ℕ, List, [], ◌∷◌, if◌then◌else◌}
use Rattle.std.specs.Option.{unwrap_or}
use Rattle.nats_text.specs.Matching.{matches}
use Rattle.subject_transform.specs.Transforms.{TransformTexts, made}

-- the subject stays as it is where that transform gives none, and where no source matches
abbrev pub mapped : List TransformTexts → List ℕ → List ℕ
mapped [] subject = subject
mapped (t ∷ ts) subject = if matches t.src subject then unwrap_or (made t.src t.dest subject) subject else mapped ts subject
