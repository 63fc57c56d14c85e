-- The counts that a new message would leave.
use Rattle.std.specs.Prelude.{ℕ, List, ◌==◌, not, ◌&&◌, nat_le, count_by, find, if◌then◌else◌, Option, None, Some, codes}
use Rattle.std.specs.Str.{bytes_eq}
use Rattle.stream_fold.specs.declared.config.Config.{Config}
use Rattle.stream_fold.specs.declared.entry.Numbered.{Numbered}
use Rattle.stream_fold.specs.declared.verdict.Refusal.{Refusal}
use Rattle.nats_text.specs.Headers.{first_value}
use Rattle.nats_text.specs.declared.message.Message.{Message}
use Rattle.stream_fold.specs.Publishing.{is_full, full, is_other_number, last_of, number_or_0}

-- the first row of a subject, where a new one of it is one too many
abbrev pub pushed_out : ℕ → List ℕ → List Numbered → Option Numbered
pushed_out most subject rows =
    if not (most == 0) && nat_le most (count_by (λ row. bytes_eq row.message.subject subject) rows) then find (λ row. bytes_eq row.message.subject subject) rows else None

abbrev pub full_refusal : Config → List Numbered → Option Refusal
full_refusal c rows = if is_full c rows then Some (full rows) else None

-- the last number of a message's subject, where the publish expects another one
abbrev pub other_subject_last : Message → List Numbered → Option ℕ
other_subject_last m rows = if is_other_number (number_or_0 (last_of m.subject rows)) (first_value (codes "Nats-Expected-Last-Subject-Sequence") m.headers) then Some (number_or_0 (last_of m.subject rows)) else None
