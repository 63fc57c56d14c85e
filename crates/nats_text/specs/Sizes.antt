-- How large a message counts.
use Rattle.std.specs.Prelude.{ℕ, ◌+◌, ◌-◌, length, Option, Some, None, nat_le, if◌then◌else◌}
use Rattle.nats_text.specs.declared.message.Message.{Message}
use Rattle.nats_text.specs.Headers.{written}

-- the length of the subject, of the written header block and of the payload
abbrev pub size : Message → ℕ
size message = length message.subject + length (written message.headers) + length message.payload

-- what is left of a room of so many bytes once so many are taken, where they fit
abbrev pub left_of : ℕ → ℕ → Option ℕ
left_of room taken = if nat_le taken room then Some (room - taken) else None
