use Rattle.std.proofs.Common.{◌≡◌, ◌++◌, ◌+◌, drop}
use Rattle.subject_transform.specs.Values.{characters, has_dot, with_dots}
use Rattle.subject_transform.proofs.dots.push_dotted.Given as goal

-- what is added and what the rest of the token adds are the whole; the characters of the rest are still to come
abbrev pub invariant-loop-byte : goal.invariant-loop-byte
invariant-loop-byte l = record {
  text : l.buf.items ++ with_dots (has_dot l.dots l.len l.count) l.at (drop l.byte-index l.token) ≡ l.initial.buf.items ++ with_dots (has_dot l.dots l.len l.count) 0 l.token;
  to_come : l.at + characters (drop l.byte-index l.token) ≡ l.count;
}
