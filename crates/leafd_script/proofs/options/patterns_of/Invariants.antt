use Rattle.std.proofs.Common.{◌≡◌, ◌++◌, length}
use Rattle.std.specs.List.{list_all}
use Rattle.nats_text.specs.Pieces.{views}
use Rattle.nats_text.specs.Text.{is_pattern}
use Rattle.leafd_script.proofs.options.patterns_of.Given as goal

-- the patterns so far and the words of the rest are all words, which are patterns where the rest is
abbrev pub invariant-loop-rest : goal.invariant-loop-rest
invariant-loop-rest l = record {
  words : l.patterns ++ views l.rest ≡ views l.words;
  legal : list_all is_pattern (views l.rest) ≡ list_all is_pattern (views l.words);
}

abbrev pub decreases-loop-rest : goal.decreases-loop-rest
decreases-loop-rest l = length l.rest
