-- What a store shows of the streams that stand at a log's end.
use Rattle.std.specs.Prelude.{◌≡◌, ℕ, ◌+◌, List, [], ◌∷◌, length, map, slice_get, None, Some, All}
use Rattle.std.specs.List.Sorted.{IsStrictlySortedBy}
use Rattle.std.specs.Cmp.Lexicographic.{slice_cmp}
use Rattle.std.specs.Ordering.{nat_cmp}
use Rattle.nats_text.specs.declared.origin.Origin.{Origin}
use Rattle.stream_fold.specs.declared.config.Copies.{Copies}
use Rattle.stream_fold.specs.declared.config.Copies.TheVariants.{Nothing, Mirror, Sources}
use Rattle.stream_fold.specs.declared.entry.Numbered.{Numbered}
use Rattle.stream_fold.specs.Histories.{History, stands, kept, last, size_of}
use Rattle.stream_fold.specs.Copying.{front, mark}
use Rattle.stream_fold.specs.Held.{first_of}
use Rattle.record_codec.specs.declared.records.Rec.{Rec}
use Rattle.shard_machine.specs.declared.facts.CopyFact.{CopyFact}
use Rattle.shard_machine.specs.declared.facts.Facts.{Facts}
use Rattle.shard_machine.specs.Logs.{Made, incarnation, live}

-- the copy of an origin has come as far as this number
abbrev pub copy_fact : ℕ → Origin → CopyFact
copy_fact mark origin = record { node = origin.node; stream = origin.stream; mark = mark; stopped = None; consumer = None }

-- each source from an index on has come as far as the mark of its index
abbrev pub source_facts : History → ℕ → List Origin → List CopyFact
source_facts h index [] = []
source_facts h index (origin ∷ origins) = copy_fact (mark index h) origin ∷ source_facts h (index + 1) origins

-- how far each copy has come; a mirror's messages have no marks, so that it has come as far as its front
abbrev pub copy_facts : History → Copies → List CopyFact
copy_facts h Nothing = []
copy_facts h (Mirror origin) = copy_fact (front origin.start h.entries) origin ∷ []
copy_facts h (Sources origins) = source_facts h 0 origins

-- the facts of a stream of this incarnation
abbrev pub facts_of : ℕ → Made → Facts
facts_of incarnation m = record {
  config = (stands m.history).limits;
  created = m.created;
  incarnation = incarnation;
  first = first_of (kept m.history) (last m.history.entries);
  last = last m.history.entries;
  count = length (kept m.history);
  bytes = size_of (kept m.history);
  consumers = 0;
  copies = copy_facts m.history (stands m.history).limits.copies;
}

-- the facts and the messages that are kept of a stream that stands under the name
abbrev pub IsShown : List Rec → List ℕ → Facts × List Numbered → Type 0
IsShown log name shown = (m : Made) × (live log name ≡ Some m) × (shown ≡ (facts_of (incarnation log name) m, kept m.history))

-- the name of a stream that is shown
abbrev pub name_of : Facts × List Numbered → List ℕ
name_of shown = shown.0.config.name

-- Every stream that stands at the log's end, in byte order of the names, each once.
pub record AreStreams (log : List Rec) (streams : List (Facts × List Numbered)) : Type 0 where
  pub order : IsStrictlySortedBy (slice_cmp nat_cmp) (map name_of streams)
  pub each : All (λ shown. IsShown log (name_of shown) shown) streams
  pub whole : (name : List ℕ) (m : Made) → live log name ≡ Some m → (i : ℕ) × (slice_get (map name_of streams) i ≡ Some name)
