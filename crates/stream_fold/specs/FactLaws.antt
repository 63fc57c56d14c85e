-- What the facts of a history say of it, and which state gives them.
use Rattle.std.specs.Prelude.{◌≡◌, ◌↔◌, ℕ, ◌≤◌, List, Some, codes}
use Rattle.std.specs.FinMap.{get}
use Rattle.nats_text.specs.Headers.{first_value}
use Rattle.nats_text.specs.declared.message.Message.{Message}
use Rattle.nats_text.specs.declared.message.Start.{Start}
use Rattle.stream_fold.specs.declared.entry.Entry.{Entry}
use Rattle.stream_fold.specs.declared.parts.Sent.{Sent}
use Rattle.stream_fold.specs.Histories.{History, with_entry, put, stands, kept, last, clock, NumbersRise}
use Rattle.stream_fold.specs.Copying.{bound, last_mark, copy_start, mark, front}
use Rattle.stream_fold.specs.Publishing.{dup, latest_sent, verdict}
use Rattle.stream_fold.specs.Fits.{Fits, AllFit}
use Rattle.stream_fold.specs.Held.{State, StandsFor}
use Rattle.stream_fold.specs.Facts.{StreamFacts, facts_after, facts, start_by_facts, mark_by_facts, front_by_facts, dup_by_facts, verdict_by_facts, FitsFacts, open_sent, KeepsWindow, facts_in}

-- the facts after an entry are a function of those before it
abbrev pub FactsGrow : Type 0
FactsGrow = (h : History) (e : Entry) → facts (with_entry h e) ≡ facts_after (facts h) e

-- the facts say what the history leaves
pub record TellOf (h : History) (f : StreamFacts) : Type 0 where
  pub limits : f.config ≡ (stands h).limits
  pub rows : f.rows ≡ kept h
  pub last : f.last ≡ last h.entries
  pub clock : f.clock ≡ clock h.entries
  pub bound : (index : ℕ) → get f.bindings index ≡ bound index h.entries
  pub marks : (index : ℕ) → get f.marks index ≡ last_mark index h.entries
  pub start : (index : ℕ) → start_by_facts index f ≡ copy_start index h
  pub mark : (index : ℕ) → mark_by_facts index f ≡ mark index h
  pub front : (start : Start) → front_by_facts start f ≡ front start h.entries

-- the facts of each history say what it leaves
abbrev pub FactsTell : Type 0
FactsTell = (h : History) → TellOf h (facts h)

-- which entries may come next is to be read off the facts
abbrev pub FactsTellFits : Type 0
FactsTellFits = (h : History) (e : Entry) → FitsFacts (facts h) e ↔ Fits h e

-- Where the duplicate window stays, the facts tell what a publish of an identifier would repeat, at any
-- moment: what was dropped, no publish can repeat any more.
abbrev pub FactsTellRepeats : Type 0
FactsTellRepeats = (h : History) (id : List ℕ) (now : ℕ) → KeepsWindow h → dup_by_facts (facts h) id now ≡ dup h id now

-- where the duplicate window stays, the facts tell what a publish is answered
abbrev pub FactsTellVerdicts : Type 0
FactsTellVerdicts = (h : History) (m : Message) (now : ℕ) → KeepsWindow h → verdict_by_facts (facts h) m now ≡ verdict h m now

-- of each identifier the facts have the latest message of a client, while its time plus the window is
-- above the clock
abbrev pub FactsHoldOpen : Type 0
FactsHoldOpen = (h : History) (id : List ℕ) → KeepsWindow h → get (facts h).sent id ≡ open_sent h.config.window (clock h.entries) id (latest_sent id h.entries)

-- where each entry fits those before it, the duplicate window stays
abbrev pub FittingKeepWindow : Type 0
FittingKeepWindow = (h : History) → AllFit h → KeepsWindow h

-- a state that stands for a history shows the facts of that history
abbrev pub StatesShowFacts : Type 0
StatesShowFacts = (state : State) (h : History) → KeepsWindow h → StandsFor state h → facts_in state.held ≡ facts h

-- what a state shows after one entry more is a function of what it showed before
abbrev pub ShownFactsGrow : Type 0
ShownFactsGrow = (old new : State) (h : History) (e : Entry) → KeepsWindow (with_entry h e) → StandsFor old h → StandsFor new (with_entry h e) → facts_in new.held ≡ facts_after (facts_in old.held) e

-- a state that stands for a history stands for each other one of the same facts
abbrev pub FactsSuffice : Type 0
FactsSuffice = (state : State) (h other : History) → KeepsWindow h → KeepsWindow other → facts h ≡ facts other → StandsFor state h → StandsFor state other

-- a message of a client was put under its number, with this identifier
pub record WasSent (h : History) (id : List ℕ) (s : Sent) : Type 0 where
  pub message : Message
  pub stored : put s.seq h.entries ≡ Some message
  pub header : first_value (codes "Nats-Msg-Id") message.headers ≡ Some id
  pub own : s.id ≡ id
  pub time : s.time ≡ message.time
  pub reached : s.seq ≤ last h.entries
  pub past : s.time ≤ clock h.entries

-- Where numbers rise, each message of a client that the facts have was put under its number: so no two
-- of them have one number.
abbrev pub SentWerePut : Type 0
SentWerePut = (h : History) (id : List ℕ) (s : Sent) → KeepsWindow h → NumbersRise h.entries → get (facts h).sent id ≡ Some s → WasSent h id s
