-- What was prepared, by its record, and what the taps are told of it.
use Rattle.std.proofs.Common.{◌≡◌, ℕ, List, [], ◌++◌, Option, refl, sym, ap, ◌∙◌, subst}
use Rattle.stream_fold.specs.declared.config.Config.{Config}
use Rattle.stream_fold.specs.declared.entry.Entry.{Entry}
use Rattle.stream_fold.specs.Held.{StandsFor}
use Rattle.stream_fold.specs.declared.entry.Entry.TheVariants.{Put, Del, Purge, Expire, Bind, Limits}
use Rattle.tap_row.specs.declared.notice.Notice.{Notice}
use Rattle.record_codec.specs.declared.records.Rec.TheVariants.{Create, Of}
use Rattle.log_replay.specs.declared.replay.Replay.{Replay}
use Rattle.log_replay.specs.Replays.{found}
use Rattle.shard_machine.specs.Views.{removed_notice, stored_notice}
use Rattle.shard_streams.specs.declared.halves.PreparedEntry.{PreparedEntry}
use Rattle.shard_streams.specs.declared.halves.PreparedCreate.{PreparedCreate}
use Rattle.shard_streams.specs.Halves.{IsMadeReady, IsPrepared}
use Rattle.shard_streams.specs.Places.{IsFree, MayTake, stored_notices, stored_number}

-- ---- the name and the entry of a record

pub same_name : (n m : List ℕ) (e f : Entry) → Of n e ≡ Of m f → n ≡ m
same_name n m e f h = cc

pub same_entry : (n m : List ℕ) (e f : Entry) → Of n e ≡ Of m f → e ≡ f
same_entry n m e f h = cc

-- the place that was made for the entry is one for the entry of the record
pub place_of_record : (replay : Replay) (prepared : PreparedEntry) (name other : List ℕ) (entry change : Entry) → IsPrepared replay prepared name entry → prepared.rec ≡ Of other change → MayTake change (found other replay.names)
place_of_record replay prepared name other entry change ready is =
    let same : Of name entry ≡ Of other change = sym ready.record_is ∙ is in
    subst (λ (n : List ℕ). MayTake change (found n replay.names)) (same_name name other entry change same)
    (subst (λ (e : Entry). MayTake e (found name replay.names)) (same_entry name other entry change same) ready.place)

-- ---- the configuration of a record

same_config : (t u : ℕ) (c d : Config) → Create t c ≡ Create u d → c ≡ d
same_config t u c d h = cc

pub state_of_record : (replay : Replay) (prepared : PreparedCreate) (config made : Config) (time created : ℕ) → IsMadeReady replay prepared config time → prepared.rec ≡ Create created made → StandsFor prepared.state (record { config = made; entries = [] })
state_of_record replay prepared config made time created ready is =
    subst (λ (c : Config). StandsFor prepared.state (record { config = c; entries = [] })) (same_config time created config made (sym ready.record_is ∙ is)) ready.state

pub free_of_record : (replay : Replay) (prepared : PreparedCreate) (config made : Config) (time created : ℕ) → IsMadeReady replay prepared config time → prepared.rec ≡ Create created made → IsFree (found made.name replay.names)
free_of_record replay prepared config made time created ready is =
    subst (λ (c : Config). IsFree (found c.name replay.names)) (same_config time created config made (sym ready.record_is ∙ is)) ready.place

-- ---- what is told

told_stored : (name : List ℕ) (e : Entry) → stored_notices name (stored_number e) ≡ stored_notice name e
told_stored name (Put number message mark) = refl
told_stored name (Del number) = refl
told_stored name (Purge pattern below) = refl
told_stored name (Expire now) = refl
told_stored name (Bind index incarnation start) = refl
told_stored name (Limits config) = refl

pub told_all : (name told other : List ℕ) (e : Entry) (o : Option ℕ) (gone count : ℕ) → told ≡ name → other ≡ name → o ≡ stored_number e → gone ≡ count → stored_notices told o ++ removed_notice other gone ≡ stored_notice name e ++ removed_notice name count
told_all name told other e o gone count t n s g =
    ap (λ (k : List ℕ). stored_notices k o ++ removed_notice other gone) t
    ∙ (ap (λ (k : List ℕ). stored_notices name o ++ removed_notice k gone) n
    ∙ (ap (λ (k : Option ℕ). stored_notices name k ++ removed_notice name gone) s
    ∙ (ap (λ (k : ℕ). stored_notices name (stored_number e) ++ removed_notice name k) g
    ∙ ap (λ (l : List Notice). l ++ removed_notice name count) (told_stored name e))))
