-- What is printed of one shard, and of the shards so far.
use Rattle.std.proofs.Common.{◌≡◌, ◌≢◌, ℕ, suc, ◌<◌, List, [], ◌∷◌, ◌++◌, sym, ◌∙◌, subst, arith}
use Rattle.std.specs.Prelude.{Option, Some, Err, MatchOption, codes, decimal}
use Rattle.std.proofs.lemmas.List.{append_cancel_left}
use Rattle.record_log.specs.declared.fault.Part.{Part}
use Rattle.record_log.specs.declared.fault.Part.TheVariants.{Main, Spare}
use Rattle.leafd_cli.specs.declared.inspect.InspectFault.{InspectFault}
use Rattle.leafd_cli.specs.declared.inspect.InspectFault.TheVariants.{Read, Disk, BadJournal, TooLong, NoMemory}
use Rattle.leafd_cli.specs.Folders.{path}
use Rattle.leafd_cli.specs.Inspecting.{ShowsShard, ShowsBelow, IsShardText, FaultIn, IsFirstFault, IsBadAt, IsLongBy}
use Rattle.leafd_cli.specs.Inspections.{ReadsDisks, ReadsShard, Pushes, Reports}

parts_apart : codes ".b" ≢ codes ".a"
parts_apart same = absurd (grind (arith, same))

-- the two files of a shard have two names
pub paths_apart : (dir : List ℕ) (shard : ℕ) → path dir shard Spare ≢ path dir shard Main
paths_apart dir shard same = parts_apart (append_cancel_left (decimal shard) _ _ (append_cancel_left (codes "shard-") _ _ (append_cancel_left (47 ∷ []) _ _ (append_cancel_left dir _ _ same))))

-- the disks of the shard are at fault
pub shard_faulted : (files : List ℕ → Option (List ℕ)) (dir : List ℕ) (shard : ℕ) (a : List ℕ) (b : Option (List ℕ)) (fault : InspectFault) → files (path dir shard Main) ≡ Some a → files (path dir shard Spare) ≡ b → ReadsDisks shard a b (Err fault) → ReadsShard files dir shard (Err fault)
shard_faulted files dir shard a b Read here spare read = tt
shard_faulted files dir shard a b Disk here spare read = tt
shard_faulted files dir shard a b (BadJournal name place) here spare read = record { bytes = a; here = here; part = read.0; fault = subst (λ o. IsBadAt place a o read.0) (sym spare) read.1; name_is = read.2 }
shard_faulted files dir shard a b (TooLong name len) here spare read = record { bytes = a; here = here; part = read.0; fault = subst (λ o. IsLongBy len a o read.0) (sym spare) read.1; name_is = read.2 }
shard_faulted files dir shard a b NoMemory here spare read = tt

-- a shard is printed alike where the files hold the same
pub shard_same : (f g : List ℕ → Option (List ℕ)) (dir : List ℕ) (shard : ℕ) (text : List ℕ) → ((name : List ℕ) → g name ≡ f name) → ShowsShard g dir shard text → ShowsShard f dir shard text
shard_same f g dir shard text same shows =
    subst (λ (o : Option (List ℕ)). MatchOption o (text ≡ []) (λ a. IsShardText shard a (f (path dir shard Spare)) text)) (same (path dir shard Main))
    (subst (λ (o : Option (List ℕ)). MatchOption (g (path dir shard Main)) (text ≡ []) (λ a. IsShardText shard a o text)) (same (path dir shard Spare)) shows)

-- the first shard at fault, behind those that were printed
first_fault : (Fault : List ℕ → Option (List ℕ) → Part → Type 0) (f g : List ℕ → Option (List ℕ)) (dir name before : List ℕ) (shard : ℕ) → ((n : List ℕ) → g n ≡ f n) → shard < 8 → ShowsBelow f dir shard before → FaultIn Fault g dir shard name → IsFirstFault Fault f dir name
first_fault Fault f g dir name before shard same within shown fault = record {
  shard = shard;
  within = within;
  before = before;
  earlier = shown;
  fault = record {
    bytes = fault.bytes;
    here = sym (same (path dir shard Main)) ∙ fault.here;
    part = fault.part;
    fault = subst (λ (o : Option (List ℕ)). Fault fault.bytes o fault.part) (same (path dir shard Spare)) fault.fault;
    name_is = fault.name_is;
  };
}

pub fault_reported : (tells : Type 0) (f g : List ℕ → Option (List ℕ)) (dir before new : List ℕ) (shard : ℕ) (fault : InspectFault) → (tells → (n : List ℕ) → g n ≡ f n) → shard < 8 → (tells → ShowsBelow f dir shard before) → Pushes tells g dir shard before new (Err fault) → Reports tells f dir (Err fault)
fault_reported tells f g dir before new shard Read same within shown push = tt
fault_reported tells f g dir before new shard Disk same within shown push = tt
fault_reported tells f g dir before new shard (BadJournal name place) same within shown push = λ t. first_fault (IsBadAt place) f g dir name before shard (same t) within (shown t) (push t)
fault_reported tells f g dir before new shard (TooLong name len) same within shown push = λ t. first_fault (IsLongBy len) f g dir name before shard (same t) within (shown t) (push t)
fault_reported tells f g dir before new shard NoMemory same within shown push = tt

-- one shard more is printed
pub shards_shown : (f g : List ℕ → Option (List ℕ)) (dir before here new : List ℕ) (shard next : ℕ) → next ≡ suc shard → ((n : List ℕ) → g n ≡ f n) → ShowsBelow f dir shard before → new ≡ before ++ here → ShowsShard g dir shard here → ShowsBelow f dir next new
shards_shown f g dir before here new shard next is same shown grown shows =
    subst (λ (n : ℕ). ShowsBelow f dir n new) (sym is) (before, here, grown, shown, shard_same f g dir shard here same shows)
