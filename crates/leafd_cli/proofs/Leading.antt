-- Each line of the plain world leads as a book says, and keeps what the world keeps.
use Rattle.std.proofs.Common.{◌≡◌, ℕ, List, [], ◌∷◌, ◌++◌, Bool, true, false, cond, Option, None, Some, refl, sym, subst, arith}
use Rattle.std.specs.Prelude.{◌||◌, is_none}
use Rattle.std.proofs.lemmas.List.{append-nil}
use Rattle.std.specs.List.{list_any}
use Rattle.nats_text.specs.declared.origin.Origin.{Origin}
use Rattle.stream_fold.specs.declared.config.Config.{Config}
use Rattle.stream_fold.specs.declared.config.Copies.{Copies}
use Rattle.stream_fold.specs.declared.config.Copies.TheVariants.{Nothing, Mirror as MirrorOf, Sources}
use Rattle.stream_fold.specs.Histories.{either}
use Rattle.leafd_script.specs.Lines.{IsMirrorFrom}
use Rattle.leafd_script.specs.declared.line.Line.{Line}
use Rattle.leafd_script.specs.declared.line.Line.TheVariants.{Node, Stream, Mirror, Update, Publish, PublishWithHeaders, Delete, Purge, Expire, Clock, Settle, Show, Log, Heads, Quiet}
use Rattle.leafd_cli.specs.Logs.{StreamLog, Logs}
use Rattle.leafd_cli.specs.Legal.{fault_of, making_fault, origin_among, origins_of}
use Rattle.leafd_cli.specs.Operations.{Task, task_of, new_stream, worked_in, worked_if, operated, AllGrow}
use Rattle.leafd_cli.specs.Book.{Leads, IsSettledBy}
use Rattle.leafd_cli.specs.Plain.{step}
use Rattle.leafd_cli.specs.Keeping.{KeepsCopy, AreSound, IsNumbered, IsWellMade}
use Rattle.leafd_cli.proofs.Joined.{not_some}
use Rattle.leafd_cli.proofs.Numbers.{AllNumbered-push}
use Rattle.leafd_cli.proofs.Steps.{keeps_steps, AllKeep-push}
use Rattle.leafd_cli.proofs.Work.{all_step-worked, numbered-worked}
use Rattle.leafd_cli.proofs.Settles.{AreRight-kept, all_grow_not, settles_all, SettlesAll}

pub worked_kept : (now : ℕ) (task : Task) (streams : List StreamLog) → AreSound streams → AreSound (worked_in now task streams)
worked_kept now task streams k = record {
  copies = keeps_steps [] [] streams (worked_in now task streams) tt (all_step-worked now task [] streams k.numbers) k.copies;
  numbers = numbered-worked now task streams k.numbers;
}

new_numbered : (node : List ℕ) (config : Config) → IsNumbered (new_stream node config)
new_numbered node config = record { rising = tt; below = omega arith; copies = refl }

made_kept : (streams : List StreamLog) (node : List ℕ) (config : Config) → AreSound streams → KeepsCopy streams (new_stream node config) config.copies → AreSound (streams ++ new_stream node config ∷ [])
made_kept streams node config k c = record { copies = AllKeep-push [] streams (new_stream node config) k.copies c; numbers = AllNumbered-push streams (new_stream node config) k.numbers (new_numbered node config) }

-- ---- a stream that may be made copies one that is there

first_none : {A : Type 0} (a b : Option A) → either a b ≡ None → (a ≡ None) × (b ≡ None)
first_none None b e = (refl, e)
first_none (Some x) b e = absurd (not_some x (sym e))

not_if : {A : Type 0} (b : Bool) (x : A) → cond b (Some x) None ≡ None → b ≡ false
not_if true x e = absurd (not_some x (sym e))
not_if false x e = refl

none_of : {A : Type 0} (o : Option A) → (is_none o || false) ≡ false → (x : A) × (o ≡ Some x)
none_of None e = absurd (let wrong : true ≡ false = e in cc)
none_of (Some x) e = (x, refl)

origin_there : (logs : Logs) (node : List ℕ) (config : Config) (want : Origin) → config.copies ≡ MirrorOf want → making_fault logs.nodes logs.streams node config ≡ None → (o : StreamLog) × (origin_among want logs.streams ≡ Some o)
origin_there logs node config want e f =
    let one = first_none _ _ f in
    let two = first_none _ _ one.1 in
    let three = first_none _ _ two.1 in
    let P : Copies → Type 0 = λ c. list_any (λ (origin : Origin). is_none (origin_among origin logs.streams)) (origins_of c) ≡ false in
    none_of (origin_among want logs.streams) (subst P e (not_if _ _ three.0))

plain_keeps : (streams : List StreamLog) (node : List ℕ) (config : Config) → config.copies ≡ Nothing → KeepsCopy streams (new_stream node config) config.copies
plain_keeps streams node config e = let P : Copies → Type 0 = λ c. KeepsCopy streams (new_stream node config) c in subst P (sym e) tt

copy_keeps : (logs : Logs) (node : List ℕ) (config : Config) (copies : Copies) → config.copies ≡ copies → IsMirrorFrom node copies → making_fault logs.nodes logs.streams node config ≡ None → KeepsCopy logs.streams (new_stream node config) copies
copy_keeps logs node config Nothing e m f = absurd m
copy_keeps logs node config (MirrorOf want) e m f = let o = origin_there logs node config want e f in (o.0, o.1, m.3, λ seq. refl)
copy_keeps logs node config (Sources wants) e m f = absurd m

mirror_keeps : (logs : Logs) (node : List ℕ) (config : Config) → IsWellMade (Mirror node config) → making_fault logs.nodes logs.streams node config ≡ None → KeepsCopy logs.streams (new_stream node config) config.copies
mirror_keeps logs node config made f = copy_keeps logs node config config.copies refl made.0 f

none_made : (streams : List StreamLog) → AreSound streams → AreSound (streams ++ [])
none_made streams k = let P : List StreamLog → Type 0 = λ x. AreSound x in subst P (sym (append-nil streams)) k

worked_if_kept : (now : ℕ) (task : Option Task) (streams : List StreamLog) → AreSound streams → AreSound (worked_if now task streams)
worked_if_kept now None streams k = k
worked_if_kept now (Some task) streams k = worked_kept now task streams k

-- a line that makes no stream
plain_kept : (logs : Logs) (line : Line) → AreSound logs.streams → AreSound (worked_if logs.clock (task_of line) logs.streams ++ [])
plain_kept logs line k = none_made (worked_if logs.clock (task_of line) logs.streams) (worked_if_kept logs.clock (task_of line) logs.streams k)

-- what the world keeps, it keeps over each legal line
pub kept_on : (logs : Logs) (line : Line) → AreSound logs.streams → fault_of logs line ≡ None → IsWellMade line → AreSound (step logs line).streams
kept_on logs (Node node) k f made = none_made logs.streams k
kept_on logs (Stream node config) k f made = made_kept logs.streams node config k (plain_keeps logs.streams node config made.1)
kept_on logs (Mirror node config) k f made = made_kept logs.streams node config k (mirror_keeps logs node config made f)
kept_on logs (Update node name changes) k f made = plain_kept logs (Update node name changes) k
kept_on logs (Publish node name subject text) k f made = plain_kept logs (Publish node name subject text) k
kept_on logs (PublishWithHeaders node name subject headers text) k f made = plain_kept logs (PublishWithHeaders node name subject headers text) k
kept_on logs (Delete node name seq) k f made = plain_kept logs (Delete node name seq) k
kept_on logs (Purge node name pattern below) k f made = plain_kept logs (Purge node name pattern below) k
kept_on logs (Expire node name) k f made = plain_kept logs (Expire node name) k
kept_on logs (Clock moment) k f made = none_made logs.streams k
kept_on logs Settle k f made = (settles_all logs.streams k).kept
kept_on logs (Show node name) k f made = none_made logs.streams k
kept_on logs (Log node name) k f made = none_made logs.streams k
kept_on logs Heads k f made = none_made logs.streams k
kept_on logs Quiet k f made = none_made logs.streams k

-- a line that copies nothing
plainly : (logs : Logs) (line : Line) → (step logs line).streams ≡ operated logs line → IsSettledBy line (step logs line) → AreSound (step logs line).streams → Leads logs line (step logs line)
plainly logs line same settled k =
    let P : List StreamLog → Type 0 = λ x. AllGrow x (step logs line).streams in
    record { nodes = refl; clock = refl; quiet = refl; streams = subst P same (all_grow_not (step logs line).streams); right = AreRight-kept _ k; settled = settled }

-- each legal line leads as a book says
pub leads : (logs : Logs) (line : Line) → AreSound logs.streams → fault_of logs line ≡ None → IsWellMade line → Leads logs line (step logs line)
leads logs (Node node) k f made = plainly logs (Node node) refl tt (kept_on logs (Node node) k f made)
leads logs (Stream node config) k f made = plainly logs (Stream node config) refl tt (kept_on logs (Stream node config) k f made)
leads logs (Mirror node config) k f made = plainly logs (Mirror node config) refl tt (kept_on logs (Mirror node config) k f made)
leads logs (Update node name changes) k f made = plainly logs (Update node name changes) refl tt (kept_on logs (Update node name changes) k f made)
leads logs (Publish node name subject text) k f made = plainly logs (Publish node name subject text) refl tt (kept_on logs (Publish node name subject text) k f made)
leads logs (PublishWithHeaders node name subject headers text) k f made = plainly logs (PublishWithHeaders node name subject headers text) refl tt (kept_on logs (PublishWithHeaders node name subject headers text) k f made)
leads logs (Delete node name seq) k f made = plainly logs (Delete node name seq) refl tt (kept_on logs (Delete node name seq) k f made)
leads logs (Purge node name pattern below) k f made = plainly logs (Purge node name pattern below) refl tt (kept_on logs (Purge node name pattern below) k f made)
leads logs (Expire node name) k f made = plainly logs (Expire node name) refl tt (kept_on logs (Expire node name) k f made)
leads logs (Clock moment) k f made = plainly logs (Clock moment) refl tt (kept_on logs (Clock moment) k f made)
leads logs Settle k f made =
    let s : SettlesAll logs.streams (step logs Settle).streams = settles_all logs.streams k in
    let P : List StreamLog → Type 0 = λ x. AllGrow x (step logs Settle).streams in
    record { nodes = refl; clock = refl; quiet = refl; streams = subst P (sym (append-nil logs.streams)) s.grown; right = AreRight-kept _ s.kept; settled = s.through }
leads logs (Show node name) k f made = plainly logs (Show node name) refl tt (kept_on logs (Show node name) k f made)
leads logs (Log node name) k f made = plainly logs (Log node name) refl tt (kept_on logs (Log node name) k f made)
leads logs Heads k f made = plainly logs Heads refl tt (kept_on logs Heads k f made)
leads logs Quiet k f made = plainly logs Quiet refl tt (kept_on logs Quiet k f made)
