-- A packet, the copy that it is for, and what the decision of that copy does.
use Rattle.std.proofs.Common.{◌≡◌, ℕ, ◌+◌, eqb, Bool, true, false, cond, ◌==◌, List, [], ◌∷◌, Option, Some, None, refl, sym, ap, ◌∙◌, subst}
use Rattle.std.specs.Prelude.{find, Ok, Result}
use Rattle.std.specs.Str.{bytes_eq}
use Rattle.std.proofs.lemmas.Bool.{eqb-true}
use Rattle.nats_text.specs.declared.origin.Origin.{Origin}
use Rattle.js_wire.specs.declared.packet.AskerId.{AskerId}
use Rattle.js_wire.specs.declared.packet.Packet.{Packet}
use Rattle.stream_fold.specs.declared.decision.Decision.{Decision}
use Rattle.stream_fold.specs.declared.decision.Decision.TheVariants.{Ignore}
use Rattle.stream_fold.specs.declared.entry.Entry.{Entry}
use Rattle.tap_row.specs.declared.notice.Notice.{Notice}
use Rattle.stream_fold.specs.declared.decision.Reason.TheVariants.{Foreign}
use Rattle.stream_fold.specs.Facts.{StreamFacts}
use Rattle.replica_ask.specs.declared.phase.Phase.{Phase}
use Rattle.shard_machine.specs.declared.call.ShardCall.{ShardCall}
use Rattle.shard_machine.specs.declared.call.ShardCall.TheVariants as call
use Rattle.shard_machine.specs.declared.reply.Outcome.{Outcome}
use Rattle.shard_machine.specs.declared.reply.Outcome.TheVariants as outcome
use Rattle.shard_machine.specs.declared.reply.ShardReply.{ShardReply}
use Rattle.shard_machine.specs.Images.{LogImage, NameFacts, live_in}
use Rattle.shard_machine.specs.Views.{View, Effect, Copy, asker_of, copies_from, copies_of, copies_under, origins_of, reads, replied}
use Rattle.shard_machine.specs.Answers.{addressee, copy_of_asker, follows, hears}
use Rattle.shard_copies.specs.Asked.{copy_at, copy_of, decided_at}
use Rattle.shard_streams.specs.HeldImages.{HoldsImage}
use Rattle.shard_table.specs.declared.answered.Answered.{Answered}
use Rattle.shard_table.specs.declared.answered.Answered.TheVariants.{Done}
use Rattle.shard_table.specs.declared.table.Table.{Table}
use Rattle.shard_table.specs.Answering.{Does, Gives}
use Rattle.shard_table.specs.Effects.{effected}
use Rattle.shard_table.specs.Hearing.{IsHeard}
use Rattle.shard_table.specs.Holding.{Holds}

-- ---- the copies under a name

-- the copies of a stream, if it stands, as the views name them
abbrev copies_if : List ℕ → Option NameFacts → List Copy
copies_if name None = []
copies_if name (Some known) = copies_of name known.stream

copies-if : (i : LogImage) (name : List ℕ) → copies_under i name ≡ copies_if name (live_in i name)
copies-if i name = refl

pub copies-live : (i : LogImage) (name : List ℕ) (known : NameFacts) → live_in i name ≡ Some known → copies_under i name ≡ copies_of name known.stream
copies-live i name known e = copies-if i name ∙ ap (copies_if name) e

pub copies-gone : (i : LogImage) (name : List ℕ) → live_in i name ≡ None → copies_under i name ≡ []
copies-gone i name e = copies-if i name ∙ ap (copies_if name) e

-- a copy of the stream of this name and these facts that has this index
pub record IsAt (name : List ℕ) (f : StreamFacts) (number : ℕ) (c : Copy) : Type 0 where
  pub stream : c.stream ≡ name
  pub index : c.index ≡ number
  pub facts_are : c.facts ≡ f

found-from : (name : List ℕ) (f : StreamFacts) (origins : List Origin) (k number : ℕ) (c : Copy) → copy_at number (copies_from name f k origins) ≡ Some c → IsAt name f number c
found-from name f [] k number c e = absurd (cc)
found-from name f (o ∷ os) k number c e = by (eqb k number) refl e (found-from name f os (k + 1) number c)
  where
    by : (b : Bool) → eqb k number ≡ b → cond b (Some (copy_of name k f o)) (copy_at number (copies_from name f (k + 1) os)) ≡ Some c → (copy_at number (copies_from name f (k + 1) os) ≡ Some c → IsAt name f number c) → IsAt name f number c
    by true q h rest =
        let same : copy_of name k f o ≡ c = cc in
        record { stream = ap (λ (d : Copy). d.stream) (sym same); index = ap (λ (d : Copy). d.index) (sym same) ∙ eqb-true k number q; facts_are = ap (λ (d : Copy). d.facts) (sym same) }
    by false q h rest = rest h

pub found-at : (name : List ℕ) (f : StreamFacts) (number : ℕ) (c : Copy) → copy_at number (copies_of name f) ≡ Some c → IsAt name f number c
found-at name f number c e = found-from name f (origins_of f.config.copies) 0 number c e

-- the copy of an index under a name has both
pub found-under : (i : LogImage) (name : List ℕ) (number : ℕ) (c : Copy) → copy_at number (copies_under i name) ≡ Some c → (c.stream ≡ name) × (c.index ≡ number)
found-under i name number c e = by (live_in i name) refl
  where
    by : (o : Option NameFacts) → live_in i name ≡ o → (c.stream ≡ name) × (c.index ≡ number)
    by None q = let none : None ≡ Some c = sym (ap (copy_at number) (copies-gone i name q)) ∙ e in absurd (cc)
    by (Some known) q =
        let is = found-at name known.stream number c (sym (ap (copy_at number) (copies-live i name known q)) ∙ e) in
        (is.stream, is.index)

-- ---- the copy of a packet

-- a packet to an asker of this node is for the copy of its index
pub copy-here : (v : View) (id : AskerId) (packet : Packet) → addressee packet ≡ Some id → bytes_eq id.node v.node ≡ true → copy_of_asker v (addressee packet) ≡ copy_at id.index (copies_under v.image id.stream)
copy-here v id packet a h = ap (copy_of_asker v) a ∙ ap (λ b. cond b (copy_at id.index (copies_under v.image id.stream)) None) h

pub copy-elsewhere : (v : View) (id : AskerId) (packet : Packet) → addressee packet ≡ Some id → bytes_eq id.node v.node ≡ false → copy_of_asker v (addressee packet) ≡ None
copy-elsewhere v id packet a h = ap (copy_of_asker v) a ∙ ap (λ b. cond b (copy_at id.index (copies_under v.image id.stream)) None) h

pub copy-nowhere : (v : View) (packet : Packet) → addressee packet ≡ None → copy_of_asker v (addressee packet) ≡ None
copy-nowhere v packet a = ap (copy_of_asker v) a

pub copy-gone : (v : View) (id : AskerId) (packet : Packet) → addressee packet ≡ Some id → bytes_eq id.node v.node ≡ true → live_in v.image id.stream ≡ None → copy_of_asker v (addressee packet) ≡ None
copy-gone v id packet a h gone = copy-here v id packet a h ∙ ap (copy_at id.index) (copies-gone v.image id.stream gone)

-- the copy of an asker that a packet names has the stream and the index of that asker
pub copy-named : (v : View) (id : AskerId) (packet : Packet) (c : Copy) → addressee packet ≡ Some id → copy_of_asker v (addressee packet) ≡ Some c → (c.stream ≡ id.stream) × (c.index ≡ id.index)
copy-named v id packet c a e = by (bytes_eq id.node v.node) (sym (ap (copy_of_asker v) a) ∙ e)
  where
    by : (b : Bool) → cond b (copy_at id.index (copies_under v.image id.stream)) None ≡ Some c → (c.stream ≡ id.stream) × (c.index ≡ id.index)
    by true q = found-under v.image id.stream id.index c q
    by false q = absurd (cc)

-- The packet is for this copy, of this stream, which decided so.
pub record IsFor (v : View) (id : AskerId) (d : Decision) (packet : Packet) (now : ℕ) (known : NameFacts) : Type 0 where
  pub copy : Copy
  pub at : copy_at id.index (copies_of id.stream known.stream) ≡ Some copy
  pub found : copy_of_asker v (addressee packet) ≡ Some copy
  pub stream : copy.stream ≡ id.stream
  pub index : copy.index ≡ id.index
  pub facts_are : copy.facts ≡ known.stream
  pub decided : d ≡ decided_at v now packet (Some copy)

pub is-for : (v : View) (id : AskerId) (d : Decision) (packet : Packet) (now : ℕ) (x : IsHeard v id d packet now) (c : Copy) → copy_at id.index (copies_under v.image id.stream) ≡ Some c → IsFor v id d packet now x.known
is-for v id d packet now x c e =
    let there : copy_at id.index (copies_of id.stream x.known.stream) ≡ Some c = sym (ap (copy_at id.index) (copies-live v.image id.stream x.known x.stands)) ∙ e in
    let is = found-at id.stream x.known.stream id.index c there in
    record {
      copy = c;
      at = there;
      found = copy-here v id packet x.addressed x.here ∙ e;
      stream = is.stream;
      index = is.index;
      facts_are = is.facts_are;
      decided = x.decided ∙ ap (decided_at v now packet) e;
    }

-- whatever is decided but that the packet is foreign, a copy decided
pub for-copy : (v : View) (id : AskerId) (d : Decision) (packet : Packet) (now : ℕ) (x : IsHeard v id d packet now) → (d ≡ Ignore Foreign → ⊥) → IsFor v id d packet now x.known
for-copy v id d packet now x not_foreign = by (copy_at id.index (copies_under v.image id.stream)) refl
  where
    by : (o : Option Copy) → copy_at id.index (copies_under v.image id.stream) ≡ o → IsFor v id d packet now x.known
    by None e = absurd (not_foreign (x.decided ∙ ap (decided_at v now packet) e))
    by (Some c) e = is-for v id d packet now x c e

-- ---- what is done

-- replies of the same parts
pub reply-is : (what : Outcome) (made else_made : Option Entry) (sent else_sent : List Packet) (told else_told : List Notice) → made ≡ else_made → sent ≡ else_sent → told ≡ else_told → replied what made sent told ≡ replied what else_made else_sent else_told
reply-is what made else_made sent else_sent told else_told m s t =
    ap (λ (x : Option Entry). replied what x sent told) m ∙ (ap (λ (x : List Packet). replied what else_made x told) s ∙ ap (replied what else_made else_sent) t)

-- the copy follows its decision
pub hears-follows : (v : View) (id : AskerId) (d : Decision) (packet : Packet) (now : ℕ) (known : NameFacts) (f : IsFor v id d packet now known) → hears v now packet (copy_of_asker v (addressee packet)) ≡ follows v f.copy now packet (asker_of v f.copy).phase d
hears-follows v id d packet now known f =
    ap (hears v now packet) f.found ∙ ap (follows v f.copy now packet (asker_of v f.copy).phase) (sym f.decided)

-- a decision that changes nothing is told
pub hears-reads : (v : View) (id : AskerId) (d : Decision) (packet : Packet) (now : ℕ) → IsHeard v id d packet now → ((c : Copy) (p : Phase) → follows v c now packet p d ≡ reads v (outcome.Heard d))
    → hears v now packet (copy_of_asker v (addressee packet)) ≡ reads v (outcome.Heard d)
hears-reads v id d packet now x same = by (copy_at id.index (copies_under v.image id.stream)) refl
  where
    by : (o : Option Copy) → copy_at id.index (copies_under v.image id.stream) ≡ o → hears v now packet (copy_of_asker v (addressee packet)) ≡ reads v (outcome.Heard d)
    by None e =
        ap (hears v now packet) (copy-here v id packet x.addressed x.here ∙ e)
        ∙ ap (λ (y : Decision). reads v (outcome.Heard y)) (sym (x.decided ∙ ap (decided_at v now packet) e))
    by (Some c) e = let f = is-for v id d packet now x c e in hears-follows v id d packet now x.known f ∙ same f.copy (asker_of v f.copy).phase

-- nothing changes, and the decision is told
pub does-read : (t : Table) (v : View) (packet : Packet) (now : ℕ) (d : Decision) → hears v now packet (copy_of_asker v (addressee packet)) ≡ reads v (outcome.Heard d) → Holds t v → Does v (call.Heard packet now) (replied (outcome.Heard d) None [] []) t
does-read t v packet now d e h = record {
  effect = reads v (outcome.Heard d);
  answers = ap Ok (sym e);
  none = refl;
  replies = refl;
  becomes = h;
}

-- a packet for a copy that isn't here is ignored
pub does-ignore : (t : Table) (v : View) (packet : Packet) (now : ℕ) → copy_of_asker v (addressee packet) ≡ None → Holds t v → Does v (call.Heard packet now) (replied (outcome.Heard (Ignore Foreign)) None [] []) t
does-ignore t v packet now none h = does-read t v packet now (Ignore Foreign) (ap (hears v now packet) none) h

pub gives-done : (v : View) (called : ShardCall) (answered : Answered) (reply : ShardReply) (new : Table) → answered ≡ Done reply → Does v called reply new → Gives v called (Ok answered) new
gives-done v called answered reply new e d = subst (λ (a : Answered). Gives v called (Ok a) new) (sym e) d

pub gives-ignored : (t : Table) (v : View) (packet : Packet) (now : ℕ) (answered : Answered) → answered ≡ Done (replied (outcome.Heard (Ignore Foreign)) None [] []) → copy_of_asker v (addressee packet) ≡ None → Holds t v → Gives v (call.Heard packet now) (Ok answered) t
gives-ignored t v packet now answered e none h = gives-done v (call.Heard packet now) answered (replied (outcome.Heard (Ignore Foreign)) None [] []) t e (does-ignore t v packet now none h)
