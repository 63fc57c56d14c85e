-- The asker whose copy wrote an entry that it heard.
use Rattle.std.proofs.Common.{◌≡◌, ℕ, List, Option, Some, None, refl, sym, ap, ◌∙◌}
use Rattle.std.specs.Cmp.Lexicographic.{bytes_decides}
use Rattle.std.proofs.lemmas.Bool.{eqb-true}
use Rattle.nats_text.specs.declared.origin.Origin.{Origin}
use Rattle.js_wire.specs.declared.packet.AskerId.{AskerId}
use Rattle.js_wire.specs.declared.packet.Packet.{Packet}
use Rattle.stream_fold.specs.declared.entry.Entry.{Entry}
use Rattle.stream_fold.specs.Histories.{History}
use Rattle.shard_machine.specs.declared.call.ShardCall.{ShardCall}
use Rattle.shard_machine.specs.declared.call.ShardCall.TheVariants as call
use Rattle.shard_machine.specs.Views.{Copy}
use Rattle.shard_machine.specs.Answers.{addressee, copy_of_asker, decided_by}
use Rattle.shard_machine.specs.Steps.{view_in}
use Rattle.run_soundness.specs.Shards.{ShardState}
use Rattle.run_soundness.specs.Soundness.{IsCopy, copy_of}
use Rattle.run_soundness.proofs.Following.{entry_by}
use Rattle.run_soundness.proofs.Recorded.{HeardWrites}
use Rattle.run_soundness.proofs.ShardsCopies.{copy-stream, heard-by}
use Rattle.run_soundness.proofs.ShardsKept.{ShardOk}
use Rattle.run_soundness.proofs.Asked.{copy-here}

-- the packet of the call names an asker that is here, and its copy decided to write the entry in its stream
pub record HeardEntry (mid : ShardState) (called : ShardCall) (name : List ℕ) (e : Entry) : Type 0 where
  pub a : AskerId
  pub packet : Packet
  pub now : ℕ
  pub is : called ≡ call.Heard packet now
  pub own : addressee packet ≡ Some a
  pub g : History
  pub want : Origin
  pub copy : IsCopy mid a g want
  pub stream : a.stream ≡ name
  pub entry : entry_by (decided_by g.config.copies (view_in mid.held) (copy_of a g want) now packet) ≡ Some e

module _ (mid : ShardState) (called : ShardCall) (name : List ℕ) (e : Entry) (ok : ShardOk mid) (w : HeardWrites (view_in mid.held) called name e) where
  entry-by : (o : Option AskerId) → addressee w.packet ≡ o → copy_of_asker (view_in mid.held) o ≡ Some w.c → HeardEntry mid called name e
  entry-by None own found = absurd (cc)
  entry-by (Some id) own found =
      let h = heard-by (view_in mid.held) id w.c found in
      let node : id.node ≡ mid.held.node = (bytes_decides id.node mid.held.node).0 h.node in
      let streams : w.c.stream ≡ id.stream = copy-stream mid.held.image id.stream w.c h.among in
      let indexes : w.c.index ≡ id.index = eqb-true w.c.index id.index h.index in
      let k = copy-here mid id w.c ok node h.copy streams indexes in
      record {
        a = id;
        packet = w.packet;
        now = w.now;
        is = w.is;
        own = own;
        g = k.g;
        want = w.c.want;
        copy = k.copy;
        stream = sym streams ∙ w.stream;
        entry =
            ap entry_by (sym (ap (λ (x : Copy). decided_by x.facts.config.copies (view_in mid.held) x w.now w.packet) k.is ∙ ap (λ c. decided_by c (view_in mid.held) (copy_of id k.g w.c.want) w.now w.packet) k.copies))
            ∙ w.entry;
      }

  pub heard-entry : HeardEntry mid called name e
  heard-entry = entry-by (addressee w.packet) refl w.found
