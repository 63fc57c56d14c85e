-- What a reply says of consumers is so.
use Rattle.std.proofs.Common.{◌≡◌, ℕ, suc, ◌+◌, ◌≤◌, true, List, [], ◌∷◌, ◌++◌, length, Option, Some, IsTrue, refl, sym, ap, ◌∙◌, subst, arith, length-append}
use Rattle.std.specs.Prelude.{zero, slice_get, Contains}
use Rattle.std.proofs.lemmas.List.{length-map}
use Rattle.nats_text.specs.declared.message.Message.{Message}
use Rattle.nats_text.specs.declared.message.Stamp.{Stamp}
use Rattle.js_wire.specs.declared.packet.AskerId.{AskerId}
use Rattle.js_wire.specs.declared.packet.Packet.{Packet}
use Rattle.js_wire.specs.declared.packet.Packet.TheVariants.{Ask, Answer, Refuse, Delivery, Beat, FlowAsk, FlowReply}
use Rattle.stream_fold.specs.declared.entry.Numbered.{Numbered}
use Rattle.stream_fold.specs.Histories.{put}
use Rattle.stream_fold.specs.RowLists.{seqs}
use Rattle.record_codec.specs.declared.records.Rec.{Rec}
use Rattle.push_consumer.specs.declared.wanted.Wanted.{Wanted}
use Rattle.push_consumer.specs.Chains.{Sent, chain}
use Rattle.push_consumer.specs.Progress.{ConsumerState}
use Rattle.shard_machine.specs.declared.call.ShardCall.{ShardCall}
use Rattle.shard_machine.specs.Logs.{Made, incarnation, live}
use Rattle.shard_machine.specs.Images.{LogImage, incarnation_in}
use Rattle.shard_machine.specs.Views.{Effect}
use Rattle.shard_machine.specs.Steps.{view_in}
use Rattle.shard_machine.proofs.Images.{images-tell}
use Rattle.run_soundness.specs.Shards.{Consumer, ShardState, IsRead, delivered, sent_now}
use Rattle.run_soundness.specs.Soundness.{SaysOf, names_consumer}
use Rattle.run_soundness.specs.Below.{Laws}
use Rattle.run_soundness.proofs.Histories.{put-on}
use Rattle.run_soundness.proofs.Logs.{Stands, live-is, live-from, hist-append}
use Rattle.run_soundness.proofs.ShardsRows.{Speaks, IsAnswered, IsDelivered, IsBeat}
use Rattle.run_soundness.proofs.ShardsKept.{ShardOk, AnswersOn, ghost_of, row, next_log, held-image, still-there, made-there, stands-with, made_now}
use Rattle.run_soundness.proofs.ShardsGrow.{chain-now}

-- it is said of a consumer that was made at this shard
pub record IsSo (s : ShardState) (p : Packet) : Type 0 where
  pub c : Consumer
  pub ever : Contains s.ever c
  pub says : SaysOf p s.log c

-- a number behind the first part of a list
get-behind : (xs ys : List ℕ) (n k x : ℕ) → n ≡ length xs → slice_get ys k ≡ Some x → slice_get (xs ++ ys) (n + k) ≡ Some x
get-behind [] ys n k x e q = subst (λ i. slice_get ys i ≡ Some x) (let z : k ≡ n + k = omega arith in z) q
get-behind (y ∷ xs) ys n k x e q =
    subst (λ i. slice_get (y ∷ (xs ++ ys)) i ≡ Some x) (let z : suc (length xs + k) ≡ n + k = omega arith in z) (get-behind xs ys (length xs) k x refl q)

seq-at : (rows : List Numbered) (i : ℕ) (row : Numbered) → slice_get rows i ≡ Some row → slice_get (seqs rows) i ≡ Some row.seq
seq-at [] i row e = absurd (cc)
seq-at (r ∷ rows) zero row e = (let same : r ≡ row = cc in ap (λ (x : Numbered). Some x.seq) same)
seq-at (r ∷ rows) (suc i) row e = seq-at rows i row e

module _ (laws : Laws) (mid new : ShardState) (call : ShardCall) (does : Effect) (ok : ShardOk mid) (loaded : mid.held.loaded ≡ true) (a : AnswersOn mid call does new) where
  -- what stood before, as it is now
  abbrev now-of : Consumer → Consumer
  now-of k = sent_now does.consumers does.reply.packets k

  counts : (c : ConsumerState) (q : Contains mid.held.consumers c) → c.progress.count ≡ length (chain (ok.standing c q).made_as.sent)
  counts c q =
      let st = ok.standing c q in
      st.right.stands.count ∙ sym (length-map st.made_as.sent.sent (λ (x : Sent). x.seq))

  answered-so : (asker : AskerId) (attempt consumer : Stamp) (number start : ℕ) → IsAnswered mid.log (made_now laws mid new call does ok loaded a) asker attempt consumer number start → IsSo new (Answer asker attempt consumer number start)
  answered-so asker attempt consumer number start w =
      let r = row laws mid new call does ok loaded a in
      let n = r.evolves.new w.it w.made_it in
      let li = live-is mid.log w.it.stream n.known n.reads_it in
      let nl : List Rec = next_log laws mid new call does ok loaded a in
      let there : Stands nl w.it.stream (incarnation mid.log w.it.stream) = stands-with mid.log r.adds.one w.it.stream (incarnation mid.log w.it.stream) (λ x is. r.adds.leaves x is w.it n.here) li.0 in
      let inc : incarnation_in new.held.image w.it.stream ≡ incarnation mid.log w.it.stream =
      ap (λ (i : LogImage). incarnation_in i w.it.stream) (held-image laws mid new call does ok loaded a) ∙ ((images-tell nl).incarnation w.it.stream ∙ sym there.latest) in
      record {
        c = ghost_of new.held.image w.it;
        ever = made-there laws mid new call does ok loaded a w.it w.made_it;
        says = (
          sym w.name,
          sym w.asker_is,
          sym w.attempt_is,
          inc ∙ sym w.number_is,
          sym w.start_is,
        );
      }

  delivered-so : (asker : AskerId) (attempt : Stamp) (stream : List ℕ) (consumer : Stamp) (number seq pending : ℕ) (message : Message) → IsDelivered mid.log (view_in mid.held) does.reply.packets asker attempt stream consumer number seq message →
      IsSo new (Delivery asker attempt stream consumer number seq pending message)
  delivered-so asker attempt stream consumer number seq pending message w =
      let st = ok.standing w.it w.stood in
      let k = st.made_as in
      let rows : List Numbered = delivered w.it.name does.reply.packets in
      let more : chain (now-of k).sent ≡ chain k.sent ++ seqs rows = chain-now does.consumers does.reply.packets k ∙ ap (λ (n : Stamp). chain k.sent ++ seqs (delivered n does.reply.packets)) st.name in
      let here : slice_get (chain k.sent ++ seqs rows) (w.it.progress.count + w.sent.place) ≡ Some seq =
      get-behind (chain k.sent) (seqs rows) w.it.progress.count w.sent.place seq (counts w.it w.stood) (seq-at rows w.sent.place (record { seq = seq; message = message }) w.sent.row) in
      let on = hist-append mid.log does.records k.stream k.incarnation st.origin st.reads in
      let l : live mid.log w.it.stream ≡ Some st.origin = ap (live mid.log) (sym st.stream) ∙ live-from mid.log k.stream k.incarnation st.origin st.stands st.reads in
      let same : w.origin ≡ st.origin = (let q : Some w.origin ≡ Some st.origin = sym w.reads_it ∙ l in cc) in
      record {
        c = now-of k;
        ever = still-there laws mid new call does ok loaded a k st.among;
        says = (
          st.name ∙ sym w.sent.name_is,
          ap (λ (x : Wanted). x.asker) st.wanted ∙ sym w.sent.asker_is,
          ap (λ (x : Wanted). x.attempt) st.wanted ∙ sym w.sent.attempt_is,
          st.stream ∙ sym w.sent.stream_is,
          (w.it.progress.count + w.sent.place, w.sent.number_is, subst (λ (l : List ℕ). slice_get l (w.it.progress.count + w.sent.place) ≡ Some seq) (sym more) here),
          (on.0, subst (λ (l : List Rec). IsRead l (now-of k) on.0) (sym a.log) on.1, put-on st.origin.history on.0.history seq message on.2.history (subst (λ (m : Made). put seq m.history.entries ≡ Some message) same w.was_put)),
        );
      }

  beat-so : (asker : AskerId) (attempt : Stamp) (origin stream : List ℕ) (consumer : Stamp) (last_number last_seq : ℕ) (stalled : Option ℕ) → IsBeat (view_in mid.held) asker attempt stream consumer last_number → IsSo new (Beat asker attempt origin stream consumer last_number last_seq stalled)
  beat-so asker attempt origin stream consumer last_number last_seq stalled w =
      let st = ok.standing w.it w.stood in
      let k = st.made_as in
      let more = chain-now does.consumers does.reply.packets k in
      let longer : length (chain (now-of k).sent) ≡ length (chain k.sent) + length (seqs (delivered k.name does.reply.packets)) = ap (λ (l : List ℕ). length l) more ∙ length-append (chain k.sent) (seqs (delivered k.name does.reply.packets)) in
      let count = counts w.it w.stood in
      let is = w.number_is in
      record {
        c = now-of k;
        ever = still-there laws mid new call does ok loaded a k st.among;
        says = (
          st.name ∙ sym w.name,
          ap (λ (x : Wanted). x.asker) st.wanted ∙ sym w.asker_is,
          ap (λ (x : Wanted). x.attempt) st.wanted ∙ sym w.attempt_is,
          st.stream ∙ sym w.stream_is,
          (let le : last_number ≤ length (chain (now-of k).sent) = omega arith in le),
        );
      }

  so-by : (p : Packet) → Speaks mid.log (view_in mid.held) does.reply.packets (made_now laws mid new call does ok loaded a) p → IsTrue (names_consumer p) → IsSo new p
  so-by (Ask asker attempt origin stream start filters) w t = absurd (cc)
  so-by (Answer asker attempt consumer number start) w t = answered-so asker attempt consumer number start w
  so-by (Refuse asker attempt code err_code) w t = absurd (cc)
  so-by (Delivery asker attempt stream consumer number seq pending message) w t = delivered-so asker attempt stream consumer number seq pending message w
  so-by (Beat asker attempt origin stream consumer last_number last_seq stalled) w t = beat-so asker attempt origin stream consumer last_number last_seq stalled w
  so-by (FlowAsk asker attempt origin stream consumer token) w t = absurd (cc)
  so-by (FlowReply origin stream consumer token) w t = absurd (cc)

  -- Each answer, delivery and beat of a reply says of a consumer that was made here what is so.
  pub says-answers : (p : Packet) → Contains does.reply.packets p → IsTrue (names_consumer p) → IsSo new p
  says-answers p q t = so-by p ((row laws mid new call does ok loaded a).evolves.speaks p q) t
