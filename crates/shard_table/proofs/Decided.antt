-- What a copy decides brings an entry that may come next in its stream.
use Rattle.std.proofs.Common.{◌≡◌, ℕ, ◌+◌, ◌-◌, ◌^◌, max, ◌==◌, Bool, true, false, cond, List, Option, Some, None, refl, sym, ap, ◌∙◌, subst}
use Rattle.std.specs.Prelude.{nat_le, ◌≤◌, Ok, [], ◌∷◌}
use Rattle.std.specs.FinMap.{get}
use Rattle.std.specs.Str.{bytes_eq}
use Rattle.nats_text.specs.declared.message.Message.{Message}
use Rattle.nats_text.specs.declared.origin.Origin.{Origin}
use Rattle.js_wire.specs.declared.packet.AskerId.{AskerId}
use Rattle.js_wire.specs.declared.packet.Packet.{Packet}
use Rattle.js_wire.specs.declared.packet.Packet.TheVariants.{Ask, Answer, Refuse, Delivery, Beat, FlowAsk, FlowReply}
use Rattle.stream_fold.specs.declared.config.Copies.{Copies}
use Rattle.stream_fold.specs.declared.config.Copies.TheVariants.{Nothing, Mirror, Sources}
use Rattle.stream_fold.specs.declared.decision.Decision.{Decision}
use Rattle.stream_fold.specs.declared.decision.Decision.TheVariants.{Store, Bind, Rebind, Skip, Ignore, AskAgain, Reply, Heard, Refused, Stop}
use Rattle.stream_fold.specs.declared.entry.BoundTo.{BoundTo}
use Rattle.stream_fold.specs.declared.decision.Reason.TheVariants.{Back, Large, SeqEnd}
use Rattle.stream_fold.specs.declared.entry.Entry.{Entry}
use Rattle.stream_fold.specs.declared.entry.Entry.TheVariants.{Put}
use Rattle.stream_fold.specs.Publishing.{content_size, capped}
use Rattle.stream_fold.specs.Facts.{StreamFacts, FitsFacts, facts}
use Rattle.stream_fold.specs.FactLaws.{FactsTellFits}
use Rattle.stream_fold.specs.Fits.{Fits}
use Rattle.stream_fold.specs.Histories.{History}
use Rattle.replica_ask.specs.declared.phase.Order.{Order}
use Rattle.replica_ask.specs.declared.phase.Order.TheVariants.{Next, Old as OldOrder, Foreign as ForeignOrder, Gap as GapOrder, Beat as BeatOrder, FlowAsk as FlowOrder, Answer as AnswerOrder, Refuse as RefuseOrder}
use Rattle.replica_ask.specs.Orders.{order}
use Rattle.mirror_core.specs.Decisions.{is_back, is_large, on_answer, on_beat, of_answer, of_beat, other_decision, on_mirrored, of_mirrored, mirror_decision}
use Rattle.mirror_core.specs.Entries.{IfEntry}
use Rattle.source_core.specs.Decisions.{Reached, at_time, on_made, on_sourced, of_sourced, source_decision}
use Rattle.stream_fold.specs.Sourcing.{via}
use Rattle.record_codec.specs.declared.records.Rec.{Rec}
use Rattle.record_codec.specs.declared.records.Rec.TheVariants.{Of}
use Rattle.tap_row.specs.declared.notice.Notice.{Notice}
use Rattle.tap_row.specs.declared.notice.Notice.TheVariants.{Bound as BoundNotice}
use Rattle.shard_machine.specs.declared.call.ShardCall.TheVariants as call
use Rattle.shard_machine.specs.Images.{NameFacts, MayFollowImage, live_in}
use Rattle.shard_machine.specs.Legal.{HasFaultless}
use Rattle.shard_machine.specs.Views.{View, Copy, asker_of, copies_of, copies_under, reached}
use Rattle.shard_machine.specs.Answers.{addressee, decided_by, follows}
use Rattle.shard_copies.specs.Asked.{copy_at, decided_at}
use Rattle.log_replay.specs.declared.replay.Standing.{Standing}
use Rattle.shard_streams.specs.declared.halves.PreparedEntry.{PreparedEntry}
use Rattle.shard_streams.specs.Halves.{IsPrepared as IsEntryReady}
use Rattle.shard_streams.specs.HeldImages.{IsStreamOf}
use Rattle.shard_table.specs.declared.answered.Prepared.TheVariants.{Stores, Binds}
use Rattle.shard_table.specs.declared.table.Table.{Table}
use Rattle.shard_table.specs.Answering.{HearsReady, Prepares}
use Rattle.shard_table.specs.Hearing.{IsHeard}
use Rattle.shard_table.specs.Holding.{Holds}
use Rattle.shard_table.proofs.Hears.{IsFor, copies-live, for-copy, hears-follows}

-- what holds of an entry that a decision brings, where it follows from what else does
if-entry : (P Q : Entry → Type 0) → ((e : Entry) → P e → Q e) → (d : Decision) → IfEntry P d → IfEntry Q d
if-entry P Q f (Store entry) h = f entry h
if-entry P Q f (Bind entry) h = f entry h
if-entry P Q f Rebind h = tt
if-entry P Q f Skip h = tt
if-entry P Q f (Ignore reason) h = tt
if-entry P Q f (AskAgain why) h = tt
if-entry P Q f Reply h = tt
if-entry P Q f Heard h = tt
if-entry P Q f Refused h = tt
if-entry P Q f (Stop kept seen) h = tt

-- ---- no decision brings a configuration

chosen-faultless : (b : Bool) (d e : Decision) → IfEntry HasFaultless d → IfEntry HasFaultless e → IfEntry HasFaultless (cond b d e)
chosen-faultless true d e h k = h
chosen-faultless false d e h k = k

answer-faultless : (index : ℕ) (bound : Option BoundTo) (incarnation start : ℕ) → IfEntry HasFaultless (on_answer index bound incarnation start)
answer-faultless index None incarnation start = tt
answer-faultless index (Some to) incarnation start = chosen-faultless (to.incarnation == incarnation) Rebind (Stop to.incarnation incarnation) tt tt

beat-faultless : (stalled : Option ℕ) → IfEntry HasFaultless (on_beat stalled)
beat-faultless None = tt
beat-faultless (Some token) = tt

of-answer-faultless : (index : ℕ) (bound : Option BoundTo) (packet : Packet) → IfEntry HasFaultless (of_answer index bound packet)
of-answer-faultless index bound (Ask asker attempt origin stream start filters) = tt
of-answer-faultless index bound (Answer asker attempt consumer incarnation start) = answer-faultless index bound incarnation start
of-answer-faultless index bound (Refuse asker attempt code err_code) = tt
of-answer-faultless index bound (Delivery asker attempt stream consumer number seq pending message) = tt
of-answer-faultless index bound (Beat asker attempt origin stream consumer last_number last_seq stalled) = tt
of-answer-faultless index bound (FlowAsk asker attempt origin stream consumer token) = tt
of-answer-faultless index bound (FlowReply origin stream consumer token) = tt

of-beat-faultless : (packet : Packet) → IfEntry HasFaultless (of_beat packet)
of-beat-faultless (Ask asker attempt origin stream start filters) = tt
of-beat-faultless (Answer asker attempt consumer incarnation start) = tt
of-beat-faultless (Refuse asker attempt code err_code) = tt
of-beat-faultless (Delivery asker attempt stream consumer number seq pending message) = tt
of-beat-faultless (Beat asker attempt origin stream consumer last_number last_seq stalled) = beat-faultless stalled
of-beat-faultless (FlowAsk asker attempt origin stream consumer token) = tt
of-beat-faultless (FlowReply origin stream consumer token) = tt

other-faultless : (index : ℕ) (bound : Option BoundTo) (o : Order) (packet : Packet) → IfEntry HasFaultless (other_decision index bound o packet)
other-faultless index bound Next packet = tt
other-faultless index bound (OldOrder number next) packet = tt
other-faultless index bound ForeignOrder packet = tt
other-faultless index bound (GapOrder expected got) packet = tt
other-faultless index bound BeatOrder packet = of-beat-faultless packet
other-faultless index bound FlowOrder packet = tt
other-faultless index bound AnswerOrder packet = of-answer-faultless index bound packet
other-faultless index bound RefuseOrder packet = tt

mirrored-faultless : (front seq : ℕ) (m : Message) → IfEntry HasFaultless (on_mirrored front seq m)
mirrored-faultless front seq m =
    let rest : Decision = cond (is_large m) (Ignore (Large (capped (content_size m)))) (Store (Put seq m None)) in
    chosen-faultless (is_back front seq) (Ignore (Back seq front)) rest tt
    (chosen-faultless (is_large m) (Ignore (Large (capped (content_size m)))) (Store (Put seq m None)) tt tt)

of-mirrored-faultless : (front : ℕ) (packet : Packet) → IfEntry HasFaultless (of_mirrored front packet)
of-mirrored-faultless front (Ask asker attempt origin stream start filters) = tt
of-mirrored-faultless front (Answer asker attempt consumer incarnation start) = tt
of-mirrored-faultless front (Refuse asker attempt code err_code) = tt
of-mirrored-faultless front (Delivery asker attempt stream consumer number seq pending message) = mirrored-faultless front seq message
of-mirrored-faultless front (Beat asker attempt origin stream consumer last_number last_seq stalled) = tt
of-mirrored-faultless front (FlowAsk asker attempt origin stream consumer token) = tt
of-mirrored-faultless front (FlowReply origin stream consumer token) = tt

mirror-faultless : (bound : Option BoundTo) (front : ℕ) (o : Order) (packet : Packet) → IfEntry HasFaultless (mirror_decision bound front o packet)
mirror-faultless bound front Next packet = of-mirrored-faultless front packet
mirror-faultless bound front (OldOrder number next) packet = other-faultless 0 bound (OldOrder number next) packet
mirror-faultless bound front ForeignOrder packet = other-faultless 0 bound ForeignOrder packet
mirror-faultless bound front (GapOrder expected got) packet = other-faultless 0 bound (GapOrder expected got) packet
mirror-faultless bound front BeatOrder packet = other-faultless 0 bound BeatOrder packet
mirror-faultless bound front FlowOrder packet = other-faultless 0 bound FlowOrder packet
mirror-faultless bound front AnswerOrder packet = other-faultless 0 bound AnswerOrder packet
mirror-faultless bound front RefuseOrder packet = other-faultless 0 bound RefuseOrder packet

made-faultless : (index : ℕ) (reached : Reached) (now seq : ℕ) (o : Option Message) → IfEntry HasFaultless (on_made index reached now seq o)
made-faultless index reached now seq None = tt
made-faultless index reached now seq (Some m) =
    chosen-faultless (nat_le (2 ^ 63 - 1) reached.last) (Ignore SeqEnd) (Store (Put (reached.last + 1) (at_time (max now reached.clock) m) (Some (record { index = index; seq = seq })))) tt tt

sourced-faultless : (want : Origin) (index : ℕ) (reached : Reached) (now seq : ℕ) (m : Message) → IfEntry HasFaultless (on_sourced want index reached now seq m)
sourced-faultless want index reached now seq m =
    let made : Decision = on_made index reached now seq (via want m seq) in
    let rest : Decision = cond (is_large m) (Ignore (Large (capped (content_size m)))) made in
    chosen-faultless (is_back reached.mark seq) (Ignore (Back seq reached.mark)) rest tt
    (chosen-faultless (is_large m) (Ignore (Large (capped (content_size m)))) made tt (made-faultless index reached now seq (via want m seq)))

of-sourced-faultless : (want : Origin) (index : ℕ) (reached : Reached) (now : ℕ) (packet : Packet) → IfEntry HasFaultless (of_sourced want index reached now packet)
of-sourced-faultless want index reached now (Ask asker attempt origin stream start filters) = tt
of-sourced-faultless want index reached now (Answer asker attempt consumer incarnation start) = tt
of-sourced-faultless want index reached now (Refuse asker attempt code err_code) = tt
of-sourced-faultless want index reached now (Delivery asker attempt stream consumer number seq pending message) = sourced-faultless want index reached now seq message
of-sourced-faultless want index reached now (Beat asker attempt origin stream consumer last_number last_seq stalled) = tt
of-sourced-faultless want index reached now (FlowAsk asker attempt origin stream consumer token) = tt
of-sourced-faultless want index reached now (FlowReply origin stream consumer token) = tt

source-faultless : (want : Origin) (index : ℕ) (bound : Option BoundTo) (reached : Reached) (now : ℕ) (o : Order) (packet : Packet) → IfEntry HasFaultless (source_decision want index bound reached now o packet)
source-faultless want index bound reached now Next packet = of-sourced-faultless want index reached now packet
source-faultless want index bound reached now (OldOrder number next) packet = other-faultless index bound (OldOrder number next) packet
source-faultless want index bound reached now ForeignOrder packet = other-faultless index bound ForeignOrder packet
source-faultless want index bound reached now (GapOrder expected got) packet = other-faultless index bound (GapOrder expected got) packet
source-faultless want index bound reached now BeatOrder packet = other-faultless index bound BeatOrder packet
source-faultless want index bound reached now FlowOrder packet = other-faultless index bound FlowOrder packet
source-faultless want index bound reached now AnswerOrder packet = other-faultless index bound AnswerOrder packet
source-faultless want index bound reached now RefuseOrder packet = other-faultless index bound RefuseOrder packet

by-faultless : (copies : Copies) (v : View) (c : Copy) (now : ℕ) (packet : Packet) → IfEntry HasFaultless (decided_by copies v c now packet)
by-faultless Nothing v c now packet = tt
by-faultless (Mirror origin) v c now packet = mirror-faultless (get c.facts.bindings 0) (reached c) (order (asker_of v c).phase packet) packet
by-faultless (Sources origins) v c now packet = source-faultless c.want c.index (get c.facts.bindings c.index) (record { mark = reached c; last = c.facts.last; clock = c.facts.clock }) now (order (asker_of v c).phase packet) packet

at-faultless : (v : View) (now : ℕ) (packet : Packet) (o : Option Copy) → IfEntry HasFaultless (decided_at v now packet o)
at-faultless v now packet None = tt
at-faultless v now packet (Some c) = by-faultless c.facts.config.copies v c now packet

-- ---- a packet to a copy of this node

-- what the copy of a stream that stands decided is what is heard
pub heard-here : (v : View) (id : AskerId) (d : Decision) (packet : Packet) (now : ℕ) (standing : Standing) (known : NameFacts) → addressee packet ≡ Some id → bytes_eq id.node v.node ≡ true → live_in v.image id.stream ≡ Some known → (s : IsStreamOf id.stream standing known) → FactsTellFits
    → d ≡ decided_at v now packet (copy_at id.index (copies_of id.stream (facts s.history))) → IfEntry (Fits s.history) d → IsHeard v id d packet now
heard-here v id d packet now standing known a here live s tell is fits =
    let decided : d ≡ decided_at v now packet (copy_at id.index (copies_under v.image id.stream)) =
    is ∙ ap (λ (cs : List Copy). decided_at v now packet (copy_at id.index cs)) (sym (copies-live v.image id.stream known live ∙ ap (copies_of id.stream) s.facts_are)) in
    record {
      addressed = a;
      here = here;
      decided = decided;
      known = known;
      stands = live;
      fits = if-entry (Fits s.history) (FitsFacts known.stream) (λ e f. subst (λ (x : StreamFacts). FitsFacts x e) (sym s.facts_are) ((tell s.history e).1 f)) d fits;
      faultless = subst (IfEntry HasFaultless) (sym decided) (at-faultless v now packet (copy_at id.index (copies_under v.image id.stream)));
    }

-- ---- an entry that a copy brings is prepared

-- the entry of a decision is ready
abbrev hears-ready : (t : Table) (v : View) (id : AskerId) (d : Decision) (packet : Packet) (now : ℕ) (change : Entry) (prepared : PreparedEntry) (x : IsHeard v id d packet now) (f : IsFor v id d packet now x.known) → IsEntryReady t.streams.replay prepared id.stream change
    → HearsReady t prepared d change v (call.Heard packet now) (follows v f.copy now packet (asker_of v f.copy).phase d)
hears-ready t v id d packet now change prepared x f ready = record {
  copy = f.copy;
  packet = packet;
  now = now;
  decided = record {
    call_is = refl;
    copy = f.found;
    decided = f.decided;
    does = ap (follows v f.copy now packet (asker_of v f.copy).phase) f.decided;
  };
  known = x.known;
  stands = ap (live_in v.image) f.stream ∙ x.stands;
  facts_are = f.facts_are;
  ready = subst (λ (name : List ℕ). IsEntryReady t.streams.replay prepared name change) (sym f.stream) ready;
}

-- the record of an entry that fits may come next
may-come : (v : View) (name : List ℕ) (known : NameFacts) (change : Entry) (r : Rec) → r ≡ Of name change → live_in v.image name ≡ Some known → FitsFacts known.stream change → HasFaultless change → 1 ≤ v.image.boot → MayFollowImage v.image r
may-come v name known change r is stands fits faultless begun =
    subst (MayFollowImage v.image) (sym is) (begun, known, stands, record { fits = fits; faultless = faultless })

-- the record is the one of the copy's stream
record-of : (name other : List ℕ) (change : Entry) (r : Rec) → r ≡ Of name change → other ≡ name → Of other change ∷ [] ≡ r ∷ []
record-of name other change r is same = ap (λ (n : List ℕ). Of n change ∷ []) same ∙ ap (λ (x : Rec). x ∷ []) (sym is)

-- a message is to be stored
pub prepares-store : (new : Table) (v : View) (id : AskerId) (packet : Packet) (now : ℕ) (entry copied : Entry) (prepared : PreparedEntry) → IsHeard v id (Store entry) packet now → copied ≡ entry → IsEntryReady new.streams.replay prepared id.stream copied → Holds new v
    → Prepares v (call.Heard packet now) (Stores prepared (Store entry)) new
prepares-store new v id packet now entry copied prepared x same made h =
    let f = for-copy v id (Store entry) packet now x (λ e. cc) in
    let ready : IsEntryReady new.streams.replay prepared id.stream entry = subst (IsEntryReady new.streams.replay prepared id.stream) same made in
    record {
      effect = follows v f.copy now packet (asker_of v f.copy).phase (Store entry);
      answers = ap Ok (sym (hears-follows v id (Store entry) packet now x.known f));
      one = record-of id.stream f.copy.stream entry prepared.rec ready.record_is f.stream;
      is_prepared = record { change = entry; brings = refl; hears = hears-ready new v id (Store entry) packet now entry prepared x f ready };
      follows = λ begun _. may-come v id.stream x.known entry prepared.rec ready.record_is x.stands x.fits x.faultless begun;
      same = h;
    }

-- a copy is to be bound, of which the taps are told
pub prepares-bind : (new : Table) (v : View) (id : AskerId) (packet : Packet) (now : ℕ) (entry copied : Entry) (told : List Notice) (prepared : PreparedEntry) → IsHeard v id (Bind entry) packet now → copied ≡ entry → told ≡ BoundNotice id.stream id.index ∷ [] → IsEntryReady new.streams.replay prepared id.stream copied → Holds new v
    → Prepares v (call.Heard packet now) (Binds prepared (Bind entry) told) new
prepares-bind new v id packet now entry copied told prepared x same tells made h =
    let f = for-copy v id (Bind entry) packet now x (λ e. cc) in
    let ready : IsEntryReady new.streams.replay prepared id.stream entry = subst (IsEntryReady new.streams.replay prepared id.stream) same made in
    let notice : told ≡ BoundNotice f.copy.stream f.copy.index ∷ [] =
    tells ∙ (ap (λ (n : ℕ). BoundNotice id.stream n ∷ []) (sym f.index) ∙ ap (λ (n : List ℕ). BoundNotice n f.copy.index ∷ []) (sym f.stream)) in
    record {
      effect = follows v f.copy now packet (asker_of v f.copy).phase (Bind entry);
      answers = ap Ok (sym (hears-follows v id (Bind entry) packet now x.known f));
      one = record-of id.stream f.copy.stream entry prepared.rec ready.record_is f.stream;
      is_prepared = record { change = entry; brings = refl; hears = hears-ready new v id (Bind entry) packet now entry prepared x f ready; told = notice };
      follows = λ begun _. may-come v id.stream x.known entry prepared.rec ready.record_is x.stands x.fits x.faultless begun;
      same = h;
    }
