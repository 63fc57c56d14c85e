-- What a shard says of streams and of consumers goes on with each step.
use Rattle.std.proofs.Common.{◌≡◌, ℕ, true, List, [], ◌∷◌, ◌++◌, Option, Some, None, refl, sym, ap, ◌∙◌, subst, inl, inr, append_assoc, append-nil}
use Rattle.std.specs.Prelude.{Contains}
use Rattle.std.proofs.lemmas.List.{map-append}
use Rattle.js_wire.specs.declared.packet.Packet.{Packet}
use Rattle.stream_fold.specs.declared.entry.Numbered.{Numbered}
use Rattle.stream_fold.specs.Histories.{NumbersRise}
use Rattle.stream_fold.specs.RowLists.{seqs}
use Rattle.record_codec.specs.declared.records.Rec.{Rec}
use Rattle.push_consumer.specs.Chains.{Sent, Sendings, chain, with_row, with_rows}
use Rattle.push_consumer.specs.Progress.{ConsumerState}
use Rattle.shard_machine.specs.declared.call.ShardCall.{ShardCall}
use Rattle.shard_machine.specs.declared.reply.ShardReply.{ShardReply}
use Rattle.shard_machine.specs.Logs.{Made, made}
use Rattle.shard_machine.specs.Views.{Effect}
use Rattle.run_soundness.specs.Shards.{Consumer, ShardState, Moves, LoadsOn, RestsOn, delivered, standing_of, answered_now, sent_now}
use Rattle.run_soundness.specs.Below.{Laws}
use Rattle.run_soundness.proofs.Logs.{StreamGrows, StreamGrows-trans, hist-append}
use Rattle.run_soundness.proofs.LogsLegal.{log-rise}
use Rattle.run_soundness.proofs.ShardsKept.{ShardOk, AnswersOn, ShardOk-answers, still-there}
use Rattle.run_soundness.proofs.ShardsSteps.{ReadyOn, FaultsOn, FailsOn, Came, Fine, Down, Fault, ShardOk-ready, ShardOk-loads, ShardOk-rests, ShardOk-faults, ShardOk-fails, moves-came}

-- a consumer as it was and as it is later: it has sent what it had, and perhaps more
pub record Later (c d : Consumer) : Type 0 where
  pub name : d.name ≡ c.name
  pub stream : d.stream ≡ c.stream
  pub incarnation : d.incarnation ≡ c.incarnation
  pub wanted : d.wanted ≡ c.wanted
  pub more : List ℕ
  pub sent : chain d.sent ≡ chain c.sent ++ more

pub Later-refl : (c : Consumer) → Later c c
Later-refl c = record { name = refl; stream = refl; incarnation = refl; wanted = refl; more = []; sent = sym (append-nil (chain c.sent)) }

pub Later-trans : (a b c : Consumer) → Later a b → Later b c → Later a c
Later-trans a b c p q = record {
  name = q.name ∙ p.name;
  stream = q.stream ∙ p.stream;
  incarnation = q.incarnation ∙ p.incarnation;
  wanted = q.wanted ∙ p.wanted;
  more = p.more ++ q.more;
  sent = q.sent ∙ (ap (λ (l : List ℕ). l ++ q.more) p.sent ∙ append_assoc (chain a.sent) p.more q.more);
}

-- the chain with these rows more
chain-row : (s : Sendings) (row : Numbered) → chain (with_row s row) ≡ chain s ++ row.seq ∷ []
chain-row s row = map-append (λ (x : Sent). x.seq) s.sent (_ ∷ [])

pub chain-rows : (s : Sendings) (rows : List Numbered) → chain (with_rows s rows) ≡ chain s ++ seqs rows
chain-rows s [] = sym (append-nil (chain s))
chain-rows s (row ∷ rows) = chain-rows (with_row s row) rows ∙ (ap (λ (l : List ℕ). l ++ seqs rows) (chain-row s row) ∙ append_assoc (chain s) (row.seq ∷ []) (seqs rows))

chain-answered : (o : Option ConsumerState) (s : Sendings) → chain (answered_now o s) ≡ chain s
chain-answered None s = refl
chain-answered (Some c) s = refl

-- the chain of a consumer behind an answer
pub chain-now : (consumers : List ConsumerState) (packets : List Packet) (k : Consumer) → chain (sent_now consumers packets k).sent ≡ chain k.sent ++ seqs (delivered k.name packets)
chain-now consumers packets k = chain-answered (standing_of consumers k.name) (with_rows k.sent (delivered k.name packets)) ∙ chain-rows k.sent (delivered k.name packets)

-- A shard later: its log goes on, each stream that was made is there and goes on, and so does each consumer.
pub record ShardGrows (s t : ShardState) : Type 0 where
  pub more : List Rec
  pub log : t.log ≡ s.log ++ more
  pub mades : (name : List ℕ) (i : ℕ) (m : Made) → made s.log name i ≡ Some m → (n : Made) × (made t.log name i ≡ Some n) × StreamGrows m n
  pub rise : (name : List ℕ) (i : ℕ) (m : Made) → made t.log name i ≡ Some m → NumbersRise m.history.entries
  pub ever : (c : Consumer) → Contains s.ever c → (d : Consumer) × Contains t.ever d × Later c d

mades-on : (log later more : List Rec) (name : List ℕ) (i : ℕ) (m : Made) → later ≡ log ++ more → made log name i ≡ Some m → (n : Made) × (made later name i ≡ Some n) × StreamGrows m n
mades-on log later more name i m e q = subst (λ (l : List Rec). (n : Made) × (made l name i ≡ Some n) × StreamGrows m n) (sym e) (hist-append log more name i m q)

-- the log goes on, and the consumers stay
grows-log : Laws → (s t : ShardState) (more : List Rec) → ShardOk t → t.log ≡ s.log ++ more → t.ever ≡ s.ever → ShardGrows s t
grows-log laws s t more ok e same = record {
  more = more;
  log = e;
  mades = λ name i m q. mades-on s.log t.log more name i m e q;
  rise = λ name i m q. log-rise laws t.log name i m ok.logs q;
  ever = λ c q. (c, subst (λ (l : List Consumer). Contains l c) (sym same) q, Later-refl c);
}

pub grows-same : Laws → (s t : ShardState) → ShardOk s → t ≡ s → ShardGrows s t
grows-same laws s t ok e = subst (ShardGrows s) (sym e) (grows-log laws s s [] ok (sym (append-nil s.log)) refl)

pub grows-trans : (a b c : ShardState) → ShardGrows a b → ShardGrows b c → ShardGrows a c
grows-trans a b c p q = record {
  more = p.more ++ q.more;
  log = q.log ∙ (ap (λ (l : List Rec). l ++ q.more) p.log ∙ append_assoc a.log p.more q.more);
  mades = λ name i m e. let x = p.mades name i m e in let y = q.mades name i x.0 x.1 in (y.0, y.1, StreamGrows-trans m x.0 y.0 x.2 y.2);
  rise = q.rise;
  ever = λ k e. let x = p.ever k e in let y = q.ever x.0 x.1 in (y.0, y.1, Later-trans k x.0 y.0 x.2 y.2);
}

pub grows-ready : Laws → (old mid : ShardState) → ShardOk old → ReadyOn old mid → ShardGrows old mid
grows-ready laws old mid ok r = grows-log laws old mid r.records (ShardOk-ready laws old mid ok r).0 r.log r.ever

pub grows-loads : Laws → (old new : ShardState) → ShardOk old → LoadsOn old new → ShardGrows old new
grows-loads laws old new ok l = grows-log laws old new l.records (ShardOk-loads laws old new ok l) l.log l.ever

pub grows-rests : Laws → (old new : ShardState) → ShardOk old → RestsOn old new → ShardGrows old new
grows-rests laws old new ok r = grows-log laws old new [] (ShardOk-rests laws old new ok r) (r.log ∙ sym (append-nil old.log)) r.ever

pub grows-faults : Laws → (mid : ShardState) (c : ShardCall) (new : ShardState) → ShardOk mid → mid.held.loaded ≡ true → FaultsOn mid c new → ShardGrows mid new
grows-faults laws mid c new ok loaded f = grows-log laws mid new [] (ShardOk-faults laws mid c new ok loaded f) (f.log ∙ sym (append-nil mid.log)) f.ever

pub grows-fails : Laws → (old new : ShardState) → ShardOk old → FailsOn old new → ShardGrows old new
grows-fails laws old new ok f = grows-log laws old new f.records (ShardOk-fails laws old new ok f) f.log f.ever

pub grows-answers : Laws → (mid new : ShardState) (c : ShardCall) (does : Effect) → ShardOk mid → mid.held.loaded ≡ true → AnswersOn mid c does new → ShardGrows mid new
grows-answers laws mid new c does ok loaded a = record {
  more = does.records;
  log = a.log;
  mades = λ name i m q. mades-on mid.log new.log does.records name i m a.log q;
  rise = λ name i m q. log-rise laws new.log name i m (ShardOk-answers laws mid new c does ok loaded a).logs q;
  ever = λ k q. (
    sent_now does.consumers does.reply.packets k,
    still-there laws mid new c does ok loaded a k q,
    record {
      name = refl;
      stream = refl;
      incarnation = refl;
      wanted = refl;
      more = seqs (delivered k.name does.reply.packets);
      sent = chain-now does.consumers does.reply.packets k;
    },
  );
}

-- each step goes on
pub grows-came : Laws → (old : ShardState) (c : ShardCall) (reply : ShardReply) (new : ShardState) → ShardOk old → Came old c reply new → ShardGrows old new
grows-came laws old c reply new ok (Fine a) =
    let r = ShardOk-ready laws old a.mid ok a.ready in
    grows-trans old a.mid new (grows-ready laws old a.mid ok a.ready) (grows-answers laws a.mid new c a.does r.0 r.1 a.answers)
grows-came laws old c reply new ok (Down why t) = elim t.state [ inl same ↦ grows-same laws old new ok same | inr r ↦ grows-ready laws old new ok r ]
grows-came laws old c reply new ok (Fault f) = elim f.state [
  | inl w ↦ (let r = ShardOk-ready laws old w.0 ok w.1 in grows-trans old w.0 new (grows-ready laws old w.0 ok w.1) (grows-faults laws w.0 c new r.0 r.1 w.2))
  | inr fails ↦ grows-fails laws old new ok fails
]

pub grows-step : Laws → (old : ShardState) (c : ShardCall) (reply : ShardReply) (new : ShardState) → ShardOk old → Moves old c reply new → ShardGrows old new
grows-step laws old c reply new ok m = grows-came laws old c reply new ok (moves-came old c reply new m ok)
