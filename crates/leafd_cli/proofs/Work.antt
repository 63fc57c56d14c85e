-- An operation on a stream keeps what the world keeps.
use Rattle.std.proofs.Common.{◌≡◌, ◌≢◌, ℕ, ◌+◌, ◌-◌, ◌^◌, List, [], ◌∷◌, ◌++◌, Bool, true, false, cond, eqb, Option, None, Some, Result, Ok, Err, inl, inr, refl, sym, ap, subst, ◌∙◌, arith}
use Rattle.std.specs.Prelude.{◌⊎◌, ◌&&◌, not, nat_lt, IsSome, is_some, codes}
use Rattle.std.proofs.lemmas.List.{append-nil}
use Rattle.std.proofs.lemmas.Bool.{eqb-false}
use Rattle.nats_text.specs.declared.message.Message.{Message}
use Rattle.nats_text.specs.declared.message.Start.{Start}
use Rattle.stream_fold.specs.declared.entry.Entry.{Entry}
use Rattle.stream_fold.specs.declared.entry.Entry.TheVariants.{Put, Del, Purge, Expire, Limits}
use Rattle.stream_fold.specs.declared.entry.BoundTo.{BoundTo}
use Rattle.stream_fold.specs.declared.config.Config.{Config}
use Rattle.stream_fold.specs.declared.config.Copies.{Copies}
use Rattle.stream_fold.specs.declared.config.Copies.TheVariants.{Nothing, Mirror, Sources}
use Rattle.stream_fold.specs.declared.verdict.Verdict.{Verdict}
use Rattle.stream_fold.specs.declared.verdict.Verdict.TheVariants.{Fresh, Duplicate}
use Rattle.stream_fold.specs.declared.verdict.Refusal.{Refusal}
use Rattle.stream_fold.specs.Checking.{is_mirror}
use Rattle.stream_fold.specs.Publishing.{verdict, verdict_behind, repeat_or, fresh_or, earlier_refusal, later_refusal, header_refusal, bad_header, dup_of, is_other_number, last_of, number_or_0, content_size, capped, is_full, full, rows_with}
use Rattle.stream_fold.specs.declared.verdict.Refusal.TheVariants.{IsMirror, WrongLast, WrongSubjectLast, TooLarge, SeqEnd}
use Rattle.nats_text.specs.Headers.{first_value}
use Rattle.stream_fold.specs.declared.entry.Numbered.{Numbered}
use Rattle.stream_fold.specs.Histories.{History, either, put, put_by, last, kept, number_put, message_at}
use Rattle.stream_fold.specs.Copying.{bound, bound_by, bindings, binding_at, IsStored, IsLeftOut}
use Rattle.stream_fold.specs.Fits.{Fits}
use Rattle.stream_fold.proofs.Folds.{last-push, bindings-push}
use Rattle.stream_fold.proofs.Growth.{put-append}
use Rattle.leafd_cli.specs.declared.operation.Operation.{Operation}
use Rattle.leafd_cli.specs.declared.operation.Operation.TheVariants.{Publish, Delete, Purge as PurgeOf, Expire as ExpireNow, Update}
use Rattle.leafd_cli.specs.declared.operation.Effect.{Effect}
use Rattle.leafd_cli.specs.Logs.{StreamLog, history_of, limits_of, is_at}
use Rattle.leafd_cli.specs.Legal.{with_changes, changed_to}
use Rattle.leafd_cli.specs.Copies.{CopyHolds}
use Rattle.leafd_cli.specs.Effects.{effect, message_of, publish_effect, published, takes, taking}
use Rattle.leafd_cli.specs.Operations.{Task, appended, worked, worked_in}
use Rattle.leafd_cli.specs.Keeping.{KeepsCopy, IsNumbered, AllNumbered}
use Rattle.leafd_cli.proofs.Joined.{not_some, either-none}
use Rattle.leafd_cli.proofs.Numbers.{Goes, numbered-push}
use Rattle.leafd_cli.proofs.Steps.{Steps, AllStep, step_none, all_step_none}

-- an entry that puts and binds nothing
pub record IsQuiet (e : Entry) : Type 0 where
  pub puts : (seq : ℕ) → put_by seq e ≡ None
  pub binds : bound_by e ≡ []
  pub number : number_put e ≡ 0

-- an entry that the stream's own operation may make
pub record Suits (s : StreamLog) (e : Entry) : Type 0 where
  pub goes : Goes s e
  pub fits : Fits (history_of s) e
  -- a mirror puts and binds nothing by itself
  pub mirrors : is_mirror s.config.copies ≡ true → IsQuiet e

-- ---- what a fresh publish says of the stream

cond_none : {A : Type 0} (b : Bool) (x : A) (rest : Option A) → cond b (Some x) rest ≡ None → (b ≡ false) × (rest ≡ None)
cond_none true x rest e = absurd (not_some x (sym e))
cond_none false x rest e = (refl, e)

no_refusal : (o : Option Refusal) → fresh_or o ≡ Ok Fresh → o ≡ None
no_refusal None e = refl
no_refusal (Some r) e = absurd (cc)

no_repeat : (d : Option ℕ) (o : Option Refusal) → repeat_or d o ≡ Ok Fresh → o ≡ None
no_repeat None o e = no_refusal o e
no_repeat (Some n) o e = absurd (cc)

fresh_parts : (a : Option Refusal) (d : Option ℕ) (b : Option Refusal) → verdict_behind a d b ≡ Ok Fresh → (a ≡ None) × (b ≡ None)
fresh_parts None d b e = (refl, no_repeat d b e)
fresh_parts (Some r) d b e = absurd (cc)

pub record IsFresh (s : StreamLog) : Type 0 where
  pub plain : is_mirror (limits_of s).copies ≡ false
  pub number : last s.entries ≢ 2 ^ 63 - 1

-- each test that refuses was not met
not_early : (c : Config) (m : Message) → earlier_refusal c m ≡ None → is_mirror c.copies ≡ false
not_early c m e = (cond_none (is_mirror c.copies) IsMirror (header_refusal c m (bad_header m)) e).0

not_later : (c : Config) (m : Message) (rows : List Numbered) (n : ℕ) → later_refusal c m rows n ≡ None → eqb n (2 ^ 63 - 1) ≡ false
not_later c m rows n e =
    let four : Option Refusal = cond (is_full c (rows_with c m rows n)) (Some (full (rows_with c m rows n))) None in
    let three : Option Refusal = cond (eqb n (2 ^ 63 - 1)) (Some SeqEnd) four in
    let two : Option Refusal = cond (not (eqb c.max_msg_size 0) && nat_lt c.max_msg_size (content_size m)) (Some (TooLarge (capped (content_size m)) c.max_msg_size)) three in
    let one : Option Refusal = cond (is_other_number (number_or_0 (last_of m.subject rows)) (first_value (codes "Nats-Expected-Last-Subject-Sequence") m.headers)) (Some (WrongSubjectLast (number_or_0 (last_of m.subject rows)))) two in
    let a = cond_none (is_other_number n (first_value (codes "Nats-Expected-Last-Sequence") m.headers)) (WrongLast n) one e in
    let b = cond_none (is_other_number (number_or_0 (last_of m.subject rows)) (first_value (codes "Nats-Expected-Last-Subject-Sequence") m.headers)) (WrongSubjectLast (number_or_0 (last_of m.subject rows))) two a.1 in
    let d = cond_none (not (eqb c.max_msg_size 0) && nat_lt c.max_msg_size (content_size m)) (TooLarge (capped (content_size m)) c.max_msg_size) three b.1 in
    (cond_none (eqb n (2 ^ 63 - 1)) SeqEnd four d.1).0

is_fresh : (s : StreamLog) (m : Message) (now : ℕ) → verdict (history_of s) m now ≡ Ok Fresh → IsFresh s
is_fresh s m now e =
    let parts = fresh_parts (earlier_refusal (limits_of s) m) (dup_of (history_of s) (first_value (codes "Nats-Msg-Id") m.headers) now) (later_refusal (limits_of s) m (kept (history_of s)) (last s.entries)) e in
    record { plain = not_early (limits_of s) m parts.0; number = eqb-false (last s.entries) (2 ^ 63 - 1) (not_later (limits_of s) m (kept (history_of s)) (last s.entries) parts.1) }

-- ---- each operation's entry suits

abbrev EntrySuits : StreamLog → Effect → Type 0
EntrySuits s f = (e : Entry) → f.entry ≡ Some e → Suits s e

suits_as : (s : StreamLog) (e f : Entry) → Some e ≡ Some f → Suits s e → Suits s f
suits_as s e f same q = let so : e ≡ f = cc in let P : Entry → Type 0 = λ x. Suits s x in subst P so q

mirror_or_not : (b : Bool) → b ≡ true → b ≡ false → ⊥
mirror_or_not true p q = let wrong : true ≡ false = q in cc
mirror_or_not false p q = let wrong : false ≡ true = p in cc

suits_put : (s : StreamLog) (m : Message) → IsNumbered s → IsFresh s → Suits s (Put (last s.entries + 1) m None)
suits_put s m n f = record {
  goes = record { above = omega arith; below = omega (arith, n.below, f.number); same = refl };
  fits = (omega arith, omega (arith, n.below, f.number), tt);
  mirrors = λ yes. absurd (mirror_or_not _ yes (ap is_mirror (sym n.copies) ∙ f.plain));
}

suits_published : (s : StreamLog) (m : Message) (now : ℕ) (v : Result Verdict Refusal) → IsNumbered s → verdict (history_of s) m now ≡ v → EntrySuits s (published m s v)
suits_published s m now (Ok Fresh) n e x q = suits_as s _ x q (suits_put s m n (is_fresh s m now e))
suits_published s m now (Ok (Duplicate seq)) n e x q = absurd (not_some x q)
suits_published s m now (Err refusal) n e x q = absurd (not_some x q)

suits_publish : (s : StreamLog) (m : Message) (now : ℕ) → IsNumbered s → EntrySuits s (publish_effect now m s)
suits_publish s m now n =
    let P : Bool → Type 0 = λ b. EntrySuits s (cond b (published m s (verdict (history_of s) m now)) (record { entry = None; answer = codes "refused NoStream" })) in
    let go : (b : Bool) → P b = λ b. elim b as P [ true ↦ suits_published s m now (verdict (history_of s) m now) n refl | false ↦ (λ x q. absurd (not_some x q)) ] in
    go (takes m.subject s)

some_is : {A : Type 0} (o : Option A) → is_some o ≡ true → IsSome o
some_is None e = absurd (let wrong : false ≡ true = e in cc)
some_is (Some x) e = refl

suits_del : (s : StreamLog) (seq : ℕ) → IsSome (message_at seq (kept (history_of s))) → Suits s (Del seq)
suits_del s seq there = record {
  goes = record { above = tt; below = omega arith; same = refl };
  fits = there;
  mirrors = λ yes. record { puts = λ n. refl; binds = refl; number = refl };
}

suits_purge : (s : StreamLog) (pattern : List ℕ) (below : ℕ) → Suits s (Purge pattern below)
suits_purge s pattern below = record {
  goes = record { above = tt; below = omega arith; same = refl };
  fits = tt;
  mirrors = λ yes. record { puts = λ n. refl; binds = refl; number = refl };
}

suits_expire : (s : StreamLog) (now : ℕ) → Suits s (Expire now)
suits_expire s now = record {
  goes = record { above = tt; below = omega arith; same = refl };
  fits = tt;
  mirrors = λ yes. record { puts = λ n. refl; binds = refl; number = refl };
}

suits_limits : (s : StreamLog) (config : Config) → config.name ≡ (limits_of s).name → config.window ≡ (limits_of s).window → config.copies ≡ (limits_of s).copies → Suits s (Limits config)
suits_limits s config name window copies = record {
  goes = record { above = tt; below = omega arith; same = copies };
  fits = record { name = name; window = window; copies = copies };
  mirrors = λ yes. record { puts = λ n. refl; binds = refl; number = refl };
}

suits_taking : (s : StreamLog) (count : ℕ) (e : Entry) (text : List ℕ) → Suits s e → EntrySuits s (taking count e text)
suits_taking s count e text q =
    let P : Bool → Type 0 = λ b. EntrySuits s (cond b (record { entry = None; answer = text }) (record { entry = Some e; answer = text })) in
    let go : (b : Bool) → P b = λ b. elim b as P [ true ↦ (λ x r. absurd (not_some x r)) | false ↦ (λ x r. suits_as s e x r q) ] in
    go (eqb count 0)

suits_delete : (s : StreamLog) (seq : ℕ) → EntrySuits s (effect 0 (Delete seq) s)
suits_delete s seq =
    let P : Bool → Type 0 = λ b. is_some (message_at seq (kept (history_of s))) ≡ b → EntrySuits s (cond b (record { entry = Some (Del seq); answer = codes "deleted" }) (record { entry = None; answer = codes "refused NoMessage" })) in
    let go : (b : Bool) → P b = λ b. elim b as P [ true ↦ (λ t x r. suits_as s (Del seq) x r (suits_del s seq (some_is _ t))) | false ↦ (λ t x r. absurd (not_some x r)) ] in
    go (is_some (message_at seq (kept (history_of s)))) refl

pub effect_suits : (now : ℕ) (op : Operation) (s : StreamLog) → IsNumbered s → EntrySuits s (effect now op s)
effect_suits now (Publish subject headers text) s n = suits_publish s (message_of now subject headers text s) now n
effect_suits now (Delete seq) s n = suits_delete s seq
effect_suits now (PurgeOf pattern below) s n = suits_taking s _ _ _ (suits_purge s (changed_to (codes ">") pattern) (changed_to (last s.entries + 1) below))
effect_suits now ExpireNow s n = suits_taking s _ _ _ (suits_expire s now)
effect_suits now (Update changes) s n = λ x r. suits_as s _ x r (suits_limits s (with_changes changes (limits_of s)) refl refl refl)

-- ---- a stream with an entry that suits

-- what holds of a copy depends on what it put and on its last number
holds_same : (b : Option BoundTo) (start : Start) (origin : History) (old new : List Entry) → ((seq : ℕ) → put seq new ≡ put seq old) → last new ≡ last old → CopyHolds b start origin old → CopyHolds b start origin new
holds_same None start origin old new same end h = λ seq. same seq ∙ h seq
holds_same (Some to) start origin old new same end h = (
  h.0,
  h.1,
  record {
    below = λ seq low. same seq ∙ h.2.below seq low;
    each = λ seq low high. each_same origin old new seq (same seq) (h.2.each seq low (omega (arith, high, end)));
  },
)
  where
    each_same : (origin : History) (old new : List Entry) (seq : ℕ) → put seq new ≡ put seq old → IsStored origin old seq ⊎ IsLeftOut origin old seq → IsStored origin new seq ⊎ IsLeftOut origin new seq
    each_same origin old new seq e (inl x) = inl (record { message = x.message; here = e ∙ x.here; there = x.there })
    each_same origin old new seq e (inr x) = inr (record { here = e ∙ x.here; hole = x.hole })

put-quiet : (es : List Entry) (e : Entry) (seq : ℕ) → IsQuiet e → put seq (es ++ e ∷ []) ≡ put seq es
put-quiet es e seq q = put-append es (e ∷ []) seq ∙ (ap (λ o. either (put seq es) (either o None)) (q.puts seq) ∙ either-none (put seq es))

bound-quiet : (es : List Entry) (e : Entry) → IsQuiet e → bound 0 (es ++ e ∷ []) ≡ bound 0 es
bound-quiet es e q = ap (λ bs. binding_at 0 bs) (bindings-push es e ∙ (ap (λ bs. bindings es ++ bs) q.binds ∙ append-nil (bindings es)))

quiet_keeps : (before : List StreamLog) (s : StreamLog) (e : Entry) (copies : Copies) → (is_mirror copies ≡ true → IsQuiet e) → KeepsCopy before s copies → KeepsCopy before (record s { entries = s.entries ++ e ∷ [] }) copies
quiet_keeps before s e Nothing q k = tt
quiet_keeps before s e (Mirror want) q k =
    let quiet = q refl in
    let P : Option BoundTo → Type 0 = λ b. CopyHolds b want.start (history_of k.0) (s.entries ++ e ∷ []) in
    (k.0, k.1, k.2, subst P (sym (bound-quiet s.entries e quiet)) (holds_same (bound 0 s.entries) want.start (history_of k.0) s.entries (s.entries ++ e ∷ []) (λ seq. put-quiet s.entries e seq quiet) (omega (arith, last-push s.entries e, quiet.number)) k.3))
quiet_keeps before s e (Sources wants) q k = k

worked_steps : (before : List StreamLog) (s : StreamLog) (o : Option Entry) → IsNumbered s → ((e : Entry) → o ≡ Some e → Suits s e) → Steps before s (appended o s)
worked_steps before s None n q = step_none before s n
worked_steps before s (Some e) n q =
    let suits = q e refl in
    record {
      grows = record { node = refl; config = refl; more = e ∷ []; entries = refl; rising = (numbered-push s e n suits.goes).rising };
      own = quiet_keeps before s e s.config.copies suits.mirrors;
    }

worked_numbered : (s : StreamLog) (o : Option Entry) → IsNumbered s → ((e : Entry) → o ≡ Some e → Suits s e) → IsNumbered (appended o s)
worked_numbered s None n q = n
worked_numbered s (Some e) n q = numbered-push s e n (q e refl).goes

pub all_step-worked : (now : ℕ) (task : Task) (before streams : List StreamLog) → AllNumbered streams → AllStep before streams (worked_in now task streams)
all_step-worked now task before [] n = tt
all_step-worked now task before (s ∷ streams) n =
    let P : Bool → Type 0 = λ b. AllStep before (s ∷ streams) (cond b (worked now task.operation s ∷ streams) (s ∷ worked_in now task streams)) in
    let go : (b : Bool) → P b = λ b. elim b as P [
      | true ↦ (worked_steps before s _ n.0 (effect_suits now task.operation s n.0), all_step_none (before ++ s ∷ []) streams n.1)
      | false ↦ (step_none before s n.0, all_step-worked now task (before ++ s ∷ []) streams n.1)
    ] in
    go (is_at task.node task.name s)

pub numbered-worked : (now : ℕ) (task : Task) (streams : List StreamLog) → AllNumbered streams → AllNumbered (worked_in now task streams)
numbered-worked now task [] n = tt
numbered-worked now task (s ∷ streams) n =
    let P : Bool → Type 0 = λ b. AllNumbered (cond b (worked now task.operation s ∷ streams) (s ∷ worked_in now task streams)) in
    let go : (b : Bool) → P b = λ b. elim b as P [
      | true ↦ (worked_numbered s _ n.0 (effect_suits now task.operation s n.0), n.1)
      | false ↦ (n.0, numbered-worked now task streams n.1)
    ] in
    go (is_at task.node task.name s)
