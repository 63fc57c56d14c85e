-- A book that grows line by line.
use Rattle.std.proofs.Common.{◌≡◌, ℕ, ◌+◌, List, [], ◌∷◌, ◌++◌, length, true, false, Option, None, Some, Ok, Err, inl, inr, refl, sym, ap, subst, ◌∙◌, arith}
use Rattle.std.specs.Prelude.{◌⊎◌}
use Rattle.std.specs.Io.KnownBytes.{Appends, Keeps}
use Rattle.std.proofs.KnownBytes.{Appends-trans, Appends-kept, Appends-nil}
use Rattle.std.proofs.lemmas.List.{append-nil, append_assoc, length-append}
use Rattle.leaf_edges.specs.Causes.{AppendsPrefix}
use Rattle.nats_text.specs.Pieces.{pieces}
use Rattle.leafd_script.specs.Lines.{IfLine}
use Rattle.leafd_script.specs.declared.line.Line.{Line}
use Rattle.leafd_script.specs.declared.fault.ScriptKind.{ScriptKind}
use Rattle.leafd_cli.specs.Logs.{Logs, no_logs}
use Rattle.leafd_cli.specs.ScriptLines.{ScriptLine, lines_of, lines_from}
use Rattle.leafd_cli.specs.Legal.{judged}
use Rattle.leafd_cli.specs.Book.{IsBook, BookOk, LeadsOn, said_text, last_logs}
use Rattle.leafd_cli.specs.Plain.{Progress, step_on, start}
use Rattle.leafd_cli.specs.Keeping.{AreSound, IsWellMade}
use Rattle.leafd_cli.specs.Turns.{IsLegalOn, IsWellMadeOn, TakesLine, Breaks, Refuses, IsTurn, IsBooked, HasCome}
use Rattle.leafd_cli.specs.Reporting.{PrintsAll, PrintsBefore, PrintsPart}
use Rattle.leafd_cli.proofs.Leading.{leads, kept_on}
use Rattle.leafd_cli.proofs.Cuts.{lines_of-cut}

last_logs-push : (old : Logs) (book : List Logs) (new : Logs) → last_logs old (book ++ new ∷ []) ≡ new
last_logs-push old [] new = refl
last_logs-push old (b ∷ book) new = last_logs-push b book new

-- one line more at the end of a book
IsBook-push : (number : ℕ) (old : Logs) (rows : List ScriptLine) (out : List ℕ) (book : List Logs) (row : ScriptLine) (said : Option Line) (new : Logs) (at : ℕ) → IsBook number old rows out book → judged (last_logs old book) row ≡ Ok said → LeadsOn (last_logs old book) said new → at ≡ number + length rows → IsBook number old (rows ++ row ∷ []) (out ++ said_text at (last_logs old book) said) (book ++ new ∷ [])
IsBook-push number old [] out [] row said new at b legal lead e =
    let same : at ≡ number = omega (arith, e) in
    (said, legal, lead, [], ap (λ o. o ++ said_text at old said) b ∙ (ap (λ n. said_text n old said) same ∙ sym (append-nil (said_text number old said))), refl)
IsBook-push number old [] out (n ∷ book) row said new at b legal lead e = absurd b
IsBook-push number old (r ∷ rows) out [] row said new at b legal lead e = absurd b
IsBook-push number old (r ∷ rows) out (n ∷ book) row said new at b legal lead e =
    let text : List ℕ = said_text at (last_logs n book) said in
    (b.0, b.1, b.2, b.3 ++ text, ap (λ o. o ++ text) b.4 ∙ append_assoc (said_text number old b.0) b.3 text, IsBook-push (number + 1) n rows b.3 book row said new at b.5 legal lead (omega (arith, e)))

booked_on : (done : List ScriptLine) (report : List ℕ) (p : Progress) (row : ScriptLine) (said : Option Line) (logs : Logs) (number : ℕ) → IsBooked done report p → judged p.logs row ≡ Ok said → LeadsOn p.logs said logs → number ≡ p.number + 1 → AreSound logs.streams → IsBooked (done ++ row ∷ []) (report ++ said_text p.number p.logs said) (record { logs = logs; number = number })
booked_on done report p row said logs number b legal lead next kept =
    let L : Logs → Type 0 = λ x. LeadsOn x said logs in
    let J : Logs → Type 0 = λ x. judged x row ≡ Ok said in
    let R : Logs → Type 0 = λ x. IsBook 1 no_logs (done ++ row ∷ []) (report ++ said_text p.number x said) (b.book ++ logs ∷ []) in
    record {
      book = b.book ++ logs ∷ [];
      right = subst R b.last (IsBook-push 1 no_logs done report b.book row said logs p.number b.right (subst J (sym b.last) legal) (subst L (sym b.last) lead) (omega (arith, b.number)));
      last = last_logs-push no_logs b.book logs;
      number = omega (arith, next, b.number, length-append done (row ∷ []));
      kept = kept;
    }

-- a book for a line of which only a part was written
record PartBook (done : List ScriptLine) (report : List ℕ) (p : Progress) (row : ScriptLine) (said : Option Line) (logs : Logs) : Type 0 where
  pub book : List Logs
  pub right : BookOk (done ++ row ∷ []) (report ++ said_text p.number p.logs said) book

part_on : (done : List ScriptLine) (report : List ℕ) (p : Progress) (row : ScriptLine) (said : Option Line) (logs : Logs) → IsBooked done report p → judged p.logs row ≡ Ok said → LeadsOn p.logs said logs → PartBook done report p row said logs
part_on done report p row said logs b legal lead =
    let L : Logs → Type 0 = λ x. LeadsOn x said logs in
    let J : Logs → Type 0 = λ x. judged x row ≡ Ok said in
    let R : Logs → Type 0 = λ x. IsBook 1 no_logs (done ++ row ∷ []) (report ++ said_text p.number x said) (b.book ++ logs ∷ []) in
    record {
      book = b.book ++ logs ∷ [];
      right = subst R b.last (IsBook-push 1 no_logs done report b.book row said logs p.number b.right (subst J (sym b.last) legal) (subst L (sym b.last) lead) (omega (arith, b.number)));
    }

booked_more : (done : List ScriptLine) (report : List ℕ) (p q : Progress) (row : ScriptLine) (a b : Option (List ℕ)) → IsBooked done report p → (t : TakesLine p row q a b) → IsBooked (done ++ row ∷ []) (report ++ said_text p.number p.logs t.said) q
booked_more done report p q row a b k t = booked_on done report p row t.said q.logs q.number k t.legal t.leads t.number t.kept

pub starts : (text : List ℕ) (a : Option (List ℕ)) → HasCome text text start a a
starts text a = record { done = []; lines = refl; report = []; booked = record { book = []; right = refl; last = refl; number = refl; kept = record { copies = tt; numbers = tt } }; written = Appends-nil a }

pub comes_on : (text rest line after : List ℕ) (p q : Progress) (a b c : Option (List ℕ)) → pieces 10 rest ≡ line ∷ pieces 10 after → TakesLine p (record { bytes = line; ended = true }) q b c → HasCome text rest p a b → HasCome text after q a c
comes_on text rest line after p q a b c e t h =
    let row : ScriptLine = record { bytes = line; ended = true } in
    record {
      done = h.done ++ row ∷ [];
      lines = h.lines ∙ (ap (λ rs. h.done ++ rs) (lines_of-cut rest line after e) ∙ sym (append_assoc h.done (row ∷ []) (lines_of after)));
      report = h.report ++ said_text p.number p.logs t.said;
      booked = booked_more h.done h.report p q row b c h.booked t;
      written = Appends-trans a b c h.report _ h.written t.written;
    }

-- the lines that are left begin with this one
abbrev pub IsNext : List ℕ → ScriptLine → List ScriptLine → Type 0
IsNext rest row more = lines_of rest ≡ row ∷ more

pub next_ended : (rest line after : List ℕ) → pieces 10 rest ≡ line ∷ pieces 10 after → IsNext rest (record { bytes = line; ended = true }) (lines_of after)
next_ended rest line after e = lines_of-cut rest line after e

pub next_last : (rest : List ℕ) → pieces 10 rest ≡ rest ∷ [] → (length rest ≡ 0 → ⊥) → IsNext rest (record { bytes = rest; ended = false }) []
next_last [] e some = absurd (some refl)
next_last (b ∷ bs) e some = ap lines_from e

pub stops_at : (text rest : List ℕ) (row : ScriptLine) (more : List ScriptLine) (p q : Progress) (a b c : Option (List ℕ)) (line : ℕ) (kind : ScriptKind) → IsNext rest row more → Refuses p row q b c kind → line ≡ q.number → HasCome text rest p a b → PrintsBefore line kind text a c
stops_at text rest row more p q a b c line kind next t l h =
    let Q : Logs → Type 0 = λ x. judged x row ≡ Err kind in
    record { done = h.done; line = row; more = more; lines = h.lines ∙ ap (λ rs. h.done ++ rs) next; number_is = l ∙ (ap (λ (x : Progress). x.number) t.same ∙ h.booked.number); report = h.report; book = h.booked.book; right = h.booked.right; refused = subst Q (sym h.booked.last) t.said; written = Appends-kept a b c h.report h.written t.written }

pub ends_with : (text rest : List ℕ) (row : ScriptLine) (p q : Progress) (a b c : Option (List ℕ)) → IsNext rest row [] → TakesLine p row q b c → HasCome text rest p a b → PrintsAll text a c
ends_with text rest row p q a b c next t h =
    let k = booked_more h.done h.report p q row b c h.booked t in
    let P : List ScriptLine → Type 0 = λ x. BookOk x (h.report ++ said_text p.number p.logs t.said) k.book in
    record { report = h.report ++ said_text p.number p.logs t.said; book = k.book; right = subst P (sym (h.lines ∙ ap (λ rs. h.done ++ rs) next)) k.right; written = Appends-trans a b c h.report _ h.written t.written }

pub ends_empty : (text rest : List ℕ) (p : Progress) (a b : Option (List ℕ)) → rest ≡ [] → HasCome text rest p a b → PrintsAll text a b
ends_empty text rest p a b e h =
    let P : List ScriptLine → Type 0 = λ x. BookOk x h.report h.booked.book in
    record { report = h.report; book = h.booked.book; right = subst P (sym (h.lines ∙ (ap (λ x. h.done ++ lines_of x) e ∙ append-nil h.done))) h.booked.right; written = h.written }

pub breaks_at : (text rest : List ℕ) (row : ScriptLine) (more : List ScriptLine) (p : Progress) (a b c : Option (List ℕ)) → IsNext rest row more → Keeps b c ⊎ Breaks p row b c → HasCome text rest p a b → PrintsPart text a c
breaks_at text rest row more p a b c next (inl keeps) h =
    record { done = h.done; more = lines_of rest; lines = h.lines; report = h.report; book = h.booked.book; right = h.booked.right; written = record { front = h.report; rest = []; whole = sym (append-nil h.report); grows = Appends-kept a b c h.report h.written keeps } }
breaks_at text rest row more p a b c next (inr br) h =
    let k = part_on h.done h.report p row br.said br.logs h.booked br.legal br.leads in
    record {
      done = h.done ++ row ∷ [];
      more = more;
      lines = h.lines ∙ (ap (λ rs. h.done ++ rs) next ∙ sym (append_assoc h.done (row ∷ []) more));
      report = h.report ++ said_text p.number p.logs br.said;
      book = k.book;
      right = k.right;
      written = record { front = h.report ++ br.written.front; rest = br.written.rest; whole = ap (λ t. h.report ++ t) br.written.whole ∙ sym (append_assoc h.report br.written.front br.written.rest); grows = Appends-trans a b c h.report br.written.front h.written br.written.grows };
    }

pub made_on : (said : Option Line) → IfLine (Ok said) IsWellMade → IsWellMadeOn said
made_on None h = tt
made_on (Some line) h = h

-- what a line says, or that it says nothing, leads as a book says
said_leads : (logs : Logs) (said : Option Line) → AreSound logs.streams → IsLegalOn logs said → IsWellMadeOn said → LeadsOn logs said (step_on logs said)
said_leads logs None k f made = refl
said_leads logs (Some line) k f made = leads logs line k f made

said_kept : (logs : Logs) (said : Option Line) → AreSound logs.streams → IsLegalOn logs said → IsWellMadeOn said → AreSound (step_on logs said).streams
said_kept logs None k f made = k
said_kept logs (Some line) k f made = kept_on logs line k f made

-- a legal line that was done and printed
pub takes : (p : Progress) (row : ScriptLine) (said : Option Line) (logs : Logs) (number : ℕ) (text : List ℕ) (a b : Option (List ℕ)) → AreSound p.logs.streams → judged p.logs row ≡ Ok said → IsLegalOn p.logs said → IsWellMadeOn said → logs ≡ step_on p.logs said → number ≡ p.number + 1 → text ≡ said_text p.number p.logs said → Appends a b text → TakesLine p row (record { logs = logs; number = number }) a b
takes p row said logs number text a b kept judge legal made done next e w =
    let L : Logs → Type 0 = λ x. LeadsOn p.logs said x in
    let K : Logs → Type 0 = λ x. AreSound x.streams in
    let W : List ℕ → Type 0 = λ x. Appends a b x in
    record {
      said = said;
      legal = judge;
      leads = subst L (sym done) (said_leads p.logs said kept legal made);
      number = next;
      written = subst W e w;
      kept = subst K (sym done) (said_kept p.logs said kept legal made);
    }

-- a legal line of whose text a prefix was written
pub breaks : (p : Progress) (row : ScriptLine) (said : Option Line) (text : List ℕ) (a b : Option (List ℕ)) → AreSound p.logs.streams → judged p.logs row ≡ Ok said → IsLegalOn p.logs said → IsWellMadeOn said → text ≡ said_text p.number p.logs said → AppendsPrefix a b text → Breaks p row a b
breaks p row said text a b kept judge legal made e w =
    let W : List ℕ → Type 0 = λ x. AppendsPrefix a b x in
    record { said = said; legal = judge; logs = step_on p.logs said; leads = said_leads p.logs said kept legal made; written = subst W e w }

-- a line that was taken, and one that was refused, by what its turn answers
pub turn_none : (p : Progress) (row : ScriptLine) (q : Progress) (a b : Option (List ℕ)) (o : Option ScriptKind) → o ≡ None → IsTurn p row q a b (Ok o) → TakesLine p row q a b
turn_none p row q a b o e t = let P : Option ScriptKind → Type 0 = λ x. IsTurn p row q a b (Ok x) in subst P e t

pub turn_some : (p : Progress) (row : ScriptLine) (q : Progress) (a b : Option (List ℕ)) (o : Option ScriptKind) (kind : ScriptKind) → o ≡ Some kind → IsTurn p row q a b (Ok o) → Refuses p row q a b kind
turn_some p row q a b o kind e t = let P : Option ScriptKind → Type 0 = λ x. IsTurn p row q a b (Ok x) in subst P e t
