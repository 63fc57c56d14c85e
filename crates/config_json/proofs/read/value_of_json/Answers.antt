use Rattle.std.proofs.Common.{◌≡◌, Bool, true, false, cond, Option, None, refl, sym, ap, ◌∙◌}
use Rattle.std.specs.Str.{is_utf8}
use Rattle.std.proofs.lemmas.Bool.{false≢true}
use Rattle.std.proofs.lemmas.Str.{IsUtf8-from_is_utf8, is_utf8-from_IsUtf8}
use Rattle.serde_json.specs.Data.{Data}
use Rattle.serde_json.specs.Errors.{IsMemory}
use Rattle.serde_json.specs.Read.{read}
use Rattle.config_json.proofs.read.value_of_json.Goals as goal

nothing_read : (b : Bool) (o : Option Data) → (b ≡ true → o ≡ None) → cond b o None ≡ None
nothing_read true o h = h refl
nothing_read false o h = refl

pub returns-in-Ok : goal.returns-in-Ok
returns-in-Ok c =
    let t = c.args.text.now in
    let ok = c.in-Ok.ensures.ok in
    sym (ap (λ b. cond b (read t) None) (is_utf8-from_IsUtf8 t ok.0) ∙ ok.1)

pub returns-else-is_memory : goal.returns-else-is_memory
returns-else-is_memory c =
    let t = c.args.text.now in
    let other = λ (m : IsMemory c.in-Err.error). false≢true (sym c.if-is_memory.false ∙ c.is_memory.ensures.1 m) in
    sym (nothing_read (is_utf8 t) (read t) (λ u. c.in-Err.ensures.err other (IsUtf8-from_is_utf8 t u)))
