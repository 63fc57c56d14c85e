use Rattle.std.proofs.Common.{◌≡◌, Bool, true, false, List, ℕ, [], cond, None, Result, Err, refl}
use Rattle.std.proofs.lemmas.Str.{IsUtf8-from_is_utf8, is_utf8-from_IsUtf8}
use Rattle.std.specs.Str.{IsUtf8, is_utf8}
use Rattle.toml.specs.Parse.{parse_document}
use Rattle.leafd_conf.specs.Confs.{conf_of}
use Rattle.leafd_conf.specs.Profile.{Gives, IsProblem}
use Rattle.leafd_conf.specs.declared.conf.Conf.{Conf}
use Rattle.leafd_conf.specs.declared.fault.ConfKind.TheVariants.{Syntax}
use Rattle.leafd_conf.specs.declared.fault.ConfProblem.{ConfProblem}
use Rattle.leafd_conf.specs.declared.fault.ConfProblem.TheVariants.{Bad, NoMemory}
use Rattle.leafd_conf.proofs.conf.read_conf.Goals as goal

pub returns-in-Ok : goal.returns-in-Ok
unfolding conf_of
returns-in-Ok c = rw (is_utf8-from_IsUtf8 c.args.bytes.now c.in-Ok.ensures.ok.0, c.in-Ok.ensures.ok.1) c.conf_in.ensures

-- bytes that are no text, or a text that is no document
no_document : (bytes : List ℕ) → (IsUtf8 bytes → parse_document bytes ≡ None) → cond (is_utf8 bytes) (parse_document bytes) None ≡ None
no_document bytes f = go (is_utf8 bytes) refl
  where
    go : (b : Bool) → is_utf8 bytes ≡ b → cond b (parse_document bytes) None ≡ None
    go true e = f (IsUtf8-from_is_utf8 bytes e)
    go false e = refl

told : (problem : ConfProblem) (read : Result Conf ConfProblem) → read ≡ Err (Bad Syntax []) → IsProblem Syntax [] problem → Gives (Err problem) read
told (Bad kind key) read e p = cc
told NoMemory read e p = tt

pub returns-else-is_memory : goal.returns-else-is_memory
unfolding conf_of
returns-else-is_memory c =
    let none = no_document c.args.bytes.now (c.in-Err.ensures.refused (λ m. let bad : false ≡ true = rw c.if-is_memory.false at (c.is_memory.ensures.1 m) in cc)) in
    told c.problem.result (conf_of c.args.bytes.now) (rw none refl) c.problem.ensures
