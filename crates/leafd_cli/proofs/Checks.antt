-- A check of the text that was read is a check of its file.
use Rattle.std.proofs.Common.{◌≡◌, true, ℕ, List, [], ◌++◌, refl, ◌∙◌, ap, subst}
use Rattle.std.specs.Prelude.{Bool, Option, Some, Result, Ok}
use Rattle.leaf_edges.specs.declared.fault.EdgeError.{EdgeError}
use Rattle.leaf_edges.specs.Files.{AddsText}
use Rattle.leafd_conf.specs.Confs.{conf_of}
use Rattle.leafd_cli.specs.declared.status.Status.{Status}
use Rattle.leafd_cli.specs.Checking.{Checks, ChecksSaid}

pub text_checked : (tells : Type 0) (file : Option (List ℕ)) (old new seen : List ℕ) (before after : Option (List ℕ)) (status : Status) (read : Result Bool EdgeError) → read ≡ Ok true → old ≡ [] → seen ≡ new → AddsText tells file old new read → ChecksSaid (conf_of seen) before after status → Checks tells file before after status
text_checked tells file old new seen before after status read there empty same adds said =
    let added : AddsText tells file old new (Ok true) = subst (AddsText tells file old new) there adds in
    let all : seen ≡ added.0 = same ∙ added.1 ∙ ap (λ front. front ++ added.0) empty in
    record { text = Some added.0; is_file = added.3; written = subst (λ text. ChecksSaid (conf_of text) before after status) all said }
