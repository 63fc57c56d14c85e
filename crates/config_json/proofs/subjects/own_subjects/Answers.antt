use Rattle.std.proofs.Common.{◌≡◌, true, false, Err, refl, sym, ap, ◌∙◌}
use lib.Utf8.{encode}
use Rattle.std.specs.Str.{is_utf8}
use Rattle.std.proofs.lemmas.Bool.{false≢true}
use Rattle.std.proofs.lemmas.Str.{is_utf8-from_IsUtf8}
use Rattle.nats_text.specs.Text.{is_pattern}
use Rattle.stream_fold.specs.Checking.{own_subjects}
use Rattle.config_json.proofs.subjects.own_subjects.Goals as goal

pub unreachable-requires : goal.unreachable-requires
unfolding encode
unreachable-requires c =
    let wrong : is_pattern own_subjects ≡ false = c.read.ensures.bad _ (c.in-Err-Bad.is ∙ ap (λ e. Err e) c.in-Err-Bad.field-0-is) in
    let text : is_utf8 own_subjects ≡ true = is_utf8-from_IsUtf8 own_subjects (own_subjects, (refl, refl)) in
    let right : is_pattern own_subjects ≡ true = rw text refl in
    absurd (false≢true (sym wrong ∙ right))
