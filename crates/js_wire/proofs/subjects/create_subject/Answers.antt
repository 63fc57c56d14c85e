use Rattle.std.proofs.Common.{◌≡◌, ◌∷◌, ◌++◌, ap, ◌∙◌, rules, codes}
use Rattle.nats_text.specs.Text.{is_subject}
use Rattle.js_wire.specs.Words.{dotted, create_words}
use Rattle.js_wire.proofs.Legality.{create_is_subject, create_text}
use Rattle.js_wire.proofs.subjects.create_subject.Goals as goal

pub subject-requires : goal.subject-requires
subject-requires c =
    let text : c.deref.result.now ≡ ((((codes "$JS" ++ 46 ∷ c.args.origin.now) ++ 46 ∷ codes "API") ++ 46 ∷ codes "CONSUMER") ++ 46 ∷ codes "CREATE") ++ 46 ∷ c.args.stream.now = search rules in
    ap is_subject (text ∙ create_text c.args.origin.now c.args.stream.now) ∙ create_is_subject c.args.origin.now c.args.stream.now c.bytes.ensures.legal c.bytes-2.ensures.legal

pub returns : goal.returns
returns c =
    let text : c.deref.result.now ≡ ((((codes "$JS" ++ 46 ∷ c.args.origin.now) ++ 46 ∷ codes "API") ++ 46 ∷ codes "CONSUMER") ++ 46 ∷ codes "CREATE") ++ 46 ∷ c.args.stream.now = search rules in
    let whole : c.deref.result.now ≡ dotted (create_words c.args.origin.now c.args.stream.now) = text ∙ create_text c.args.origin.now c.args.stream.now in
    rw (← whole) c.subject.ensures
