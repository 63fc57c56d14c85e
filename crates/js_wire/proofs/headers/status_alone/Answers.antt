use Rattle.std.proofs.Common.{◌≡◌, List, ℕ, ◌++◌, true, Ok, Err, refl, ap, ◌∙◌, append_assoc, codes, rules}
use Rattle.std.proofs.lemmas.Bool.{and_from}
use Rattle.nats_text.specs.Headers.{written, read_block, is_line_text, is_header_block}
use Rattle.js_wire.specs.Messages.{status_alone}
use Rattle.js_wire.proofs.headers.status_alone.Goals as goal

-- what is written of a status alone
text_of : (s : List ℕ) → (codes "NATS/1.0 " ++ s) ++ codes "\r\n\r\n" ≡ written (status_alone s)
text_of s = simp append_assoc

legal : (s : List ℕ) → is_line_text s ≡ true → is_header_block (status_alone s) ≡ true
legal s h = and_from (is_line_text s) true h refl

pub returns-in-Ok : goal.returns-in-Ok
returns-in-Ok c =
    let s = c.args.status.now in
    let text : c.deref.result.now ≡ (codes "NATS/1.0 " ++ c.args.status.now) ++ codes "\r\n\r\n" = search rules in
    let again : read_block (written (status_alone c.args.status.now)) ≡ Ok (status_alone c.args.status.now) = c.header_blocks.ensures.again (status_alone s) (legal s c.requires) in
    let good : read_block c.deref.result.now ≡ Ok (status_alone c.args.status.now) = ap read_block (text ∙ text_of s) ∙ again in
    let read : read_block c.deref.result.now ≡ Ok c.in-Ok.headers = c.in-Ok.ensures.exact in
    cc

pub unreachable-requires : goal.unreachable-requires
unreachable-requires c =
    let s = c.args.status.now in
    let text : c.deref.result.now ≡ (codes "NATS/1.0 " ++ c.args.status.now) ++ codes "\r\n\r\n" = search rules in
    let again : read_block (written (status_alone c.args.status.now)) ≡ Ok (status_alone c.args.status.now) = c.header_blocks.ensures.again (status_alone s) (legal s c.requires) in
    let good : read_block c.deref.result.now ≡ Ok (status_alone c.args.status.now) = ap read_block (text ∙ text_of s) ∙ again in
    let bad : read_block c.deref.result.now ≡ Err c.in-Err-Bad.field-0-0 = rw c.in-Err-Bad.field-0-is at c.in-Err-Bad.ensures.exact in
    cc
