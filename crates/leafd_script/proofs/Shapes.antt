-- Lines of another number of words, and the rest of a line.
use Rattle.std.proofs.Common.{◌≡◌, ℕ, ◌<◌, List, [], ◌∷◌, length, Bool, true, false, cond, eqb, Err, Ok, refl, sym, ap, subst, ◌∙◌, arith}
use Rattle.std.proofs.lemmas.Bool.{eqb-true}
use Rattle.std.specs.Borrow.{Bor}
use Rattle.nats_text.specs.Pieces.{pieces, onto_first, views}
use Rattle.leafd_script.specs.declared.fault.ScriptKind.TheVariants.{BadLine, BadName}
use Rattle.leafd_script.specs.Words.{joined, led_by, name_of, with_text, with_legal}
use Rattle.leafd_script.specs.Lines.{stream_line, mirror_line, update_line, IsMirrorFrom}
use Rattle.leafd_script.specs.Options.{origin_of}
use Rattle.std.specs.Str.{bytes_eq}
use Rattle.std.proofs.lemmas.Slice.Eq.{bytes_eq-Decides}
use Rattle.nats_text.specs.Headers.{HeaderBlock}
use Rattle.nats_text.specs.Text.{is_name}
use Rattle.stream_fold.specs.declared.config.Copies.{Copies}
use Rattle.stream_fold.specs.declared.config.Copies.TheVariants.{Mirror as MirrorOf}

pub few_for_stream : (args : List (Bor (List ℕ))) → length args < 2 → stream_line (views args) ≡ Err BadLine
few_for_stream [] h = refl
few_for_stream (a ∷ []) h = refl
few_for_stream (a ∷ b ∷ args) h = absurd (omega (arith, h))

pub few_for_update : (args : List (Bor (List ℕ))) → length args < 2 → update_line (views args) ≡ Err BadLine
few_for_update [] h = refl
few_for_update (a ∷ []) h = refl
few_for_update (a ∷ b ∷ args) h = absurd (omega (arith, h))

pub few_for_mirror : (args : List (Bor (List ℕ))) → length args < 4 → mirror_line (views args) ≡ Err BadLine
few_for_mirror [] h = refl
few_for_mirror (a ∷ []) h = refl
few_for_mirror (a ∷ b ∷ []) h = refl
few_for_mirror (a ∷ b ∷ c ∷ []) h = refl
few_for_mirror (a ∷ b ∷ c ∷ d ∷ args) h = absurd (omega (arith, h))

joined-onto_first : (c b : ℕ) (parts : List (List ℕ)) → joined c (onto_first b parts) ≡ b ∷ joined c parts
joined-onto_first c b [] = refl
joined-onto_first c b (part ∷ parts) = refl

-- a text has a first part
abbrev HasFirst : List (List ℕ) → Type 0
HasFirst parts = (first : List ℕ) × (rest : List (List ℕ)) × (parts ≡ first ∷ rest)

onto_has_first : (b : ℕ) (parts : List (List ℕ)) → HasFirst (onto_first b parts)
onto_has_first b [] = (b ∷ [], [], refl)
onto_has_first b (part ∷ parts) = (b ∷ part, parts, refl)

pieces_first : (c : ℕ) (bs : List ℕ) → HasFirst (pieces c bs)
pieces_first c [] = ([], [], refl)
pieces_first c (b ∷ bs) =
    let P : Bool → Type 0 = λ x. HasFirst (cond x ([] ∷ pieces c bs) (onto_first b (pieces c bs))) in
    let go : (x : Bool) → P x = λ x. elim x as P [ true ↦ ([], pieces c bs, refl) | false ↦ onto_has_first b (pieces c bs) ] in
    go (eqb b c)

led_by-some : (c : ℕ) (parts : List (List ℕ)) → HasFirst parts → led_by c parts ≡ c ∷ joined c parts
led_by-some c parts h = rw h.2 refl

-- the parts of a text, with the byte between them, are the text
pub joined-pieces : (c : ℕ) (bs : List ℕ) → joined c (pieces c bs) ≡ bs
joined-pieces c [] = refl
joined-pieces c (b ∷ bs) =
    let P : Bool → Type 0 = λ x. eqb b c ≡ x → joined c (cond x ([] ∷ pieces c bs) (onto_first b (pieces c bs))) ≡ b ∷ bs in
    let go : (x : Bool) → P x = λ x. elim x as P [
      | true ↦ (λ e. led_by-some c (pieces c bs) (pieces_first c bs) ∙ (ap (λ ws. c ∷ ws) (joined-pieces c bs) ∙ ap (λ x. x ∷ bs) (sym (eqb-true b c e))))
      | false ↦ (λ e. joined-onto_first c b (pieces c bs) ∙ ap (λ ws. b ∷ ws) (joined-pieces c bs))
    ] in
    go (eqb b c) refl

cut-text : (headers : HeaderBlock) (name value : List ℕ) (parts : List (List ℕ)) → HasFirst parts → joined 58 parts ≡ value → with_text headers (name ∷ parts) ≡ with_legal headers name value
cut-text headers name value [] h e = cc h.2
cut-text headers name value (part ∷ parts) h e = ap (with_legal headers name) e

-- a text that is cut at its first colon
pub with_text-cut : (headers : HeaderBlock) (name value : List ℕ) → with_text headers (name ∷ pieces 58 value) ≡ with_legal headers name value
with_text-cut headers name value = cut-text headers name value (pieces 58 value) (pieces_first 58 value) (joined-pieces 58 value)

-- a stream of a node with another name
mirror-from : (node other origin : List ℕ) → bytes_eq node other ≡ false → IsMirrorFrom node (MirrorOf (origin_of other origin))
mirror-from node other origin h = (other, refl, (λ e. cc ((bytes_eq-Decides node other).1 (sym e), h)), refl, refl, refl)

-- a word that was read as a name is that name
name-same : (w name : List ℕ) → name_of w ≡ Ok name → w ≡ name
name-same w name h =
    let P : Bool → Type 0 = λ b. cond b (Ok w) (Err BadName) ≡ Ok name → w ≡ name in
    let go : (b : Bool) → P b = λ b. elim b as P [ true ↦ (λ e. cc e) | false ↦ (λ e. cc e) ] in
    go (is_name w) h

-- a mirror of a stream on a node with another name, by the words that were read
pub mirror-read : (n on node other origin : List ℕ) (copied : Copies) → name_of n ≡ Ok node → name_of on ≡ Ok other → bytes_eq n on ≡ false → copied ≡ MirrorOf (origin_of other origin) → IsMirrorFrom node copied
mirror-read n on node other origin copied h k d e =
    let differ : bytes_eq node other ≡ false = ap (λ x. bytes_eq x other) (sym (name-same n node h)) ∙ (ap (λ y. bytes_eq n y) (sym (name-same on other k)) ∙ d) in
    subst (IsMirrorFrom node) (sym e) (mirror-from node other origin differ)
