-- What holds of the definitions.
use Rattle.std.proofs.Common.{◌≡◌, ℕ, ◌+◌, List, [], ◌∷◌, ◌++◌, filter, Bool, true, false, ◌&&◌, not, ◌==◌, eqb, cond, Option, None, Some, Result, Ok, Err, refl, sym, ap, ◌∙◌, subst}
use Rattle.std.specs.Prelude.{IsTrue}
use Rattle.std.specs.List.{list_all, concat, join_with_byte}
use Rattle.std.proofs.lemmas.Str.{is_utf8-from_IsUtf8}
use Rattle.std.specs.Str.{is_utf8}
use lib.Utf8.{encode}
use Rattle.nats_text.specs.Matching.{matches, match_tokens}
use Rattle.nats_text.specs.Pieces.{pieces, onto_first}
use Rattle.nats_text.specs.Text.{tokens, tail, is_subject}
use Rattle.subject_transform.specs.declared.function.Dots.{Dots}
use Rattle.subject_transform.specs.declared.fault.TransformFault.{TransformFault}
use Rattle.subject_transform.specs.Parts.{Part, rest}
use Rattle.subject_transform.specs.Transforms.{read_destination, if_subject, subject_of, text_of, made, sub}
use Rattle.subject_transform.specs.Values.{is_later_byte, with_dots, dotted_by, has_dot, characters}
use Rattle.subject_transform.proofs.Tokens.{HasFirst, pieces_first, join_pieces}

-- ---- `>` into `>`

tail_is_utf8 : is_utf8 tail ≡ true
unfolding encode
tail_is_utf8 = is_utf8-from_IsUtf8 tail (tail, (refl, refl))

tail_is_read : read_destination (tokens tail) tail ≡ Ok (rest ∷ [])
tail_is_read = rw tail_is_utf8 refl

tail_matches_some : (ts : List (List ℕ)) → HasFirst ts → match_tokens (tokens tail) ts ≡ true
tail_matches_some ts h = rw h.is refl

if_true : (b : Bool) (t : List ℕ) → b ≡ true → cond b (Some t) None ≡ Some t
if_true b t h = rw h refl

pick_true : (b : Bool) (t : Option (List ℕ)) → b ≡ true → cond b t None ≡ t
pick_true b t h = rw h refl

pub tail_keeps : (s : List ℕ) → is_subject s ≡ true → sub tail tail s ≡ Some s
tail_keeps s h =
    pick_true (matches tail s) (made tail tail s) (tail_matches_some (tokens s) (pieces_first 46 s))
    ∙ (ap (λ r. subject_of (text_of (tokens tail) (tokens s) r)) tail_is_read
    ∙ (ap (λ t. if_subject t) (join_pieces 46 s) ∙ if_true (is_subject s) s h))

-- ---- subjects alone

from_if : (b : Bool) (t m : List ℕ) → is_subject t ≡ b → cond b (Some t) None ≡ Some m → is_subject m ≡ true
from_if true t m e h = let same : t ≡ m = cc in ap (λ x. is_subject x) (sym same) ∙ e
from_if false t m e h = absurd (cc)

from_text : (t : Option (List ℕ)) (m : List ℕ) → subject_of t ≡ Some m → is_subject m ≡ true
from_text None m h = absurd (cc)
from_text (Some t) m h = from_if (is_subject t) t m refl h

pub from_pick : (b : Bool) (t : Option (List ℕ)) (m : List ℕ) → cond b (subject_of t) None ≡ Some m → is_subject m ≡ true
from_pick true t m h = from_text t m h
from_pick false t m h = absurd (cc)

-- ---- dots

abbrev pub no_dot : ℕ → Bool
no_dot b = not (b == 46)

concat_first : (b : ℕ) (parts : List (List ℕ)) → concat (onto_first b parts) ≡ b ∷ concat parts
concat_first b [] = refl
concat_first b (p ∷ ps) = refl

concat_pieces : (bs : List ℕ) → concat (pieces 46 bs) ≡ filter no_dot bs
concat_pieces [] = refl
concat_pieces (b ∷ bs) =
    let i = concat_pieces bs in
    let P : Bool → Type 0 = λ t. concat (cond t ([] ∷ pieces 46 bs) (onto_first b (pieces 46 bs))) ≡ cond (not t) (b ∷ filter no_dot bs) (filter no_dot bs) in
    let go : (t : Bool) → P t = λ t. elim t as P [ true ↦ i | false ↦ concat_first b (pieces 46 bs) ∙ ap (λ r. b ∷ r) i ] in
    go (eqb b 46)

kept_byte : (b : ℕ) (bs : List ℕ) → no_dot b ≡ true → filter no_dot (b ∷ bs) ≡ b ∷ filter no_dot bs
kept_byte b bs e = rw e refl

both : (a b : Bool) → (a && b) ≡ true → (a ≡ true) × (b ≡ true)
both true b h = (refl, h)
both false b h = absurd (cc)

dotted_byte : (has : Bool) (b : ℕ) (bs : List ℕ) → no_dot b ≡ true → filter no_dot ((cond has (46 ∷ b ∷ []) (b ∷ [])) ++ bs) ≡ b ∷ filter no_dot bs
dotted_byte true b bs e = kept_byte b bs e
dotted_byte false b bs e = kept_byte b bs e

undotted : (has : ℕ → Bool) (at : ℕ) (t : List ℕ) → list_all no_dot t ≡ true → filter no_dot (with_dots has at t) ≡ t
undotted has at [] h = refl
undotted has at (b ∷ bs) h =
    let p : (no_dot b ≡ true) × (list_all no_dot bs ≡ true) = both (no_dot b) (list_all no_dot bs) h in
    let P : Bool → Type 0 = λ t. filter no_dot (cond t (b ∷ with_dots has at bs) ((cond (has at) (46 ∷ b ∷ []) (b ∷ [])) ++ with_dots has (at + 1) bs)) ≡ b ∷ bs in
    let go : (t : Bool) → P t = λ t. elim t as P [
      | true ↦ kept_byte b (with_dots has at bs) p.0 ∙ ap (λ r. b ∷ r) (undotted has at bs p.1)
      | false ↦ dotted_byte (has at) b (with_dots has (at + 1) bs) p.0 ∙ ap (λ r. b ∷ r) (undotted has (at + 1) bs p.1)
    ] in
    go (is_later_byte b)

pub pieces_are : (dots : Dots) (k : ℕ) (t : List ℕ) → list_all no_dot t ≡ true → concat (tokens (dotted_by dots k t)) ≡ t
pieces_are dots k t h = concat_pieces (dotted_by dots k t) ∙ undotted (has_dot dots k (characters t)) 0 t h
