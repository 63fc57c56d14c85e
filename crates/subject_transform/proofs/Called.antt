-- Functions with their arguments, as they are read.
use Rattle.std.proofs.Common.{◌≡◌, ℕ, List, [], ◌∷◌, map, Bool, true, false, ◌&&◌, cond, Result, Ok, Err, refl, sym, ap, ◌∙◌}
use Rattle.std.specs.List.{list_all, join_with_byte}
use Rattle.nats_text.specs.Pieces.{pieces}
use Rattle.subject_transform.specs.declared.fault.TransformKind.{TransformKind}
use Rattle.subject_transform.specs.declared.fault.TransformKind.TheVariants.{BadFunction}
use Rattle.subject_transform.specs.declared.function.Dots.{Dots}
use Rattle.subject_transform.specs.Parts.{Part, partition, split, dotted, number, is_number, is_count, is_index, is_length, is_separator, if_numbered, read_wildcard, read_partition, read_two, read_split, read_dotted, read_closed, read_opened}
use Rattle.subject_transform.proofs.Tokens.{HasFirst, pieces_first, join_pieces}

-- ---- one argument

one_first : (stars : ℕ) (i : List ℕ) (is : List (List ℕ)) → HasFirst is → read_wildcard stars (i ∷ is) ≡ Err BadFunction
one_first stars i is h = rw h.is refl

pub one_more : (stars : ℕ) (text i rest : List ℕ) → pieces 44 text ≡ i ∷ pieces 44 rest → Err BadFunction ≡ read_wildcard stars (pieces 44 text)
one_more stars text i rest e = sym (ap (λ ts. read_wildcard stars ts) e ∙ one_first stars i (pieces 44 rest) (pieces_first 44 rest))

-- ---- a partition

partition_first : (stars : ℕ) (n : List ℕ) (is : List (List ℕ)) → HasFirst is
    → read_partition stars (n ∷ is) ≡ if_numbered (is_number n && is_count (number n) && list_all is_number is) (list_all (is_index stars) is) (partition (number n) (map number is))
partition_first stars n is h = rw h.is refl

pub partition_more : (stars : ℕ) (text n rest : List ℕ) → pieces 44 text ≡ n ∷ pieces 44 rest
    → read_partition stars (pieces 44 text) ≡ if_numbered (is_number n && is_count (number n) && list_all is_number (pieces 44 rest)) (list_all (is_index stars) (pieces 44 rest)) (partition (number n) (map number (pieces 44 rest)))
partition_more stars text n rest e = ap (λ ts. read_partition stars ts) e ∙ partition_first stars n (pieces 44 rest) (pieces_first 44 rest)

-- ---- two arguments

two_first : (read : List ℕ → List ℕ → Result Part TransformKind) (t u : List ℕ) (vs : List (List ℕ)) → HasFirst vs → read_two read (t ∷ u ∷ vs) ≡ Err BadFunction
two_first read t u vs h = rw h.is refl

pub two_more : (read : List ℕ → List ℕ → Result Part TransformKind) (text t second u rest : List ℕ) → pieces 44 text ≡ t ∷ pieces 44 second → pieces 44 second ≡ u ∷ pieces 44 rest → read_two read (pieces 44 text) ≡ Err BadFunction
two_more read text t second u rest e f =
    ap (λ ts. read_two read ts) (e ∙ ap (λ us. t ∷ us) f) ∙ two_first read t u (pieces 44 rest) (pieces_first 44 rest)

pub two_short : (read : List ℕ → List ℕ → Result Part TransformKind) (text : List ℕ) → pieces 44 text ≡ text ∷ [] → read_two read (pieces 44 text) ≡ Err BadFunction
two_short read text e = ap (λ ts. read_two read ts) e

split_read : (stars : ℕ) (i s : List ℕ) → is_separator s ≡ true → read_split stars i s ≡ if_numbered (is_number i) (is_index stars i) (split (number i) s)
split_read stars i s h = rw h refl

split_refused : (stars : ℕ) (i s : List ℕ) → is_separator s ≡ false → read_split stars i s ≡ Err BadFunction
split_refused stars i s h = rw h refl

pub split_two : (stars : ℕ) (text i s : List ℕ) → pieces 44 text ≡ i ∷ s ∷ [] → is_separator s ≡ true → read_two (read_split stars) (pieces 44 text) ≡ if_numbered (is_number i) (is_index stars i) (split (number i) s)
split_two stars text i s e h = ap (λ ts. read_two (read_split stars) ts) e ∙ split_read stars i s h

pub split_bad : (stars : ℕ) (text i s : List ℕ) → pieces 44 text ≡ i ∷ s ∷ [] → is_separator s ≡ false → Err BadFunction ≡ read_two (read_split stars) (pieces 44 text)
split_bad stars text i s e h = sym (ap (λ ts. read_two (read_split stars) ts) e ∙ split_refused stars i s h)

pub dotted_two : (stars : ℕ) (dots : Dots) (text i k : List ℕ) → pieces 44 text ≡ i ∷ k ∷ []
    → read_two (read_dotted stars dots) (pieces 44 text) ≡ if_numbered (is_number i && is_number k && is_length dots (number k)) (is_index stars i) (dotted dots (number i) (number k))
dotted_two stars dots text i k e = ap (λ ts. read_two (read_dotted stars dots) ts) e

-- ---- a name and a `(`

opened_first : (stars : ℕ) (name : List ℕ) (parts : List (List ℕ)) → HasFirst parts → read_opened stars (name ∷ parts) ≡ read_closed stars name (join_with_byte 40 parts)
opened_first stars name parts h = rw h.is refl

pub opened_more : (stars : ℕ) (text name rest : List ℕ) → pieces 40 text ≡ name ∷ pieces 40 rest → read_opened stars (pieces 40 text) ≡ read_closed stars name rest
opened_more stars text name rest e =
    ap (λ ts. read_opened stars ts) e ∙ (opened_first stars name (pieces 40 rest) (pieces_first 40 rest) ∙ ap (λ r. read_closed stars name r) (join_pieces 40 rest))
