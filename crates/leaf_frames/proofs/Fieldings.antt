-- Fields that a line may be written of.
use Rattle.std.proofs.Common.{◌≡◌, ℕ, List, [], ◌∷◌, ◌++◌, length, true, ◌&&◌, nat_lt, refl}
use Rattle.std.specs.List.{list_all}
use Rattle.std.proofs.lemmas.Bool.{and_parts, and_from}
use Rattle.nats_frames.specs.Fields.{is_short}
use Rattle.nats_frames.specs.Kinds.{is_plain_byte, is_label}
use Rattle.nats_frames.proofs.Parts.{is_field}

-- a field that is short is a label
pub short_label : (f : List ℕ) → is_field f ≡ true → is_short f ≡ true → is_label f ≡ true
short_label f h s = and_from (nat_lt 0 (length f) && list_all is_plain_byte f) (is_short f) h s

pub label_field : (f : List ℕ) → is_label f ≡ true → is_field f ≡ true
label_field f h = (and_parts (nat_lt 0 (length f) && list_all is_plain_byte f) (is_short f) h).0

pub label_short : (f : List ℕ) → is_label f ≡ true → is_short f ≡ true
label_short f h = (and_parts (nat_lt 0 (length f) && list_all is_plain_byte f) (is_short f) h).1

pub short_labels : (fs : List (List ℕ)) → list_all is_field fs ≡ true → list_all is_short fs ≡ true → list_all is_label fs ≡ true
short_labels [] h s = refl
short_labels (f ∷ fs) h s =
    let p = and_parts (is_field f) (list_all is_field fs) h in
    let q = and_parts (is_short f) (list_all is_short fs) s in
    and_from (is_label f) (list_all is_label fs) (short_label f p.0 q.0) (short_labels fs p.1 q.1)

pub labels_fields : (fs : List (List ℕ)) → list_all is_label fs ≡ true → list_all is_field fs ≡ true
labels_fields [] h = refl
labels_fields (f ∷ fs) h =
    let p = and_parts (is_label f) (list_all is_label fs) h in
    and_from (is_field f) (list_all is_field fs) (label_field f p.0) (labels_fields fs p.1)

pub labels_short : (fs : List (List ℕ)) → list_all is_label fs ≡ true → list_all is_short fs ≡ true
labels_short [] h = refl
labels_short (f ∷ fs) h =
    let p = and_parts (is_label f) (list_all is_label fs) h in
    and_from (is_short f) (list_all is_short fs) (label_short f p.0) (labels_short fs p.1)

pub append_fields : (a b : List (List ℕ)) → list_all is_field a ≡ true → list_all is_field b ≡ true → list_all is_field (a ++ b) ≡ true
append_fields [] b g h = h
append_fields (f ∷ a) b g h =
    let p = and_parts (is_field f) (list_all is_field a) g in
    and_from (is_field f) (list_all is_field (a ++ b)) p.0 (append_fields a b p.1 h)
