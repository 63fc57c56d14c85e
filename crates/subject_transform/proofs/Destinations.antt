-- A destination, a token at a time.
use Rattle.std.proofs.Common.{◌≡◌, ℕ, ◌+◌, List, [], ◌∷◌, ◌++◌, length, map, Bool, true, false, Option, None, Some, Result, Ok, Err, refl, sym, ap, ◌∙◌, arith, append_assoc, length-append}
use Rattle.std.specs.List.{join_with_byte}
use Rattle.nats_text.specs.Pieces.{pieces}
use Rattle.subject_transform.specs.declared.fault.TransformKind.{TransformKind}
use Rattle.subject_transform.specs.declared.fault.TransformFault.{TransformFault}
use Rattle.subject_transform.specs.declared.fault.TransformFault.TheVariants.{Bad}
use Rattle.subject_transform.specs.Parts.{Part, read_part}
use Rattle.subject_transform.specs.Reading.{fault_of, text_behind}
use Rattle.subject_transform.specs.Transforms.{then_parts, read_last, read_tokens, text_of}
use Rattle.subject_transform.specs.Values.{value}
use Rattle.subject_transform.proofs.Tokens.{HasFirst, pieces_first, join_pieces}

-- ---- places

join_more : (c : ℕ) (p : List ℕ) (ps : List (List ℕ)) → HasFirst ps → join_with_byte c (p ∷ ps) ≡ p ++ c ∷ join_with_byte c ps
join_more c p ps h = rw h.is refl

cut_text : (c : ℕ) (bs p q : List ℕ) → pieces c bs ≡ p ∷ pieces c q → bs ≡ p ++ c ∷ q
cut_text c bs p q e =
    sym (join_pieces c bs) ∙ (ap (λ ps. join_with_byte c ps) e ∙ (join_more c p (pieces c q) (pieces_first c q) ∙ ap (λ r. p ++ c ∷ r) (join_pieces c q)))

pub cut_length : (c : ℕ) (bs p q : List ℕ) → pieces c bs ≡ p ∷ pieces c q → length bs ≡ length p + 1 + length q
cut_length c bs p q e = let h : length bs ≡ length p + length (c ∷ q) = ap length (cut_text c bs p q e) ∙ length-append p (c ∷ q) in omega (arith, h)

-- ---- the first fault

read_first : (stars : ℕ) (wants : Bool) (place : ℕ) (t : List ℕ) (ts : List (List ℕ)) → HasFirst ts
    → read_tokens stars wants place (t ∷ ts) ≡ then_parts place (read_part stars false t) (read_tokens stars wants (place + (length t + 1)) ts)
read_first stars wants place t ts h = rw h.is refl

pub read_more : (stars : ℕ) (wants : Bool) (place : ℕ) (rest t after : List ℕ) (read : Result Part TransformKind) → pieces 46 rest ≡ t ∷ pieces 46 after → read ≡ read_part stars false t
    → read_tokens stars wants place (pieces 46 rest) ≡ then_parts place read (read_tokens stars wants (place + (length t + 1)) (pieces 46 after))
read_more stars wants place rest t after read e o =
    ap (λ ts. read_tokens stars wants place ts) e ∙ (read_first stars wants place t (pieces 46 after) (pieces_first 46 after)
    ∙ ap (λ r. then_parts place r (read_tokens stars wants (place + (length t + 1)) (pieces 46 after))) (sym o))

pub read_ended : (stars : ℕ) (wants : Bool) (place : ℕ) (rest : List ℕ) (read : Result Part TransformKind) → pieces 46 rest ≡ rest ∷ [] → read ≡ read_last stars wants rest (read_part stars true rest)
    → read_tokens stars wants place (pieces 46 rest) ≡ then_parts place read (Ok [])
read_ended stars wants place rest read e o = ap (λ ts. read_tokens stars wants place ts) e ∙ ap (λ r. then_parts place r (Ok [])) (sym o)

fault_more : (place : ℕ) (part : Part) (others : Result (List Part) TransformFault) → fault_of (then_parts place (Ok part) others) ≡ fault_of others
fault_more place part (Ok parts) = refl
fault_more place part (Err fault) = refl

pub fault_step : (stars : ℕ) (wants : Bool) (place : ℕ) (rest t after : List ℕ) (part : Part) → pieces 46 rest ≡ t ∷ pieces 46 after → Ok part ≡ read_part stars false t
    → fault_of (read_tokens stars wants (place + (length t + 1)) (pieces 46 after)) ≡ fault_of (read_tokens stars wants place (pieces 46 rest))
fault_step stars wants place rest t after part e o =
    sym (ap (λ r. fault_of r) (read_more stars wants place rest t after (Ok part) e o) ∙ fault_more place part (read_tokens stars wants (place + (length t + 1)) (pieces 46 after)))

pub fault_here : (stars : ℕ) (wants : Bool) (place : ℕ) (rest t after : List ℕ) (kind : TransformKind) → pieces 46 rest ≡ t ∷ pieces 46 after → Err kind ≡ read_part stars false t
    → Some (Bad place kind) ≡ fault_of (read_tokens stars wants place (pieces 46 rest))
fault_here stars wants place rest t after kind e o = sym (ap (λ r. fault_of r) (read_more stars wants place rest t after (Err kind) e o))

-- ---- the text

-- parts that are read are one or more
abbrev pub NotNone : Result (List Part) TransformFault → Type 0
NotNone (Err fault) = Unit {0}
NotNone (Ok []) = ⊥
NotNone (Ok (part ∷ parts)) = Unit {0}

then_some : (place : ℕ) (part : Result Part TransformKind) (others : Result (List Part) TransformFault) → NotNone (then_parts place part others)
then_some place (Err kind) others = tt
then_some place (Ok part) (Ok parts) = tt
then_some place (Ok part) (Err fault) = tt

read_some : (stars : ℕ) (wants : Bool) (place : ℕ) (ts : List (List ℕ)) → NotNone (read_tokens stars wants place ts)
read_some stars wants place [] = tt
read_some stars wants place (t ∷ []) = then_some place (read_last stars wants t (read_part stars true t)) (Ok [])
read_some stars wants place (t ∷ u ∷ ts) = then_some place (read_part stars false t) (read_tokens stars wants (place + (length t + 1)) (u ∷ ts))

text_more : (ps ts : List (List ℕ)) (place : ℕ) (part : Part) (others : Result (List Part) TransformFault) → NotNone others
    → text_of ps ts (then_parts place (Ok part) others) ≡ text_behind (value ps ts part ++ 46 ∷ []) (text_of ps ts others)
text_more ps ts place part (Err fault) n = refl
text_more ps ts place part (Ok []) n = absurd n
text_more ps ts place part (Ok (q ∷ qs)) n = ap (λ t. Some t) (sym (append_assoc (value ps ts part) (46 ∷ []) (join_with_byte 46 (map (value ps ts) (q ∷ qs)))))

then_place : (ps ts : List (List ℕ)) (a b : ℕ) (part : Result Part TransformKind) (others same : Result (List Part) TransformFault) → NotNone others → NotNone same → text_of ps ts others ≡ text_of ps ts same
    → text_of ps ts (then_parts a part others) ≡ text_of ps ts (then_parts b part same)
then_place ps ts a b (Err kind) others same n m e = refl
then_place ps ts a b (Ok part) others same n m e =
    text_more ps ts a part others n ∙ (ap (λ t. text_behind (value ps ts part ++ 46 ∷ []) t) e ∙ sym (text_more ps ts b part same m))

last_place : (ps ts : List (List ℕ)) (a b : ℕ) (part : Result Part TransformKind) → text_of ps ts (then_parts a part (Ok [])) ≡ text_of ps ts (then_parts b part (Ok []))
last_place ps ts a b (Err kind) = refl
last_place ps ts a b (Ok part) = refl

text_place : (ps ts : List (List ℕ)) (stars : ℕ) (wants : Bool) (a b : ℕ) (us : List (List ℕ)) → text_of ps ts (read_tokens stars wants a us) ≡ text_of ps ts (read_tokens stars wants b us)
text_place ps ts stars wants a b [] = refl
text_place ps ts stars wants a b (t ∷ []) = last_place ps ts a b (read_last stars wants t (read_part stars true t))
text_place ps ts stars wants a b (t ∷ u ∷ us) =
    let m = a + (length t + 1) in
    let n = b + (length t + 1) in
    then_place ps ts a b (read_part stars false t) (read_tokens stars wants m (u ∷ us)) (read_tokens stars wants n (u ∷ us)) (read_some stars wants m (u ∷ us)) (read_some stars wants n (u ∷ us)) (text_place ps ts stars wants m n (u ∷ us))

behind_both : (a b : List ℕ) (text : Option (List ℕ)) → text_behind a (text_behind b text) ≡ text_behind (a ++ b) text
behind_both a b None = refl
behind_both a b (Some t) = ap (λ x. Some x) (sym (append_assoc a b t))

pub behind_none : (text : Option (List ℕ)) → text_behind [] text ≡ text
behind_none None = refl
behind_none (Some t) = refl

pub text_step : (ps ts : List (List ℕ)) (stars : ℕ) (wants : Bool) (rest t after : List ℕ) (part : Part) (buf new : List ℕ) (whole : Option (List ℕ)) → pieces 46 rest ≡ t ∷ pieces 46 after → Ok part ≡ read_part stars false t
    → new ≡ (buf ++ value ps ts part) ++ 46 ∷ []
    → text_behind buf (text_of ps ts (read_tokens stars wants 0 (pieces 46 rest))) ≡ whole
    → text_behind new (text_of ps ts (read_tokens stars wants 0 (pieces 46 after))) ≡ whole
text_step ps ts stars wants rest t after part buf new whole e o n i =
    let place = 0 + (length t + 1) in
    let later = read_tokens stars wants place (pieces 46 after) in
    let v = value ps ts part in
    let one : text_of ps ts (read_tokens stars wants 0 (pieces 46 rest)) ≡ text_behind (v ++ 46 ∷ []) (text_of ps ts later) =
    ap (λ r. text_of ps ts r) (read_more stars wants 0 rest t after (Ok part) e o) ∙ text_more ps ts 0 part later (read_some stars wants place (pieces 46 after)) in
    ap (λ x. text_behind x (text_of ps ts (read_tokens stars wants 0 (pieces 46 after)))) (n ∙ append_assoc buf v (46 ∷ []))
    ∙ (ap (λ x. text_behind (buf ++ (v ++ 46 ∷ [])) x) (text_place ps ts stars wants 0 place (pieces 46 after))
    ∙ (sym (behind_both buf (v ++ 46 ∷ []) (text_of ps ts later))
    ∙ (ap (λ x. text_behind buf x) (sym one) ∙ i)))

pub text_none_here : (ps ts : List (List ℕ)) (stars : ℕ) (wants : Bool) (rest t after : List ℕ) (kind : TransformKind) (buf : List ℕ) (whole : Option (List ℕ)) → pieces 46 rest ≡ t ∷ pieces 46 after → Err kind ≡ read_part stars false t
    → text_behind buf (text_of ps ts (read_tokens stars wants 0 (pieces 46 rest))) ≡ whole → None ≡ whole
text_none_here ps ts stars wants rest t after kind buf whole e o i =
    sym (ap (λ r. text_behind buf (text_of ps ts r)) (read_more stars wants 0 rest t after (Err kind) e o)) ∙ i

pub text_none_last : (ps ts : List (List ℕ)) (stars : ℕ) (wants : Bool) (rest : List ℕ) (kind : TransformKind) (buf : List ℕ) (whole : Option (List ℕ)) → pieces 46 rest ≡ rest ∷ [] → Err kind ≡ read_last stars wants rest (read_part stars true rest)
    → text_behind buf (text_of ps ts (read_tokens stars wants 0 (pieces 46 rest))) ≡ whole → None ≡ whole
text_none_last ps ts stars wants rest kind buf whole e o i =
    sym (ap (λ r. text_behind buf (text_of ps ts r)) (read_ended stars wants 0 rest (Err kind) e o)) ∙ i

pub text_last : (ps ts : List (List ℕ)) (stars : ℕ) (wants : Bool) (rest : List ℕ) (part : Part) (buf new : List ℕ) (whole : Option (List ℕ)) → pieces 46 rest ≡ rest ∷ [] → Ok part ≡ read_last stars wants rest (read_part stars true rest)
    → new ≡ buf ++ value ps ts part
    → text_behind buf (text_of ps ts (read_tokens stars wants 0 (pieces 46 rest))) ≡ whole → Some new ≡ whole
text_last ps ts stars wants rest part buf new whole e o n i =
    ap (λ x. Some x) n ∙ (sym (ap (λ r. text_behind buf (text_of ps ts r)) (read_ended stars wants 0 rest (Ok part) e o)) ∙ i)
