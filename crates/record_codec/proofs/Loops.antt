-- Reading items one after the other, as a loop does.
use Rattle.std.proofs.Common.{◌≡◌, ℕ, suc, ◌-◌, ◌+◌, ◌≤◌, ◌<◌, List, [], ◌∷◌, ◌++◌, Ok, Err, refl, sym, ap, ◌∙◌, append_assoc, arith}
use Rattle.std.proofs.lemmas.List.{append-nil}
use Rattle.record_codec.specs.declared.fault.Stop.{Stop}
use Rattle.record_codec.specs.declared.fault.Stop.TheVariants as stops
use Rattle.record_codec.specs.Reading.{Reading, ◌>>=◌, Fails, items_at}

-- what was read before, and what is still read
abbrev pub with_front : {A : Type 0} → List A → Reading (List A) → Reading (List A)
with_front front read = read >>= λ x. Ok (front ++ x.0, x.1)

regroup : {A : Type 0} (front : List A) (x : A) (read : Reading (List A)) → with_front front (read >>= λ others. Ok (x ∷ others.0, others.1)) ≡ with_front (front ++ x ∷ []) read
regroup {A} front x (Ok y) = ap (λ (xs : List A). Ok (xs, y.1)) (simp append_assoc)
regroup front x (Err left) = refl

pub goes_on : {A : Type 0} (at : List ℕ → Reading A) (front : List A) (count i : ℕ) (bytes : List ℕ) (x : A) (behind : List ℕ) (total : Reading (List A)) → i < count → at bytes ≡ Ok (x, behind)
    → with_front front (items_at at (count - i) bytes) ≡ total → with_front (front ++ x ∷ []) (items_at at (count - (i + 1)) behind) ≡ total
unfolding items_at
goes_on at front count i bytes x behind total lt h so_far =
    let k : count - i ≡ suc (count - (i + 1)) = omega arith in
    let one : with_front front (items_at at (count - i) bytes) ≡ with_front (front ++ x ∷ []) (items_at at (count - (i + 1)) behind) = rw (k, h) (regroup front x (items_at at (count - (i + 1)) behind)) in
    sym one ∙ so_far

pub ends : {A : Type 0} (at : List ℕ → Reading A) (e : Stop) (front : List A) (count i : ℕ) (bytes : List ℕ) (total : Reading (List A)) → i < count → Fails e (at bytes)
    → with_front front (items_at at (count - i) bytes) ≡ total → Fails e total
unfolding items_at
ends at stops.NoMemory front count i bytes total lt h so_far = tt
ends at (stops.Bad left) front count i bytes total lt h so_far =
    let k : count - i ≡ suc (count - (i + 1)) = omega arith in
    let one : with_front front (items_at at (count - i) bytes) ≡ Err left = rw (k, h) refl in
    sym so_far ∙ one

pub is_done : {A : Type 0} (at : List ℕ → Reading A) (front : List A) (count i : ℕ) (bytes : List ℕ) (total : Reading (List A)) → count ≤ i → with_front front (items_at at (count - i) bytes) ≡ total → total ≡ Ok (front, bytes)
unfolding items_at
is_done {A} at front count i bytes total le so_far =
    let k : count - i ≡ 0 = omega arith in
    let one : with_front front (items_at at (count - i) bytes) ≡ Ok (front, bytes) = rw k (ap (λ (xs : List A). Ok (xs, bytes)) (append-nil front)) in
    sym so_far ∙ one

-- an item that can't be read ends it too where no memory is taken
pub ends_bad : {A : Type 0} (at : List ℕ → Reading A) (left : ℕ) (front : List A) (count i : ℕ) (bytes : List ℕ) (total : Reading (List A)) → i < count → at bytes ≡ Err left → with_front front (items_at at (count - i) bytes) ≡ total → total ≡ Err left
ends_bad at left front count i bytes total lt h so_far = ends at (stops.Bad left) front count i bytes total lt h so_far

nothing_before : {A : Type 0} (read : Reading (List A)) → with_front [] read ≡ read
nothing_before (Ok x) = refl
nothing_before (Err left) = refl

-- before the first item
pub from_here : {A : Type 0} (at : List ℕ → Reading A) (count : ℕ) (bytes : List ℕ) → with_front [] (items_at at (count - 0) bytes) ≡ items_at at count bytes
from_here at count bytes =
    let k : count - 0 ≡ count = omega arith in
    ap (λ n. with_front [] (items_at at n bytes)) k ∙ nothing_before (items_at at count bytes)
