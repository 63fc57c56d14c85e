-- Frames that are taken one after another are the front of the frames of a stream.
use Rattle.std.proofs.Common.{◌≡◌, ℕ, zero, suc, ◌-◌, ◌<◌, ◌≤◌, List, [], ◌∷◌, ◌++◌, length, drop, refl, sym, ap, ◌∙◌, subst, arith, length-drop}
use Rattle.std.proofs.lemmas.List.{drop-append-le}
use Rattle.nats_frames.specs.declared.stream.First.{First}
use Rattle.nats_frames.specs.declared.stream.First.TheVariants.{Frame, More, Refuse}
use Rattle.nats_frames.specs.Laws.{frames_from, frames_within, frames_by, Takes, FramesAreWithin, FramesStay, RefusalsStay, WantsMore, WishesStay, TakesStay, TakesNext, TakenAreFront}
use Rattle.nats_frames.proofs.Streams.{Stays, Within}

-- what is known of each beginning
abbrev pub AllWithin : {F : Type 0} → (List ℕ → First F) → Type 0
AllWithin first = (bytes : List ℕ) → Within (length bytes) (first bytes)

abbrev pub AllStay : {F : Type 0} → (List ℕ → First F) → Type 0
AllStay first = (bytes more : List ℕ) → Stays (length (bytes ++ more)) (first bytes) (first (bytes ++ more))

pub frames_are_within : {F : Type 0} (first : List ℕ → First F) → AllWithin first → FramesAreWithin first
frames_are_within {F} first all bytes frame len h = let Q : First F → Type 0 = λ a. Within (length bytes) a in subst Q h (all bytes)

pub wants_more : {F : Type 0} (first : List ℕ → First F) → AllWithin first → WantsMore first
wants_more {F} first all bytes wanted h = let Q : First F → Type 0 = λ a. Within (length bytes) a in subst Q h (all bytes)

pub frames_stay : {F : Type 0} (first : List ℕ → First F) → AllStay first → FramesStay first
frames_stay {F} first all bytes behind frame len h =
    let Q : First F → Type 0 = λ a. Stays (length (bytes ++ behind)) a (first (bytes ++ behind)) in subst Q h (all bytes behind)

pub refusals_stay : {F : Type 0} (first : List ℕ → First F) → AllStay first → RefusalsStay first
refusals_stay {F} first all bytes behind refusal h =
    let Q : First F → Type 0 = λ a. Stays (length (bytes ++ behind)) a (first (bytes ++ behind)) in subst Q h (all bytes behind)

pub wishes_stay : {F : Type 0} (first : List ℕ → First F) → AllStay first → WishesStay first
wishes_stay {F} first all bytes behind wanted h short =
    let Q : First F → Type 0 = λ a. Stays (length (bytes ++ behind)) a (first (bytes ++ behind)) in subst Q h (all bytes behind) short

pub takes_stay : {F : Type 0} (first : List ℕ → First F) → AllWithin first → AllStay first → TakesStay first
takes_stay first within stay bytes behind [] rest h = ap (λ b. b ++ behind) h
takes_stay {F} first within stay bytes behind (frame ∷ others) rest h =
    let le : h.0 ≤ length bytes = (frames_are_within first within bytes frame h.0 h.1).1 in
    let Q : List ℕ → Type 0 = λ b. Takes first b others (rest ++ behind) in
    (h.0, frames_stay first stay bytes behind frame h.0 h.1, subst Q (sym (drop-append-le h.0 bytes behind le)) (takes_stay first within stay (drop h.0 bytes) behind others rest h.2))

pub takes_next : {F : Type 0} (first : List ℕ → First F) → TakesNext first
takes_next first bytes [] rest frame len h is = (len, ap first h ∙ is, ap (drop len) h)
takes_next first bytes (other ∷ others) rest frame len h is = (h.0, h.1, takes_next first (drop h.0 bytes) others rest frame len h.2 is)

-- ---- the frames of bytes don't depend on how many are allowed, once it is enough

none_from : {F : Type 0} (more : List ℕ → List F) (bytes : List ℕ) (a : First F) → length bytes ≤ 0 → Within (length bytes) a → frames_from more bytes a ≡ []
none_from more bytes (Frame frame len) none w = let some : 0 < len = w.0 in let le : len ≤ length bytes = w.1 in absurd (omega arith)
none_from more bytes (More wanted) none w = refl
none_from more bytes (Refuse text) none w = refl

same_from : {F : Type 0} (p q : List ℕ → List F) (bytes : List ℕ) (a : First F) → Within (length bytes) a → ((len : ℕ) → 0 < len → len ≤ length bytes → p (drop len bytes) ≡ q (drop len bytes)) → frames_from p bytes a ≡ frames_from q bytes a
same_from p q bytes (Frame frame len) w h = ap (λ fs. frame ∷ fs) (h len w.0 w.1)
same_from p q bytes (More wanted) w h = refl
same_from p q bytes (Refuse text) w h = refl

enough : {F : Type 0} (first : List ℕ → First F) → AllWithin first → (n m : ℕ) (bytes : List ℕ) → length bytes ≤ n → length bytes ≤ m → frames_within first n bytes ≡ frames_within first m bytes
enough first within zero zero bytes a b = refl
enough first within zero (suc m) bytes a b = sym (none_from (frames_within first m) bytes (first bytes) a (within bytes))
enough first within (suc n) zero bytes a b = none_from (frames_within first n) bytes (first bytes) b (within bytes)
enough first within (suc n) (suc m) bytes a b =
    same_from (frames_within first n) (frames_within first m) bytes (first bytes) (within bytes)
    (λ len some le. enough first within n m (drop len bytes) (omega (arith, length-drop len bytes)) (omega (arith, length-drop len bytes)))

one_frame : {F : Type 0} (first : List ℕ → First F) → AllWithin first → (bytes : List ℕ) (frame : F) (len : ℕ) → first bytes ≡ Frame frame len → frames_by first bytes ≡ frame ∷ frames_by first (drop len bytes)
one_frame first within bytes frame len h =
    let w = frames_are_within first within bytes frame len h in
    let some : 0 < len = w.0 in
    let le : len ≤ length bytes = w.1 in
    let j : ℕ = length bytes - 1 in
    let k : ℕ = length (drop len bytes) in
    enough first within (length bytes) (suc j) bytes (omega arith) (omega arith)
    ∙ (ap (frames_from (frames_within first j) bytes) h ∙ ap (λ fs. frame ∷ fs) (enough first within j k (drop len bytes) (omega (arith, length-drop len bytes)) (omega arith)))

pub taken_are_front : {F : Type 0} (first : List ℕ → First F) → AllWithin first → TakenAreFront first
taken_are_front first within bytes [] rest h = ap (frames_by first) h
taken_are_front first within bytes (frame ∷ others) rest h =
    one_frame first within bytes frame h.0 h.1 ∙ ap (λ fs. frame ∷ fs) (taken_are_front first within (drop h.0 bytes) others rest h.2)
