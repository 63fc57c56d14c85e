-- For which logs two disks stand as the area of one of them gets a body.
use Rattle.std.proofs.Common.{◌≡◌, ◌⊎◌, inl, inr, ⊎_elim, ℕ, ◌≤◌, true, false, List, [], ◌∷◌, ◌++◌, length, refl, sym, subst}
use Rattle.std.specs.Prelude.{Bool, Ok, if◌then◌else◌}
use Rattle.std.proofs.lemmas.List.{map-append}
use Rattle.gate_journal.specs.Areas.{max_area, AreaState, IsArea, Holds}
use Rattle.record_codec.specs.declared.records.Rec.{Rec}
use Rattle.record_codec.specs.Reading.{reading}
use Rattle.shard_machine.specs.Legal.{IsLogOf, MayFollow}
use Rattle.shard_machine.proofs.LogSteps.{all_follow-snoc}
use Rattle.record_log.specs.Stores.{is_passed, bodies_of}
use Rattle.record_log.specs.Standing.{StandIn, StandFor}
use Rattle.record_log.specs.Serving.{IsBehind}
use Rattle.record_log.proofs.Areas.{whole_of, held_whole, main_taken, spare_taken, stand_main, stand_spare, main_is, spare_is}

-- a log with one record more is that of one body more
pub log_of-push : (log : List Rec) (bodies : List (List ℕ)) (it : Rec) (body : List ℕ) → IsLogOf log bodies → reading body ≡ Ok it → MayFollow log it → IsLogOf (log ++ it ∷ []) (bodies ++ body ∷ [])
log_of-push log bodies it body is spells may = record {
  are = rw (map-append reading bodies (body ∷ []), map-append, is.are, spells) refl;
  legal = all_follow-snoc [] log it is.legal may;
}

-- where each of the logs becomes this one or stays, one of these is stood for afterwards
pub lifted : (a b a' b' : List ℕ) (l : List Rec) (logs : List (List Rec)) → ((k : List Rec) → StandIn k a b → StandIn l a' b' ⊎ StandIn k a' b') → StandFor a b logs → StandFor a' b' (l ∷ logs)
lifted a b a' b' l [] each stood = absurd stood
lifted a b a' b' l (k ∷ logs) each stood = ⊎_elim
    (λ (s : StandIn k a b). ⊎_elim inl (λ t. inr (inl t)) (each k s))
    (λ (rest : StandFor a b logs). ⊎_elim inl (λ t. inr (inr t)) (lifted a b a' b' l logs each rest))
    stood

-- the body of the area that is taken
kept_main : (p : Bool) (k l : List Rec) (bs bs' ys : List (List ℕ)) → IsLogOf k (if p then ys else bs) → (IsLogOf k bs → IsLogOf l bs') → IsLogOf l (if p then ys else bs') ⊎ IsLogOf k (if p then ys else bs')
kept_main true k l bs bs' ys s grows = inr s
kept_main false k l bs bs' ys s grows = inl (grows s)

kept_spare : (p : Bool) (k l : List Rec) (bs bs' xs : List (List ℕ)) → IsLogOf k (if p then bs else xs) → (IsLogOf k bs → IsLogOf l bs') → IsLogOf l (if p then bs' else xs) ⊎ IsLogOf k (if p then bs' else xs)
kept_spare true k l bs bs' xs s grows = inl (grows s)
kept_spare false k l bs bs' xs s grows = inr s

module _ (g : ℕ) (bs bs' : List (List ℕ)) (w : List Rec) (whole : IsLogOf w bs') where
  -- the main disk's area got other bodies
  pub main_grows : (a b a' : List ℕ) → IsArea true g bs a → IsArea true g bs' a' → length a' ≤ max_area → (k l : List Rec) → (IsLogOf k bs → IsLogOf l bs') → StandIn k a b → StandIn l a' b ⊎ StandIn k a' b
  main_grows a b a' was is short k l grows s =
      let y = s.holds.spare in
      let e = main_is k a b (whole_of g bs) s (held_whole g bs a was) in
      let before : IsLogOf k (bodies_of (whole_of g bs) y) = subst (λ (x : AreaState). IsLogOf k (bodies_of x y)) e s.holds.stands in
      let stand = λ (m : List Rec) (n : IsLogOf m (bodies_of (whole_of g bs') y)). stand_main m a' b (whole_of g bs') y (held_whole g bs' a' is) short s.holds.spare_holds s.short.1 (inl refl) (refl, w, whole) s.holds.spare_whole n in
      ⊎_elim (λ n. inl (stand l n)) (λ n. inr (stand k n)) (kept_main (is_passed (whole_of g bs) y) k l bs bs' y.bodies before grows)

  -- the spare's area got other bodies
  pub spare_grows : (a b b' : List ℕ) → IsArea true g bs b → IsArea true g bs' b' → length b' ≤ max_area → (k l : List Rec) → (IsLogOf k bs → IsLogOf l bs') → StandIn k a b → StandIn l a b' ⊎ StandIn k a b'
  spare_grows a b b' was is short k l grows s =
      let x = s.holds.main in
      let e = spare_is k a b (whole_of g bs) s (held_whole g bs b was) in
      let before : IsLogOf k (bodies_of x (whole_of g bs)) = subst (λ (y : AreaState). IsLogOf k (bodies_of x y)) e s.holds.stands in
      let stand = λ (m : List Rec) (n : IsLogOf m (bodies_of x (whole_of g bs'))). stand_spare m a b' x (whole_of g bs') s.holds.holds s.short.0 (held_whole g bs' b' is) short (inr refl) s.holds.whole (refl, w, whole) n in
      ⊎_elim (λ n. inl (stand l n)) (λ n. inr (stand k n)) (kept_spare (is_passed x (whole_of g bs)) k l bs bs' x.bodies before grows)

  -- and it is the one that is taken
  pub main_stands : (a b a' : List ℕ) (z : AreaState) → IsArea true g bs a → IsArea true g bs' a' → length a' ≤ max_area → Holds z b → IsBehind false g z → (k : List Rec) → StandIn k a b → StandIn w a' b
  main_stands a b a' z was is short other behind k s =
      let y = s.holds.spare in
      let behind' : IsBehind false g y = subst (IsBehind false g) (sym (spare_is k a b z s other)) behind in
      let taken : is_passed (whole_of g bs') y ≡ false = main_taken (whole_of g bs') y refl behind' in
      stand_main w a' b (whole_of g bs') y (held_whole g bs' a' is) short s.holds.spare_holds s.short.1 (inl refl) (refl, w, whole) s.holds.spare_whole
      (subst (λ (p : Bool). IsLogOf w (if p then y.bodies else bs')) (sym taken) whole)

  pub spare_stands : (a b b' : List ℕ) (z : AreaState) → IsArea true g bs b → IsArea true g bs' b' → length b' ≤ max_area → Holds z a → IsBehind true g z → (k : List Rec) → StandIn k a b → StandIn w a b'
  spare_stands a b b' z was is short other behind k s =
      let x = s.holds.main in
      let behind' : IsBehind true g x = subst (IsBehind true g) (sym (main_is k a b z s other)) behind in
      let taken : is_passed x (whole_of g bs') ≡ true = spare_taken x (whole_of g bs') refl behind' in
      stand_spare w a b' x (whole_of g bs') s.holds.holds s.short.0 (held_whole g bs' b' is) short (inr refl) s.holds.whole (refl, w, whole)
      (subst (λ (p : Bool). IsLogOf w (if p then bs' else x.bodies)) (sym taken) whole)

-- the log for which two disks stand is that of the bodies of the area that is taken
pub main_log : (g : ℕ) (bs : List (List ℕ)) (a b : List ℕ) (z : AreaState) → IsArea true g bs a → Holds z b → IsBehind false g z → (k : List Rec) → StandIn k a b → IsLogOf k bs
main_log g bs a b z is other behind k s =
    let e = main_is k a b (whole_of g bs) s (held_whole g bs a is) in
    let f = spare_is k a b z s other in
    let here : IsLogOf k (bodies_of (whole_of g bs) z) = subst (λ (y : AreaState). IsLogOf k (bodies_of (whole_of g bs) y)) f (subst (λ (x : AreaState). IsLogOf k (bodies_of x s.holds.spare)) e s.holds.stands) in
    subst (λ (p : Bool). IsLogOf k (if p then z.bodies else bs)) (main_taken (whole_of g bs) z refl behind) here

pub spare_log : (g : ℕ) (bs : List (List ℕ)) (a b : List ℕ) (z : AreaState) → IsArea true g bs b → Holds z a → IsBehind true g z → (k : List Rec) → StandIn k a b → IsLogOf k bs
spare_log g bs a b z is other behind k s =
    let e = spare_is k a b (whole_of g bs) s (held_whole g bs b is) in
    let f = main_is k a b z s other in
    let here : IsLogOf k (bodies_of z (whole_of g bs)) = subst (λ (x : AreaState). IsLogOf k (bodies_of x (whole_of g bs))) f (subst (λ (y : AreaState). IsLogOf k (bodies_of s.holds.main y)) e s.holds.stands) in
    subst (λ (p : Bool). IsLogOf k (if p then bs else z.bodies)) (spare_taken z (whole_of g bs) refl behind) here
