-- Whole records: what is read is spelled so, and what is spelled so is read.
use Rattle.std.proofs.Common.{◌≡◌, ◌<◌, ℕ, zero, suc, List, [], ◌∷◌, ◌++◌, length, Result, Ok, Err, refl, sym, ap, subst, ◌∙◌, append_assoc, arith}
use Rattle.std.specs.Prelude.{IfOk, OnOk}
use Rattle.std.proofs.lemmas.Bool.{ne_eqb, le-leb, lt-leb}
use Rattle.std.proofs.lemmas.List.{append-nil}
use Rattle.stream_fold.specs.declared.entry.Entry.{Entry}
use Rattle.stream_fold.specs.declared.entry.Entry.TheVariants.{Put, Del, Purge, Expire, Bind, Limits}
use Rattle.record_codec.specs.declared.fault.RecFault.{RecFault}
use Rattle.record_codec.specs.declared.records.Rec.{Rec}
use Rattle.record_codec.specs.declared.records.Rec.TheVariants.{Boot, Create, Remove, Of}
use Rattle.record_codec.specs.Spelling.{text_of, u64_text, config_text, kind_of, entry_text, spelling, IsSpeakable}
use Rattle.record_codec.specs.Reading.{◌>>=◌, Decodes, entry_at, boot_at, create_at, remove_at, of_at, fields_at, rec_at, at_end, at_place, reading, AreBytes}
use Rattle.record_codec.proofs.Codecs.{AreBytes-rest, bind_ok, ok_is, Takes, both, behind, first}
use Rattle.record_codec.proofs.FieldCodecs.{u64_codec, name_codec}
use Rattle.record_codec.proofs.Parts.{config_codec}
use Rattle.record_codec.proofs.Entries.{IsAtFront, put_takes, del_takes, purge_takes, expire_takes, bind_takes, limits_takes, entry_again}

-- a record stands at the front
abbrev IsWhole : List ℕ → Rec × List ℕ → Type 0
IsWhole bytes y = Takes bytes (spelling y.0) y.1 × IsSpeakable y.0

boot_takes : (bytes : List ℕ) (y : Rec × List ℕ) → AreBytes bytes → boot_at bytes ≡ Ok y → IsWhole (1 ∷ bytes) y
unfolding boot_at spelling
boot_takes bytes y fits e =
    first u64_codec bytes _ y _ fits e λ boot r1 t1 i1 e1.
    subst (IsWhole (1 ∷ bytes)) (ok_is (Boot boot, r1) y e1) (behind 1 (t1), i1)

create_takes : (bytes : List ℕ) (y : Rec × List ℕ) → AreBytes bytes → create_at bytes ≡ Ok y → IsWhole (2 ∷ bytes) y
unfolding create_at spelling
create_takes bytes y fits e =
    first u64_codec bytes _ y _ fits e λ time r1 t1 i1 e1.
    first config_codec r1 _ y _ t1.fits e1 λ config r2 t2 i2 e2.
    subst (IsWhole (2 ∷ bytes)) (ok_is (Create time config, r2) y e2) (behind 2 (both t1 t2), (i1, i2))

remove_takes : (bytes : List ℕ) (y : Rec × List ℕ) → AreBytes bytes → remove_at bytes ≡ Ok y → IsWhole (3 ∷ bytes) y
unfolding remove_at spelling
remove_takes bytes y fits e =
    first name_codec bytes _ y _ fits e λ name r1 t1 i1 e1.
    subst (IsWhole (3 ∷ bytes)) (ok_is (Remove name, r1) y e1) (behind 3 (t1), i1)

of_takes : (kind : ℕ) → ((bytes : List ℕ) (y : Entry × List ℕ) → AreBytes bytes → entry_at kind bytes ≡ Ok y → IsAtFront kind bytes y) → (bytes : List ℕ) (y : Rec × List ℕ) → AreBytes bytes → of_at kind bytes ≡ Ok y → IsWhole (kind ∷ bytes) y
unfolding of_at spelling
of_takes kind takes bytes y fits e =
    first name_codec bytes (λ name. entry_at kind name.1 >>= λ entry. Ok (Of name.0 entry.0, entry.1)) y _ fits e λ name rest t is e.
    let b = bind_ok (entry_at kind rest) (λ entry. Ok (Of name entry.0, entry.1)) y e in
    let entry = takes rest b.0 t.fits b.1 in
    let whole : Takes (kind ∷ bytes) (kind_of b.0.0 ∷ (text_of name ++ entry_text b.0.0)) b.0.1 = subst (λ (k : ℕ). Takes (kind ∷ bytes) (k ∷ (text_of name ++ entry_text b.0.0)) b.0.1) (sym entry.2) (behind kind (both t entry.0)) in
    subst (IsWhole (kind ∷ bytes)) (ok_is (Of name b.0.0, b.0.1) y b.2) (whole, (is, entry.1))

-- no record has a kind above 9
no_kind : (kind : ℕ) (rest : List ℕ) → 9 < kind → fields_at kind rest ≡ Err (suc (length rest))
no_kind kind rest above =
    rw (ne_eqb kind 1 (λ e. omega (arith, e, above)), ne_eqb kind 2 (λ e. omega (arith, e, above)), ne_eqb kind 3 (λ e. omega (arith, e, above)), le-leb 4 kind (omega (arith, above)), lt-leb kind 9 above) refl

is_stuck : {A : Type 0} (left : ℕ) (y : A) (read : Result A ℕ) → read ≡ Err left → read ≡ Ok y → ⊥
is_stuck left y read stuck e = absurd cc

rec_takes : (bytes : List ℕ) (y : Rec × List ℕ) → AreBytes bytes → rec_at bytes ≡ Ok y → IsWhole bytes y
unfolding rec_at
rec_takes [] y fits e = absurd cc
rec_takes (zero ∷ bytes) y fits e = absurd cc
rec_takes (suc zero ∷ bytes) y fits e = boot_takes bytes y (AreBytes-rest 1 bytes fits) e
rec_takes (suc (suc zero) ∷ bytes) y fits e = create_takes bytes y (AreBytes-rest 2 bytes fits) e
rec_takes (suc (suc (suc zero)) ∷ bytes) y fits e = remove_takes bytes y (AreBytes-rest 3 bytes fits) e
rec_takes (suc (suc (suc (suc zero))) ∷ bytes) y fits e = of_takes 4 put_takes bytes y (AreBytes-rest 4 bytes fits) e
rec_takes (suc (suc (suc (suc (suc zero)))) ∷ bytes) y fits e = of_takes 5 del_takes bytes y (AreBytes-rest 5 bytes fits) e
rec_takes (suc (suc (suc (suc (suc (suc zero))))) ∷ bytes) y fits e = of_takes 6 purge_takes bytes y (AreBytes-rest 6 bytes fits) e
rec_takes (suc (suc (suc (suc (suc (suc (suc zero)))))) ∷ bytes) y fits e = of_takes 7 expire_takes bytes y (AreBytes-rest 7 bytes fits) e
rec_takes (suc (suc (suc (suc (suc (suc (suc (suc zero))))))) ∷ bytes) y fits e = of_takes 8 bind_takes bytes y (AreBytes-rest 8 bytes fits) e
rec_takes (suc (suc (suc (suc (suc (suc (suc (suc (suc zero)))))))) ∷ bytes) y fits e = of_takes 9 limits_takes bytes y (AreBytes-rest 9 bytes fits) e
rec_takes (suc (suc (suc (suc (suc (suc (suc (suc (suc (suc b))))))))) ∷ bytes) y fits e =
    let kind : ℕ = suc (suc (suc (suc (suc (suc (suc (suc (suc (suc b))))))))) in
    absurd (is_stuck (suc (length bytes)) y (fields_at kind bytes) (no_kind kind bytes (omega arith)) e)

of_again : (name : List ℕ) (entry : Entry) (rest : List ℕ) → IsSpeakable (Of name entry) → of_at (kind_of entry) ((text_of name ++ entry_text entry) ++ rest) ≡ Ok (Of name entry, rest)
unfolding of_at
of_again name entry rest is =
    ap (of_at (kind_of entry)) (append_assoc (text_of name) (entry_text entry) rest) ∙ rw (name_codec.again name (entry_text entry ++ rest) is.0, entry_again entry rest is.1) refl

kinds : (entry : Entry) (bytes : List ℕ) → rec_at (kind_of entry ∷ bytes) ≡ of_at (kind_of entry) bytes
unfolding rec_at
kinds (Put seq message mark) bytes = refl
kinds (Del seq) bytes = refl
kinds (Purge pattern below) bytes = refl
kinds (Expire now) bytes = refl
kinds (Bind index incarnation start) bytes = refl
kinds (Limits config) bytes = refl

rec_again : (it : Rec) (rest : List ℕ) → IsSpeakable it → rec_at (spelling it ++ rest) ≡ Ok (it, rest)
unfolding rec_at spelling boot_at create_at remove_at
rec_again (Boot boot) rest is = rw (u64_codec.again boot rest is) refl
rec_again (Create time config) rest is =
    ap create_at (append_assoc (u64_text time) (config_text config) rest) ∙ rw (u64_codec.again time (config_text config ++ rest) is.0, config_codec.again config rest is.1) refl
rec_again (Remove name) rest is = rw (name_codec.again name rest is) refl
rec_again (Of name entry) rest is = kinds entry ((text_of name ++ entry_text entry) ++ rest) ∙ of_again name entry rest is

place_ok : {A : Type 0} (all : ℕ) (read : Result A ℕ) (x : A) → at_place all read ≡ Ok x → read ≡ Ok x
place_ok all (Ok y) x e = e
place_ok all (Err left) x e = absurd cc

end_ok : {A : Type 0} (y : A × List ℕ) (x : A) → at_end y ≡ Ok x → (y.0 ≡ x) × (y.1 ≡ [])
end_ok (z, []) x e = (ok_is z x e, refl)
end_ok (z, b ∷ rest) x e = absurd cc

-- what is read is spelled so
pub reading_is : (bytes : List ℕ) (it : Rec) → AreBytes bytes → reading bytes ≡ Ok it → IsSpeakable it × (bytes ≡ spelling it)
unfolding reading
reading_is bytes it fits e =
    let b = bind_ok (rec_at bytes) at_end it (place_ok (length bytes) (rec_at bytes >>= at_end) it e) in
    let end = end_ok b.0 it b.2 in
    let t = rec_takes bytes b.0 fits b.1 in
    subst (λ (x : Rec). IsSpeakable x × (bytes ≡ spelling x)) end.0 (t.1, t.0.parts ∙ ap (λ (r : List ℕ). spelling b.0.0 ++ r) end.1 ∙ append-nil (spelling b.0.0))

-- what is spelled so is read
pub reading_again : (it : Rec) → IsSpeakable it → reading (spelling it) ≡ Ok it
unfolding reading
reading_again it is =
    let whole : rec_at (spelling it) ≡ Ok (it, []) = ap rec_at (sym (append-nil (spelling it))) ∙ rec_again it [] is in
    rw whole refl

pub decoded_spelled : (bytes : List ℕ) (r : Result Rec RecFault) → AreBytes bytes → Decodes r (reading bytes) → IfOk r (λ it. bytes ≡ spelling it)
decoded_spelled bytes (Ok it) fits given = (reading_is bytes it fits given).1
decoded_spelled bytes (Err e) fits given = tt

pub decoded_speakable : (bytes : List ℕ) (r : Result Rec RecFault) → AreBytes bytes → Decodes r (reading bytes) → IfOk r (λ it. IsSpeakable it)
decoded_speakable bytes (Ok it) fits given = (reading_is bytes it fits given).0
decoded_speakable bytes (Err e) fits given = tt

pub encoded_again : {E : Type 0} (r : Result (Unit {0}) E) (it : Rec) → OnOk r (IsSpeakable it) → OnOk r (reading (spelling it) ≡ Ok it)
encoded_again (Ok u) it is = reading_again it is
encoded_again (Err e) it is = tt
