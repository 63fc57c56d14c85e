-- A disk that is handed out, read and put back leaves the files as they were.
use Rattle.std.proofs.Common.{◌≡◌, ◌≢◌, true, false, ℕ, List, refl, sym, ◌∙◌, ap, subst, arith}
use Rattle.std.specs.Prelude.{Bool, Option, Some}
use Rattle.std.specs.Option.{option_map}
use Rattle.std.specs.Str.{bytes_eq}
use Rattle.std.proofs.lemmas.Slice.Eq.{bytes_eq-Decides}
use Rattle.std.specs.Cmp.Lexicographic.{same_text}
use Rattle.leaf_edges.specs.Files.{GoesOut, GoesBack, SameFiles}
use Rattle.leafd_cli.specs.Folders.{contents, KeepsFiles}

other_text : (a b : List ℕ) → bytes_eq a b ≡ false → a ≢ b
other_text a b e same = grind (arith, e, (bytes_eq-Decides a b).1 same)

module _ {F D : Type 0} (place : F → List ℕ → Option D) (is_out : F → List ℕ → Bool) (seen : D → List ℕ) where
  pub keeps_same : (f : F) → KeepsFiles place is_out seen f f
  keeps_same f = record { bytes = λ name. refl; outs = λ name. refl }

  pub keeps_on : (f g h : F) → KeepsFiles place is_out seen f g → KeepsFiles place is_out seen g h → KeepsFiles place is_out seen f h
  keeps_on f g h a b = record { bytes = λ name. b.bytes name ∙ a.bytes name; outs = λ name. b.outs name ∙ a.outs name }

  module _ (handed : F → List (List ℕ)) (text_of : F → List ℕ → Option (List ℕ)) where
    pub keeps_of_same : (f g : F) → SameFiles place is_out handed text_of f g → KeepsFiles place is_out seen f g
    keeps_of_same f g s = record { bytes = λ name. ap (option_map seen) (s.places name); outs = s.outs }

    -- the bytes that are read under a name which went out and came back
    bytes_back : (name other : List ℕ) (f g h k : F) (disk : D) (t : Bool) → bytes_eq other name ≡ t → contents place seen f name ≡ Some (seen disk) → GoesOut place is_out handed text_of name f g → KeepsFiles place is_out seen g h → GoesBack place is_out handed text_of name disk h k → contents place seen k other ≡ contents place seen f other
    bytes_back name other f g h k disk true e bytes out kept back =
        let same : other ≡ name = same_text other name (sym e) in
        ap (contents place seen k) same ∙ ap (option_map seen) back.here ∙ sym bytes ∙ ap (contents place seen f) (sym same)
    bytes_back name other f g h k disk false e bytes out kept back =
        let apart : other ≢ name = other_text other name e in
        ap (option_map seen) (back.other_places other apart) ∙ kept.bytes other ∙ ap (option_map seen) (out.other_places other apart)

    outs_back : (name other : List ℕ) (f g h k : F) (disk : D) (t : Bool) → bytes_eq other name ≡ t → is_out f name ≡ false → GoesOut place is_out handed text_of name f g → KeepsFiles place is_out seen g h → GoesBack place is_out handed text_of name disk h k → is_out k other ≡ is_out f other
    outs_back name other f g h k disk true e here out kept back =
        let same : other ≡ name = same_text other name (sym e) in
        ap (is_out k) same ∙ back.in_place ∙ sym here ∙ ap (is_out f) (sym same)
    outs_back name other f g h k disk false e here out kept back =
        let apart : other ≢ name = other_text other name e in
        back.other_outs other apart ∙ kept.outs other ∙ out.other_outs other apart

    -- a disk that went out, and came back with the same bytes, leaves the files as they were
    pub out_and_back : (name : List ℕ) (f g h k : F) (disk : D) → is_out f name ≡ false → contents place seen f name ≡ Some (seen disk) → GoesOut place is_out handed text_of name f g → KeepsFiles place is_out seen g h → GoesBack place is_out handed text_of name disk h k → KeepsFiles place is_out seen f k
    out_and_back name f g h k disk here bytes out kept back = record {
      bytes = λ other. bytes_back name other f g h k disk (bytes_eq other name) refl bytes out kept back;
      outs = λ other. outs_back name other f g h k disk (bytes_eq other name) refl here out kept back;
    }

    -- the same where the name is told twice
    pub main_kept : (out_name back_name : List ℕ) (f g h k : F) (disk : D) → back_name ≡ out_name → is_out f out_name ≡ false → contents place seen f out_name ≡ Some (seen disk) → GoesOut place is_out handed text_of out_name f g → KeepsFiles place is_out seen g h → GoesBack place is_out handed text_of back_name disk h k → KeepsFiles place is_out seen f k
    main_kept out_name back_name f g h k disk is here bytes out kept back = out_and_back out_name f g h k disk here bytes out kept (subst (λ (n : List ℕ). GoesBack place is_out handed text_of n disk h k) is back)
