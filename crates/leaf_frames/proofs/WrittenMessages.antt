-- The line of a message that is written is read again.
use Rattle.std.proofs.Common.{◌≡◌, ℕ, ◌<◌, ◌≤◌, ◌^◌, List, [], ◌∷◌, ◌++◌, length, Bool, true, false, ◌||◌, cond, nat_lt, Option, None, Some, refl, sym, ap, ◌∙◌, arith}
use Rattle.std.specs.Prelude.{codes, decimal, option_map, option_and_then}
use Rattle.std.specs.List.{list_all}
use Rattle.std.specs.Option.{option_map_or}
use Rattle.std.specs.Str.{bytes_eq}
use Rattle.std.proofs.lemmas.Bool.{cond-true, false≢true, and_from, ltb-false}
use Rattle.std.proofs.lemmas.Slice.Eq.{bytes_eq-Decides}
use Rattle.nats_text.specs.Numbers.{is_digit}
use Rattle.nats_text.specs.Text.{is_subject}
use Rattle.nats_frames.specs.declared.fault.FrameText.TheVariants.{ParserError, InvalidSubject}
use Rattle.nats_frames.specs.declared.stream.Said.{Said}
use Rattle.nats_frames.specs.declared.stream.Said.TheVariants.{Carries, Unfit}
use Rattle.nats_frames.specs.Fields.{size_of, is_short}
use Rattle.nats_frames.specs.Frames.{is_address}
use Rattle.nats_frames.specs.Kinds.{is_label}
use Rattle.nats_frames.specs.Stream.{sized}
use Rattle.nats_frames.specs.Texts.{worded}
use Rattle.nats_frames.proofs.Again.{Back, sized_back, one_size, two_sizes}
use Rattle.nats_frames.proofs.Decimals.{size_decimal, reads_decimal}
use Rattle.nats_frames.proofs.Parts.{is_field, fields_worded, no_feed_worded}
use Rattle.nats_frames.proofs.Sides.{subject_field, reply_field}
use Rattle.leaf_frames.specs.declared.address.Address.{Address}
use Rattle.leaf_frames.specs.declared.address.Form.{Form}
use Rattle.leaf_frames.specs.declared.address.Form.TheVariants.{Plain, WithReply, WithQueues}
use Rattle.leaf_frames.specs.declared.address.Sizes.{Sizes}
use Rattle.leaf_frames.specs.declared.frame.LeafFrame.{LeafFrame}
use Rattle.leaf_frames.specs.Frames.{most_payload, plus, bar, form_of, address_of, split_last, split_sizes, addressed, addressed_if, in_form, by_form, message, said_by, said}
use Rattle.leaf_frames.specs.Texts.{is_sign, queue_fields, reply_fields, behind_subject, address_fields}
use Rattle.leaf_frames.proofs.Fieldings.{labels_fields, labels_short, append_fields}
use Rattle.leaf_frames.proofs.Splits.{split_snoc, split_two}

-- ---- a number is no sign

differs : (a b : List ℕ) → (a ≡ b → ⊥) → bytes_eq a b ≡ false
differs a b apart =
    let P : Bool → Type 0 = λ t. bytes_eq a b ≡ t → t ≡ false in
    let go : (t : Bool) → P t = λ t. elim t as P [
      | true ↦ (λ e. absurd (apart ((bytes_eq-Decides a b).0 e)))
      | false ↦ (λ e. refl)
    ] in
    go (bytes_eq a b) refl

-- a field that is no sign is plain
no_sign_plain : (field : List ℕ) → is_sign field ≡ false → form_of field ≡ Plain
no_sign_plain field h =
    let P : Bool → Type 0 = λ t. (t || bytes_eq field bar) ≡ false → cond t WithReply (cond (bytes_eq field bar) WithQueues Plain) ≡ Plain in
    let Q : Bool → Type 0 = λ t. t ≡ false → cond t WithQueues Plain ≡ Plain in
    let inner : (t : Bool) → Q t = λ t. elim t as Q [ true ↦ (λ e. absurd (false≢true (sym e))) | false ↦ (λ e. refl) ] in
    let go : (t : Bool) → P t = λ t. elim t as P [ true ↦ (λ e. absurd (false≢true (sym e))) | false ↦ (λ e. inner (bytes_eq field bar) e) ] in
    go (bytes_eq field plus) h

digits_plain : (ds : List ℕ) → list_all is_digit ds ≡ true → form_of ds ≡ Plain
digits_plain ds h =
    let p : bytes_eq ds plus ≡ false = differs ds plus (λ e. false≢true (ap (list_all is_digit) (sym e) ∙ h)) in
    let b : bytes_eq ds bar ≡ false = differs ds bar (λ e. false≢true (ap (list_all is_digit) (sym e) ∙ h)) in
    no_sign_plain ds (λ i. p i || b i)

-- ---- an address and sizes

-- what stands behind the fields of an address: sizes, which are no signs
pub record AreSizes (headers : Bool) (first : List ℕ) (others : List (List ℕ)) (sizes : Sizes) : Type 0 where
  pub plain : form_of first ≡ Plain
  pub split : (fs : List (List ℕ)) → split_sizes headers (fs ++ first ∷ others) ≡ Some (fs, sizes)

found : (headers : Bool) (form : Form) (subject : List ℕ) (fs : List (List ℕ)) (z : List ℕ) (zs : List (List ℕ)) (sizes : Sizes) → AreSizes headers z zs sizes → in_form form subject (split_sizes headers (fs ++ z ∷ zs)) ≡ addressed_if (address_of form subject fs) sizes
found headers form subject fs z zs sizes s = ap (in_form form subject) (s.split fs)

with_queues : (headers : Bool) (subject : List ℕ) (queues : List (List ℕ)) (z : List ℕ) (zs : List (List ℕ)) (sizes : Sizes) → AreSizes headers z zs sizes → message headers ((subject ∷ queue_fields queues) ++ z ∷ zs) ≡ addressed (record { subject = subject; reply = None; queues = queues }) sizes
with_queues headers subject [] z zs sizes s =
    ap (λ form. by_form headers form subject z zs) s.plain ∙ found headers Plain subject [] z zs sizes s
with_queues headers subject (q ∷ qs) z zs sizes s = found headers WithQueues subject (q ∷ qs) z zs sizes s

alone_reply : (headers : Bool) (subject reply : List ℕ) (queues : List (List ℕ)) (z : List ℕ) (zs : List (List ℕ)) (sizes : Sizes) → AreSizes headers z zs sizes → is_sign reply ≡ false → nat_lt 0 (length queues) ≡ false → message headers ((subject ∷ reply ∷ []) ++ z ∷ zs) ≡ addressed (record { subject = subject; reply = Some reply; queues = queues }) sizes
alone_reply headers subject reply [] z zs sizes s plain none =
    ap (λ form. by_form headers form subject reply (z ∷ zs)) (no_sign_plain reply plain) ∙ found headers Plain subject (reply ∷ []) z zs sizes s
alone_reply headers subject reply (q ∷ qs) z zs sizes s plain none = let le : length (q ∷ qs) ≤ 0 = ltb-false 0 (length (q ∷ qs)) none in absurd (omega arith)

or_false : (a b : Bool) → (a || b) ≡ false → (a ≡ false) × (b ≡ false)
or_false true b h = absurd (false≢true (sym h))
or_false false b h = (refl, h)

with_reply : (headers : Bool) (subject reply : List ℕ) (queues : List (List ℕ)) (z : List ℕ) (zs : List (List ℕ)) (sizes : Sizes) → AreSizes headers z zs sizes → message headers ((subject ∷ reply_fields reply queues) ++ z ∷ zs) ≡ addressed (record { subject = subject; reply = Some reply; queues = queues }) sizes
with_reply headers subject reply queues z zs sizes s =
    let a : Address = record { subject = subject; reply = Some reply; queues = queues } in
    let some : Bool = nat_lt 0 (length queues) in
    let P : Bool → Type 0 = λ t. (is_sign reply || some) ≡ t → message headers ((subject ∷ cond t (plus ∷ reply ∷ queues) (reply ∷ [])) ++ z ∷ zs) ≡ addressed a sizes in
    let go : (t : Bool) → P t = λ t. elim t as P [
      | true ↦ (λ e. found headers WithReply subject (reply ∷ queues) z zs sizes s)
      | false ↦ (λ e. let n = or_false (is_sign reply) some e in alone_reply headers subject reply queues z zs sizes s n.0 n.1)
    ] in
    go (is_sign reply || some) refl

address_back : (headers : Bool) (subject : List ℕ) (reply : Option (List ℕ)) (queues : List (List ℕ)) (z : List ℕ) (zs : List (List ℕ)) (sizes : Sizes) → AreSizes headers z zs sizes → message headers (address_fields subject reply queues ++ z ∷ zs) ≡ addressed (record { subject = subject; reply = reply; queues = queues }) sizes
address_back headers subject None queues z zs sizes s = with_queues headers subject queues z zs sizes s
address_back headers subject (Some reply) queues z zs sizes s = with_reply headers subject reply queues z zs sizes s

-- ---- the sizes that are written

one_is : (n : ℕ) → n < 2 ^ 64 → AreSizes false (decimal n) [] (record { block = Some 0; size = size_of (decimal n) })
one_is n h = record {
  plain = digits_plain (decimal n) (reads_decimal n h).0;
  split = λ fs. ap (option_map (λ split. (split.0, record { block = Some 0; size = size_of split.1 }))) (split_snoc fs (decimal n));
}

two_are : (m n : ℕ) → m < 2 ^ 64 → AreSizes true (decimal m) (decimal n ∷ []) (record { block = size_of (decimal m); size = size_of (decimal n) })
two_are m n h = record {
  plain = digits_plain (decimal m) (reads_decimal m h).0;
  split = λ fs. ap (option_and_then (λ whole. option_map (λ split. (split.0, record { block = size_of split.1; size = size_of whole.1 })) (split_last whole.0))) (split_two fs (decimal m) (decimal n))
      ∙ ap (option_map (λ split. (split.0, record { block = size_of split.1; size = size_of (decimal n) }))) (split_snoc fs (decimal m));
}

-- ---- a line

-- an address that is one is taken, with its sizes
taken : (a : Address) (m n : ℕ) (sizes : Sizes) → is_address a.subject a.reply ≡ true → list_all is_label a.queues ≡ true → sizes.block ≡ Some m → sizes.size ≡ Some n → m ≤ n → n ≤ most_payload → addressed a sizes ≡ Carries a m n
taken a m n sizes g q be se within le =
    let whole : Said LeafFrame Address = sized a most_payload sizes.block sizes.size in
    cond-true (list_all is_short a.queues) (cond (is_address a.subject a.reply) whole (Unfit InvalidSubject)) (Unfit ParserError) (labels_short a.queues q)
    ∙ (cond-true (is_address a.subject a.reply) whole (Unfit InvalidSubject) g
    ∙ sized_back most_payload a a m n sizes.block sizes.size refl be se within le)

sign_fields : (queues : List (List ℕ)) → list_all is_field queues ≡ true → list_all is_field (queue_fields queues) ≡ true
sign_fields [] h = refl
sign_fields (q ∷ qs) h = and_from (is_field bar) (list_all is_field (q ∷ qs)) refl h

behind_fields : (reply : Option (List ℕ)) (queues : List (List ℕ)) → option_map_or is_field reply true ≡ true → list_all is_field queues ≡ true → list_all is_field (behind_subject reply queues) ≡ true
behind_fields None queues r h = sign_fields queues h
behind_fields (Some reply) queues r h =
    let P : Bool → Type 0 = λ t. list_all is_field (cond t (plus ∷ reply ∷ queues) (reply ∷ [])) ≡ true in
    let go : (t : Bool) → P t = λ t. elim t as P [
      | true ↦ and_from (is_field plus) (list_all is_field (reply ∷ queues)) refl (and_from (is_field reply) (list_all is_field queues) r h)
      | false ↦ and_from (is_field reply) true r refl
    ] in
    go (is_sign reply || nat_lt 0 (length queues))

-- an address whose fields are fields
pub are_fields : (subject : List ℕ) (reply : Option (List ℕ)) (queues : List (List ℕ)) → is_subject subject ≡ true → option_map_or is_subject reply true ≡ true → list_all is_label queues ≡ true → list_all is_field (address_fields subject reply queues) ≡ true
are_fields subject reply queues s r q =
    and_from (is_field subject) (list_all is_field (behind_subject reply queues)) (subject_field subject s) (behind_fields reply queues (reply_field reply r) (labels_fields queues q))

pub plain_back : (subject : List ℕ) (reply : Option (List ℕ)) (queues : List (List ℕ)) (n : ℕ) → is_subject subject ≡ true → option_map_or is_subject reply true ≡ true → list_all is_label queues ≡ true → n ≤ most_payload
    → Back said (worded (codes "LMSG") (address_fields subject reply queues ++ decimal n ∷ [])) (Carries (record { subject = subject; reply = reply; queues = queues }) 0 n)
plain_back subject reply queues n s r q le =
    let a : Address = record { subject = subject; reply = reply; queues = queues } in
    let fs : List (List ℕ) = address_fields subject reply queues ++ decimal n ∷ [] in
    let small : n < 2 ^ 64 = omega arith in
    let all : list_all is_field fs ≡ true = append_fields (address_fields subject reply queues) (decimal n ∷ []) (are_fields subject reply queues s r q) (one_size n small) in
    let size : size_of (decimal n) ≡ Some n = size_decimal n (omega arith) in
    let g : is_address subject reply ≡ true = and_from (is_subject subject) (option_map_or is_subject reply true) s r in
    record {
      free = no_feed_worded (codes "LMSG") fs refl all;
      says = ap (said_by (worded (codes "LMSG") fs)) (fields_worded (codes "LMSG") fs refl all)
          ∙ (address_back false subject reply queues (decimal n) [] (record { block = Some 0; size = size_of (decimal n) }) (one_is n small)
          ∙ taken a 0 n (record { block = Some 0; size = size_of (decimal n) }) g q refl size (omega arith) le);
    }

pub headers_back : (subject : List ℕ) (reply : Option (List ℕ)) (queues : List (List ℕ)) (m n : ℕ) → is_subject subject ≡ true → option_map_or is_subject reply true ≡ true → list_all is_label queues ≡ true → m ≤ n → n ≤ most_payload
    → Back said (worded (codes "HMSG") (address_fields subject reply queues ++ decimal m ∷ decimal n ∷ [])) (Carries (record { subject = subject; reply = reply; queues = queues }) m n)
headers_back subject reply queues m n s r q within le =
    let a : Address = record { subject = subject; reply = reply; queues = queues } in
    let fs : List (List ℕ) = address_fields subject reply queues ++ decimal m ∷ decimal n ∷ [] in
    let small : m < 2 ^ 64 = omega arith in
    let all : list_all is_field fs ≡ true = append_fields (address_fields subject reply queues) (decimal m ∷ decimal n ∷ []) (are_fields subject reply queues s r q) (two_sizes m n small (omega arith)) in
    let g : is_address subject reply ≡ true = and_from (is_subject subject) (option_map_or is_subject reply true) s r in
    let sizes : Sizes = record { block = size_of (decimal m); size = size_of (decimal n) } in
    record {
      free = no_feed_worded (codes "HMSG") fs refl all;
      says = ap (said_by (worded (codes "HMSG") fs)) (fields_worded (codes "HMSG") fs refl all)
          ∙ (address_back true subject reply queues (decimal m) (decimal n ∷ []) sizes (two_are m n small)
          ∙ taken a m n sizes g q (size_decimal m (omega arith)) (size_decimal n (omega arith)) within le);
    }
