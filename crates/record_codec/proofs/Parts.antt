-- The parts of configurations.
use Rattle.std.proofs.Common.{◌≡◌, ℕ, zero, suc, List, [], ◌∷◌, ◌++◌, Ok, refl, ap, subst, ◌∙◌, append_assoc}
use Rattle.nats_text.specs.declared.message.Start.{Start}
use Rattle.nats_text.specs.declared.message.Start.TheVariants.{Seq, Time}
use Rattle.nats_text.specs.declared.origin.Mapping.{Mapping}
use Rattle.nats_text.specs.declared.origin.Origin.{Origin}
use Rattle.stream_fold.specs.declared.config.Config.{Config}
use Rattle.stream_fold.specs.declared.config.Copies.{Copies}
use Rattle.stream_fold.specs.declared.config.Copies.TheVariants.{Nothing, Mirror, Sources}
use Rattle.stream_fold.specs.declared.config.Discard.{Discard}
use Rattle.stream_fold.specs.declared.config.Discard.TheVariants.{Old, New}
use Rattle.stream_fold.specs.declared.entry.Mark.{Mark}
use Rattle.record_codec.specs.Spelling.{u32_text, u64_text, text_of, list_text, option_text, mapping_text, start_text, origin_text, discard_text, copies_text, config_text, mark_text, IsMapping, IsStart, IsOrigin, AreCopies, IsConfig, IsMark}
use Rattle.record_codec.specs.Reading.{mapping_at, start_at, origin_at, discard_at, copies_at, config_at, mark_at, AreBytes}
use Rattle.record_codec.proofs.Codecs.{AreBytes-rest, ok_is, Takes, IsCodec, both, behind, first}
use Rattle.record_codec.proofs.FieldCodecs.{u32_codec, u64_codec, text_codec, name_codec, pattern_codec, option_codec, list_codec}

mapping_takes : (bytes : List ℕ) (y : Mapping × List ℕ) → AreBytes bytes → mapping_at bytes ≡ Ok y → Takes bytes (mapping_text y.0) y.1 × IsMapping y.0
unfolding mapping_at mapping_text
mapping_takes bytes y fits e =
    first text_codec bytes _ y _ fits e λ src r1 t1 i1 e1.
    first text_codec r1 _ y _ t1.fits e1 λ dest r2 t2 i2 e2.
    let made : Mapping × List ℕ = (record { src = src; dest = dest }, r2) in
    subst (λ (p : Mapping × List ℕ). Takes bytes (mapping_text p.0) p.1 × IsMapping p.0) (ok_is made y e2) (both t1 t2, record { src = i1; dest = i2 })

mapping_again : (mapping : Mapping) (rest : List ℕ) → IsMapping mapping → mapping_at (mapping_text mapping ++ rest) ≡ Ok (mapping, rest)
unfolding mapping_at mapping_text
mapping_again mapping rest is =
    ap mapping_at (append_assoc (text_of mapping.src) (text_of mapping.dest) rest)
    ∙ rw (text_codec.again mapping.src (text_of mapping.dest ++ rest) is.src, text_codec.again mapping.dest rest is.dest) refl

pub mapping_codec : IsCodec mapping_text IsMapping mapping_at
mapping_codec = record { takes = mapping_takes; again = mapping_again }

mark_takes : (bytes : List ℕ) (y : Mark × List ℕ) → AreBytes bytes → mark_at bytes ≡ Ok y → Takes bytes (mark_text y.0) y.1 × IsMark y.0
unfolding mark_at mark_text
mark_takes bytes y fits e =
    first u32_codec bytes _ y _ fits e λ index r1 t1 i1 e1.
    first u64_codec r1 _ y _ t1.fits e1 λ seq r2 t2 i2 e2.
    let made : Mark × List ℕ = (record { index = index; seq = seq }, r2) in
    subst (λ (p : Mark × List ℕ). Takes bytes (mark_text p.0) p.1 × IsMark p.0) (ok_is made y e2) (both t1 t2, record { index = i1; seq = i2 })

mark_again : (mark : Mark) (rest : List ℕ) → IsMark mark → mark_at (mark_text mark ++ rest) ≡ Ok (mark, rest)
unfolding mark_at mark_text
mark_again mark rest is =
    ap mark_at (append_assoc (u32_text mark.index) (u64_text mark.seq) rest)
    ∙ rw (u32_codec.again mark.index (u64_text mark.seq ++ rest) is.index, u64_codec.again mark.seq rest is.seq) refl

pub mark_codec : IsCodec mark_text IsMark mark_at
mark_codec = record { takes = mark_takes; again = mark_again }

start_takes : (bytes : List ℕ) (y : Start × List ℕ) → AreBytes bytes → start_at bytes ≡ Ok y → Takes bytes (start_text y.0) y.1 × IsStart y.0
unfolding start_at start_text
start_takes [] y fits e = absurd cc
start_takes (zero ∷ bytes) y fits e =
    first u64_codec bytes _ y _ (AreBytes-rest 0 bytes fits) e λ x rest t is e.
    subst (λ (p : Start × List ℕ). Takes (0 ∷ bytes) (start_text p.0) p.1 × IsStart p.0) (ok_is (Seq x, rest) y e) (behind 0 t, is)
start_takes (suc zero ∷ bytes) y fits e =
    first u64_codec bytes _ y _ (AreBytes-rest 1 bytes fits) e λ x rest t is e.
    subst (λ (p : Start × List ℕ). Takes (1 ∷ bytes) (start_text p.0) p.1 × IsStart p.0) (ok_is (Time x, rest) y e) (behind 1 t, is)
start_takes (suc (suc b) ∷ bytes) y fits e = absurd cc

start_again : (start : Start) (rest : List ℕ) → IsStart start → start_at (start_text start ++ rest) ≡ Ok (start, rest)
unfolding start_at start_text
start_again (Seq n) rest is = rw (u64_codec.again n rest is) refl
start_again (Time moment) rest is = rw (u64_codec.again moment rest is) refl

pub start_codec : IsCodec start_text IsStart start_at
start_codec = record { takes = start_takes; again = start_again }

origin_takes : (bytes : List ℕ) (y : Origin × List ℕ) → AreBytes bytes → origin_at bytes ≡ Ok y → Takes bytes (origin_text y.0) y.1 × IsOrigin y.0
unfolding origin_at origin_text
origin_takes bytes y fits e =
    first (option_codec name_codec) bytes _ y _ fits e λ node r1 t1 i1 e1.
    first name_codec r1 _ y _ t1.fits e1 λ stream r2 t2 i2 e2.
    first start_codec r2 _ y _ t2.fits e2 λ start r3 t3 i3 e3.
    first (option_codec pattern_codec) r3 _ y _ t3.fits e3 λ filter r4 t4 i4 e4.
    first (list_codec mapping_codec) r4 _ y _ t4.fits e4 λ maps r5 t5 i5 e5.
    let made : Origin × List ℕ = (record { node = node; stream = stream; start = start; filter = filter; maps = maps }, r5) in
    subst (λ (p : Origin × List ℕ). Takes bytes (origin_text p.0) p.1 × IsOrigin p.0) (ok_is made y e5) (both (both (both (both t1 t2) t3) t4) t5, record { node = i1; stream = i2; start = i3; filter = i4; maps = i5 })

origin_again : (origin : Origin) (rest : List ℕ) → IsOrigin origin → origin_at (origin_text origin ++ rest) ≡ Ok (origin, rest)
unfolding origin_at origin_text
origin_again origin rest is =
    let last = list_text mapping_text origin.maps ++ rest in
    let fourth = option_text text_of origin.filter ++ last in
    let third = start_text origin.start ++ fourth in
    let second = text_of origin.stream ++ third in
    let regrouped : origin_text origin ++ rest ≡ option_text text_of origin.node ++ second = simp append_assoc in
    ap origin_at regrouped
    ∙ rw (
      (option_codec name_codec).again origin.node second is.node,
      name_codec.again origin.stream third is.stream,
      start_codec.again origin.start fourth is.start,
      (option_codec pattern_codec).again origin.filter last is.filter,
      (list_codec mapping_codec).again origin.maps rest is.maps,
    ) refl

pub origin_codec : IsCodec origin_text IsOrigin origin_at
origin_codec = record { takes = origin_takes; again = origin_again }

discard_takes : (bytes : List ℕ) (y : Discard × List ℕ) → AreBytes bytes → discard_at bytes ≡ Ok y → Takes bytes (discard_text y.0) y.1 × Unit {0}
unfolding discard_at discard_text
discard_takes [] y fits e = absurd cc
discard_takes (zero ∷ bytes) y fits e = subst (λ (p : Discard × List ℕ). Takes (0 ∷ bytes) (discard_text p.0) p.1 × Unit {0}) (ok_is (Old, bytes) y e) (record { parts = refl; fits = AreBytes-rest 0 bytes fits }, tt)
discard_takes (suc zero ∷ bytes) y fits e = subst (λ (p : Discard × List ℕ). Takes (1 ∷ bytes) (discard_text p.0) p.1 × Unit {0}) (ok_is (New, bytes) y e) (record { parts = refl; fits = AreBytes-rest 1 bytes fits }, tt)
discard_takes (suc (suc b) ∷ bytes) y fits e = absurd cc

discard_again : (discard : Discard) (rest : List ℕ) → Unit {0} → discard_at (discard_text discard ++ rest) ≡ Ok (discard, rest)
unfolding discard_at discard_text
discard_again Old rest is = refl
discard_again New rest is = refl

pub discard_codec : IsCodec discard_text (λ _. Unit {0}) discard_at
discard_codec = record { takes = discard_takes; again = discard_again }

copies_takes : (bytes : List ℕ) (y : Copies × List ℕ) → AreBytes bytes → copies_at bytes ≡ Ok y → Takes bytes (copies_text y.0) y.1 × AreCopies y.0
unfolding copies_at copies_text
copies_takes [] y fits e = absurd cc
copies_takes (zero ∷ bytes) y fits e = subst (λ (p : Copies × List ℕ). Takes (0 ∷ bytes) (copies_text p.0) p.1 × AreCopies p.0) (ok_is (Nothing, bytes) y e) (record { parts = refl; fits = AreBytes-rest 0 bytes fits }, tt)
copies_takes (suc zero ∷ bytes) y fits e =
    first origin_codec bytes _ y _ (AreBytes-rest 1 bytes fits) e λ x rest t is e.
    subst (λ (p : Copies × List ℕ). Takes (1 ∷ bytes) (copies_text p.0) p.1 × AreCopies p.0) (ok_is (Mirror x, rest) y e) (behind 1 t, is)
copies_takes (suc (suc zero) ∷ bytes) y fits e =
    first (list_codec origin_codec) bytes _ y _ (AreBytes-rest 2 bytes fits) e λ x rest t is e.
    subst (λ (p : Copies × List ℕ). Takes (2 ∷ bytes) (copies_text p.0) p.1 × AreCopies p.0) (ok_is (Sources x, rest) y e) (behind 2 t, is)
copies_takes (suc (suc (suc b)) ∷ bytes) y fits e = absurd cc

copies_again : (copies : Copies) (rest : List ℕ) → AreCopies copies → copies_at (copies_text copies ++ rest) ≡ Ok (copies, rest)
unfolding copies_at copies_text
copies_again Nothing rest is = refl
copies_again (Mirror origin) rest is = rw (origin_codec.again origin rest is) refl
copies_again (Sources origins) rest is = rw ((list_codec origin_codec).again origins rest is) refl

pub copies_codec : IsCodec copies_text AreCopies copies_at
copies_codec = record { takes = copies_takes; again = copies_again }

config_takes : (bytes : List ℕ) (y : Config × List ℕ) → AreBytes bytes → config_at bytes ≡ Ok y → Takes bytes (config_text y.0) y.1 × IsConfig y.0
unfolding config_at config_text
config_takes bytes y fits e =
    first name_codec bytes _ y _ fits e λ name r1 t1 i1 e1.
    first (list_codec pattern_codec) r1 _ y _ t1.fits e1 λ subjects r2 t2 i2 e2.
    first u64_codec r2 _ y _ t2.fits e2 λ max_msgs r3 t3 i3 e3.
    first u64_codec r3 _ y _ t3.fits e3 λ max_bytes r4 t4 i4 e4.
    first u64_codec r4 _ y _ t4.fits e4 λ max_age r5 t5 i5 e5.
    first u64_codec r5 _ y _ t5.fits e5 λ max_per_subject r6 t6 i6 e6.
    first u64_codec r6 _ y _ t6.fits e6 λ max_msg_size r7 t7 i7 e7.
    first discard_codec r7 _ y _ t7.fits e7 λ discard r8 t8 i8 e8.
    first u64_codec r8 _ y _ t8.fits e8 λ window r9 t9 i9 e9.
    first (option_codec mapping_codec) r9 _ y _ t9.fits e9 λ transform r10 t10 i10 e10.
    first copies_codec r10 _ y _ t10.fits e10 λ copies r11 t11 i11 e11.
    let made : Config × List ℕ = (record { name = name; subjects = subjects; max_msgs = max_msgs; max_bytes = max_bytes; max_age = max_age; max_per_subject = max_per_subject; max_msg_size = max_msg_size; discard = discard; window = window; transform = transform; copies = copies }, r11) in
    subst (λ (p : Config × List ℕ). Takes bytes (config_text p.0) p.1 × IsConfig p.0) (ok_is made y e11) (both (both (both (both (both (both (both (both (both (both t1 t2) t3) t4) t5) t6) t7) t8) t9) t10) t11, record { name = i1; subjects = i2; max_msgs = i3; max_bytes = i4; max_age = i5; max_per_subject = i6; max_msg_size = i7; window = i9; transform = i10; copies = i11 })

config_again : (config : Config) (rest : List ℕ) → IsConfig config → config_at (config_text config ++ rest) ≡ Ok (config, rest)
unfolding config_at config_text
config_again config rest is =
    let k = copies_text config.copies ++ rest in
    let j = option_text mapping_text config.transform ++ k in
    let i = u64_text config.window ++ j in
    let h = discard_text config.discard ++ i in
    let g = u64_text config.max_msg_size ++ h in
    let f = u64_text config.max_per_subject ++ g in
    let d = u64_text config.max_age ++ f in
    let c = u64_text config.max_bytes ++ d in
    let b = u64_text config.max_msgs ++ c in
    let a = list_text text_of config.subjects ++ b in
    let regrouped : config_text config ++ rest ≡ text_of config.name ++ a = simp append_assoc in
    ap config_at regrouped
    ∙ rw (
      name_codec.again config.name a is.name,
      (list_codec pattern_codec).again config.subjects b is.subjects,
      u64_codec.again config.max_msgs c is.max_msgs,
      u64_codec.again config.max_bytes d is.max_bytes,
      u64_codec.again config.max_age f is.max_age,
      u64_codec.again config.max_per_subject g is.max_per_subject,
      u64_codec.again config.max_msg_size h is.max_msg_size,
      discard_codec.again config.discard i tt,
      u64_codec.again config.window j is.window,
      (option_codec mapping_codec).again config.transform k is.transform,
      copies_codec.again config.copies rest is.copies,
    ) refl

pub config_codec : IsCodec config_text IsConfig config_at
config_codec = record { takes = config_takes; again = config_again }
