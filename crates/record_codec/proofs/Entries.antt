-- Entries, by their kinds.
use Rattle.std.proofs.Common.{◌≡◌, ℕ, List, ◌++◌, Option, Ok, refl, ap, subst, ◌∙◌, append_assoc}
use Rattle.nats_text.specs.Headers.{written}
use Rattle.nats_text.specs.declared.message.Message.{Message}
use Rattle.stream_fold.specs.declared.entry.Entry.{Entry}
use Rattle.stream_fold.specs.declared.entry.Entry.TheVariants.{Put, Del, Purge, Expire, Bind, Limits}
use Rattle.stream_fold.specs.declared.entry.Mark.{Mark}
use Rattle.record_codec.specs.Spelling.{u32_text, u64_text, text_of, option_text, mark_text, put_text, kind_of, entry_text, IsPut, IsEntry}
use Rattle.record_codec.specs.Reading.{put_at, del_at, purge_at, expire_at, bind_at, limits_at, entry_at, AreBytes}
use Rattle.record_codec.proofs.Codecs.{ok_is, Takes, both, first}
use Rattle.record_codec.proofs.FieldCodecs.{u32_codec, u64_codec, text_codec, subject_codec, pattern_codec, headers_codec, option_codec}
use Rattle.record_codec.proofs.Parts.{mark_codec, config_codec}

-- an entry of a kind stands at the front
abbrev pub IsAtFront : ℕ → List ℕ → Entry × List ℕ → Type 0
IsAtFront kind bytes y = Takes bytes (entry_text y.0) y.1 × IsEntry y.0 × (kind_of y.0 ≡ kind)

pub put_takes : (bytes : List ℕ) (y : Entry × List ℕ) → AreBytes bytes → put_at bytes ≡ Ok y → IsAtFront 4 bytes y
unfolding put_at put_text entry_text
put_takes bytes y fits e =
    first u64_codec bytes _ y _ fits e λ seq r1 t1 i1 e1.
    first u64_codec r1 _ y _ t1.fits e1 λ time r2 t2 i2 e2.
    first (option_codec mark_codec) r2 _ y _ t2.fits e2 λ mark r3 t3 i3 e3.
    first subject_codec r3 _ y _ t3.fits e3 λ subject r4 t4 i4 e4.
    first headers_codec r4 _ y _ t4.fits e4 λ headers r5 t5 i5 e5.
    first text_codec r5 _ y _ t5.fits e5 λ payload r6 t6 i6 e6.
    subst (IsAtFront 4 bytes) (ok_is (Put seq (record { subject = subject; headers = headers; payload = payload; time = time }) mark, r6) y e6) (both (both (both (both (both t1 t2) t3) t4) t5) t6, record { number = i1; time = i2; source = i3; subject = i4; block = i5.0; headers = i5.1; payload = i6 }, refl)

put_again : (seq : ℕ) (message : Message) (mark : Option Mark) (rest : List ℕ) → IsPut seq message mark → put_at (put_text seq message mark ++ rest) ≡ Ok (Put seq message mark, rest)
unfolding put_at put_text
put_again seq message mark rest is =
    let f = text_of message.payload ++ rest in
    let d = text_of (written message.headers) ++ f in
    let c = text_of message.subject ++ d in
    let b = option_text mark_text mark ++ c in
    let a = u64_text message.time ++ b in
    let regrouped : put_text seq message mark ++ rest ≡ u64_text seq ++ a = simp append_assoc in
    ap put_at regrouped
    ∙ rw (
      u64_codec.again seq a is.number,
      u64_codec.again message.time b is.time,
      (option_codec mark_codec).again mark c is.source,
      subject_codec.again message.subject d is.subject,
      headers_codec.again message.headers f (is.block, is.headers),
      text_codec.again message.payload rest is.payload,
    ) refl

pub del_takes : (bytes : List ℕ) (y : Entry × List ℕ) → AreBytes bytes → del_at bytes ≡ Ok y → IsAtFront 5 bytes y
unfolding del_at entry_text
del_takes bytes y fits e =
    first u64_codec bytes _ y _ fits e λ seq r1 t1 i1 e1.
    subst (IsAtFront 5 bytes) (ok_is (Del seq, r1) y e1) (t1, i1, refl)

pub purge_takes : (bytes : List ℕ) (y : Entry × List ℕ) → AreBytes bytes → purge_at bytes ≡ Ok y → IsAtFront 6 bytes y
unfolding purge_at entry_text
purge_takes bytes y fits e =
    first pattern_codec bytes _ y _ fits e λ pattern r1 t1 i1 e1.
    first u64_codec r1 _ y _ t1.fits e1 λ below r2 t2 i2 e2.
    subst (IsAtFront 6 bytes) (ok_is (Purge pattern below, r2) y e2) (both t1 t2, (i1, i2), refl)

pub expire_takes : (bytes : List ℕ) (y : Entry × List ℕ) → AreBytes bytes → expire_at bytes ≡ Ok y → IsAtFront 7 bytes y
unfolding expire_at entry_text
expire_takes bytes y fits e =
    first u64_codec bytes _ y _ fits e λ now r1 t1 i1 e1.
    subst (IsAtFront 7 bytes) (ok_is (Expire now, r1) y e1) (t1, i1, refl)

pub bind_takes : (bytes : List ℕ) (y : Entry × List ℕ) → AreBytes bytes → bind_at bytes ≡ Ok y → IsAtFront 8 bytes y
unfolding bind_at entry_text
bind_takes bytes y fits e =
    first u32_codec bytes _ y _ fits e λ index r1 t1 i1 e1.
    first u64_codec r1 _ y _ t1.fits e1 λ incarnation r2 t2 i2 e2.
    first u64_codec r2 _ y _ t2.fits e2 λ start r3 t3 i3 e3.
    subst (IsAtFront 8 bytes) (ok_is (Bind index incarnation start, r3) y e3) (both (both t1 t2) t3, record { number = i1; creation = i2; first = i3 }, refl)

pub limits_takes : (bytes : List ℕ) (y : Entry × List ℕ) → AreBytes bytes → limits_at bytes ≡ Ok y → IsAtFront 9 bytes y
unfolding limits_at entry_text
limits_takes bytes y fits e =
    first config_codec bytes _ y _ fits e λ config r1 t1 i1 e1.
    subst (IsAtFront 9 bytes) (ok_is (Limits config, r1) y e1) (t1, i1, refl)

-- an entry that is written is read again
pub entry_again : (entry : Entry) (rest : List ℕ) → IsEntry entry → entry_at (kind_of entry) (entry_text entry ++ rest) ≡ Ok (entry, rest)
unfolding entry_text del_at purge_at expire_at bind_at limits_at
entry_again (Put seq message mark) rest is = put_again seq message mark rest is
entry_again (Del seq) rest is = rw (u64_codec.again seq rest is) refl
entry_again (Purge pattern below) rest is =
    ap purge_at (append_assoc (text_of pattern) (u64_text below) rest) ∙ rw (pattern_codec.again pattern (u64_text below ++ rest) is.0, u64_codec.again below rest is.1) refl
entry_again (Expire now) rest is = rw (u64_codec.again now rest is) refl
entry_again (Bind index incarnation start) rest is =
    let b = u64_text start ++ rest in
    let a = u64_text incarnation ++ b in
    let regrouped : (u32_text index ++ u64_text incarnation ++ u64_text start) ++ rest ≡ u32_text index ++ a = simp append_assoc in
    ap bind_at regrouped ∙ rw (u32_codec.again index a is.number, u64_codec.again incarnation b is.creation, u64_codec.again start rest is.first) refl
entry_again (Limits config) rest is = rw (config_codec.again config rest is) refl
