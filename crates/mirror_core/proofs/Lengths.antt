-- How long the spellings of entries and of their records are.
use Rattle.std.proofs.Common.{◌≡◌, ℕ, ◌+◌, ◌<◌, ◌≤◌, ◌^◌, List, ◌++◌, length, Option, None, Some, Result, Ok, Err, refl, ◌∙◌, arith}
use Rattle.std.specs.Prelude.{IsTrue, IfSome, IfOk}
use Rattle.std.proofs.lemmas.List.{length-append}
use Rattle.std.proofs.lemmas.Bool.{leb-true, and_parts}
use Rattle.nats_text.specs.Headers.{written}
use Rattle.nats_text.specs.Text.{is_name, is_subject}
use Rattle.nats_text.specs.declared.message.Message.{Message}
use Rattle.record_codec.specs.Spelling.{u32_text, u64_text, text_of, option_text, mark_text, put_text, entry_text, spelling, IsMark}
use Rattle.stream_fold.specs.declared.entry.Entry.{Entry}
use Rattle.stream_fold.specs.declared.entry.Entry.TheVariants.{Put, Bind}
use Rattle.stream_fold.specs.declared.decision.Decision.{Decision}
use Rattle.stream_fold.specs.declared.decision.Decision.TheVariants.{Store, Bind as BindIt, Rebind, Skip, Ignore, AskAgain, Reply, Heard, Refused, Stop}
use Rattle.stream_fold.specs.declared.entry.Mark.{Mark}
use Rattle.stream_fold.specs.Publishing.{content_size}
use Rattle.mirror_core.specs.Entries.{IfEntry, IsJournalled, IsShortEntry, IsLegalMessage}

length-u32 : (n : ℕ) → length (u32_text n) ≡ 4
unfolding u32_text
length-u32 n = refl

length-u64 : (n : ℕ) → length (u64_text n) ≡ 8
unfolding u64_text
length-u64 n = refl

length-text : (bytes : List ℕ) → length (text_of bytes) ≡ 4 + length bytes
unfolding text_of
length-text bytes = length-append (u32_text (length bytes)) bytes ∙ rw (length-u32 (length bytes)) refl

length-mark : (mark : Option Mark) → length (option_text mark_text mark) ≤ 13
unfolding option_text mark_text
length-mark None = omega arith
length-mark (Some mark) = omega (arith, length-append (u32_text mark.index) (u64_text mark.seq), length-u32 mark.index, length-u64 mark.seq)

length-name : (name : List ℕ) → IsTrue (is_name name) → length name ≤ 64
length-name name is = leb-true _ _ (and_parts _ _ (and_parts _ _ is).0).1

length-subject : (subject : List ℕ) → IsTrue (is_subject subject) → length subject ≤ 1024
length-subject subject is = leb-true _ _ (and_parts _ _ (and_parts _ _ is).0).0

length-put : (seq : ℕ) (m : Message) (mark : Option Mark) → length (put_text seq m mark) ≤ length m.subject + content_size m + 41
unfolding put_text
length-put seq m mark =
    let a = u64_text seq in
    let b = a ++ u64_text m.time in
    let c = b ++ option_text mark_text mark in
    let d = c ++ text_of m.subject in
    let e = d ++ text_of (written m.headers) in
    omega (
      arith,
      length-append e (text_of m.payload),
      length-append d (text_of (written m.headers)),
      length-append c (text_of m.subject),
      length-append b (option_text mark_text mark),
      length-append a (u64_text m.time),
      length-u64 seq,
      length-u64 m.time,
      length-mark mark,
      length-text m.subject,
      length-text (written m.headers),
      length-text m.payload,
    )

-- a message with its content in these bounds
pub short-put : (seq : ℕ) (m : Message) (mark : Option Mark) → seq < 2 ^ 64 → IfSome mark IsMark → IsLegalMessage m → content_size m ≤ 2090000 → IsShortEntry (Put seq m mark)
unfolding entry_text
short-put seq m mark number source legal size =
    let subject = length-subject m.subject legal.subject in
    record {
      speakable = record {
        number = number;
        time = legal.time;
        source = source;
        subject = (omega (arith, subject), legal.subject);
        block = omega (arith, size);
        headers = legal.again;
        payload = omega (arith, size);
      };
      short = omega (arith, length-put seq m mark, subject, size);
    }

pub short-bind : (index incarnation start : ℕ) → index < 2 ^ 32 → incarnation < 2 ^ 64 → start < 2 ^ 64 → IsShortEntry (Bind index incarnation start)
unfolding entry_text
short-bind index incarnation start a b c = record {
  speakable = record { number = a; creation = b; first = c };
  short = omega (
    arith,
    length-append (u32_text index ++ u64_text incarnation) (u64_text start),
    length-append (u32_text index) (u64_text incarnation),
    length-u32 index,
    length-u64 incarnation,
    length-u64 start,
  );
}

-- a short entry of a stream whose name is legal
journalled-entry : (name : List ℕ) → IsTrue (is_name name) → (entry : Entry) → IsShortEntry entry → IsJournalled name entry
unfolding spelling
journalled-entry name is entry short =
    let most = length-name name is in
    record {
      speakable = ((omega (arith, most), is), short.speakable);
      short = omega (arith, length-append (text_of name) (entry_text entry), length-text name, most, short.short);
    }

journalled-decision : (name : List ℕ) → IsTrue (is_name name) → (decision : Decision) → IfEntry IsShortEntry decision → IfEntry (IsJournalled name) decision
journalled-decision name is (Store entry) short = journalled-entry name is entry short
journalled-decision name is (BindIt entry) short = journalled-entry name is entry short
journalled-decision name is Rebind short = tt
journalled-decision name is Skip short = tt
journalled-decision name is (Ignore reason) short = tt
journalled-decision name is (AskAgain why) short = tt
journalled-decision name is Reply short = tt
journalled-decision name is Heard short = tt
journalled-decision name is Refused short = tt
journalled-decision name is (Stop kept seen) short = tt

pub journalled : {E : Type 0} (name : List ℕ) → IsTrue (is_name name) → (r : Result Decision E) → IfOk r (λ d. IfEntry IsShortEntry d) → IfOk r (λ d. IfEntry (IsJournalled name) d)
journalled name is (Ok decision) short = journalled-decision name is decision short
journalled name is (Err e) short = tt
