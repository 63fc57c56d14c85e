-- What stands behind a field that is gone over without memory.
use Rattle.std.proofs.Common.{◌≡◌, ℕ, Bool, true, false, List, length, Some, None, Result, Ok, Err, refl}
use Rattle.std.proofs.lemmas.Bool.{false≢true}
use Rattle.nats_text.specs.Headers.{HeaderBlock, read_block, is_written_as, is_written}
use Rattle.record_codec.specs.Reading.{text_at, legal_at, block_of, headers_at}

-- a text that is legal
pub legal_text : (legal : List ℕ → Bool) (bytes text rest : List ℕ) → text_at bytes ≡ Ok (text, rest) → legal text ≡ true → (x : List ℕ) × (legal_at legal bytes ≡ Ok (x, rest))
unfolding legal_at
legal_text legal bytes text rest read is = (text, rw (read, is) refl)

written_some : (text : List ℕ) (read : Result HeaderBlock ℕ) → is_written_as text read ≡ true → (block : HeaderBlock) × (block_of text read ≡ Some block)
written_some text (Ok block) is = (block, rw is refl)
written_some text (Err place) is = absurd (false≢true is)

written_none : (text : List ℕ) (read : Result HeaderBlock ℕ) → is_written_as text read ≡ false → block_of text read ≡ None
written_none text (Ok block) is = rw is refl
written_none text (Err place) is = refl

-- a header block that is as the writer makes it
pub written_block : (bytes text rest : List ℕ) → text_at bytes ≡ Ok (text, rest) → is_written text ≡ true → (block : HeaderBlock) × (headers_at bytes ≡ Ok (block, rest))
unfolding headers_at
written_block bytes text rest read is =
    let found = written_some text (read_block text) is in
    (found.0, rw (read, found.1) refl)

-- another one
pub other_block : (bytes text rest : List ℕ) → text_at bytes ≡ Ok (text, rest) → is_written text ≡ false → headers_at bytes ≡ Err (length bytes)
unfolding headers_at
other_block bytes text rest read is = rw (read, written_none text (read_block text) is) refl
