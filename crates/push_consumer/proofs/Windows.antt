-- What is outstanding stays within the window and one message.
use Rattle.std.proofs.Common.{◌≡◌, ℕ, zero, suc, ◌+◌, ◌-◌, ◌<◌, ◌≤◌, false, cond, leb, List, [], ◌∷◌, ◌++◌, refl, sym, ap, ◌∙◌, arith}
use Rattle.std.proofs.lemmas.Bool.{leb-false}
use Rattle.std.proofs.lemmas.List.Sums.{sum_by-cons}
use Rattle.nats_text.specs.Sizes.{size}
use Rattle.stream_fold.specs.declared.entry.Numbered.{Numbered}
use Rattle.push_consumer.specs.Chains.{Sent, Sendings, StandsFor, WithinWindow, requests, after_token, bytes_of, bytes_before_last, bytes_since, with_row}
use Rattle.push_consumer.specs.Progress.{Progress, outstanding, is_spent}
use Rattle.push_consumer.proofs.Sending.{after-push, after-more, outstanding_sent}

bytes-cons : (s : Sent) (ss : List Sent) → bytes_of (s ∷ ss) ≡ s.bytes + bytes_of ss
bytes-cons s ss = sum_by-cons (λ (x : Sent). x.bytes) s ss

-- all but the last of a list with one more are the list
before-push : (ss : List Sent) (s : Sent) → bytes_before_last (ss ++ s ∷ []) ≡ bytes_of ss
before-push [] s = refl
before-push (t ∷ []) s = let q = bytes-cons t [] in omega arith
before-push (t ∷ u ∷ ss) s = let ih = before-push (u ∷ ss) s in let q = bytes-cons t (u ∷ ss) in omega arith

before-cons : (s : Sent) (ss : List Sent) → bytes_before_last ss ≤ bytes_before_last (s ∷ ss)
before-cons s [] = omega arith
before-cons s (t ∷ ss) = omega arith

-- what stands behind a token is no more
before-after : (k : ℕ) (ss : List Sent) → bytes_before_last (after_token k ss) ≤ bytes_before_last ss
before-after zero ss = omega arith
before-after (suc k) [] = omega arith
before-after (suc k) (s ∷ ss) = let ih = before-after (cond s.asks k (suc k)) ss in let q = before-cons s ss in omega arith

-- a row that is sent while the window isn't spent leaves it within the window
pub within_row : (q : Progress) (c : Sendings) (row : Numbered) → StandsFor q c → is_spent q ≡ false → WithinWindow (with_row c row)
within_row q c row h room =
    let few : outstanding q < 1048576 = leb-false 1048576 (outstanding q) room in
    let sent = outstanding_sent q c h in
    let one : Sent = record { seq = row.seq; bytes = size row.message; asks = leb 262144 (bytes_since 0 c.sent + size row.message) } in
    let behind = ap bytes_before_last (after-push c.answered c.sent one h.tokens) in
    let all = before-push (after_token c.answered c.sent) one in
    omega (arith, few, sent, behind, all)

-- an answer leaves it within the window
pub within_answer : (c : Sendings) (token : ℕ) → c.answered ≤ requests c.sent → c.answered ≤ token → WithinWindow c → WithinWindow (record { sent = c.sent; answered = token })
within_answer c token known le h =
    let sum : c.answered + (token - c.answered) ≡ token = omega arith in
    let behind = ap bytes_before_last (ap (λ t. after_token t c.sent) (sym sum) ∙ after-more c.answered (token - c.answered) c.sent known) in
    let less = before-after (token - c.answered) (after_token c.answered c.sent) in
    omega (arith, h, behind, less)
