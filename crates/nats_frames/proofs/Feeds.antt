-- What a feed gives, and what it goes on to know of its rest.
use Rattle.std.proofs.Common.{◌≡◌, ℕ, ◌+◌, ◌<◌, List, [], ◌++◌, length, Bool, true, false, Option, None, Some, Result, Ok, Err, refl, sym, ap, ◌∙◌, subst, arith, length-append, append-nil}
use Rattle.std.specs.Prelude.{◌||◌, nat_lt, is_some, OnSome}
use Rattle.std.proofs.lemmas.Bool.{false≢true, lt-ltb}
use Rattle.std.proofs.lemmas.List.{take-append-le}
use Rattle.nats_frames.specs.declared.fault.FrameText.{FrameText}
use Rattle.nats_frames.specs.declared.fault.FeedFault.{FeedFault}
use Rattle.nats_frames.specs.declared.fault.FeedFault.TheVariants.{Refused as IsRefused}
use Rattle.nats_frames.specs.declared.fault.Refused.{Refused}
use Rattle.nats_frames.specs.declared.stream.First.{First}
use Rattle.nats_frames.specs.declared.stream.First.TheVariants.{Frame, More, Refuse}
use Rattle.nats_frames.specs.Lines.{has_no_feed}
use Rattle.nats_text.specs.Headers.{HeaderBlock}
use Rattle.nats_frames.specs.declared.stream.Said.{Said}
use Rattle.nats_frames.specs.Stream.{first_by}
use Rattle.nats_frames.specs.Feeds.{Pending, Stock, fed, refusal, told_of, next_told, left_of, next_left, Gives, is_more, Waits, wanted_of, IsWithin, IsLooked, IsAlone}
use Rattle.nats_frames.proofs.Streams.{Within, wish_waits, waits_on, waits_none, first_within}

-- ---- what comes next

more_told : {F : Type 0} (p : Pending) (f : First F) → is_more f ≡ true → (Ok None ≡ told_of p f) × (p ≡ left_of p f)
more_told p (Frame frame len) h = absurd (false≢true h)
more_told p (More wanted) h = (refl, refl)
more_told p (Refuse text) h = absurd (false≢true h)

-- the answer and what is left, where nothing was refused before
standing : {F : Type 0} (p : Pending) (refused : Option Refused) (f : First F) → refused ≡ None → (told_of p f ≡ next_told p refused f) × (left_of p f ≡ next_left p refused f)
standing p refused f h = (ap (λ r. next_told p r f) (sym h), ap (λ r. next_left p r f) (sym h))

pub gives_more : {F : Type 0} (first : List ℕ → First F) (p : Pending) → p.refused ≡ None → is_more (first p.rest) ≡ true → Gives first p (Ok None) p
gives_more first p none more =
    let t = more_told p (first p.rest) more in
    let s = standing p p.refused (first p.rest) none in
    (t.0 ∙ s.0, t.1 ∙ s.1)

pub gives_frame : {F : Type 0} (first : List ℕ → First F) (p : Pending) (frame : F) (len : ℕ) → p.refused ≡ None → first p.rest ≡ Frame frame len → Gives first p (Ok (Some frame)) (left_of p (Frame frame len))
gives_frame first p frame len none is =
    let s = standing p p.refused (first p.rest) none in
    (ap (told_of p) (sym is) ∙ s.0, ap (left_of p) (sym is) ∙ s.1)

pub gives_refusal : {F : Type 0} (first : List ℕ → First F) (p : Pending) (text : FrameText) → p.refused ≡ None → first p.rest ≡ Refuse text → Gives first p (Err (IsRefused (refusal p text))) (left_of {F = F} p (Refuse text))
gives_refusal {F} first p text none is =
    let s = standing p p.refused (first p.rest) none in
    (ap (told_of p) (sym is) ∙ s.0, ap (left_of p) (sym is) ∙ s.1)

pub gives_again : {F : Type 0} (first : List ℕ → First F) (p : Pending) (refused : Refused) → p.refused ≡ Some refused → Gives first p (Err (IsRefused refused)) p
gives_again first p refused is = (ap (λ r. next_told p r (first p.rest)) (sym is), ap (λ r. next_left p r (first p.rest)) (sym is))

-- ---- what is known of the rest

-- the wish for more bytes, of a rest that has too few
pub is_waiting : {F : Type 0} (first : List ℕ → First F) (rest : List ℕ) (wanted : ℕ) → Waits first rest wanted → length rest < wanted → is_more (first rest) ≡ true
is_waiting first rest wanted w short =
    let e : rest ++ [] ≡ rest = append-nil rest in
    ap (λ b. is_more (first b)) (sym e) ∙ w [] (let P : List ℕ → Type 0 = λ b. length b < wanted in subst P (sym e) short)

pub looked_nowhere : (rest : List ℕ) → IsLooked rest 0
looked_nowhere rest = record { within = omega arith; none = refl }

pub looked_on : (rest piece : List ℕ) (looked : ℕ) → IsLooked rest looked → IsLooked (rest ++ piece) looked
looked_on rest piece looked k = record {
  within = omega (arith, k.within, length-append rest piece);
  none = ap has_no_feed (take-append-le looked rest piece k.within) ∙ k.none;
}

-- ---- what is known of memory

-- a piece more
pub alone_on : (stock : Stock) (piece : List ℕ) (wanted : ℕ) (refused : Option Refused) → IsAlone stock wanted refused → IsAlone (record { bytes = stock.bytes ++ piece; held = stock.held + length piece }) wanted refused
alone_on stock piece wanted refused alone h = ap (λ n. n + length piece) (alone h) ∙ sym (length-append stock.bytes piece)

or_true : (b : Bool) → (b || true) ≡ true
or_true true = refl
or_true false = refl

-- a stream that is refused
pub alone_refused : (stock : Stock) (wanted : ℕ) (refused : Option Refused) → IsAlone stock wanted refused → OnSome refused (stock.held ≡ length stock.bytes)
alone_refused stock wanted None alone = tt
alone_refused stock wanted (Some refused) alone = alone (or_true (nat_lt 0 wanted))

-- a stream that waits
pub alone_waits : (stock : Stock) (wanted : ℕ) (refused : Option Refused) → IsAlone stock wanted refused → length stock.bytes < wanted → stock.held ≡ length stock.bytes
alone_waits stock wanted refused alone few = alone (ap (λ b. b || is_some refused) (lt-ltb 0 wanted (omega (arith, few))))

-- a stream that goes on with nothing to wait for
pub alone_free : (stock : Stock) (refused : Option Refused) → refused ≡ None → IsAlone stock 0 refused
alone_free stock refused none h = absurd (false≢true (sym (ap is_some none) ∙ h))

-- what was waited for is waited for when a piece comes, and when none is kept
pub fed_waits : {F : Type 0} (first : List ℕ → First F) (p : Pending) (piece : List ℕ) (wanted : ℕ) → Waits first p.rest wanted → Waits first (fed p piece).rest wanted
fed_waits {F} first p piece wanted w =
    let go : (refused : Option Refused) → Waits first (fed (record p { refused = refused }) piece).rest wanted = λ refused. elim refused as (λ r. Waits first (fed (record p { refused = r }) piece).rest wanted) [
      | None ↦ waits_on first p.rest piece wanted w
      | Some r ↦ w
    ] in
    go p.refused

-- ---- in the words of the answers

within_is : {F : Type 0} (n : ℕ) (f : First F) → Within n f → IsWithin n f
within_is n (Frame frame len) w = w
within_is n (More wanted) w = tt
within_is n (Refuse text) w = tt

-- what a stream begins with is within its bytes
pub front_within : {F E : Type 0} (most : ℕ) (said : List ℕ → Said F E) (framed : E → HeaderBlock → List ℕ → F) (rest : List ℕ) (f : First F) → f ≡ first_by most said framed rest → IsWithin (length rest) f
front_within {F} {E} most said framed rest f is =
    let P : First F → Type 0 = λ a. IsWithin (length rest) a in
    subst P (sym is) (within_is (length rest) (first_by most said framed rest) (first_within most said framed rest))

given : {F : Type 0} (first : List ℕ → First F) (p : Pending) (f : First F) → p.refused ≡ None → first p.rest ≡ f → Gives first p (told_of p f) (left_of p f)
given first p (Frame frame len) none is = gives_frame first p frame len none is
given first p (More wanted) none is = gives_more first p none (ap is_more is)
given first p (Refuse text) none is = gives_refusal first p text none is

-- what was told by the front is what comes next
pub gives_told : {F : Type 0} (first : List ℕ → First F) (p new : Pending) (f : First F) (answer : Result (Option F) FeedFault) → p.refused ≡ None → f ≡ first p.rest → answer ≡ told_of p f → new ≡ left_of p f → Gives first p answer new
gives_told {F} first p new f answer none is told left =
    let A : Result (Option F) FeedFault → Type 0 = λ a. Gives first p a (left_of p f) in
    let P : Pending → Type 0 = λ q. Gives first p answer q in
    subst P (sym left) (subst A (sym told) (given first p f none (sym is)))

waits_of : {F E : Type 0} (most : ℕ) (said : List ℕ → Said F E) (framed : E → HeaderBlock → List ℕ → F) (p : Pending) (f : First F) → first_by most said framed p.rest ≡ f → Waits (first_by most said framed) (left_of p f).rest (wanted_of f)
waits_of most said framed p (Frame frame len) is = waits_none (first_by most said framed) _
waits_of most said framed p (More wanted) is = wish_waits most said framed p.rest wanted is
waits_of most said framed p (Refuse text) is = waits_none (first_by most said framed) []

-- what is waited for once the front was told
pub told_waits : {F E : Type 0} (most : ℕ) (said : List ℕ → Said F E) (framed : E → HeaderBlock → List ℕ → F) (p new : Pending) (f : First F) (wanted : ℕ) → f ≡ first_by most said framed p.rest → new ≡ left_of p f → wanted ≡ wanted_of f → Waits (first_by most said framed) new.rest wanted
told_waits {F} {E} most said framed p new f wanted is left w =
    let W : ℕ → Type 0 = λ n. Waits (first_by most said framed) (left_of p f).rest n in
    let P : Pending → Type 0 = λ q. Waits (first_by most said framed) q.rest wanted in
    subst P (sym left) (subst W (sym w) (waits_of most said framed p f (sym is)))
