-- What a feed gave is the front of the frames of its stream.
use Rattle.std.proofs.Common.{◌≡◌, ℕ, zero, suc, ◌+◌, ◌-◌, ◌^◌, ◌≤◌, List, [], ◌∷◌, ◌++◌, length, drop, min, Option, None, Some, Result, Ok, Err, refl, sym, ap, ◌∙◌, subst, arith, length-append, length-drop, append-nil, append_assoc}
use Rattle.nats_frames.specs.declared.fault.FrameText.{FrameText}
use Rattle.nats_frames.specs.declared.fault.FeedFault.{FeedFault}
use Rattle.nats_frames.specs.declared.fault.FeedFault.TheVariants.{Refused as IsRefused, NoMemory}
use Rattle.nats_frames.specs.declared.fault.Refused.{Refused}
use Rattle.nats_frames.specs.declared.stream.First.{First}
use Rattle.nats_frames.specs.declared.stream.First.TheVariants.{Frame, More, Refuse}
use Rattle.nats_frames.specs.Laws.{frames_from, frames_within, frames_by}
use Rattle.nats_frames.specs.Feeds.{Pending, nothing_yet, fed, refusal, next_told, next_left, Gives}
use Rattle.nats_frames.specs.Runs.{Event, Piece, Answer, stream_of, onto_given, given_of, Runs, Stands, FeedsStand, frames_left, FeedsGiveFront}
use Rattle.nats_frames.proofs.Takes.{AllWithin, AllStay, frames_are_within, refusals_stay, takes_stay, takes_next, taken_are_front}

abbrev pending_of : List ℕ → ℕ → Option Refused → Pending
pending_of rest taken refused = record { rest = rest; taken = taken; refused = refused }

-- ---- a piece

fed_stands : {F : Type 0} (first : List ℕ → First F) → AllWithin first → AllStay first → (stream piece : List ℕ) (given : List F) (rest : List ℕ) (taken : ℕ) (refused : Option Refused) → Stands first stream given (pending_of rest taken refused) → Stands first (stream ++ piece) given (fed (pending_of rest taken refused) piece)
fed_stands first within stay stream piece given rest taken None s =
    let n : length (stream ++ piece) - length (s.rest ++ piece) ≡ length stream - length s.rest = omega (arith, length-append stream piece, length-append s.rest piece, s.within) in
    record {
      rest = s.rest ++ piece;
      takes = takes_stay first within stay stream piece given s.rest s.takes;
      place = s.place ∙ ap (λ k. min k (2 ^ 64 - 1)) (sym n);
      within = omega (arith, length-append stream piece, length-append s.rest piece, s.within);
      held = ap (λ b. b ++ piece) s.held;
    }
fed_stands first within stay stream piece given rest taken (Some refused) s =
    let n : length (stream ++ piece) - length (s.rest ++ piece) ≡ length stream - length s.rest = omega (arith, length-append stream piece, length-append s.rest piece, s.within) in
    record {
      rest = s.rest ++ piece;
      takes = takes_stay first within stay stream piece given s.rest s.takes;
      place = s.place ∙ ap (λ k. min k (2 ^ 64 - 1)) (sym n);
      within = omega (arith, length-append stream piece, length-append s.rest piece, s.within);
      held = (refusals_stay first stay s.rest piece refused.text s.held.0, s.held.1);
    }

-- ---- an answer

capped : (n len m : ℕ) → min (min n m + len) m ≡ min (n + len) m
capped n len m = omega arith

no_more : {F : Type 0} (first : List ℕ → First F) (stream : List ℕ) (given : List F) (pending : Pending) → Stands first stream given pending → Stands first stream (given ++ []) pending
no_more {F} first stream given pending s = subst (λ (g : List F). Stands first stream g pending) (sym (append-nil given)) s

taken_stands : {F : Type 0} (first : List ℕ → First F) → AllWithin first → (stream : List ℕ) (given : List F) (rest : List ℕ) (taken : ℕ) (frame : F) (len : ℕ) → first rest ≡ Frame frame len → Stands first stream given (pending_of rest taken None) → Stands first stream (given ++ frame ∷ []) (pending_of (drop len rest) (min (taken + len) (2 ^ 64 - 1)) None)
taken_stands first within stream given rest taken frame len is s =
    let here : first s.rest ≡ Frame frame len = ap first (sym s.held) ∙ is in
    let w = frames_are_within first within s.rest frame len here in
    let le : len ≤ length s.rest = w.1 in
    let n : length stream - length s.rest + len ≡ length stream - length (drop len s.rest) = omega (arith, length-drop len s.rest, s.within, le) in
    record {
      rest = drop len s.rest;
      takes = takes_next first stream given s.rest frame len s.takes here;
      place = ap (λ k. min (k + len) (2 ^ 64 - 1)) s.place ∙ (capped (length stream - length s.rest) len (2 ^ 64 - 1) ∙ ap (λ k. min k (2 ^ 64 - 1)) n);
      within = omega (arith, length-drop len s.rest, s.within);
      held = ap (drop len) s.held;
    }

refused_stands : {F : Type 0} (first : List ℕ → First F) (stream : List ℕ) (given : List F) (rest : List ℕ) (taken : ℕ) (text : FrameText) → first rest ≡ Refuse text → Stands first stream given (pending_of rest taken None) → Stands first stream given (pending_of [] taken (Some (refusal (pending_of rest taken None) text)))
refused_stands first stream given rest taken text is s = record {
  rest = s.rest;
  takes = s.takes;
  place = s.place;
  within = s.within;
  held = (ap first (sym s.held) ∙ is, refl);
}

next_stands : {F : Type 0} (first : List ℕ → First F) → AllWithin first → (stream : List ℕ) (given : List F) (rest : List ℕ) (taken : ℕ) (refused : Option Refused) (f : First F) → first rest ≡ f → Stands first stream given (pending_of rest taken refused) → Stands first stream (given ++ onto_given (next_told (pending_of rest taken refused) refused f) []) (next_left (pending_of rest taken refused) refused f)
next_stands first within stream given rest taken None (Frame frame len) is s = taken_stands first within stream given rest taken frame len is s
next_stands first within stream given rest taken None (More wanted) is s = no_more first stream given (pending_of rest taken None) s
next_stands first within stream given rest taken None (Refuse text) is s =
    no_more first stream given (pending_of [] taken (Some (refusal (pending_of rest taken None) text))) (refused_stands first stream given rest taken text is s)
next_stands first within stream given rest taken (Some refused) f is s = no_more first stream given (pending_of rest taken (Some refused)) s

-- an answer that is what comes next
answered : {F : Type 0} (first : List ℕ → First F) → AllWithin first → (stream : List ℕ) (given : List F) (old new : Pending) (answer : Result (Option F) FeedFault) → answer ≡ next_told old old.refused (first old.rest) → new ≡ next_left old old.refused (first old.rest) → Stands first stream given old → Stands first stream (given ++ onto_given answer []) new
answered {F} first within stream given old new answer told left s =
    let next = next_stands first within stream given old.rest old.taken old.refused (first old.rest) refl s in
    let to_answer = subst (λ (a : Result (Option F) FeedFault). Stands first stream (given ++ onto_given a []) (next_left old old.refused (first old.rest))) (sym told) next in
    subst (λ (p : Pending). Stands first stream (given ++ onto_given answer []) p) (sym left) to_answer

gives_stands : {F : Type 0} (first : List ℕ → First F) → AllWithin first → (stream : List ℕ) (given : List F) (old new : Pending) (answer : Result (Option F) FeedFault) → Gives first old answer new → Stands first stream given old → Stands first stream (given ++ onto_given answer []) new
gives_stands first within stream given old new (Ok told) g s = answered first within stream given old new (Ok told) g.0 g.1 s
gives_stands first within stream given old new (Err (IsRefused refused)) g s = answered first within stream given old new (Err (IsRefused refused)) g.0 g.1 s
gives_stands first within stream given old new (Err NoMemory) g s =
    no_more first stream given new (subst (λ (p : Pending). Stands first stream given p) (sym g.0) s)

-- ---- all of it

onto_is_append : {F : Type 0} (answer : Result (Option F) FeedFault) (frames : List F) → onto_given answer frames ≡ onto_given answer [] ++ frames
onto_is_append (Ok None) frames = refl
onto_is_append (Ok (Some frame)) frames = refl
onto_is_append (Err fault) frames = refl

stands_on : {F : Type 0} (first : List ℕ → First F) → AllWithin first → AllStay first → (stream : List ℕ) (given : List F) (old : Pending) (events : List (Event F)) (new : Pending) → Stands first stream given old → Runs first old events new → Stands first (stream ++ stream_of events) (given ++ given_of events) new
stands_on {F} first within stay stream given old [] new s runs =
    let here : Stands first stream given new = subst (λ (p : Pending). Stands first stream given p) runs s in
    let nil : List ℕ = [] in
    let whole : Stands first (stream ++ nil) given new = subst (λ (b : List ℕ). Stands first b given new) (sym (append-nil stream)) here in
    no_more first (stream ++ nil) given new whole
stands_on {F} first within stay stream given old (Piece piece ∷ events) new s runs =
    let next = stands_on first within stay (stream ++ piece) given (fed old piece) events new (fed_stands first within stay stream piece given old.rest old.taken old.refused s) runs in
    subst (λ (b : List ℕ). Stands first b (given ++ given_of events) new) (append_assoc stream piece (stream_of events)) next
stands_on {F} first within stay stream given old (Answer answer ∷ events) new s runs =
    let one : List F = onto_given answer [] in
    let next = stands_on first within stay stream (given ++ one) runs.0 events new (gives_stands first within stream given old runs.0 answer runs.1 s) runs.2 in
    let e : given ++ one ++ given_of events ≡ given ++ onto_given answer (given_of events) = append_assoc given one (given_of events) ∙ ap (λ g. given ++ g) (sym (onto_is_append answer (given_of events))) in
    subst (λ (g : List F). Stands first (stream ++ stream_of events) g new) e next

pub feeds_stand : {F : Type 0} (first : List ℕ → First F) → AllWithin first → AllStay first → FeedsStand first
feeds_stand first within stay events new runs =
    stands_on first within stay [] [] nothing_yet events new (record { rest = []; takes = refl; place = refl; within = omega arith; held = refl }) runs

none_behind : {F : Type 0} (first : List ℕ → First F) (n : ℕ) (rest : List ℕ) (text : FrameText) → first rest ≡ Refuse text → frames_within first n rest ≡ []
none_behind first zero rest text is = refl
none_behind first (suc n) rest text is = ap (frames_from (frames_within first n) rest) is

left_are : {F : Type 0} (first : List ℕ → First F) (stream : List ℕ) (given : List F) (rest : List ℕ) (taken : ℕ) (refused : Option Refused) (s : Stands first stream given (pending_of rest taken refused)) → frames_by first s.rest ≡ frames_left first rest refused
left_are first stream given rest taken None s = ap (frames_by first) (sym s.held)
left_are first stream given rest taken (Some refused) s = none_behind first (length s.rest) s.rest refused.text s.held.0

pub feeds_give_front : {F : Type 0} (first : List ℕ → First F) → AllWithin first → AllStay first → FeedsGiveFront first
feeds_give_front first within stay events new runs =
    let s = feeds_stand first within stay events new runs in
    taken_are_front first within (stream_of events) (given_of events) s.rest s.takes
    ∙ ap (λ fs. given_of events ++ fs) (left_are first (stream_of events) (given_of events) new.rest new.taken new.refused s)
