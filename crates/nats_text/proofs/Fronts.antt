-- Where a walk over a subject or a pattern may go on, and where it may not.
use Rattle.std.proofs.Common.{◌≡◌, ℕ, ◌+◌, ◌<◌, ◌≤◌, max, List, [], ◌∷◌, ◌++◌, length, Bool, true, false, ◌&&◌, if◌then◌else◌, nat_le, Option, Some, None, refl, sym, ap, ◌∙◌, subst, inl, inr, arith, eqb-true, append_assoc, append-nil, length-append, length-take, take, get_or, take_all, le-leb, leb-true, eq-eqb}
use Rattle.std.specs.Int.{is_in_range}
use Rattle.std.specs.Str.{is_utf8}
use Rattle.std.proofs.lemmas.Bool.{false≢true, and_parts, and_from, false_from_ne_true}
use Rattle.std.proofs.lemmas.Bool.Decides.{nat_tests}
use Rattle.std.proofs.lemmas.List.{take_more}
use Rattle.nats_text.specs.Text.{tokens}
use Rattle.nats_text.specs.Places.{Begins, IsBadPlace}
use Rattle.nats_text.specs.Scan.{is_text, token_after, token_need, wildcard_need, within, character_after, character_need, need, front_of, fitting, front_after}
use Rattle.nats_text.specs.declared.scan.Kind.{Kind}
use Rattle.nats_text.specs.declared.scan.Kind.TheVariants.{Subject, Pattern}
use Rattle.nats_text.specs.declared.scan.Token.{Token}
use Rattle.nats_text.specs.declared.scan.Token.TheVariants.{Empty, Star, Tail, Literal}
use Rattle.nats_text.specs.declared.scan.Character.{Character}
use Rattle.nats_text.specs.declared.scan.Character.TheVariants.{Whole, One, Two, Three, AfterE0, AfterEd, AfterF0, AfterF4}
use Rattle.nats_text.specs.declared.scan.Front.{Front}
use Rattle.nats_text.proofs.Accepts.{passes, accepts, need_le}
use Rattle.nats_text.proofs.Utf8Walks.{is_utf8-takes}
use Rattle.nats_text.proofs.TokenWalks.{good_tokens, good_tokens-takes}

abbrev spells : Character → List ℕ → Bool
spells = accepts character_after character_need

abbrev joins : Kind → Token → List ℕ → Bool
joins kind = accepts (token_after kind) (token_need kind)

-- the bytes led to this front: with more behind them they are a text where the front takes those
pub record Reads (kind : Kind) (bytes : List ℕ) (front : Front) : Type 0 where
  pub by_character : (rest : List ℕ) → is_utf8 (bytes ++ rest) ≡ spells front.character rest
  pub by_token : (rest : List ℕ) → good_tokens kind (tokens (bytes ++ rest)) ≡ joins kind front.token rest

abbrev pub start : Front
start = record { token = Empty; character = Whole }

pub reads_start : (kind : Kind) → Reads kind [] start
reads_start kind = record { by_character = is_utf8-takes; by_token = good_tokens-takes kind }

-- ---- what a text is
record IsText (kind : Kind) (bytes : List ℕ) : Type 0 where
  pub short : length bytes ≤ 1024
  pub utf8 : is_utf8 bytes ≡ true
  pub good : good_tokens kind (tokens bytes) ≡ true

is_text-is : (kind : Kind) (bytes : List ℕ) → is_text kind bytes ≡ (nat_le (length bytes) 1024 && is_utf8 bytes && good_tokens kind (tokens bytes))
is_text-is Subject bytes = refl
is_text-is Pattern bytes = refl

text-tells : (kind : Kind) (bytes : List ℕ) → is_text kind bytes ≡ true → IsText kind bytes
text-tells kind bytes e =
    let parts = and_parts (nat_le (length bytes) 1024 && is_utf8 bytes) (good_tokens kind (tokens bytes)) (sym (is_text-is kind bytes) ∙ e) in
    let first = and_parts (nat_le (length bytes) 1024) (is_utf8 bytes) parts.0 in
    record { short = leb-true (length bytes) 1024 first.0; utf8 = first.1; good = parts.1 }

text-from : (kind : Kind) (bytes : List ℕ) → IsText kind bytes → is_text kind bytes ≡ true
text-from kind bytes h =
    is_text-is kind bytes ∙ and_from (nat_le (length bytes) 1024 && is_utf8 bytes) (good_tokens kind (tokens bytes)) (and_from (nat_le (length bytes) 1024) (is_utf8 bytes) (le-leb (length bytes) 1024 h.short) h.utf8) h.good

-- ---- what a front needs
within-some : (least most : ℕ) (t : Character) (b : ℕ) (u : Character) → within least most t b ≡ Some u → u ≡ t
within-some least most t b u e = by (is_in_range least most b) e
  where
    by : (r : Bool) → (if r then Some t else None) ≡ Some u → u ≡ t
    by true e = cc
    by false e = cc

character_falls : (s : Character) (b : ℕ) (t : Character) → character_after s b ≡ Some t → character_need s ≤ character_need t + 1
character_falls Whole b t e = omega arith
character_falls One b t e = omega arith
character_falls Two b t e = omega (arith, ap character_need (within-some 128 191 One b t e))
character_falls Three b t e = omega (arith, ap character_need (within-some 128 191 Two b t e))
character_falls AfterE0 b t e = omega (arith, ap character_need (within-some 160 191 One b t e))
character_falls AfterEd b t e = omega (arith, ap character_need (within-some 128 159 One b t e))
character_falls AfterF0 b t e = omega (arith, ap character_need (within-some 144 191 Two b t e))
character_falls AfterF4 b t e = omega (arith, ap character_need (within-some 128 143 Two b t e))

wildcard_need_le : (kind : Kind) → wildcard_need kind ≤ 1
wildcard_need_le Subject = omega arith
wildcard_need_le Pattern = omega arith

token_need_le : (kind : Kind) (t : Token) → token_need kind t ≤ 1
token_need_le kind Empty = omega arith
token_need_le kind Star = wildcard_need_le kind
token_need_le kind Tail = wildcard_need_le kind
token_need_le kind Literal = omega arith

token_falls : (kind : Kind) (s : Token) (b : ℕ) (t : Token) → token_after kind s b ≡ Some t → token_need kind s ≤ token_need kind t + 1
token_falls kind s b t e = omega (arith, token_need_le kind s)

pub need_of_text : (kind : Kind) (bytes : List ℕ) (front : Front) (rest : List ℕ) → Reads kind bytes front → is_text kind (bytes ++ rest) ≡ true → length bytes + need kind front ≤ 1024
need_of_text kind bytes front rest reads e =
    let text = text-tells kind (bytes ++ rest) e in
    let characters : character_need front.character ≤ length rest = need_le character_after character_need character_falls front.character rest (sym (reads.by_character rest) ∙ text.utf8) in
    let token : token_need kind front.token ≤ length rest = need_le (token_after kind) (token_need kind) (token_falls kind) front.token rest (sym (reads.by_token rest) ∙ text.good) in
    omega (arith, text.short, length-append bytes rest)

-- ---- one step
pub record Steps (kind : Kind) (front : Front) (b : ℕ) (next : Front) : Type 0 where
  pub token : token_after kind front.token b ≡ Some next.token
  pub character : character_after front.character b ≡ Some next.character

pub reads_step : (kind : Kind) (bytes : List ℕ) (front : Front) (b : ℕ) (next : Front) → Reads kind bytes front → Steps kind front b next → Reads kind (bytes ++ b ∷ []) next
reads_step kind bytes front b next reads steps = record {
  by_character = λ rest. rw append_assoc (reads.by_character (b ∷ rest) ∙ ap (λ r. passes r (λ t. spells t rest)) steps.character);
  by_token = λ rest. rw append_assoc (reads.by_token (b ∷ rest) ∙ ap (λ r. passes r (λ t. joins kind t rest)) steps.token);
}

-- a text steps over each of its bytes
record StepsOver (kind : Kind) (front : Front) (b : ℕ) : Type 0 where
  pub next : Front
  pub steps : Steps kind front b next

-- the walk takes bytes behind this step
some_step : {S : Type 0} (step : Option S) (f : S → Bool) → passes step f ≡ true → (s : S) × (step ≡ Some s)
some_step None f e = absurd (false≢true e)
some_step (Some s) f e = (s, refl)

text_steps : (kind : Kind) (bytes : List ℕ) (front : Front) (b : ℕ) (rest : List ℕ) → Reads kind bytes front → is_text kind (bytes ++ b ∷ rest) ≡ true → StepsOver kind front b
text_steps kind bytes front b rest reads e =
    let text = text-tells kind (bytes ++ b ∷ rest) e in
    let token = some_step (token_after kind front.token b) (λ t. joins kind t rest) (sym (reads.by_token (b ∷ rest)) ∙ text.good) in
    let character = some_step (character_after front.character b) (λ t. spells t rest) (sym (reads.by_character (b ∷ rest)) ∙ text.utf8) in
    record { next = record { token = token.0; character = character.0 }; steps = record { token = token.1; character = character.1 } }

-- what the step of the code gives
pub record FitStep (kind : Kind) (n : ℕ) (front : Front) (b : ℕ) (next : Front) : Type 0 where
  pub steps : Steps kind front b next
  pub short : n + 1 + need kind next ≤ 1024

fits-at : (kind : Kind) (n : ℕ) (front : Front) (b : ℕ) (next : Front) (t : Option Token) (c : Option Character) → token_after kind front.token b ≡ t → character_after front.character b ≡ c → fitting kind (n + 1) (front_of t c) ≡ Some next → FitStep kind n front b next
fits-at kind n front b next None c p q e = cc
fits-at kind n front b next (Some t) None p q e = cc
fits-at kind n front b next (Some t) (Some c) p q e = by (nat_le (n + 1 + need kind made) 1024) refl e
  where
    made : Front
    made = record { token = t; character = c }

    by : (r : Bool) → nat_le (n + 1 + need kind made) 1024 ≡ r → (if r then Some made else None) ≡ Some next → FitStep kind n front b next
    by true short e =
        let same : made ≡ next = cc in
        let P : Front → Type 0 = λ f. FitStep kind n front b f in
        subst P same (record { steps = record { token = p; character = q }; short = leb-true (n + 1 + need kind made) 1024 short })
    by false short e = cc

pub step_fits : (kind : Kind) (n : ℕ) (front : Front) (b : ℕ) (next : Front) → Some next ≡ front_after kind n front b → FitStep kind n front b next
step_fits kind n front b next e = fits-at kind n front b next _ _ refl refl (sym e)

-- a text begins with these bytes and one more, so the step is there
stuck : (kind : Kind) (bytes : List ℕ) (front : Front) (n b : ℕ) → Reads kind bytes front → length bytes ≡ n → None ≡ front_after kind n front b → Begins (is_text kind) (bytes ++ b ∷ []) → ⊥
stuck kind bytes front n b reads e none more =
    let over = text_steps kind bytes front b more.0 reads (rw append_assoc at more.1) in
    let next = over.next in
    let needed = need_of_text kind (bytes ++ b ∷ []) next more.0 (reads_step kind bytes front b next reads over.steps) more.1 in
    let short : n + 1 + need kind next ≤ 1024 = omega (arith, needed, length-append bytes (b ∷ [])) in
    let fits : (if nat_le (n + 1 + need kind next) 1024 then Some next else None) ≡ None = rw (over.steps.token, over.steps.character) at (sym none) in
    let made : Some next ≡ None = rw (le-leb (n + 1 + need kind next) 1024 short) at fits in
    cc

-- ---- what is behind a front
record Completes (kind : Kind) (t : Token) (c : Character) : Type 0 where
  pub bytes : List ℕ
  pub by_character : spells c bytes ≡ true
  pub by_token : joins kind t bytes ≡ true
  pub short : length bytes ≤ max (token_need kind t) (character_need c)

high_step : (kind : Kind) (t : Token) (b : ℕ) → 128 ≤ b → token_after kind t b ≡ Some Literal
high_step kind Empty b h = grind (arith, nat_tests)
high_step kind Star b h = grind (arith, nat_tests)
high_step kind Tail b h = grind (arith, nat_tests)
high_step kind Literal b h = grind (arith, nat_tests)

-- the bytes that a character needs end a token as well
with_high : (kind : Kind) (t : Token) (c : Character) (b : ℕ) (bs : List ℕ) → 128 ≤ b → spells c (b ∷ bs) ≡ true → joins kind Literal bs ≡ true → length (b ∷ bs) ≤ character_need c → Completes kind t c
with_high kind t c b bs h spelled joined short = record {
  bytes = b ∷ bs;
  by_character = spelled;
  by_token = ap (λ r. passes r (λ u. joins kind u bs)) (high_step kind t b h) ∙ joined;
  short = omega arith;
}

-- an `a` ends a token that needs a byte
with_letter : (kind : Kind) (t : Token) → joins kind t (97 ∷ []) ≡ true → 1 ≤ token_need kind t → Completes kind t Whole
with_letter kind t joined needed = record { bytes = 97 ∷ []; by_character = refl; by_token = joined; short = omega arith }

with_none : (kind : Kind) (t : Token) → joins kind t [] ≡ true → Completes kind t Whole
with_none kind t joined = record { bytes = []; by_character = refl; by_token = joined; short = omega arith }

completes_token : (kind : Kind) (t : Token) → Completes kind t Whole
completes_token kind Empty = with_letter kind Empty refl (omega arith)
completes_token Subject Star = with_letter Subject Star refl (omega arith)
completes_token Subject Tail = with_letter Subject Tail refl (omega arith)
completes_token Pattern Star = with_none Pattern Star refl
completes_token Pattern Tail = with_none Pattern Tail refl
completes_token kind Literal = with_none kind Literal refl

completes : (kind : Kind) (t : Token) (c : Character) → Completes kind t c
completes kind t Whole = completes_token kind t
completes kind t One = with_high kind t One 128 [] (omega arith) refl refl (omega arith)
completes kind t Two = with_high kind t Two 128 (128 ∷ []) (omega arith) refl refl (omega arith)
completes kind t Three = with_high kind t Three 128 (128 ∷ 128 ∷ []) (omega arith) refl refl (omega arith)
completes kind t AfterE0 = with_high kind t AfterE0 160 (128 ∷ []) (omega arith) refl refl (omega arith)
completes kind t AfterEd = with_high kind t AfterEd 128 (128 ∷ []) (omega arith) refl refl (omega arith)
completes kind t AfterF0 = with_high kind t AfterF0 144 (128 ∷ 128 ∷ []) (omega arith) refl refl (omega arith)
completes kind t AfterF4 = with_high kind t AfterF4 128 (128 ∷ 128 ∷ []) (omega arith) refl refl (omega arith)

-- a text begins with the bytes that led to a front which it has the room for
alive : (kind : Kind) (bytes : List ℕ) (front : Front) → Reads kind bytes front → length bytes + need kind front ≤ 1024 → Begins (is_text kind) bytes
alive kind bytes front reads room =
    let rest = completes kind front.token front.character in (
      rest.bytes,
      text-from kind (bytes ++ rest.bytes) (record {
        short = omega (arith, length-append bytes rest.bytes, rest.short);
        utf8 = reads.by_character rest.bytes ∙ rest.by_character;
        good = reads.by_token rest.bytes ∙ rest.by_token;
      }),
    )

-- ---- the walk over all the bytes
module _ (kind : Kind) (bytes : List ℕ) (place : ℕ) (front : Front) (reads : Reads kind (take place bytes) front) (room : place + need kind front ≤ 1024) where
  -- the byte at this place
  pub reads_more : (b : ℕ) (next : Front) → place < length bytes → b ≡ get_or bytes place 0 → Some next ≡ front_after kind place front b → (place + 1 + need kind next ≤ 1024) × Reads kind (take (place + 1) bytes) next
  reads_more b next inside is e =
      let fits = step_fits kind place front b next e in
      let more = reads_step kind (take place bytes) front b next reads fits.steps in
      (fits.short, rw (take_more bytes place 0 inside, ← is) more)

  pub cut_place : (b : ℕ) → place < length bytes → b ≡ get_or bytes place 0 → None ≡ front_after kind place front b → IsBadPlace (is_text kind) bytes place
  cut_place b inside is none =
      let size : length (take place bytes) ≡ place = omega (arith, length-take place bytes) in
      inl (record {
        within = inside;
        before = alive kind (take place bytes) front reads (omega arith);
        never = rw (take_more bytes place 0 inside, ← is) (stuck kind (take place bytes) front place b reads size none);
      })

  reads_all : length bytes ≤ place → Reads kind bytes front
  reads_all end = rw (take_all place bytes end) at reads

  pub whole_text : length bytes ≤ place → need kind front ≡ 0 → is_text kind bytes ≡ true
  whole_text end none =
      let all = reads_all end in
      let same = append-nil bytes in
      text-from kind bytes (record {
        short = omega arith;
        utf8 = ap is_utf8 (sym same) ∙ all.by_character [] ∙ eq-eqb (character_need front.character) 0 (omega arith);
        good = ap (λ l. good_tokens kind (tokens l)) (sym same) ∙ all.by_token [] ∙ eq-eqb (token_need kind front.token) 0 (omega arith);
      })

  pub early_end : length bytes ≡ place → (need kind front ≡ 0 → ⊥) → IsBadPlace (is_text kind) bytes (length bytes)
  early_end end some =
      let all = reads_all (omega arith) in
      inr (record {
        end = refl;
        before = alive kind bytes front all (omega arith);
        short = false_from_ne_true (is_text kind bytes) (λ whole.
            let text = text-tells kind bytes whole in
            let same = append-nil bytes in
            let no_character : character_need front.character ≡ 0 = eqb-true (character_need front.character) 0 (sym (all.by_character []) ∙ ap is_utf8 same ∙ text.utf8) in
            let no_token : token_need kind front.token ≡ 0 = eqb-true (token_need kind front.token) 0 (sym (all.by_token []) ∙ ap (λ l. good_tokens kind (tokens l)) same ∙ text.good) in
            some (omega arith));
      })
