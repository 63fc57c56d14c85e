-- A subject is a request of the API exactly where it is that of one of the nine.
use Rattle.std.proofs.Common.{◌≡◌, append_assoc, ℕ, List, [], ◌∷◌, ◌++◌, Bool, true, false, ◌&&◌, cond, Option, None, Some, refl, sym, ap, ◌∙◌, subst}
use Rattle.std.specs.Prelude.{codes}
use Rattle.std.specs.List.{join_with_byte}
use Rattle.std.specs.Str.{bytes_eq}
use Rattle.std.proofs.lemmas.Bool.{and_parts}
use Rattle.std.proofs.lemmas.Option.{none-some, same_Some}
use Rattle.nats_text.specs.Text.{is_name, tokens}
use Rattle.js_api.specs.Subjects.{beginning, subject_of, IsTopic, stream_verb, message_verb, short_verb, long_verb, about, topic_behind, topic_in, topic_of}
use Rattle.js_api.specs.declared.topic.Verb.{Verb}
use Rattle.js_api.specs.declared.topic.Verb.TheVariants.{Create, Update, Remove, Info, Purge, Get, Delete, Consumer}
use Rattle.js_api.specs.declared.topic.Topic.{Topic}
use Rattle.js_api.specs.declared.topic.Topic.TheVariants.{Names, Stream}
use Rattle.js_api.proofs.Words.{equal_bytes, name_alone, join_pieces}

-- ---- each subject is read

verb_read : (verb : Verb) (name : List ℕ) → is_name name ≡ true → topic_of (beginning verb ++ name) ≡ Some (Stream verb name)
verb_read Create name h = rw (name_alone name h, h) refl
verb_read Update name h = rw (name_alone name h, h) refl
verb_read Remove name h = rw (name_alone name h, h) refl
verb_read Info name h = rw (name_alone name h, h) refl
verb_read Purge name h = rw (name_alone name h, h) refl
verb_read Get name h = rw (name_alone name h, h) refl
verb_read Delete name h = rw (name_alone name h, h) refl
verb_read Consumer name h = rw (name_alone name h, h) refl

pub each_read : (topic : Topic) → IsTopic topic → topic_of (subject_of topic) ≡ Some topic
each_read Names h = refl
each_read (Stream verb name) h = verb_read verb name h

-- ---- and nothing else

short_joined : (group word name : List ℕ) → (codes "$JS.API." ++ (group ++ 46 ∷ (word ++ 46 ∷ []))) ++ name ≡ codes "$JS.API." ++ (group ++ 46 ∷ (word ++ 46 ∷ name))
short_joined group word name =
    append_assoc (codes "$JS.API.") (group ++ 46 ∷ (word ++ 46 ∷ [])) name
    ∙ ap (λ r. codes "$JS.API." ++ r) (append_assoc group (46 ∷ (word ++ 46 ∷ [])) name ∙ ap (λ r. group ++ 46 ∷ r) (append_assoc word (46 ∷ []) name))

long_joined : (group word more name : List ℕ)
    → (codes "$JS.API." ++ (group ++ 46 ∷ (word ++ 46 ∷ (more ++ 46 ∷ [])))) ++ name ≡ codes "$JS.API." ++ (group ++ 46 ∷ (word ++ 46 ∷ (more ++ 46 ∷ name)))
long_joined group word more name =
    append_assoc (codes "$JS.API.") (group ++ 46 ∷ (word ++ 46 ∷ (more ++ 46 ∷ []))) name
    ∙ ap (λ r. codes "$JS.API." ++ r) (append_assoc group (46 ∷ (word ++ 46 ∷ (more ++ 46 ∷ []))) name
    ∙ ap (λ r. group ++ 46 ∷ r) (append_assoc word (46 ∷ (more ++ 46 ∷ [])) name ∙ ap (λ r. word ++ 46 ∷ r) (append_assoc more (46 ∷ []) name)))

-- where a test leads to something, it holds
tested : {A : Type 0} (b : Bool) (o : Option A) (y : A) → cond b o None ≡ Some y → (b ≡ true) × (o ≡ Some y)
tested true o y h = (refl, h)
tested false o y h = absurd (none-some y h)

-- a word behind which the subject of a request about a stream has the stream's name
abbrev Begins : List ℕ → Verb → Type 0
Begins front verb = front ≡ beginning verb

-- one of the words that say requests is this one, or the request is another one
first_of_words : (front : List ℕ → List ℕ) (word text : List ℕ) (found verb : Verb) (rest : Option Verb) → Begins (front text) found
    → (rest ≡ Some verb → Begins (front word) verb) → cond (bytes_eq word text) (Some found) rest ≡ Some verb → Begins (front word) verb
first_of_words front word text found verb rest is others h =
    let P : Bool → Type 0 = λ b. bytes_eq word text ≡ b → cond b (Some found) rest ≡ Some verb → Begins (front word) verb in
    let go : (b : Bool) → P b = λ b. elim b as P [
      | true ↦ (λ e k. ap front (equal_bytes word text e) ∙ (is ∙ ap beginning (same_Some found verb k)))
      | false ↦ (λ e k. others k)
    ] in
    go (bytes_eq word text) refl h

-- words between dots, and a dot behind them
abbrev stream_front : List ℕ → List ℕ
stream_front word = codes "$JS.API.STREAM." ++ (word ++ 46 ∷ [])

abbrev message_front : List ℕ → List ℕ
message_front word = codes "$JS.API.STREAM.MSG." ++ (word ++ 46 ∷ [])

stream_verb_is : (word : List ℕ) (verb : Verb) → stream_verb word ≡ Some verb → Begins (stream_front word) verb
stream_verb_is word verb =
    first_of_words stream_front word (codes "CREATE") Create verb _ refl
    (first_of_words stream_front word (codes "UPDATE") Update verb _ refl
    (first_of_words stream_front word (codes "DELETE") Remove verb _ refl
    (first_of_words stream_front word (codes "INFO") Info verb _ refl
    (first_of_words stream_front word (codes "PURGE") Purge verb None refl (λ h. absurd (none-some verb h))))))

message_verb_is : (word : List ℕ) (verb : Verb) → message_verb word ≡ Some verb → Begins (message_front word) verb
message_verb_is word verb =
    first_of_words message_front word (codes "GET") Get verb _ refl
    (first_of_words message_front word (codes "DELETE") Delete verb None refl (λ h. absurd (none-some verb h)))

-- the words behind `$JS.API`, and a dot behind them
abbrev short_front : List ℕ → List ℕ → List ℕ
short_front group word = codes "$JS.API." ++ (group ++ 46 ∷ (word ++ 46 ∷ []))

abbrev long_front : List ℕ → List ℕ → List ℕ → List ℕ
long_front group word more = codes "$JS.API." ++ (group ++ 46 ∷ (word ++ 46 ∷ (more ++ 46 ∷ [])))

short_verb_is : (group word : List ℕ) (verb : Verb) → short_verb group word ≡ Some verb → Begins (short_front group word) verb
short_verb_is group word verb h =
    let consumers : Option Verb = cond (bytes_eq group (codes "CONSUMER") && bytes_eq word (codes "CREATE")) (Some Consumer) None in
    let P : Bool → Type 0 = λ b. bytes_eq group (codes "STREAM") ≡ b → cond b (stream_verb word) consumers ≡ Some verb → Begins (short_front group word) verb in
    let other : consumers ≡ Some verb → Begins (short_front group word) verb = λ k.
    let t = tested (bytes_eq group (codes "CONSUMER") && bytes_eq word (codes "CREATE")) (Some Consumer) verb k in
    let p = and_parts (bytes_eq group (codes "CONSUMER")) (bytes_eq word (codes "CREATE")) t.0 in
    ap (λ g. short_front g word) (equal_bytes group (codes "CONSUMER") p.0)
    ∙ (ap (λ w. short_front (codes "CONSUMER") w) (equal_bytes word (codes "CREATE") p.1) ∙ ap beginning (same_Some Consumer verb t.1)) in
    let go : (b : Bool) → P b = λ b. elim b as P [
      | true ↦ (λ e k. ap (λ g. short_front g word) (equal_bytes group (codes "STREAM") e) ∙ stream_verb_is word verb k)
      | false ↦ (λ e k. other k)
    ] in
    go (bytes_eq group (codes "STREAM")) refl h

long_verb_is : (group word more : List ℕ) (verb : Verb) → long_verb group word more ≡ Some verb → Begins (long_front group word more) verb
long_verb_is group word more verb h =
    let t = tested (bytes_eq group (codes "STREAM") && bytes_eq word (codes "MSG")) (message_verb more) verb h in
    let p = and_parts (bytes_eq group (codes "STREAM")) (bytes_eq word (codes "MSG")) t.0 in
    ap (λ g. long_front g word more) (equal_bytes group (codes "STREAM") p.0)
    ∙ (ap (λ w. long_front (codes "STREAM") w more) (equal_bytes word (codes "MSG") p.1) ∙ message_verb_is more verb t.1)

-- what is asked about a stream, behind the words before its name
about_is : (front : List ℕ) (verb : Option Verb) (name : List ℕ) (topic : Topic) → ((v : Verb) → verb ≡ Some v → Begins front v) → about verb name ≡ Some topic
    → IsTopic topic × (subject_of topic ≡ front ++ name)
about_is front None name topic is h = absurd (none-some topic h)
about_is front (Some verb) name topic is h =
    let t = tested (is_name name) (Some (Stream verb name)) topic h in
    let e : Stream verb name ≡ topic = same_Some (Stream verb name) topic t.1 in
    subst (λ x. IsTopic x × (subject_of x ≡ front ++ name)) e (t.0, ap (λ f. f ++ name) (sym (is verb refl)))

-- what is joined of the words
abbrev joined : List (List ℕ) → List ℕ
joined words = codes "$JS.API." ++ join_with_byte 46 words

behind_is : (words : List (List ℕ)) (topic : Topic) → topic_behind words ≡ Some topic → IsTopic topic × (subject_of topic ≡ joined words)
behind_is [] topic h = absurd (none-some topic h)
behind_is (group ∷ []) topic h = absurd (none-some topic h)
behind_is (group ∷ word ∷ []) topic h =
    let t = tested (bytes_eq group (codes "STREAM") && bytes_eq word (codes "NAMES")) (Some Names) topic h in
    let p = and_parts (bytes_eq group (codes "STREAM")) (bytes_eq word (codes "NAMES")) t.0 in
    let e : Names ≡ topic = same_Some Names topic t.1 in
    let spelled : joined (group ∷ word ∷ []) ≡ subject_of Names =
    ap (λ g. joined (g ∷ word ∷ [])) (equal_bytes group (codes "STREAM") p.0) ∙ ap (λ w. joined (codes "STREAM" ∷ w ∷ [])) (equal_bytes word (codes "NAMES") p.1) in
    subst (λ x. IsTopic x × (subject_of x ≡ joined (group ∷ word ∷ []))) e (tt, sym spelled)
behind_is (group ∷ word ∷ name ∷ []) topic h =
    let a = about_is (short_front group word) (short_verb group word) name topic (λ v k. short_verb_is group word v k) h in
    (a.0, a.1 ∙ short_joined group word name)
behind_is (group ∷ word ∷ more ∷ name ∷ []) topic h =
    let a = about_is (long_front group word more) (long_verb group word more) name topic (λ v k. long_verb_is group word more v k) h in
    (a.0, a.1 ∙ long_joined group word more name)
behind_is (group ∷ word ∷ more ∷ name ∷ other ∷ others) topic h = absurd (none-some topic h)

words_are : (words : List (List ℕ)) (topic : Topic) → topic_in words ≡ Some topic → IsTopic topic × (subject_of topic ≡ join_with_byte 46 words)
words_are [] topic h = absurd (none-some topic h)
words_are (system ∷ []) topic h = absurd (none-some topic h)
words_are (system ∷ api ∷ []) topic h = absurd (none-some topic (tested (bytes_eq system (codes "$JS") && bytes_eq api (codes "API")) None topic h).1)
words_are (system ∷ api ∷ word ∷ words) topic h =
    let t = tested (bytes_eq system (codes "$JS") && bytes_eq api (codes "API")) (topic_behind (word ∷ words)) topic h in
    let p = and_parts (bytes_eq system (codes "$JS")) (bytes_eq api (codes "API")) t.0 in
    let b = behind_is (word ∷ words) topic t.1 in
    let spelled : join_with_byte 46 (system ∷ api ∷ word ∷ words) ≡ joined (word ∷ words) =
    ap (λ s. join_with_byte 46 (s ∷ api ∷ word ∷ words)) (equal_bytes system (codes "$JS") p.0)
    ∙ ap (λ a. join_with_byte 46 (codes "$JS" ∷ a ∷ word ∷ words)) (equal_bytes api (codes "API") p.1) in
    (b.0, b.1 ∙ sym spelled)

pub read_is : (subject : List ℕ) (topic : Topic) → topic_of subject ≡ Some topic → IsTopic topic × (subject_of topic ≡ subject)
read_is subject topic h =
    let w = words_are (tokens subject) topic h in
    (w.0, w.1 ∙ join_pieces 46 subject)
