-- A walk over the words of a command that takes values by their places alone: each row has a value.
use Rattle.std.proofs.Common.{◌≡◌, ℕ, zero, suc, ◌<◌, Bool, true, false, ◌&&◌, cond, List, [], ◌∷◌, ◌++◌, length, length-append, drop, slice_get, Option, Some, None, is_some, IfSome, refl, arith, encode_utf8}
use Rattle.std.specs.Prelude.{fold}
use Rattle.std.specs.List.{AllByRecursion}
use Rattle.std.specs.Str.{bytes_eq, chars}
use Rattle.clap.specs.Lexer.{long_of, short_of}
use Rattle.clap.specs.declared.builder.action.ArgAction.TheVariants.{Set}
use Rattle.clap.specs.declared.builder.value_parser.Reading.{Reading}
use Rattle.clap.specs.declared.parser.matches.ValueSource.{ValueSource}
use Rattle.clap.specs.declared.parser.matches.ValueSource.TheVariants.{CommandLine, DefaultValue}
use Rattle.clap.specs.Walk.{Row, Rule, Text, Held, Names, Step, Waiting, Walk, Outcome, idle, option, positional, next, trailing, subcommand, value, done, waits, plain, refused}
use Rattle.clap.specs.Walk.{action_of, arg_by_id, arg_by_index, arg_by_long, arg_by_short, at_row, more_values, with_values, without, used, used_by_id, values_or_missing, reading_by, settled, settled_rows, pushed, after_flag, plain_word, option_word, bundle, bundle_met, bundle_step, word_met, subcommand_or_other, subcommand_met, long_or_other, short_or_plain, after_step, to_positional, positional_held, walked, walked_from, has_row, default_rows, with_default, finished, first_of, takes_several, is_pending}
use Rattle.clap.specs.Takes.{is_given}

-- a row with a value
abbrev pub IsFull : Row → Type 0
IsFull r = 0 < length r.values

abbrev pub AreFull : List Row → Type 0
AreFull = AllByRecursion IsFull

-- each row has a value, and so has what is pending
pub record Full (h : Held) : Type 0 where
  pub rows : AreFull h.rows
  pub pending : IfSome h.pending (λ p. 0 < length p.1)

-- a value that is taken by its place, and put in place of an earlier one
pub record IsPlace (a : Rule) : Type 0 where
  pub set : action_of a ≡ Set
  pub place : is_some a.index ≡ true

abbrev pub ArePlaces : List Rule → Type 0
ArePlaces = AllByRecursion IsPlace

pub full_append : (xs ys : List Row) → AreFull xs → AreFull ys → AreFull (xs ++ ys)
full_append [] ys h k = k
full_append (x ∷ xs) ys h k = (h.0, full_append xs ys h.1 k)

pub full_at_row : (id : Text) (change : Row → List Row) (missing : List Row) → ((r : Row) → IsFull r → AreFull (change r)) → AreFull missing → (rs : List Row) → AreFull rs → AreFull (at_row id change missing rs)
full_at_row id change missing f m [] h = m
full_at_row id change missing f m (r ∷ rs) h = go (bytes_eq r.id id) (full_at_row id change missing f m rs h.1)
  where
    go : (b : Bool) → AreFull (at_row id change missing rs) → AreFull (cond b (change r ++ rs) (r ∷ at_row id change missing rs))
    go true rest = full_append (change r) rs (f r h.0) h.1
    go false rest = (h.0, rest)

pub full_with_values : (id : Text) (how : Reading) (s : ValueSource) (values : List Text) (rs : List Row) → 0 < length values → AreFull rs → AreFull (with_values id how s values rs)
full_with_values id how s values rs some h = full_at_row id (more_values s values) _ (λ r full. (simp length-append (omega arith), tt)) (some, tt) rs h

pub full_without : (id : Text) (rs : List Row) → AreFull rs → AreFull (without id rs)
full_without id rs h = full_at_row id (λ _. []) [] (λ r full. tt) tt rs h

some_values : (a : Rule) (values : List Text) → 0 < length values → values_or_missing a values ≡ values
some_values a [] some = absurd (omega arith)
some_values a (v ∷ vs) some = refl

pub full_used : (a : Rule) (values : List Text) (rs : List Row) → action_of a ≡ Set → 0 < length values → AreFull rs → AreFull (used a values rs)
full_used a values rs set some h = rw (set, some_values a values some) (full_with_values a.id (reading_by a) CommandLine values (without a.id rs) some (full_without a.id rs h))

pub full_used_by_id : (c : List Rule) (id : Text) (values : List Text) (rs : List Row) → ArePlaces c → 0 < length values → AreFull rs → AreFull (used_by_id (arg_by_id c id) values rs)
full_used_by_id [] id values rs p some h = h
full_used_by_id (a ∷ c) id values rs p some h = go (bytes_eq a.id id) (full_used_by_id c id values rs p.1 some h)
  where
    go : (b : Bool) → AreFull (used_by_id (arg_by_id c id) values rs) → AreFull (used_by_id (cond b (Some a) (arg_by_id c id)) values rs)
    go true rest = full_used a values rs p.0.set some h
    go false rest = rest

pub full_settled : (c : List Rule) (h : Held) → ArePlaces c → Full h → Full (settled c h)
full_settled c h p full = record { rows = go h.pending full.pending; pending = tt }
  where
    go : (o : Option (Text × List Text)) → IfSome o (λ p. 0 < length p.1) → AreFull (settled_rows c o h.rows)
    go None some = full.rows
    go (Some q) some = full_used_by_id c q.0 q.1 h.rows p some full.rows

pub full_pushed : (id word : Text) (h : Held) → Full h → Full (pushed id word h)
full_pushed id word h full = record { rows = full.rows; pending = simp length-append (omega arith) }

-- no flag is known
pub no_long : (c : List Rule) (name : Text) → ArePlaces c → arg_by_long c name ≡ None
no_long [] name p = refl
no_long (a ∷ c) name p = rw (p.0.place) (no_long c name p.1)

pub no_short : (c : List Rule) (x : ℕ) → ArePlaces c → arg_by_short c x ≡ None
no_short [] x p = refl
no_short (a ∷ c) x p = rw (p.0.place) (no_short c x p.1)

pub full_option_word : (o : Option Rule) (id word : Text) (h : Held) → Full h → Full (option_word o id word h).0
full_option_word None id word h full = full
full_option_word (Some a) id word h full = full_pushed id word h full

pub full_plain_word : (c : List Rule) (w : Waiting) (word : Text) (h : Held) → Full h → Full (plain_word c w word h).0
full_plain_word c (option id) word h full = full_option_word (arg_by_id c id) id word h full
full_plain_word c idle word h full = full
full_plain_word c positional word h full = full

pub full_after_flag : (c : List Rule) (w : Waiting) (word : Text) (h : Held) (o : Outcome) → Full h → Full (after_flag c w word h o).0
full_after_flag c w word h done full = full
full_after_flag c w word h (waits id) full = full
full_after_flag c w word h plain full = full_plain_word c w word h full
full_after_flag c w word h refused full = full_plain_word c w word h full

pub full_bundle_met : (c : List Rule) (k : ℕ) (flags : Text) (skip : ℕ) (o : Outcome) (h : Held) → ArePlaces c → Full h → Full (bundle_met c k flags skip o h).0
unfolding bundle_met
full_bundle_met c zero flags skip o h p full = full
full_bundle_met c (suc k) flags skip o h p full =
    go (slice_get (chars flags) 0) skip (λ x n. full_bundle_met c k (drop (length (encode_utf8 x)) flags) n o h p full)
  where
    go : (x : Option ℕ) (n : ℕ) → ((x n : ℕ) → Full (bundle_met c k (drop (length (encode_utf8 x)) flags) n o h).0) → Full (bundle_step c x flags n o h (bundle_met c k)).0
    go None n more = full
    go (Some x) zero more = rw (no_short c x p) full
    go (Some x) (suc n) more = more x n

pub full_short_or_plain : (c : List Rule) (w : Waiting) (word : Text) (flags : Option Text) (h : Held) → ArePlaces c → Full h → Full (short_or_plain c w word flags h).0
full_short_or_plain c w word None h p full = full_plain_word c w word h full
full_short_or_plain c w word (Some flags) h p full =
    full_after_flag c w word (bundle c flags h).0 (bundle c flags h).1
    (full_bundle_met c (length flags) flags h.skip plain (record h { skip = 0 }) p (record { rows = full.rows; pending = full.pending }))

pub full_long_or_other : (c : List Rule) (w : Waiting) (word : Text) (o : Option (Text × Option Text)) (h : Held) → ArePlaces c → Full h → Full (long_or_other c w word o h).0
full_long_or_other c w word None h p full = full_short_or_plain c w word (short_of word) h p full
full_long_or_other c w word (Some q) h p full = rw (no_long c q.0 p) (full_plain_word c w word h full)

pub full_subcommand_or_other : (c : List Rule) (o : Option Text) (w : Waiting) (n : ℕ) (word : Text) (h : Held) → ArePlaces c → Full h → Full (subcommand_or_other c o w n word h).0
full_subcommand_or_other c (Some name) w n word h p full = full
full_subcommand_or_other c None w n word h p full = go (bytes_eq word (45 ∷ 45 ∷ []))
  where
    go : (b : Bool) → Full (cond b (h, trailing n) (long_or_other c w word (long_of word) h)).0
    go true = full
    go false = full_long_or_other c w word (long_of word) h p full

pub full_word_met : (c : List Rule) (names : Names) (t : Bool) (w : Waiting) (n : ℕ) (word : Text) (h : Held) → ArePlaces c → Full h → Full (word_met c names t w n word h).0
full_word_met c names true w n word h p full = full
full_word_met c names false w n word h p full = full_subcommand_or_other c (subcommand_met names w word) w n word h p full

pub full_positional_held : (c : List Rule) (a : Rule) (word : Text) (h : Held) → ArePlaces c → Full h → Full (positional_held c a word h)
full_positional_held c a word h p full = go (is_pending a h.pending && takes_several a)
  where
    go : (b : Bool) → Full (pushed a.id word (cond b h (settled c h)))
    go true = full_pushed a.id word h full
    go false = full_pushed a.id word (settled c h) (full_settled c h p full)

pub full_after_step : (c : List Rule) (word : Text) (w : Walk) (h : Held) (s : Step) → ArePlaces c → Full h → Full (after_step c word w h s).held
full_after_step c word w h (next waiting) p full = full
full_after_step c word w h (trailing n) p full = full
full_after_step c word w h (subcommand name) p full = full
full_after_step c word w h value p full = go (arg_by_index c w.position)
  where
    go : (o : Option Rule) → Full (to_positional c o word w h).held
    go None = full
    go (Some a) = full_positional_held c a word h p full

pub full_walked : (c : List Rule) (names : Names) (w : Walk) (word : Text) → ArePlaces c → Full w.held → Full (walked c names w word).held
unfolding walked
full_walked c names w word p full = go w.stopped
  where
    go : (o : Option (Text × List Text)) → Full (walked_from c names o w word).held
    go (Some q) = full
    go None =
        full_after_step c word w (word_met c names w.is_trailing w.waiting w.position word w.held).0 (word_met c names w.is_trailing w.waiting w.position word w.held).1 p
        (full_word_met c names w.is_trailing w.waiting w.position word w.held p full)

pub full_walk : (c : List Rule) (names : Names) (words : List Text) (w : Walk) → ArePlaces c → Full w.held → Full (fold (walked c names) w words).held
full_walk c names [] w p full = full
full_walk c names (word ∷ words) w p full = full_walk c names words (walked c names w word) p (full_walked c names w word p full)

full_default_rows : (id : Text) (how : Reading) (values : List Text) (rs : List Row) → AreFull rs → AreFull (default_rows id how values rs)
full_default_rows id how [] rs h = h
full_default_rows id how (v ∷ vs) rs h = full_with_values id how DefaultValue (v ∷ vs) rs (omega arith) h

full_with_default : (rs : List Row) (a : Rule) → AreFull rs → AreFull (with_default rs a)
full_with_default rs a h = go (has_row a.id rs)
  where
    go : (b : Bool) → AreFull (cond b rs (default_rows a.id (reading_by a) a.defaults rs))
    go true = h
    go false = full_default_rows a.id (reading_by a) a.defaults rs h

full_defaults : (c : List Rule) (rs : List Row) → AreFull rs → AreFull (fold with_default rs c)
full_defaults [] rs h = h
full_defaults (a ∷ c) rs h = full_defaults c (with_default rs a) (full_with_default rs a h)

pub full_finished : (c : List Rule) (h : Held) → ArePlaces c → Full h → AreFull (finished c h)
full_finished c h p full = full_defaults c (settled c h).rows (full_settled c h p full).rows

first_value : (values : List Text) → 0 < length values → is_some (slice_get values 0) ≡ true
first_value [] some = absurd (omega arith)
first_value (v ∷ vs) some = refl

-- what was given has a value
pub given_first : (id : Text) (rs : List Row) → AreFull rs → is_given id rs ≡ true → is_some (first_of id rs) ≡ true
given_first id [] h given = cc
given_first id (r ∷ rs) h given = go (bytes_eq r.id id) refl (given_first id rs h.1)
  where
    go : (b : Bool) → bytes_eq r.id id ≡ b → (is_given id rs ≡ true → is_some (first_of id rs) ≡ true) → is_some (first_of id (r ∷ rs)) ≡ true
    go true e more = rw e (first_value r.values h.0)
    go false e more = rw e (more (rw e at given))
