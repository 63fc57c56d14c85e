-- Steps of the loops over consumers and askers.
use Rattle.std.proofs.Common.{◌≡◌, ℕ, zero, suc, ◌+◌, ◌-◌, ◌<◌, ◌≤◌, Bool, true, false, cond, List, [], ◌∷◌, ◌++◌, map, length, take, drop, get_or, refl, sym, ap, ◌∙◌, arith, append_assoc, append-nil}
use Rattle.std.specs.Prelude.{filter, flat_map}
use Rattle.std.proofs.Math.ListN.{set}
use Rattle.std.proofs.lemmas.List.{take_all, drop_all, drop_more, take_more, take_more_set, drop-set-lt, take-append-drop}
use Rattle.std.proofs.lemmas.List.Edits.{map_over_more}
use Rattle.js_wire.specs.declared.packet.AskerId.{AskerId}
use Rattle.push_consumer.specs.Progress.{ConsumerState}
use Rattle.replica_ask.specs.Askers.{AskerState}
use Rattle.shard_machine.specs.Answers.{reads_stream, consumers_of, for_stream}
use Rattle.shard_copies.specs.Asked.{is_of}
use Rattle.shard_copies.specs.Places.{place_in, changed_in, put_in, put_all}
use Rattle.shard_copies.specs.Pumped.{put_back}

-- ---- consumers that come to their places

-- without any, all stay
put-none : (name : List ℕ) (cs : List ConsumerState) → put_back name [] cs ≡ cs
put-none name [] = refl
put-none name (c ∷ cs) = refl

-- one of another stream stays
put-pass : (name : List ℕ) (next : List ConsumerState) (c : ConsumerState) (cs : List ConsumerState) → reads_stream name c ≡ false → put_back name next (c ∷ cs) ≡ c ∷ put_back name next cs
put-pass name [] c cs e = ap (λ (rest : List ConsumerState). c ∷ rest) (sym (put-none name cs))
put-pass name (n ∷ ns) c cs e = ap (λ b. cond b (n ∷ put_back name ns cs) (c ∷ put_back name (n ∷ ns) cs)) e

-- one of the stream is replaced
put-take : (name : List ℕ) (n : ConsumerState) (ns : List ConsumerState) (c : ConsumerState) (cs : List ConsumerState) → reads_stream name c ≡ true → put_back name (n ∷ ns) (c ∷ cs) ≡ n ∷ put_back name ns cs
put-take name n ns c cs e = ap (λ b. cond b (n ∷ put_back name ns cs) (c ∷ put_back name (n ∷ ns) cs)) e

-- the changed consumers of a stream, in their places
pub put-changed : (name : List ℕ) (change : ConsumerState → ConsumerState) (all : List ConsumerState) → put_back name (map change (consumers_of name all)) all ≡ for_stream name change all
put-changed name change [] = refl
put-changed name change (c ∷ cs) = by (reads_stream name c) refl (put-changed name change cs)
  where
    by : (b : Bool) → reads_stream name c ≡ b → put_back name (map change (consumers_of name cs)) cs ≡ for_stream name change cs
        → put_back name (map change (cond b (c ∷ consumers_of name cs) (consumers_of name cs))) (c ∷ cs) ≡ (cond b (change c) c) ∷ for_stream name change cs
    by true e rest = put-take name (change c) (map change (consumers_of name cs)) c cs e ∙ ap (λ (cs : List ConsumerState). change c ∷ cs) rest
    by false e rest = put-pass name (map change (consumers_of name cs)) c cs e ∙ ap (λ (cs : List ConsumerState). c ∷ cs) rest

pub pass-step : (name : List ℕ) (all next : List ConsumerState) (i j : ℕ) (x : ConsumerState) → i < length all → x ≡ get_or all i x → reads_stream name x ≡ false
    → take i all ++ put_back name (drop j next) (drop i all) ≡ take (i + 1) all ++ put_back name (drop j next) (drop (i + 1) all)
pass-step name all next i j x l at fails =
    let here : drop i all ≡ x ∷ drop (i + 1) all = drop_more all i x l ∙ ap (λ (y : ConsumerState). y ∷ drop (i + 1) all) (sym at) in
    let more : take (i + 1) all ≡ take i all ++ x ∷ [] = take_more all i x l ∙ ap (λ (y : ConsumerState). take i all ++ y ∷ []) (sym at) in
    ap (λ (r : List ConsumerState). take i all ++ put_back name (drop j next) r) here
    ∙ (ap (λ (r : List ConsumerState). take i all ++ r) (put-pass name (drop j next) x (drop (i + 1) all) fails)
    ∙ (sym (append_assoc (take i all) (x ∷ []) (put_back name (drop j next) (drop (i + 1) all)))
    ∙ ap (λ (r : List ConsumerState). r ++ put_back name (drop j next) (drop (i + 1) all)) (sym more)))

pub swap-step : (name : List ℕ) (all next : List ConsumerState) (i j : ℕ) (x y : ConsumerState) → i < length all → j < length next → x ≡ get_or all i x → y ≡ get_or next j y → reads_stream name x ≡ true
    → take i all ++ put_back name (drop j next) (drop i all) ≡ take (i + 1) (set all i y) ++ put_back name (drop (j + 1) (set next j x)) (drop (i + 1) (set all i y))
swap-step name all next i j x y l m at from passes =
    let here : drop i all ≡ x ∷ drop (i + 1) all = drop_more all i x l ∙ ap (λ (z : ConsumerState). z ∷ drop (i + 1) all) (sym at) in
    let there : drop j next ≡ y ∷ drop (j + 1) next = drop_more next j y m ∙ ap (λ (z : ConsumerState). z ∷ drop (j + 1) next) (sym from) in
    let behind : drop (i + 1) (set all i y) ≡ drop (i + 1) all = drop-set-lt (i + 1) all i y (omega arith) in
    let rest : drop (j + 1) (set next j x) ≡ drop (j + 1) next = drop-set-lt (j + 1) next j x (omega arith) in
    ap (λ (r : List ConsumerState). take i all ++ put_back name (drop j next) r) here
    ∙ (ap (λ (r : List ConsumerState). take i all ++ put_back name r (x ∷ drop (i + 1) all)) there
    ∙ (ap (λ (r : List ConsumerState). take i all ++ r) (put-take name y (drop (j + 1) next) x (drop (i + 1) all) passes)
    ∙ (sym (append_assoc (take i all) (y ∷ []) (put_back name (drop (j + 1) next) (drop (i + 1) all)))
    ∙ (ap (λ (r : List ConsumerState). r ++ put_back name (drop (j + 1) next) (drop (i + 1) all)) (sym (take_more_set all i y l))
    ∙ (ap (λ (r : List ConsumerState). take (i + 1) (set all i y) ++ put_back name r (drop (i + 1) all)) (sym rest)
    ∙ ap (λ (r : List ConsumerState). take (i + 1) (set all i y) ++ put_back name (drop (j + 1) (set next j x)) r) (sym behind))))))

-- where all consumers, or all that come, were looked at, the work is done
pub put-done : (name : List ℕ) (all next : List ConsumerState) (i j : ℕ) → length all ≤ i → take i all ++ put_back name (drop j next) (drop i all) ≡ all
put-done name all next i j l =
    ap (λ (r : List ConsumerState). take i all ++ put_back name (drop j next) r) (drop_all i all l)
    ∙ (ap (λ (r : List ConsumerState). take i all ++ r) (nothing (drop j next)) ∙ (append-nil (take i all) ∙ take_all i all l))
  where
    nothing : (n : List ConsumerState) → put_back name n [] ≡ []
    nothing n = refl

pub put-rest : (name : List ℕ) (all next : List ConsumerState) (i j : ℕ) → length next ≤ j → take i all ++ put_back name (drop j next) (drop i all) ≡ all
put-rest name all next i j l =
    ap (λ (r : List ConsumerState). take i all ++ put_back name r (drop i all)) (drop_all j next l)
    ∙ (ap (λ (r : List ConsumerState). take i all ++ r) (put-none name (drop i all)) ∙ take-append-drop i all)

-- ---- askers that are changed in their places

pub place-pass : (id : AskerId) (all : List AskerState) (i : ℕ) (x : AskerState) → i < length all → x ≡ get_or all i x → is_of id x ≡ false → place_in id (drop i all) ≡ suc (place_in id (drop (i + 1) all))
place-pass id all i x l at fails =
    ap (place_in id) (drop_more all i x l ∙ ap (λ (y : AskerState). y ∷ drop (i + 1) all) (sym at))
    ∙ ap (λ b. cond b 0 (suc (place_in id (drop (i + 1) all)))) fails

pub place-here : (id : AskerId) (all : List AskerState) (i : ℕ) (x : AskerState) → i < length all → x ≡ get_or all i x → is_of id x ≡ true → place_in id (drop i all) ≡ 0
place-here id all i x l at passes =
    ap (place_in id) (drop_more all i x l ∙ ap (λ (y : AskerState). y ∷ drop (i + 1) all) (sym at))
    ∙ ap (λ b. cond b 0 (suc (place_in id (drop (i + 1) all)))) passes

pub place-past : (id : AskerId) (all : List AskerState) (i : ℕ) → length all ≤ i → place_in id (drop i all) ≡ 0
place-past id all i l = ap (place_in id) (drop_all i all l)

-- a change at the place of the name
pub set-changed : (id : AskerId) (change : AskerState → AskerState) (all : List AskerState) (n : ℕ) (x : AskerState) → n ≡ place_in id all → n < length all → x ≡ get_or all n x → set all n (change x) ≡ changed_in id change all
set-changed id change [] n x e l at = absurd (omega arith)
set-changed id change (a ∷ others) n x e l at = by (is_of id a) n e l at (λ m f k read. set-changed id change others m x f k read)
  where
    by : (b : Bool) (n : ℕ) → n ≡ cond b 0 (suc (place_in id others)) → n < length (a ∷ others) → x ≡ get_or (a ∷ others) n x
        → ((m : ℕ) → m ≡ place_in id others → m < length others → x ≡ get_or others m x → set others m (change x) ≡ changed_in id change others)
        → set (a ∷ others) n (change x) ≡ cond b (change a ∷ others) (a ∷ changed_in id change others)
    by true zero e l at rest = ap (λ (y : AskerState). change y ∷ others) at
    by true (suc m) e l at rest = absurd (omega arith)
    by false zero e l at rest = absurd (omega arith)
    by false (suc m) e l at rest = ap (λ (r : List AskerState). a ∷ r) (rest m (omega arith) (omega arith) at)

-- where the name has no place, nothing changes
pub none-changed : (id : AskerId) (change : AskerState → AskerState) (all : List AskerState) → length all ≤ place_in id all → changed_in id change all ≡ all
none-changed id change [] l = refl
none-changed id change (a ∷ others) l = by (is_of id a) l (none-changed id change others)
  where
    by : (b : Bool) → length (a ∷ others) ≤ cond b 0 (suc (place_in id others)) → (length others ≤ place_in id others → changed_in id change others ≡ others) → cond b (change a ∷ others) (a ∷ changed_in id change others) ≡ a ∷ others
    by true l rest = absurd (omega arith)
    by false l rest = ap (λ (r : List AskerState). a ∷ r) (rest (omega arith))

-- one asker more is put in
pub put_all-push : (ones : List AskerState) (one : AskerState) (all : List AskerState) → put_all (ones ++ one ∷ []) all ≡ put_in one (put_all ones all)
put_all-push [] one all = refl
put_all-push (x ∷ xs) one all = put_all-push xs one (put_in x all)

-- ---- loops that change each item

pub map-step : {X : Type 0} (f : X → X) (xs ys : List X) (i : ℕ) (item new : X) → i < length xs → ys ≡ map f (take i xs) ++ drop i xs → item ≡ get_or ys i item → new ≡ f (get_or ys i item) → set ys i new ≡ map f (take (i + 1) xs) ++ drop (i + 1) xs
map-step f xs ys i item new l h at e = ap (set ys i) e ∙ map_over_more f xs ys i (get_or ys i item) l h (ap (get_or ys i) at)
