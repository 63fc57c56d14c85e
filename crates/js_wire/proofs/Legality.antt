-- The subjects of packets are subjects.
use Rattle.std.proofs.Common.{◌≡◌, ℕ, ◌^◌, ◌<◌, List, [], ◌∷◌, ◌++◌, append_assoc, true, refl, arith}
use Rattle.std.specs.Prelude.{decimal, codes}
use Rattle.std.specs.List.{list_all}
use Rattle.std.proofs.lemmas.Bool.{and_from}
use Rattle.nats_text.specs.Text.{is_name, is_subject}
use Rattle.nats_text.specs.declared.message.Stamp.{Stamp}
use Rattle.js_wire.specs.declared.packet.AskerId.{AskerId}
use Rattle.js_wire.specs.Words.{dotted, consumer_name, attempt_words, create_words, flow_words, delivery_words}
use Rattle.js_wire.proofs.Bytes.{decimal_name, consumer_is_name}
use Rattle.js_wire.proofs.Dotted.{dotted_subject}

-- one word more
more : (w : List ℕ) (ws : List (List ℕ)) → is_name w ≡ true → list_all is_name ws ≡ true → list_all is_name (w ∷ ws) ≡ true
more w ws h k = and_from (is_name w) (list_all is_name ws) h k

pub attempt_names : (asker : AskerId) (attempt : Stamp) (end : List ℕ) → is_name asker.node ≡ true → is_name asker.stream ≡ true → asker.index < 2 ^ 64 → attempt.boot < 2 ^ 64 → attempt.count < 2 ^ 64 → is_name end ≡ true → list_all is_name (attempt_words asker attempt end) ≡ true
attempt_names asker attempt end node stream index boot count last =
    more (codes "$JS") (codes "M" ∷ asker.node ∷ asker.stream ∷ decimal asker.index ∷ decimal attempt.boot ∷ decimal attempt.count ∷ end ∷ []) (refl) (more (codes "M") (asker.node ∷ asker.stream ∷ decimal asker.index ∷ decimal attempt.boot ∷ decimal attempt.count ∷ end ∷ []) (refl) (more (asker.node) (asker.stream ∷ decimal asker.index ∷ decimal attempt.boot ∷ decimal attempt.count ∷ end ∷ []) (node) (more (asker.stream) (decimal asker.index ∷ decimal attempt.boot ∷ decimal attempt.count ∷ end ∷ []) (stream) (more (decimal asker.index) (decimal attempt.boot ∷ decimal attempt.count ∷ end ∷ []) (decimal_name asker.index index) (more (decimal attempt.boot) (decimal attempt.count ∷ end ∷ []) (decimal_name attempt.boot boot) (more (decimal attempt.count) (end ∷ []) (decimal_name attempt.count count) (more (end) [] (last) refl)))))))

pub attempt_is_subject : (asker : AskerId) (attempt : Stamp) (end : List ℕ) → is_name asker.node ≡ true → is_name asker.stream ≡ true → asker.index < 2 ^ 64 → attempt.boot < 2 ^ 64 → attempt.count < 2 ^ 64 → is_name end ≡ true → is_subject (dotted (attempt_words asker attempt end)) ≡ true
attempt_is_subject asker attempt end node stream index boot count last =
    dotted_subject (codes "$JS") (codes "M" ∷ asker.node ∷ asker.stream ∷ decimal asker.index ∷ decimal attempt.boot ∷ decimal attempt.count ∷ end ∷ []) (omega arith) (attempt_names asker attempt end node stream index boot count last)

pub create_names : (origin stream : List ℕ) → is_name origin ≡ true → is_name stream ≡ true → list_all is_name (create_words origin stream) ≡ true
create_names origin stream o s =
    more (codes "$JS") (origin ∷ codes "API" ∷ codes "CONSUMER" ∷ codes "CREATE" ∷ stream ∷ []) (refl) (more (origin) (codes "API" ∷ codes "CONSUMER" ∷ codes "CREATE" ∷ stream ∷ []) (o) (more (codes "API") (codes "CONSUMER" ∷ codes "CREATE" ∷ stream ∷ []) (refl) (more (codes "CONSUMER") (codes "CREATE" ∷ stream ∷ []) (refl) (more (codes "CREATE") (stream ∷ []) (refl) (more (stream) [] (s) refl)))))

pub create_is_subject : (origin stream : List ℕ) → is_name origin ≡ true → is_name stream ≡ true → is_subject (dotted (create_words origin stream)) ≡ true
create_is_subject origin stream o s =
    dotted_subject (codes "$JS") (origin ∷ codes "API" ∷ codes "CONSUMER" ∷ codes "CREATE" ∷ stream ∷ []) (omega arith) (create_names origin stream o s)

pub flow_names : (origin stream : List ℕ) (c : Stamp) (token : ℕ) → is_name origin ≡ true → is_name stream ≡ true → c.boot < 2 ^ 64 → c.count < 2 ^ 64 → token < 2 ^ 64 → list_all is_name (flow_words origin stream c token) ≡ true
flow_names origin stream c token o s b n t =
    more (codes "$JS") (codes "FC" ∷ origin ∷ stream ∷ consumer_name c ∷ decimal token ∷ []) (refl) (more (codes "FC") (origin ∷ stream ∷ consumer_name c ∷ decimal token ∷ []) (refl) (more (origin) (stream ∷ consumer_name c ∷ decimal token ∷ []) (o) (more (stream) (consumer_name c ∷ decimal token ∷ []) (s) (more (consumer_name c) (decimal token ∷ []) (consumer_is_name c b n) (more (decimal token) [] (decimal_name token t) refl)))))

pub flow_is_subject : (origin stream : List ℕ) (c : Stamp) (token : ℕ) → is_name origin ≡ true → is_name stream ≡ true → c.boot < 2 ^ 64 → c.count < 2 ^ 64 → token < 2 ^ 64 → is_subject (dotted (flow_words origin stream c token)) ≡ true
flow_is_subject origin stream c token o s b n t =
    dotted_subject (codes "$JS") (codes "FC" ∷ origin ∷ stream ∷ consumer_name c ∷ decimal token ∷ []) (omega arith) (flow_names origin stream c token o s b n t)

pub delivery_names : (stream : List ℕ) (c : Stamp) (seq number time pending : ℕ) → is_name stream ≡ true → c.boot < 2 ^ 64 → c.count < 2 ^ 64 → seq < 2 ^ 64 → number < 2 ^ 64 → time < 2 ^ 64 → pending < 2 ^ 64 → list_all is_name (delivery_words stream c seq number time pending) ≡ true
delivery_names stream c seq number time pending s b n q m t p =
    more (codes "$JS") (codes "ACK" ∷ stream ∷ consumer_name c ∷ codes "1" ∷ decimal seq ∷ decimal number ∷ decimal time ∷ decimal pending ∷ []) (refl) (more (codes "ACK") (stream ∷ consumer_name c ∷ codes "1" ∷ decimal seq ∷ decimal number ∷ decimal time ∷ decimal pending ∷ []) (refl) (more (stream) (consumer_name c ∷ codes "1" ∷ decimal seq ∷ decimal number ∷ decimal time ∷ decimal pending ∷ []) (s) (more (consumer_name c) (codes "1" ∷ decimal seq ∷ decimal number ∷ decimal time ∷ decimal pending ∷ []) (consumer_is_name c b n) (more (codes "1") (decimal seq ∷ decimal number ∷ decimal time ∷ decimal pending ∷ []) (refl) (more (decimal seq) (decimal number ∷ decimal time ∷ decimal pending ∷ []) (decimal_name seq q) (more (decimal number) (decimal time ∷ decimal pending ∷ []) (decimal_name number m) (more (decimal time) (decimal pending ∷ []) (decimal_name time t) (more (decimal pending) [] (decimal_name pending p) refl))))))))

pub delivery_is_subject : (stream : List ℕ) (c : Stamp) (seq number time pending : ℕ) → is_name stream ≡ true → c.boot < 2 ^ 64 → c.count < 2 ^ 64 → seq < 2 ^ 64 → number < 2 ^ 64 → time < 2 ^ 64 → pending < 2 ^ 64 → is_subject (dotted (delivery_words stream c seq number time pending)) ≡ true
delivery_is_subject stream c seq number time pending s b n q m t p =
    dotted_subject (codes "$JS") (codes "ACK" ∷ stream ∷ consumer_name c ∷ codes "1" ∷ decimal seq ∷ decimal number ∷ decimal time ∷ decimal pending ∷ []) (omega arith) (delivery_names stream c seq number time pending s b n q m t p)

-- ---- the texts as they are written, one word behind the other

pub attempt_text : (n s i b c e : List ℕ) → (((((codes "$JS.M" ++ 46 ∷ n) ++ 46 ∷ s) ++ 46 ∷ i) ++ 46 ∷ b) ++ 46 ∷ c) ++ 46 ∷ e ≡ dotted (codes "$JS" ∷ codes "M" ∷ n ∷ s ∷ i ∷ b ∷ c ∷ e ∷ [])
attempt_text n s i b c e = simp append_assoc

pub create_text : (o s : List ℕ) → ((((codes "$JS" ++ 46 ∷ o) ++ 46 ∷ codes "API") ++ 46 ∷ codes "CONSUMER") ++ 46 ∷ codes "CREATE") ++ 46 ∷ s ≡ dotted (create_words o s)
create_text o s = simp append_assoc

pub flow_text : (o s c t : List ℕ) → ((((codes "$JS.FC" ++ 46 ∷ o) ++ 46 ∷ s) ++ 46 ∷ []) ++ c) ++ 46 ∷ t ≡ dotted (codes "$JS" ∷ codes "FC" ∷ o ∷ s ∷ c ∷ t ∷ [])
flow_text o s c t = simp append_assoc

pub delivery_text : (s c q n t p : List ℕ) → (((((((codes "$JS.ACK" ++ 46 ∷ s) ++ 46 ∷ []) ++ c) ++ 46 ∷ codes "1") ++ 46 ∷ q) ++ 46 ∷ n) ++ 46 ∷ t) ++ 46 ∷ p ≡ dotted (codes "$JS" ∷ codes "ACK" ∷ s ∷ c ∷ codes "1" ∷ q ∷ n ∷ t ∷ p ∷ [])
delivery_text s c q n t p = simp append_assoc
