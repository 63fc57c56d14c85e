-- No answer has a number with a fraction.
use Rattle.std.proofs.Common.{◌≡◌, ℕ, List, [], ◌∷◌, Bool, true, false, Option, None, Some, refl, map}
use Rattle.serde_json.specs.Data.{string, Members}
use Rattle.serde_json.specs.View.{items_of}
use Rattle.serde_json.specs.Written.{has_float, items_have_float, members_have_float}
use Rattle.nats_text.specs.Headers.{written}
use Rattle.stream_fold.specs.declared.config.Config.{Config}
use Rattle.stream_fold.specs.declared.entry.Numbered.{Numbered}
use Rattle.config_json.specs.Writing.{config_data}
use Rattle.js_api.specs.Answers.{headers_member, listed_data, found_data, stream_data, ack_data}
use Rattle.js_api.specs.declared.reply.StateFacts.{StateFacts}

texts_no_float : (ts : List (List ℕ)) → items_have_float (items_of (map string ts)) ≡ false
texts_no_float [] = refl
texts_no_float (t ∷ ts) = texts_no_float ts

pub listed_no_float : (names : List (List ℕ)) (offset total : ℕ) (kind : List ℕ) → has_float (listed_data names offset total kind) ≡ false
listed_no_float names offset total kind = rw (texts_no_float names) refl

headers_no_float : (block : List ℕ) (others : Members) → members_have_float others ≡ false → members_have_float (headers_member block others) ≡ false
headers_no_float [] others h = h
headers_no_float (b ∷ bs) others h = h

pub found_no_float : (found : Numbered) (kind : List ℕ) → has_float (found_data found kind) ≡ false
found_no_float found kind = rw (headers_no_float (written found.message.headers) _ refl) refl

pub ack_no_float : (domain stream : List ℕ) (seq : ℕ) (duplicate : Bool) → has_float (ack_data domain stream seq duplicate) ≡ false
ack_no_float domain stream seq true = refl
ack_no_float domain stream seq false = refl

pub stream_no_float : (config : Config) (facts : StateFacts) (created : Option Bool) (kind : List ℕ) → has_float (config_data config) ≡ false → has_float (stream_data config facts created kind) ≡ false
stream_no_float config facts None kind h = rw h refl
stream_no_float config facts (Some created) kind h = rw h refl
