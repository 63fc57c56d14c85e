-- What comes of a call, by what came of its load.
use Rattle.record_codec.specs.declared.records.Rec.{Rec}
use Rattle.record_log.specs.LogStates.{LogState}
use Rattle.shard_calls.proofs.CallSteps.{Replies, opening, refusal-step}
use Rattle.shard_calls.proofs.LogLists.{Within, ways}
use Rattle.shard_calls.proofs.ShardMoves.{kept-loaded, since-within}
use Rattle.shard_calls.proofs.StepsBehind.{step-behind}
use Rattle.shard_calls.specs.Memories.{MemoryParts, ShardState, at}
use Rattle.shard_calls.specs.Shards.{IsFor, IsTried, Moves, StepsOn, on_the_way}
use Rattle.shard_calls.specs.declared.doubt.Failure.{Failure}
use Rattle.shard_machine.specs.Steps.{Held, IsReady, Refuses}
use Rattle.shard_machine.specs.declared.call.ShardCall.{ShardCall}
use Rattle.shard_machine.specs.declared.reply.ShardReply.{ShardReply}
use Rattle.std.proofs.Common.{List, None, Option, [], append-nil, append_assoc, arith, false, inl, inr, subst, sym, true, ℕ, ◌++◌, ◌∙◌, ◌≡◌}

-- what a ready shard tried, the shard tried that had to load
tried-behind : (h ready : Held) (c : ShardCall) (after : Held) (tried : List Rec) → ready.loaded ≡ true → IsTried ready c after tried → IsTried h c after tried
tried-behind h ready c after tried on (inl none) = inl none
tried-behind h ready c after tried on (inr (inl doubted)) = inr (inl doubted)
tried-behind h ready c after tried on (inr (inr (inl of_call))) = inr (inr (inl of_call))
tried-behind h ready c after tried on (inr (inr (inr opening))) = absurd (let wrong : true ≡ false = sym on ∙ opening.0 in cc)

module _ {D : Type 0} (images : D → List ℕ → Type 0) (moment : D → ℕ) (left_since : D → ℕ → List ℕ → Type 0) (l : LogState D) (h : Held) (before : List Rec) (c : ShardCall) (reply : ShardReply) where
  -- it loaded, or was loaded, and then answered
  module _ (m : MemoryParts) (l' : LogState D) (new : ShardState D) (first : List Rec) (ready : Held) (on : m.loaded ≡ true) (is : IsReady h first ready) (moves : Moves images moment left_since l (at m l') h.doubt before first [] ready) (s : StepsOn images moment left_since l' c reply new ready (before ++ first)) where
    ready-on : ready.loaded ≡ true
    ready-on = moves.keeps.loaded ∙ on

    ready-none : ready.doubt ≡ None
    ready-none = (kept-loaded (at m l') ready on moves.keeps).0

    all-is : first ++ (s.records ++ s.tried) ≡ (first ++ s.records) ++ s.tried
    all-is = sym (append_assoc first s.records s.tried)

    way-within : (logs : List (List Rec)) → Within ((logs ++ on_the_way before h.doubt (first ++ [])) ++ on_the_way (before ++ first) ready.doubt (s.records ++ s.tried)) (logs ++ on_the_way before h.doubt ((first ++ s.records) ++ s.tried))
    way-within logs =
        subst (λ (rs : List Rec). Within ((logs ++ on_the_way before h.doubt (first ++ [])) ++ on_the_way (before ++ first) ready.doubt (s.records ++ s.tried)) (logs ++ on_the_way before h.doubt rs)) all-is
        (subst (λ (rs : List Rec). Within ((logs ++ on_the_way before h.doubt rs) ++ on_the_way (before ++ first) ready.doubt (s.records ++ s.tried)) (logs ++ on_the_way before h.doubt (first ++ (s.records ++ s.tried)))) (sym (append-nil first))
        (subst (λ (d : Option Rec). Within ((logs ++ on_the_way before h.doubt first) ++ on_the_way (before ++ first) d (s.records ++ s.tried)) (logs ++ on_the_way before h.doubt (first ++ (s.records ++ s.tried)))) (sym ready-none)
        (ways logs before h.doubt first (s.records ++ s.tried))))

    pub steps-behind : StepsOn images moment left_since l c reply new h before
    steps-behind = record {
      records = first ++ s.records;
      after = s.after;
      step = step-behind h first ready c reply s.records s.after ready-on is s.step;
      tried = s.tried;
      is_tried = tried-behind h ready c s.after s.tried ready-on s.is_tried;
      moves = record {
        keeps = s.moves.keeps;
        stands = subst (λ (x : List Rec). IsFor images new.log s.after x) (append_assoc before first s.records) s.moves.stands;
        later = (omega (arith, moves.later.0, s.moves.later.0), omega (arith, moves.later.1, s.moves.later.1));
        passes = λ t u logs le le' since. since-within images moment left_since new.log t u _ _ (way-within logs)
            (s.moves.passes t u (logs ++ on_the_way before h.doubt (first ++ [])) (omega (arith, le, moves.later.0)) (omega (arith, le', moves.later.1)) (moves.passes t u logs le le' since));
      };
    }

  -- it could not load
  module _ (new : ShardState D) (failure : Failure) (records tried : List Rec) (after : Held) (refuses : (c : ShardCall) → Refuses h c failure.why failure.doubted records after) (is_tried : (c : ShardCall) → IsTried h c after tried)
      (moves : Moves images moment left_since l new h.doubt before records tried after) (replies : Replies c failure.why failure.doubted reply) where
    pub steps-failed : StepsOn images moment left_since l c reply new h before
    steps-failed = record {
      records = records;
      after = after;
      step = refusal-step h c failure.why failure.doubted records after reply replies (refuses c);
      tried = tried;
      is_tried = is_tried c;
      moves = moves;
    }
