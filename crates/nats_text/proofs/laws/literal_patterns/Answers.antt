use Rattle.std.proofs.Common.{◌≡◌, List, ℕ, true, ◌&&◌, subst, sym}
use Rattle.std.specs.Prelude.{length, nat_le}
use Rattle.std.specs.List.{list_all}
use Rattle.std.specs.Str.{is_utf8}
use Rattle.std.proofs.lemmas.Bool.{and_parts}
use Rattle.nats_text.specs.Text.{tokens, is_literal_token}
use Rattle.nats_text.specs.Matching.{match_tokens}
use Rattle.nats_text.proofs.Patterns.{literal_matches, matches_itself}
use Rattle.nats_text.proofs.laws.literal_patterns.Goals as goal

pub returns : goal.returns
returns c = λ subject ts legal.
    let literal = (and_parts (nat_le (length subject) 1024 && is_utf8 subject) (list_all is_literal_token (tokens subject)) legal).1 in
    (λ h. literal_matches (tokens subject) ts literal h, λ e. subst (λ (xs : List (List ℕ)). match_tokens (tokens subject) xs ≡ true) (sym e) (matches_itself (tokens subject)))
