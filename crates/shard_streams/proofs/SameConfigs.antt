-- A configuration is another one where its members are.
use Rattle.std.proofs.Common.{◌≡◌, ◌↔◌, Bool, false, IsTrue, sym, ap, subst}
use Rattle.std.proofs.lemmas.Bool.{false≢true, both_ways}
use Rattle.stream_fold.specs.declared.config.Config.{Config}
use Rattle.stream_fold.specs.declared.entry.Entry.{Entry}
use Rattle.stream_fold.specs.declared.entry.Entry.TheVariants.{Limits}
use Rattle.stream_fold.specs.Fits.{Fits, KeepsMembers}
use Rattle.stream_fold.specs.Held.{State, StandsFor}
use Rattle.stream_fold.specs.Histories.{History}
use Rattle.shard_streams.specs.Members.{HasLimits}

-- the members that never change are the same, and so are the others
pub same-config : (old new : Config) → KeepsMembers old new → HasLimits old new → old ≡ new
same-config old new keeps has = λ i. record {
  name = sym keeps.name i;
  subjects = has.subjects i;
  max_msgs = has.max_msgs i;
  max_bytes = has.max_bytes i;
  max_age = has.max_age i;
  max_per_subject = has.max_per_subject i;
  max_msg_size = has.max_msg_size i;
  discard = has.discard i;
  window = sym keeps.window i;
  transform = has.transform i;
  copies = sym keeps.copies i;
}

pub same-limits : (old new : Config) → old ≡ new → HasLimits old new
same-limits old new e = record {
  subjects = ap (λ (c : Config). c.subjects) e;
  max_msgs = ap (λ (c : Config). c.max_msgs) e;
  max_bytes = ap (λ (c : Config). c.max_bytes) e;
  max_age = ap (λ (c : Config). c.max_age) e;
  max_per_subject = ap (λ (c : Config). c.max_per_subject) e;
  max_msg_size = ap (λ (c : Config). c.max_msg_size) e;
  discard = ap (λ (c : Config). c.discard) e;
  transform = ap (λ (c : Config). c.transform) e;
}

pub same-members : (old new : Config) → old ≡ new → KeepsMembers old new
same-members old new e = record {
  name = ap (λ (c : Config). c.name) (sym e);
  window = ap (λ (c : Config). c.window) (sym e);
  copies = ap (λ (c : Config). c.copies) (sym e);
}

-- a configuration fits a state where it keeps the members of the one that the state has
pub fitting-keeps : (state : State) (h : History) (entry : Entry) (config : Config) → StandsFor state h → entry ≡ Limits config → Fits h entry → KeepsMembers state.held.limits config
fitting-keeps state h entry config s e fits = subst (λ (c : Config). KeepsMembers c config) (sym s.limits) (subst (Fits h) e fits)

pub keeping-fits : (state : State) (h : History) (entry : Entry) (config : Config) → StandsFor state h → entry ≡ Limits config → KeepsMembers state.held.limits config → Fits h entry
keeping-fits state h entry config s e keeps = subst (Fits h) (sym e) (subst (λ (c : Config). KeepsMembers c config) s.limits keeps)

-- where the configuration fits, it is the one in force exactly where the members that may change are the same
pub is-same : (state : State) (h : History) (entry : Entry) (config held : Config) (same : Bool) → StandsFor state h → entry ≡ Limits config → Fits h entry
    → held ≡ state.held.limits → IsTrue same ↔ HasLimits held config → IsTrue same ↔ (state.held.limits ≡ config)
is-same state h entry config held same s e fits is has =
    let old : Config = state.held.limits in
    let by : IsTrue same ↔ HasLimits old config = subst (λ (c : Config). IsTrue same ↔ HasLimits c config) is has in
    (λ t. same-config old config (fitting-keeps state h entry config s e fits) (by.0 t), λ eq. by.1 (same-limits old config eq))

-- where it doesn't fit, it is another one
pub is-other : (state : State) (h : History) (entry : Entry) (config : Config) (fits : Bool) → StandsFor state h → entry ≡ Limits config → (IsTrue fits ↔ Fits h entry)
    → fits ≡ false → IsTrue false ↔ (state.held.limits ≡ config)
is-other state h entry config fits s e by not_so =
    (λ t. absurd (false≢true t), λ eq. absurd (both_ways fits not_so (by.1 (keeping-fits state h entry config s e (same-members state.held.limits config eq)))))
