use Rattle.std.proofs.Common.{◌≡◌, Some, sym, ap, ◌∙◌, subst}
use Rattle.record_codec.specs.declared.records.Rec.{Rec}
use Rattle.shard_machine.specs.Images.{MayFollowImage, live_in, next}
use Rattle.shard_machine.specs.Views.{count_gone}
use Rattle.shard_streams.specs.HeldImages.{HoldsImage}
use Rattle.shard_streams.specs.Places.{stored_number}
use Rattle.shard_streams.proofs.Telling.{place_of_record, same_entry, same_name, told_all}
use Rattle.shard_streams.proofs.streams.Streams.commit_entry.Goals as goal

pub change_in-name-requires : goal.change_in-name-requires
change_in-name-requires c =
    let p = c.requires.prepared in
    (p.0, p.1, p.2.record_is)

pub take-gone-requires : goal.take-gone-requires
take-gone-requires c =
    let p = c.requires.prepared in
    let f = c.requires.follows in
    record {
      place = place_of_record c.args.self.now.replay c.args.prepared p.0 c.change_in-name.result.0 p.1 c.change_in-name.result.1 p.2 c.change_in-name.ensures;
      follows = (f.0, f.1, subst (λ (r : Rec). MayFollowImage f.0 r) c.change_in-name.ensures f.2);
    }

pub notices_of-requires : goal.notices_of-requires
notices_of-requires c =
    let p = c.requires.prepared in
    record { none = p.2.none_yet; room = p.2.notices }

pub returns-clause-held : goal.returns-clause-held
returns-clause-held c = λ i h may.
    subst (λ (r : Rec). HoldsImage c.take-gone.new.self.replay (next i r)) (sym c.change_in-name.ensures) (c.take-gone.ensures.held i h (subst (λ (r : Rec). MayFollowImage i r) c.change_in-name.ensures may))

pub returns-clause-entry : goal.returns-clause-entry
returns-clause-entry c = λ name entry is.
    let p = c.requires.prepared in
    p.2.copied ∙ same_entry p.0 name p.1 entry (sym p.2.record_is ∙ is)

pub returns-clause-notices : goal.returns-clause-notices
returns-clause-notices c = λ i name entry known h may is lives.
    let p = c.requires.prepared in
    let whose : c.change_in-name.result.0 ≡ name = same_name c.change_in-name.result.0 name c.change_in-name.result.1 entry (sym c.change_in-name.ensures ∙ is) in
    let what : c.change_in-name.result.1 ≡ entry = same_entry c.change_in-name.result.0 name c.change_in-name.result.1 entry (sym c.change_in-name.ensures ∙ is) in
    let here : live_in i c.change_in-name.result.0 ≡ Some known = ap (live_in i) whose ∙ lives in
    let gone : c.take-gone.result ≡ count_gone known.stream c.change_in-name.result.1 = c.take-gone.ensures.gone i known h (subst (λ (r : Rec). MayFollowImage i r) c.change_in-name.ensures may) here in
    c.notices_of.ensures ∙ told_all name c.args.prepared.told c.change_in-name.result.0 entry c.number_put-stored.result c.take-gone.result (count_gone known.stream entry)
    (p.2.told ∙ same_name p.0 name p.1 entry (sym p.2.record_is ∙ is))
    whose
    (c.number_put-stored.ensures ∙ ap stored_number what)
    (gone ∙ ap (count_gone known.stream) what)
