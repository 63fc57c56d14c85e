use Rattle.std.proofs.Common.{refl, sym, subst}
use Rattle.record_codec.specs.declared.records.Rec.{Rec}
use Rattle.shard_machine.specs.Images.{MayFollowImage, next}
use Rattle.shard_streams.specs.HeldImages.{HoldsImage}
use Rattle.shard_streams.proofs.Telling.{free_of_record, state_of_record}
use Rattle.shard_streams.proofs.streams.Streams.commit_create.Goals as goal

pub creation_in-created-requires : goal.creation_in-created-requires
creation_in-created-requires c =
    let p = c.requires.prepared in
    (p.0, p.1, p.2.record_is)

pub make-requires : goal.make-requires
make-requires c =
    let p = c.requires.prepared in
    let f = c.requires.follows in
    let created = c.creation_in-created.result.0 in
    let config = c.creation_in-created.result.1 in
    record {
      place = free_of_record c.args.self.now.replay c.args.prepared p.0 config p.1 created p.2 c.creation_in-created.ensures;
      follows = (f.0, config, f.1, refl, state_of_record c.args.self.now.replay c.args.prepared p.0 config p.1 created p.2 c.creation_in-created.ensures, subst (λ (r : Rec). MayFollowImage f.0 r) c.creation_in-created.ensures f.2);
    }

pub returns : goal.returns
returns c = λ i h may.
    let p = c.requires.prepared in
    let created = c.creation_in-created.result.0 in
    let config = c.creation_in-created.result.1 in
    subst (λ (r : Rec). HoldsImage c.make.new.self.replay (next i r)) (sym c.creation_in-created.ensures)
    (c.make.ensures i config h refl (state_of_record c.args.self.now.replay c.args.prepared p.0 config p.1 created p.2 c.creation_in-created.ensures) (subst (λ (r : Rec). MayFollowImage i r) c.creation_in-created.ensures may))
