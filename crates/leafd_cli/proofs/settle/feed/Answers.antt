use Rattle.std.proofs.Common.{◌≡◌, ◌<◌, Some, List, get_or, refl, sym, ap, subst, ◌∙◌}
use Rattle.stream_fold.specs.declared.entry.Numbered.{Numbered}
use Rattle.stream_fold.specs.Histories.{last}
use Rattle.stream_fold.specs.Fits.{index_count}
use Rattle.leafd_cli.specs.Logs.{StreamLog, limits_of}
use Rattle.leafd_cli.specs.Plain.{missing, no_stream}
use Rattle.leafd_cli.specs.Keeping.{CanFollow}
use Rattle.leafd_cli.proofs.Growing.{feeds_mirror, feeds_follow, stream_is}
use Rattle.leafd_cli.proofs.settle.feed.Goals as goal

pub take_rows-requires-clause-mirror : goal.take_rows-requires-clause-mirror
take_rows-requires-clause-mirror c =
    let streams = c.args.streams.now.items in
    let place = c.args.place in
    let s = c.index_mut-stream.result.now in
    let found : missing streams (get_or streams place no_stream) ≡ Some c.in-Some.rows = ap (λ xs. missing xs (get_or xs place no_stream)) (sym c.deref.ensures.value) ∙ (sym c.in_ok-rows.ensures ∙ c.in-Some.is) in
    let P : StreamLog → Type 0 = λ x. 0 < index_count (limits_of x).copies in
    subst P (sym (stream_is streams streams place s c.requires.place refl c.index_mut-stream.ensures.value)) (feeds_mirror streams place c.in-Some.rows c.requires.place c.requires.kept found)

pub take_rows-requires-clause-rows : goal.take_rows-requires-clause-rows
take_rows-requires-clause-rows c =
    let streams = c.args.streams.now.items in
    let place = c.args.place in
    let s = c.index_mut-stream.result.now in
    let found : missing streams (get_or streams place no_stream) ≡ Some c.in-Some.rows = ap (λ xs. missing xs (get_or xs place no_stream)) (sym c.deref.ensures.value) ∙ (sym c.in_ok-rows.ensures ∙ c.in-Some.is) in
    let P : StreamLog → Type 0 = λ x. CanFollow (last x.entries) c.as_slice.result.now in
    let Q : List Numbered → Type 0 = λ rows. CanFollow (last (get_or streams place no_stream).entries) rows in
    subst P (sym (stream_is streams streams place s c.requires.place refl c.index_mut-stream.ensures.value)) (subst Q (sym c.as_slice.ensures) (feeds_follow streams place c.in-Some.rows c.requires.place c.requires.kept found))
