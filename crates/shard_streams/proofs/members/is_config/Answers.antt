use Rattle.shard_streams.proofs.SameConfigs.{is-same, is-other}
use Rattle.shard_streams.proofs.members.is_config.Goals as goal

pub returns-then-fits : goal.returns-then-fits
returns-then-fits c = λ h stands is.
    is-same c.args.state.now h c.args.entry.now c.args.config.now c.config.result.now c.has_limits.result stands is ((c.fits.ensures h stands).0 c.if-fits.true) c.config.ensures c.has_limits.ensures

pub returns-else-fits : goal.returns-else-fits
returns-else-fits c = λ h stands is.
    is-other c.args.state.now h c.args.entry.now c.args.config.now c.fits.result stands is (c.fits.ensures h stands) c.if-fits.false
