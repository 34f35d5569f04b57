use Rattle.gw_time.proofs.Rules.{same_in_32, moment_same}
use Rattle.gw_time.proofs.rule.posix_moment.Goals as goal

pub returns : goal.returns
returns c year seconds = moment_same c.args.moment _ year seconds (record {
  day = c.posix_day.ensures;
  seconds = same_in_32 c.args.moment.seconds c.requires.from c.requires.to;
})
