use Rattle.run_times.specs.Bars.{runs_in}
use Rattle.run_times.proofs.BarsLemmas.{added_one_more, added_all}
use Rattle.run_times.proofs.picture.chart.add_bars.Goals as goal

pub loop-bar-preserved : goal.loop-bar-preserved
loop-bar-preserved c = added_one_more c.args.others.now c.loop-bar.bar-index _ (runs_in c.args.bars.now.items) (runs_in c.loop-bar.bars.items) _ c.loop-bar-test.true c.loop-bar.invariant c.in-Ok.ensures.runs

pub returns : goal.returns
returns c = added_all c.args.others.now c.loop-bar.bar-index (runs_in c.args.bars.now.items) _ c.loop-bar-test.false c.loop-bar.invariant
