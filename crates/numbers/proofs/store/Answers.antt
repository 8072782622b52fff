use Rattle.numbers.specs.List.{stored-start, stored_next, stored-all}
use Rattle.numbers.proofs.store.Goals as goal

pub loop-i-init : goal.loop-i-init
loop-i-init c = stored-start c.args.numbers.now c.args.list.now c.requires

pub loop-i-preserved : goal.loop-i-preserved
loop-i-preserved c = stored_next c.args.numbers.now c.loop-i.list _ c.loop-i.i c.loop-i.invariant c.loop-i-test.true c.put.auto.list c.put.ensures

pub returns : goal.returns
returns c = stored-all c.args.numbers.now c.loop-i.list c.loop-i.i c.loop-i.invariant c.loop-i-test.false
