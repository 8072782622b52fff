use lib.ListN.{length}
use Rattle.encode.specs.Horner.{over-one, over-two}
use Rattle.encode.proofs.raise_over.Goals as goal

pub returns-then-i-eq1 : goal.returns-then-i-eq1
returns-then-i-eq1 c = over-one c.args.i (length c.args.a.now) (length c.args.b.now) _ _ _ _ c.if-i-eq1.true c.requires.1 c.raise.ensures

pub returns : goal.returns
returns c = over-two c.args.i (length c.args.a.now) (length c.args.b.now) (length c.args.c.now) _ _ _ _ _ c.requires.1 c.requires.2 c.raise.ensures c.raise-2.ensures
