use native.Mathlib.Nat as Nat
use native.Mathlib.Omega.{arith}
use Rattle.element.specs.Lent.{LogOf, log-room}
use Rattle.massey.specs.Entries.{product-log, upto-first, upto-last, upto_step}
use Rattle.massey.proofs.add_times.Goals as goal
use Rattle.massey.proofs.add_times.Goals.{After-log-k}

-- the log of d
module _ (c : After-log-k) where
  log_is : LogOf c.args.f.q c.args.d c.log-k.result
  log_is = c.log-k.ensures.log c.args.f.q c.requires.0.logs c.requires.3 c.requires.4

pub log-k-requires : goal.log-k-requires
log-k-requires c = Nat.lt_of_lt_of_le c.requires.4 (log-room c.args.f c.args.powers.now c.args.logs.now c.requires.0)

pub loop-i-init : goal.loop-i-init
loop-i-init c = upto-first _ _ _ _ c.requires.1

pub multiple-requires : goal.multiple-requires
multiple-requires c = (c.requires.0, (log_is (goal.at.multiple-requires c).After-log-k).below, c.requires.2.lt c.loop-i.i)

pub loop-i-preserved : goal.loop-i-preserved
loop-i-preserved c = upto_step c.loop-i.invariant (omega arith) (product-log (log_is (goal.at.loop-i-preserved c).After-log-k) c.multiple.ensures)

pub returns : goal.returns
returns c = upto-last c.requires.5 c.loop-i.invariant (omega arith)
