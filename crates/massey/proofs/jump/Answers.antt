use native.Mathlib.Nat as Nat
use native.Mathlib.Omega.{arith}
use Rattle.element.specs.Lent.{LogOf, log-room}
use Rattle.massey.specs.Entries.{product-log}
use Rattle.massey.specs.Loops.{jump-first, jump-last, jump-step}
use Rattle.massey.proofs.jump.Goals as goal
use Rattle.massey.proofs.jump.Goals.{After-log-m}

-- the logs of d and e
module _ (c : After-log-m) where
  log-d : LogOf c.args.f.q c.args.d c.log-k.result
  log-d = c.log-k.ensures.log c.args.f.q c.requires.0.logs c.requires.3 c.requires.4

  log-e : LogOf c.args.f.q c.args.e c.log-m.result
  log-e = c.log-m.ensures.log c.args.f.q c.requires.0.logs c.requires.5 c.requires.6

pub log-k-requires : goal.log-k-requires
log-k-requires c = Nat.lt_of_lt_of_le c.requires.4 (log-room c.args.f c.args.powers.now c.args.logs.now c.requires.0)

pub log-m-requires : goal.log-m-requires
log-m-requires c = Nat.lt_of_lt_of_le c.requires.6 (log-room c.args.f c.args.powers.now c.args.logs.now c.requires.0)

pub loop-i-init : goal.loop-i-init
loop-i-init c = jump-first _ _ _ _ _ c.requires.1 c.requires.2

pub multiple-requires : goal.multiple-requires
multiple-requires c = (c.requires.0, (log-d (goal.at.multiple-requires c).After-log-m).below, c.loop-i.invariant.small.lt c.loop-i.i)

pub multiple-requires-in-loop-i : goal.multiple-requires-in-loop-i
multiple-requires-in-loop-i c = (c.requires.0, (log-e (goal.at.multiple-requires-in-loop-i c).After-log-m).below, c.loop-i.invariant.sums.small.lt c.loop-i.i)

pub loop-i-preserved : goal.loop-i-preserved
loop-i-preserved c = jump-step c.loop-i.invariant (omega arith) c.requires.7 (product-log (log-d (goal.at.loop-i-preserved c).After-log-m) c.multiple.ensures) (product-log (log-e (goal.at.loop-i-preserved c).After-log-m) c.multiple-in-loop-i.ensures)

pub returns : goal.returns
returns c = jump-last c.loop-i.invariant c.requires.7 (omega arith)
