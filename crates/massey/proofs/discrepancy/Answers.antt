use Prim.Native.Nat.{◌-◌}
use native.Mathlib.Omega.{arith}
use Rattle.massey.specs.Entries.{dot-first, dot-last, dot-step}
use Rattle.massey.proofs.discrepancy.Goals as goal

pub loop-i-init : goal.loop-i-init
loop-i-init c = dot-first _ _ _ _

pub product-d-requires : goal.product-d-requires
product-d-requires c = (c.requires.0, c.requires.1.lt c.loop-i.i, c.requires.2.lt (c.args.r - c.loop-i.i))

pub loop-i-preserved : goal.loop-i-preserved
loop-i-preserved c = dot-step c.loop-i.invariant c.product-d.ensures

pub returns : goal.returns
returns c = dot-last _ (omega arith) c.loop-i.invariant

pub returns-2 : goal.returns-2
returns-2 c = dot-last _ (omega arith) (dot-step c.loop-i.invariant c.product-d.ensures)
