use native.Mathlib.Omega.{arith}
use Rattle.sizes.specs.Quoting.{quoting-start, quoting-next, quoting-done}
use Rattle.sizes.proofs.quote_into.Goals as goal

pub loop-k-init : goal.loop-k-init
loop-k-init c = quoting-start _ _ c.requires.2

pub quoted_at-requires : goal.quoted_at-requires
quoted_at-requires c = (c.requires.0, c.requires.1, omega (arith, c.loop-k.invariant.exact))

pub loop-k-preserved : goal.loop-k-preserved
loop-k-preserved c = quoting-next _ _ _ _ (omega (arith, c.loop-k.invariant.exact)) c.loop-k.invariant c.quoted_at.ensures

pub returns : goal.returns
returns c = quoting-done _ _ _ (omega (arith, c.loop-k.invariant.exact)) c.loop-k.invariant
