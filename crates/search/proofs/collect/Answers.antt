use native.Mathlib.Omega.{arith}
use Rattle.search.specs.Zeros.{collect-first}
use Rattle.search.proofs.collect.Goals as goal

pub loop-k-init : goal.loop-k-init
loop-k-init c = (collect-first _ _, omega arith)
