use Prim.Native.Nat.{◌+◌, ◌*◌}
use Rattle.field.specs.Elements.{syndrome}
use Rattle.field.specs.Flips.{flips}
use Rattle.code.specs.Filled.{Filled}
use Rattle.syndrome.specs.Sum.{Runs}
use Rattle.syndrome.proofs.sums_into.Given as goal

abbrev pub invariant-loop-x : goal.invariant-loop-x
invariant-loop-x l = Runs l.f.q 2 l.initial.e l.d × Runs l.f.q (2 * l.x-index + 1) l.initial.e l.e × Filled (λ k. syndrome l.f.q (flips l.initial.e) (2 * k + 1)) l.x-index l.list
