use Prim.Native.Nat.{◌-◌}
use Rattle.unmix.specs.Sums.{Taking}
use Rattle.unmix.proofs.take_out.Given as goal

abbrev pub invariant-loop-l : goal.invariant-loop-l
invariant-loop-l l = Taking l.f.q l.y l.initial.sums (l.l - 1) l.sums
