use Rattle.unmix.specs.Weights.{Unmixing}
use Rattle.unmix.proofs.weight_of.Given as goal

abbrev pub invariant-loop-k : goal.invariant-loop-k
invariant-loop-k l = Unmixing l.f.q l.j l.i l.others l.initial.sums l.k-index l.sums l.d
