use Rattle.unmix.specs.Others.{Kept}
use Rattle.unmix.proofs.others_into.Given as goal

abbrev pub invariant-loop-k : goal.invariant-loop-k
invariant-loop-k l = Kept l.i l.ks l.k-index l.c l.list
