use Rattle.massey.specs.Entries.{Dot}
use Rattle.massey.proofs.discrepancy.Given as goal

abbrev pub invariant-loop-i : goal.invariant-loop-i
invariant-loop-i l = Dot l.f.q l.s l.sig l.r l.i l.d
