use Rattle.massey.specs.Entries.{Upto}
use Rattle.massey.proofs.add_times.Given as goal

abbrev pub invariant-loop-i : goal.invariant-loop-i
invariant-loop-i l = Upto l.f.q l.initial.sig l.old l.d l.i l.sig
