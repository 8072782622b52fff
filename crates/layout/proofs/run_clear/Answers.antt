use mir.Facts.{Fits-widen}
use Rattle.layout.specs.Runs.{run-test}
use Rattle.layout.proofs.run_clear.Goals as goal

pub overflow_cast-top : goal.overflow_cast-top
overflow_cast-top c = Fits-widen tt (c.type_inv.bytes _)

pub returns : goal.returns
returns c = run-test _ _ _ _ _ (λ i. (c.type_inv.bytes i).fits) c.requires.0 c.requires.2 c.requires.3 c.last_bound-bound.ensures
