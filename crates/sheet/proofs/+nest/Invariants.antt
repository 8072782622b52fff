-- i falls
use Rattle.sheet.proofs.+nest.Given as goal

abbrev pub decreases-nest : goal.decreases-nest
decreases-nest l = l.i
