use native.Mathlib.Omega.{arith}
use Rattle.reduction.specs.Step.{stepping-less}
use Rattle.reduction.proofs.remainder.step_whole.Goals as goal

pub step_word-requires : goal.step_word-requires
step_word-requires c = stepping-less _ _ c.args.p 0 (omega arith) c.requires

pub step_word-requires-else-p-lt384 : goal.step_word-requires-else-p-lt384
step_word-requires-else-p-lt384 c = stepping-less _ _ c.args.p 384 c.if-p-lt384.false c.requires
