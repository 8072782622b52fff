use mathlib.Core.Path.{ap, ◌∙◌}
use Prim.Native.Nat.{ℕ}
use lib.Dec.{eqb}
use Rattle.judge.proofs.passes.Goals as goal

pub remainder_at-requires : goal.remainder_at-requires
remainder_at-requires c = (c.requires.0, c.requires.1, c.requires.2, c.requires.3, c.requires.4, c.requires.5)

pub returns : goal.returns
returns c = c.is_zero.ensures ∙ ap (λ (y : ℕ). eqb y 0) c.remainder_at.ensures.0
