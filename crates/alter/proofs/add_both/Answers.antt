use mathlib.Core.Path.{ap, ◌∙◌}
use native.Mathlib.Omega.{arith}
use Prim.Native.Nat.{ℕ, ◌*◌, ◌^◌}
use lib.ListN.{length}
use Rattle.polynomial.specs.Digits.{value}
use Rattle.polynomial.specs.Xor.{xor}
use Rattle.alter.specs.Sum.{no_shift}
use Rattle.alter.proofs.add_both.Goals as goal

pub add_up-requires : goal.add_up-requires
add_up-requires c = omega (arith, c.requires.1)

pub flip-requires : goal.flip-requires
flip-requires c = omega (arith, c.requires.0, c.part-1.given)

pub returns : goal.returns
returns c =
    let a = c.args in
    c.flip.ensures ∙ ap (λ (f : ℕ). xor f (2 ^ a.e)) (c.add_up.ensures ∙ ap (xor (value 8 a.part.now)) (no_shift (value 8 a.y.now) (8 * length a.part.now) c.requires.2))
