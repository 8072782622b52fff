use mathlib.Core.Path.{refl, ap, ◌∙◌}
use native.Mathlib.Nat as Nat
use Prim.Native.Nat.{ℕ, ◌-◌, ◌*◌, ◌^◌, ◌%◌}
use Rattle.polynomial.specs.Division.{lt-of-shr}
use Rattle.polynomial.specs.Xor.{xor, xor_is}
use Rattle.syndrome.specs.Squares.{taken-off, raised-fits}
use Rattle.syndrome.proofs.reduce_at.Goals as goal

pub returns-then-y-k-eq0 : goal.returns-then-y-k-eq0
returns-then-y-k-eq0 c = (refl, lt-of-shr c.args.k c.if-y-k-eq0.true)

pub returns-else-y-k-eq0 : goal.returns-else-y-k-eq0
returns-else-y-k-eq0 c =
    let k = c.args.k in
    taken-off c.args.q c.requires.0 c.args.y k _ c.requires.2 c.requires.4 c.if-y-k-eq0.false
    (xor_is c.args.y _ ∙ ap (xor c.args.y) (ap (λ (g : ℕ). g * 2 ^ (k - c.args.q) % 2 ^ 32) c.requires.1 ∙ Nat.mod-eq_of_lt (raised-fits c.args.q c.requires.0 k c.requires.2 c.requires.3)))
