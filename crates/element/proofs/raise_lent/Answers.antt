use mathlib.Core.Path.{◌≡◌, sym, ap, ◌∙◌}
use Prim.Native.Nat.{ℕ, ◌*◌, ◌-◌, ◌%◌, ◌^◌, ◌≤◌, ◌<◌}
use native.Mathlib.Nat.{pos_of_ne-zero, lt_of_lt_of_le, mul-le-mul}
use native.Mathlib.Omega.{arith}
use Rattle.element.specs.Exponents.{raise, raise_zero, raise-none}
use Rattle.element.specs.Fields.{size-most, size-least}
use Rattle.element.specs.Lent.{LogOf, power-room, log-room, exponent_lt, raise-lent}
use Rattle.element.proofs.raise_lent.Goals as goal
use Rattle.element.proofs.raise_lent.Goals.{After-log-i}

-- the exponent of the power
module _ (c : After-log-i) where
  log-a : LogOf c.args.f.q c.args.a c.log-i.result
  log-a = c.log-i.ensures.log c.args.f.q c.requires.0.logs (pos_of_ne-zero c.if-a-eq0.false) c.requires.1

  exponent : (c.log-i.result * c.args.k % c.args.f.order) ≡ c.log-i.result * c.args.k % (2 ^ c.args.f.q - 1)
  exponent = ap (λ (n : ℕ). c.log-i.result * c.args.k % n) c.requires.0.field.order

  below : (c.log-i.result * c.args.k % c.args.f.order) < 2 ^ c.args.f.q - 1
  below = exponent_lt c.args.f.q c.requires.0.field.known (c.log-i.result * c.args.k % c.args.f.order) (c.log-i.result * c.args.k) exponent

pub returns-then-k-eq0 : goal.returns-then-k-eq0
returns-then-k-eq0 c = let s = c.args in sym (ap (raise s.f.q s.a) c.if-k-eq0.true ∙ raise_zero s.f.q s.a)

pub returns-then-a-eq0 : goal.returns-then-a-eq0
returns-then-a-eq0 c =
    let s = c.args in
    sym (ap (λ (x : ℕ). raise s.f.q x s.k) c.if-a-eq0.true ∙ raise-none s.f.q s.k (pos_of_ne-zero c.if-k-eq0.false))

pub log-i-requires : goal.log-i-requires
log-i-requires c = lt_of_lt_of_le c.requires.1 (log-room c.args.f c.args.powers.now c.args.logs.now c.requires.0)

pub overflow_mul-e : goal.overflow_mul-e
overflow_mul-e c =
    let h : c.log-i.result ≤ 4096 = omega (arith, (log-a (goal.at.overflow_mul-e c).After-log-i).below, size-most c.args.f.q c.requires.0.field.known) in
    let l : c.args.k ≤ 2 ^ 32 = omega (arith, c.ranges.k) in
    record { fits = omega (arith, mul-le-mul h l) }

pub nonzero_rem-e : goal.nonzero_rem-e
nonzero_rem-e c = omega (arith, c.requires.0.field.order, size-least c.args.f.q c.requires.0.field.known)

pub overflow_cast-e-2 : goal.overflow_cast-e-2
overflow_cast-e-2 c = record { fits = omega (arith, below (goal.at.overflow_cast-e-2 c).After-log-i, size-most c.args.f.q c.requires.0.field.known) }

pub root-requires : goal.root-requires
root-requires c = lt_of_lt_of_le (below (goal.at.root-requires c).After-log-i) (power-room c.args.f c.args.powers.now c.args.logs.now c.requires.0)

pub returns : goal.returns
returns c =
    c.root.ensures.root c.args.f.q c.requires.0.powers (below (goal.at.returns c).After-log-i)
    ∙ raise-lent c.args.f.q c.requires.0.field.known c.args.a c.args.k c.log-i.result (c.log-i.result * c.args.k % c.args.f.order) (log-a (goal.at.returns c).After-log-i) (exponent (goal.at.returns c).After-log-i)
