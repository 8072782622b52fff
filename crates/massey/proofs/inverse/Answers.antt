use mathlib.Core.Path.{◌≡◌, ap, ◌∙◌}
use Prim.Native.Nat.{ℕ, ◌-◌, ◌%◌, ◌^◌, ◌<◌}
use native.Mathlib.Nat as Nat
use native.Mathlib.Omega.{arith}
use Rattle.field.specs.Elements.{power}
use Rattle.field.specs.Fields.{Known}
use Rattle.tables.specs.Powers.{power-lt}
use Rattle.element.specs.Fields.{size-most}
use Rattle.element.specs.Lent.{LogOf, exponent_lt, log-room, power-room}
use Rattle.massey.specs.Steps.{inverse-is}
use Rattle.massey.proofs.inverse.Goals as goal
use Rattle.massey.proofs.inverse.Goals.{After-log-k, After-modulo-e}

-- the log
module _ (c : After-log-k) where
  log_is : LogOf c.args.f.q c.args.d c.log-k.result
  log_is = c.log-k.ensures.log c.args.f.q c.requires.0.logs c.requires.1 c.requires.2

-- the exponent of the inverse
module _ (c : After-modulo-e) where
  exponent : c.modulo-e.result ≡ (2 ^ c.args.f.q - 1 - c.log-k.result) % (2 ^ c.args.f.q - 1)
  exponent = c.modulo-e.ensures.0 ∙ ap (λ (n : ℕ). (n - c.log-k.result) % n) c.requires.0.field.order

  below : c.modulo-e.result < 2 ^ c.args.f.q - 1
  below = exponent_lt c.args.f.q c.requires.0.field.known c.modulo-e.result (2 ^ c.args.f.q - 1 - c.log-k.result) exponent

power_small : (q : ℕ) → Known q → (e r : ℕ) → r ≡ power q e → r < 2 ^ q
power_small q known e r w = rw w (power-lt q known e)

pub log-k-requires : goal.log-k-requires
log-k-requires c = Nat.lt_of_lt_of_le c.requires.2 (log-room c.args.f c.args.powers.now c.args.logs.now c.requires.0)

pub overflow_sub-n : goal.overflow_sub-n
overflow_sub-n c = omega (arith, (log_is (goal.at.overflow_sub-n c).After-log-k).below, c.requires.0.field.order)

pub root-r-requires : goal.root-r-requires
root-r-requires c = Nat.lt_of_lt_of_le (below (goal.at.root-r-requires c).After-modulo-e) (power-room c.args.f c.args.powers.now c.args.logs.now c.requires.0)

pub overflow_cast-result : goal.overflow_cast-result
overflow_cast-result c =
    let root_is : c.root-r.result ≡ power c.args.f.q c.modulo-e.result = c.root-r.ensures.root c.args.f.q c.requires.0.powers (below (goal.at.overflow_cast-result c).After-modulo-e) in
    let small : c.root-r.result < 2 ^ c.args.f.q = power_small c.args.f.q c.requires.0.field.known c.modulo-e.result c.root-r.result root_is in
    omega (arith, small, size-most c.args.f.q c.requires.0.field.known)

pub returns : goal.returns
returns c =
    let root_is : c.root-r.result ≡ power c.args.f.q c.modulo-e.result = c.root-r.ensures.root c.args.f.q c.requires.0.powers (below (goal.at.returns c).After-modulo-e) in
    let small : c.root-r.result < 2 ^ c.args.f.q = power_small c.args.f.q c.requires.0.field.known c.modulo-e.result c.root-r.result root_is in
    (inverse-is c.args.f.q c.requires.0.field.known c.args.d c.log-k.result c.modulo-e.result c.root-r.result (log_is (goal.at.returns c).After-log-k) (exponent (goal.at.returns c).After-modulo-e) (root_is), small)
