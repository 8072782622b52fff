use mathlib.Core.Path.{◌≡◌, ap, ◌∙◌}
use Prim.Native.Nat.{ℕ, ◌+◌, ◌-◌, ◌%◌, ◌^◌, ◌<◌}
use native.Mathlib.Nat as Nat
use native.Mathlib.Omega.{arith}
use Rattle.field.specs.Elements.{power}
use Rattle.element.specs.Fields.{size-most}
use Rattle.element.specs.Lent.{LogOf, exponent_lt, log-room, power-room}
use Rattle.unmix.specs.Nodes.{Divided}
use Rattle.unmix.specs.Weights.{quotient_is, quotient-zero}
use Rattle.unmix.proofs.quotient.Goals as goal
use Rattle.unmix.proofs.quotient.Goals.{After-log-k, After-modulo-e}

-- the logs
module _ (c : After-log-k) where
  log-a : LogOf c.args.f.q c.args.a c.log-i.result
  log-a = c.log-i.ensures.log c.args.f.q c.requires.0.logs (Nat.pos_of_ne-zero c.if-a-eq0.false) c.requires.1

  log-d : LogOf c.args.f.q c.args.d c.log-k.result
  log-d = c.log-k.ensures.log c.args.f.q c.requires.0.logs c.requires.2 c.requires.3

-- the exponent of the quotient
module _ (c : After-modulo-e) where
  exponent : c.modulo-e.result ≡ (c.log-i.result + (2 ^ c.args.f.q - 1) - c.log-k.result) % (2 ^ c.args.f.q - 1)
  exponent = c.modulo-e.ensures.0 ∙ ap (λ (n : ℕ). (c.log-i.result + n - c.log-k.result) % n) c.requires.0.field.order

  below : c.modulo-e.result < 2 ^ c.args.f.q - 1
  below = exponent_lt c.args.f.q c.requires.0.field.known c.modulo-e.result (c.log-i.result + (2 ^ c.args.f.q - 1) - c.log-k.result) exponent

pub returns-then-a-eq0 : goal.returns-then-a-eq0
returns-then-a-eq0 c = quotient-zero c.args.f.q c.requires.0.field.known c.args.a c.args.d c.if-a-eq0.true

pub log-i-requires : goal.log-i-requires
log-i-requires c = Nat.lt_of_lt_of_le c.requires.1 (log-room c.args.f c.args.powers.now c.args.logs.now c.requires.0)

pub log-k-requires : goal.log-k-requires
log-k-requires c = Nat.lt_of_lt_of_le c.requires.3 (log-room c.args.f c.args.powers.now c.args.logs.now c.requires.0)

pub overflow_add-i : goal.overflow_add-i
overflow_add-i c = omega (arith, (log-a (goal.at.overflow_add-i c).After-log-k).below, c.requires.0.field.order, size-most c.args.f.q c.requires.0.field.known)

pub overflow_sub-i : goal.overflow_sub-i
overflow_sub-i c = omega (arith, (log-d (goal.at.overflow_sub-i c).After-log-k).below, c.requires.0.field.order)

pub modulo-e-requires : goal.modulo-e-requires
modulo-e-requires c = omega (arith, (log-a (goal.at.modulo-e-requires c).After-log-k).below, (log-d (goal.at.modulo-e-requires c).After-log-k).below, c.requires.0.field.order)

pub root-r-requires : goal.root-r-requires
root-r-requires c = Nat.lt_of_lt_of_le (below (goal.at.root-r-requires c).After-modulo-e) (power-room c.args.f c.args.powers.now c.args.logs.now c.requires.0)

pub overflow_cast-result : goal.overflow_cast-result
overflow_cast-result c =
    let root_is : c.root-r.result ≡ power c.args.f.q c.modulo-e.result = c.root-r.ensures.root c.args.f.q c.requires.0.powers (below (goal.at.overflow_cast-result c).After-modulo-e) in
    let is : (Divided c.args.f.q c.args.a c.args.d c.root-r.result) = quotient_is c.args.f.q c.requires.0.field.known c.args.a c.args.d c.log-i.result c.log-k.result c.modulo-e.result c.root-r.result
    c.requires.2 c.requires.3 (log-a (goal.at.overflow_cast-result c).After-log-k) (log-d (goal.at.overflow_cast-result c).After-log-k) (exponent (goal.at.overflow_cast-result c).After-modulo-e) root_is in
    omega (arith, (is).small, size-most c.args.f.q c.requires.0.field.known)

pub returns : goal.returns
returns c =
    let root_is : c.root-r.result ≡ power c.args.f.q c.modulo-e.result = c.root-r.ensures.root c.args.f.q c.requires.0.powers (below (goal.at.returns c).After-modulo-e) in
    let is : (Divided c.args.f.q c.args.a c.args.d c.root-r.result) = quotient_is c.args.f.q c.requires.0.field.known c.args.a c.args.d c.log-i.result c.log-k.result c.modulo-e.result c.root-r.result
    c.requires.2 c.requires.3 (log-a (goal.at.returns c).After-log-k) (log-d (goal.at.returns c).After-log-k) (exponent (goal.at.returns c).After-modulo-e) root_is in
    is
