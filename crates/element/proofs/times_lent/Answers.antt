use mathlib.Core.Path.{sym, ap, ◌∙◌}
use Rattle.std.proofs.Common.{inl, inr}
use Prim.Native.Nat.{ℕ, ◌+◌, ◌-◌, ◌^◌, ◌<◌}
use native.Mathlib.Nat.{pos_of_ne-zero, lt_of_lt_of_le}
use Rattle.field.specs.Elements.{times}
use Rattle.element.specs.Exponents.{times-zero-l, times-zero-r}
use Rattle.element.specs.Lent.{LogOf, power-room, log-room, exponent_lt, times-lent}
use Rattle.element.proofs.times_lent.Goals as goal
use Rattle.element.proofs.times_lent.Goals.{After-add_logs-e, After-log-j}

-- the logs
module _ (c : After-log-j) where
  log-a : LogOf c.args.f.q c.args.a c.log-i.result
  log-a = c.log-i.ensures.log c.args.f.q c.requires.0.logs (pos_of_ne-zero c.if-a-eq0.false) c.requires.1

  log-b : LogOf c.args.f.q c.args.b c.log-j.result
  log-b = c.log-j.ensures.log c.args.f.q c.requires.0.logs (pos_of_ne-zero c.if-b-eq0.false) c.requires.2

-- the exponent of the product
module _ (c : After-add_logs-e) where
  below : c.add_logs-e.result < 2 ^ c.args.f.q - 1
  below = exponent_lt c.args.f.q c.requires.0.field.known c.add_logs-e.result (c.log-i.result + c.log-j.result) c.add_logs-e.ensures

pub returns-then-a-eq0 : goal.returns-then-a-eq0
returns-then-a-eq0 c =
    let s = c.args in
    elim c.then-a-eq0.either [
      | inl a ↦ sym (ap (λ (x : ℕ). times s.f.q x s.b) a ∙ times-zero-l s.f.q s.b)
      | inr b ↦ sym (ap (λ (x : ℕ). times s.f.q s.a x) b.1 ∙ times-zero-r s.f.q s.a)
    ]

pub log-i-requires : goal.log-i-requires
log-i-requires c = lt_of_lt_of_le c.requires.1 (log-room c.args.f c.args.powers.now c.args.logs.now c.requires.0)

pub log-j-requires : goal.log-j-requires
log-j-requires c = lt_of_lt_of_le c.requires.2 (log-room c.args.f c.args.powers.now c.args.logs.now c.requires.0)

pub add_logs-e-requires : goal.add_logs-e-requires
add_logs-e-requires c = (c.requires.0.field, (log-a (goal.at.add_logs-e-requires c).After-log-j).below, (log-b (goal.at.add_logs-e-requires c).After-log-j).below)

pub root-requires : goal.root-requires
root-requires c = lt_of_lt_of_le (below (goal.at.root-requires c).After-add_logs-e) (power-room c.args.f c.args.powers.now c.args.logs.now c.requires.0)

pub returns : goal.returns
returns c =
    c.root.ensures.root c.args.f.q c.requires.0.powers (below (goal.at.returns c).After-add_logs-e)
    ∙ times-lent c.args.f.q c.requires.0.field.known c.args.a c.args.b c.log-i.result c.log-j.result c.add_logs-e.result (log-a (goal.at.returns c).After-log-j) (log-b (goal.at.returns c).After-log-j) c.add_logs-e.ensures
