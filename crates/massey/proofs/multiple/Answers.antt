use Prim.Native.Nat.{◌+◌, ◌-◌, ◌^◌, ◌<◌}
use native.Mathlib.Nat as Nat
use Rattle.element.specs.Lent.{LogOf, exponent_lt, log-room, power-room, root_in}
use Rattle.massey.specs.Entries.{multiple-is, multiple-zero}
use Rattle.massey.proofs.multiple.Goals as goal
use Rattle.massey.proofs.multiple.Goals.{After-add_logs-e, After-log-j}

-- the log
module _ (c : After-log-j) where
  log_is : LogOf c.args.f.q c.args.b c.log-j.result
  log_is = c.log-j.ensures.log c.args.f.q c.requires.0.logs (Nat.pos_of_ne-zero c.if-b-eq0.false) c.requires.2

-- the exponent of the product
below : (c : After-add_logs-e) → c.add_logs-e.result < 2 ^ c.args.f.q - 1
below c = exponent_lt c.args.f.q c.requires.0.field.known c.add_logs-e.result (c.args.k + c.log-j.result) c.add_logs-e.ensures

pub returns-then-b-eq0 : goal.returns-then-b-eq0
returns-then-b-eq0 c = multiple-zero c.args.f.q c.requires.0.field.known c.args.k c.args.b c.if-b-eq0.true

pub log-j-requires : goal.log-j-requires
log-j-requires c = Nat.lt_of_lt_of_le c.requires.2 (log-room c.args.f c.args.powers.now c.args.logs.now c.requires.0)

pub add_logs-e-requires : goal.add_logs-e-requires
add_logs-e-requires c = (c.requires.0.field, c.requires.1, (log_is (goal.at.add_logs-e-requires c).After-log-j).below)

pub bounds-powers-e : goal.bounds-powers-e
bounds-powers-e c = Nat.lt_of_lt_of_le (below (goal.at.bounds-powers-e c).After-add_logs-e) (power-room c.args.f c.args.powers.now c.args.logs.now c.requires.0)

pub returns : goal.returns
returns c =
    let t = c.requires.0 in
    multiple-is c.args.f.q t.field.known c.args.k c.args.b c.log-j.result c.add_logs-e.result _ c.requires.1 c.requires.2 (log_is (goal.at.returns c).After-log-j) c.add_logs-e.ensures
    ((root_in c.args.powers.now c.add_logs-e.result).root c.args.f.q t.powers (below (goal.at.returns c).After-add_logs-e))
