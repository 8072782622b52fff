use borrow.Author.Rules.{rules}
use mathlib.Core.Path.{ap, sym, ◌∙◌}
use native.Mathlib.Nat as Nat
use native.Mathlib.Omega.{arith}
use Prim.Native.Nat.{◌*◌, ◌≤◌}
use lib.ListN.{length-take}
use Rattle.gate_rounds.specs.Singles.{rooms}
use Rattle.gate_rounds.proofs.three_rooms.Goals as goal

pub slice_bounds-three-end : goal.slice_bounds-three-end
slice_bounds-three-end c =
    let h : 3 * c.args.n ≤ 3072 = omega (arith, c.requires.6) in
    sym (length-take (3 * c.args.n) _ ∙ Nat.min-eq_left h)

pub three-requires : goal.three-requires
three-requires c = (c.requires.0, c.requires.1, c.requires.2, ap rooms c.requires.4, search rules, c.requires.3, c.requires.4, c.requires.5, c.requires.6)
