use mathlib.Core.Path.{◌≡◌}
use native.Mathlib.Omega.{arith}
use Prim.Native.Nat.{◌*◌}
use lib.ListN.{length}
use Rattle.code.proofs.Filled.{filled-first, filled_next}
use Rattle.syndrome.specs.Squares.{all-filled}
use Rattle.syndrome.proofs.all_into.Goals as goal

pub loop-j-init : goal.loop-j-init
loop-j-init c = filled-first _ _

pub next_of-requires : goal.next_of-requires
next_of-requires c = (c.requires.0, omega arith, omega arith, c.loop-j.invariant)

pub loop-j-preserved : goal.loop-j-preserved
loop-j-preserved c = filled_next _ c.loop-j.j _ c.loop-j.list c.loop-j.invariant (omega arith) c.next_of.ensures

pub returns : goal.returns
returns c =
    let w : c.loop-j.j ≡ 2 * length c.args.odd.now = omega arith in
    all-filled _ (2 * length c.args.odd.now) c.loop-j.list (rw w at c.loop-j.invariant) (omega arith)
