use native.Mathlib.Nat as Nat
use native.Mathlib.Omega.{arith}
use Prim.Native.Nat.{◌-◌, ◌*◌, ◌≤◌}
use lib.ListN.{length}
use Rattle.code.proofs.Accepted.{accepted}
use Rattle.layout.specs.Sizes.{level-low}
use Rattle.encode.specs.Loaded.{loaded-plain}
use Rattle.pages.proofs.write_level.Goals as goal

pub check_bits-bits-requires : goal.check_bits-bits-requires
check_bits-bits-requires c = let g = c.requires.0.filling.given in (g.accepts, g.degrees)

pub prepare-requires : goal.prepare-requires
prepare-requires c = (c.requires.0.filling.given.accepts, c.requires.0.rowed, rw c.level_of-a.ensures (level-low c.args.p c.args.to), rw c.level_of-a.ensures c.check_bits-bits.ensures, c.requires.0.table)

pub overflow_mul-list : goal.overflow_mul-list
overflow_mul-list c =
    let a = c.args in
    let g = c.requires.0.filling.given in
    let d : a.from - a.to ≤ 8 = omega (arith, c.requires.1.inside, (accepted a.p g.accepts).m-high) in
    let h : length a.list.now * (a.from - a.to) ≤ 16 * 8 = Nat.mul-le-mul {n₂ = 16} {m₂ = 8} g.many d in
    omega arith

pub write_bytewise-requires : goal.write_bytewise-requires
write_bytewise-requires c =
    let f = c.bytes_pay.ensures c.if-bytes_pay.true in
    (c.requires.0.filling, c.requires.1, rw c.level_of-a.ensures at c.prepare.ensures, omega (arith, c.check_bits-bits.ensures, f.1), f.0, c.requires.2)

pub write_pages-requires : goal.write_pages-requires
write_pages-requires c =
    let a = c.args in
    let l = c.requires.1 in (
      c.requires.0.filling,
      record {
        rising = l.rising;
        inside = l.inside;
        loaded = λ i h j. rw (l.levels i h j) (loaded-plain a.p _ _ (rw c.level_of-a.ensures at c.prepare.ensures));
      },
      c.requires.2,
    )
