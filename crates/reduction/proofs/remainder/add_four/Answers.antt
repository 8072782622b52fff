-- The four rows are those that u chooses: four-at.
use Prim.Native.Nat.{ℕ, ◌+◌, ◌*◌, ◌/◌, ◌%◌, ◌<◌}
use native.Mathlib.Omega.{arith}
use mathlib.Core.Path.{◌≡◌, ap, ◌∙◌}
use Rattle.polynomial.specs.Xor.{xor}
use Rattle.reduction.specs.Step.{RowFrom}
use Rattle.reduction.specs.Table.{four-at, row-clear}
use Rattle.reduction.proofs.remainder.add_four.Goals as goal

pub add_rows-requires : goal.add_rows-requires
add_rows-requires c =
    let z = row-clear c.args.t.now c.args.from c.requires.1 (λ k. (c.type_inv.t k).fits) c.requires.0.table c.requires.0.from in
    let row : (n at : ℕ) → n < 256 → at ≡ n * 12 → RowFrom c.args.t.now at c.args.from = λ n at h e. record { inside = omega (arith, h, e); clear = z n at h e } in (
      c.requires.0,
      row (64 * c.args.k + c.args.u % 16) (c.args.k * 768 + c.args.u % 16 * 12) (omega arith) (omega arith),
      row (64 * c.args.k + 16 + c.args.u / 16 % 16) (c.args.k * 768 + 192 + c.args.u / 16 % 16 * 12) (omega arith) (omega arith),
      row (64 * c.args.k + 32 + c.args.u / 256 % 16) (c.args.k * 768 + 384 + c.args.u / 256 % 16 * 12) (omega arith) (omega arith),
      row (64 * c.args.k + 48 + c.args.u / 4096 % 16) (c.args.k * 768 + 576 + c.args.u / 4096 % 16 * 12) (omega arith) (omega arith),
    )

pub returns : goal.returns
returns c =
    let q = c.add_rows.ensures in
    (q.0 ∙ ap (xor _) (four-at c.args.t.now c.args.k c.args.u), q.1)
