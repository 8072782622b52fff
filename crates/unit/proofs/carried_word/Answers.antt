use mathlib.Core.Path.{ap, ◌∙◌}
use Prim.Native.Nat.{ℕ}
use native.Mathlib.Omega.{arith}
use lib.Dec.{lit≤}
use lib.Pow.{pow_pos}
use Rattle.code.proofs.Accepted.{accepted}
use Rattle.code.specs.Layout.{data_bits}
use Rattle.layout.specs.Sizes.{level-low}
use Rattle.layout.specs.Written.{written}
use Rattle.encode.specs.Encoding.{word_from}
use Rattle.encode.specs.Loaded.{loaded-plain}
use Rattle.unit.specs.Unit.{no-data}
use Rattle.unit.proofs.carried_word.Goals as goal

pub check_bits-bits-requires : goal.check_bits-bits-requires
check_bits-bits-requires c = (c.requires.0.accepts, c.requires.0.degrees)

pub prepare-requires : goal.prepare-requires
prepare-requires c =
    let a = c.args in
    (c.requires.0.accepts, c.requires.0.generated, rw c.level_of-a.ensures (level-low a.p a.j), rw c.level_of-a.ensures c.check_bits-bits.ensures, c.requires.0.table)

pub write_early-requires : goal.write_early-requires
write_early-requires c =
    let a = c.args in (
      record { accepts = c.requires.0.accepts; degrees = c.requires.0.degrees; exact = c.requires.0.exact; low = lit≤ tt; high = lit≤ tt },
      omega (arith, c.requires.1, (accepted a.p c.requires.0.accepts).m-low),
      loaded-plain a.p _ _ (rw c.level_of-a.ensures at c.prepare.ensures),
      rw (no-data 104) (pow_pos (data_bits a.p a.j)),
      c.requires.1,
      c.requires.2,
    )

pub returns : goal.returns
returns c =
    let a = c.args in
    c.write_early.ensures ∙ ap (λ (d : ℕ). written a.p a.unit.now a.j (word_from a.p d a.unit.now a.j)) (no-data 104)
