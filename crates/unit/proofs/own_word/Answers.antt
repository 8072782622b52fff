use lib.Dec.{lit≤}
use Rattle.layout.specs.Sizes.{level-low}
use Rattle.encode.specs.Loaded.{loaded-plain}
use Rattle.unit.proofs.own_word.Goals as goal

pub check_bits-bits-requires : goal.check_bits-bits-requires
check_bits-bits-requires c = (c.requires.0.accepts, c.requires.0.degrees)

pub prepare-requires : goal.prepare-requires
prepare-requires c =
    let a = c.args in
    (c.requires.0.accepts, c.requires.0.generated, rw c.level_of-a.ensures (level-low a.p a.i), rw c.level_of-a.ensures c.check_bits-bits.ensures, c.requires.0.table)

pub write_alone-requires : goal.write_alone-requires
write_alone-requires c =
    let a = c.args in (
      record { accepts = c.requires.0.accepts; degrees = c.requires.0.degrees; exact = c.requires.0.exact; low = lit≤ tt; high = lit≤ tt },
      c.requires.1,
      loaded-plain a.p _ _ (rw c.level_of-a.ensures at c.prepare.ensures),
      c.requires.2,
    )
