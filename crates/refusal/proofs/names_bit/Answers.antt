use Rattle.std.proofs.Common.{arith, sym, ◌∙◌, ltb-true, ltb-false}
use Rattle.refusal.specs.Altering.{no_block, no_place, value-bit}
use Rattle.refusal.proofs.names_bit.Goals as goal
use Rattle.refusal.proofs.names_bit.Goals.{then-i-p, else-i-p}

pub returns-then-r-data_bits : goal.returns-then-r-data_bits
returns-then-r-data_bits c =
    let a = c.args in
    elim c.if-i-p.branch [
      | then-i-p w ↦ value-bit a.p a.i a.r a.b w.if-i-p.true (omega (arith, w.data_bits.ensures, ltb-true _ _ (sym w.value-is ∙ c.if-r-data_bits.true)))
      | else-i-p w ↦ absurd (omega (arith, w.if-i-p.false, ltb-true a.i a.p.m (sym w.value-is ∙ c.if-r-data_bits.true)))
    ]

pub returns-else-r-data_bits : goal.returns-else-r-data_bits
returns-else-r-data_bits c =
    let a = c.args in
    c.if-r-data_bits.false
    ∙ elim c.if-i-p.branch [
      | then-i-p w ↦ no_place a.p a.i a.r a.b w.if-i-p.true (omega (arith, w.data_bits.ensures, ltb-false _ _ (sym w.value-is ∙ c.if-r-data_bits.false)))
      | else-i-p w ↦ no_block a.p a.i a.r a.b w.if-i-p.false
    ]
