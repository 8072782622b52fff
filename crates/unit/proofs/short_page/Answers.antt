use mathlib.Core.Path.{ap, ◌∙◌}
use Prim.Native.Nat.{ℕ}
use Rattle.polynomial.specs.Digits.{value}
use Rattle.code.specs.Layout.{one_block, page_of}
use Rattle.unit.specs.Unit.{moved_down}
use Rattle.unit.proofs.short_page.Goals as goal

pub block_page-requires : goal.block_page-requires
block_page-requires c =
    let a = c.args in
    (c.requires.0, c.requires.1, c.requires.2, c.requires.3, c.requires.4, rw (moved_down (value 8 a.y.now) _ a.bits c.requires.6 c.copy_down.ensures) c.requires.7, c.requires.8)

pub returns : goal.returns
returns c =
    let a = c.args in
    c.block_page.ensures ∙ ap (λ (f : ℕ). page_of a.q (one_block a.q a.i f)) (moved_down (value 8 a.y.now) _ a.bits c.requires.6 c.copy_down.ensures)
