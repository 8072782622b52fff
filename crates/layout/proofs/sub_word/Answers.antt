use native.Mathlib.Omega.{arith}
use Rattle.layout.specs.Parts.{word_room}
use Rattle.layout.specs.Sizes.{page-high}
use Rattle.layout.specs.SubWords.{part_same}
use Rattle.layout.proofs.sub_word.Goals as goal

pub overflow_mul-at : goal.overflow_mul-at
overflow_mul-at c = rw c.sub_word_bytes-b.ensures (omega (arith, word_room c.args.p _ c.requires.2, page-high _ c.requires.0))

pub overflow_add-end : goal.overflow_add-end
overflow_add-end c = rw c.sub_word_bytes-b.ensures (omega (arith, word_room c.args.p _ c.requires.2, page-high _ c.requires.0))

pub returns : goal.returns
returns c = part_same c.args.p c.requires.0 c.args.page.now _ _ c.sub_word_bytes-b.ensures
