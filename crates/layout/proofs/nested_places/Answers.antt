use native.Mathlib.Omega.{arith}
use Rattle.layout.specs.Sizes.{word-high}
use Rattle.layout.proofs.nested_places.Goals as goal

pub overflow_mul-k : goal.overflow_mul-k
overflow_mul-k c = omega (arith, c.sub_word_bytes.ensures, word-high _ c.requires)

pub overflow_add-k : goal.overflow_add-k
overflow_add-k c = omega (arith, c.sub_word_bytes.ensures, word-high _ c.requires)

pub returns : goal.returns
returns c = omega (arith, c.sub_word_bytes.ensures, c.length_of-n.ensures, c.min.ensures)
