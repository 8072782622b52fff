use native.Mathlib.Omega.{arith}
use Rattle.layout.specs.Sizes.{word-high}
use Rattle.encode.proofs.room_bytes.Goals as goal

pub next_multiple_of-requires-clause-fits : goal.next_multiple_of-requires-clause-fits
next_multiple_of-requires-clause-fits c = omega (arith, c.sub_word_bytes.ensures, word-high _ c.requires)

pub overflow_add-result : goal.overflow_add-result
overflow_add-result c = omega (arith, c.sub_word_bytes.ensures, c.next_multiple_of.ensures.value, word-high _ c.requires)

pub returns : goal.returns
returns c = omega (arith, c.sub_word_bytes.ensures, c.next_multiple_of.ensures.value)
