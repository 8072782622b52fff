-- The loop: the first i sub-words are added up.
use mathlib.Core.Path.{◌∙◌}
use native.Mathlib.Omega.{arith}
use Rattle.code.proofs.Accepted.{accepted}
use Rattle.layout.specs.Sizes.{word-high}
use Rattle.nested.specs.Turned.{place-high, turned-first, turned_turn, turned-done}
use Rattle.nested.proofs.sum_into.Goals as goal

pub sub_word-first-requires : goal.sub_word-first-requires
sub_word-first-requires c = (c.requires.0, c.requires.1, omega (arith, (accepted _ c.requires.0).m-low))

pub copy_up-requires : goal.copy_up-requires
copy_up-requires c = omega (arith, c.requires.3, word-high _ c.requires.0)

pub loop-i-init : goal.loop-i-init
loop-i-init c = turned-first _ c.requires.0 _ _ _ _ _ c.requires.2 (λ i. (c.type_inv.page i).fits) c.requires.1 c.sub_word-first.ensures c.requires.3 c.copy_up.ensures

pub overflow_mul-l : goal.overflow_mul-l
overflow_mul-l c = omega (arith, place-high _ c.requires.0 c.args.l c.loop-i.i c.requires.2 c.loop-i-test.true)

pub add_up-requires : goal.add_up-requires
add_up-requires c = omega (arith, c.requires.3, word-high _ c.requires.0)

pub loop-i-preserved : goal.loop-i-preserved
loop-i-preserved c = turned_turn _ c.requires.0 _ _ c.requires.2 (λ i. (c.type_inv.page i).fits) c.requires.1 _ c.loop-i.i _ c.loop-i-test.true c.sub_word-x.ensures (c.loop-i.auto.acc ∙ c.copy_up.auto.dst ∙ c.requires.3) _ _ c.add_up.ensures c.loop-i.invariant

pub returns : goal.returns
returns c = turned-done _ c.requires.0 _ _ _ c.loop-i.i (omega arith) c.loop-i.invariant
