use borrow.Author.Rules.{rules}
use mathlib.Core.Path.{ap, ◌∙◌}
use Prim.Native.Nat.{◌-◌, ◌^◌}
use native.Mathlib.Nat.{mul-mod_left}
use Rattle.polynomial.specs.Digits.{digits, value}
use Rattle.levels.specs.Ready.{prepared-up}
use Rattle.register.specs.Advance.{below_next, place-lt, degree-fits, aligned-lt, stepped}
use Rattle.register.proofs.advance.Goals as goal

pub align-requires : goal.align-requires
align-requires c = (degree-fits _ c.requires.0 _ _ c.requires.2 c.requires.3, below_next _ _ c.requires.4)

pub overflow_sub-w : goal.overflow_sub-w
overflow_sub-w c = degree-fits _ c.requires.0 _ _ c.requires.2 c.requires.3

pub step-requires : goal.step-requires
step-requires c = (
  record {
    words = search rules;
    table = search rules;
    place = place-lt _ c.requires.0 _ _ c.requires.2 c.requires.3;
    small = aligned-lt _ c.requires.0 _ _ c.requires.2 c.requires.3 _ _ c.requires.4 c.align.ensures.0;
    moved = prepared-up c.args.p c.args.a c.args.w _ c.requires.3 c.prepare.ensures;
    low = rw c.align.ensures.0 (mul-mod_left _ (2 ^ (768 - c.args.w)));
  },
  c.requires.5,
  c.requires.6,
)

pub overflow_sub-w-2 : goal.overflow_sub-w-2
overflow_sub-w-2 c = degree-fits _ c.requires.0 _ _ c.requires.2 c.requires.3

pub returns : goal.returns
returns c =
    c.low_words.ensures
    ∙ ap (digits 64 12)
    (c.lower.ensures.0
    ∙ stepped c.args.p c.requires.0 c.args.a c.args.w c.requires.2 c.requires.3 c.prepare.new.t _ c.args.u c.args.l (value 64 c.align.new.r) (value 64 c.step.new.r)
    c.prepare.ensures c.align.ensures.0 c.step.ensures.0)
