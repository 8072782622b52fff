use borrow.Author.Rules.{rules}
use Rattle.std.proofs.Common.{◌≡◌, List, [], ◌∷◌, ℕ, zero, suc, arith, pow_pos}
use Rattle.polynomial.specs.Digits.{value}
use Rattle.kernels.specs.Value.{Bounded, value-cons}
use Rattle.word.specs.Row.{row_lt, unit-remainder, aligned-deg, row_up, row-remainder}
use Rattle.word.proofs.divide.remainder_by.Goals as goal

-- the words of 0 fit
zero-fits : (r : List ℕ) → value 64 r ≡ 0 → Bounded 64 r
zero-fits [] z i = pow_pos 64
zero-fits (x ∷ r) z zero =
    let e = value-cons 64 x r in
    let b : x ≡ 0 = omega (arith, e, z) in
    rw b (pow_pos 64)
zero-fits (x ∷ r) z (suc i) =
    let e = value-cons 64 x r in
    zero-fits r (omega (arith, e, z)) i

pub returns-then-w-eq0 : goal.returns-then-w-eq0
returns-then-w-eq0 c = (unit-remainder _ c.args.w c.requires.0 _ _ c.if-w-eq0.true c.clear.ensures, zero-fits c.clear.new.r c.clear.ensures)

pub align-requires : goal.align-requires
align-requires c = (c.requires.1, row_lt _ c.args.w c.requires.0)

pub build-requires : goal.build-requires
build-requires c = (search rules, aligned-deg _ c.args.w c.requires.0 _ c.requires.1 c.align.ensures.0)

pub remainder_of-requires : goal.remainder_of-requires
remainder_of-requires c = (search rules, omega arith, omega arith, omega arith, c.requires.2, row_up _ c.args.w c.requires.0 _ c.requires.1 c.align.ensures.0 _ c.build.ensures)

pub returns : goal.returns
returns c = (row-remainder _ c.args.w c.requires.0 _ c.requires.1 c.align.ensures.0 _ _ _ c.build.ensures c.remainder_of.ensures.0, c.remainder_of.ensures.1)
