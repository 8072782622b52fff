use borrow.Author.Rules.{rules}
use native.Mathlib.Omega.{arith}
use Prim.Native.Nat.{suc}
use lib.ListN.{length, drop}
use Rattle.polynomial.specs.Digits.{value}
use Rattle.code.specs.Layout.{words_of}
use Rattle.layout.specs.Sizes.{check-below, stored-high, word-high}
use Rattle.encode.specs.Rule.{rule-room, ruled-early}
use Rattle.encode.proofs.ruled_into.Goals as goal

pub place-requires : goal.place-requires
place-requires c =
    let a = c.args in (
      omega (arith, c.requires.3, check-below a.p c.requires.0 a.i, stored-high a.p c.requires.0),
      omega (arith, c.requires.4, word-high a.p c.requires.0),
      rule-room a.p c.requires.0 (value 8 a.s.now) a.bits a.i (length a.acc.now) c.requires.3 c.requires.4 c.requires.5,
    )

pub add_carried-requires : goal.add_carried-requires
add_carried-requires c = (c.requires.0, c.requires.1, c.requires.2, search rules)

pub returns : goal.returns
returns c =
    let a = c.args in
    ruled-early a.p _ _ (value 8 a.s.now) a.bits a.i (drop (suc a.i) (words_of a.p a.page.now)) c.requires.3 c.place.ensures c.requires.2 c.add_carried.ensures
