use mathlib.Core.Path.{◌≡◌, refl, sym, ap, ◌∙◌}
use Prim.Native.Nat.{◌^◌, ◌<◌, zero-le}
use native.Mathlib.Omega.{arith}
use borrow.Author.Tests.{eqb-true}
use lib.ListN.{get_or}
use Rattle.polynomial.specs.Digits.{value}
use Rattle.code.proofs.Accepted.{accepted, degree-high}
use Rattle.code.specs.Code.{remainder}
use Rattle.code.specs.Layout.{words_of}
use Rattle.code.proofs.Pages.{word_lt}
use Rattle.code.specs.Parameters.{stored}
use Rattle.code.proofs.Placement.{word_at}
use Rattle.layout.specs.Sizes.{stored-high}
use Rattle.layout.specs.SubWords.{part-is}
use Rattle.word.specs.Level.{degree-few, level-lt}
use Rattle.mend.specs.Nearest.{nearest-remainder, nearest_zero, sheet-bounds, sheet-located}
use Rattle.alone.proofs.find.Goals as goal
use Rattle.alone.proofs.find.Goals.{After-remainder_at}

-- the remainder of sub-word i
module _ (m : After-remainder_at) where
  low : (get_or (words_of m.args.p m.args.page.now) m.args.i 0) < 2 ^ stored m.args.p
  low = word_lt m.args.p (accepted m.args.p m.requires.0.accepts) m.args.page.now m.requires.3 m.args.i m.requires.4

  is : (value 64 m.remainder_at.new.r) ≡ remainder m.args.p 0 (get_or (words_of m.args.p m.args.page.now) m.args.i 0)
  is = m.remainder_at.ensures.0 ∙ ap (remainder m.args.p 0) (ap (value 8) m.sub_word-s.ensures ∙ sym (word_at m.args.p m.args.page.now m.args.i m.requires.4))

pub sub_word-s-requires : goal.sub_word-s-requires
sub_word-s-requires c = (c.requires.0.accepts, c.requires.3.exact, c.requires.4)

pub stored_of-z-requires : goal.stored_of-z-requires
stored_of-z-requires c = c.requires.0.accepts

pub remainder_at-requires : goal.remainder_at-requires
remainder_at-requires c =
    let a = c.args in (
      c.requires.0.accepts,
      zero-le,
      c.requires.2,
      c.requires.1,
      rw c.stored_of-z.ensures (stored-high a.p c.requires.0.accepts),
      rw (c.sub_word-s.ensures, c.stored_of-z.ensures) (part-is a.p c.requires.0.accepts a.page.now c.requires.3 a.i c.requires.4),
    )

pub returns-then-is_zero : goal.returns-then-is_zero
returns-then-is_zero c = (nearest_zero c.args.p c.requires.0.accepts ((get_or (words_of c.args.p c.args.page.now) c.args.i 0)) (low (goal.at.returns-then-is_zero c).After-remainder_at) (value 64 c.remainder_at.new.r) (is (goal.at.returns-then-is_zero c).After-remainder_at) (eqb-true _ 0 (sym c.is_zero.ensures ∙ c.if-is_zero.true)) c.args.list.now, zero-le)

pub locate_by-requires : goal.locate_by-requires
locate_by-requires c =
    let A = c.requires.0.accepts in
    let w = c.requires.2 in
    let d = degree-few c.args.p A 0 zero-le _ w in
    let f = c.requires.0.field in
    let b = sheet-bounds c.args.p A c.args.f f c.stored_of-z.result c.stored_of-z.ensures c.args.p.t0 refl in (
      c.requires.0.tables,
      omega (arith, w, degree-high c.args.p (accepted c.args.p A) 0 zero-le),
      d.0,
      rw f d.1,
      level-lt c.args.p A 0 zero-le ((get_or (words_of c.args.p c.args.page.now) c.args.i 0)) (value 64 c.remainder_at.new.r) c.args.w w (is (goal.at.locate_by-requires c).After-remainder_at),
      b.0,
      b.1,
      b.2,
      rw c.requires.5 b.0,
    )

pub returns-else-is_zero : goal.returns-else-is_zero
returns-else-is_zero c =
    let A = c.requires.0.accepts in (
      nearest-remainder c.args.p A ((get_or (words_of c.args.p c.args.page.now) c.args.i 0)) (low (goal.at.returns-else-is_zero c).After-remainder_at) (value 64 c.remainder_at.new.r) (is (goal.at.returns-else-is_zero c).After-remainder_at) c.args.p.t0 _ refl
          (sheet-located c.args.p A c.args.f c.requires.0.field c.stored_of-z.result c.stored_of-z.ensures (value 64 c.remainder_at.new.r) c.args.p.t0 _ c.locate_by.ensures.0),
      c.locate_by.ensures.1,
    )
