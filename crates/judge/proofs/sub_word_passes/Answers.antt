use mathlib.Core.Path.{sym, ap, ◌∙◌}
use Prim.Native.Nat.{ℕ, zero-le}
use lib.Dec.{eqb}
use Rattle.polynomial.specs.Digits.{value}
use Rattle.code.specs.Code.{remainder}
use Rattle.code.proofs.Placement.{word_at}
use Rattle.layout.specs.Sizes.{stored-high}
use Rattle.layout.specs.SubWords.{is-page, part-is}
use Rattle.judge.proofs.sub_word_passes.Goals as goal

pub passes-requires : goal.passes-requires
passes-requires c =
    let a = c.args in
    let r = c.requires.0 in
    let h = is-page a.p a.page.now (λ i. (c.type_inv.page i).fits) r.exact r.clear in (
      r.accepts,
      zero-le,
      r.width,
      r.table,
      rw c.stored_of-n.ensures (stored-high a.p r.accepts),
      rw (c.sub_word-s.ensures, c.stored_of-n.ensures) (part-is a.p r.accepts a.page.now h a.i c.requires.1),
    )

pub returns : goal.returns
returns c =
    let a = c.args in
    c.passes.ensures
    ∙ ap (λ (f : ℕ). eqb (remainder a.p 0 f) 0) (ap (value 8) c.sub_word-s.ensures ∙ sym (word_at a.p a.page.now a.i c.requires.1))
