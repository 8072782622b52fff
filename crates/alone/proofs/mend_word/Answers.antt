use borrow.Author.Rules.{rules}
use mathlib.Core.Path.{sym, ap, ◌∙◌}
use mathlib.Core.Bool.{not}
use mathlib.Core.List.{List}
use mathlib.Core.Option.{Option}
use Prim.Native.Nat.{ℕ, zero-le}
use native.Mathlib.Omega.{arith}
use lib.ListN.{get_or}
use Rattle.code.proofs.Accepted.{accepted, strength-high}
use Rattle.code.specs.Layout.{words_of}
use Rattle.code.proofs.Pages.{word_lt}
use Rattle.code.specs.Refusals.{nowhere}
use Rattle.mend.specs.Call.{found-rise}
use Rattle.mend.specs.Settled.{found-is}
use Rattle.alone.proofs.mend_word.Goals as goal

pub find-found-requires : goal.find-found-requires
find-found-requires c = (c.requires.0, c.requires.1, c.requires.2, c.requires.3, c.requires.4, search rules)

pub settle-requires : goal.settle-requires
settle-requires c =
    let a = c.args in
    let A = c.requires.0.accepts in
    let f = c.find-found in (
      A,
      c.requires.3,
      c.requires.4,
      found-rise a.p A (get_or (words_of a.p a.page.now) a.i 0) (word_lt a.p (accepted a.p A) a.page.now c.requires.3 a.i c.requires.4) a.p.t0 f.result f.new.list f.ensures.0 f.ensures.1
          (omega (arith, strength-high a.p A 0 zero-le, c.list-2-1.given)),
    )

pub returns : goal.returns
returns c =
    let f = c.find-found in
    (rw f.ensures.0 c.settle.ensures.0, c.settle.ensures.1 ∙ found-is f.result f.new.list ∙ sym (ap (λ (u : Option (List ℕ)). not (nowhere u)) f.ensures.0))
