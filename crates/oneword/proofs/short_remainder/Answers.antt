use Rattle.std.proofs.lemmas.Result.{err_from_is_err_and}
use mathlib.Core.Path.{sym}
use lib.ListN.{length}
use Rattle.refusal.specs.Indexed.{Unrefused, word-zero, word-refused, word-done}
use Rattle.word.specs.WordBytes.{short-made}
use Rattle.oneword.proofs.short_remainder.Goals as goal
use Rattle.oneword.proofs.short_remainder.Goals.{In_ok-word_refusal}

free : (c : In_ok-word_refusal) → let a = c.args in Unrefused a.p a.page.now a.l a.p.v (length a.out.now) 96
free c = word-zero _ _ _ _ _ _ (λ k. (c.type_inv.page k).fits) (sym c.in_ok-word_refusal.ensures)

pub returns-in_err-word_refusal : goal.returns-in_err-word_refusal
returns-in_err-word_refusal c =
    let p = err_from_is_err_and c.from_residual.result c.from_residual.ensures.1 in
    rw (p.1, p.2) (word-refused _ _ _ _ _ _ _ _ _ c.in_err-word_refusal.ensures)

pub nested_of-s-requires : goal.nested_of-s-requires
nested_of-s-requires c = let u = free (goal.at.nested_of-s-requires c).In_ok-word_refusal in (u.accepted, u.page, u.index)

pub short_into-requires : goal.short_into-requires
short_into-requires c = let u = free (goal.at.short_into-requires c).In_ok-word_refusal in (u.accepted, u.list, rw c.nested_of-s.ensures.is c.nested_of-s.ensures.below)

pub returns : goal.returns
returns c = word-done _ _ _ _ _ _ _ _ _ c.in_ok-word_refusal.ensures (short-made _ _ _ _ c.nested_of-s.ensures _ c.short_into.ensures)
