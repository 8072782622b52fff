use Rattle.std.proofs.lemmas.Result.{err_from_is_err_and}
use mathlib.Core.Path.{sym}
use Prim.Native.Nat.{zero-le}
use lib.ListN.{length}
use Rattle.code.specs.Calls.{sub_word_of}
use Rattle.refusal.specs.Indexed.{Unrefused, word-zero, word-refused, word-done}
use Rattle.word.specs.WordBytes.{WordIs, sub-word-is, remainder-made}
use Rattle.oneword.proofs.remainder.Goals as goal
use Rattle.oneword.proofs.remainder.Goals.{In_ok-word_refusal}

free : (c : In_ok-word_refusal) → let a = c.args in Unrefused a.p a.page.now a.i a.p.m (length a.out.now) 96
free c = word-zero _ _ _ _ _ _ (λ k. (c.type_inv.page k).fits) (sym c.in_ok-word_refusal.ensures)

pub returns-in_err-word_refusal : goal.returns-in_err-word_refusal
returns-in_err-word_refusal c =
    let p = err_from_is_err_and c.from_residual.result c.from_residual.ensures.1 in
    rw (p.1, p.2) (word-refused _ _ _ _ _ _ _ _ _ c.in_err-word_refusal.ensures)

pub sub_word-s-requires : goal.sub_word-s-requires
sub_word-s-requires c = let u = free (goal.at.sub_word-s-requires c).In_ok-word_refusal in (u.accepted, u.page.exact, u.index)

pub remainder_into-requires : goal.remainder_into-requires
remainder_into-requires c =
    let word : let a = c.args in WordIs a.p (sub_word_of a.p a.page.now a.i) c.sub_word-s.result.now = let u = free (goal.at.remainder_into-requires c).In_ok-word_refusal in sub-word-is _ u.accepted _ u.page _ u.index _ c.sub_word-s.ensures in
    let u = free (goal.at.remainder_into-requires c).In_ok-word_refusal in (u.accepted, zero-le, u.list, rw (word).is (word).below)

pub returns : goal.returns
returns c =
    let word : let a = c.args in WordIs a.p (sub_word_of a.p a.page.now a.i) c.sub_word-s.result.now = let u = free (goal.at.returns c).In_ok-word_refusal in sub-word-is _ u.accepted _ u.page _ u.index _ c.sub_word-s.ensures in
    word-done _ _ _ _ _ _ _ _ _ c.in_ok-word_refusal.ensures (remainder-made _ _ _ _ (word) _ c.remainder_into.ensures)
