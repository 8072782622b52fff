use Rattle.std.proofs.lemmas.Result.{err_from_is_err_and}
use mathlib.Core.Path.{◌≡◌, sym, ◌∙◌}
use Prim.Native.Nat.{ℕ, zero-le, ◌*◌}
use native.Mathlib.Nat as Nat
use native.Mathlib.Omega.{arith}
use lib.ListN.{length}
use Rattle.code.specs.Calls.{sub_word_of}
use Rattle.code.proofs.Accepted.{accepted, degree-high}
use Rattle.code.specs.Parameters.{strength}
use Rattle.code.specs.Refusals.{word_refusal, syndromes_refusal}
use Rattle.refusal.specs.Indexed.{Unrefused, word-alike, word-zero, word-refused, word-done}
use Rattle.word.specs.Level.{level-lt, level-made, degree-few}
use Rattle.word.specs.WordBytes.{WordIs, sub-word-is, syndromes-made}
use Rattle.oneword.proofs.syndromes.Goals as goal
use Rattle.oneword.proofs.syndromes.Goals.{After-strength_at-t}

-- the chain, by the strength as the definition has it
chain : (c : After-strength_at-t) (k : ℕ)
    → (let a = c.args in k ≡ word_refusal a.p a.page.now a.i a.p.m (length a.list.now) c.strength_at-t.result → k ≡ syndromes_refusal 1 a.p a.page.now a.i (length a.list.now))
chain c k e = e ∙ word-alike _ _ _ _ _ _ _ (λ _. omega (arith, c.strength_at-t.ensures))

pub returns-in_err-word_refusal : goal.returns-in_err-word_refusal
returns-in_err-word_refusal c =
    let p = err_from_is_err_and c.from_residual.result c.from_residual.ensures.1 in
    rw (p.1, p.2) (word-refused _ _ _ _ _ _ _ _ _ (chain (goal.at.returns-in_err-word_refusal c).After-strength_at-t _ c.in_err-word_refusal.ensures))

pub sub_word-s-requires : goal.sub_word-s-requires
sub_word-s-requires c =
    let free : let a = c.args in Unrefused a.p a.page.now a.i a.p.m (length a.list.now) (1 * strength a.p 0) = word-zero _ _ _ _ _ _ (λ k. (c.type_inv.page k).fits) (sym (chain (goal.at.sub_word-s-requires c).After-strength_at-t _ c.in_ok-word_refusal.ensures)) in
    let u = free in (u.accepted, u.page.exact, u.index)

pub level_remainder-w-requires : goal.level_remainder-w-requires
level_remainder-w-requires c =
    let free : let a = c.args in Unrefused a.p a.page.now a.i a.p.m (length a.list.now) (1 * strength a.p 0) = word-zero _ _ _ _ _ _ (λ k. (c.type_inv.page k).fits) (sym (chain (goal.at.level_remainder-w-requires c).After-strength_at-t _ c.in_ok-word_refusal.ensures)) in
    let word : let a = c.args in WordIs a.p (sub_word_of a.p a.page.now a.i) c.sub_word-s.result.now = let u = free in sub-word-is _ u.accepted _ u.page _ u.index _ c.sub_word-s.ensures in
    let u = free in (u.accepted, zero-le, rw (word).is (word).below)

pub odd_from-requires : goal.odd_from-requires
odd_from-requires c =
    let free : let a = c.args in Unrefused a.p a.page.now a.i a.p.m (length a.list.now) (1 * strength a.p 0) = word-zero _ _ _ _ _ _ (λ k. (c.type_inv.page k).fits) (sym (chain (goal.at.odd_from-requires c).After-strength_at-t _ c.in_ok-word_refusal.ensures)) in
    let u = free in
    let w = c.level_remainder-w.ensures.0 in (
      u.accepted,
      omega (arith, w, degree-high _ (accepted _ u.accepted) 0 zero-le),
      (degree-few _ u.accepted 0 zero-le _ w).0,
      (degree-few _ u.accepted 0 zero-le _ w).1,
      level-lt _ u.accepted 0 zero-le _ _ _ w c.level_remainder-w.ensures.1,
    )

pub returns : goal.returns
returns c =
    let free : let a = c.args in Unrefused a.p a.page.now a.i a.p.m (length a.list.now) (1 * strength a.p 0) = word-zero _ _ _ _ _ _ (λ k. (c.type_inv.page k).fits) (sym (chain (goal.at.returns c).After-strength_at-t _ c.in_ok-word_refusal.ensures)) in
    let word : let a = c.args in WordIs a.p (sub_word_of a.p a.page.now a.i) c.sub_word-s.result.now = let u = free in sub-word-is _ u.accepted _ u.page _ u.index _ c.sub_word-s.ensures in
    let u = free in
    word-done _ _ _ _ _ _ _ _ _ (chain (goal.at.returns c).After-strength_at-t _ c.in_ok-word_refusal.ensures)
    (syndromes-made _ _ _ _ (word) _ (level-made _ u.accepted 0 zero-le _ _ _ _ c.level_remainder-w.ensures.1 (u.list ∙ Nat.one-mul _) c.odd_from.ensures))
