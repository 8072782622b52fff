use Rattle.std.proofs.lemmas.Result.{err_from_is_err_and}
use mathlib.Core.Path.{◌≡◌, sym, ap, ◌∙◌}
use Prim.Native.Nat.{ℕ, ◌*◌, ◌-◌, ◌≤◌}
use native.Mathlib.Nat as Nat
use native.Mathlib.Omega.{arith}
use lib.ListN.{length}
use Rattle.code.proofs.Accepted.{accepted, degree-high}
use Rattle.code.specs.Parameters.{strength}
use Rattle.code.specs.Refusals.{word_refusal, nested_syndromes_refusal}
use Rattle.refusal.specs.Indexed.{Unrefused, word-alike, word-zero, word-refused, word-done}
use Rattle.word.specs.Level.{level-lt, level-made, degree-few}
use Rattle.word.specs.WordBytes.{nested-syndromes-made}
use Rattle.oneword.proofs.nested_syndromes.Goals as goal
use Rattle.oneword.proofs.nested_syndromes.Goals.{After-strength_at-t, In_ok-word_refusal}

-- the level, and the list's length by it
module _ (c : In_ok-word_refusal) where
  low : c.level_of-a.result ≤ c.args.p.v
  low = omega (arith, c.level_of-a.ensures)

-- the chain, by the strength as the definition has it
chain : (c : After-strength_at-t) (k : ℕ)
    → (let a = c.args in k ≡ word_refusal a.p a.page.now a.l a.p.v (length a.list.now) c.strength_at-t.result → k ≡ nested_syndromes_refusal 1 a.p a.page.now a.l (length a.list.now))
chain c k e =
    let a = c.args in
    e ∙ word-alike _ _ _ _ _ _ _ (λ _. omega (arith, c.strength_at-t.ensures, ap (strength a.p) c.level_of-a.ensures))

pub returns-in_err-word_refusal : goal.returns-in_err-word_refusal
returns-in_err-word_refusal c =
    let p = err_from_is_err_and c.from_residual.result c.from_residual.ensures.1 in
    rw (p.1, p.2) (word-refused _ _ _ _ _ _ _ _ _ (chain (goal.at.returns-in_err-word_refusal c).After-strength_at-t _ c.in_err-word_refusal.ensures))

pub nested_of-s-requires : goal.nested_of-s-requires
nested_of-s-requires c =
    let free : let a = c.args in Unrefused a.p a.page.now a.l a.p.v (length a.list.now) (1 * strength a.p (a.p.v - a.l)) = word-zero _ _ _ _ _ _ (λ k. (c.type_inv.page k).fits) (sym (chain (goal.at.nested_of-s-requires c).After-strength_at-t _ c.in_ok-word_refusal.ensures)) in
    let u = free in (u.accepted, u.page, u.index)

pub level_remainder-w-requires : goal.level_remainder-w-requires
level_remainder-w-requires c =
    let free : let a = c.args in Unrefused a.p a.page.now a.l a.p.v (length a.list.now) (1 * strength a.p (a.p.v - a.l)) = word-zero _ _ _ _ _ _ (λ k. (c.type_inv.page k).fits) (sym (chain (goal.at.level_remainder-w-requires c).After-strength_at-t _ c.in_ok-word_refusal.ensures)) in
    ((free).accepted, low (goal.at.level_remainder-w-requires c).In_ok-word_refusal, rw c.nested_of-s.ensures.is c.nested_of-s.ensures.below)

pub odd_from-requires : goal.odd_from-requires
odd_from-requires c =
    let free : let a = c.args in Unrefused a.p a.page.now a.l a.p.v (length a.list.now) (1 * strength a.p (a.p.v - a.l)) = word-zero _ _ _ _ _ _ (λ k. (c.type_inv.page k).fits) (sym (chain (goal.at.odd_from-requires c).After-strength_at-t _ c.in_ok-word_refusal.ensures)) in
    let A = (free).accepted in
    let w = c.level_remainder-w.ensures.0 in (
      A,
      omega (arith, w, degree-high _ (accepted _ A) c.level_of-a.result (low (goal.at.odd_from-requires c).In_ok-word_refusal)),
      (degree-few _ A c.level_of-a.result (low (goal.at.odd_from-requires c).In_ok-word_refusal) _ w).0,
      (degree-few _ A c.level_of-a.result (low (goal.at.odd_from-requires c).In_ok-word_refusal) _ w).1,
      level-lt _ A c.level_of-a.result (low (goal.at.odd_from-requires c).In_ok-word_refusal) _ _ _ w c.level_remainder-w.ensures.1,
    )

pub returns : goal.returns
returns c =
    let free : let a = c.args in Unrefused a.p a.page.now a.l a.p.v (length a.list.now) (1 * strength a.p (a.p.v - a.l)) = word-zero _ _ _ _ _ _ (λ k. (c.type_inv.page k).fits) (sym (chain (goal.at.returns c).After-strength_at-t _ c.in_ok-word_refusal.ensures)) in
    let many : length c.args.list.now ≡ strength c.args.p c.level_of-a.result = (free).list ∙ Nat.one-mul _ ∙ ap (strength c.args.p) (sym c.level_of-a.ensures) in
    word-done _ _ _ _ _ _ _ _ _ (chain (goal.at.returns c).After-strength_at-t _ c.in_ok-word_refusal.ensures)
    (nested-syndromes-made _ _ _ _ c.nested_of-s.ensures c.level_of-a.result _ c.level_of-a.ensures
    (level-made _ (free).accepted c.level_of-a.result (low (goal.at.returns c).In_ok-word_refusal) _ _ _ _ c.level_remainder-w.ensures.1 (many) c.odd_from.ensures))
