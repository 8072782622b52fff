use Rattle.std.proofs.Common.{add-one, zero-le, rules, tests, arith, sym, ◌∙◌, ◌≡◌, ◌≤◌, ◌<◌, ℕ, zero, suc, Option, None, Some, Bool, true, false}
use Rattle.std.proofs.Math.Nat as Nat
use Rattle.std.proofs.lemmas.Iterator.{first_from_Range}
use Rattle.std.specs.Option.{MatchOption, unwrap_or}
use Rattle.code.specs.Layout.{words_of}
use Rattle.judge.specs.Search.{first_from, Seeking, seek-start, seek_found, seek-next, seek-done}
use Rattle.judge.specs.Judged.{fails_at, failing-eq}
use Rattle.judge.proofs.first_failing.Goals as goal

-- none of those before i
module _ (P : ℕ → Bool) (o : ℕ) where
  come : (i : ℕ) → i ≤ o → ((k : ℕ) → 0 ≤ k → k < i → P k ≡ false) → Seeking P o i
  come zero h e = seek-start P o
  come (suc i) h e =
      rw (← add-one i)
      (seek-next P o i (come i (omega arith) (λ k a b. e k a (omega arith))) h (e i zero-le (Nat.le_refl (suc i))))

  found : (r : Option ℕ) → MatchOption r ((k : ℕ) → 0 ≤ k → k < o → P k ≡ false) (λ i. (0 ≤ i) × (i < o) × (P i ≡ true) × ((k : ℕ) → 0 ≤ k → k < i → P k ≡ false))
      → unwrap_or r o ≡ first_from P 0 o o
  found None m = seek-done P o o (come o (Nat.le_refl o) m) (Nat.le_refl o)
  found (Some i) m = seek_found P o i (come i (omega (arith, m.1)) m.3) m.1 m.2

pub returns : goal.returns
returns c =
    let a = c.args in
    let P = fails_at a.p (words_of a.p a.page.now) in
    c.unwrap_or.ensures ∙ found P a.p.m c.find.result (first_from_Range _ _ _ _ (λ i. P i ≡ true) (λ i. P i ≡ false) c.find.ensures.ran
    (λ x q k. search (rules, tests)) (λ x q k. search (rules, tests)))
    ∙ sym (failing-eq a.p (words_of a.p a.page.now))
