use Rattle.std.proofs.Common.{rules, tests, arith, refl, sym, ◌≡◌, ◌+◌, ◌-◌, ◌*◌, ◌/◌, ◌%◌, ◌^◌, ◌<◌, ℕ, Bool, true, false, List, get_or}
use Rattle.std.proofs.Math.Nat as Nat
use Rattle.std.proofs.lemmas.Iterator.{YieldsList-from_range, cases_from_all}
use Rattle.std.specs.Bool.{MatchBool}
use Rattle.polynomial.specs.Digits.{value}
use Rattle.code.proofs.Chains.{true-false}
use Rattle.layout.specs.Runs.{OnesFound, all-word, word-all}
use Rattle.layout.proofs.Ranges.{cases_of_range}
use Rattle.layout.proofs.words_ones.Goals as goal

module _ (l : List ℕ) (at count : ℕ) where
  abbrev word : ℕ → ℕ
  word k = value 8 l / 2 ^ (8 * (at + 8 * k)) % 2 ^ 64

  abbrev Full : ℕ → Type 0
  Full k = word k ≡ 0xFFFFFFFFFFFFFFFF

  found : ((i : ℕ) → get_or l i 0 < 256) → (r : Bool)
      → MatchBool r ((k : ℕ) → k < count → Full k) ((k : ℕ) × (k < count) × (Full k → ⊥))
      → OnesFound l at (at + 8 * count) r
  found b true a = record {
    all = λ t i u j.
        word-all l (at + 8 * ((i - at) / 8)) (word ((i - at) / 8)) b refl (a ((i - at) / 8) (omega arith)) i (omega arith) (omega arith);
    none = λ f. refl;
  }
  found b false a = record {
    all = λ t. absurd (true-false (sym t));
    none = λ f. absurd (a.2 (all-word l (at + 8 * a.0) (word a.0) b refl (λ i u j. f i (omega arith) (omega (arith, a.1)))));
  }

pub returns : goal.returns
returns c =
    let a = c.args in
    found a.bytes.now a.at a.count (λ j. (c.type_inv.bytes j).fits) c.all.result
    (cases_of_range (Full a.bytes.now a.at a.count) (λ k. Full a.bytes.now a.at a.count k → ⊥) a.count c.all.result
    (cases_from_all _ _ _ (Full a.bytes.now a.at a.count) (λ k. Full a.bytes.now a.at a.count k → ⊥)
    c.all.ensures.ran (YieldsList-from_range 0 a.count a.count refl (Nat.sub-zero a.count))
    (λ x q k. search (rules, tests)) (λ x q k. search (rules, tests))))
