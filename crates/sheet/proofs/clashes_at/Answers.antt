use Rattle.std.proofs.Common.{rules, tests, refl, sym, ap, ap₂, ◌∙◌, add-one, ◌≡◌, ◌+◌, ◌-◌, ◌*◌, ◌||◌, ℕ, zero, suc, Bool}
use Rattle.std.proofs.lemmas.Iterator.{YieldsList-from_range}
use Rattle.std.proofs.lemmas.Iterator.Search.{any_from_yields_List}
use Rattle.std.specs.List.{list_any, range_with_len}
use Rattle.code.specs.Lists.{any, range}
use Rattle.sheet.specs.Clashes.{any_from, clash_test, clashes-eq, hits, test-is}
use Rattle.sheet.proofs.clashes_at.Goals as goal

-- the numbers from i on, k of them
all : (P Q : ℕ → Bool) → ((d : ℕ) → P d ≡ Q d) → (k i : ℕ) → list_any P (range_with_len i k) ≡ any_from Q i k
unfolding any_from any range
all P Q e zero i = refl
all P Q e (suc k) i = ap₂ ◌||◌ (e i) (all P Q e k (i + 1) ∙ ap (λ (j : ℕ). any Q (range j k)) (add-one i))

pub returns : goal.returns
returns c =
    let p = c.args.p in
    let P = λ (d : ℕ). any_from (hits c.args.n d) 1 (2 * c.strength_at-t.result) in
    any_from_yields_List P _ _ _ c.any.ensures.ran (YieldsList-from_range 1 p.m (p.m - 1) refl refl) (λ x b q k. search (rules, tests))
    ∙ all P (clash_test p) (λ d. test-is p c.args.n c.strength_at-t.result d c.requires.0 c.strength_at-t.ensures) (p.m - 1) 1 ∙ sym (clashes-eq p)
