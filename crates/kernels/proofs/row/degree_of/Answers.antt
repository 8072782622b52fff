-- Word i is the highest that is not 0.
use Rattle.std.proofs.Common.{◌≡◌, ◌∙◌, ℕ, ◌+◌, ◌-◌, ◌*◌, ◌^◌, ◌<◌, ◌≤◌, ap, arith, rules, length, List, get_or, lt_irrefl, pos_of_ne-zero, one-mul}
use Rattle.std.proofs.Math.Nat.{pow-succ', div-eq_of_lt-le}
use Rattle.std.proofs.lemmas.Bool.{some_since}
use Rattle.std.proofs.lemmas.Nat.{leading_top}
use Rattle.std.specs.Int.Count.{count_leading_zeros}
use Rattle.std.specs.Option.{MatchOption}
use Rattle.polynomial.specs.Division.{Deg, deg-unique}
use Rattle.kernels.specs.Degree.{degree-law}
use Rattle.kernels.proofs.Zeros.{zeros-value, zeros-from}
use Rattle.kernels.proofs.row.degree_of.Goals as goal
use Rattle.kernels.proofs.row.degree_of.Goals.{After-rposition}

abbrev Highest : List ℕ → ℕ → Type 0
Highest r i = (i < length r) × (get_or r i 0 ≡ 0 → ⊥) × ((k : ℕ) → i < k → k < length r → get_or r k 0 ≡ 0)

found : (c : After-rposition) → MatchOption c.rposition.result ((k : ℕ) → k < length c.args.r.now → get_or c.args.r.now k 0 ≡ 0) (Highest c.args.r.now)
found c = search rules

-- the logarithm is what the leading zeros leave
logarithm : (x j : ℕ) → (x ≡ 0 → ⊥) → x < 2 ^ 64 → 2 ^ j ≤ x → x < 2 * 2 ^ j → j ≡ 63 - count_leading_zeros 64 x
logarithm x j z h low high =
    let t = leading_top 64 x (pos_of_ne-zero z) h in
    let a : Deg x j = div-eq_of_lt-le (2 ^ j) (rw (one-mul (2 ^ j)) low) high in
    let b : Deg x t.0 = div-eq_of_lt-le (2 ^ t.0) (rw (one-mul (2 ^ t.0)) t.2) (rw (pow-succ' 2 t.0) at t.3) in
    deg-unique x j t.0 a b ∙ omega (arith, t.1)

pub unwrap-i-requires : goal.unwrap-i-requires
unwrap-i-requires c =
    some_since _ _ _ (found (goal.at.unwrap-i-requires c).After-rposition)
    (λ z. lt_irrefl 0 (rw (zeros-value 64 c.args.r.now z) at c.requires))

pub returns : goal.returns
returns c =
    let r = c.args.r.now in
    let i = c.unwrap-i.result in
    let q = c.ilog2 in
    let e : Highest r i = rw c.unwrap-i.ensures at (found (goal.at.returns c).After-rposition) in
    ap (λ (j : ℕ). 64 * i + j) (logarithm (get_or r i 0) q.result e.1 (search rules) q.ensures.power_le q.ensures.next_power_gt)
    ∙ degree-law r i (search rules) e.0 e.1 c.requires (zeros-from 64 r (i + 1) (omega (arith, e.0)) (λ k a b. e.2 k (omega arith) b))
