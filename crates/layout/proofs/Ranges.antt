-- What `all` over the range from 0 to n says.
use Rattle.std.proofs.Common.{◌≡◌, ◌∙◌, ◌<◌, ℕ, Bool, true, false, get_or, length, arith, zero-le}
use Rattle.std.proofs.lemmas.List.FromFn.{get_or-range_with_len, length-range_with_len}
use Rattle.std.specs.Bool.{MatchBool}
use Rattle.std.specs.List.{AllWithin, HoldsAt, range_with_len}

at_range : (n k : ℕ) → k < n → get_or (range_with_len 0 n) k 0 ≡ k
at_range n k h = get_or-range_with_len 0 n k 0 h ∙ omega arith

pub cases_of_range : (P Q : ℕ → Type 0) (n : ℕ) (r : Bool)
    → MatchBool r (AllWithin P (range_with_len 0 n) 0 (length (range_with_len 0 n)))
    ((k : ℕ) × (k < length (range_with_len 0 n)) × HoldsAt Q (range_with_len 0 n) k)
    → MatchBool r ((k : ℕ) → k < n → P k) ((k : ℕ) × (k < n) × Q k)
cases_of_range P Q n true a = λ k h. rw (at_range n k h) at (a k 0 zero-le (rw (length-range_with_len 0 n) h))
cases_of_range P Q n false a =
    let h : a.0 < n = rw (length-range_with_len 0 n) at a.1 in
    (a.0, h, rw (at_range n a.0 h) at (a.2 0))
