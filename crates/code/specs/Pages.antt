-- IsWords p cs: m words below x^(n - s).
use Rattle.std.specs.Prelude.{◌≡◌, List, ℕ, ◌^◌, ◌<◌, length}
use Rattle.polynomial.specs.Sums.{All}
use Rattle.code.specs.declared.Parameters.{Parameters}
use Rattle.code.specs.Parameters.{stored}

pub record IsWords (p : Parameters) (cs : List ℕ) : Type 0 where
  pub many : length cs ≡ p.m
  pub below : All (λ c. c < 2 ^ stored p) cs
