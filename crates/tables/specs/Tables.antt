-- Tables of the powers of α, and of their logs, in the field of q: α has the order n = 2^q - 1.
--   Powers q t    t holds α^0 to α^(n-1): each entry is α times the one before it, and none repeats
--   Logs q t      t holds, at each a above 0, the exponent below n of the power that is a; logs and powers undo each other
use Rattle.std.specs.Prelude.{◌≡◌, List, ℕ, suc, ◌-◌, ◌^◌, ◌<◌, length, get_or}
use Rattle.field.specs.Elements.{times, power}

pub record Powers (q : ℕ) (t : List ℕ) : Type 0 where
  pub count : length t ≡ 2 ^ q - 1
  pub entry : (k : ℕ) → k < 2 ^ q - 1 → get_or t k 0 ≡ power q k
  pub next : (k : ℕ) → suc k < 2 ^ q - 1 → get_or t (suc k) 0 ≡ times q 2 (get_or t k 0)
  pub distinct : (j k : ℕ) → j < 2 ^ q - 1 → k < 2 ^ q - 1 → get_or t j 0 ≡ get_or t k 0 → j ≡ k

pub record Logs (q : ℕ) (t : List ℕ) : Type 0 where
  pub count : length t ≡ 2 ^ q
  pub unused : get_or t 0 0 ≡ 0
  pub below : (a : ℕ) → 0 < a → a < 2 ^ q → get_or t a 0 < 2 ^ q - 1
  pub power-log : (a : ℕ) → 0 < a → a < 2 ^ q → power q (get_or t a 0) ≡ a
  pub log-power : (k : ℕ) → k < 2 ^ q - 1 → get_or t (power q k) 0 ≡ k
