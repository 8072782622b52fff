-- What an accepted sheet keeps to.
--   Rules p              the rules on its numbers, each by name
use Prim.Native.Nat.{ℕ, suc, ◌-◌, ◌*◌, ◌%◌, ◌≤◌, ◌<◌}
use Rattle.field.specs.Fields.{Known}
use Rattle.code.specs.declared.Parameters.{Parameters}
use Rattle.code.specs.Code.{degree}
use Rattle.code.specs.Parameters.{len}
use Rattle.code.specs.Parameters.{strength}

-- ---- the rules
pub record Rules (p : Parameters) : Type 0 where
  pub known : Known p.q
  pub v_low : 1 ≤ p.v
  pub v_high : p.v ≤ 3
  pub m-low : p.v < p.m
  pub m-high : p.m ≤ 8
  pub t-low : 1 ≤ strength p 0
  pub t-apart : strength p 0 < strength p 1
  pub rises : (a : ℕ) → a < p.v → strength p a ≤ strength p (suc a)
  pub high : strength p p.v ≤ 64
  pub short : 2 * strength p p.v ≤ len p - 1
  pub s-high : p.s ≤ len p - degree p p.v - 1
  pub clash : (d j : ℕ) → 0 < d → d < p.m → 0 < j → j ≤ 2 * strength p p.v → 0 < d * j % len p
