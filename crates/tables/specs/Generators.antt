-- Tables of the generators in the field of q, for the strengths allowed: up to 64, and 2t ≤ n - 1.
--   strengths q             how many strengths are allowed
--   Generators q w i n t    t holds the n generators of strength i + 1 to i + n, each in w words of 64 bits, lowest first
use Rattle.std.specs.Prelude.{◌≡◌, List, ℕ, suc, ◌+◌, ◌-◌, ◌*◌, ◌/◌, ◌%◌, ◌^◌, ◌<◌, min, length, get_or}
use Rattle.field.specs.Fields.{field_of}
use Rattle.generator.specs.Generator.{generator}

abbrev pub strengths : ℕ → ℕ
strengths q = min 64 ((2 ^ q - 2) / 2)

pub record Generators (q w i n : ℕ) (t : List ℕ) : Type 0 where
  pub count : length t ≡ w * n
  pub fits : (k : ℕ) → k < n → generator (field_of q) (suc (i + k)) < 2 ^ (64 * w)
  pub word : (k j : ℕ) → k < n → j < w → get_or t (w * k + j) 0 ≡ generator (field_of q) (suc (i + k)) / 2 ^ (64 * j) % 2 ^ 64
