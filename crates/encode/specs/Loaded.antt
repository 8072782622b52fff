-- The table of a level as it is lent to be used: with hex digits, or with bytes.
--   ByteTable p a b    b is the table with bytes of level a's generator
--   Loaded p a t       t is a table of level a's generator: of 3,072 words with hex digits, else with bytes
use Rattle.std.specs.Prelude.{◌≡◌, refl, ◌≢◌, List, ℕ, ◌-◌, ◌≤◌, length}
use Rattle.std.proofs.Common.{arith}
use Rattle.reduction.specs.Table.{MovedUp, RemainderBy, moved-less}
use Rattle.bytewise.specs.Bytes.{Wide, Widened, half, half_is}
use Rattle.code.specs.declared.Parameters.{Parameters}
use Rattle.code.specs.Code.{degree, remainder}
use Rattle.code.specs.Parameters.{Accepted}
use Rattle.levels.specs.Ready.{Prepared, prepared-up, table-remainder}

pub record ByteTable (p : Parameters) (a : ℕ) (b : List ℕ) : Type 0 where
  pub hex : List ℕ
  pub prepared : Prepared p a hex
  pub words : length b ≡ 12288
  pub widened : Widened hex b
  pub short : degree p a ≤ 384

pub record Loaded (p : Parameters) (a : ℕ) (t : List ℕ) : Type 0 where
  pub plain : length t ≡ 3072 → Prepared p a t
  pub bytes : length t ≢ 3072 → ByteTable p a t

pub loaded-plain : (p : Parameters) (a : ℕ) (t : List ℕ) → Prepared p a t → Loaded p a t
loaded-plain p a t P = record { plain = λ e. P; bytes = λ n. absurd (n P.words) }

pub loaded_bytes : (p : Parameters) (a : ℕ) (b : List ℕ) → ByteTable p a b → Loaded p a b
loaded_bytes p a b B = record { plain = λ e. absurd (omega (arith, B.words)); bytes = λ n. B }

-- a generator of a degree of at most 384 is moved up by six words at least
pub short-up : (p : Parameters) (a : ℕ) (t : List ℕ) → Prepared p a t → degree p a ≤ 384 → MovedUp t half
short-up p a t P h = moved-less t (768 - degree p a) half (omega (arith, half_is)) (prepared-up p a (degree p a) t refl P)

pub byte-wide : (p : Parameters) (a : ℕ) (b : List ℕ) → ByteTable p a b → Wide b
byte-wide p a b B = record { words = B.words; hex = B.hex; widened = B.widened; moved = short-up p a B.hex B.prepared B.short }

-- remainders by the table with bytes
pub byte-remainder : (p : Parameters) → Accepted p → (a w f r : ℕ) (b : List ℕ) → a ≤ p.v → w ≡ degree p a → ByteTable p a b
    → ((t : List ℕ) → Widened t b → RemainderBy t (768 - w) f r) → r ≡ remainder p a f
byte-remainder p A a w f r b h e B q = table-remainder p A a w f r B.hex h e B.prepared (q B.hex B.widened)
