-- u lies in two words: insert-law.
use Rattle.std.proofs.Common.{List, ℕ, ◌+◌, ◌-◌, ◌*◌, ◌/◌, ◌%◌, ◌^◌, ◌<◌, get_or, set, lt_of_le_of_lt, mod-lt, pow_pos, rules}
use Rattle.std.proofs.Math.Nat.{div-le_self}
use Rattle.std.proofs.lemmas.Nat.{xor_lt}
use Rattle.std.specs.Int.Bits.{bit_xor}
use Rattle.kernels.specs.Insert.{insert-law}
use Rattle.kernels.specs.Value.{Bounded, bounded-set}
use Rattle.kernels.proofs.row.insert.Goals as goal

-- a word with a word added fits
added : (r : List ℕ) (i x : ℕ) → Bounded 64 r → x < 2 ^ 64 → Bounded 64 (set r i (bit_xor (get_or r i 0) x))
added r i x b h = bounded-set 64 r b i _ (xor_lt 64 _ _ (b i) h)

pub returns : goal.returns
returns c =
    let a = c.args in
    let b : Bounded 64 a.r.now = search rules in
    let l = added a.r.now (a.p / 64) (a.u * 2 ^ (a.p % 64) % 2 ^ 64) b (mod-lt (a.u * 2 ^ (a.p % 64)) (pow_pos 64)) in (
      insert-law a.r.now a.u a.p b l (search rules) c.requires c.ranges.u.fits,
      added _ (a.p / 64 + 1) (a.u / 2 / 2 ^ (63 - a.p % 64)) l (lt_of_le_of_lt (div-le_self (a.u / 2) _) (lt_of_le_of_lt (div-le_self a.u 2) c.ranges.u.fits)),
    )
