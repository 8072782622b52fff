-- A sum of bytes, place by place.
--   Summed a b s i    s has the sums of a and b below place i
use Rattle.std.specs.Prelude.{◌≡◌, List, ℕ, ◌+◌, ◌≤◌, ◌<◌, length, get_or, set}
use Rattle.std.proofs.Common.{sym, ◌∙◌, below_more, length-set, ext_get_or, get_or-set_same, get_or-set_other}
use Rattle.std.proofs.Math.Nat as Nat
use Rattle.std.specs.Int.Bits.{bit_xor}
use Rattle.polynomial.specs.Sums.{add, add_at, length-add}
use Rattle.polynomial.specs.Xor.{xor, xor_is}

pub record Summed (a b s : List ℕ) (i : ℕ) : Type 0 where
  pub long : length s ≡ length a
  pub sums : (k : ℕ) → k < i → get_or s k 0 ≡ xor (get_or a k 0) (get_or b k 0)

module _ (a b : List ℕ) where
  pub summed-start : (s : List ℕ) → length s ≡ length a → Summed a b s 0
  summed-start s e = record { long = e; sums = λ k h. absurd (Nat.not-suc-le-zero h) }

  pub summed-next : (s : List ℕ) (i : ℕ) → i < length s → Summed a b s i → Summed a b (set s i (bit_xor (get_or a i 0) (get_or b i 0))) (i + 1)
  summed-next s i h t = record {
    long = length-set s i _ ∙ t.long;
    sums = below_more _ _ (λ k l. get_or-set_other s i k _ 0 (λ e. Nat.lt_irrefl i (rw e at l)) ∙ t.sums k l)
        (get_or-set_same s i _ 0 h ∙ xor_is (get_or a i 0) (get_or b i 0));
  }

  pub summed-all : (s : List ℕ) (i : ℕ) → length a ≡ length b → length s ≤ i → Summed a b s i → s ≡ add a b
  summed-all s i e h t =
      ext_get_or 0 s (add a b) (t.long ∙ sym (length-add a b e))
      (λ k l. t.sums k (Nat.lt_of_lt_of_le l h) ∙ sym (add_at a b k e))
