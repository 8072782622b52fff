-- Nodes and the weight at one of them, in numbers.
--   weight_at q j i ks N    the weight at the node of i, by the power sums N 0, N 1, .. at α^j of weights at it and at the nodes of ks
--   unmixed_at q rows ks i k   S_(2k + 1) of the error of sub-word i, by rows of 64 odd syndromes, one row a nested word
--   Apart q t i ks         at α, α^3, .., t of them, the nodes of ks are others than that of i
--   Divided q a d r        r is a / d
--   TakenOut q y a b       b are the sums a with the node y taken out
use Rattle.std.specs.Prelude.{◌≡◌, refl, ◌≢◌, List, map, ℕ, suc, ◌+◌, ◌*◌, ◌^◌, ◌<◌, length, get_or}
use Rattle.polynomial.specs.Sums.{All}
use Rattle.polynomial.specs.Xor.{xor}
use Rattle.field.specs.Elements.{element, power, times}
use Rattle.field.specs.Fields.{field_of}
use Rattle.field.specs.Inverse.{recip}
use Rattle.field.specs.Unmix.{unmix}
use Rattle.code.specs.Nest.{node}
use Rattle.massey.specs.Entries.{Below, el, mul2}

unfoldable pub weight_at : ℕ → ℕ → ℕ → List ℕ → (ℕ → ℕ) → ℕ
unfolding unmix element field_of
weight_at q j i ks N = let B = field_of q in B.num (unmix B (node B j i) (map (node B j) ks) (λ l. element B (N l)))

pub weight_at-eq : (q j i : ℕ) (ks : List ℕ) (N : ℕ → ℕ)
    → weight_at q j i ks N ≡ (field_of q).num (unmix (field_of q) (node (field_of q) j i) (map (node (field_of q) j) ks) (λ l. el q (N l)))
unfolding weight_at
weight_at-eq q j i ks N = refl

abbrev pub unmixed_at : ℕ → List ℕ → List ℕ → ℕ → ℕ → ℕ
unmixed_at q rows ks i k = weight_at q (2 * k + 1) i ks (λ l. get_or rows (64 * l + k) 0)

pub record Apart (q t i : ℕ) (ks : List ℕ) : Type 0 where
  pub at : (k : ℕ) → k < t → All (λ j. power q ((2 * k + 1) * j) ≢ power q ((2 * k + 1) * i)) ks

pub record Divided (q a d r : ℕ) : Type 0 where
  pub small : r < 2 ^ q
  pub is : el q r ≡ mul2 q (el q a) (recip (field_of q) (el q d))

pub record TakenOut (q y : ℕ) (a b : List ℕ) : Type 0 where
  pub small : Below q b
  pub size : length b ≡ length a
  pub lower : (l : ℕ) → suc l < length a → get_or b l 0 ≡ xor (get_or a (suc l) 0) (times q y (get_or a l 0))
