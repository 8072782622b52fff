-- What the sub-words after i add to the rule of sub-word i.
--   room_bytes p    the room for the sum of a rule: whole words, with 8 bytes above a sub-word
use Rattle.std.specs.Prelude.{◌≡◌, refl, List, [], ◌∷◌, ℕ, zero, suc, ◌+◌, ◌-◌, ◌*◌, ◌/◌, ◌%◌, ◌^◌, ◌≤◌, ◌<◌, length, get_or, take, drop, replicate}
use Rattle.std.proofs.Common.{sym, ap, ◌∙◌, arith, length-drop, pow_mono, drop-cons, get_or-drop}
use Rattle.std.proofs.Math.Nat as Nat
use Rattle.polynomial.specs.Digits.{value}
use Rattle.polynomial.specs.Xor.{xor}
use Rattle.code.specs.declared.Parameters.{Parameters}
use Rattle.code.specs.Accepted.{Rules}
use Rattle.code.proofs.Accepted.{accepted}
use Rattle.code.specs.Code.{N, combine}
use Rattle.code.specs.Layout.{page_bytes, words_of}
use Rattle.code.proofs.Pages.{words-many}
use Rattle.code.specs.Parameters.{Accepted, sub_word_bytes}
use Rattle.code.proofs.Placement.{word_at}
use Rattle.layout.specs.SubWords.{word_lt}
use Rattle.sheet.specs.Nesting.{N-lt}
use Rattle.kernels.specs.Value.{Bounded, value-cons, value-nil}
use Rattle.encode.specs.Horner.{Over, Sums, combine-lt, sums_next, sums-start, weighted}

drop-none : (k : ℕ) (l : List ℕ) → length l ≤ k → drop k l ≡ []
drop-none zero [] h = refl
drop-none zero (x ∷ l) h = absurd (Nat.not-suc-le-zero h)
drop-none (suc k) [] h = refl
drop-none (suc k) (x ∷ l) h = drop-none k l (Nat.le_of_suc-le-suc h)

-- the sums before any is taken
pub zero-value : (k n : ℕ) → value 8 (take k (replicate n 0)) ≡ 0
zero-value zero n = value-nil 8
zero-value (suc k) zero = value-nil 8
zero-value (suc k) (suc n) = value-cons 8 0 (take k (replicate n 0)) ∙ ap (λ (x : ℕ). x * 2 ^ 8 + 0) (zero-value k n)

module _ (p : Parameters) (page : List ℕ) (i m : ℕ) where
  pub later-start : (a b c : ℕ) → a ≡ 0 → b ≡ 0 → c ≡ 0 → Sums i m (drop p.m (words_of p page)) a b c
  later-start a b c =
      sums-start i m a b c (drop p.m (words_of p page)) (drop-none p.m (words_of p page) (omega (arith, words-many p page)))

  -- w is sub-word k - 1
  pub later-turn : (w : List ℕ) (k a b c a' b' c' : ℕ) → 0 < k → k ≤ p.m → w ≡ take (sub_word_bytes p) (drop ((k - 1) * sub_word_bytes p) page)
      → a' ≡ xor a (value 8 w * 1 % 2 ^ m) → Over i m a' b c b' c' → Sums i m (drop k (words_of p page)) a b c
      → Sums i m (drop (k - 1) (words_of p page)) a' b' c'
  later-turn w k a b c a' b' c' z h e f o s =
      sums_next i m (get_or (words_of p page) (k - 1) 0) a b c a' b' c' (drop k (words_of p page)) (drop (k - 1) (words_of p page))
      (drop-cons (words_of p page) (k - 1) 0 (omega (arith, words-many p page))
      ∙ ap (λ (n : ℕ). get_or (words_of p page) (k - 1) 0 ∷ drop n (words_of p page)) g)
      s (f ∙ ap (λ (y : ℕ). xor a (y * 1 % 2 ^ m)) (ap (value 8) e ∙ sym (word_at p page (k - 1) (omega arith)))) o
    where
      g : suc (k - 1) ≡ k
      g = omega arith

  pub later-done : (k a b c : ℕ) → i < k → k ≤ i + 1 → Sums i m (drop k (words_of p page)) a b c
      → Sums i m (drop (suc i) (words_of p page)) a b c
  later-done k a b c h l s =
      let e : k ≡ suc i = omega arith in
      rw e at s

abbrev pub room_bytes : Parameters → ℕ
room_bytes p = (sub_word_bytes p + 15) / 8 * 8

-- the sum has j bytes, which hold it
pub carried-fits : (p : Parameters) (A : Accepted p) (page : List ℕ) (i j x₀ x : ℕ) → i < p.v → Bounded 8 page → length page ≡ page_bytes p
    → j ≡ room_bytes p
    → x ≡ xor x₀ (weighted i (suc i) (drop (suc i) (words_of p page)) % 2 ^ (8 * j))
    → x ≡ xor x₀ (combine (λ k. N k i) (suc i) (drop (suc i) (words_of p page)))
carried-fits p A page i j x₀ x h b e f g =
    g ∙ ap (xor x₀) (Nat.mod-eq_of_lt (Nat.lt_of_lt_of_le small (pow_mono (omega arith))))
  where
    R : Rules p
    R = accepted p A

    many : length (drop (suc i) (words_of p page)) ≡ p.m - suc i
    many = length-drop (suc i) (words_of p page) ∙ ap (λ (n : ℕ). n - suc i) (words-many p page)

    small : weighted i (suc i) (drop (suc i) (words_of p page)) < 2 ^ (50 + 8 * sub_word_bytes p)
    small =
        combine-lt (λ k. N k i) 50 (8 * sub_word_bytes p) (suc i) 8 (drop (suc i) (words_of p page))
        (λ k l. Nat.lt_of_lt_of_le (N-lt k i (omega (arith, R.v_high))) (pow_mono {j = 50} (omega arith)))
        (omega (arith, many, R.m-high, R.m-low))
        (λ k l. rw (get_or-drop (suc i) (words_of p page) k 0) (word_lt p A page b e (suc i + k) (omega (arith, many))))
