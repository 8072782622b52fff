-- Nested words, sub-word by sub-word.
--   Turned p l page y i    the first i sub-words of the page, each at its power of x in nested word l, add up to y, which has at most 14 bits
--                          more than a sub-word's bytes
--   Summed p l page y      all of them do
use Rattle.std.specs.Prelude.{◌≡◌, refl, Bool, true, false, List, ◌++◌, ℕ, ◌+◌, ◌-◌, ◌*◌, ◌%◌, ◌^◌, ◌≤◌, ◌<◌, leb, length, get_or, take, drop}
use Rattle.std.proofs.Common.{sym, ap, ap₂, ◌∙◌, arith, length-append, length-drop, pow_mono, pow_pos, shl_lt, length-take-le, leb-true, leb-false}
use Rattle.std.proofs.Math.Nat as Nat
use Rattle.std.proofs.Math.Seq.{take-append_seam}
use Rattle.polynomial.specs.Clmul.{clmul, clmul-pow}
use Rattle.polynomial.specs.Digits.{digits, digits_value, value}
use Rattle.polynomial.specs.Division.{Deg, rem, rem_lt, rem-small, unity-deg, xor_lt}
use Rattle.polynomial.specs.Xor.{xor, xor_zero_l}
use Rattle.code.specs.declared.Parameters.{Parameters}
use Rattle.code.proofs.Accepted.{accepted}
use Rattle.code.proofs.Buffers.{nested-lt}
use Rattle.code.specs.Code.{combine, nested, nested_sum, place}
use Rattle.code.specs.Layout.{page_bytes, words_of}
use Rattle.code.proofs.Pages.{words-many}
use Rattle.code.specs.Parameters.{Accepted, len, nested_bytes, sub_word_bytes}
use Rattle.code.proofs.Steps.{nested-eq}
use Rattle.code.proofs.Placement.{word_at}
use Rattle.layout.specs.Sizes.{bits-all, length_high, length-low, nested_places, word-nested}
use Rattle.layout.specs.SubWords.{word_lt}
use Rattle.kernels.specs.Value.{Bounded, bounded-all, bounded-take, take-mod}
use Rattle.nested.specs.Sums.{Combined, combined-start, combined-turn, combined-done}

pub record Turned (p : Parameters) (l : ℕ) (page : List ℕ) (y i : ℕ) : Type 0 where
  pub low : y < 2 ^ (8 * sub_word_bytes p + 14)
  pub sum : Combined (λ k. 2 ^ place l k) 0 (words_of p page) 0 y i

pub record Summed (p : Parameters) (l : ℕ) (page : List ℕ) (y : ℕ) : Type 0 where
  pub low : y < 2 ^ (8 * sub_word_bytes p + 14)
  pub is : y ≡ nested_sum p l (words_of p page)

-- a sub-word is moved up by at most 14 places
pub place-high : (p : Parameters) → Accepted p → (l i : ℕ) → l < p.v → i < p.m → place l i ≤ 14
place-high p A l i h k =
    let R = accepted p A in
    Nat.mul-le-mul {n₂ = 2} {m₂ = 7} (omega (arith, R.v_high)) (omega (arith, R.m-high))

module _ (p : Parameters) (A : Accepted p) (l : ℕ) (page : List ℕ) where
  turned-start : Turned p l page 0 0
  turned-start = record { low = pow_pos (8 * sub_word_bytes p + 14); sum = combined-start (λ k. 2 ^ place l k) 0 (words_of p page) 0 }

  -- w is sub-word i, and the sum has k bytes
  module _ (h : l < p.v) (b : Bounded 8 page) (e : length page ≡ page_bytes p) (w : List ℕ) (i k : ℕ) (hi : i < p.m)
      (f : w ≡ take (sub_word_bytes p) (drop (i * sub_word_bytes p) page)) (hk : k ≡ sub_word_bytes p + 8) where
    word-is : value 8 w ≡ get_or (words_of p page) i 0
    word-is = ap (value 8) f ∙ sym (word_at p page i hi)

    term-lt : value 8 w * 2 ^ (l * i) < 2 ^ (8 * sub_word_bytes p + 14)
    term-lt =
        let o = place-high p A l i h hi in
        rw word-is (Nat.lt_of_lt_of_le (shl_lt (8 * sub_word_bytes p) (l * i) (word_lt p A page b e i hi)) (pow_mono (omega arith)))

    term_fits : value 8 w * 2 ^ (l * i) % 2 ^ (8 * k) ≡ clmul (2 ^ place l i) (get_or (words_of p page) i 0)
    term_fits =
        Nat.mod-eq_of_lt (Nat.lt_of_lt_of_le term-lt (pow_mono (omega arith))) ∙ ap (λ (y : ℕ). y * 2 ^ (l * i)) word-is
        ∙ sym (clmul-pow (l * i) (get_or (words_of p page) i 0))

    pub turned_turn : (x x' : ℕ) → x' ≡ xor x (value 8 w * 2 ^ (l * i) % 2 ^ (8 * k)) → Turned p l page x i → Turned p l page x' (i + 1)
    turned_turn x x' g s = record {
      low =
          rw g (xor_lt (8 * sub_word_bytes p + 14) x (value 8 w * 2 ^ (l * i) % 2 ^ (8 * k)) s.low
          (Nat.lt_of_le_of_lt (Nat.mod-le (value 8 w * 2 ^ (l * i)) (2 ^ (8 * k))) term-lt));
      sum = combined-turn (λ k. 2 ^ place l k) 0 (words_of p page) 0 x x' i s.sum (g ∙ ap (xor x) term_fits);
    }

  -- the first sub-word stays in its place
  pub turned-first : (w : List ℕ) (k x : ℕ) → l < p.v → Bounded 8 page → length page ≡ page_bytes p
      → w ≡ take (sub_word_bytes p) (drop (0 * sub_word_bytes p) page) → k ≡ sub_word_bytes p + 8 → x ≡ value 8 w * 1 % 2 ^ (8 * k)
      → Turned p l page x 1
  turned-first w k x h b e f hk g =
      turned_turn h b e w 0 k (omega (arith, (accepted p A).m-low)) f hk 0 x
      (g ∙ sym (xor_zero_l (value 8 w * 2 ^ (l * 0) % 2 ^ (8 * k)) ∙ rw (Nat.mul-zero l) refl)) turned-start

  pub turned-done : (x i : ℕ) → p.m ≤ i → Turned p l page x i → Summed p l page x
  turned-done x i h s = record {
    low = s.low;
    is = combined-done (λ k. 2 ^ place l k) 0 (words_of p page) 0 x i s.sum (rw (words-many p page) h)
        ∙ xor_zero_l (combine (λ k. 2 ^ place l k) 0 (words_of p page));
  }

  -- what folding asks
  pub summed-fold : (acc : List ℕ) (n x : ℕ) → n ≡ len p → length acc ≡ nested_bytes p + 8 → value 8 acc ≡ x → Summed p l page x
      → (n % 8 ≡ 7) × (n < 1000000) × (n < 8 * length acc) × (value 8 acc < 2 ^ (64 + n)) × (value 8 acc < 2 ^ (n + n))
  summed-fold acc n x e f g s =
      let a = bits-all p A in
      let b = length_high p A in
      let c = length-low p A in
      let d = word-nested p A in (
        omega arith,
        omega arith,
        omega arith,
        rw g (Nat.lt_of_lt_of_le s.low (pow_mono (omega arith))),
        rw g (Nat.lt_of_lt_of_le s.low (pow_mono (omega arith))),
      )

  pub summed-folded : (x y n : ℕ) → n ≡ len p → y ≡ rem (2 ^ n + 1) n x → Summed p l page x → y ≡ nested p l (words_of p page)
  summed-folded x y n e f s = f ∙ ap₂ (λ (k z : ℕ). rem (2 ^ k + 1) k z) e s.is ∙ sym (nested-eq p l (words_of p page))

  -- what is not moved past x^n stays
  pub summed-places : (x y n : ℕ) → n ≡ len p → y ≡ rem (2 ^ n + 1) n x → Summed p l page x → y < 2 ^ nested_places p
  summed-places x y n e f s = go (f ∙ ap (λ (k : ℕ). rem (2 ^ k + 1) k x) e) (leb (len p) (8 * sub_word_bytes p + 14)) refl
    where
      deg : Deg (2 ^ len p + 1) (len p)
      deg = unity-deg (len p) (omega (arith, length-low p A))

      go : y ≡ rem (2 ^ len p + 1) (len p) x → (b : Bool) → leb (len p) (8 * sub_word_bytes p + 14) ≡ b → y < 2 ^ nested_places p
      go g true t = rw (g, Nat.min-eq_left (leb-true (len p) (8 * sub_word_bytes p + 14) t)) (rem_lt (2 ^ len p + 1) (len p) deg x)
      go g false t =
          let h : 8 * sub_word_bytes p + 14 ≤ len p = Nat.le_of_suc-le (leb-false (len p) (8 * sub_word_bytes p + 14) t) in
          rw (g ∙ rem-small (2 ^ len p + 1) (len p) deg x (Nat.lt_of_lt_of_le s.low (pow_mono h)), Nat.min-eq_right h) s.low

-- ---- a part in front, altered
module _ (a x : List ℕ) (k : ℕ) (e : length a ≡ length (take k x)) (h : k ≤ length x) where
  front-is : length a ≡ k
  front-is = e ∙ length-take-le k x h

  pub front_length : length (a ++ drop k x) ≡ length x
  front_length = length-append a (drop k x) ∙ ap₂ ◌+◌ front-is (length-drop k x) ∙ omega arith

  pub front-value : value 8 (take k (a ++ drop k x)) ≡ value 8 a
  front-value = ap (value 8) (ap (λ (i : ℕ). take i (a ++ drop k x)) (sym front-is) ∙ take-append_seam a (drop k x))

-- the bytes of a nested word, where 8 more stand above it
pub nested-bytes : (p : Parameters) (A : Accepted p) (l : ℕ) (acc cs : List ℕ) → Bounded 8 acc → length acc ≡ nested_bytes p + 8
    → value 8 acc ≡ nested p l cs
    → take (nested_bytes p) acc ≡ digits 8 (nested_bytes p) (nested p l cs)
nested-bytes p A l acc cs b e f =
    let h : nested_bytes p ≤ length acc = omega arith in
    sym (digits_value 8 (take (nested_bytes p) acc) (bounded-all 8 (take (nested_bytes p) acc) (bounded-take 8 acc b (nested_bytes p))))
    ∙ ap₂ (digits 8) (length-take-le (nested_bytes p) acc h)
    (take-mod 8 acc b (nested_bytes p) h ∙ ap (λ (y : ℕ). y % 2 ^ (8 * nested_bytes p)) f
    ∙ Nat.mod-eq_of_lt (Nat.lt_of_lt_of_le (nested-lt p (accepted p A) l cs) (pow_mono (omega (arith, bits-all p A)))))
