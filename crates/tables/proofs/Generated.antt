-- What antt computes over the list of a field's generators, and what that gives: one law over q.
-- A number over the one before it gives a quotient; it is tested to be the factor, and the number to be the product.
--   quotient n h g              the n lowest coefficients of h / g, where g has the constant term 1
--   factor_of h g                the quotient of h over g, if its degree is at most 12, as that of a factor
--   factor_passes b q j x m      the test of a factor m: b says that j leads its coset, and x is α^j
--   product_passes w m g h       the test of h: it is the product of m and g, and w words hold it
--   number_passes q w k x g h    the test of h: its quotient over g, generator k, is factor k, and it is their product; x is α^(2k + 1)
--   walk q w k x g l            the numbers of l, which are those from k on, pass; g is generator k
--   generated q w l             the test of the list: as many numbers as strengths, and each of them passes
--   words w l                   the words of the numbers of l, w each
--   Number k h                  h is generator k + 1, and w words hold it
use mathlib.Core.Path.{◌≡◌, refl, sym, ap, ap₂, ◌∙◌}
use mathlib.Core.Logic.{inl, inr}
use mathlib.Core.Bool.{Bool, true, false, ◌&&◌}
use mathlib.Core.List.{List, [], ◌∷◌, ◌++◌}
use Prim.Native.Nat.{ℕ, zero, suc, ◌+◌, ◌-◌, ◌*◌, ◌/◌, ◌%◌, ◌^◌, ◌≤◌, ◌<◌}
use native.Mathlib.Nat as Nat
use native.Mathlib.Omega.{arith}
use lib.Dec.{T, eqb, ltb, eqb→eq, ltb→lt}
use lib.ListN.{length, get_or, take, drop, length-append, length-drop, get_or-append}
use lib.Seq.{length-take-le, get_or-take, get_or-drop, get_or-append-add}
use Rattle.polynomial.specs.Clmul.{clmul, clmul-comm}
use Rattle.polynomial.specs.Digits.{digits, digits-at, length_digits}
use Rattle.polynomial.specs.Xor.{xor}
use Rattle.field.specs.Elements.{power, power_zero, evaluate, syndrome-eq}
use Rattle.field.specs.Fields.{Known, field_of, field_of-length}
use Rattle.field.specs.Irreducible.{both}
use Rattle.generator.specs.Exponents.{coset}
use Rattle.generator.specs.Factors.{IsFactor}
use Rattle.generator.proofs.Factors.{factor-is, generator-factor}
use Rattle.generator.specs.Generator.{generator}
use Rattle.generator.specs.Leaders.{leader}
use Rattle.generator.proofs.Next.{generator-zero}
use Rattle.tables.specs.Generators.{strengths, Generators}
use Rattle.tables.specs.Powers.{double}
use Rattle.tables.proofs.Computed.{next}
use Rattle.tables.proofs.Lists.{generators4, generators8, generators12}

unfoldable quotient : ℕ → ℕ → ℕ → ℕ
unfolding xor
quotient zero h g = 0
quotient (suc n) h g =
    let b = h % 2 in
    let r = xor (b * g) h / 2 in
    quotient n r g * 2 + b

abbrev factor_of : ℕ → ℕ → ℕ
factor_of h g = quotient 13 (h % 2 ^ 13) (g % 2 ^ 13)

abbrev factor_passes : Bool → ℕ → ℕ → ℕ → ℕ → Bool
factor_passes true q j x m = eqb (m / 2 ^ length (coset (2 ^ q - 1) q j)) 1 && eqb (evaluate q m x) 0
factor_passes false q j x m = eqb m 1

abbrev product_passes : ℕ → ℕ → ℕ → ℕ → Bool
product_passes w m g h = eqb h (clmul m g) && ltb h (2 ^ (64 * w))

abbrev number_passes : ℕ → ℕ → ℕ → ℕ → ℕ → ℕ → Bool
number_passes q w k x g h =
    let m = factor_of h g in
    factor_passes (leader (2 ^ q - 1) q (suc (2 * k))) q (suc (2 * k)) x m && product_passes w m g h

unfoldable walk : ℕ → ℕ → ℕ → ℕ → ℕ → List ℕ → Bool
unfolding leader coset evaluate double clmul quotient
walk q w k x g [] = true
walk q w k x g (h ∷ l) =
    let y = double q (double q x) in
    number_passes q w k x g h && walk q w (suc k) y h l

abbrev generated : ℕ → ℕ → List ℕ → Bool
generated q w l = eqb (length l) (strengths q) && walk q w 0 (double q 1) 1 l

unfoldable pub words : ℕ → List ℕ → List ℕ
unfolding digits
words w [] = []
words w (g ∷ l) = digits 64 w g ++ words w l

length-words : (w : ℕ) (l : List ℕ) → length (words w l) ≡ w * length l
unfolding words
length-words w [] = sym (Nat.mul-zero w)
length-words w (g ∷ l) = length-append (digits 64 w g) (words w l) ∙ ap₂ ◌+◌ (length_digits 64 w g) (length-words w l) ∙ Nat.add_comm w (w * length l) ∙ sym (Nat.mul-suc w (length l))

words-at : (w : ℕ) (l : List ℕ) (k j : ℕ) → k < length l → j < w → get_or (words w l) (w * k + j) 0 ≡ get_or l k 0 / 2 ^ (64 * j) % 2 ^ 64
unfolding words
words-at w [] k j b h = absurd (Nat.not-suc-le-zero b)
words-at w (g ∷ l) zero j b h =
    ap (λ (i : ℕ). get_or (digits 64 w g ++ words w l) i 0) (rw Nat.mul-zero (Nat.zero-add j))
    ∙ get_or-append (digits 64 w g) (words w l) 0 j (rw (length_digits 64 w g) h) ∙ digits-at 64 w g j h
words-at w (g ∷ l) (suc k) j b h =
    ap (λ (i : ℕ). get_or (digits 64 w g ++ words w l) i 0) (omega (arith, Nat.mul-suc w k, length_digits 64 w g))
    ∙ get_or-append-add (digits 64 w g) (words w l) (w * k + j) 0 ∙ words-at w l k j (Nat.le_of_suc-le-suc b) h

module _ (q w : ℕ) (known : Known q) where
  passes-is : (b : Bool) (j x m : ℕ) → x ≡ power q j → T (factor_passes b q j x m) → IsFactor b q j m
  passes-is true j x m e h =
      let p = both (eqb (m / 2 ^ length (coset (2 ^ q - 1) q j)) 1) (eqb (evaluate q m x) 0) h in
      (eqb→eq (m / 2 ^ length (coset (2 ^ q - 1) q j)) 1 p.0, syndrome-eq q m j ∙ ap (evaluate q m) (sym e) ∙ eqb→eq (evaluate q m x) 0 p.1)
  passes-is false j x m e h = eqb→eq m 1 h

  twice : (x k : ℕ) → x ≡ power q (suc (2 * k)) → double q (double q x) ≡ power q (suc (2 * suc k))
  twice x k e =
      let j : suc (suc (suc (2 * k))) ≡ suc (2 * suc k) = omega arith in
      next q known (double q x) (suc (suc (2 * k))) (next q known x (suc (2 * k)) e) ∙ ap (power q) j

  -- ---- the numbers from i on
  abbrev Number : ℕ → ℕ → Type 0
  Number k h = (h ≡ generator (field_of q) (suc k)) × (h < 2 ^ (64 * w))

  number_is : (i x g h : ℕ) → i < strengths q → x ≡ power q (suc (2 * i)) → g ≡ generator (field_of q) i → T (number_passes q w i x g h) → Number i h
  number_is i x g h b e f t =
      let m : ℕ = factor_of h g in
      let lead : Bool = leader (2 ^ q - 1) q (suc (2 * i)) in
      let p = both (factor_passes lead q (suc (2 * i)) x m) (product_passes w m g h) t in
      let r = both (eqb h (clmul m g)) (ltb h (2 ^ (64 * w))) p.1 in (
        eqb→eq h (clmul m g) r.0 ∙ clmul-comm m g ∙ ap₂ clmul f (factor-is q known i m (passes-is lead (suc (2 * i)) x m e p.0))
            ∙ sym (generator-factor (field_of q) i (omega (arith, field_of-length q known))),
        ltb→lt h (2 ^ (64 * w)) r.1,
      )

  walk-cons : (i x g h : ℕ) (l : List ℕ) → T (walk q w i x g (h ∷ l))
      → T (number_passes q w i x g h) × T (walk q w (suc i) (double q (double q x)) h l)
  unfolding walk
  walk-cons i x g h l t = both (number_passes q w i x g h) (walk q w (suc i) (double q (double q x)) h l) t

  walk_at : (l : List ℕ) (i x g : ℕ) → length l + i ≤ strengths q → x ≡ power q (suc (2 * i)) → g ≡ generator (field_of q) i
      → T (walk q w i x g l) → (k : ℕ) → k < length l → Number (k + i) (get_or l k 0)
  walk_at [] i x g b e f t k c = absurd (Nat.not-suc-le-zero c)
  walk_at (h ∷ l) i x g b e f t zero c = rw (Nat.zero-add i) (number_is i x g h (omega arith) e f (walk-cons i x g h l t).0)
  walk_at (h ∷ l) i x g b e f t (suc k) c =
      rw (Nat.suc-add k i, ← Nat.add-suc k i)
      (walk_at l (suc i) (double q (double q x)) h (omega arith) (twice x i e) (number_is i x g h (omega arith) e f (walk-cons i x g h l t).0).0
      (walk-cons i x g h l t).1 k (Nat.le_of_suc-le-suc c))

  -- ---- a part of the list, in words
  part-holds : (l : List ℕ) → T (generated q w l) → (i n : ℕ) → i + n ≤ strengths q → Generators q w i n (words w (take n (drop i l)))
  part-holds l h i n b = record {
    count = length-words w part ∙ ap (◌*◌ w) part_length;
    fits = λ k c. rw (number k c).0 at (number k c).1;
    word = λ k j c d.
        words-at w part k j (rw part_length c) d
        ∙ ap (λ (g : ℕ). g / 2 ^ (64 * j) % 2 ^ 64) (get_or-take n (drop i l) k 0 c ∙ get_or-drop i l k 0 ∙ (number k c).0);
  }
    where
      part : List ℕ
      part = take n (drop i l)

      p : T (eqb (length l) (strengths q)) × T (walk q w 0 (double q 1) 1 l)
      p = both (eqb (length l) (strengths q)) (walk q w 0 (double q 1) 1 l) h

      count : length l ≡ strengths q
      count = eqb→eq (length l) (strengths q) p.0

      part_length : length part ≡ n
      part_length = length-take-le n (drop i l) (rw (length-drop i l) (omega (arith, count)))

      number : (k : ℕ) → k < n → Number (i + k) (get_or l (i + k) 0)
      number k c =
          rw (Nat.add-zero (i + k)) at (walk_at l 0 (double q 1) 1 (omega (arith, count)) (next q known 1 0 (sym (power_zero q)))
          (sym (generator-zero (field_of q))) p.1 (i + k) (omega (arith, count)))

-- ---- the three lists
pub holds4 : (i n : ℕ) → i + n ≤ strengths 4 → Generators 4 1 i n (words 1 (take n (drop i generators4)))
unfolding walk
holds4 = part-holds 4 1 (inl refl) generators4 tt

pub holds8 : (i n : ℕ) → i + n ≤ strengths 8 → Generators 8 4 i n (words 4 (take n (drop i generators8)))
unfolding walk
holds8 = part-holds 8 4 (inr (inl refl)) generators8 tt

pub holds12 : (i n : ℕ) → i + n ≤ strengths 12 → Generators 12 12 i n (words 12 (take n (drop i generators12)))
unfolding walk
holds12 = part-holds 12 12 (inr (inr refl)) generators12 tt
