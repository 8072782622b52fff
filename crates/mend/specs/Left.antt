-- What is left in the lent page and list.
--   place_at l c j       place j of the list l, of which c count, or 65535
--   Flipping s l j y    y is s with the first j places of l flipped
--   Listing a l c j b   the first j entries of b, as long as a, are those of the list to leave
use Rattle.std.specs.Prelude.{◌≡◌, refl, cond, ◌⊎◌, List, ℕ, suc, ◌+◌, ◌^◌, ◌≤◌, ◌<◌, ltb, length, get_or, set, take}
use Rattle.std.proofs.Common.{sym, ap, ◌∙◌, inl, inr, add-one, arith, lt-ltb, le-ltb, length-set, length-take, ext_get_or, get_or-set_other, get_or-set_same, get_or-take}
use Rattle.std.proofs.Math.Nat as Nat
use Rattle.std.proofs.Math.Decide.{dec_le}
use Rattle.polynomial.specs.Digits.{value}
use Rattle.polynomial.specs.Xor.{xor, xor_assoc, xor_zero_r}
use Rattle.field.specs.Flips.{flips, flips-nil, flips-take}
use Rattle.code.specs.Layout.{no_place, place_list}
use Rattle.code.proofs.Mend.{places-front, places-long, places-rest}

abbrev pub place_at : List ℕ → ℕ → ℕ → ℕ
place_at l c j = cond (ltb j c) (get_or l j 0) no_place

pub place-counts : (l : List ℕ) (c j : ℕ) → j < c → get_or l j 0 ≡ place_at l c j
place-counts l c j h = sym (rw (lt-ltb j c h) refl)

pub place-past : (l : List ℕ) (c j : ℕ) → c ≤ j → no_place ≡ place_at l c j
place-past l c j h = sym (rw (le-ltb j c h) refl)

-- ---- places flipped, one after another
pub record Flipping (s l : List ℕ) (j : ℕ) (y : List ℕ) : Type 0 where
  pub size : length y ≡ length s
  pub made : value 8 y ≡ xor (value 8 s) (flips (take j l))

pub flip-first : (s l : List ℕ) → Flipping s l 0 s
flip-first s l = record { size = refl; made = sym (ap (xor (value 8 s)) flips-nil ∙ xor_zero_r (value 8 s)) }

pub flip-next : (s l y z : List ℕ) (j : ℕ) → Flipping s l j y → j < length l → length z ≡ length y → value 8 z ≡ xor (value 8 y) (2 ^ get_or l j 0)
    → Flipping s l (j + 1) z
flip-next s l y z j F h e v = record {
  size = e ∙ F.size;
  made = v ∙ ap (λ (c : ℕ). xor c (2 ^ get_or l j 0)) F.made ∙ xor_assoc (value 8 s) (flips (take j l)) (2 ^ get_or l j 0)
      ∙ ap (xor (value 8 s)) (sym (flips-take l j h) ∙ ap (λ (k : ℕ). flips (take k l)) (sym (add-one j)));
}

-- ---- the list
pub record Listing (a l : List ℕ) (c j : ℕ) (b : List ℕ) : Type 0 where
  pub size : length b ≡ length a
  pub made : (i : ℕ) → i < j → get_or b i 0 ≡ place_at l c i

pub list-first : (a l : List ℕ) (c : ℕ) → Listing a l c 0 a
list-first a l c = record { size = refl; made = λ i h. absurd (Nat.not-suc-le-zero h) }

pub list-next : (a l : List ℕ) (c j : ℕ) (b : List ℕ) (x : ℕ) → Listing a l c j b → j < length a → x ≡ place_at l c j → Listing a l c (j + 1) (set b j x)
list-next a l c j b x L h e = record { size = length-set b j x ∙ L.size; made = λ i k. go i (Nat.eq-or-lt_of_le (omega arith)) }
  where
    go : (i : ℕ) → (i ≡ j) ⊎ (i < j) → get_or (set b j x) i 0 ≡ place_at l c i
    go i (inl w) = rw w (get_or-set_same b j x 0 (omega (arith, L.size)) ∙ e)
    go i (inr w) = get_or-set_other b j i x 0 (omega arith) ∙ L.made i w

pub list-last : (a l : List ℕ) (c j : ℕ) (b : List ℕ) → Listing a l c j b → length a ≤ j → c ≤ length l → c ≤ length a → b ≡ place_list (length a) (take c l)
list-last a l c j b L h cl ca =
    ext_get_or 0 b (place_list (length a) (take c l)) (L.size ∙ sym (places-long (length a) (take c l) (omega (arith, few))))
    (λ i k. let m : i < length a = rw L.size at k in L.made i (omega arith) ∙ go i m (dec_le (suc i) c))
  where
    few : length (take c l) ≡ c
    few = length-take c l ∙ Nat.min-eq_left cl

    go : (i : ℕ) → i < length a → Dec (suc i ≤ c) → place_at l c i ≡ get_or (place_list (length a) (take c l)) i 0
    go i m (yes w) = sym (place-counts l c i w) ∙ sym (places-front (length a) (take c l) i (rw few w) ∙ get_or-take c l i 0 w)
    go i m (no w) =
        let u : c ≤ i = omega arith in
        sym (place-past l c i u) ∙ sym (places-rest (length a) (take c l) i (rw few u) m)
