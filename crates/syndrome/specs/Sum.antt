-- Syndromes by the places of a word's ones: S_j is the sum of the powers of α at j times each place.
--   Roots f p         p begins with the powers of the field f
--   table_sum p e      Σ p[e_i], the entries of p at the exponents e
--   Runs q j l e      the exponents e are j times the places l, modulo n
use Rattle.std.specs.Prelude.{◌≡◌, refl, List, map, ℕ, zero, suc, ◌+◌, ◌-◌, ◌*◌, ◌%◌, ◌^◌, ◌≤◌, ◌<◌, length, get_or, take}
use Rattle.std.proofs.Common.{sym, ap, ap₂, ◌∙◌, add-one, arith, length-take, get_or-take, take_all}
use Rattle.std.proofs.Math.Nat as Nat
use Rattle.std.specs.Int.Bits.{bit_xor}
use Rattle.polynomial.specs.Xor.{xor, xor_is}
use Rattle.field.specs.Elements.{evaluate-zero, power, power-num, sum_below, sum_below-suc, sum_below-zero, syndrome, syndrome-eq, syndrome-num, syndrome-xor}
use Rattle.field.specs.Eval.{eval-monomial}
use Rattle.field.specs.Field.{pow, pow-mul}
use Rattle.field.specs.Fields.{Known, field_of}
use Rattle.field.specs.Flips.{flips, flips-nil, flips-take}
use Rattle.code.specs.Lists.{range}
use Rattle.code.proofs.Filled.{map_at, map-length}
use Rattle.tables.specs.Tables.{Powers}
use Rattle.element.specs.declared.Field.{Field}
use Rattle.element.specs.Exponents.{power-mod}
use Rattle.element.specs.Fields.{Sized}
use Rattle.element.specs.Lent.{Tables, exponent_lt}
use Rattle.syndrome.specs.Places.{Places}

pub record Roots (f : Field) (p : List ℕ) : Type 0 where
  pub field : Sized f
  pub powers : Powers f.q (take (2 ^ f.q - 1) p)

pub table-roots : {f : Field} {p l : List ℕ} → Tables f p l → Roots f p
table-roots t = record { field = t.field; powers = t.powers }

pub roots-of : (f : Field) (k : ℕ) (p : List ℕ) → Sized f → f.q ≡ k → Powers k p → Roots f p
roots-of f k p s e x = record { field = s; powers = rw (e, take_all (2 ^ k - 1) p (omega (arith, x.count))) x }

pub roots-room : {f : Field} {p : List ℕ} → Roots f p → 2 ^ f.q - 1 ≤ length p
roots-room {f} {p} r = omega (arith, length-take (2 ^ f.q - 1) p, r.powers.count)

abbrev pub table_sum : List ℕ → List ℕ → ℕ
table_sum p e = sum_below (length e) (λ i. get_or p (get_or e i 0) 0)

pub record Runs (q j : ℕ) (l e : List ℕ) : Type 0 where
  pub size : length e ≡ length l
  pub is : (i : ℕ) → i < length l → get_or e i 0 ≡ j * get_or l i 0 % (2 ^ q - 1)

-- ---- exponents
module _ (q : ℕ) (known : Known q) (l : List ℕ) where
  pub runs-below : (j : ℕ) (e : List ℕ) → Runs q j l e → Places (2 ^ q - 1) (length e) e
  runs-below j e r = record { below = λ i h. exponent_lt q known (get_or e i 0) (j * get_or l i 0) (r.is i (rw r.size at h)) }

  -- places that are below n are the exponents of S_1
  pub runs-one : Places (2 ^ q - 1) (length l) l → Runs q 1 l l
  runs-one b = record { size = refl; is = λ i h. sym (ap (λ (x : ℕ). x % (2 ^ q - 1)) (Nat.one-mul (get_or l i 0)) ∙ Nat.mod-eq_of_lt (b.below i h)) }

  pub runs-add : (j k : ℕ) (e d e' : List ℕ) → Runs q j l e → Runs q k l d → e' ≡ map (λ i. (get_or e i 0 + get_or d i 0) % (2 ^ q - 1)) (range 0 (length e))
      → Runs q (j + k) l e'
  runs-add j k e d e' r s w = record {
    size = map-length (λ i. (get_or e i 0 + get_or d i 0) % n) (length e) e' w ∙ r.size;
    is = λ i h. map_at (λ i. (get_or e i 0 + get_or d i 0) % n) (length e) e' w i (rw r.size h)
        ∙ ap₂ (λ (a b : ℕ). (a + b) % n) (r.is i h) (s.is i h)
        ∙ sym (Nat.add-mod (j * get_or l i 0) (k * get_or l i 0) n) ∙ ap (λ (x : ℕ). x % n) (sym (Nat.add-mul j k (get_or l i 0)));
  }
    where
      n : ℕ
      n = 2 ^ q - 1

  -- those of S_2 are the steps from an odd one to the next
  pub runs-two : (d d' : List ℕ) → d ≡ l → Places (2 ^ q - 1) (length l) l → d' ≡ map (λ i. (get_or d i 0 + get_or l i 0) % (2 ^ q - 1)) (range 0 (length d))
      → Runs q 2 l d'
  runs-two d d' e b w = runs-add 1 1 d l d' (rw e (runs-one b)) (runs-one b) w

  pub runs-next : (i : ℕ) (e d e' : List ℕ) → Runs q (2 * i + 1) l e → Runs q 2 l d
      → e' ≡ map (λ i. (get_or e i 0 + get_or d i 0) % (2 ^ q - 1)) (range 0 (length e)) → Runs q (2 * (i + 1) + 1) l e'
  runs-next i e d e' r s w =
      let k : 2 * i + 1 + 2 ≡ 2 * (i + 1) + 1 = omega arith in
      rw k at (runs-add (2 * i + 1) 2 e d e' r s w)

-- ---- their sum
module _ (f : Field) (p : List ℕ) (R : Roots f p) (l e : List ℕ) (j : ℕ) (r : Runs f.q j l e) where
  known : Known f.q
  known = R.field.known

  syndrome-power : (k : ℕ) → syndrome f.q (2 ^ k) j ≡ power f.q (j * k)
  syndrome-power k =
      let F = (field_of f.q).field in
      sym (syndrome-num f.q known (2 ^ k) j) ∙ ap (field_of f.q).num (eval-monomial F k (pow F (field_of f.q).α j) ∙ sym (pow-mul F (field_of f.q).α j k))
      ∙ power-num f.q known (j * k)

  entry : (i : ℕ) → i < length l → get_or p (get_or e i 0) 0 ≡ syndrome f.q (2 ^ get_or l i 0) j
  entry i h =
      let b = exponent_lt f.q known (get_or e i 0) (j * get_or l i 0) (r.is i h) in
      sym (get_or-take (2 ^ f.q - 1) p (get_or e i 0) 0 b) ∙ R.powers.entry (get_or e i 0) b
      ∙ ap (power f.q) (r.is i h) ∙ power-mod f.q known (j * get_or l i 0) ∙ sym (syndrome-power (get_or l i 0))

  sums : (c : ℕ) → c ≤ length l → sum_below c (λ i. get_or p (get_or e i 0) 0) ≡ syndrome f.q (flips (take c l)) j
  sums zero h =
      sum_below-zero (λ i. get_or p (get_or e i 0) 0)
      ∙ sym (ap (λ (c : ℕ). syndrome f.q c j) flips-nil ∙ syndrome-eq f.q 0 j ∙ evaluate-zero f.q (power f.q j))
  sums (suc c) h =
      sum_below-suc c (λ i. get_or p (get_or e i 0) 0) ∙ ap₂ xor (sums c (Nat.le_of_suc-le h)) (entry c h)
      ∙ sym (syndrome-xor f.q known (flips (take c l)) (2 ^ get_or l c 0) j) ∙ ap (λ (c : ℕ). syndrome f.q c j) (sym (flips-take l c h))

  pub sum_is : table_sum p e ≡ syndrome f.q (flips l) j
  sum_is =
      ap (λ (k : ℕ). sum_below k (λ i. get_or p (get_or e i 0) 0)) r.size ∙ sums (length l) (Nat.le_refl (length l))
      ∙ ap (λ (l : List ℕ). syndrome f.q (flips l) j) (take_all (length l) l (Nat.le_refl (length l)))

-- ---- one term more
pub sum-next : (p e : List ℕ) (i x y : ℕ) → x ≡ sum_below i (λ i. get_or p (get_or e i 0) 0) → y ≡ get_or p (get_or e i 0) 0
    → bit_xor x y ≡ sum_below (i + 1) (λ i. get_or p (get_or e i 0) 0)
sum-next p e i x y h w =
    xor_is x y ∙ ap₂ xor h w
    ∙ sym (ap (λ (k : ℕ). sum_below k (λ i. get_or p (get_or e i 0) 0)) (add-one i) ∙ sum_below-suc i (λ i. get_or p (get_or e i 0) 0))
