-- The odd syndromes of nested words, in rows of 64 places.
--   PutRow r l a b       b is a with the numbers r from place 64 l on
--   Putting r l k a b    the first k of the numbers r are put there
--   Sums p a ws b rows   row l, of the first b, begins with S_1, S_3, .., S_(2 t_a - 1) of nested word l of the words ws
use Rattle.std.specs.Prelude.{◌≡◌, refl, ◌⊎◌, List, ℕ, suc, ◌+◌, ◌-◌, ◌*◌, ◌^◌, ◌<◌, ◌≤◌, length, get_or, set}
use Rattle.std.proofs.Common.{ap, ◌∙◌, inl, inr, zero-le, arith, length-set, get_or-set_same, get_or-set_other}
use Rattle.std.proofs.Math.Nat as Nat
use Rattle.std.proofs.Math.Decide.{dec_le}
use Rattle.field.specs.Elements.{syndrome, syndrome-lt}
use Rattle.code.specs.declared.Parameters.{Parameters}
use Rattle.code.proofs.Accepted.{accepted, strength-high}
use Rattle.code.specs.Code.{nested, odd_syndromes}
use Rattle.code.proofs.Odd.{length-odd, odd-at}
use Rattle.code.specs.Parameters.{Accepted, strength}
use Rattle.massey.specs.Entries.{Below}

pub record PutRow (r : List ℕ) (l : ℕ) (a b : List ℕ) : Type 0 where
  pub size : length b ≡ length a
  pub inside : (k : ℕ) → k < length r → get_or b (64 * l + k) 0 ≡ get_or r k 0
  pub outside : (e : ℕ) → (e < 64 * l) ⊎ (64 * l + length r ≤ e) → get_or b e 0 ≡ get_or a e 0

pub record Sums (p : Parameters) (a : ℕ) (ws : List ℕ) (b : ℕ) (rows : List ℕ) : Type 0 where
  pub size : length rows ≡ 192
  pub below : Below p.q rows
  pub is : (l k : ℕ) → l < b → k < strength p a → get_or rows (64 * l + k) 0 ≡ syndrome p.q (nested p l ws) (2 * k + 1)

-- ---- a row put, entry by entry
pub record Putting (r : List ℕ) (l k : ℕ) (a b : List ℕ) : Type 0 where
  pub size : length b ≡ length a
  pub within : k ≤ length r
  pub inside : (i : ℕ) → i < k → get_or b (64 * l + i) 0 ≡ get_or r i 0
  pub outside : (e : ℕ) → (e < 64 * l) ⊎ (64 * l + k ≤ e) → get_or b e 0 ≡ get_or a e 0

pub putting-first : (r : List ℕ) (l : ℕ) (a : List ℕ) → Putting r l 0 a a
putting-first r l a = record { size = refl; within = zero-le; inside = λ i h. absurd (Nat.not-suc-le-zero h); outside = λ e h. refl }

pub putting-next : {r : List ℕ} {l k : ℕ} {a b : List ℕ} → Putting r l k a b → k < length r → 64 * l + k < length a
    → Putting r l (k + 1) a (set b (64 * l + k) (get_or r k 0))
putting-next {r} {l} {k} {a} {b} P h m = record {
  size = length-set b (64 * l + k) (get_or r k 0) ∙ P.size;
  within = omega arith;
  inside = λ i j. in_row i (Nat.eq-or-lt_of_le (omega arith));
  outside = out;
}
  where
    in_row : (i : ℕ) → (i ≡ k) ⊎ (i < k) → get_or (set b (64 * l + k) (get_or r k 0)) (64 * l + i) 0 ≡ get_or r i 0
    in_row i (inl e) = rw e (get_or-set_same b (64 * l + k) (get_or r k 0) 0 (omega (arith, P.size)))
    in_row i (inr j) = get_or-set_other b (64 * l + k) (64 * l + i) (get_or r k 0) 0 (omega arith) ∙ P.inside i j

    out : (e : ℕ) → (e < 64 * l) ⊎ (64 * l + (k + 1) ≤ e) → get_or (set b (64 * l + k) (get_or r k 0)) e 0 ≡ get_or a e 0
    out e (inl j) = get_or-set_other b (64 * l + k) e (get_or r k 0) 0 (omega arith) ∙ P.outside e (inl j)
    out e (inr j) = get_or-set_other b (64 * l + k) e (get_or r k 0) 0 (omega arith) ∙ P.outside e (inr (omega arith))

pub putting-last : {r : List ℕ} {l k : ℕ} {a b : List ℕ} → Putting r l k a b → length r ≤ k → PutRow r l a b
putting-last {r} {l} {k} {a} {b} P h = record { size = P.size; inside = λ i j. P.inside i (Nat.lt_of_lt_of_le j h); outside = out }
  where
    out : (e : ℕ) → (e < 64 * l) ⊎ (64 * l + length r ≤ e) → get_or b e 0 ≡ get_or a e 0
    out e (inl j) = P.outside e (inl j)
    out e (inr j) = P.outside e (inr (omega (arith, P.within)))

pub row-size : (p : Parameters) (t c : ℕ) (r : List ℕ) → r ≡ odd_syndromes p t c → length r ≡ t
row-size p t c r e = ap length e ∙ length-odd p t c

-- ---- a row of syndromes more
pub sums_first : (p : Parameters) (a : ℕ) (ws rows : List ℕ) → length rows ≡ 192 → Below p.q rows → Sums p a ws 0 rows
sums_first p a ws rows e h = record { size = e; below = h; is = λ l k i j. absurd (Nat.not-suc-le-zero i) }

module _ {p : Parameters} {a : ℕ} {ws : List ℕ} {l : ℕ} {rows : List ℕ} (A : Accepted p) (av : a ≤ p.v) (S : Sums p a ws l rows)
    {r b : List ℕ} (e : r ≡ odd_syndromes p (strength p a) (nested p l ws)) (P : PutRow r l rows b) where
  abbrev size : length r ≡ strength p a
  size = row-size p (strength p a) (nested p l ws) r e

  here : (k : ℕ) → k < strength p a → get_or b (64 * l + k) 0 ≡ syndrome p.q (nested p l ws) (2 * k + 1)
  here k h = P.inside k (omega (arith, size)) ∙ ap (λ (r : List ℕ). get_or r k 0) e ∙ odd-at p (strength p a) (nested p l ws) k h

  pub sums_next : Sums p a ws (l + 1) b
  sums_next = record {
    size = P.size ∙ S.size;
    below = record { lt = λ i. small i (dec_le (suc i) (64 * l)) (dec_le (64 * l + strength p a) i) };
    is = λ i k h j. row i k j (Nat.eq-or-lt_of_le (omega arith));
  }
    where
      small : (i : ℕ) → Dec (suc i ≤ 64 * l) → Dec (64 * l + strength p a ≤ i) → get_or b i 0 < 2 ^ p.q
      small i (yes h) o = rw (P.outside i (inl h)) (S.below.lt i)
      small i (no h) (yes o) = rw (P.outside i (inr (omega (arith, size)))) (S.below.lt i)
      small i (no h) (no o) =
          let j : 64 * l + (i - 64 * l) ≡ i = omega arith in
          rw (← j, here (i - 64 * l) (omega arith)) (syndrome-lt p.q (accepted p A).known (nested p l ws) (2 * (i - 64 * l) + 1))

      row : (i k : ℕ) → k < strength p a → (i ≡ l) ⊎ (i < l) → get_or b (64 * i + k) 0 ≡ syndrome p.q (nested p i ws) (2 * k + 1)
      row i k h (inl j) = rw j (here k h)
      row i k h (inr j) = P.outside (64 * i + k) (inl (omega (arith, strength-high p A a av))) ∙ S.is i k j h
