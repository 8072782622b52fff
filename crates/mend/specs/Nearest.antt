-- The flips that mend a word, by its syndromes: what is located is what is nearest.
--   Knows p a y S    S_1 to S_(2 t_a) are the syndromes of y
use Rattle.std.specs.Prelude.{◌≡◌, ◌↔◌, List, map, ℕ, suc, ◌-◌, ◌*◌, ◌^◌, ◌≤◌, ◌<◌, ◌+◌, get_or, Some}
use Rattle.std.proofs.Common.{sym, ap, ◌∙◌, zero-le, arith, pow_pos}
use Rattle.std.proofs.Math.Option.{Option}
use Rattle.std.proofs.Math.Nat as Nat
use Rattle.std.proofs.Math.Decide.{dec_le}
use Rattle.std.proofs.Math.ListN.{get_or-eq_default}
use Rattle.polynomial.specs.Multiple.{Multiple}
use Rattle.polynomial.specs.Xor.{xor, xor-eq-zero, xor_self}
use Rattle.field.specs.Elements.{syndrome, syndrome-lt, syndrome-xor}
use Rattle.field.specs.Fields.{Known}
use Rattle.field.specs.Flips.{flips}
use Rattle.field.specs.Odd.{word-odd}
use Rattle.locator.proofs.Found.{complete, locate-agree, sound}
use Rattle.locator.specs.Locate.{Located, locate}
use Rattle.code.specs.declared.Parameters.{Parameters}
use Rattle.code.specs.Accepted.{Rules}
use Rattle.code.proofs.Accepted.{accepted, rising, stored-le}
use Rattle.code.specs.Code.{Flips, gen, nearest, remainder}
use Rattle.code.specs.Demands.{Vanishes}
use Rattle.code.proofs.Judge.{multiple-iff}
use Rattle.code.proofs.Mend.{nearest-clean, nearest-iff, same-option}
use Rattle.code.specs.Parameters.{Accepted, stored, strength}
use Rattle.code.specs.Lists.{range}
use Rattle.code.proofs.Theorems.{demand2}
use Rattle.element.specs.declared.Field.{Field}
use Rattle.element.specs.Fields.{field_at}
use Rattle.massey.specs.Entries.{Below}
use Rattle.locating.specs.Look.{from_list, front}
use Rattle.code.proofs.Filled.{map_at, map-length}
use Rattle.word.specs.Level.{level-syndrome}

abbrev pub Knows : Parameters → ℕ → ℕ → (ℕ → ℕ) → Type 0
Knows p a y S = (j : ℕ) → 0 < j → j ≤ 2 * strength p a → S j ≡ syndrome p.q y j

module _ (p : Parameters) (A : Accepted p) (a : ℕ) (av : a ≤ p.v) (y : ℕ) (low : y < 2 ^ stored p) (S : ℕ → ℕ) (knows : Knows p a y S) where
  R : Rules p
  R = accepted p A

  multiples : (c : ℕ) → Multiple (gen p a) c ↔ Vanishes p.q (strength p a) c
  multiples = ((demand2 p A).generator-laws a av).multiples

  vanishing : (c d j : ℕ) → syndrome p.q c j ≡ syndrome p.q d j → syndrome p.q (xor c d) j ≡ 0
  vanishing c d j e = syndrome-xor p.q R.known c d j ∙ rw e (xor_self (syndrome p.q d j))

  same : (c d j : ℕ) → syndrome p.q (xor c d) j ≡ 0 → syndrome p.q c j ≡ syndrome p.q d j
  same c d j e = xor-eq-zero (syndrome p.q c j) (syndrome p.q d j) (sym (syndrome-xor p.q R.known c d j) ∙ e)

  located-flips : (Q : List ℕ) → Located p.q S (strength p a) (stored p) Q → Flips p a y Q
  located-flips Q L = record {
    rising = L.rising;
    few = L.few;
    multiple = (multiples (xor y (flips Q))).1 (λ j i h. vanishing y (flips Q) j (sym (L.sums j i h ∙ knows j i h)));
  }

  flips-located : (Q : List ℕ) → Flips p a y Q → Located p.q S (strength p a) (stored p) Q
  flips-located Q f = record {
    rising = f.rising;
    few = f.few;
    sums = λ j i h. sym (knows j i h ∙ same y (flips Q) j ((multiples (xor y (flips Q))).0 f.multiple j i h));
  }

  pub nearest-located : nearest p a y ≡ locate p.q S (strength p a) (stored p)
  nearest-located =
      same-option (nearest p a y) (locate p.q S (strength p a) (stored p))
      (λ Q e. complete p.q R.known S (strength p a) (stored p) (stored-le p R) Q (flips-located Q ((nearest-iff p R a av y low Q).0 e)))
      (λ Q e. (nearest-iff p R a av y low Q).1 (located-flips Q (sound p.q R.known S (strength p a) (stored p) Q e)))

-- ---- odd syndromes in a list
module _ (q : ℕ) (known : Known q) (c t : ℕ) (o : List ℕ) (e : o ≡ map (λ i. syndrome q c (2 * i + 1)) (range 0 t)) where
  pub odd-below : Below q o
  odd-below = record { lt = λ i. go i (dec_le (suc i) t) }
    where
      go : (i : ℕ) → Dec (suc i ≤ t) → get_or o i 0 < 2 ^ q
      go i (yes h) = rw (map_at (λ i. syndrome q c (2 * i + 1)) t o e i h) (syndrome-lt q known c (2 * i + 1))
      go i (no h) = rw (get_or-eq_default o 0 {n = i} (omega (arith, map-length (λ i. syndrome q c (2 * i + 1)) t o e))) (pow_pos q)

  pub locate-odd : (z : ℕ) → z ≤ 2 ^ q - 1 → locate q (from_list q o) t z ≡ locate q (syndrome q c) t z
  locate-odd z h =
      locate-agree q known (from_list q o) (syndrome q c) t z h
      (word-odd q known c t (λ i. get_or o i 0) (λ i l. map_at (λ i. syndrome q c (2 * i + 1)) t o e i l))

-- ---- a sheet's field, strength and places, as they are lent
module _ (p : Parameters) (A : Accepted p) (f : Field) (e : f ≡ field_at p.q) (z : ℕ) (w : z ≡ stored p) where
  pub sheet-bounds : (t : ℕ) → t ≡ strength p 0 → (t ≤ 64) × (2 * t < 2 ^ f.q - 1) × (z ≤ 2 ^ f.q - 1)
  sheet-bounds t d =
      let R = accepted p A in
      let h = rising p R 0 p.v zero-le (Nat.le_refl p.v) in
      rw e (omega (arith, h, R.high), omega (arith, h, R.short, R.t-low), rw w (stored-le p R))

  pub sheet-located : (c t : ℕ) (o : Option (List ℕ)) → locate f.q (syndrome f.q c) t z ≡ o → locate p.q (syndrome p.q c) t (stored p) ≡ o
  sheet-located c t o h = rw (e, w) at h

-- ---- by the remainder of the word by g_0
module _ (p : Parameters) (A : Accepted p) (y : ℕ) (low : y < 2 ^ stored p) (r : ℕ) (e : r ≡ remainder p 0 y) where
  pub nearest_zero : r ≡ 0 → (l : List ℕ) → nearest p 0 y ≡ front (Some 0) l
  nearest_zero z l = nearest-clean p (accepted p A) 0 zero-le y low ((multiple-iff p (accepted p A) 0 zero-le y).0 (sym e ∙ z))

  pub nearest-remainder : (t : ℕ) (o : Option (List ℕ)) → t ≡ strength p 0 → locate p.q (syndrome p.q r) t (stored p) ≡ o → nearest p 0 y ≡ o
  nearest-remainder t o d h =
      nearest-located p A 0 zero-le y low (syndrome p.q r)
      (λ j i b. ap (λ (c : ℕ). syndrome p.q c j) e ∙ level-syndrome p A 0 zero-le y j i b)
      ∙ ap (λ (t : ℕ). locate p.q (syndrome p.q r) t (stored p)) (sym d) ∙ h
