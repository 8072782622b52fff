-- Lists of odd syndromes, and all syndromes from them.
use Rattle.std.specs.Prelude.{◌≡◌, List, ℕ, suc, ◌+◌, ◌*◌, ◌^◌, ◌≤◌, ◌<◌, length, get_or}
use Rattle.std.proofs.Math.Path.{refl}
use Rattle.std.proofs.Common.{sym, ap, ◌∙◌, zero-le, suc-le-suc, add-one, lit≤, pow_mono, ext_get_or, ne_eqb}
use Rattle.std.proofs.Math.Nat as Nat
use Rattle.std.proofs.lemmas.List.{length-map}
use Rattle.polynomial.specs.Sums.{All, at_all}
use Rattle.field.specs.Elements.{syndrome, syndrome-lt}
use Rattle.field.specs.Fields.{Known}
use Rattle.field.specs.Odd.{from_odd, word-odd}
use Rattle.code.specs.declared.Parameters.{Parameters}
use Rattle.code.proofs.Buffers.{bytes-at, length-syndromes, syndromes-at, numbers-back}
use Rattle.code.specs.Calls.{as_bytes, as_numbers, number_at}
use Rattle.code.proofs.Chains.{exact_none, exact-of, first_of, or-le, or-none, or-second, or-zero, when-le}
use Rattle.code.specs.Code.{all_syndromes, odd_syndromes, syndromes}
use Rattle.code.specs.Lists.{◌or_else◌, ◌when◌, last_refusal, range}
use Rattle.code.proofs.Pages.{length-range}
use Rattle.code.specs.Parameters.{Accepted, strength}
use Rattle.code.proofs.Placement.{get_or-map-range}
use Rattle.code.specs.Refusals.{all_refusal, not_exact, open_refusal}
use Rattle.code.proofs.Refused.{open-le, open-zero}
use Rattle.code.proofs.Accepted.{q-high}

-- ---- the lists, number by number
pub length-odd : (p : Parameters) (t c : ℕ) → length (odd_syndromes p t c) ≡ t
unfolding odd_syndromes
length-odd p t c = length-map (range 0 t) _ ∙ length-range 0 t

-- place i holds S_(2i + 1)
pub odd-at : (p : Parameters) (t c i : ℕ) → i < t → get_or (odd_syndromes p t c) i 0 ≡ syndrome p.q c (2 * i + 1)
unfolding odd_syndromes
odd-at p t c i h =
    get_or-map-range (λ i. syndrome p.q c (2 * i + 1)) 0 t i h ∙ ap (λ (i : ℕ). syndrome p.q c (2 * i + 1)) (Nat.zero-add i)

pub length-all : (p : Parameters) (l : List ℕ) → length (all_syndromes p l) ≡ 2 * length l
unfolding all_syndromes
length-all p l = length-map (range 1 (2 * length l)) (from_odd p.q (λ i. get_or l i 0)) ∙ length-range 1 (2 * length l)

pub all-at : (p : Parameters) (l : List ℕ) (j : ℕ) → j < 2 * length l → get_or (all_syndromes p l) j 0 ≡ from_odd p.q (λ i. get_or l i 0) (suc j)
unfolding all_syndromes
all-at p l j h =
    get_or-map-range (from_odd p.q (λ i. get_or l i 0)) 1 (2 * length l) j h
    ∙ ap (from_odd p.q (λ i. get_or l i 0)) (Nat.add_comm 1 j ∙ add-one j)

-- ---- from the odd ones of a word come all of them
pub all-odd : (p : Parameters) → Known p.q → (c t : ℕ) → all_syndromes p (odd_syndromes p t c) ≡ syndromes p (2 * t) c
all-odd p known c t =
    ext_get_or 0 (all_syndromes p (odd_syndromes p t c)) (syndromes p (2 * t) c) (size ∙ sym (length-syndromes p (2 * t) c))
    (λ j h. let k : j < 2 * t = rw size at h in
    all-at p (odd_syndromes p t c) j (rw (length-odd p t c) k)
    ∙ word-odd p.q known c t (λ i. get_or (odd_syndromes p t c) i 0) (odd-at p t c) (suc j) (suc-le-suc zero-le) k
    ∙ sym (syndromes-at p (2 * t) c j k))
  where
    size : length (all_syndromes p (odd_syndromes p t c)) ≡ 2 * t
    size = length-all p (odd_syndromes p t c) ∙ ap (λ (k : ℕ). 2 * k) (length-odd p t c)

-- ---- in C's bytes
-- a syndrome takes at most 12 bits, so 16 hold it
small : (p : Parameters) → Known p.q → (c j : ℕ) → syndrome p.q c j < 2 ^ 16
small p known c j =
    Nat.lt_of_lt_of_le (syndrome-lt p.q known c j) (pow_mono {j = 16} (Nat.le_trans (q-high p.q known) (lit≤ {m = 12} {n = 16} tt)))

module _ (p : Parameters) (known : Known p.q) where
  odd-small : (t c : ℕ) → All (λ x. x < 2 ^ 16) (odd_syndromes p t c)
  odd-small t c =
      at_all (λ x. x < 2 ^ 16) (odd_syndromes p t c)
      (λ i l. rw (odd-at p t c i (rw (length-odd p t c) at l)) (small p known c (2 * i + 1)))

  all_small : (k c : ℕ) → All (λ x. x < 2 ^ 16) (syndromes p k c)
  all_small k c =
      at_all (λ x. x < 2 ^ 16) (syndromes p k c)
      (λ j l. rw (syndromes-at p k c j (rw (length-syndromes p k c) at l)) (small p known c (suc j)))

  pub odd-bytes : (t c i : ℕ) → i < t → number_at (as_bytes (odd_syndromes p t c)) i ≡ syndrome p.q c (2 * i + 1)
  odd-bytes t c i h = bytes-at (odd_syndromes p t c) (odd-small t c) i (rw (length-odd p t c) h) ∙ odd-at p t c i h

  pub all-bytes : (k c j : ℕ) → j < k → number_at (as_bytes (syndromes p k c)) j ≡ syndrome p.q c (suc j)
  all-bytes k c j h = bytes-at (syndromes p k c) (all_small k c) j (rw (length-syndromes p k c) h) ∙ syndromes-at p k c j h

  pub odd-back : (t c : ℕ) → as_numbers (as_bytes (odd_syndromes p t c)) ≡ odd_syndromes p t c
  odd-back t c = numbers-back (odd_syndromes p t c) (odd-small t c)

-- ---- the refusal, link by link
module _ (size : ℕ) (p : Parameters) (level odd out : ℕ) where
  abbrev odd-10 : ℕ
  odd-10 = 10 when not_exact odd (size * strength p level)

  abbrev out-10 : ℕ
  out-10 = 10 when not_exact out (size * (2 * strength p level))

  all-links : all_refusal size p level odd out ≡ (open_refusal p level or_else odd-10 or_else out-10)
  unfolding all_refusal
  all-links = refl

  pub all-le : all_refusal size p level odd out ≤ last_refusal
  all-le =
      rw all-links (or-le (open_refusal p level) (odd-10 or_else out-10) (open-le p level)
      (or-le odd-10 out-10 (when-le 10 (not_exact odd (size * strength p level)) (lit≤ tt)) (when-le 10 (not_exact out (size * (2 * strength p level))) (lit≤ tt))))

  pub all-open : (k : ℕ) → k ≡ open_refusal p level → (k ≡ 0 → ⊥) → k ≡ all_refusal size p level odd out
  all-open k e h = first_of k (open_refusal p level) (odd-10 or_else out-10) e h ∙ sym all-links

  pub all-zero : all_refusal size p level odd out ≡ 0 → Accepted p × (level ≤ p.v) × (odd ≡ size * strength p level) × (out ≡ size * (2 * strength p level))
  all-zero z =
      let s = or-none (open_refusal p level) (odd-10 or_else out-10) (sym all-links ∙ z) in
      let u = or-none odd-10 out-10 s.1 in
      let o = open-zero p level s.0 in
      (o.0, o.1, exact-of 9 odd (size * strength p level) u.0, exact-of 9 out (size * (2 * strength p level)) u.1)

  module _ (o : open_refusal p level ≡ 0) where
    pub all-not-odd : (odd ≡ size * strength p level → ⊥) → 10 ≡ all_refusal size p level odd out
    all-not-odd f =
        sym (all-links ∙ or-second (open_refusal p level) (odd-10 or_else out-10) o ∙ simp (ne_eqb odd (size * strength p level) f))

    module _ (e : odd ≡ size * strength p level) where
      pub all-not-out : (out ≡ size * (2 * strength p level) → ⊥) → 10 ≡ all_refusal size p level odd out
      all-not-out f =
          sym (all-links ∙ or-second (open_refusal p level) (odd-10 or_else out-10) o
          ∙ or-second odd-10 out-10 (exact_none 10 odd (size * strength p level) e) ∙ simp (ne_eqb out (size * (2 * strength p level)) f))

      pub all_none : out ≡ size * (2 * strength p level) → all_refusal size p level odd out ≡ 0
      all_none f =
          all-links ∙ or-zero (open_refusal p level) (odd-10 or_else out-10) o
          (or-zero odd-10 out-10 (exact_none 10 odd (size * strength p level) e) (exact_none 10 out (size * (2 * strength p level)) f))
