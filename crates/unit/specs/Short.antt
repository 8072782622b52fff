-- The bit far above, taken below. x^e is y modulo g_v, so that x^e + y in sub-word i and zeros elsewhere pass; the page of the bit is these and
-- the page of y's data in block i, whose words are of w_v places at most: those are worked out in the sheet with the shortest sub-words.
--   shortest p      the sheet with as many coefficients left out as its rules allow
--   place p i r     the place e of bit r of block i
--   below p i r     y, the remainder of x^e by g_v
--   data_below p i r     the data of y in block i
use Rattle.std.specs.Prelude.{◌≡◌, refl, List, [], ◌∷◌, map, ℕ, ◌+◌, ◌-◌, ◌/◌, ◌^◌, ◌≤◌, ◌<◌, get_or}
use Rattle.std.proofs.Math.Path.{sym}
use Rattle.std.proofs.Common.{ap, ap₂, ◌∙◌, arith, pow-add, pow_mono, pow_pos, shr_lt}
use Rattle.std.proofs.Math.Nat as Nat
use Rattle.std.proofs.Math.Decide.{ℕ_discrete}
use Rattle.std.proofs.Math.ListN.{length}
use Rattle.std.proofs.Math.Seq.{ext_get_or}
use Rattle.polynomial.specs.Division.{rem_lt, xor_shr}
use Rattle.polynomial.specs.Multiple.{rem-differ}
use Rattle.polynomial.specs.Sums.{add, add_at, length-add}
use Rattle.polynomial.specs.Xor.{xor, xor-cancel, xor_comm, xor_self}
use Rattle.field.specs.Fields.{field_of}
use Rattle.code.specs.declared.Parameters.{Parameters}
use Rattle.code.proofs.Accepted.{accepted, degree-high, degree-of, lawful, width-below}
use Rattle.code.specs.Alter.{alone, units}
use Rattle.code.proofs.Bursts.{single-passing}
use Rattle.code.specs.Calls.{generator_row, generators, rows_by}
use Rattle.code.specs.Code.{check_bits, data_from, data_words, degree, encode, gen, level, remainder}
use Rattle.code.proofs.Encode.{encode-add, encode-length, member-encode, unshortened-words}
use Rattle.code.proofs.Judge.{multiple-iff}
use Rattle.code.specs.Layout.{data_bits, page_bytes, single}
use Rattle.code.specs.Lists.{range}
use Rattle.code.proofs.Pages.{length-data}
use Rattle.code.specs.Parameters.{Accepted, len, sheet, stored}
use Rattle.code.proofs.Placement.{data-at, single-at, single-else, single-long}
use Rattle.code.proofs.Shortened.{short-accepted, unshortened-accepted, unshortened-refusal}
use Rattle.code.specs.Steps.{Divides}
use Rattle.layout.specs.Sizes.{Degrees}

abbrev pub shortest : Parameters → Parameters
shortest p = sheet p.q p.m p.v p.t0 p.t1 p.t2 p.t3 (len p - degree p p.v - 1)

-- ---- the shortest sheet
same-degree : (p : Parameters) (a : ℕ) → degree (shortest p) a ≡ degree p a
unfolding degree
same-degree p a = refl

pub shortest-accepted : (p : Parameters) → Accepted p → Accepted (shortest p)
shortest-accepted p A =
    (short-accepted (shortest p) (sym (unshortened-refusal (shortest p)) ∙ unshortened-accepted p A)).1
    (rw (same-degree p p.v) (Nat.le_refl (len p - degree p p.v - 1)))

pub shortest-bits : (p : Parameters) (i : ℕ) → check_bits (shortest p) i ≡ check_bits p i
shortest-bits p i = same-degree p (level p i)

pub shortest-stored : (p : Parameters) → Accepted p → stored (shortest p) ≡ degree p p.v + 1
shortest-stored p A = omega (arith, width-below p (accepted p A) p.v (Nat.le_refl p.v), (lawful p (accepted p A)).pos)

pub shortest-words : (p : Parameters) (ds : List ℕ) → encode (shortest p) ds ≡ encode p ds
shortest-words p ds = unshortened-words (shortest p) ds ∙ sym (unshortened-words p ds)

-- its generators are those of the sheet
pub shortest-rows : (p : Parameters) → Accepted p → generators (shortest p) ≡ generators p
unfolding generators gen
shortest-rows p A = ap (λ (k : ℕ). rows_by k (map (generator_row p) (range 0 4))) (shortest-accepted p A ∙ sym A)

pub shortest-degrees : (p : Parameters) (w : List ℕ) → Degrees p w → Degrees (shortest p) w
shortest-degrees p w D = record { four = D.four; at = λ a h. D.at a h ∙ sym (same-degree p a); past = D.past }

-- its pages are of 776 bytes at most
pub shortest-high : (p q : Parameters) (n : ℕ) → Accepted p → q ≡ shortest p → n ≡ page_bytes q → n ≤ 776
shortest-high p q n A e f =
    let d = degree-high p (accepted p A) p.v (Nat.le_refl p.v) in
    let b : (stored (shortest p) + 7) / 8 ≤ 97 = omega (arith, shortest-stored p A, d) in
    rw (f, e) (Nat.mul-le-mul {n₂ = 8} {m₂ = 97} (accepted p A).m-high b)

-- ---- words that are zero but for one
add_comm : (a b : List ℕ) → length a ≡ length b → add a b ≡ add b a
add_comm [] [] e = refl
add_comm [] (y ∷ b) e = absurd (Nat.suc-ne-zero (length b) (sym e))
add_comm (x ∷ a) [] e = absurd (Nat.suc-ne-zero (length a) e)
add_comm (x ∷ a) (y ∷ b) e = ap₂ ◌∷◌ (xor_comm x y) (add_comm a b (Nat.suc_inj e))

module _ (p : Parameters) (i : ℕ) (li : i < p.m) where
  single-add : (a b : ℕ) → add (single p i a) (single p i b) ≡ single p i (xor a b)
  single-add a b =
      ext_get_or 0 (add (single p i a) (single p i b)) (single p i (xor a b))
      (length-add (single p i a) (single p i b) same ∙ single-long p i a ∙ sym (single-long p i (xor a b)))
      (λ j h. add_at (single p i a) (single p i b) j same
      ∙ go j (rw (length-add (single p i a) (single p i b) same ∙ single-long p i a) at h) (ℕ_discrete j i))
    where
      same : length (single p i a) ≡ length (single p i b)
      same = single-long p i a ∙ sym (single-long p i b)

      go : (j : ℕ) → j < p.m → Dec (j ≡ i) → xor (get_or (single p i a) j 0) (get_or (single p i b) j 0) ≡ get_or (single p i (xor a b)) j 0
      go j h (yes e) = rw e (ap₂ xor (single-at p i a li) (single-at p i b li) ∙ sym (single-at p i (xor a b) li))
      go j h (no n) = ap₂ xor (single-else p i a j h n) (single-else p i b j h n) ∙ xor_self 0 ∙ sym (single-else p i (xor a b) j h n)

  single-data : (c : ℕ) → data_words p (single p i c) ≡ single p i (c / 2 ^ check_bits p i)
  unfolding data_words
  single-data c =
      ext_get_or 0 (data_from p 0 (single p i c)) (single p i (c / 2 ^ check_bits p i))
      (long ∙ sym (single-long p i (c / 2 ^ check_bits p i)))
      (λ j h. data-at p 0 j (single p i c) ∙ go (0 + j) j (Nat.zero-add j) (rw long at h) (ℕ_discrete j i))
    where
      long : length (data_from p 0 (single p i c)) ≡ p.m
      long = length-data p (single p i c) ∙ single-long p i c

      go : (k j : ℕ) → k ≡ j → j < p.m → Dec (j ≡ i) → get_or (single p i c) j 0 / 2 ^ check_bits p k ≡ get_or (single p i (c / 2 ^ check_bits p i)) j 0
      go k j f h (yes e) = rw (f, e) (ap (λ (x : ℕ). x / 2 ^ check_bits p i) (single-at p i c li) ∙ sym (single-at p i (c / 2 ^ check_bits p i) li))
      go k j f h (no n) =
          ap (λ (x : ℕ). x / 2 ^ check_bits p k) (single-else p i c j h n) ∙ Nat.zero-div (2 ^ check_bits p k)
          ∙ sym (single-else p i (c / 2 ^ check_bits p i) j h n)

-- ---- x^e and its remainder by g_v
abbrev pub place : Parameters → ℕ → ℕ → ℕ
place p i r = check_bits p i + r

abbrev pub below : Parameters → ℕ → ℕ → ℕ
below p i r = remainder p p.v (2 ^ place p i r)

abbrev pub data_below : Parameters → ℕ → ℕ → ℕ
data_below p i r = below p i r / 2 ^ check_bits p i

module _ (p : Parameters) (A : Accepted p) (i r : ℕ) (li : i < p.m) where
  pub below-lt : below p i r < 2 ^ degree p p.v
  below-lt = rem_lt (gen p p.v) (degree p p.v) ((lawful p (accepted p A)).degrees p.v (Nat.le_refl p.v)) (2 ^ place p i r)

  abbrev both : ℕ
  both = xor (2 ^ place p i r) (below p i r)

  divides : Divides p p.v both
  divides =
      (multiple-iff p (accepted p A) p.v (Nat.le_refl p.v) both).1
      (rem-differ (gen p p.v) (degree p p.v) (degree-of p (accepted p A) p.v (Nat.le_refl p.v)) (2 ^ place p i r))

  shifted : both / 2 ^ check_bits p i ≡ xor (2 ^ r) (data_below p i r)
  shifted =
      xor_shr (2 ^ place p i r) (below p i r) (check_bits p i)
      ∙ ap (λ (x : ℕ). xor x (data_below p i r))
      (ap (λ (k : ℕ). 2 ^ k / 2 ^ check_bits p i) (Nat.add_comm (check_bits p i) r) ∙ ap (λ (x : ℕ). x / 2 ^ check_bits p i) (pow-add 2 r (check_bits p i))
      ∙ Nat.mul-div_cancel (2 ^ r) (pow_pos (check_bits p i)))

  -- these in sub-word i and zeros elsewhere are the words of a page
  encoded : encode p (single p i (xor (2 ^ r) (data_below p i r))) ≡ single p i both
  encoded =
      ap (λ (x : ℕ). encode p (single p i x)) (sym shifted) ∙ ap (encode p) (sym (single-data p i li both))
      ∙ (member-encode (field_of p.q).field (field_of p.q).α p (lawful p (accepted p A)) (single p i both)).0
      (single-passing p (accepted p A) i both li divides)

  abbrev short : List ℕ
  short = alone p i (data_below p i r)

  summed : add short (units p i r) ≡ single p i both
  summed =
      sym (encode-add p (lawful p (accepted p A)).degrees (single p i (data_below p i r)) (single p i (2 ^ r)))
      ∙ ap (encode p) (single-add p i li (data_below p i r) (2 ^ r) ∙ ap (single p i) (xor_comm (data_below p i r) (2 ^ r)))
      ∙ encoded

  alone-long : (d : ℕ) → length (alone p i d) ≡ p.m
  alone-long d = encode-length p (single p i d) ∙ single-long p i d

  -- THE LAW: word j of the page of the bit
  pub unit-split : (j : ℕ) → get_or (units p i r) j 0 ≡ xor (get_or (single p i both) j 0) (get_or short j 0)
  unit-split j =
      sym (xor-cancel (get_or short j 0) (get_or (units p i r) j 0))
      ∙ ap (xor (get_or short j 0)) (sym (add_at short (units p i r) j (alone-long (data_below p i r) ∙ sym (alone-long (2 ^ r))))
      ∙ ap (λ (cs : List ℕ). get_or cs j 0) summed)
      ∙ xor_comm (get_or short j 0) (get_or (single p i both) j 0)

-- y's data fit in the shortest sheet
pub data-below : (p : Parameters) → Accepted p → (i r : ℕ) → i < p.m → data_below p i r < 2 ^ data_bits (shortest p) i
data-below p A i r li =
    shr_lt (data_bits (shortest p) i) (check_bits p i)
    (Nat.lt_of_lt_of_le (below-lt p A i r li) (pow_mono (omega (arith, shortest-stored p A, shortest-bits p i))))
