-- The quote: its refusal, link by link, and its numbers, place by place.
use Rattle.std.specs.Prelude.{◌≡◌, Bool, true, false, cond, List, ◌++◌, map, ℕ, ◌+◌, ◌-◌, ◌*◌, ◌^◌, ◌≤◌, ◌<◌, ltb, length, get_or}
use Rattle.std.proofs.Math.Path.{refl}
use Rattle.std.proofs.Common.{sym, ap, ap₂, ◌∙◌, arith, lit≤, lit<, length-append, get_or-append-add, le-leb, lt-ltb, le-ltb, ltb-true, ltb-false, ne_eqb}
use Rattle.std.proofs.Math.Nat as Nat
use Rattle.std.proofs.Math.ListN.{get_or-append}
use Rattle.std.proofs.lemmas.List.{length-map}
use Rattle.std.proofs.lemmas.Bool.{lt-leb}
use Rattle.polynomial.specs.Sums.{All, at_all}
use Rattle.field.specs.Fields.{by-known}
use Rattle.code.specs.declared.Parameters.{Parameters}
use Rattle.code.specs.Accepted.{Rules}
use Rattle.code.proofs.Accepted.{degree-high}
use Rattle.code.specs.Calls.{bits_quoted, degree_quoted, quote}
use Rattle.code.proofs.Chains.{exact_none, exact-of, first_of, or-last, or-le, or-none, or-second, or-zero, when-le}
use Rattle.code.specs.Code.{check_bits, degree}
use Rattle.code.specs.Layout.{data_bits}
use Rattle.code.specs.Lists.{◌or_else◌, ◌when◌, last_refusal, range}
use Rattle.code.proofs.Pages.{length-range}
use Rattle.code.specs.Parameters.{Accepted, len, sheet_refusal, stored}
use Rattle.code.proofs.Placement.{get_or-map-range}
use Rattle.code.specs.Refusals.{not_exact, quote_refusal}
use Rattle.code.proofs.Refused.{sheet-le}

-- ---- its refusal, link by link
module _ (size : ℕ) (p : Parameters) (out : ℕ) where
  abbrev list-10 : ℕ
  list-10 = 10 when not_exact out (size * 12)

  quote-links : quote_refusal size p out ≡ (sheet_refusal p or_else list-10)
  unfolding quote_refusal
  quote-links = refl

  pub quote-le : quote_refusal size p out ≤ last_refusal
  quote-le = rw quote-links (or-le (sheet_refusal p) list-10 (sheet-le p) (when-le 10 (not_exact out (size * 12)) (lit≤ tt)))

  pub quote-sheet : (k : ℕ) → k ≡ sheet_refusal p → (k ≡ 0 → ⊥) → k ≡ quote_refusal size p out
  quote-sheet k e h = first_of k (sheet_refusal p) list-10 e h ∙ sym quote-links

  pub quote-ten : Accepted p → (out ≡ size * 12 → ⊥) → 10 ≡ quote_refusal size p out
  quote-ten A f = sym (quote-links ∙ or-second (sheet_refusal p) list-10 A ∙ simp (ne_eqb out (size * 12) f))

  pub quote-none : Accepted p → out ≡ size * 12 → quote_refusal size p out ≡ 0
  quote-none A e = quote-links ∙ or-zero (sheet_refusal p) list-10 A (exact_none 10 out (size * 12) e)

  pub quote-exact : out ≡ size * 12 → quote_refusal size p out ≡ sheet_refusal p
  quote-exact e = quote-links ∙ ap (λ (r : ℕ). sheet_refusal p or_else r) (exact_none 10 out (size * 12) e) ∙ or-last (sheet_refusal p)

  pub quote-zero : quote_refusal size p out ≡ 0 → Accepted p × (out ≡ size * 12)
  quote-zero z = let s = or-none (sheet_refusal p) list-10 (sym quote-links ∙ z) in (s.0, exact-of 9 out (size * 12) s.1)

-- ---- its numbers
quote-eq : (p : Parameters) → quote p ≡ map (degree_quoted p) (range 0 4) ++ map (bits_quoted p) (range 0 8)
unfolding quote
quote-eq p = refl

module _ (p : Parameters) where
  length-degrees : length (map (degree_quoted p) (range 0 4)) ≡ 4
  length-degrees = length-map (range 0 4) (degree_quoted p) ∙ length-range 0 4

  length-bits : length (map (bits_quoted p) (range 0 8)) ≡ 8
  length-bits = length-map (range 0 8) (bits_quoted p) ∙ length-range 0 8

  pub quote-length : length (quote p) ≡ 12
  quote-length =
      ap length (quote-eq p) ∙ length-append (map (degree_quoted p) (range 0 4)) (map (bits_quoted p) (range 0 8))
      ∙ ap₂ ◌+◌ length-degrees length-bits

  -- place a holds level a's degree, place 4 + i block i's data bits
  degree-place : (a : ℕ) → a < 4 → get_or (quote p) a 0 ≡ degree_quoted p a
  degree-place a h =
      ap (λ (l : List ℕ). get_or l a 0) (quote-eq p)
      ∙ get_or-append (map (degree_quoted p) (range 0 4)) (map (bits_quoted p) (range 0 8)) 0 a (rw length-degrees h)
      ∙ get_or-map-range (degree_quoted p) 0 4 a h ∙ ap (degree_quoted p) (Nat.zero-add a)

  bits-place : (i : ℕ) → i < 8 → get_or (quote p) (4 + i) 0 ≡ bits_quoted p i
  bits-place i h =
      ap (λ (l : List ℕ). get_or l (4 + i) 0) (quote-eq p)
      ∙ ap (λ (k : ℕ). get_or (map (degree_quoted p) (range 0 4) ++ map (bits_quoted p) (range 0 8)) (k + i) 0) (sym length-degrees)
      ∙ get_or-append-add (map (degree_quoted p) (range 0 4)) (map (bits_quoted p) (range 0 8)) i 0
      ∙ get_or-map-range (bits_quoted p) 0 8 i h ∙ ap (bits_quoted p) (Nat.zero-add i)

  pub quote-degree : (a : ℕ) → a < 4 → a ≤ p.v → get_or (quote p) a 0 ≡ degree p a
  quote-degree a h l = degree-place a h ∙ ap (λ (b : Bool). cond b (degree p a) 0) (le-leb a p.v l)

  pub quote-past-v : (a : ℕ) → a < 4 → p.v < a → get_or (quote p) a 0 ≡ 0
  quote-past-v a h l = degree-place a h ∙ ap (λ (b : Bool). cond b (degree p a) 0) (lt-leb a p.v l)

  pub quote-bits : (i : ℕ) → i < 8 → i < p.m → get_or (quote p) (4 + i) 0 ≡ data_bits p i
  quote-bits i h l = bits-place i h ∙ ap (λ (b : Bool). cond b (data_bits p i) 0) (lt-ltb i p.m l)

  pub quote-past-m : (i : ℕ) → i < 8 → p.m ≤ i → get_or (quote p) (4 + i) 0 ≡ 0
  quote-past-m i h l = bits-place i h ∙ ap (λ (b : Bool). cond b (data_bits p i) 0) (le-ltb i p.m l)

module _ (p : Parameters) (R : Rules p) where
  -- every number is below 2^16
  stored-small : stored p < 2 ^ 16
  stored-small =
      Nat.lt_of_le_of_lt (Nat.sub-le (len p) p.s) (by-known (λ q. 2 ^ q - 1 < 2 ^ 16) (lit< tt) (lit< tt) (lit< tt) p.q R.known)

  pub quote-lt : (j : ℕ) → j < 12 → get_or (quote p) j 0 < 2 ^ 16
  quote-lt j = by_place j (ltb j 4) refl
    where
      level-small : (a : ℕ) (b : Bool) → ltb p.v a ≡ b → a < 4 → get_or (quote p) a 0 < 2 ^ 16
      level-small a true e h = rw (quote-past-v p a h (ltb-true p.v a e)) (lit< tt)
      level-small a false e h =
          let l : a ≤ p.v = ltb-false p.v a e in
          rw (quote-degree p a h l) (Nat.lt_of_le_of_lt (degree-high p R a l) (lit< tt))

      block-small : (i : ℕ) (b : Bool) → ltb i p.m ≡ b → i < 8 → get_or (quote p) (4 + i) 0 < 2 ^ 16
      block-small i true e h =
          rw (quote-bits p i h (ltb-true i p.m e)) (Nat.lt_of_le_of_lt (Nat.sub-le (stored p) (check_bits p i)) stored-small)
      block-small i false e h = rw (quote-past-m p i h (ltb-false i p.m e)) (lit< tt)

      by_place : (j : ℕ) (b : Bool) → ltb j 4 ≡ b → j < 12 → get_or (quote p) j 0 < 2 ^ 16
      by_place j true e h = level-small j (ltb p.v j) refl (ltb-true j 4 e)
      by_place j false e h =
          let l : 4 ≤ j = ltb-false j 4 e in
          let s : 4 + (j - 4) ≡ j = omega arith in
          rw s at (block-small (j - 4) (ltb (j - 4) p.m) refl (omega arith))

  pub quote-small : All (λ x. x < 2 ^ 16) (quote p)
  quote-small = at_all (λ x. x < 2 ^ 16) (quote p) (λ j l. quote-lt j (rw (quote-length p) at l))
