-- Read out's chain: what its tests show, and what its end shows. The lent buffer has k bytes.
use Rattle.std.specs.Prelude.{◌≡◌, List, ℕ, length}
use Rattle.std.proofs.Math.Path.{refl}
use Rattle.std.proofs.Common.{sym, ◌∙◌, ne_eqb, eq-eqb}
use Rattle.code.specs.declared.Parameters.{Parameters}
use Rattle.code.proofs.Chains.{exact-of, first_of, or-none, or-second}
use Rattle.code.specs.Layout.{data_bytes, page_bytes}
use Rattle.code.specs.Lists.{◌when◌, ◌or_else◌}
use Rattle.code.specs.Parameters.{Accepted, sheet_refusal}
use Rattle.code.specs.Refusals.{not_exact, read_lengths, read_refusal, stray}

-- ---- the lengths, of a page of n bytes
module _ (p : Parameters) (n k : ℕ) where
  abbrev blocks-6 : ℕ
  blocks-6 = 6 when not_exact k (data_bytes p)

  abbrev page-7 : ℕ
  page-7 = 7 when not_exact n (page_bytes p)

  lengths-eq : read_lengths p n k ≡ (sheet_refusal p or_else blocks-6 or_else page-7)
  unfolding read_lengths
  lengths-eq = refl

  sheet-first : (r : ℕ) → r ≡ sheet_refusal p → (r ≡ 0 → ⊥) → r ≡ read_lengths p n k
  sheet-first r e h = first_of r (sheet_refusal p) (blocks-6 or_else page-7) e h ∙ sym lengths-eq

  pub lengths-accepted : read_lengths p n k ≡ 0 → Accepted p
  lengths-accepted z = (or-none (sheet_refusal p) (blocks-6 or_else page-7) (sym lengths-eq ∙ z)).0

  module _ (A : Accepted p) where
    accepted : read_lengths p n k ≡ (blocks-6 or_else page-7)
    accepted = lengths-eq ∙ or-second (sheet_refusal p) (blocks-6 or_else page-7) A

    pub lengths-blocks : (k ≡ data_bytes p → ⊥) → 6 ≡ read_lengths p n k
    lengths-blocks h = sym (accepted ∙ simp (ne_eqb k (data_bytes p) h))

    module _ (e : k ≡ data_bytes p) where
      measured : read_lengths p n k ≡ page-7
      measured = accepted ∙ simp (eq-eqb k (data_bytes p) e)

      pub lengths-page : (n ≡ page_bytes p → ⊥) → 7 ≡ read_lengths p n k
      lengths-page h = sym (measured ∙ simp (ne_eqb n (page_bytes p) h))

      pub lengths_none : n ≡ page_bytes p → 0 ≡ read_lengths p n k
      lengths_none h = sym (measured ∙ simp (eq-eqb n (page_bytes p) h))

    -- lengths that pass are exact
    pub lengths-zero : read_lengths p n k ≡ 0 → (k ≡ data_bytes p) × (n ≡ page_bytes p)
    lengths-zero z =
        let s = or-none blocks-6 page-7 (sym accepted ∙ z) in
        (exact-of 5 k (data_bytes p) s.0, exact-of 6 n (page_bytes p) s.1)

-- ---- the chain
module _ (p : Parameters) (x : List ℕ) (k : ℕ) where
  read-eq : read_refusal p x k ≡ (read_lengths p (length x) k or_else 8 when stray p x)
  unfolding read_refusal
  read-eq = refl

  pub read-lengths : (r : ℕ) → r ≡ read_lengths p (length x) k → (r ≡ 0 → ⊥) → r ≡ read_refusal p x k
  read-lengths r e h = first_of r (read_lengths p (length x) k) (8 when stray p x) e h ∙ sym read-eq

  pub read-sheet : (r : ℕ) → r ≡ sheet_refusal p → (r ≡ 0 → ⊥) → r ≡ read_refusal p x k
  read-sheet r e h = read-lengths r (sheet-first p (length x) k r e h) h

  pub read-accepted : read_refusal p x k ≡ 0 → Accepted p
  read-accepted z = lengths-accepted p (length x) k (or-none (read_lengths p (length x) k) (8 when stray p x) (sym read-eq ∙ z)).0
