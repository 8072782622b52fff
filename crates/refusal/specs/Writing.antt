-- Write's chain: what its tests show, and what its end shows. The lent page has k bytes.
--   Writable p L b k    a width, blocks of exact length without a stray bit, a page of exact length
use Rattle.std.specs.Prelude.{◌≡◌, refl, Bool, true, false, not, ◌&&◌, List, ℕ, ◌^◌, ◌<◌, T, eqb, length, get_or}
use Rattle.std.proofs.Common.{sym, ap, ◌∙◌, eq-eqb, ne_eqb}
use Rattle.std.proofs.Math.Nat as Nat
use Rattle.std.proofs.lemmas.Bool.{not-true, not-false}
use Rattle.polynomial.specs.Sums.{at_all}
use Rattle.code.specs.declared.Parameters.{Parameters}
use Rattle.code.proofs.Accepted as Rules
use Rattle.code.proofs.Blank.{page-full}
use Rattle.code.proofs.Chains.{exact-of, first_of, or-none, or-second, unless, when-none}
use Rattle.code.specs.Layout.{Fits, blank, blocks_clear, blocks_full, data_bytes, page_bytes, page_of}
use Rattle.code.specs.Lists.{◌when◌, ◌or_else◌}
use Rattle.code.specs.Parameters.{Accepted, sheet_refusal}
use Rattle.code.specs.Refusals.{bad_width, not_exact, write_refusal}
use Rattle.code.specs.Refused.{Width}
use Rattle.code.proofs.Refused.{width_of, write-links}

-- ---- a blank page is made at s = 0 only
pub ones-short : (s : ℕ) (b : Bool) → 0 < s → false ≡ (eqb s 0 && b)
ones-short s b h = sym (simp (ne_eqb s 0 (λ e. Nat.lt_irrefl 0 (rw e at h))))

pub ones-whole : (s : ℕ) (b c : Bool) → s ≡ 0 → c ≡ b → c ≡ (eqb s 0 && b)
ones-whole s b c e f = f ∙ rw e refl

pub record Writable (p : Parameters) (L : ℕ) (b : List ℕ) (k : ℕ) : Type 0 where
  pub width : Width L
  pub blocks : length b ≡ data_bytes p
  pub page : k ≡ page_bytes p
  pub clear : T (blocks_clear p b)

module _ (p : Parameters) (L : ℕ) (b : List ℕ) (k : ℕ) where
  abbrev width-5 : ℕ
  width-5 = 5 when bad_width L

  abbrev blocks-6 : ℕ
  blocks-6 = 6 when not_exact (length b) (data_bytes p)

  abbrev page-7 : ℕ
  page-7 = 7 when not_exact k (page_bytes p)

  abbrev stray-8 : ℕ
  stray-8 = 8 when not (blocks_clear p b)

  abbrev made-13 : ℕ
  made-13 = 13 when blank p (page_of p b)

  pub write-sheet : (r : ℕ) → r ≡ sheet_refusal p → (r ≡ 0 → ⊥) → r ≡ write_refusal p L b k
  write-sheet r e h = first_of r (sheet_refusal p) (width-5 or_else blocks-6 or_else page-7 or_else stray-8 or_else made-13) e h ∙ sym (write-links p L b k)

  module _ (A : Accepted p) where
    accepted : write_refusal p L b k ≡ (width-5 or_else blocks-6 or_else page-7 or_else stray-8 or_else made-13)
    accepted = write-links p L b k ∙ or-second (sheet_refusal p) (width-5 or_else blocks-6 or_else page-7 or_else stray-8 or_else made-13) A

    pub write-width : false ≡ not (bad_width L) → 5 ≡ write_refusal p L b k
    write-width e = sym (accepted ∙ simp (not-false (bad_width L) (sym e)))

    module _ (e : true ≡ not (bad_width L)) where
      wide : write_refusal p L b k ≡ (blocks-6 or_else page-7 or_else stray-8 or_else made-13)
      wide = accepted ∙ simp (not-true (bad_width L) (sym e))

      pub write-blocks : (length b ≡ data_bytes p → ⊥) → 6 ≡ write_refusal p L b k
      write-blocks h = sym (wide ∙ simp (ne_eqb (length b) (data_bytes p) h))

      module _ (f : length b ≡ data_bytes p) where
        measured : write_refusal p L b k ≡ (page-7 or_else stray-8 or_else made-13)
        measured = wide ∙ simp (eq-eqb (length b) (data_bytes p) f)

        pub write-page : (k ≡ page_bytes p → ⊥) → 7 ≡ write_refusal p L b k
        write-page h = sym (measured ∙ simp (ne_eqb k (page_bytes p) h))

        module _ (g : k ≡ page_bytes p) where
          left : write_refusal p L b k ≡ (stray-8 or_else made-13)
          left = measured ∙ simp (eq-eqb k (page_bytes p) g)

          pub write-stray : false ≡ blocks_clear p b → 8 ≡ write_refusal p L b k
          write-stray h = sym (left ∙ ap (λ (c : Bool). (8 when not c) or_else made-13) (sym h))

          -- blocks without a stray bit fit: their page would be blank exactly when s is 0 and all their data bits are 1
          module _ (y : (i : ℕ) → get_or b i 0 < 2 ^ 8) (h : true ≡ blocks_clear p b) where
            fits : Fits p b
            fits = record { bytes = at_all (λ d. d < 256) b (λ i l. y i); exact = f; clear = rw (← h) tt }

            by-data : write_refusal p L b k ≡ (13 when (eqb p.s 0 && blocks_full p b))
            by-data =
                left ∙ ap (λ (c : Bool). (8 when not c) or_else made-13) (sym h)
                ∙ ap (λ (c : Bool). 13 when c) (page-full p (Rules.accepted p A) b fits)

            pub write-full : true ≡ (eqb p.s 0 && blocks_full p b) → 13 ≡ write_refusal p L b k
            write-full o = sym (by-data ∙ ap (λ (c : Bool). 13 when c) (sym o))

            pub write-else : false ≡ (eqb p.s 0 && blocks_full p b) → 0 ≡ write_refusal p L b k
            write-else o = sym (by-data ∙ ap (λ (c : Bool). 13 when c) (sym o))

    -- a chain that ends in 0
    pub write-zero : write_refusal p L b k ≡ 0 → Writable p L b k
    write-zero z =
        let s = or-none width-5 (blocks-6 or_else page-7 or_else stray-8 or_else made-13) (sym accepted ∙ z) in
        let t = or-none blocks-6 (page-7 or_else stray-8 or_else made-13) s.1 in
        let u = or-none page-7 (stray-8 or_else made-13) t.1 in
        let o = or-none stray-8 made-13 u.1 in
        record {
          width = width_of L (rw (when-none 4 (bad_width L) s.0) refl);
          blocks = exact-of 5 (length b) (data_bytes p) t.0;
          page = exact-of 6 k (page_bytes p) u.0;
          clear = unless 7 (blocks_clear p b) o.0;
        }
