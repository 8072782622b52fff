-- The chain of a write of many pages: what its tests show, link by link, and what its end shows. c is their count, b, k and n are the
-- bytes that are lent as blocks, as pages and as the list.
use Rattle.std.specs.Prelude.{◌≡◌, true, false, not, ℕ, ◌*◌, ◌≤◌}
use Rattle.std.proofs.Common.{sym, ◌∙◌, lit≤, eq-eqb, ne_eqb}
use Rattle.std.proofs.Math.Nat as Nat
use Rattle.std.proofs.lemmas.Bool.{not-true, not-false}
use Rattle.code.specs.declared.Parameters.{Parameters}
use Rattle.code.proofs.Chains.{first_of, or-second}
use Rattle.code.specs.Layout.{data_bytes, page_bytes}
use Rattle.code.specs.Lists.{◌when◌, ◌or_else◌}
use Rattle.code.proofs.Many.{many-links}
use Rattle.code.specs.Parameters.{Accepted, sheet_refusal}
use Rattle.code.specs.Refusals.{bad_count, bad_width, many_refusal, not_exact}
use Rattle.code.proofs.Refused.{between_is}

-- a count that is not refused
pub count-high : (c : ℕ) → true ≡ not (bad_count c) → c ≤ 16
count-high c e = (between_is 16 c (rw (← e) tt)).1

-- so many runs of at most 4,096 bytes
pub runs-high : (c size n : ℕ) → c ≤ 16 → size ≡ n → n ≤ 4096 → c * size ≤ 65536
runs-high c size n h e l = rw e (Nat.le_trans (Nat.mul-le-mul {n₂ = 16} {m₂ = 4096} h l) (lit≤ {m = 16 * 4096} {n = 65536} tt))

module _ (p : Parameters) (L c b k n : ℕ) where
  abbrev list-10 : ℕ
  list-10 = 10 when not_exact n c

  abbrev pages-7 : ℕ
  pages-7 = 7 when not_exact k (c * page_bytes p)

  abbrev blocks-6 : ℕ
  blocks-6 = 6 when not_exact b (c * data_bytes p)

  abbrev count-9 : ℕ
  count-9 = 9 when bad_count c

  pub many-sheet : (r : ℕ) → r ≡ sheet_refusal p → (r ≡ 0 → ⊥) → r ≡ many_refusal p L c b k n
  many-sheet r e h =
      first_of r (sheet_refusal p) (5 when bad_width L or_else count-9 or_else blocks-6 or_else pages-7 or_else list-10) e h ∙ sym (many-links p L c b k n)

  module _ (A : Accepted p) where
    accepted : many_refusal p L c b k n ≡ (5 when bad_width L or_else count-9 or_else blocks-6 or_else pages-7 or_else list-10)
    accepted =
        many-links p L c b k n ∙ or-second (sheet_refusal p) (5 when bad_width L or_else count-9 or_else blocks-6 or_else pages-7 or_else list-10) A

    pub many-width : false ≡ not (bad_width L) → 5 ≡ many_refusal p L c b k n
    many-width e = sym (accepted ∙ simp (not-false (bad_width L) (sym e)))

    module _ (e : true ≡ not (bad_width L)) where
      wide : many_refusal p L c b k n ≡ (count-9 or_else blocks-6 or_else pages-7 or_else list-10)
      wide = accepted ∙ simp (not-true (bad_width L) (sym e))

      pub many-count : false ≡ not (bad_count c) → 9 ≡ many_refusal p L c b k n
      many-count h = sym (wide ∙ simp (not-false (bad_count c) (sym h)))

      module _ (f : true ≡ not (bad_count c)) where
        counted : many_refusal p L c b k n ≡ (blocks-6 or_else pages-7 or_else list-10)
        counted = wide ∙ simp (not-true (bad_count c) (sym f))

        pub many-blocks : (b ≡ c * data_bytes p → ⊥) → 6 ≡ many_refusal p L c b k n
        many-blocks h = sym (counted ∙ simp (ne_eqb b (c * data_bytes p) h))

        module _ (g : b ≡ c * data_bytes p) where
          measured : many_refusal p L c b k n ≡ (pages-7 or_else list-10)
          measured = counted ∙ simp (eq-eqb b (c * data_bytes p) g)

          pub many-pages : (k ≡ c * page_bytes p → ⊥) → 7 ≡ many_refusal p L c b k n
          many-pages h = sym (measured ∙ simp (ne_eqb k (c * page_bytes p) h))

          module _ (i : k ≡ c * page_bytes p) where
            left : many_refusal p L c b k n ≡ list-10
            left = measured ∙ simp (eq-eqb k (c * page_bytes p) i)

            pub many-list : (n ≡ c → ⊥) → 10 ≡ many_refusal p L c b k n
            many-list h = sym (left ∙ simp (ne_eqb n c h))

            pub many-else : n ≡ c → 0 ≡ many_refusal p L c b k n
            many-else h = sym (left ∙ simp (eq-eqb n c h))
