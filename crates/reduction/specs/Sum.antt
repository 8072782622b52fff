-- Rows added word by word.
--   rows_of t a b c e j    the sum of the first j words of the four rows at a, b, c and e
--   Copied r₀ r v i        i words of r₀ are replaced by v's, which makes r
use Rattle.std.specs.Prelude.{◌≡◌, refl, List, [], ◌∷◌, ◌++◌, ℕ, ◌+◌, ◌-◌, ◌*◌, ◌/◌, ◌%◌, ◌^◌, ◌<◌, length, get_or, take, drop, set}
use Rattle.std.proofs.Common.{sym, ap, ◌∙◌, add-one, arith, length-drop, take-suc-set, take-suc, get_or-drop}
use Rattle.std.proofs.Math.Nat as Nat
use Rattle.std.specs.Int.Bits.{bit_xor}
use Rattle.polynomial.specs.Digits.{value}
use Rattle.polynomial.specs.Division.{xor_lt}
use Rattle.polynomial.specs.Xor.{xor, xors, xor_is, xor_assoc}
use Rattle.kernels.specs.Move.{Moving, moving-done, moving-start, moving-turn}
use Rattle.kernels.specs.Row.{D}
use Rattle.kernels.specs.Shift.{xor-shl}
use Rattle.kernels.specs.Value.{add_turn, drop-next, Bounded, take-xor, set-xor, bounded-drop}
use Rattle.reduction.specs.Table.{row_at, Clear}

-- ---- one row, added word by word
pub row-turn : (t : List ℕ) (at n : ℕ) (v : List ℕ) (j : ℕ) → Bounded 64 v → Bounded 64 t → j < length v → at + j < length t
    → value 64 v ≡ xor n (value 64 (take j (drop at t)))
    → value 64 (set v j (bit_xor (get_or v j 0) (get_or t (at + j) 0))) ≡ xor n (value 64 (take (j + 1) (drop at t)))
row-turn t at n v j hv ht lv la e =
    ap (λ (x : ℕ). value 64 (set v j (bit_xor (get_or v j 0) x))) (sym (get_or-drop at t j 0))
    ∙ add_turn 64 n v (drop at t) j hv (bounded-drop 64 t ht at) lv (rw (length-drop at t) (omega arith)) e

pub row_done : (t : List ℕ) (at n m j : ℕ) → j ≡ 12 → m ≡ xor n (value 64 (take j (drop at t))) → m ≡ xor n (row_at t at)
unfolding row_at
row_done t at n m j h s = rw h at s

-- ---- one row, moved up by s places: the word below is read off t
pub row-moving-start : (t : List ℕ) (at s : ℕ) (v : List ℕ) → get_or t (at - 1) 0 ≡ 0
    → Moving (drop at t) s (value 64 v) (get_or t (at + 0 - 1) 0 / 2 ^ (64 - s)) v 0
row-moving-start t at s v z =
    let e : at + 0 - 1 ≡ at - 1 = omega arith in
    rw (e, z, Nat.zero-div) (moving-start (drop at t) v s)

pub row-moving-turn : (t : List ℕ) (at s n : ℕ) (v : List ℕ) (j : ℕ) → Bounded 64 t → Bounded 64 v → s < 64 → at + j < length t
    → j < length v → Moving (drop at t) s n (get_or t (at + j - 1) 0 / 2 ^ (64 - s)) v j
    → Moving (drop at t) s n (get_or t (at + (j + 1) - 1) 0 / 2 ^ (64 - s))
    (set v j (bit_xor (bit_xor (get_or v j 0) (get_or t (at + j) 0 * 2 ^ s % 2 ^ 64)) (get_or t (at + j - 1) 0 / 2 ^ (64 - s)))) (j + 1)
row-moving-turn t at s n v j bt bv h lt lv M =
    let e : at + (j + 1) - 1 ≡ at + j = omega arith in
    rw (e, ← get_or-drop at t j 0)
    (moving-turn (drop at t) s n _ v j (bounded-drop 64 t bt at) bv h (rw (length-drop at t) (omega arith)) lv M)

pub row-moved-done : (t : List ℕ) (at s n c : ℕ) (v : List ℕ) (j : ℕ) → j ≡ 12 → Moving (drop at t) s n c v j
    → value 64 v ≡ xor n (row_at t at * 2 ^ s % 2 ^ D)
unfolding row_at
row-moved-done t at s n c v j e M = moving-done (drop at t) s n c v j e M

-- ---- four rows, added word by word
unfoldable pub rows_of : List ℕ → ℕ → ℕ → ℕ → ℕ → ℕ → ℕ
rows_of t a b c e j =
    xor (value 64 (take j (drop a t)))
    (xor (value 64 (take j (drop b t))) (xor (value 64 (take j (drop c t))) (value 64 (take j (drop e t)))))

pub rows_start : (t : List ℕ) (a b c e f n : ℕ) → Clear t a f → Clear t b f → Clear t c f → Clear t e f → n ≡ xor n (rows_of t a b c e f)
unfolding rows_of
rows_start t a b c e f n ha hb hc he = sym (rw (ha, hb, hc, he) (simp xors))

pub rows-turn : (t : List ℕ) (a b c e n : ℕ) (v : List ℕ) (j : ℕ) → Bounded 64 v → Bounded 64 t
    → j < length v → a + j < length t → b + j < length t → c + j < length t → e + j < length t → value 64 v ≡ xor n (rows_of t a b c e j)
    → value 64
    (set v j (bit_xor (bit_xor (bit_xor (bit_xor (get_or v j 0) (get_or t (a + j) 0)) (get_or t (b + j) 0)) (get_or t (c + j) 0)) (get_or t (e + j) 0)))
    ≡ xor n (rows_of t a b c e (j + 1))
unfolding rows_of
rows-turn t a b c e n v j hv ht lv la lb lc le s =
    ap (λ (x : ℕ). value 64 (set v j x)) (shape (get_or v j 0) (get_or t (a + j) 0) (get_or t (b + j) 0) (get_or t (c + j) 0) (get_or t (e + j) 0))
    ∙ set-xor 64 v hv j _ lv (xor_lt 64 _ _ (ht (a + j)) (xor_lt 64 _ _ (ht (b + j)) (xor_lt 64 _ _ (ht (c + j)) (ht (e + j)))))
    ∙ rw (s, more a la, more b lb, more c lc, more e le) (simp (xor-shl, xors))
  where
    more : (i : ℕ) → i + j < length t
        → value 64 (take (j + 1) (drop i t)) ≡ xor (get_or t (i + j) 0 * 2 ^ (64 * j)) (value 64 (take j (drop i t)))
    more i l =
        take-xor 64 (drop i t) (bounded-drop 64 t ht i) j (rw (length-drop i t) (omega arith))
        ∙ ap (λ (x : ℕ). xor (x * 2 ^ (64 * j)) (value 64 (take j (drop i t)))) (get_or-drop i t j 0)

    shape : (x a b c f : ℕ) → bit_xor (bit_xor (bit_xor (bit_xor x a) b) c) f ≡ xor x (xor a (xor b (xor c f)))
    shape x a b c f = simp (xor_is, xor_assoc)

pub rows-done : (t : List ℕ) (a b c e n m j : ℕ) → j ≡ 12 → m ≡ xor n (rows_of t a b c e j)
    → m ≡ xor n (xor (row_at t a) (xor (row_at t b) (xor (row_at t c) (row_at t e))))
unfolding rows_of row_at
rows-done t a b c e n m j h s = rw h at s

-- ---- words copied
pub record Copied (r₀ r v : List ℕ) (i : ℕ) : Type 0 where
  pub left : drop i r ≡ drop i r₀
  pub done : take i r ≡ take i v

pub copy_start : (r v : List ℕ) → Copied r r v 0
copy_start r v = record { left = refl; done = refl }

pub copy-turn : (r₀ r v : List ℕ) (i : ℕ) → i < length r → i < length v → Copied r₀ r v i → Copied r₀ (set r i (get_or v i 0)) v (i + 1)
copy-turn r₀ r v i lr lv p = record {
  left = drop-next r r₀ i (get_or v i 0) p.left;
  done = rw add-one (take-suc-set r i (get_or v i 0) lr ∙ ap (λ (l : List ℕ). l ++ (get_or v i 0 ∷ [])) p.done ∙ sym (take-suc v i 0 lv));
}
