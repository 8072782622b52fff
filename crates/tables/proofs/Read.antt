-- Reading a list by halves, so that antt reads an entry in few steps.
--   read d l i    entry i of l, where i < 2^d
use mathlib.Core.Path.{◌≡◌, refl, ap, ◌∙◌}
use mathlib.Core.Bool.{Bool, true, false}
use mathlib.Core.List.{List}
use Prim.Native.Nat.{ℕ, zero, suc, ◌-◌, ◌^◌, ◌≤◌, ◌<◌}
use native.Mathlib.Nat.{pow-suc}
use native.Mathlib.Omega.{arith}
use lib.Dec.{ltb}
use lib.ListN.{get_or, take, drop}
use lib.Seq.{get_or-take, get_or-drop}
use borrow.Author.Tests.{ltb-true, ltb-false}

-- each half is worked out once, whatever the places read
unfoldable pub read : ℕ → List ℕ → ℕ → ℕ
read zero l = let x = get_or l 0 0 in λ i. x
read (suc d) l =
    let low = take (2 ^ d) l in
    let high = drop (2 ^ d) l in
    let a = read d low in
    let b = read d high in
    λ i. elim (ltb i (2 ^ d)) [ true ↦ a i | false ↦ b (i - 2 ^ d) ]

half : (d : ℕ) (l : List ℕ) (i : ℕ) (b : Bool) → ltb i (2 ^ d) ≡ b → i < 2 ^ suc d
    → ((l : List ℕ) (i : ℕ) → i < 2 ^ d → read d l i ≡ get_or l i 0)
    → elim b [ true ↦ read d (take (2 ^ d) l) i | false ↦ read d (drop (2 ^ d) l) (i - 2 ^ d) ] ≡ get_or l i 0
half d l i true e h ih = let s : i < 2 ^ d = ltb-true i (2 ^ d) e in ih (take (2 ^ d) l) i s ∙ get_or-take (2 ^ d) l i 0 s
half d l i false e h ih =
    let s : 2 ^ d ≤ i = ltb-false i (2 ^ d) e in
    ih (drop (2 ^ d) l) (i - 2 ^ d) (omega (arith, pow-suc 2 d)) ∙ get_or-drop (2 ^ d) l (i - 2 ^ d) 0 ∙ ap (λ (n : ℕ). get_or l n 0) (omega arith)

pub read_at : (d : ℕ) (l : List ℕ) (i : ℕ) → i < 2 ^ d → read d l i ≡ get_or l i 0
unfolding read
read_at zero l i h = ap (λ (n : ℕ). get_or l n 0) (omega arith)
read_at (suc d) l i h = half d l i (ltb i (2 ^ d)) refl h (read_at d)
