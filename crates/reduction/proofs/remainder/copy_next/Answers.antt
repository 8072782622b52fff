-- The words of dst up to `from` are those of src below `from`, one place higher, and src's from there to the 11th follow them.
use Rattle.std.proofs.Common.{◌≡◌, ◌++◌, List, [], ◌∷◌, ℕ, zero, suc, ◌+◌, ◌-◌, ◌*◌, ◌^◌, length, take, drop, ap, ap₂, sym, ◌∙◌, arith, length-drop, length-take-le, length-append, append-nil, pow-add, take_at, drop_at}
use Rattle.std.proofs.Math.Nat as Nat
use Rattle.std.proofs.Math.Seq.{take-add}
use Rattle.std.proofs.lemmas.List.{drop_all}
use Rattle.std.proofs.lemmas.Slice.{take-put_mid_below}
use Rattle.polynomial.specs.Digits.{value}
use Rattle.kernels.specs.Value.{Bounded, bounded-drop, bounded-take, value-split}
use Rattle.reduction.proofs.remainder.copy_next.Goals as goal

-- two parts, one above the other
joined : (w n : ℕ) (a b : List ℕ) → length a ≡ n → value w (a ++ b) ≡ value w b * 2 ^ (w * n) + value w a
joined w n a b e =
    value-split w n (a ++ b) (rw (length-append a b) (omega arith))
    ∙ ap₂ (λ (x y : List ℕ). value w x * 2 ^ (w * n) + value w y) (drop_at a b n e) (take_at a b n e)

higher : (f : ℕ) (d m a : List ℕ) → length d ≡ f + 1 → length a ≡ f → value 64 d ≡ value 64 a * 2 ^ 64
    → value 64 (d ++ m) ≡ value 64 (a ++ m) * 2 ^ 64
higher f d m a h l e =
    let j : 64 * (f + 1) ≡ 64 * f + 64 = omega arith in
    joined 64 (f + 1) d m h ∙ ap₂ (λ (x y : ℕ). value 64 m * x + y) (ap (λ (i : ℕ). 2 ^ i) j ∙ pow-add 2 (64 * f) 64) e
    ∙ ap (λ (x : ℕ). x + value 64 a * 2 ^ 64) (sym (Nat.mul_assoc (value 64 m) (2 ^ (64 * f)) (2 ^ 64)))
    ∙ sym (ap (λ (x : ℕ). x * 2 ^ 64) (joined 64 f a m l) ∙ Nat.add-mul (value 64 m * 2 ^ (64 * f)) (value 64 a) (2 ^ 64))

appended : (a b : List ℕ) → Bounded 64 a → Bounded 64 b → Bounded 64 (a ++ b)
appended [] b p q i = q i
appended (x ∷ a) b p q zero = p 0
appended (x ∷ a) b p q (suc i) = appended a b (λ j. p (suc j)) q i

pub returns : goal.returns
returns c =
    let d = c.args.dst.now in
    let s = c.args.src.now in
    let f = c.args.from in
    let k = 12 - (f + 1) in
    let ys = c.copy_from_slice.new.self in
    let e : ys ≡ take (11 - f) (drop f s) = c.copy_from_slice.ensures.after in
    let n : length (drop (f + 1) d) ≡ k = rw (length-drop (f + 1) d) (omega arith) in
    let z : drop k (drop (f + 1) d) ≡ [] = drop_all k (drop (f + 1) d) (omega arith) in
    let w : f + (11 - f) ≡ 11 = omega arith in (
      rw (z, append-nil, e) (higher f (take (f + 1) d) (take (11 - f) (drop f s)) (take f s) (length-take-le (f + 1) d (omega arith)) (length-take-le f s (omega arith)) c.requires.2)
          ∙ ap (λ (l : List ℕ). value 64 l * 2 ^ 64) (sym (take-add f (11 - f) s) ∙ ap (λ (i : ℕ). take i s) w),
      take-put_mid_below (f + 1) k d ys (f + 1) (omega arith) (omega arith),
      rw (z, append-nil, e) (appended (take (f + 1) d) (take (11 - f) (drop f s)) (bounded-take 64 d c.fits-dst (f + 1))
          (bounded-take 64 (drop f s) (bounded-drop 64 s (λ i. (c.type_inv.src i).fits) f) (11 - f))),
    )
