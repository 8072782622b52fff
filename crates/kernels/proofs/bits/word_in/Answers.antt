-- The eight bytes are the word: eight_is.
use Rattle.std.proofs.Common.{◌≡◌, ◌∙◌, ℕ, ◌+◌, ◌-◌, ◌%◌, ◌^◌, List, sym, ap, arith, div-one, length-drop, take, drop}
use Rattle.std.proofs.Math.Nat.{mod-mod}
use Rattle.polynomial.specs.Digits.{value}
use Rattle.kernels.specs.Bytes.{eight, eight_is}
use Rattle.kernels.specs.Value.{Bounded, bounded-take, bounded-drop, drop-shr, take-mod}
use Rattle.kernels.proofs.bits.word_in.Goals as goal

pub returns : goal.returns
returns c =
    let s = c.args.s.now in
    let at = c.args.at in
    let b : Bounded 8 s = λ k. (c.type_inv.s k).fits in
    let d = drop at s in
    let n : (at + 8) - at ≡ 8 = omega arith in
    let e : c.unwrap.result ≡ take 8 d = (rw c.unwrap.ensures at c.try_into.ensures).1.same ∙ ap (λ (k : ℕ). take k d) n in
    c.from_le_bytes.ensures ∙ ap (λ (l : List ℕ). eight l 0) e ∙ eight_is (take 8 d) (bounded-take 8 d (bounded-drop 8 s b at) 8) 0
    ∙ ap (λ (x : ℕ). x % 2 ^ 64)
    (div-one (value 8 (take 8 d)) ∙ take-mod 8 d (bounded-drop 8 s b at) 8 (omega (arith, length-drop at s)) ∙ ap (λ (x : ℕ). x % 2 ^ 64) (sym (drop-shr 8 at s b)))
    ∙ mod-mod _ _
