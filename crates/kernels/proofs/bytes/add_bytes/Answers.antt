-- The loop: i bytes of v are added; all that v has at its end, be it acc's end or v's eighth: all_of.
use Rattle.std.proofs.Common.{inl, inr, ◌≡◌, ◌∙◌, ℕ, ◌+◌, ◌*◌, ◌/◌, ◌%◌, ◌^◌, ◌<◌, refl, ap, arith, get_or, set, length-set, min, mod-eq_of_lt, mod-lt, pow_pos}
use Rattle.std.proofs.lemmas.Bool.{cases_lt}
use Rattle.polynomial.specs.Digits.{value}
use Rattle.polynomial.specs.Xor.{xor, xor_is}
use Rattle.kernels.specs.Add.{added-start, bytes-law}
use Rattle.kernels.specs.Value.{Bounded, set-xor}
use Rattle.kernels.proofs.Digits.{bytes_at}
use Rattle.kernels.proofs.bytes.add_bytes.Goals as goal

pub loop-i-init : goal.loop-i-init
loop-i-init c = added-start _ _ _ c.requires.0

pub loop-i-preserved : goal.loop-i-preserved
loop-i-preserved c =
    let a = c.args in
    let l = c.loop-i in
    let q = c.to_le_bytes-bytes in
    let x = get_or q.result l.i 0 in
    let b : Bounded 8 l.acc = λ k. (c.slice_known-in-loop-i-1.given k).fits in
    let d : x ≡ a.v / 2 ^ (8 * l.i) % 2 ^ 8 = rw q.ensures (bytes_at a.v l.i (omega arith)) in
    let fits : x < 2 ^ 8 = rw d (mod-lt _ (pow_pos 8)) in
    record {
      within = simp length-set (omega arith);
      same = length-set l.acc (a.at + l.i) _ ∙ l.invariant.same;
      done =
          bytes-law _ (value 8 l.acc) _ a.at a.v l.i 1 (l.i + 1) x refl l.invariant.done d
          (ap (λ (y : ℕ). value 8 (set l.acc (a.at + l.i) y)) (xor_is _ x) ∙ set-xor 8 l.acc b (a.at + l.i) x (omega arith) fits);
    }

all_of : (v i n : ℕ) → i ≡ min 8 n → v < 2 ^ 64 → v < 2 ^ (8 * n) → v % 2 ^ (8 * i) ≡ v
all_of v i n e h k = elim (cases_lt n 8) [
  | inl lt ↦ (let f : i ≡ n = omega arith in rw f (mod-eq_of_lt k))
  | inr le ↦ (let f : i ≡ 8 = omega arith in rw f (mod-eq_of_lt h))
]

pub returns : goal.returns
returns c =
    let a = c.args in
    let l = c.loop-i in
    l.invariant.done ∙ ap (λ (y : ℕ). xor (value 8 a.acc.now) (y * 2 ^ (8 * a.at)))
    (all_of a.v l.i _ (omega arith) c.ranges.v.fits c.requires.1)
