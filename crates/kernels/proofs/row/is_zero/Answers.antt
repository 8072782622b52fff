-- 0 has no digit but 0, and no other number has none but 0.
use Rattle.std.proofs.Common.{◌≡◌, ◌∙◌, ◌↔◌, ℕ, ◌<◌, ◌*◌, ◌^◌, Bool, true, false, refl, sym, rules, length, get_or, eqb}
use Rattle.std.proofs.lemmas.Bool.{iff_false, eq-eqb, ne_eqb}
use Rattle.std.proofs.Math.Nat.{zero-mod, zero-div}
use Rattle.polynomial.specs.Digits.{value, value-at}
use Rattle.kernels.specs.Value.{bounded-all}
use Rattle.kernels.proofs.Zeros.{zeros-value}
use Rattle.kernels.proofs.row.is_zero.Goals as goal

decided : (b : Bool) (x : ℕ) → ((b ≡ true) ↔ (x ≡ 0)) → b ≡ eqb x 0
decided true x h = sym (eq-eqb x 0 (h.0 refl))
decided false x h = sym (ne_eqb x 0 (λ z. iff_false h refl z))

pub returns : goal.returns
returns c =
    let r = c.args.r.now in
    let each : (c.all.result ≡ true) ↔ ((k : ℕ) → k < length r → get_or r k 0 ≡ 0) = search rules in
    decided c.all.result (value 64 r) (
      (λ t. zeros-value 64 r (each.0 t)),
      (λ z. each.1 (λ k i. sym (value-at 64 r (bounded-all 64 r (λ j. (c.type_inv.r j).fits)) k) ∙ rw (z, zero-div (2 ^ (64 * k))) (zero-mod (2 ^ 64)))),
    )
