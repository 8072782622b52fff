-- Powers of α, whose exponents count modulo n.
use Rattle.std.specs.Prelude.{◌≡◌, ◌≢◌, ℕ, zero, suc, ◌+◌, ◌-◌, ◌*◌, ◌/◌, ◌%◌, ◌^◌, ◌≤◌, ◌<◌}
use Rattle.std.proofs.Common.{sym, ap, ◌∙◌, div-add-mod', le_antisymm, lt_of_not-le, le_of_suc-le-suc, arith}
use Rattle.std.proofs.Math.Nat as N
use Rattle.polynomial.specs.Clmul.{clmul-pow}
use Rattle.polynomial.specs.Division.{rem}
use Rattle.field.specs.Eval.{eval, eval-sq}
use Rattle.field.specs.Field.{mul-zero, one-mul, pow, pow-zero, pow-suc, pow-add, pow-mul, pow-one, pow≢zero, cancel}
use Rattle.field.specs.Fields.{BinaryField}

module _ (B : BinaryField) where
  open B use {field, q, n, poly, size, num, num-lt, num-zero, num-mul, num-α, α, whole, order}
  open B.field use {K, 𝟘, 𝟙, ◌⊕◌, ◌⊗◌}

  infixl 65 ◌⊕◌
  infixl 70 ◌⊗◌
  pub n_pos : 0 < n
  n_pos = omega (arith, num-lt α, num-α, size)

  pub α≢0 : α ≢ 𝟘
  α≢0 e =
      let z : ◌≡◌ {A = ℕ} 2 0 = sym num-α ∙ ap num e ∙ num-zero in
      omega arith

  -- one power from the last, on numbers
  pub num-next : (a : ℕ) → num (pow field α (suc a)) ≡ rem poly q (num (pow field α a) * 2)
  num-next a = rw (pow-suc field α a) (num-mul α (pow field α a) ∙ rw num-α (ap (rem poly q) (clmul-pow 1 (num (pow field α a)))))

  pub pow-n : (a : ℕ) → pow field α (a * n) ≡ 𝟙
  pow-n a = rw (N.mul_comm a n) (pow-mul field α n a ∙ rw whole (pow-one field a))

  pub pow-mod : (a : ℕ) → pow field α (a % n) ≡ pow field α a
  pow-mod a =
      sym (ap (pow field α) (sym (div-add-mod' a n)) ∙ pow-add field α (a / n * n) (a % n)
      ∙ rw (pow-n (a / n)) (one-mul field (pow field α (a % n))))

  pow-le : (a b : ℕ) → a < n → pow field α a ≡ pow field α b → a ≤ b
  pow-le a b h e =
      le_of_suc-le-suc (lt_of_not-le (λ l. order (a - b) (omega arith) (omega arith)
      (cancel field (pow field α b) (pow field α (a - b)) (pow≢zero field α α≢0 b) (sym (pow-add field α b (a - b)) ∙ rw (w l) e))))
    where
      w : b < a → b + (a - b) ≡ a
      w l = omega arith

  pub pow-inj : (a b : ℕ) → a < n → b < n → pow field α a ≡ pow field α b → a ≡ b
  pow-inj a b h l e = le_antisymm (pow-le a b h e) (pow-le b a l (sym e))

  -- f at the square's power
  pub eval-double : (f a : ℕ) → eval field f (pow field α a) ≡ 𝟘 → (s : ℕ) → eval field f (pow field α (a * 2 ^ s % n)) ≡ 𝟘
  eval-double f a e zero = rw (N.pow-zero 2, N.mul-one a, pow-mod a) e
  eval-double f a e (suc s) = step (eval-double f a e s)
    where
      w : a * 2 ^ suc s ≡ a * 2 ^ s + a * 2 ^ s
      w = rw (N.pow-suc 2 s) (omega arith)

      step : eval field f (pow field α (a * 2 ^ s % n)) ≡ 𝟘 → eval field f (pow field α (a * 2 ^ suc s % n)) ≡ 𝟘
      step ih =
          let h : eval field f (pow field α (a * 2 ^ s)) ≡ 𝟘 = rw (pow-mod (a * 2 ^ s)) at ih in
          rw (pow-mod (a * 2 ^ suc s), w, pow-add field α (a * 2 ^ s) (a * 2 ^ s), eval-sq field f (pow field α (a * 2 ^ s)), h)
          (mul-zero field 𝟘)
