use borrow.Author.Rules.{rules}
use mathlib.Core.Path.{ap, ◌∙◌}
use native.Mathlib.Nat as Nat
use native.Mathlib.Omega.{arith}
use Prim.Native.Nat.{ℕ, ◌+◌}
use Rattle.polynomial.specs.Digits.{value}
use Rattle.encode.proofs.put_sub_word.Goals as goal

pub place-requires : goal.place-requires
place-requires c = (omega (arith, c.requires.0), c.requires.2, c.requires.4)

pub store_low-requires : goal.store_low-requires
store_low-requires c = (omega (arith, c.requires.0), search rules, c.requires.3, rw c.place.ensures (Nat.mul-mod_left _ _))

pub returns : goal.returns
returns c = c.store_low.ensures ∙ ap (λ (x : ℕ). x + value 64 c.args.r.now) c.place.ensures
