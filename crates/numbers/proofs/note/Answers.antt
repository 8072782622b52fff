use mathlib.Core.Path.{sym, ap, ◌∙◌}
use mathlib.Core.Bool.{Bool, cond}
use mathlib.Core.List.{[], ◌∷◌, ◌++◌, append-nil}
use Prim.Native.Nat.{ℕ, ◌+◌}
use native.Mathlib.Nat as Nat
use native.Mathlib.Numerals.{add-one}
use native.Mathlib.Omega.{arith}
use lib.ListN.{set, take}
use lib.Seq.{take-suc-set}
use Rattle.numbers.proofs.note.Goals as goal

pub returns-then-out : goal.returns-then-out
returns-then-out c =
    let a = c.args in
    (omega arith, sym (ap (λ (b : Bool). take a.b a.list.now ++ cond b [] (a.i ∷ [])) c.if-out.true ∙ append-nil (take a.b a.list.now)))

pub returns-else-out : goal.returns-else-out
returns-else-out c =
    let a = c.args in (
      Nat.le_refl (a.b + 1),
      ap (λ (k : ℕ). take k (set a.list.now a.b a.i)) (add-one a.b) ∙ take-suc-set a.list.now a.b a.i c.requires
          ∙ sym (ap (λ (b : Bool). take a.b a.list.now ++ cond b [] (a.i ∷ [])) c.if-out.false),
    )
