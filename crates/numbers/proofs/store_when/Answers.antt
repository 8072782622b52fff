use mathlib.Core.Path.{sym, ap, ◌∙◌}
use Prim.Native.Nat.{ℕ}
use native.Mathlib.Nat as Nat
use Rattle.code.proofs.Answers.{leaves-refused}
use Rattle.code.specs.Calls.{as_bytes, leaves}
use Rattle.numbers.proofs.store_when.Goals as goal

pub returns-else-n-eq0 : goal.returns-else-n-eq0
returns-else-n-eq0 c = sym (leaves-refused _ _ _ (Nat.pos_of_ne-zero c.if-n-eq0.false))

pub store-requires : goal.store-requires
store-requires c = c.requires c.if-n-eq0.true

pub returns-then-n-eq0 : goal.returns-then-n-eq0
returns-then-n-eq0 c =
    let a = c.args in
    c.store.ensures ∙ sym (ap (λ (n : ℕ). leaves n (as_bytes a.numbers.now) a.list.now) c.if-n-eq0.true)
