use borrow.Author.Tests.{eq-eqb, ne_eqb}
use mathlib.Core.Path.{sym, ◌∙◌}
use Prim.Native.Nat.{◌+◌, ◌*◌, ◌≤◌}
use native.Mathlib.Nat as Nat
use native.Mathlib.Omega.{arith}
use Rattle.sheet.specs.Clashes.{hits, search-start, search-found, search-next, search-done, first-multiple, next_multiple, small-none}
use Rattle.sheet.proofs.clash_at.Goals as goal

pub overflow_mul-d : goal.overflow_mul-d
overflow_mul-d c =
    let a = c.args in
    let h : a.d * a.last ≤ 4096 * 128 = Nat.mul-le-mul {n₂ = 4096} {m₂ = 128} (omega arith) (omega arith) in
    omega arith

pub returns-then-d-last : goal.returns-then-d-last
returns-then-d-last c = let a = c.args in small-none a.d a.n a.last c.requires.0 c.if-d-last.true

pub loop-init : goal.loop-init
loop-init c =
    let a = c.args in
    (search-start (hits a.n a.d) a.last, first-multiple a.d a.n c.requires.1, c.requires.1)

pub returns-then-x-eq0 : goal.returns-then-x-eq0
returns-then-x-eq0 c =
    let a = c.args in
    let s = c.loop in
    search-found (hits a.n a.d) a.last s.counter s.invariant.0 c.loop-test.true (eq-eqb _ _ (sym s.invariant.1 ∙ c.if-x-eq0.true))

pub loop-preserved : goal.loop-preserved
loop-preserved c =
    let a = c.args in
    let s = c.loop in (
      search-next (hits a.n a.d) a.last s.counter s.invariant.0 c.loop-test.true (ne_eqb _ _ (λ e. c.if-x-eq0.false (s.invariant.1 ∙ e))),
      next_multiple a.d a.n s.counter s.x c.modulo-x.result s.invariant.1 c.modulo-x.ensures.0,
      c.modulo-x.ensures.1,
    )

pub returns-else-x-eq0 : goal.returns-else-x-eq0
returns-else-x-eq0 c =
    let a = c.args in
    let s = c.loop in
    search-done (hits a.n a.d) a.last (s.counter + 1)
    (search-next (hits a.n a.d) a.last s.counter s.invariant.0 c.loop-test.true (ne_eqb _ _ (λ e. c.if-x-eq0.false (s.invariant.1 ∙ e)))) (omega arith)

pub returns-else-d-last : goal.returns-else-d-last
returns-else-d-last c = let a = c.args in let s = c.loop in search-done (hits a.n a.d) a.last s.counter s.invariant.0 c.loop-test.false
