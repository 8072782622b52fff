-- The register is moved up and u added; both branches reduce the same sum.
use mathlib.Core.Path.{◌≡◌, ap, ◌∙◌}
use Prim.Native.Nat.{ℕ, ◌*◌, ◌^◌}
use native.Mathlib.Omega.{arith}
use borrow.Author.Rules.{rules}
use Rattle.polynomial.specs.Digits.{value}
use Rattle.polynomial.specs.Xor.{xor}
use Rattle.kernels.specs.Row.{top-zero}
use Rattle.kernels.specs.Shift.{low-fed}
use Rattle.reduction.specs.Step.{Reducing, reducing-less}
use Rattle.reduction.proofs.remainder.step.Goals as goal
use Rattle.reduction.proofs.remainder.step.Goals.{After-insert}

-- what is to be reduced
fed : (k : After-insert) → value 64 k.insert.new.r ≡ xor (value 64 k.args.r.now * 2 ^ k.args.l) (k.args.u * 2 ^ k.args.p)
fed k = let a = k.args in k.insert.ensures.0 ∙ ap (λ (x : ℕ). xor x (a.u * 2 ^ a.p)) k.shift.ensures.0

held : (k : After-insert) → (let a = k.args in Reducing k.insert.new.r a.t.now a.p)
held k =
    record {
      words = search rules;
      table = k.requires.0.table;
      place = omega (arith, k.requires.0.place);
      moved = k.requires.0.moved;
      low = rw (fed k) (low-fed (value 64 k.args.r.now) k.args.u k.args.l k.args.p k.requires.0.low);
    }

pub shift-requires : goal.shift-requires
shift-requires c = (c.requires.1, c.requires.2, top-zero c.args.r.now c.requires.0.words c.requires.0.small)

pub reduce-requires : goal.reduce-requires
reduce-requires c = reducing-less _ _ c.args.p 0 (omega arith) (held (goal.at.reduce-requires c).After-insert)

pub returns-then-p-lt384 : goal.returns-then-p-lt384
returns-then-p-lt384 c = (rw (← fed (goal.at.returns-then-p-lt384 c).After-insert) c.reduce.ensures.0, c.reduce.ensures.1)

pub reduce-requires-else-p-lt384 : goal.reduce-requires-else-p-lt384
reduce-requires-else-p-lt384 c =
    reducing-less _ _ c.args.p 384 c.if-p-lt384.false (held (goal.at.reduce-requires-else-p-lt384 c).After-insert)

pub returns-else-p-lt384 : goal.returns-else-p-lt384
returns-else-p-lt384 c = (rw (← fed (goal.at.returns-else-p-lt384 c).After-insert) c.reduce-else-p-lt384.ensures.0, c.reduce-else-p-lt384.ensures.1)
