use Rattle.std.proofs.lemmas.Result.{err_from_is_err_and}
use Rattle.code.proofs.Answers.{refusal-ne}
use mathlib.Core.Path.{◌≡◌, sym, ◌∙◌}
use native.Mathlib.Nat as Nat
use native.Mathlib.Omega.{arith}
use Prim.Native.Nat.{◌*◌}
use Rattle.code.proofs.Odd.{all-open, all_none, all-not-odd, all-not-out}
use Rattle.code.specs.Parameters.{strength}
use Rattle.code.specs.Refusals.{open_refusal}
use Rattle.refusal.proofs.all_refusal.Goals as goal
use Rattle.refusal.proofs.all_refusal.Goals.{After-strength_at-t, then-odd-t-via-then-odd-t, then-odd-t-via-else-odd-t+then-out-t}

-- nothing is refused before the lengths, and t is the level's strength
module _ (c : After-strength_at-t) where
  opened : open_refusal c.args.p c.args.level ≡ 0
  opened = sym c.in_ok-open_refusal.ensures

  t-is : c.strength_at-t.result ≡ 1 * strength c.args.p c.args.level
  t-is = c.strength_at-t.ensures ∙ sym (Nat.one-mul (strength c.args.p c.args.level))

pub returns-in_err-open_refusal : goal.returns-in_err-open_refusal
returns-in_err-open_refusal c =
    let p = err_from_is_err_and c.from_residual.result c.from_residual.ensures.1 in
    rw (p.1, p.2) (all-open _ _ _ _ _ _ c.in_err-open_refusal.ensures (refusal-ne _))

pub returns-then-odd-t : goal.returns-then-odd-t
returns-then-odd-t c =
    let at-t = (goal.at.returns-then-odd-t c).After-strength_at-t in
    elim c.then-odd-t.branch [
      | then-odd-t-via-then-odd-t w ↦ all-not-odd _ _ _ _ _ (opened at-t) (λ e. w.if-odd-t.true (e ∙ sym (t-is at-t)))
      | then-odd-t-via-else-odd-t+then-out-t w ↦
          all-not-out _ _ _ _ _ (opened at-t) (w.if-odd-t.false ∙ t-is at-t) (λ e. w.if-out-t.true (omega (arith, e, t-is at-t)))
    ]

pub returns : goal.returns
returns c = sym (all_none _ _ _ _ _ (opened (goal.at.returns c).After-strength_at-t) (c.if-odd-t.false ∙ t-is (goal.at.returns c).After-strength_at-t) (omega (arith, c.if-out-t.false, t-is (goal.at.returns c).After-strength_at-t)))
