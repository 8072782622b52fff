use Rattle.std.specs.Prelude.{Result, Ok, Err}
use mathlib.Core.Path.{◌≡◌, ap, ◌∙◌}
use Prim.Native.Nat.{ℕ}
use lib.Dec.{eqb}
use Rattle.code.specs.Answers.{Outcome}
use Rattle.code.specs.declared.Verdict.{Verdict}
use Rattle.code.specs.Calls.{judge_answer}
use Rattle.gate_rounds.specs.Answers.{is_done, is_member}
use Rattle.gate_rounds.specs.Mended.{mend-is}
use Rattle.gate_rounds.proofs.mended.Goals as goal
use Rattle.gate_rounds.proofs.mended.Goals.{After-mend-o}

-- done, the page that was written, of one flip, and a member
is : (c : After-mend-o) → ((c.mend-o.result ≡ Ok tt)
    × (c.mend-o.new.page ≡ c.put-2.new.page)
    × (c.mend-o.new.flips ≡ 1)
    × (judge_answer c.args.p c.mend-o.new.page ≡ Ok Verdict.Member))
is c =
    let a = c.args in
    mend-is a.p c.requires.0 a.l a.m c.requires.1 c.requires.2 a.a.now a.page.now a.first.now _ _ c.requires.3 c.requires.6 c.requires.7 c.put.ensures c.put-2.ensures a.i a.e c.requires.4 c.requires.5 _ a.list.now _ _ _ _ c.requires.8 (rw c.strike.ensures at c.mend-o.ensures)

pub expect-requires : goal.expect-requires
expect-requires c = c.done.ensures ∙ ap is_done (is (goal.at.expect-requires c).After-mend-o).0

pub expect-requires-2 : goal.expect-requires-2
expect-requires-2 c = c.same.ensures.1 (is (goal.at.expect-requires-2 c).After-mend-o).1

pub expect-requires-3 : goal.expect-requires-3
expect-requires-3 c = ap (λ (n : ℕ). eqb n 1) (is (goal.at.expect-requires-3 c).After-mend-o).2

pub expect-requires-4 : goal.expect-requires-4
expect-requires-4 c = c.member.ensures ∙ ap is_member (c.judge-v.ensures.answers ∙ (is (goal.at.expect-requires-4 c).After-mend-o).3)
