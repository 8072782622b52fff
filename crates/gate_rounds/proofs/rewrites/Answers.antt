use mathlib.Core.Bool.{true}
use mathlib.Core.Path.{◌≡◌, sym, ap, ◌∙◌}
use Rattle.std.specs.Prelude.{Result, Ok, Err, ◌↔◌}
use Rattle.code.specs.Answers.{Outcome}
use Rattle.code.specs.Demands.{Rewrites}
use Rattle.code.proofs.Theorems.{demands}
use Rattle.gate_rounds.specs.Answers.{is_done, is_member, alike-found, both_found, never}
use Rattle.gate_rounds.proofs.rewrites.Goals as goal
use Rattle.gate_rounds.proofs.rewrites.Goals.{After-write-w, After-member-judged, then-done, else-done}

again : (c : After-write-w) → (let a = c.args in
    Rewrites a.p a.page.now c.read_out-r.new.blocks c.write-w.new.page c.judge-j.result c.read_out-r.result c.write-w.result)
again c =
    let a = c.args in
    (demands a.p c.requires.0).1.rewrites a.l a.page.now a.blocks.now _ a.again.now _ _ _ _ c.requires.1 c.requires.2 c.requires.3 c.requires.4 c.judge-j.ensures c.read_out-r.ensures c.write-w.ensures

-- the pages are compared only where the writing is done
same_found : (c : After-member-judged) → (c.if-done.same ≡ true) ↔ ((c.write-w.result ≡ Ok tt) × (c.write-w.new.page ≡ c.args.page.now))
same_found c =
    elim c.if-done.branch [
      | then-done w ↦ both_found _ _ true _ _ (sym w.if-done.true ∙ c.done.ensures) w.same-same.ensures w.same-is
      | else-done w ↦ (
        (λ h. absurd (never (sym w.if-done.false ∙ sym w.same-is ∙ h))),
        (λ h. absurd (never (sym w.if-done.false ∙ c.done.ensures ∙ ap is_done h.0))),
      )
    ]

pub expect-requires : goal.expect-requires
expect-requires c =
    let q = goal.at.expect-requires c in
    alike-found _ _ _ _ c.member-judged.ensures (again q.After-write-w).by-judge (same_found q.After-member-judged)

pub expect-requires-2 : goal.expect-requires-2
expect-requires-2 c =
    let q = goal.at.expect-requires-2 c in
    alike-found _ _ _ _ c.member.ensures (again q.After-write-w).by-read-out (same_found q.After-member-judged)

pub returns : goal.returns
returns c = c.member-judged.ensures ∙ ap is_member c.judge-j.ensures.answers
