use Rattle.std.specs.Prelude.{Result, Ok, Err}
use borrow.Author.Tests.{eq-eqb}
use mathlib.Core.Path.{◌≡◌, sym, ap, ◌∙◌}
use Prim.Native.Nat.{◌<◌}
use Rattle.polynomial.specs.Sums.{at_all}
use Rattle.code.specs.declared.Refusal.{Refusal}
use Rattle.code.specs.Answers.{answer_number}
use Rattle.code.specs.Answers.{Outcome}
use Rattle.code.specs.Demands.{BlankReadLaws}
use Rattle.code.proofs.Theorems.{demands}
use Rattle.gate_rounds.specs.Answers.{is_blank}
use Rattle.gate_rounds.proofs.erased.Goals as goal
use Rattle.gate_rounds.proofs.erased.Goals.{After-read_out-r}

-- the page is read out
out : (c : After-read_out-r) → (let a = c.args in
    BlankReadLaws a.p a.page.now c.read_out-r.new.blocks c.read_out-r.result)
out c =
    let a = c.args in
    (demands a.p c.requires.0).0.blank-read-laws a.page.now a.blocks.now _ _ (at_all (λ d. d < 256) a.page.now (λ i h. (c.type_inv.page i).fits)) c.requires.2 c.requires.4 c.read_out-r.ensures

pub expect-requires : goal.expect-requires
expect-requires c =
    let a = c.args in
    c.blank.ensures ∙ ap is_blank (((demands a.p c.requires.0).0.blank-laws a.page.now _ (at_all (λ d. d < 256) a.page.now (λ i h. (c.type_inv.page i).fits)) c.requires.2 c.judge-j.ensures).1 c.requires.3)

pub expect-requires-2 : goal.expect-requires-2
expect-requires-2 c = c.blank-2.ensures ∙ ap is_blank ((out (goal.at.expect-requires-2 c).After-read_out-r).answers.1 c.requires.3)

pub expect-requires-3 : goal.expect-requires-3
expect-requires-3 c =
    let refused : (let a = c.args in
    (c.write-w.result ≡ Err Refusal.Blank) × (c.write-w.new.page ≡ a.again.now)) = let a = c.args in
    let l = (demands a.p c.requires.0).0.blank-write-laws a.l _ a.again.now _ _ c.requires.1 ((out (goal.at.expect-requires-3 c).After-read_out-r).fits c.requires.3) c.requires.5 c.write-w.ensures in
    let b = l.ones.1 (c.requires.7, (out (goal.at.expect-requires-3 c).After-read_out-r).ones c.requires.3) in
    (l.refused.1 b, l.kept b) in
    eq-eqb _ _ (c.number.ensures ∙ ap answer_number (refused).0)

pub expect-requires-4 : goal.expect-requires-4
expect-requires-4 c =
    let refused : (let a = c.args in
    (c.write-w.result ≡ Err Refusal.Blank) × (c.write-w.new.page ≡ a.again.now)) = let a = c.args in
    let l = (demands a.p c.requires.0).0.blank-write-laws a.l _ a.again.now _ _ c.requires.1 ((out (goal.at.expect-requires-4 c).After-read_out-r).fits c.requires.3) c.requires.5 c.write-w.ensures in
    let b = l.ones.1 (c.requires.7, (out (goal.at.expect-requires-4 c).After-read_out-r).ones c.requires.3) in
    (l.refused.1 b, l.kept b) in
    c.same.ensures.1 ((refused).1 ∙ sym c.requires.6)
