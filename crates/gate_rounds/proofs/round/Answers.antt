use Rattle.std.specs.Prelude.{Result, Ok, Err}
use mathlib.Core.Path.{◌≡◌, refl, sym, ap, ◌∙◌}
use Rattle.code.specs.Answers.{Outcome}
use Rattle.code.specs.declared.Verdict.{Verdict}
use Rattle.code.specs.Demands.{WriteLaws}
use Rattle.code.proofs.Theorems.{demands}
use Rattle.gate_rounds.specs.Answers.{is_member}
use Rattle.gate_rounds.proofs.round.Goals as goal
use Rattle.gate_rounds.proofs.round.Goals.{After-put}

-- the page is written, read out, and written again
written : (c : After-put) → (let a = c.args in WriteLaws a.p a.blocks.now c.put.new.page (Ok tt))
written c =
    let a = c.args in
    (demands a.p c.requires.0).0.write-laws a.l a.blocks.now a.page.now _ _ c.requires.1 c.requires.3.fits c.requires.4 c.requires.3.other c.put.ensures

pub expect-requires : goal.expect-requires
expect-requires c = c.member.ensures ∙ ap is_member ((written (goal.at.expect-requires c).After-put).judged _ c.judge-j.ensures)

pub expect-requires-2 : goal.expect-requires-2
expect-requires-2 c =
    let out : (c.read_out-r.result ≡ Ok Verdict.Member) × (c.read_out-r.new.blocks ≡ c.args.blocks.now) = (written (goal.at.expect-requires-2 c).After-put).read c.args.back.now _ _ c.requires.5 c.read_out-r.ensures in
    c.member-2.ensures ∙ ap is_member (out).0

pub expect-requires-3 : goal.expect-requires-3
expect-requires-3 c =
    let out : (c.read_out-r.result ≡ Ok Verdict.Member) × (c.read_out-r.new.blocks ≡ c.args.blocks.now) = (written (goal.at.expect-requires-3 c).After-put).read c.args.back.now _ _ c.requires.5 c.read_out-r.ensures in
    c.same.ensures.1 (out).1

pub put-requires-2 : goal.put-requires-2
put-requires-2 c =
    let out : (c.read_out-r.result ≡ Ok Verdict.Member) × (c.read_out-r.new.blocks ≡ c.args.blocks.now) = (written (goal.at.put-requires-2 c).After-put).read c.args.back.now _ _ c.requires.5 c.read_out-r.ensures in
    (c.requires.0, c.requires.2, rw (out).1 c.requires.3, c.requires.6)

pub expect-requires-4 : goal.expect-requires-4
expect-requires-4 c =
    let out : (c.read_out-r.result ≡ Ok Verdict.Member) × (c.read_out-r.new.blocks ≡ c.args.blocks.now) = (written (goal.at.expect-requires-4 c).After-put).read c.args.back.now _ _ c.requires.5 c.read_out-r.ensures in
    let again : c.put-2.new.page ≡ c.put.new.page = let a = c.args in
    sym (((demands a.p c.requires.0).1.alike a.l a.m a.blocks.now a.page.now a.again.now _ _ _ _ c.requires.1 c.requires.2 (c.requires.4 ∙ sym c.requires.6) c.put.ensures (rw (out).1 at c.put-2.ensures)).pages refl) in
    c.same-2.ensures.1 (again)

pub returns : goal.returns
returns c = ((written (goal.at.returns c).After-put).page, sym c.judge-j.ensures.answers ∙ (written (goal.at.returns c).After-put).judged _ c.judge-j.ensures)
