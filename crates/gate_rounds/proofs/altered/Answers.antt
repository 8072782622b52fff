use Rattle.std.specs.Prelude.{Result, Ok, Err}
use mathlib.Core.Path.{◌≡◌, ap, ◌∙◌}
use Rattle.code.specs.Answers.{Outcome}
use Rattle.code.specs.declared.Verdict.{Verdict}
use Rattle.code.proofs.Theorems.{demands}
use Rattle.gate_rounds.specs.Altered.{alter-is}
use Rattle.gate_rounds.specs.Answers.{is_done, is_member}
use Rattle.gate_rounds.proofs.altered.Goals as goal
use Rattle.gate_rounds.proofs.altered.Goals.{After-alter-to}

-- the page of a becomes that of b, which gives b read out, and becomes the first again
to : (c : After-alter-to) → (c.alter-to.result ≡ Ok tt) × (c.alter-to.new.page ≡ c.put-3.new.page)
to c =
    let a = c.args in
    alter-is a.p c.requires.0 a.l a.m c.requires.1 c.requires.2 a.a.now a.b.now a.page.now a.other.now _ _ _ a.i a.r a.x _ c.requires.3.apt-a c.requires.3.names-x c.requires.3.a-to-b c.requires.4 c.requires.6 c.put.ensures c.put-3.ensures c.alter-to.ensures

pub expect-requires : goal.expect-requires
expect-requires c = c.done.ensures ∙ ap is_done (to (goal.at.expect-requires c).After-alter-to).0

pub expect-requires-2 : goal.expect-requires-2
expect-requires-2 c = c.same.ensures.1 (to (goal.at.expect-requires-2 c).After-alter-to).1

pub expect-requires-3 : goal.expect-requires-3
expect-requires-3 c =
    let out : (c.read_out-v.result ≡ Ok Verdict.Member) × (c.read_out-v.new.blocks ≡ c.args.b.now) = let a = c.args in
    ((demands a.p c.requires.0).0.write-laws a.m a.b.now a.other.now _ _ c.requires.2 c.requires.3.apt-b.fits c.requires.6 c.requires.3.apt-b.other c.put-3.ensures).read a.back.now _ _ c.requires.7 (rw (to (goal.at.expect-requires-3 c).After-alter-to).1 at c.read_out-v.ensures) in
    c.member.ensures ∙ ap is_member (out).0

pub expect-requires-4 : goal.expect-requires-4
expect-requires-4 c =
    let out : (c.read_out-v.result ≡ Ok Verdict.Member) × (c.read_out-v.new.blocks ≡ c.args.b.now) = let a = c.args in
    ((demands a.p c.requires.0).0.write-laws a.m a.b.now a.other.now _ _ c.requires.2 c.requires.3.apt-b.fits c.requires.6 c.requires.3.apt-b.other c.put-3.ensures).read a.back.now _ _ c.requires.7 (rw (to (goal.at.expect-requires-4 c).After-alter-to).1 at c.read_out-v.ensures) in
    c.same-2.ensures.1 (out).1

pub expect-requires-5 : goal.expect-requires-5
expect-requires-5 c =
    let from : (c.alter-from.result ≡ Ok tt) × (c.alter-from.new.page ≡ c.put-2.new.page) = let a = c.args in
    alter-is a.p c.requires.0 a.m a.m c.requires.2 c.requires.2 a.b.now a.a.now a.other.now a.first.now _ _ _ a.i a.r a.y _ c.requires.3.apt-b c.requires.3.names-y c.requires.3.b-to-a c.requires.6 c.requires.5 c.put-3.ensures c.put-2.ensures (rw (to (goal.at.expect-requires-5 c).After-alter-to).1 at c.alter-from.ensures) in
    c.done-2.ensures ∙ ap is_done (from).0

pub expect-requires-6 : goal.expect-requires-6
expect-requires-6 c =
    let from : (c.alter-from.result ≡ Ok tt) × (c.alter-from.new.page ≡ c.put-2.new.page) = let a = c.args in
    alter-is a.p c.requires.0 a.m a.m c.requires.2 c.requires.2 a.b.now a.a.now a.other.now a.first.now _ _ _ a.i a.r a.y _ c.requires.3.apt-b c.requires.3.names-y c.requires.3.b-to-a c.requires.6 c.requires.5 c.put-3.ensures c.put-2.ensures (rw (to (goal.at.expect-requires-6 c).After-alter-to).1 at c.alter-from.ensures) in
    c.same-3.ensures.1 (from).1

pub shape_of-page : goal.shape_of-page
shape_of-page c = c.alter-from.auto.page ∙ c.alter-to.auto.page ∙ c.put.auto.page

pub shape_of-first : goal.shape_of-first
shape_of-first c = c.put-2.auto.page

pub shape_of-other : goal.shape_of-other
shape_of-other c = c.put-3.auto.page

pub shape_of-back : goal.shape_of-back
shape_of-back c = c.read_out-v.auto.blocks
