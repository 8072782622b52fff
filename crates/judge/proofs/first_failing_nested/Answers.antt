use mathlib.Core.Bool.{not}
use mathlib.Core.Path.{sym, ap, ◌∙◌}
use Rattle.code.specs.Layout.{words_of}
use Rattle.judge.specs.Search.{seek-start, seek_found, seek-next, seek-done}
use Rattle.judge.specs.Judged.{nested_fails_at, failing_nested-eq}
use Rattle.judge.proofs.first_failing_nested.Goals as goal

pub loop-l-init : goal.loop-l-init
loop-l-init c =
    let a = c.args in
    (seek-start (nested_fails_at a.p (words_of a.p a.page.now)) a.p.v, c.requires.table, c.requires.room)

pub nested_passes-requires : goal.nested_passes-requires
nested_passes-requires c = (
  record { accepts = c.requires.accepts; rowed = c.requires.rowed; exact = c.requires.exact; table = c.loop-l.invariant.1; room = c.loop-l.invariant.2 },
  c.loop-l-test.true,
)

pub shape_of-t-then-not-nested_passes : goal.shape_of-t-then-not-nested_passes
shape_of-t-then-not-nested_passes c = c.t-1.given ∙ c.loop-l.invariant.1 ∙ sym c.requires.table

pub shape_of-acc-then-not-nested_passes : goal.shape_of-acc-then-not-nested_passes
shape_of-acc-then-not-nested_passes c = c.acc-1.given ∙ c.loop-l.invariant.2 ∙ sym c.requires.room

pub returns-then-not-nested_passes : goal.returns-then-not-nested_passes
returns-then-not-nested_passes c =
    let a = c.args in
    seek_found (nested_fails_at a.p (words_of a.p a.page.now)) a.p.v c.loop-l.l c.loop-l.invariant.0 c.loop-l-test.true (ap not (sym c.nested_passes.ensures ∙ c.if-not-nested_passes.true))
    ∙ sym (failing_nested-eq a.p (words_of a.p a.page.now))

pub loop-l-preserved : goal.loop-l-preserved
loop-l-preserved c =
    let a = c.args in (
      seek-next (nested_fails_at a.p (words_of a.p a.page.now)) a.p.v c.loop-l.l c.loop-l.invariant.0 c.loop-l-test.true (ap not (sym c.nested_passes.ensures ∙ c.if-not-nested_passes.false)),
      c.t-1.given ∙ c.loop-l.invariant.1,
      c.acc-1.given ∙ c.loop-l.invariant.2,
    )

pub shape_of-t : goal.shape_of-t
shape_of-t c = c.loop-l.invariant.1 ∙ sym c.requires.table

pub shape_of-acc : goal.shape_of-acc
shape_of-acc c = c.loop-l.invariant.2 ∙ sym c.requires.room

pub returns : goal.returns
returns c =
    let a = c.args in
    seek-done (nested_fails_at a.p (words_of a.p a.page.now)) a.p.v c.loop-l.l c.loop-l.invariant.0 c.loop-l-test.false ∙ sym (failing_nested-eq a.p (words_of a.p a.page.now))
