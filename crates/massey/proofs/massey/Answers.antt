use mathlib.Core.Path.{refl, ◌∙◌}
use native.Mathlib.Omega.{arith}
use lib.ListN.{length-set}
use Rattle.massey.specs.Steps.{after_next, after-reach, done-far, done-near, follow-first}
use Rattle.massey.proofs.massey.Goals as goal

pub loop-r-init : goal.loop-r-init
loop-r-init c =
    let a = c.args in (
      follow-first a.f.q c.requires.0.field.known a.s.now a.sig.now a.old.now c.requires.6 c.requires.7 (omega arith) c.requires.5,
      omega arith,
      refl,
      length-set a.sig.now 0 1 ∙ c.requires.5,
    )

pub turn-l-requires : goal.turn-l-requires
turn-l-requires c = (c.requires.0, c.requires.1, c.requires.2, omega arith, c.requires.3, omega arith, c.loop-r.invariant.1, after-reach c.loop-r.invariant.0, c.loop-r.invariant.0)

pub returns-then-t-l : goal.returns-then-t-l
returns-then-t-l c = done-far {r = c.loop-r.r} (omega arith) (omega arith) c.turn-l.ensures

pub loop-r-preserved : goal.loop-r-preserved
loop-r-preserved c = (after_next (c.turn-l.ensures.near (omega arith)), omega arith, omega arith, omega arith)

pub returns : goal.returns
returns c = done-near {r = c.loop-r.r} (omega arith) c.loop-r.invariant.1 c.loop-r.invariant.0
