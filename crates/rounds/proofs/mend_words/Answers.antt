use borrow.Author.Rules.{rules}
use mathlib.Core.Path.{refl}
use Prim.Native.Nat.{◌≤◌}
use native.Mathlib.Omega.{arith}
use lib.ListN.{get_or}
use Rattle.code.proofs.Accepted.{accepted}
use Rattle.code.specs.Layout.{words_of}
use Rattle.code.specs.Nest.{Work}
use Rattle.mend.specs.Settled.{pass-first, pass-next}
use Rattle.syndrome.specs.Sum.{table-roots}
use Rattle.rounds.specs.Found.{found_by}
use Rattle.rounds.specs.Whole.{below-zeros, mem-at, round-held}
use Rattle.rounds.proofs.mend_words.Goals as goal
use Rattle.rounds.proofs.mend_words.Goals.{Start}

-- a round's level
level : (s : Start) → s.args.a ≤ s.args.p.v
level s = omega (arith, s.requires.3, s.requires.5, s.requires.6)

pub sums_into-requires : goal.sums_into-requires
sums_into-requires c = (
  c.requires.0.accepts,
  c.requires.0.field,
  table-roots c.requires.0.tables,
  c.requires.1,
  level (goal.at.sums_into-requires c).Start,
  c.requires.2,
  c.requires.4.exact,
  c.requires.6,
  search rules,
  below-zeros c.args.p.q 192,
)

pub loop-i-init : goal.loop-i-init
loop-i-init c =
    let a = c.args in
    (pass-first a.p (found_by a.p a.a c.sums_into.new.rows a.ks.now) a.ks.now (words_of a.p a.page.now) a.page.now a.left.now c.requires.4 refl c.requires.8)

pub mend_word-found-requires : goal.mend_word-found-requires
mend_word-found-requires c = (
  c.requires.0,
  record { level = level (goal.at.mend_word-found-requires c).Start; strength = c.strength_at-k.ensures; size = c.sums_into.ensures.size; below = c.sums_into.ensures.below; few = c.requires.6; rising = c.requires.7 },
  mem-at c.args.ks.now c.loop-i.i-index c.loop-i-test.true,
  c.loop-i.invariant.page,
)

pub note-n-requires : goal.note-n-requires
note-n-requires c = omega (arith, c.loop-i-test.true, c.requires.6, (accepted c.args.p c.requires.0.accepts).v_high, c.loop-i.invariant.room, c.loop-i.invariant.size)

pub loop-i-preserved : goal.loop-i-preserved
loop-i-preserved c =
    let g = found_by c.args.p c.args.a c.sums_into.new.rows c.args.ks.now in
    (pass-next c.args.p g c.args.ks.now (words_of c.args.p c.args.page.now) c.loop-i.page c.loop-i.left c.loop-i.i-index c.loop-i.n c.loop-i.invariant c.loop-i-test.true c.requires.7 (g (get_or c.args.ks.now c.loop-i.i-index 0)) _ _ _ _
    refl c.mend_word-found.ensures.0 c.mend_word-found.ensures.1 c.note-n.ensures.0 c.note-n.auto.list c.note-n.ensures.1)

pub returns : goal.returns
returns c =
    let W : Work = record { words = (words_of c.args.p c.args.page.now); broken = c.args.ks.now } in
    round-held c.args.p c.requires.0.accepts W c.requires.6 c.requires.5 c.requires.7 c.args.a c.requires.3 c.sums_into.new.rows c.sums_into.ensures c.loop-i.page c.loop-i.left c.loop-i.i-index c.loop-i.n c.loop-i.invariant
    (omega (arith, c.loop-i-test.false)) (omega (arith, c.loop-i.auto.i-index-end, c.requires.6, (accepted c.args.p c.requires.0.accepts).v_high))
