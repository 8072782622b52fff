use mathlib.Core.Path.{◌≡◌, refl, sym, ◌∙◌}
use Prim.Native.Nat.{◌≤◌, ◌<◌}
use native.Mathlib.Omega.{arith}
use lib.ListN.{length, take}
use lib.Seq.{length-take-le}
use Rattle.code.specs.Nest.{rounds}
use Rattle.mend_page.specs.Ends.{in_work}
use Rattle.mend_page.proofs.Ends.{turn_end, turn_many, turn-next, turn-stop}
use Rattle.mend_page.proofs.mend_rounds.Goals as goal
use Rattle.mend_page.proofs.mend_rounds.Goals.{At-loop-n, Else-v-n}

-- what comes of the rounds
module _ (l : At-loop-n) where
  within : l.loop-n.n ≤ length l.loop-n.broken
  within = rw l.loop-n.invariant.0.stands.size l.loop-n.invariant.0.stands.room

  long : length (take l.loop-n.n l.loop-n.broken) ≡ l.loop-n.n
  long = length-take-le l.loop-n.n l.loop-n.broken within

-- a round has some, and at most v
few : (e : Else-v-n) → ((0 < e.loop-n.n) × (e.loop-n.n ≤ e.args.p.v))
few e = (e.loop-n-test.true, omega (arith, e.if-v-n.false))

pub loop-n-init : goal.loop-n-init
loop-n-init c = (record { stands = c.requires.2; same = refl }, refl)

pub returns-then-v-n : goal.returns-then-v-n
returns-then-v-n c = turn_many c.args.p c.requires.0.accepts ((rounds c.args.p c.args.p.v (in_work c.args.p c.args.page.now c.args.broken.now c.args.b))) c.loop-n.page c.loop-n.broken c.loop-n.n c.loop-n.invariant.0 c.if-v-n.true

pub slice_bounds-round-end : goal.slice_bounds-round-end
slice_bounds-round-end c = within (goal.at.slice_bounds-round-end c).At-loop-n

pub slice_bounds-round-end-in-loop-n : goal.slice_bounds-round-end-in-loop-n
slice_bounds-round-end-in-loop-n c = sym (long (goal.at.slice_bounds-round-end-in-loop-n c).At-loop-n)

pub round-c-requires : goal.round-c-requires
round-c-requires c = (c.requires.0, c.requires.1, c.loop-n.invariant.0.stands.page, rw (long (goal.at.round-c-requires c).At-loop-n) (few (goal.at.round-c-requires c).Else-v-n).0, rw (long (goal.at.round-c-requires c).At-loop-n) (few (goal.at.round-c-requires c).Else-v-n).1, c.loop-n.invariant.0.stands.rising, c.loop-n.invariant.1)

pub returns-then-n-c : goal.returns-then-n-c
returns-then-n-c c =
    turn-stop c.args.p c.requires.0.accepts ((rounds c.args.p c.args.p.v (in_work c.args.p c.args.page.now c.args.broken.now c.args.b))) c.loop-n.page c.loop-n.broken c.loop-n.n c.loop-n.invariant.0 c.round-c.new.page c.round-c.new.left c.round-c.result c.round-c.ensures
    (few (goal.at.returns-then-n-c c).Else-v-n).0 (few (goal.at.returns-then-n-c c).Else-v-n).1 c.if-n-c.true

pub copy-requires : goal.copy-requires
copy-requires c = c.loop-n.invariant.0.stands.size ∙ sym c.round-c.ensures.size

pub loop-n-preserved : goal.loop-n-preserved
loop-n-preserved c = (
  rw c.copy.ensures (turn-next c.args.p c.requires.0.accepts ((rounds c.args.p c.args.p.v (in_work c.args.p c.args.page.now c.args.broken.now c.args.b))) c.loop-n.page c.loop-n.broken c.loop-n.n c.loop-n.invariant.0 c.round-c.new.page c.round-c.new.left c.round-c.result c.round-c.ensures
      (few (goal.at.loop-n-preserved c).Else-v-n).0 (few (goal.at.loop-n-preserved c).Else-v-n).1 (omega (arith, c.if-n-c.false))),
  c.round-c.ensures.size,
)

pub is_member-requires : goal.is_member-requires
is_member-requires c = (c.requires.0.accepts, c.requires.1, c.loop-n.invariant.0.stands.page)

pub returns : goal.returns
returns c = turn_end c.args.p c.requires.0.accepts ((rounds c.args.p c.args.p.v (in_work c.args.p c.args.page.now c.args.broken.now c.args.b))) c.loop-n.page c.loop-n.broken c.loop-n.n c.loop-n.invariant.0 (omega (arith, c.loop-n-test.false)) _ c.is_member.ensures
