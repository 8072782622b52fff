-- The loop: i words are moved up, and c is carried on.
use Rattle.std.proofs.Common.{arith, rules}
use Rattle.kernels.specs.Move.{shift-done, shift-start, shift-word-turn}
use Rattle.kernels.specs.Value.{bounded-set}
use Rattle.kernels.proofs.row.shift_word.Goals as goal

pub loop-i-init : goal.loop-i-init
loop-i-init c = ((search rules), shift-start _ _)

pub loop-i-preserved : goal.loop-i-preserved
loop-i-preserved c =
    let l = c.loop-i in
    let q = c.replace-c.ensures in (
      rw q.after (bounded-set 64 l.r l.invariant.0 l.i l.c l.invariant.1.fits),
      rw (q.after, q.value) (shift-word-turn c.args.r.now l.r l.c l.i l.invariant.0 (omega arith) (omega arith) l.invariant.1),
    )

pub returns : goal.returns
returns c =
    let l = c.loop-i in
    (shift-done c.args.r.now l.r 64 l.c l.i (search rules) (search rules) c.requires (omega arith) l.invariant.1, search rules)
