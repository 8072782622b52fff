-- The loop: i words are moved up, and c is carried on.
use Rattle.std.proofs.Common.{arith, rules}
use lib.ListN.{get_or}
use Rattle.kernels.specs.Move.{shift-done, shift-start, shift-turn}
use Rattle.kernels.specs.Word.{word-up-lt}
use Rattle.kernels.proofs.row.shift.Goals as goal

pub returns-then-l-eq64 : goal.returns-then-l-eq64
returns-then-l-eq64 c = rw c.if-l-eq64.true c.shift_word.ensures

pub loop-i-init : goal.loop-i-init
loop-i-init c = shift-start _ _

pub overflow_add-r : goal.overflow_add-r
overflow_add-r c =
    let l = c.loop-i in
    record { fits = word-up-lt (get_or l.r l.i 0) c.args.l l.c c.requires.1 l.invariant.fits }

pub loop-i-preserved : goal.loop-i-preserved
loop-i-preserved c =
    let l = c.loop-i in
    shift-turn c.args.r.now l.r c.args.l l.c l.i (search rules) c.requires.1 (omega arith) (omega arith) l.invariant

pub returns : goal.returns
returns c =
    let l = c.loop-i in
    (shift-done c.args.r.now l.r c.args.l l.c l.i (search rules) (search rules) c.requires.2 (omega arith) l.invariant, search rules)
