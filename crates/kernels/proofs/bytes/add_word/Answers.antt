-- The word is read, has v added and is put back: add-word-law.
use native.Mathlib.Omega.{arith}
use Rattle.kernels.specs.Add.{add-word-law}
use Rattle.kernels.specs.Value.{Bounded}
use Rattle.kernels.proofs.bytes.add_word.Goals as goal

pub returns : goal.returns
returns c =
    let b : Bounded 8 c.args.acc.now = λ k. (c.slice_known-1.given k).fits in
    let q = c.put_word in
    add-word-law c.args.acc.now _ c.args.at c.args.v _ b (omega arith) q.auto.dst c.ranges.v.fits c.word_in-w.ensures q.ensures
