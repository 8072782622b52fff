-- The words from `from` on are src's, and those below are so by the premise.
use Rattle.std.proofs.Common.{◌≡◌, ◌++◌, ℕ, ◌+◌, ◌-◌, length, take, drop, ap, ap₂, sym, ◌∙◌, arith, length-drop, length-take-le}
use Rattle.std.proofs.Math.Seq.{take-add}
use Rattle.std.proofs.lemmas.Slice.{take-put_mid, drop-put_mid}
use Rattle.reduction.proofs.remainder.copy.Goals as goal

pub returns : goal.returns
returns c =
    let d = c.args.dst.now in
    let s = c.args.src.now in
    let f = c.args.from in
    let ys = c.copy_from_slice.new.self in
    let e : ys ≡ take (12 - f) (drop f s) = c.copy_from_slice.ensures.after in
    let n : length ys ≡ 12 - f = ap length e ∙ length-take-le (12 - f) (drop f s) (rw (length-drop f s) (omega arith)) in
    let w : f + (12 - f) ≡ 12 = omega arith in
    record {
      left = drop-put_mid f (12 - f) d ys 12 (omega arith) (omega arith) n;
      done = take-put_mid f (12 - f) d ys 12 (omega arith) (omega arith) ∙ ap₂ ◌++◌ c.requires.3 e ∙ sym (take-add f (12 - f) s) ∙ ap (λ (i : ℕ). take i s) w;
    }
