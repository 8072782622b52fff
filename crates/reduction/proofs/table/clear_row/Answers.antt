use Rattle.std.proofs.Common.{◌≡◌, ◌+◌, ◌-◌, length, take, drop, replicate, ap, ◌∙◌, arith, length-drop, length-take-le}
use Rattle.std.proofs.lemmas.Slice.{between-put_mid, take-put_mid_below}
use Rattle.polynomial.specs.Digits.{value}
use Rattle.reduction.specs.Build.{put-done}
use Rattle.reduction.specs.Reduce.{zeros-clear}
use Rattle.reduction.proofs.table.clear_row.Goals as goal

pub returns : goal.returns
returns c =
    let t = c.args.t.now in
    let at = c.args.at in
    let k = at + 12 - at in
    let ys = c.fill.new.self in
    let n : length (take k (drop at t)) ≡ 12 = length-take-le k (drop at t) (rw (length-drop at t) (omega arith)) ∙ omega arith in
    let e : ys ≡ replicate 12 0 = rw n at (c.fill.ensures.after (λ y h. h)) in
    put-done t _ at k 0 (omega arith) (record {
      before = take-put_mid_below at k t ys at (omega arith) (omega arith);
      done = ap (value 64) (between-put_mid at k t ys (at + 12) (omega arith) (c.fill.ensures.len ∙ n ∙ omega arith) ∙ e) ∙ zeros-clear 12 12;
    })
