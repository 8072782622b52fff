-- Behind the first `from` bytes all are 0: zeros-above.
use Rattle.std.proofs.Common.{◌≡◌, ◌∙◌, ℕ, ◌+◌, ◌-◌, [], refl, sym, ap, arith, rules, length, take, drop, append-nil, length-drop, length-take-le}
use Rattle.std.proofs.Math.ListN.{replicate}
use Rattle.std.proofs.lemmas.List.{drop_all, length-replicate}
use Rattle.std.proofs.lemmas.List.Edits.{paste_all}
use Rattle.std.proofs.lemmas.Slice.{put_mid-paste}
use Rattle.polynomial.specs.Digits.{value}
use Rattle.kernels.proofs.Zeros.{zeros-above}
use Rattle.kernels.proofs.bytes.clear_bytes.Goals as goal

pub returns : goal.returns
returns c =
    let l = c.args.acc.now in
    let from = c.args.from in
    let k : ℕ = length l - from in
    let e : c.fill.new.self ≡ replicate k 0 =
    c.fill.ensures.after (search rules) ∙ ap (λ (m : ℕ). replicate m 0) (length-take-le k (drop from l) (omega (arith, length-drop from l))) in
    let z : drop (from + k) l ≡ [] = drop_all (from + k) l (omega arith) in
    let n : k ≡ length (replicate k 0) = sym (length-replicate k 0) in
    ap (value 8) (put_mid-paste from k l _ (replicate k 0) k e refl n ∙ paste_all l from (replicate k 0) k n ∙ rw (z, append-nil) refl)
    ∙ zeros-above 8 (take from l) k
