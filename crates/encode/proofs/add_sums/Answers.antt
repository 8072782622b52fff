use mathlib.Core.Path.{◌≡◌, ◌∙◌}
use native.Mathlib.Omega.{arith}
use Prim.Native.Nat.{suc, ◌*◌}
use lib.ListN.{length, drop}
use Rattle.code.proofs.Accepted.{accepted}
use Rattle.code.specs.Layout.{words_of}
use Rattle.layout.specs.Sizes.{word-high}
use Rattle.encode.specs.Horner.{same-room, sum_one, sum-two, sum-three}
use Rattle.encode.specs.Carried.{carried-fits}
use Rattle.encode.proofs.add_sums.Goals as goal

pub add_up-requires : goal.add_up-requires
add_up-requires c = omega (arith, c.requires.3, word-high _ c.requires.0)

pub returns-then-i-eq0 : goal.returns-then-i-eq0
returns-then-i-eq0 c =
    let a = c.args in
    carried-fits a.p c.requires.0 a.page.now a.i (length a.acc.now) _ _ c.requires.2 (λ j. (c.type_inv.page j).fits) c.requires.1 c.requires.3
    (sum_one a.i (8 * length a.a.now) (8 * length a.acc.now) _ _ _ _ (drop (suc a.i) (words_of a.p a.page.now)) c.requires.5 (omega (arith, c.requires.4)) _ c.if-i-eq0.true c.add_up.ensures)

pub add_up-requires-2 : goal.add_up-requires-2
add_up-requires-2 c = omega (arith, c.add_up.auto.acc, c.requires.3, word-high _ c.requires.0)

pub returns-then-i-eq1 : goal.returns-then-i-eq1
returns-then-i-eq1 c =
    let a = c.args in
    carried-fits a.p c.requires.0 a.page.now a.i (length a.acc.now) _ _ c.requires.2 (λ j. (c.type_inv.page j).fits) c.requires.1 c.requires.3
    (sum-two a.i (8 * length a.a.now) (8 * length a.acc.now) _ _ _ _ (drop (suc a.i) (words_of a.p a.page.now)) c.requires.5 (omega (arith, c.requires.4)) _ _ c.if-i-eq1.true
    c.add_up.ensures (same-room _ _ _ _ (length a.acc.now) c.add_up.auto.acc c.add_up-2.ensures))

pub add_up-requires-3 : goal.add_up-requires-3
add_up-requires-3 c = omega (arith, c.add_up-2.auto.acc, c.add_up.auto.acc, c.requires.3, word-high _ c.requires.0)

pub returns : goal.returns
returns c =
    let a = c.args in
    let last : a.i ≡ 2 = omega (arith, c.if-i-eq1.false, c.if-i-eq0.false, c.requires.2, (accepted _ c.requires.0).v_high) in
    carried-fits a.p c.requires.0 a.page.now a.i (length a.acc.now) _ _ c.requires.2 (λ j. (c.type_inv.page j).fits) c.requires.1 c.requires.3
    (sum-three a.i (8 * length a.a.now) (8 * length a.acc.now) _ _ _ _ (drop (suc a.i) (words_of a.p a.page.now)) c.requires.5 (omega (arith, c.requires.4)) _ _ _ last
    c.add_up.ensures (same-room _ _ _ _ (length a.acc.now) c.add_up.auto.acc c.add_up-2.ensures)
    (same-room _ _ _ _ (length a.acc.now) (c.add_up-2.auto.acc ∙ c.add_up.auto.acc) c.add_up-3.ensures))
