-- Whole words, and the n % 8 bytes that are left.
use mathlib.Core.Path.{◌≡◌}
use Prim.Native.Nat.{◌+◌, ◌-◌, ◌*◌, ◌/◌, ◌%◌}
use native.Mathlib.Nat.{mod-lt}
use native.Mathlib.Omega.{arith}
use lib.ListN.{length}
use lib.Pow.{pow_pos}
use Rattle.kernels.specs.Add.{bytes-law, next-bits}
use Rattle.kernels.proofs.bytes.add_rest.Goals as goal

pub returns-else-n-ne0 : goal.returns-else-n-ne0
returns-else-n-ne0 c =
    let a = c.args in
    let n = length a.acc.now - a.from in
    let e : 8 * (n / 8) ≡ n = omega arith in
    rw e at c.add_words.ensures

pub add_bytes-requires : goal.add_bytes-requires
add_bytes-requires c =
    let a = c.args in
    let n = length a.acc.now - a.from in
    let k = c.add_words.auto.acc in
    let e : n % 8 ≡ length a.acc.now - (a.from + 8 * (n / 8)) = omega arith in
    (omega arith, rw (c.bits_up-v.ensures, k, ← e) (mod-lt _ (pow_pos (8 * (n % 8)))))

pub returns-then-n-ne0 : goal.returns-then-n-ne0
returns-then-n-ne0 c =
    let a = c.args in
    let n = length a.acc.now - a.from in
    let w = c.add_words in
    let q = c.add_bytes in
    bytes-law _ _ _ a.from _ (8 * (n / 8)) (n % 8) n _ (omega arith) w.ensures (next-bits _ a.pos _ (8 * (n / 8)) (8 * (n % 8)) _ (omega arith) c.bits_up-v.ensures) q.ensures
