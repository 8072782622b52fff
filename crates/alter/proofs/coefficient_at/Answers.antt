use mathlib.Core.Path.{ap}
use native.Mathlib.Omega.{arith}
use Prim.Native.Nat.{ℕ, ◌+◌, ◌*◌, ◌/◌, ◌%◌, ◌^◌, ◌≤◌, ◌<◌}
use lib.ListN.{length, get_or}
use Rattle.layout.specs.SubWords.{part_room, part_small}
use Rattle.alter.proofs.coefficient_at.Goals as goal
use Rattle.alter.proofs.coefficient_at.Goals.{After-sub_word_bytes-b}

-- the byte lies within the page
inside : (c : After-sub_word_bytes-b) → (let a = c.args in a.i * c.sub_word_bytes-b.result + a.k / 8 < length a.page.now)
inside c =
    let a = c.args in
    omega (arith, c.requires.1, c.requires.3, c.sub_word_bytes-b.ensures, part_room a.p c.requires.0 a.i c.sub_word_bytes-b.result c.sub_word_bytes-b.ensures c.requires.2)

small : (c : After-sub_word_bytes-b) → (let a = c.args in a.i * c.sub_word_bytes-b.result + a.k / 8 ≤ 4096)
small c =
    let a = c.args in
    omega (arith, c.requires.3, c.sub_word_bytes-b.ensures, part_small a.p c.requires.0 a.i c.sub_word_bytes-b.result c.sub_word_bytes-b.ensures c.requires.2)

pub overflow_mul-at : goal.overflow_mul-at
overflow_mul-at c = omega (arith, small (goal.at.overflow_mul-at c).After-sub_word_bytes-b)

pub overflow_add-at : goal.overflow_add-at
overflow_add-at c = omega (arith, small (goal.at.overflow_add-at c).After-sub_word_bytes-b)

pub bounds-page-at : goal.bounds-page-at
bounds-page-at c = inside (goal.at.bounds-page-at c).After-sub_word_bytes-b

pub returns : goal.returns
returns c =
    let a = c.args in
    ap (λ (b : ℕ). get_or a.page.now (a.i * b + a.k / 8) 0 / 2 ^ (a.k % 8) % 2) c.sub_word_bytes-b.ensures
