use mathlib.Core.Path.{sym, ap, ◌∙◌}
use Prim.Native.Nat.{ℕ, ◌+◌, ◌≤◌}
use native.Mathlib.Omega.{arith}
use Rattle.code.specs.Code.{remainder}
use Rattle.layout.specs.Sizes.{nested-high, places-high}
use Rattle.word.specs.Level.{degree-few, level-lt, level-made, odd-are}
use Rattle.word.specs.WordBytes.{part_length}
use Rattle.rounds.proofs.nested_sums.Goals as goal
use Rattle.rounds.proofs.nested_sums.Goals.{After-nested_bytes-k}

high : (b : After-nested_bytes-k) → b.nested_bytes-k.result ≤ 512
high b = rw b.nested_bytes-k.ensures (nested-high _ b.requires.0)

pub overflow_add-k : goal.overflow_add-k
overflow_add-k c = omega (arith, high (goal.at.overflow_add-k c).After-nested_bytes-k)

pub slice_bounds-room-end : goal.slice_bounds-room-end
slice_bounds-room-end c = omega (arith, high (goal.at.slice_bounds-room-end c).After-nested_bytes-k)

pub slice_bounds-acc-end : goal.slice_bounds-acc-end
slice_bounds-acc-end c = sym (part_length _ (high (goal.at.slice_bounds-acc-end c).After-nested_bytes-k))

pub nested_into-requires : goal.nested_into-requires
nested_into-requires c = (c.requires.0, c.requires.6, c.requires.7, part_length _ (high (goal.at.nested_into-requires c).After-nested_bytes-k) ∙ ap (λ (n : ℕ). n + 8) c.nested_bytes-k.ensures)

pub remainder_at-requires : goal.remainder_at-requires
remainder_at-requires c = (c.requires.0, c.requires.4, c.requires.5, c.requires.3, rw c.nested_places-n.ensures (places-high _ c.requires.0), rw c.nested_places-n.ensures c.nested_into.ensures.1)

pub odd_into-requires : goal.odd_into-requires
odd_into-requires c =
    let d = degree-few _ c.requires.0 _ c.requires.4 _ c.requires.5 in
    (c.requires.2, omega (arith, d.0), d.0, rw c.requires.1 d.1, level-lt _ c.requires.0 _ c.requires.4 _ _ _ c.requires.5 c.remainder_at.ensures.0)

pub returns : goal.returns
returns c =
    let a = c.args in
    level-made a.p c.requires.0 a.a c.requires.4 _ _ _ _
    (c.remainder_at.ensures.0 ∙ ap (remainder a.p a.a) c.nested_into.ensures.0) c.requires.8
    (odd-are a.p a.f _ _ _ c.requires.1 c.odd_into.ensures)
