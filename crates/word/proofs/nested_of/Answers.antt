use mathlib.Core.Path.{sym, ap, ◌∙◌}
use native.Mathlib.Omega.{arith}
use Prim.Native.Nat.{ℕ, ◌+◌, ◌≤◌}
use Rattle.layout.specs.Sizes.{nested-high}
use Rattle.word.specs.WordBytes.{part_length, nested_is}
use Rattle.word.proofs.nested_of.Goals as goal
use Rattle.word.proofs.nested_of.Goals.{After-nested_bytes-end}

high : (c : After-nested_bytes-end) → c.nested_bytes-end.result ≤ 512
high c = rw c.nested_bytes-end.ensures (nested-high _ c.requires.0)

pub overflow_add-end : goal.overflow_add-end
overflow_add-end c = omega (arith, high (goal.at.overflow_add-end c).After-nested_bytes-end)

pub slice_bounds-acc-end : goal.slice_bounds-acc-end
slice_bounds-acc-end c = omega (arith, high (goal.at.slice_bounds-acc-end c).After-nested_bytes-end)

pub slice_bounds-nested_into-end : goal.slice_bounds-nested_into-end
slice_bounds-nested_into-end c = sym (part_length _ (high (goal.at.slice_bounds-nested_into-end c).After-nested_bytes-end))

pub nested_into-requires : goal.nested_into-requires
nested_into-requires c = (c.requires.0, c.requires.1.exact, c.requires.2, part_length _ (high (goal.at.nested_into-requires c).After-nested_bytes-end) ∙ ap (λ (n : ℕ). n + 8) c.nested_bytes-end.ensures)

pub returns : goal.returns
returns c = nested_is _ c.requires.0 _ _ (c.nested_bytes-end.result + 8) _ c.nested_into.ensures.0
