use mathlib.Core.Path.{refl, ap₂, ◌∙◌}
use mathlib.Core.List.{List}
use native.Mathlib.Nat as Nat
use native.Mathlib.Omega.{arith}
use Prim.Native.Nat.{ℕ, ◌+◌, ◌*◌, ◌≤◌}
use Rattle.code.specs.Layout.{data_bytes}
use Rattle.code.specs.Refusals.{write_refusal}
use Rattle.layout.specs.Parts.{bytes_high}
use Rattle.pages.specs.Filling.{lent-part, place-small}
use Rattle.page.proofs.status_at.Goals as goal
use Rattle.page.proofs.status_at.Goals.{After-data_bytes-size}

small : (d : After-data_bytes-size) → (d.args.k * d.data_bytes-size.result + d.data_bytes-size.result ≤ 65536)
small d = place-small d.args.k 16 (data_bytes d.args.p) d.data_bytes-size.result d.requires.2 (Nat.le_refl 16) (bytes_high d.args.p d.requires.0) d.data_bytes-size.ensures

pub overflow_mul-at : goal.overflow_mul-at
overflow_mul-at c = omega (arith, small (goal.at.overflow_mul-at c).After-data_bytes-size)

pub overflow_add-end : goal.overflow_add-end
overflow_add-end c = omega (arith, small (goal.at.overflow_add-end c).After-data_bytes-size)

pub slice_bounds-write_refusal-end : goal.slice_bounds-write_refusal-end
slice_bounds-write_refusal-end c = rw c.data_bytes-size.ensures c.requires.3

pub returns : goal.returns
returns c =
    let a = c.args in
    c.number_of.ensures ∙ c.write_refusal-outcome.ensures
    ∙ ap₂ (λ (l : List ℕ) (k : ℕ). write_refusal a.p a.width l k) (lent-part a.blocks.now a.k c.data_bytes-size.result (a.k * c.data_bytes-size.result) (data_bytes a.p) refl c.data_bytes-size.ensures) c.page_bytes-bytes.ensures
