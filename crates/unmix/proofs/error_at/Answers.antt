use mathlib.Core.Path.{◌≡◌, sym, ap, ◌∙◌}
use mathlib.Core.List.{map}
use Prim.Native.Nat.{ℕ, ◌+◌, ◌*◌}
use native.Mathlib.Numerals.{add-one}
use native.Mathlib.Omega.{arith}
use lib.ListN.{length, get_or, take, replicate}
use Rattle.code.proofs.Filled.{map-length}
use Rattle.code.specs.Lists.{range}
use Rattle.code.proofs.Pages.{zeros-length}
use Rattle.unmix.specs.Sums.{below-map}
use Rattle.unmix.specs.Weights.{unmixed-is}
use Rattle.unmix.proofs.error_at.Goals as goal
use Rattle.unmix.proofs.error_at.Goals.{Start}

-- the room of the sums, and the row's place in it
module _ (c : Start) where
  abbrev entry : ℕ → ℕ
  entry l = get_or c.args.rows.now (64 * l + c.args.k) 0

  room : length {A = ℕ} (take (length c.args.others.now + 1) (replicate 3 0)) ≡ length c.args.others.now + 1
  room = zeros-length (length c.args.others.now + 1) 3 (omega (arith, c.requires.3))

pub slice_bounds-sums-end : goal.slice_bounds-sums-end
slice_bounds-sums-end c = sym (room (goal.at.slice_bounds-sums-end c).Start)

pub column-requires : goal.column-requires
column-requires c = (c.requires.4, omega (arith, room (goal.at.column-requires c).Start, c.requires.2, c.requires.3), omega (arith, room (goal.at.column-requires c).Start, c.requires.3))

pub weight_of-requires : goal.weight_of-requires
weight_of-requires c =
    let n = length c.args.others.now + 1 in
    let e = c.column.ensures ∙ ap (λ (n : ℕ). map (entry (goal.at.weight_of-requires c).Start) (range 0 n)) (room (goal.at.weight_of-requires c).Start) in (
      c.requires.0,
      below-map c.args.f.q (entry (goal.at.weight_of-requires c).Start) n _ (λ l. c.requires.1.lt (64 * l + c.args.k)) e,
      map-length (entry (goal.at.weight_of-requires c).Start) n _ e ∙ add-one (length c.args.others.now),
      omega (arith, c.requires.4),
      c.requires.5,
      c.requires.6,
      c.requires.7,
    )

pub returns : goal.returns
returns c =
    let e = c.column.ensures ∙ ap (λ (n : ℕ). map (entry (goal.at.returns c).Start) (range 0 n)) (room (goal.at.returns c).Start) in
    unmixed-is c.args.f.q c.args.rows.now c.args.others.now c.args.i c.args.k _ c.weight_of.result e c.weight_of.ensures
