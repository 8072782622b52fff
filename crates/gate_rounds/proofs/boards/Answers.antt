use borrow.Author.Rules.{rules}
use mathlib.Core.Path.{refl, ap}
use Prim.Native.Nat.{ℕ, ◌*◌}
use lib.Dec.{lit≤}
use Rattle.cases.specs.Inhabited.{accepted-A}
use Rattle.gate_rounds.specs.Sheets.{accepted-8, accepted-12, accepted-short, blocks-8, blocks-12, blocks-A, blocks-short, listed-8, listed-A, listed-short}
use Rattle.gate_rounds.proofs.boards.Goals as goal

pub three_listed-requires : goal.three_listed-requires
three_listed-requires c = (accepted-A, search rules, ap (λ (k : ℕ). 3 * k) blocks-A, blocks-A, refl, lit≤ tt, lit≤ tt, listed-A)

pub three_listed-requires-2 : goal.three_listed-requires-2
three_listed-requires-2 c = (accepted-short, search rules, ap (λ (k : ℕ). 3 * k) blocks-short, blocks-short, refl, lit≤ tt, lit≤ tt, listed-short)

pub three_listed-requires-3 : goal.three_listed-requires-3
three_listed-requires-3 c = (accepted-8, search rules, ap (λ (k : ℕ). 3 * k) blocks-8, blocks-8, refl, lit≤ tt, lit≤ tt, listed-8)

pub three_rooms-requires : goal.three_rooms-requires
three_rooms-requires c = (accepted-12, search rules, ap (λ (k : ℕ). 3 * k) blocks-12, blocks-12, refl, lit≤ tt, lit≤ tt)
