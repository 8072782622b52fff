use borrow.Author.Tests.{eq-eqb}
use mathlib.Core.List.{List, [], ◌∷◌}
use mathlib.Core.Path.{◌≡◌, ap, ◌∙◌}
use Prim.Native.Nat.{ℕ}
use lib.ListN.{get_or}
use Rattle.gate_rounds.proofs.three_listed.Goals as goal
use Rattle.gate_rounds.proofs.three_listed.Goals.{After-three_rooms-said}

listed : (q : After-three_rooms-said) → (let a = q.args in q.three_rooms-said.result ≡ a.x ∷ a.y ∷ a.z ∷ [])
listed q = q.three_rooms-said.ensures ∙ q.requires.7

pub expect-requires : goal.expect-requires
expect-requires c = eq-eqb _ _ (ap (λ (l : List ℕ). get_or l 0 0) (listed (goal.at.expect-requires c).After-three_rooms-said))

pub expect-requires-2 : goal.expect-requires-2
expect-requires-2 c = eq-eqb _ _ (ap (λ (l : List ℕ). get_or l 1 0) (listed (goal.at.expect-requires-2 c).After-three_rooms-said))

pub expect-requires-3 : goal.expect-requires-3
expect-requires-3 c = eq-eqb _ _ (ap (λ (l : List ℕ). get_or l 2 0) (listed (goal.at.expect-requires-3 c).After-three_rooms-said))
