use mathlib.Core.Path.{◌≡◌, sym, ap, ◌∙◌}
use native.Mathlib.Nat as Nat
use native.Mathlib.Omega.{arith}
use Prim.Native.Nat.{ℕ, ◌+◌, ◌*◌, ◌^◌, ◌≤◌, ◌-◌}
use mathlib.Core.List.{map}
use lib.ListN.{length, length-replicate, take}
use Rattle.polynomial.specs.Digits.{value}
use Rattle.field.specs.Elements.{syndrome}
use Rattle.code.specs.Lists.{range}
use Rattle.syndrome.specs.Places.{PutDown, put-below, put-flips, put-length}
use Rattle.syndrome.proofs.odd_into.Goals as goal
use Rattle.syndrome.proofs.odd_into.Goals.{After-places-2-1}

-- the places that are put down
module _ (c : After-places-2-1) where
  room : c.args.w ≤ length c.places_of-c.new.places
  room = Nat.le_trans c.requires.2 (Nat.le_of_eq (sym c.places-2-1.given))

  put : PutDown (value 64 c.args.r.now) c.args.w c.places_of-c.result c.places_of-c.new.places
  put = record { few = c.places_of-c.ensures.0; are = c.places_of-c.ensures.1 }

  size : length (take c.places_of-c.result c.places_of-c.new.places) ≡ c.places_of-c.result
  size = put-length _ _ c.places_of-c.result c.places_of-c.new.places put room

pub places_of-c-requires : goal.places_of-c-requires
places_of-c-requires c = (c.requires.1, Nat.le_trans c.requires.2 (Nat.le_of_eq (sym (length-replicate {A = ℕ} 768 0))), omega (arith, c.requires.2))

pub slice_bounds-odd_sums-end : goal.slice_bounds-odd_sums-end
slice_bounds-odd_sums-end c = sym (size (goal.at.slice_bounds-odd_sums-end c).After-places-2-1)

pub odd_sums-requires : goal.odd_sums-requires
odd_sums-requires c =
    let P = put-below _ _ c.places_of-c.result c.places_of-c.new.places (put (goal.at.odd_sums-requires c).After-places-2-1) (room (goal.at.odd_sums-requires c).After-places-2-1) (2 ^ c.args.f.q - 1) c.requires.3 in
    (c.requires.0, omega (arith, size (goal.at.odd_sums-requires c).After-places-2-1, (put (goal.at.odd_sums-requires c).After-places-2-1).few, c.requires.2), record { below = λ i h. P.below i (rw (size (goal.at.odd_sums-requires c).After-places-2-1) at h) })

pub returns : goal.returns
returns c = c.odd_sums.ensures ∙ ap (λ (e : ℕ). map (λ i. syndrome c.args.f.q e (2 * i + 1)) (range 0 (length c.args.list.now))) (put-flips _ _ c.places_of-c.result c.places_of-c.new.places (put (goal.at.returns c).After-places-2-1) (room (goal.at.returns c).After-places-2-1) c.requires.4)
