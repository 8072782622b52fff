use mathlib.Core.Path.{◌≡◌, refl, sym, ap, ◌∙◌}
use mathlib.Core.List.{map}
use Prim.Native.Nat.{ℕ, ◌+◌, ◌*◌}
use native.Mathlib.Nat as Nat
use native.Mathlib.Omega.{arith}
use lib.ListN.{replicate}
use Rattle.code.proofs.Pages.{zeros-length}
use Rattle.code.specs.Lists.{range}
use Rattle.search.specs.Values.{zeroed}
use Rattle.locating.specs.Look.{all-below, all-long, from_list, locate-all}
use Rattle.locating.specs.Whole.{zeroed-take}
use Rattle.locating.proofs.locate.Goals as goal
use Rattle.locating.proofs.locate.Goals.{After-all_into}

-- all syndromes
module _ (a : After-all_into) where
  are : a.all_into.new.list ≡ map (from_list a.args.f.q a.args.odd.now) (range 1 (2 * a.args.t))
  are = a.all_into.ensures ∙ ap (λ (k : ℕ). map (from_list a.args.f.q a.args.odd.now) (range 1 (2 * k))) a.requires.3

pub slice_bounds-s-end : goal.slice_bounds-s-end
slice_bounds-s-end c = sym (zeros-length (2 * c.args.t) 128 (omega (arith, c.requires.2)))

pub all_into-requires : goal.all_into-requires
all_into-requires c = (c.requires.0, zeros-length (2 * c.args.t) 128 (omega (arith, c.requires.2)) ∙ ap (λ (k : ℕ). 2 * k) (sym c.requires.3))

pub slice_bounds-sig-end : goal.slice_bounds-sig-end
slice_bounds-sig-end c = sym (zeros-length (c.args.t + 1) 65 (omega (arith, c.requires.2)))

pub slice_bounds-old-end : goal.slice_bounds-old-end
slice_bounds-old-end c = sym (zeros-length (c.args.t + 1) 65 (omega (arith, c.requires.2)))

pub locate_in-requires : goal.locate_in-requires
locate_in-requires c =
    let n = c.args.t + 1 in
    let q = c.args.f.q in
    let l = zeros-length n 65 (omega (arith, c.requires.2)) in
    let z = zeroed-take n (replicate 65 0) (zeroed 65) in
    let k = c.requires.0.field.known in
    (c.requires.0, all-below q k c.args.odd.now c.all_into.new.list c.args.t (are (goal.at.locate_in-requires c).After-all_into) c.requires.1, c.requires.2, Nat.le_of_eq (sym (all-long q k c.args.odd.now c.all_into.new.list c.args.t (are (goal.at.locate_in-requires c).After-all_into))), c.requires.4, c.requires.5, c.requires.6, omega (arith, l), refl, z, z, c.requires.3, are (goal.at.locate_in-requires c).After-all_into)

pub returns : goal.returns
returns c = (sym (locate-all c.args.f.q c.requires.0.field.known c.args.odd.now c.all_into.new.list c.args.t (are (goal.at.returns c).After-all_into) c.args.z c.requires.5) ∙ c.locate_in.ensures.0, c.locate_in.ensures.1)
