use mathlib.Core.Path.{◌≡◌, sym, ap, ◌∙◌}
use mathlib.Core.List.{map}
use Prim.Native.Nat.{ℕ, ◌+◌, ◌*◌}
use Rattle.code.proofs.Pages.{zeros-length}
use Rattle.polynomial.specs.Digits.{value}
use Rattle.field.specs.Elements.{syndrome}
use Rattle.code.specs.Lists.{range}
use Rattle.code.proofs.Filled.{map-length}
use Rattle.syndrome.specs.Sum.{table-roots}
use Rattle.mend.specs.Nearest.{locate-odd, odd-below}
use Rattle.mend.proofs.locate_by.Goals as goal
use Rattle.mend.proofs.locate_by.Goals.{After-odd_into}

-- the odd syndromes
module _ (a : After-odd_into) where
  are : a.odd_into.new.list ≡ map (λ i. syndrome a.args.f.q (value 64 a.args.r.now) (2 * i + 1)) (range 0 a.args.t)
  are = a.odd_into.ensures ∙ ap (λ (k : ℕ). map (λ i. syndrome a.args.f.q (value 64 a.args.r.now) (2 * i + 1)) (range 0 k)) (zeros-length a.args.t 64 a.requires.5)

pub slice_bounds-odd-end : goal.slice_bounds-odd-end
slice_bounds-odd-end c = sym (zeros-length c.args.t 64 c.requires.5)

pub odd_into-requires : goal.odd_into-requires
odd_into-requires c = (table-roots c.requires.0, c.requires.1, c.requires.2, c.requires.3, c.requires.4)

pub locate-requires : goal.locate-requires
locate-requires c = (c.requires.0, odd-below c.args.f.q c.requires.0.field.known _ c.args.t c.odd_into.new.list (are (goal.at.locate-requires c).After-odd_into), c.requires.5, map-length _ _ c.odd_into.new.list (are (goal.at.locate-requires c).After-odd_into), c.requires.6, c.requires.7, c.requires.8)

pub returns : goal.returns
returns c = (sym (locate-odd c.args.f.q c.requires.0.field.known _ c.args.t c.odd_into.new.list (are (goal.at.returns c).After-odd_into) c.args.z c.requires.7) ∙ c.locate.ensures.0, c.locate.ensures.1)
