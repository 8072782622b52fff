use Rattle.gii_bch.specs.Sizes.{found-fits, found_number, distance-size}
use Rattle.gii_bch.proofs.gii_distance.Goals as goal

pub size_number-requires : goal.size_number-requires
size_number-requires c = found-fits _ _ _ c.distance-r.ensures (distance-size _)

pub returns : goal.returns
returns c = let r = c.distance-r in found_number _ _ _ r.ensures (distance-size _) _ c.size_number.ensures
