use Rattle.gii_bch.specs.Sizes.{found-fits, found_number, data-size}
use Rattle.gii_bch.proofs.gii_data_bytes.Goals as goal

pub size_number-requires : goal.size_number-requires
size_number-requires c = found-fits _ _ _ c.data_bytes-r.ensures (data-size _)

pub returns : goal.returns
returns c = let r = c.data_bytes-r in found_number _ _ _ r.ensures (data-size _) _ c.size_number.ensures
