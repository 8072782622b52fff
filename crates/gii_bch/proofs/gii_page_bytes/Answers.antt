use Rattle.gii_bch.specs.Sizes.{found-fits, found_number, page-size}
use Rattle.gii_bch.proofs.gii_page_bytes.Goals as goal

pub size_number-requires : goal.size_number-requires
size_number-requires c = found-fits _ _ _ c.page_bytes-r.ensures (page-size _)

pub returns : goal.returns
returns c = let r = c.page_bytes-r in found_number _ _ _ r.ensures (page-size _) _ c.size_number.ensures
