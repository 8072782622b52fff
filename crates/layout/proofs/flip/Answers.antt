use mathlib.Core.Path.{refl}
use Rattle.layout.specs.Written.{bit-room, bit-set}
use Rattle.layout.proofs.flip.Goals as goal

pub add_bytes-requires : goal.add_bytes-requires
add_bytes-requires c = bit-room c.args.e _ _ c.requires refl

pub returns : goal.returns
returns c = bit-set c.args.e _ _ _ refl c.add_bytes.ensures
