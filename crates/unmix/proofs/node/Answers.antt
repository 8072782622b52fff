use Prim.Native.Nat.{◌*◌}
use native.Mathlib.Omega.{arith}
use Rattle.element.specs.Fields.{size-least}
use Rattle.unmix.specs.Weights.{node-is, node-room, node-small}
use Rattle.unmix.proofs.node.Goals as goal

pub overflow_mul-result : goal.overflow_mul-result
overflow_mul-result c = omega (arith, node-small c.args.j c.args.i c.requires.1 c.requires.2)

pub nonzero_rem-result : goal.nonzero_rem-result
nonzero_rem-result c = omega (arith, size-least c.args.f.q c.requires.0.field.known, c.requires.0.field.order)

pub offset_bounds-powers-j : goal.offset_bounds-powers-j
offset_bounds-powers-j c = omega (arith, node-room c.requires.0 (c.args.j * c.args.i))

pub bounds-powers-j : goal.bounds-powers-j
bounds-powers-j c = node-room c.requires.0 (c.args.j * c.args.i)

pub returns : goal.returns
returns c = node-is c.requires.0 c.args.j c.args.i
