-- Two rows of bytes are four of hex digits: two-four.
use mathlib.Core.Path.{ap, ◌∙◌}
use Rattle.polynomial.specs.Xor.{xor}
use Rattle.bytewise.specs.Bytes.{two-four}
use Rattle.bytewise.proofs.add_two.Goals as goal

pub returns : goal.returns
returns c =
    let a = c.args in
    let q = c.add_rows.ensures in
    (λ t W. q.0 ∙ ap (xor _) (two-four t a.b.now W a.k a.u c.requires.1), q.1)
