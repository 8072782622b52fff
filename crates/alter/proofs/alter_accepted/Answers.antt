use Rattle.std.proofs.lemmas.Result.{err_from_is_err_and}
use mathlib.Core.Path.{sym}
use Rattle.refusal.specs.Altering.{alterable, bit-refused}
use Rattle.alter.proofs.alter_accepted.Goals as goal

pub returns-in_err-bit_refusal : goal.returns-in_err-bit_refusal
returns-in_err-bit_refusal c =
    let p = err_from_is_err_and c.from_residual.result c.from_residual.ensures.1 in
    rw (p.1, p.2) (bit-refused _ _ _ _ _ _ c.in_err-bit_refusal.ensures)

pub alter_named-requires : goal.alter_named-requires
alter_named-requires c =
    let a = c.args in
    (c.requires, c.rows-rows.ensures, c.degrees-w.ensures, alterable a.p a.page.now a.block a.bit a.value (sym c.in_ok-bit_refusal.ensures))
