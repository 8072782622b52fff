use Rattle.std.proofs.Common.{arith, ne_eqb, ◌∙◌}
use Rattle.refusal.specs.Writing.{ones-short, ones-whole}
use Rattle.refusal.proofs.page_ones.Goals as goal

pub returns-then-p-eq0 : goal.returns-then-p-eq0
returns-then-p-eq0 c = ones-whole c.args.p.s _ _ (omega arith) c.blocks_full.ensures

pub returns-else-p-eq0 : goal.returns-else-p-eq0
returns-else-p-eq0 c = ne_eqb c.args.p.s 0 c.if-p-eq0.false ∙ ones-short c.args.p.s _ (omega arith)
