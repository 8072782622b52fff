use Rattle.std.proofs.Common.{ne_eqb, ◌∙◌}
use Rattle.refusal.specs.Tests.{words-short, words-bit, words-rest}
use Rattle.refusal.proofs.remainder_fits.Goals as goal

pub returns-then-words-k : goal.returns-then-words-k
returns-then-words-k c = words-short c.args.words.now (λ i. (c.type_inv.words i).fits) c.args.w c.if-words-k.true

pub returns-then-words-k-eq0 : goal.returns-then-words-k-eq0
returns-then-words-k-eq0 c = c.is_zero.ensures ∙ words-rest c.args.words.now (λ i. (c.type_inv.words i).fits) c.args.w c.if-words-k-eq0.true

pub returns-else-words-k-eq0 : goal.returns-else-words-k-eq0
returns-else-words-k-eq0 c =
    ne_eqb _ 0 c.if-words-k-eq0.false ∙ words-bit c.args.words.now (λ i. (c.type_inv.words i).fits) c.args.w c.if-words-k-eq0.false
