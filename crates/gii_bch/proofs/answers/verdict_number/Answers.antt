use mathlib.Core.Path.{sym, ap}
use native.Mathlib.Omega.{arith}
use Rattle.code.specs.Calls.{verdict_number}
use Rattle.gii_bch.proofs.answers.verdict_number.Goals as goal

pub overflow_cast-result : goal.overflow_cast-result
overflow_cast-result c = omega (arith, rw c.in-SubWord.is at c.requires)

pub overflow_add-result : goal.overflow_add-result
overflow_add-result c = omega (arith, rw c.in-SubWord.is at c.requires)

pub overflow_cast-result-in-NestedWord : goal.overflow_cast-result-in-NestedWord
overflow_cast-result-in-NestedWord c = omega (arith, rw c.in-NestedWord.is at c.requires)

pub overflow_add-result-in-NestedWord : goal.overflow_add-result-in-NestedWord
overflow_add-result-in-NestedWord c = omega (arith, rw c.in-NestedWord.is at c.requires)

pub returns-in-SubWord : goal.returns-in-SubWord
returns-in-SubWord c = sym (ap verdict_number c.in-SubWord.is)

pub returns-in-NestedWord : goal.returns-in-NestedWord
returns-in-NestedWord c = sym (ap verdict_number c.in-NestedWord.is)
