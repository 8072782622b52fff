use Rattle.std.proofs.Common.{inl, inr, ◌≡◌, ◌+◌, length, arith}
use Rattle.std.proofs.lemmas.Bool.{cases_lt}
use Rattle.given.specs.Input.{many-most, begins-within, begins-end}
use Rattle.given.proofs.rest_begins.Goals as goal

pub overflow_add-many : goal.overflow_add-many
overflow_add-many c = omega (arith, c.strengths_given-many.ensures, many-most c.args.input.now)

pub returns : goal.returns
returns c =
    let a = c.args.input.now in
    let k = c.strengths_given-many.result in
    let e = c.strengths_given-many.ensures in
    elim (cases_lt (4 + k) (length a)) [
      | inl lt ↦ (let f : 4 + k ≡ c.min.result = omega arith in rw f at (begins-within a k e lt))
      | inr le ↦ (let f : length a ≡ c.min.result = omega arith in rw f at (begins-end a k e le))
    ]
