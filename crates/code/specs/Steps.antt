-- Divides p a c: the remainder of c by level a's generator is 0.
use Rattle.std.specs.Prelude.{◌≡◌, ℕ}
use Rattle.code.specs.declared.Parameters.{Parameters}
use Rattle.code.specs.Code.{remainder}

abbrev pub Divides : Parameters → ℕ → ℕ → Type 0
Divides C a f = remainder C a f ≡ 0
