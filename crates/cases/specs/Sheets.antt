-- What the tables share.
--   Row               what a definition gives, and what it should give
--   A, B              the requirement's two sheets
--   page p k b        what write leaves at L = 8 in a zeroed page of k bytes
--   held r            a register's level, count and words
--   many p L c b x    what a write of c pages lists, then what it leaves in the pages x
--   alter p x i r b   what refuses bit r of block i made b, or 0, then what that leaves in the page x
--   all p a l x       what refuses all syndromes of level a from the odd ones l, or 0, then what that leaves in the list x
use Rattle.std.specs.Prelude.{List, ◌∷◌, ◌++◌, ℕ, length, replicate}
use Rattle.code.specs.declared.Parameters.{Parameters}
use Rattle.code.specs.Register.{Register}
use Rattle.code.specs.Calls.{leaves, pages_by, statuses, write_leaves}
use Rattle.code.specs.Code.{all_syndromes}
use Rattle.code.specs.Layout.{altered}
use Rattle.code.specs.Parameters.{sheet}
use Rattle.code.specs.Refusals.{all_refusal, alter_refusal}

abbrev pub Row : Type 0
Row = List ℕ × List ℕ

abbrev pub A : Parameters
A = sheet 4 2 1 1 2 0 0 0

abbrev pub B : Parameters
B = sheet 4 3 2 1 2 3 0 0

abbrev pub page : Parameters → ℕ → List ℕ → List ℕ
page p k blocks = write_leaves p 8 blocks (replicate k 0)

abbrev pub held : Register → List ℕ
held r = r.level ∷ r.count ∷ r.remainder

abbrev pub many : Parameters → ℕ → ℕ → List ℕ → List ℕ → List ℕ
many p L count blocks pages = statuses p L count blocks ++ pages_by p (statuses p L count blocks) blocks pages

abbrev pub alter : Parameters → List ℕ → ℕ → ℕ → ℕ → List ℕ
alter p x i r b = alter_refusal p x i r b ∷ leaves (alter_refusal p x i r b) (altered p x i r b) x

abbrev pub all : Parameters → ℕ → List ℕ → List ℕ → List ℕ
all p a l x = all_refusal 1 p a (length l) (length x) ∷ leaves (all_refusal 1 p a (length l) (length x)) (all_syndromes p l) x
