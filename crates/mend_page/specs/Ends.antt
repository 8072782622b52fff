-- What is left where no sub-word is broken any more, or where the rounds end before.
--   Stands p y l b    a page, and the first b numbers of a list of 8 are those of its broken sub-words, rising
--   in_work p y l b    such a page in work
--   Ends p o y r      r says whether o, the words of the mended page, are found, and then the page y has them
--   says_member r      the verdict is that of a member
--   Turning p o y l n after some rounds such a page stands from which o comes
use Rattle.std.specs.Prelude.{◌≡◌, Bool, true, false, not, List, ℕ, ◌≤◌, length, take}
use Rattle.std.proofs.Math.Option.{Option, some}
use Rattle.field.specs.Flips.{Rising}
use Rattle.code.specs.declared.Parameters.{Parameters}
use Rattle.code.specs.declared.Verdict.{Verdict}
use Rattle.code.specs.Layout.{IsPage, words_of}
use Rattle.code.specs.Nest.{Work, rounds}
use Rattle.code.specs.Refusals.{nowhere}

pub record Stands (p : Parameters) (y l : List ℕ) (b : ℕ) : Type 0 where
  pub page : IsPage p y
  pub size : length l ≡ 8
  pub room : b ≤ 8
  pub rising : Rising 0 p.m (take b l)

abbrev pub in_work : Parameters → List ℕ → List ℕ → ℕ → Work
in_work p y l b = record { words = words_of p y; broken = take b l }

pub record Ends (p : Parameters) (o : Option (List ℕ)) (y : List ℕ) (r : Bool) : Type 0 where
  pub page : IsPage p y
  pub found : r ≡ not (nowhere o)
  pub words : r ≡ true → o ≡ some (words_of p y)

pub record Turning (p : Parameters) (o : Option (List ℕ)) (y l : List ℕ) (n : ℕ) : Type 0 where
  pub stands : Stands p y l n
  pub same : o ≡ rounds p p.v (in_work p y l n)

-- ---- a member
abbrev pub says_member : Verdict → Bool
says_member Verdict.Member = true
says_member Verdict.Blank = false
says_member (Verdict.SubWord i) = false
says_member (Verdict.NestedWord l) = false
