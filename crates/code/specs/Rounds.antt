-- IsWork p W: the words of a page in work stand, and its broken ones rise.
use Rattle.field.specs.Flips.{Rising}
use Rattle.code.specs.declared.Parameters.{Parameters}
use Rattle.code.specs.Nest.{Work}
use Rattle.code.specs.Pages.{IsWords}

-- ---- pages in work
pub record IsWork (p : Parameters) (W : Work) : Type 0 where
  pub stand : IsWords p W.words
  pub rising : Rising 0 p.m W.broken
