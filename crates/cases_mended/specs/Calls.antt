-- What the tables share.
--   mend p x i l n    what refuses the mending of sub-word i, or 0, then what that leaves in the page x, the list l and the number n
--   mend_paged p x     what refuses the page x mended through its nested words, or 0, then what that leaves in it
use Rattle.std.specs.Prelude.{List, [], ◌∷◌, ◌++◌, ℕ, length}
use Rattle.code.specs.declared.Parameters.{Parameters}
use Rattle.code.specs.Calls.{leaves, list_of, places_of}
use Rattle.code.specs.Layout.{flipped, mended_page, place_list}
use Rattle.code.specs.Parameters.{strength}
use Rattle.code.specs.Refusals.{mend_page_refusal, mend_refusal}

-- where k refuses it, or 0, and R are the places
abbrev pub mend_by : Parameters → List ℕ → ℕ → List ℕ → ℕ → ℕ → List ℕ → List ℕ
mend_by p x i l n k R =
    k ∷ leaves k (flipped p x i R) x ++ leaves k (place_list (strength p 0) R) l ++ leaves k (length R ∷ []) (n ∷ [])

abbrev pub mend : Parameters → List ℕ → ℕ → List ℕ → ℕ → List ℕ
mend p x i l n = mend_by p x i l n (mend_refusal 1 p x i (length l)) (places_of p x i)

abbrev pub mend_paged : Parameters → List ℕ → List ℕ
mend_paged p x = mend_page_refusal p x ∷ leaves (mend_page_refusal p x) (list_of (mended_page p x)) x
