use Rattle.std.specs.Prelude.{◌≡◌, refl, Bool, true, false, List, ◌++◌, ℕ, ◌+◌, ◌*◌, ◌<◌, eqb, length, get_or, take}
use Rattle.std.specs.Bool.{Decides}
use lib.Pointwise.{pointwise}
use Rattle.std.proofs.Common.{sym, ap, ◌∙◌, ext_get_or}
use Rattle.std.proofs.lemmas.Bool.Decides.{Decides-eqb, same_from_decides}
use Rattle.std.proofs.lemmas.List.{take_at}
use Rattle.std.proofs.lemmas.Slice.Eq.{slice_eq-Decides}
use Rattle.field.specs.Elements.{syndrome}
use Rattle.field.specs.Fields.{Known}
use Rattle.field.specs.Flips.{flips}
use Rattle.code.proofs.Filled.{map_at, map-length}
use Rattle.code.proofs.Pages.{zeros-length}
use Rattle.locator.specs.Locate.{agree}
use Rattle.locating.specs.Look.{agree-not-odd, agree-odd, from_list}
use Rattle.locating.proofs.agrees.Goals as goal

-- the odd sums s of the places R are those of o just where all syndromes agree
looked : (q : ℕ) → Known q → (o R s : List ℕ) → length s ≡ length o → ((i : ℕ) → i < length o → get_or s i 0 ≡ syndrome q (flips R) (2 * i + 1))
    → Decides (agree q (from_list q o) R (2 * length o)) (s ≡ o)
looked q known o R s e f = (same, λ w. sym (agree-odd q known o R (length o) (λ i b. sym (ap (λ (l : List ℕ). get_or l i 0) w) ∙ f i b)))
  where
    same : agree q (from_list q o) R (2 * length o) ≡ true → s ≡ o
    same a = ext_get_or 0 s o e (λ i k. go i (rw e at k) (eqb (get_or s i 0) (get_or o i 0)) refl)
      where
        differ : false ≡ true → ⊥
        differ w = (cc)

        go : (i : ℕ) → i < length o → (b : Bool) → eqb (get_or s i 0) (get_or o i 0) ≡ b → get_or s i 0 ≡ get_or o i 0
        go i h true w = (Decides-eqb (get_or s i 0) (get_or o i 0)).0 w
        go i h false w = absurd (differ (agree-not-odd q o R i (length o) (get_or s i 0) h (f i h) (λ z. differ (sym w ∙ (Decides-eqb (get_or s i 0) (get_or o i 0)).1 z)) ∙ a))

-- what `==` says of a list that was written before z
equal : (s z l : List ℕ) (t : ℕ) (r : Bool) → length s ≡ t → r ≡ pointwise eqb (take t (s ++ z)) l → Decides r (s ≡ l)
equal s z l t r e p = slice_eq-Decides Decides-eqb s l r (rw (take_at s z t e) at p)

pub returns : goal.returns
returns c =
    let a = c.args in
    let n = c.odd_sums.new.list in
    let z = zeros-length (length a.odd.now) 64 c.requires.3 in
    let long : length n ≡ length a.odd.now = map-length _ _ n c.odd_sums.ensures ∙ z in
    let D = looked a.f.q c.requires.0.field.known a.odd.now a.list.now n long (λ i h. map_at _ _ n c.odd_sums.ensures i (rw z h)) in
    same_from_decides _ _ (equal n _ _ _ _ long c.eq.ensures) D
