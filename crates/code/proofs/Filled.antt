-- A list filled from its front.
--   Filled f k l    the first k entries of l are f 0, f 1, ..
use Rattle.std.specs.Prelude.{◌≡◌, List, map, ℕ, ◌+◌, ◌<◌, length, get_or, set}
use Rattle.std.proofs.Common.{sym, ap, ◌∙◌, ext_get_or}
use Rattle.std.proofs.Math.Nat as Nat
use Rattle.std.proofs.lemmas.List.{length-map}
use Rattle.code.specs.Lists.{range}
use Rattle.code.proofs.Pages.{length-range}
use Rattle.code.proofs.Placement.{first_more, get_or-map-range}
use Rattle.code.specs.Filled.{Filled}

pub filled-first : (f : ℕ → ℕ) (l : List ℕ) → Filled f 0 l
filled-first f l = record { is = λ i h. absurd (Nat.not-suc-le-zero h) }

pub filled_next : (f : ℕ → ℕ) (k d : ℕ) (l : List ℕ) → Filled f k l → k < length l → d ≡ f k → Filled f (k + 1) (set l k d)
filled_next f k d l F h e = record { is = first_more f k d l h F.is e }

pub filled-all : (f : ℕ → ℕ) (k : ℕ) (l : List ℕ) → Filled f k l → length l ≡ k → l ≡ map f (range 0 k)
filled-all f k l F e =
    ext_get_or 0 l (map f (range 0 k)) (e ∙ sym (length-map (range 0 k) f ∙ length-range 0 k))
    (λ i h. let b : i < k = rw e at h in F.is i b ∙ ap f (sym (Nat.zero-add i)) ∙ sym (get_or-map-range f 0 k i b))

pub map_at : (f : ℕ → ℕ) (k : ℕ) (l : List ℕ) → l ≡ map f (range 0 k) → (i : ℕ) → i < k → get_or l i 0 ≡ f i
map_at f k l e i h = ap (λ (l : List ℕ). get_or l i 0) e ∙ get_or-map-range f 0 k i h ∙ ap f (Nat.zero-add i)

pub map-length : (f : ℕ → ℕ) (k : ℕ) (l : List ℕ) → l ≡ map f (range 0 k) → length l ≡ k
map-length f k l e = ap length e ∙ length-map (range 0 k) f ∙ length-range 0 k
