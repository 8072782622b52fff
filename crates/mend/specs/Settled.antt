-- A page in work as the program holds it, and what is found for one sub-word after another done to it.
--   Lent p f powers logs     accepted parameters, their field, and its tables
--   Held p W y l b           the page y has the words of W, and the first b entries of the list l are the numbers of its broken ones
--   Settled p x i o y        the page y is x with sub-word i mended by o, the places that were found, if any were
--   Passed p g js ws y l c b what g found for the first c of the numbers js is done to the page of ws, which is y, and the first b entries of l are
--                            those for which nothing was found
use Rattle.std.specs.Prelude.{◌≡◌, refl, Bool, not, cond, List, [], ◌∷◌, ◌++◌, ℕ, zero, suc, ◌+◌, ◌≤◌, ◌<◌, Option as RustOption, Some, None, is_some, length, get_or, set, take}
use Rattle.std.proofs.Common.{sym, ap, ap₂, ◌∙◌, inl, inr, zero-le, add-one, arith, take_all, take-suc}
use Rattle.std.proofs.Math.Option.{Option, none, some}
use Rattle.std.proofs.Math.Nat as Nat
use Rattle.std.proofs.lemmas.List.{set-get_or}
use Rattle.polynomial.specs.Xor.{xor}
use Rattle.field.specs.Flips.{Rising, flips}
use Rattle.code.specs.declared.Parameters.{Parameters}
use Rattle.code.proofs.Accepted.{accepted}
use Rattle.code.specs.Layout.{IsPage, words_of}
use Rattle.code.proofs.Mend.{flipped-page, flipped-words}
use Rattle.code.specs.Nest.{Mem, Work, kept_by, mend_all, mend_all-nil, mend_by, unfound, unfound-nil}
use Rattle.code.specs.Parameters.{Accepted, stored}
use Rattle.code.specs.Refusals.{nowhere}
use Rattle.code.proofs.Rounds.{mend_all-append, mend_all-else, mend_all-one, unfound-append, unfound-one}
use Rattle.element.specs.declared.Field.{Field}
use Rattle.element.specs.Fields.{field_at}
use Rattle.element.specs.Lent.{Tables}
use Rattle.locating.specs.Look.{front}
use Rattle.layout.specs.Written.{written}
use Rattle.mend.specs.Call.{written-flipped}

pub record Lent (p : Parameters) (f : Field) (powers logs : List ℕ) : Type 0 where
  pub accepts : Accepted p
  pub field : f ≡ field_at p.q
  pub tables : Tables f powers logs

pub record Held (p : Parameters) (W : Work) (y l : List ℕ) (b : ℕ) : Type 0 where
  pub page : IsPage p y
  pub words : words_of p y ≡ W.words
  pub size : length l ≡ 8
  pub room : b ≤ 8
  pub numbers : take b l ≡ W.broken

pub record Settled (p : Parameters) (x : List ℕ) (i : ℕ) (o : Option (List ℕ)) (y : List ℕ) : Type 0 where
  pub page : IsPage p y
  pub words : words_of p y ≡ set (words_of p x) i (mend_by (get_or (words_of p x) i 0) o)

-- ---- one sub-word
module _ (p : Parameters) (A : Accepted p) (x : List ℕ) (h : IsPage p x) (i : ℕ) (li : i < p.m) where
  pub settled-none : Settled p x i none x
  settled-none = record { page = h; words = sym (set-get_or (words_of p x) i 0) }

  pub settled-some : (Q y : List ℕ) → Rising 0 (stored p) Q → y ≡ written p x i (xor (get_or (words_of p x) i 0) (flips Q)) → Settled p x i (some Q) y
  settled-some Q y r e =
      let w = e ∙ written-flipped p A x h i li Q r in
      record { page = rw w (flipped-page p (accepted p A) x h i li Q r); words = ap (words_of p) w ∙ flipped-words p (accepted p A) x h i li Q r }

-- whether something was found
pub found-is : (r : RustOption ℕ) (l : List ℕ) → is_some r ≡ not (nowhere (front r l))
found-is None l = refl
found-is (Some c) l = refl

-- ---- one after another
pub record Passed (p : Parameters) (g : ℕ → Option (List ℕ)) (js ws y l : List ℕ) (c b : ℕ) : Type 0 where
  pub page : IsPage p y
  pub words : words_of p y ≡ mend_all g (take c js) ws
  pub size : length l ≡ 8
  pub room : b ≤ c
  pub numbers : take b l ≡ unfound g (take c js)

module _ (p : Parameters) (g : ℕ → Option (List ℕ)) (js ws : List ℕ) where
  pub pass-first : (y l : List ℕ) → IsPage p y → words_of p y ≡ ws → length l ≡ 8 → Passed p g js ws y l 0 0
  pass-first y l h e s = record { page = h; words = e ∙ sym (mend_all-nil g ws); size = s; room = zero-le; numbers = sym (unfound-nil g) }

  module _ (y l : List ℕ) (c b : ℕ) (P : Passed p g js ws y l c b) (h : c < length js) (r : Rising 0 p.m js) where
    abbrev i : ℕ
    i = get_or js c 0

    -- the numbers before are others
    later : (k : ℕ) (js : List ℕ) (c : ℕ) → c < length js → Rising k p.m js → k ≤ get_or js c 0
    later k [] c h r = absurd (Nat.not-suc-le-zero h)
    later k (j ∷ js) zero h r = r.0
    later k (j ∷ js) (suc c) h r = Nat.le_trans (Nat.le_step r.0) (later (suc j) js c (Nat.le_of_suc-le-suc h) r.2)

    before : ¬ Mem i (take c js)
    before = apart 0 js c h r
      where
        apart : (k : ℕ) (js : List ℕ) (c : ℕ) → c < length js → Rising k p.m js → ¬ Mem (get_or js c 0) (take c js)
        apart k [] c h r m = Nat.not-suc-le-zero h
        apart k (j ∷ js) zero h r m = m
        apart k (j ∷ js) (suc c) h r (inl e) = Nat.lt_irrefl j (rw (← e) at (later (suc j) js c (Nat.le_of_suc-le-suc h) r.2))
        apart k (j ∷ js) (suc c) h r (inr m) = apart (suc j) js c (Nat.le_of_suc-le-suc h) r.2 m

    -- and the word is as it was
    pub pass-word : get_or (words_of p y) i 0 ≡ get_or ws i 0
    pass-word = ap (λ (v : List ℕ). get_or v i 0) P.words ∙ mend_all-else g (take c js) ws i before

    pub pass-next : (o : Option (List ℕ)) (z m : List ℕ) (found : Bool) (d : ℕ) → o ≡ g i → Settled p y i o z → found ≡ not (nowhere o) → d ≤ b + 1
        → length m ≡ length l → take d m ≡ take b l ++ cond found [] (i ∷ []) → Passed p g js ws z m (c + 1) d
    pass-next o z m found d e S f k q t = record {
      page = S.page;
      words = S.words ∙ ap₂ (λ (v : List ℕ) (o : Option (List ℕ)). set v i (mend_by (get_or v i 0) o)) P.words e ∙ sym (mend_all-one g i (mend_all g (take c js) ws))
          ∙ sym (mend_all-append g (take c js) (i ∷ []) ws) ∙ ap (λ (v : List ℕ). mend_all g v ws) more;
      size = q ∙ P.size;
      room = omega (arith, P.room);
      numbers = t ∙ ap₂ ◌++◌ P.numbers (kept-is o found f ∙ ap (λ (o : Option (List ℕ)). kept_by o i []) e ∙ sym (unfound-one g i)) ∙ sym (unfound-append g (take c js) (i ∷ [])) ∙ ap (unfound g) more;
    }
      where
        more : take c js ++ i ∷ [] ≡ take (c + 1) js
        more = sym (ap (λ (k : ℕ). take k js) (add-one c) ∙ take-suc js c 0 h)

        kept-is : (o : Option (List ℕ)) (found : Bool) → found ≡ not (nowhere o) → cond found [] (i ∷ []) ≡ kept_by o i []
        kept-is none found e = rw e refl
        kept-is (some Q) found e = rw e refl

  pub pass-last : (y l : List ℕ) (c b : ℕ) → Passed p g js ws y l c b → length js ≤ c → c ≤ 8 → (W : Work) → W.words ≡ mend_all g js ws → W.broken ≡ unfound g js → Held p W y l b
  pass-last y l c b P h k W e f = record {
    page = P.page;
    words = P.words ∙ ap (λ (v : List ℕ). mend_all g v ws) (take_all c js h) ∙ sym e;
    size = P.size;
    room = Nat.le_trans P.room k;
    numbers = P.numbers ∙ ap (unfound g) (take_all c js h) ∙ sym f;
  }
