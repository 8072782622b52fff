-- One sub-word mended: at most one multiple is near, and the flips that lead to it are what is tried and found.
--   Found P k n t y R    R rises from k on, below n, has at most t places, and their flips take y to a word that passes P
--   Mendable p x i k t   what mend does not refuse, but for 15: k is the length of the list, t what it is to be
use Rattle.std.specs.Prelude.{◌≡◌, ◌≢◌, ◌↔◌, ◌⊎◌, Bool, true, false, not, List, [], ◌∷◌, ◌++◌, ℕ, zero, suc, ◌+◌, ◌-◌, ◌*◌, ◌^◌, ◌≤◌, ◌<◌, T, leb, length, get_or, set, replicate}
use Rattle.std.proofs.Math.Path.{refl}
use Rattle.std.proofs.Common.{sym, ap, ap₂, ◌∙◌, inl, inr, zero-le, suc-le-suc, arith, eqb→eq, leb→le, lit≤, lit<, length-append, length-set, pow_mono, ext_get_or, get_or-append-add, get_or-set_other, get_or-set_same}
use Rattle.std.proofs.Math.Option.{Option, none, some}
use Rattle.std.proofs.Math.Nat as Nat
use Rattle.std.proofs.Math.Decide.{ℕ_discrete}
use Rattle.std.proofs.Math.Dec.{nleb→lt, not_T}
use Rattle.std.proofs.Math.ListN.{get_or-append}
use Rattle.std.proofs.lemmas.List.{get_or-replicate, length-replicate}
use Rattle.polynomial.specs.Division.{xor_lt}
use Rattle.polynomial.specs.Multiple.{Multiple}
use Rattle.polynomial.specs.Sums.{at_all}
use Rattle.polynomial.specs.Xor.{xor, xors, xor-cancel, xor-eq-zero, xor_zero_r}
use Rattle.field.specs.Bch.{bch, weight}
use Rattle.field.specs.Eval.{eval, eval_xor}
use Rattle.field.specs.Field.{pow, add-self}
use Rattle.field.specs.Fields.{field_of}
use Rattle.field.specs.Flips.{Rising, flips, flips-cons, flips-inj, flips-lt, flips-nil, flips-ones, length-ones, ones, ones-rising, rising-up, weight-flips, weight-xor}
use Rattle.code.specs.declared.Parameters.{Parameters}
use Rattle.code.specs.Accepted.{Rules}
use Rattle.code.proofs.Accepted.{lawful, stored-le}
use Rattle.code.proofs.Chains.{exact_none, exact-of, given, last, off, off', or_assoc, or-le, or-none, or-second, past, unless, when-le}
use Rattle.code.specs.Code.{Flips, Near, before, first_of, gen, nearest, passes, remainder, tried, unflipped, nearest-eq}
use Rattle.code.proofs.Judge.{multiple-iff}
use Rattle.code.specs.Layout.{IsPage, flipped, mending, no_place, page_bytes, page_clear, place_list, word_sizes, words_of}
use Rattle.code.specs.Lists.{◌or_else◌, ◌when◌, join, last_refusal, part}
use Rattle.code.specs.Pages.{IsWords}
use Rattle.code.proofs.Pages.{join-words, word_lt, words-join, words-many, words-page}
use Rattle.code.specs.Parameters.{Accepted, len, sheet_refusal, stored, strength, sub_word_bytes}
use Rattle.code.proofs.Placement.{same-part}
use Rattle.code.specs.Refusals.{mend_refusal, not_exact, nowhere, page_refusal, word_refusal}
use Rattle.code.proofs.Refused.{page-links, word-le}

-- ---- options
pub some_inj : (R Q : List ℕ) → some R ≡ some Q → R ≡ Q
some_inj R Q e = cc

pub none-some : (R : List ℕ) → none ≡ some R → ⊥
none-some R e = let z : ◌≡◌ {A = ℕ} 0 1 = cc in Nat.suc-ne-zero 0 (sym z)

-- options that hold the same lists are the same
pub same-option : (o u : Option (List ℕ)) → ((Q : List ℕ) → o ≡ some Q → u ≡ some Q) → ((Q : List ℕ) → u ≡ some Q → o ≡ some Q) → o ≡ u
same-option (some Q) u f g = sym (f Q refl)
same-option none none f g = refl
same-option none (some Q) f g = g Q refl

unflipped-some : (b : Bool) (R : List ℕ) → unflipped b ≡ some R → T b × ([] ≡ R)
unflipped-some true R e = (tt, some_inj [] R e)
unflipped-some false R e = absurd (none-some R e)

unflipped-none : (b : Bool) → unflipped b ≡ none → T b → ⊥
unflipped-none true e t = none-some [] (sym e)
unflipped-none false e t = t

-- one was found, or none
pub somewhere : (o : Option (List ℕ)) → T (not (nowhere o)) → (R : List ℕ) × (o ≡ some R)
somewhere (some R) t = (R, refl)
somewhere none t = absurd t

pub is-nowhere : (o : Option (List ℕ)) → T (nowhere o) → o ≡ none
is-nowhere none t = refl
is-nowhere (some R) t = absurd t

-- ---- what is tried
pub tried-zero : (P : ℕ → Bool) (k t y : ℕ) → tried P k zero t y ≡ unflipped (P y)
unfolding tried
tried-zero P k t y = refl

pub tried-no : (P : ℕ → Bool) (k z y : ℕ) → tried P k (suc z) zero y ≡ unflipped (P y)
unfolding tried
tried-no P k z y = refl

pub tried-suc : (P : ℕ → Bool) (k z t y : ℕ)
    → tried P k (suc z) (suc t) y ≡ first_of (tried P (suc k) z (suc t) y) (before k (tried P (suc k) z t (xor y (2 ^ k))))
unfolding tried
tried-suc P k z t y = refl

module _ (P : ℕ → Bool) where
  pub record Found (k n t y : ℕ) (R : List ℕ) : Type 0 where
    pub rising : Rising k n R
    pub few : length R ≤ t
    pub passes : T (P (xor y (flips R)))

  found-nil : (k n t y : ℕ) → T (P y) → Found k n t y []
  found-nil k n t y h = record { rising = tt; few = zero-le; passes = rw (flips-nil, xor_zero_r y) h }

  nil-found : (k n t y : ℕ) → Found k n t y [] → T (P y)
  nil-found k n t y f = rw (flips-nil, xor_zero_r y) at f.passes

  with_first : (y k : ℕ) (R : List ℕ) → xor y (flips (k ∷ R)) ≡ xor (xor y (2 ^ k)) (flips R)
  with_first y k R = ap (xor y) (flips-cons k R) ∙ simp xors

  sound-nil : (k n t y : ℕ) (R : List ℕ) → unflipped (P y) ≡ some R → Found k n t y R
  sound-nil k n t y R e = let s = unflipped-some (P y) R e in rw s.1 at (found-nil k n t y s.0)

  -- what is found is such a list
  pub tried-sound : (k z n t y : ℕ) (R : List ℕ) → k + z ≡ n → tried P k z t y ≡ some R → Found k n t y R
  tried-sound k zero n t y R e h = sound-nil k n t y R (sym (tried-zero P k t y) ∙ h)
  tried-sound k (suc z) n zero y R e h = sound-nil k n zero y R (sym (tried-no P k z y) ∙ h)
  tried-sound k (suc z) n (suc t) y R e h =
      go (tried P (suc k) z (suc t) y) (tried P (suc k) z t (xor y (2 ^ k)))
      (λ Q. tried-sound (suc k) z n (suc t) y Q (omega arith)) (λ Q. tried-sound (suc k) z n t (xor y (2 ^ k)) Q (omega arith))
      (sym (tried-suc P k z t y) ∙ h)
    where
      skip : (Q : List ℕ) → Found (suc k) n (suc t) y Q → Found k n (suc t) y Q
      skip Q f = record { rising = rising-up k n Q f.rising; few = f.few; passes = f.passes }

      take : (Q : List ℕ) → Found (suc k) n t (xor y (2 ^ k)) Q → Found k n (suc t) y (k ∷ Q)
      take Q f = record {
        rising = (Nat.le_refl k, omega arith, f.rising);
        few = suc-le-suc f.few;
        passes = rw (with_first y k Q) f.passes;
      }

      go : (o u : Option (List ℕ)) → ((Q : List ℕ) → o ≡ some Q → Found (suc k) n (suc t) y Q)
          → ((Q : List ℕ) → u ≡ some Q → Found (suc k) n t (xor y (2 ^ k)) Q) → first_of o (before k u) ≡ some R → Found k n (suc t) y R
      go (some Q) u f g h = rw (some_inj Q R h) at (skip Q (f Q refl))
      go none (some Q) f g h = rw (some_inj (k ∷ Q) R h) at (take Q (g Q refl))
      go none none f g h = absurd (none-some R h)

  -- where nothing is found there is none
  pub tried-none : (k z n t y : ℕ) (R : List ℕ) → k + z ≡ n → tried P k z t y ≡ none → Found k n t y R → ⊥
  tried-none k zero n t y [] e h f = unflipped-none (P y) (sym (tried-zero P k t y) ∙ h) (nil-found k n t y f)
  tried-none k zero n t y (i ∷ R) e h f = Nat.lt_irrefl i (omega (arith, f.rising.0, f.rising.1))
  tried-none k (suc z) n zero y [] e h f = unflipped-none (P y) (sym (tried-no P k z y) ∙ h) (nil-found k n zero y f)
  tried-none k (suc z) n zero y (i ∷ R) e h f = Nat.not-suc-le-zero f.few
  tried-none k (suc z) n (suc t) y R e h f =
      let b = both (tried P (suc k) z (suc t) y) (tried P (suc k) z t (xor y (2 ^ k))) (sym (tried-suc P k z t y) ∙ h) in
      go R f (λ Q. tried-none (suc k) z n (suc t) y Q (omega arith) b.0) (λ Q. tried-none (suc k) z n t (xor y (2 ^ k)) Q (omega arith) b.1)
    where
      both : (o u : Option (List ℕ)) → first_of o (before k u) ≡ none → (o ≡ none) × (u ≡ none)
      both none none h = (refl, refl)
      both none (some Q) h = absurd (none-some (k ∷ Q) (sym h))
      both (some Q) u h = absurd (none-some Q (sym h))

      go : (R : List ℕ) → Found k n (suc t) y R → ((Q : List ℕ) → Found (suc k) n (suc t) y Q → ⊥)
          → ((Q : List ℕ) → Found (suc k) n t (xor y (2 ^ k)) Q → ⊥) → ⊥
      go [] f skip take = skip [] (record { rising = tt; few = zero-le; passes = f.passes })
      go (i ∷ Q) f skip take = at (Nat.eq-or-lt_of_le f.rising.0)
        where
          at : (k ≡ i) ⊎ (k < i) → ⊥
          at (inl w) = take Q (record {
            rising = rw (← w) at f.rising.2;
            few = Nat.le_of_suc-le-suc f.few;
            passes = rw (← with_first y k Q, w) f.passes;
          })
          at (inr w) = skip (i ∷ Q) (record { rising = (w, f.rising.1, f.rising.2); few = f.few; passes = f.passes })

-- ---- the multiples of g_a near a word
module _ (p : Parameters) (R : Rules p) (a : ℕ) (av : a ≤ p.v) (y : ℕ) where
  passes-iff : (c : ℕ) → T (passes p a c) ↔ Multiple (gen p a) c
  passes-iff c = (
    (λ t. (multiple-iff p R a av c).0 (eqb→eq (remainder p a c) 0 t)),
    (λ m. rw ((multiple-iff p R a av c).1 m) tt),
  )

  -- two multiples whose difference has at most 2 t_a ones are one, by the BCH bound
  multiples-apart : (c d : ℕ) → c < 2 ^ len p → d < 2 ^ len p → Multiple (gen p a) c → Multiple (gen p a) d → weight (xor c d) ≤ 2 * strength p a → c ≡ d
  multiples-apart c d hc hd mc md w =
      let B = field_of p.q in
      let at : (e : ℕ) → Multiple (gen p a) e → (j : ℕ) → j < 2 * strength p a → eval B.field e (pow B.field B.α (suc j)) ≡ B.field.𝟘 =
      λ e m j h. ((lawful p R).roots a av e).0 ((multiple-iff p R a av e).1 m) (suc j) (suc-le-suc zero-le) h in
      xor-eq-zero c d (bch B.field B.α (lawful p R).α≢zero (len p) (lawful p R).order (2 * strength p a) (xor c d) (xor_lt (len p) c d hc hd) w
      (λ j h. eval_xor B.field c d (pow B.field B.α (suc j)) ∙ rw (at c mc j h, at d md j h) (add-self B.field B.field.𝟘)))

  low : (c : ℕ) → c < 2 ^ stored p → c < 2 ^ len p
  low c h = Nat.lt_of_lt_of_le h (pow_mono (stored-le p R))

  -- AT MOST ONE
  pub near-once : (c d : ℕ) → Near p a y c → Near p a y d → c ≡ d
  near-once c d M N =
      multiples-apart c d (low c M.stores) (low d N.stores) M.multiple N.multiple
      (rw (between c d) (omega (arith, weight-xor (xor y c) (xor y d), M.near, N.near)))
    where
      between : (c d : ℕ) → xor c d ≡ xor (xor y c) (xor y d)
      between c d = simp xors

  module _ (ly : y < 2 ^ stored p) where
    pub flips-near : (Q : List ℕ) → Flips p a y Q → Near p a y (xor y (flips Q))
    flips-near Q f = record {
      stores = xor_lt (stored p) y (flips Q) ly (flips-lt 0 (stored p) Q f.rising);
      multiple = f.multiple;
      near = rw (xor-cancel y (flips Q)) (Nat.le_trans (weight-flips Q) f.few);
    }

    pub near-flips : (c : ℕ) → Near p a y c → Flips p a y (ones (stored p) (xor y c))
    near-flips c M =
        let b : xor y c < 2 ^ stored p = xor_lt (stored p) y c ly M.stores in
        record {
          rising = ones-rising (stored p) (xor y c);
          few = rw (length-ones (stored p) (xor y c) b) M.near;
          multiple = rw (flips-ones (stored p) (xor y c) b, xor-cancel y c) M.multiple;
        }

    pub flips-once : (Q S : List ℕ) → Flips p a y Q → Flips p a y S → Q ≡ S
    flips-once Q S f g =
        flips-inj (stored p) Q S f.rising g.rising
        (sym (xor-cancel y (flips Q)) ∙ ap (xor y) (near-once (xor y (flips Q)) (xor y (flips S)) (flips-near Q f) (flips-near S g)) ∙ xor-cancel y (flips S))

    found-flips : (Q : List ℕ) → Found (passes p a) 0 (stored p) (strength p a) y Q → Flips p a y Q
    found-flips Q f = record { rising = f.rising; few = f.few; multiple = (passes-iff (xor y (flips Q))).0 f.passes }

    flips-found : (Q : List ℕ) → Flips p a y Q → Found (passes p a) 0 (stored p) (strength p a) y Q
    flips-found Q f = record { rising = f.rising; few = f.few; passes = (passes-iff (xor y (flips Q))).1 f.multiple }

    pub nearest-sound : (Q : List ℕ) → nearest p a y ≡ some Q → Flips p a y Q
    nearest-sound Q e =
        found-flips Q (tried-sound (passes p a) 0 (stored p) (stored p) (strength p a) y Q (Nat.zero-add (stored p)) (sym (nearest-eq p a y) ∙ e))

    -- the flips are found exactly where there are such
    pub nearest-iff : (Q : List ℕ) → (nearest p a y ≡ some Q) ↔ Flips p a y Q
    nearest-iff Q = (nearest-sound Q, (λ f. go (nearest p a y) refl f))
      where
        go : (o : Option (List ℕ)) → nearest p a y ≡ o → Flips p a y Q → nearest p a y ≡ some Q
        go (some S) e f = e ∙ ap some (flips-once S Q (nearest-sound S e) f)
        go none e f =
            absurd (tried-none (passes p a) 0 (stored p) (stored p) (strength p a) y Q (Nat.zero-add (stored p)) (sym (nearest-eq p a y) ∙ e) (flips-found Q f))

    pub nearest-none : (nearest p a y ≡ none) ↔ ((c : ℕ) → ¬ Near p a y c)
    nearest-none = (
      (λ e c M. none-some (ones (stored p) (xor y c)) (sym e ∙ (nearest-iff (ones (stored p) (xor y c))).1 (near-flips c M))),
      (λ h. go (nearest p a y) refl h),
    )
      where
        go : (o : Option (List ℕ)) → nearest p a y ≡ o → ((c : ℕ) → ¬ Near p a y c) → nearest p a y ≡ none
        go none e h = e
        go (some Q) e h = absurd (h (xor y (flips Q)) (flips-near Q (nearest-sound Q e)))

    -- and the multiple by its flips
    pub nearest-word : (c : ℕ) → Near p a y c → nearest p a y ≡ some (ones (stored p) (xor y c))
    nearest-word c M = (nearest-iff (ones (stored p) (xor y c))).1 (near-flips c M)

    pub nearest-clean : Multiple (gen p a) y → nearest p a y ≡ some []
    nearest-clean m = (nearest-iff []).1 (record { rising = tt; few = zero-le; multiple = rw (flips-nil, xor_zero_r y) m })

-- ---- pages with places of sub-word i flipped
module _ (p : Parameters) (R : Rules p) (x : List ℕ) (h : IsPage p x) (i : ℕ) (li : i < p.m) where
  abbrev pub word : ℕ
  word = get_or (words_of p x) i 0

  pub word_low : word < 2 ^ stored p
  word_low = word_lt p R x h i li

  module _ (Q : List ℕ) (r : Rising 0 (stored p) Q) where
    abbrev words : List ℕ
    words = set (words_of p x) i (xor word (flips Q))

    flipped-eq : flipped p x i Q ≡ join (word_sizes p) words
    unfolding flipped
    flipped-eq = refl

    long : i < length (words_of p x)
    long = rw (words-many p x) li

    words-here : get_or words i 0 ≡ xor word (flips Q)
    words-here = get_or-set_same (words_of p x) i (xor word (flips Q)) 0 long

    words-else : (j : ℕ) → j ≢ i → get_or words j 0 ≡ get_or (words_of p x) j 0
    words-else j n = get_or-set_other (words_of p x) i j (xor word (flips Q)) 0 n

    words_are : IsWords p words
    words_are = record {
      many = size;
      below = at_all (λ c. c < 2 ^ stored p) words (λ j l. go j (rw size at l) (ℕ_discrete j i));
    }
      where
        size : length words ≡ p.m
        size = length-set (words_of p x) i (xor word (flips Q)) ∙ words-many p x

        go : (j : ℕ) → j < p.m → Dec (j ≡ i) → get_or words j 0 < 2 ^ stored p
        go j l (yes e) = rw (e, words-here) (xor_lt (stored p) word (flips Q) word_low (flips-lt 0 (stored p) Q r))
        go j l (no n) = rw (words-else j n) (word_lt p R x h j l)

    pub flipped-page : IsPage p (flipped p x i Q)
    flipped-page = rw flipped-eq (words-page p R words words_are)

    pub flipped-words : words_of p (flipped p x i Q) ≡ words
    flipped-words = ap (words_of p) flipped-eq ∙ words-join p R words words_are

    pub flipped-here : get_or (words_of p (flipped p x i Q)) i 0 ≡ xor word (flips Q)
    flipped-here = ap (λ (l : List ℕ). get_or l i 0) flipped-words ∙ words-here

    pub flipped-else : (j : ℕ) → j ≢ i → get_or (words_of p (flipped p x i Q)) j 0 ≡ get_or (words_of p x) j 0
    flipped-else j n = ap (λ (l : List ℕ). get_or l j 0) flipped-words ∙ words-else j n

    pub flipped-stay : (j : ℕ) → j < p.m → j ≢ i → part (sub_word_bytes p) j (flipped p x i Q) ≡ part (sub_word_bytes p) j x
    flipped-stay j l n =
        same-part p (flipped p x i Q) x j l flipped-page.bytes h.bytes (flipped-page.exact ∙ sym h.exact) (flipped-else j n)

    -- a page with these words is this page
    pub flipped-is : (z : List ℕ) → IsPage p z → get_or (words_of p z) i 0 ≡ xor word (flips Q)
        → ((j : ℕ) → j < p.m → j ≢ i → get_or (words_of p z) j 0 ≡ get_or (words_of p x) j 0) → flipped p x i Q ≡ z
    flipped-is z g e o =
        flipped-eq
        ∙ ap (join (word_sizes p)) (ext_get_or 0 words (words_of p z) (words_are.many ∙ sym (words-many p z)) (λ j l. go j (rw words_are.many at l) (ℕ_discrete j i)))
        ∙ join-words p R z g
      where
        go : (j : ℕ) → j < p.m → Dec (j ≡ i) → get_or words j 0 ≡ get_or (words_of p z) j 0
        go j l (yes w) = rw w (words-here ∙ sym e)
        go j l (no n) = words-else j n ∙ sym (o j l n)

  -- none flipped
  pub flipped-none : flipped p x i [] ≡ x
  flipped-none = flipped-is [] tt x h (sym (ap (xor word) flips-nil ∙ xor_zero_r word)) (λ j l n. refl)

-- ---- the list
pub places-eq : (k : ℕ) (Q : List ℕ) → place_list k Q ≡ Q ++ replicate (k - length Q) no_place
unfolding place_list
places-eq k Q = refl

pub places-long : (k : ℕ) (Q : List ℕ) → length Q ≤ k → length (place_list k Q) ≡ k
places-long k Q h =
    ap length (places-eq k Q) ∙ length-append Q (replicate (k - length Q) no_place)
    ∙ ap (λ (d : ℕ). length Q + d) (length-replicate (k - length Q) no_place) ∙ Nat.add-sub_of_le h

pub places-front : (k : ℕ) (Q : List ℕ) (j : ℕ) → j < length Q → get_or (place_list k Q) j 0 ≡ get_or Q j 0
places-front k Q j l = ap (λ (d : List ℕ). get_or d j 0) (places-eq k Q) ∙ get_or-append Q (replicate (k - length Q) no_place) 0 j l

pub places-rest : (k : ℕ) (Q : List ℕ) (j : ℕ) → length Q ≤ j → j < k → get_or (place_list k Q) j 0 ≡ no_place
places-rest k Q j g l =
    let e : length Q + (j - length Q) ≡ j = Nat.add-sub_of_le g in
    ap₂ (λ (d : List ℕ) (o : ℕ). get_or d o 0) (places-eq k Q) (sym e) ∙ get_or-append-add Q (replicate (k - length Q) no_place) (j - length Q) 0
    ∙ get_or-replicate (k - length Q) (j - length Q) no_place 0 (omega arith)

-- ---- the refusal
pub record Mendable (p : Parameters) (x : List ℕ) (i out wants : ℕ) : Type 0 where
  pub exact : length x ≡ page_bytes p
  pub clear : T (page_clear p x)
  pub sub_word : i < p.m
  pub room : out ≡ wants

module _ (size : ℕ) (p : Parameters) (x : List ℕ) (i out : ℕ) where
  abbrev wants : ℕ
  wants = size * strength p 0

  abbrev from-15 : ℕ
  from-15 = 15 when nowhere (mending p x i)

  pub mend-chain : mend_refusal size p x i out ≡ (word_refusal p x i p.m out wants or_else from-15)
  unfolding mend_refusal
  mend-chain = refl

  word-chain : word_refusal p x i p.m out wants ≡ (page_refusal p x or_else 9 when leb p.m i or_else 10 when not_exact out wants)
  unfolding word_refusal
  word-chain = refl

  word-links : word_refusal p x i p.m out wants
      ≡ (sheet_refusal p or_else 7 when not_exact (length x) (page_bytes p) or_else 8 when not (page_clear p x) or_else 9 when leb p.m i or_else 10 when not_exact out wants)
  word-links =
      let e = 9 when leb p.m i or_else 10 when not_exact out wants in
      word-chain ∙ ap (λ (k : ℕ). k or_else e) (page-links p x)
      ∙ or_assoc (sheet_refusal p) (7 when not_exact (length x) (page_bytes p) or_else 8 when not (page_clear p x)) e
      ∙ ap (λ (k : ℕ). sheet_refusal p or_else k) (or_assoc (7 when not_exact (length x) (page_bytes p)) (8 when not (page_clear p x)) e)

  pub mend-le : mend_refusal size p x i out ≤ last_refusal
  mend-le = rw mend-chain (or-le (word_refusal p x i p.m out wants) from-15 (word-le p x i p.m out wants) (when-le 15 (nowhere (mending p x i)) (lit≤ tt)))

  -- what the tests before 15 show
  word_none : Accepted p → Mendable p x i out wants → word_refusal p x i p.m out wants ≡ 0
  word_none A s =
      word-links ∙ or-second (sheet_refusal p) _ A
      ∙ or-second (7 when not_exact (length x) (page_bytes p)) _ (exact_none 7 (length x) (page_bytes p) s.exact)
      ∙ or-second (8 when not (page_clear p x)) _ (off 8 (page_clear p x) s.clear)
      ∙ or-second (9 when leb p.m i) _ (off' 9 (leb p.m i) (not_T (leb p.m i) (λ t. Nat.not-le_of_lt s.sub_word (leb→le p.m i t))))
      ∙ exact_none 10 out wants s.room

  pub word-mendable : word_refusal p x i p.m out wants ≡ 0 → Accepted p × Mendable p x i out wants
  word-mendable z =
      let a = or-none (sheet_refusal p) _ (sym word-links ∙ z) in
      let c = or-none (7 when not_exact (length x) (page_bytes p)) _ a.1 in
      let d = or-none (8 when not (page_clear p x)) _ c.1 in
      let e = or-none (9 when leb p.m i) (10 when not_exact out wants) d.1 in (
        a.0,
        record {
          exact = exact-of 6 (length x) (page_bytes p) c.0;
          clear = unless 7 (page_clear p x) d.0;
          sub_word = nleb→lt p.m i (last 8 (leb p.m i) e.0);
          room = exact-of 9 out wants e.1;
        },
      )

  pub mend-left : Accepted p → Mendable p x i out wants → mend_refusal size p x i out ≡ from-15
  mend-left A s = mend-chain ∙ or-second (word_refusal p x i p.m out wants) from-15 (word_none A s)

  mend-links : mend_refusal size p x i out
      ≡ (sheet_refusal p or_else 7 when not_exact (length x) (page_bytes p) or_else 8 when not (page_clear p x) or_else 9 when leb p.m i
      or_else 10 when not_exact out wants or_else from-15)
  mend-links =
      let seven = 7 when not_exact (length x) (page_bytes p) in
      let eight = 8 when not (page_clear p x) in
      let nine = 9 when leb p.m i in
      let ten = 10 when not_exact out wants in
      mend-chain ∙ ap (λ (k : ℕ). k or_else from-15) word-links
      ∙ or_assoc (sheet_refusal p) (seven or_else eight or_else nine or_else ten) from-15
      ∙ ap (λ (k : ℕ). sheet_refusal p or_else k) (or_assoc seven (eight or_else nine or_else ten) from-15
      ∙ ap (λ (k : ℕ). seven or_else k) (or_assoc eight (nine or_else ten) from-15 ∙ ap (λ (k : ℕ). eight or_else k) (or_assoc nine ten from-15)))

  -- what no refusal shows, and 15
  pub mend-none : mend_refusal size p x i out ≡ 0 → Mendable p x i out wants × ((Q : List ℕ) × (mending p x i ≡ some Q))
  mend-none z =
      let a = or-none (word_refusal p x i p.m out wants) from-15 (sym mend-chain ∙ z) in
      ((word-mendable a.0).1, somewhere (mending p x i) (last 14 (nowhere (mending p x i)) a.1))

  pub mend-15 : Accepted p → mend_refusal size p x i out ≡ 15 → Mendable p x i out wants × (mending p x i ≡ none)
  mend-15 A z =
      let a = sym (or-second (sheet_refusal p) _ A) ∙ sym mend-links ∙ z in
      let c = past 6 (not_exact (length x) (page_bytes p)) _ 15 (lit< tt) a in
      let d = past 7 (not (page_clear p x)) _ 15 (lit< tt) c.1 in
      let e = past 8 (leb p.m i) _ 15 (lit< tt) d.1 in
      let f = past 9 (not_exact out wants) from-15 15 (lit< tt) e.1 in (
        record {
          exact = exact-of 6 (length x) (page_bytes p) c.0;
          clear = unless 7 (page_clear p x) d.0;
          sub_word = nleb→lt p.m i (last 8 (leb p.m i) e.0);
          room = exact-of 9 out wants f.0;
        },
        is-nowhere (mending p x i) (given 14 (nowhere (mending p x i)) f.1),
      )

pub mending-eq : (p : Parameters) (x : List ℕ) (i : ℕ) → mending p x i ≡ nearest p 0 (get_or (words_of p x) i 0)
unfolding mending
mending-eq p x i = refl
