-- How mending through the nested words ends, on words: by the numbers b_k of broken words after the first pass and k rounds.
--   round-idle       a round that leaves as many broken as it met changes nothing
--   NoneComes p ys P the change request's 17: v < b_0, or a round leaves as many, or some b_k is 0 and its words are P, no member's
use Rattle.std.specs.Prelude.{◌≡◌, refl, ◌⊎◌, List, [], ◌∷◌, ℕ, zero, suc, ◌≤◌, ◌<◌, length}
use Rattle.std.proofs.Common.{sym, ap, ap₂, ◌∙◌, inl, inr, arith}
use Rattle.std.proofs.Math.Option.{Option, none, some}
use Rattle.std.proofs.Math.Nat as Nat
use Rattle.std.proofs.Math.Decide.{dec_le}
use Rattle.std.proofs.lemmas.List.{set-get_or}
use Rattle.code.specs.declared.Parameters.{Parameters}
use Rattle.code.proofs.Mend.{none-some}
use Rattle.code.specs.Nest.{Mem, Work, after, after-suc, after-zero, end, found, mend_all, mend_all-cons, mend_all-nil, mend_page, mend_page-eq, round}
use Rattle.code.specs.Nest.{round-broken, round-words, rounds, start, unfound, unfound-cons, unfound-nil}
use Rattle.code.specs.Parameters.{Accepted}
use Rattle.code.proofs.Recovery.{rounds-end, rounds-many, rounds-next, rounds-stop}
use Rattle.code.proofs.Rounds.{mend_all-agree, round-le, unfound-agree, unfound-fewer}

-- ---- nothing found
abbrev nothing : ℕ → Option (List ℕ)
nothing i = none

mend_all-nothing : (js ws : List ℕ) → mend_all nothing js ws ≡ ws
mend_all-nothing [] ws = mend_all-nil nothing ws
mend_all-nothing (i ∷ js) ws =
    mend_all-cons nothing i js ws ∙ ap (mend_all nothing js) (set-get_or ws i 0) ∙ mend_all-nothing js ws

unfound-nothing : (js : List ℕ) → unfound nothing js ≡ js
unfound-nothing [] = unfound-nil nothing
unfound-nothing (i ∷ js) = unfound-cons nothing i js ∙ ap (λ (l : List ℕ). i ∷ l) (unfound-nothing js)

none_found : (f : ℕ → Option (List ℕ)) (js : List ℕ) → length js ≤ length (unfound f js) → (i : ℕ) → Mem i js → f i ≡ none
none_found f js h i m = go (f i) refl
  where
    go : (o : Option (List ℕ)) → f i ≡ o → f i ≡ none
    go none e = e
    go (some R) e = absurd (Nat.not-le_of_lt (unfound-fewer f js i R m e) h)

pub round-idle : (p : Parameters) (W : Work) → length W.broken ≤ length (round p W).broken → round p W ≡ W
round-idle p W h =
    let n = none_found (found p W) W.broken (rw (round-broken p W) at h) in
    ap₂ (λ (ws ks : List ℕ). let w : Work = record { words = ws; broken = ks } in w)
    (round-words p W ∙ mend_all-agree (found p W) nothing W.broken W.words n ∙ mend_all-nothing W.broken W.words)
    (round-broken p W ∙ unfound-agree (found p W) nothing W.broken n ∙ unfound-nothing W.broken)

module _ (p : Parameters) (A : Accepted p) (ys : List ℕ) where
  abbrev left : ℕ → ℕ
  left k = length (after p ys k).broken

  pub left-falls : (k : ℕ) → left (suc k) ≤ left k
  left-falls k = rw (after-suc p ys k) (round-le p A (after p ys k))

  pub idle : (k : ℕ) → left k ≤ left (suc k) → after p ys (suc k) ≡ after p ys k
  idle k h = after-suc p ys k ∙ round-idle p (after p ys k) (rw (after-suc p ys k) at h)

  left-most : left 0 ≤ p.v → (k : ℕ) → left k ≤ p.v
  left-most h zero = h
  left-most h (suc k) = Nat.le_trans (left-falls k) (left-most h k)

  -- ---- no round changes what comes
  goes_on : (k : ℕ) → left k ≤ p.v → rounds p p.v (after p ys k) ≡ rounds p p.v (after p ys (suc k))
  goes_on k b = go (dec_le (left k) (left (suc k)))
    where
      go : Dec (left k ≤ left (suc k)) → rounds p p.v (after p ys k) ≡ rounds p p.v (after p ys (suc k))
      go (yes h) = sym (ap (rounds p p.v) (idle k h))
      go (no n) =
          let d : length (round p (after p ys k)).broken < left k = rw (after-suc p ys k) at (Nat.lt_of_not-le n) in
          rounds-next p A (after p ys k) (omega arith) b d ∙ ap (rounds p p.v) (sym (after-suc p ys k))

  comes : left 0 ≤ p.v → (k : ℕ) → mend_page p ys ≡ rounds p p.v (after p ys k)
  comes h zero = mend_page-eq p ys ∙ ap (rounds p p.v) (sym (after-zero p ys))
  comes h (suc k) = comes h k ∙ goes_on k (left-most h k)

  -- ---- three ends
  pub too_many : p.v < left 0 → mend_page p ys ≡ none
  too_many h = mend_page-eq p ys ∙ rounds-many p A p.v (start p ys) (rw (after-zero p ys) at h)

  pub in-the-end : left 0 ≤ p.v → (k : ℕ) → left k ≡ 0 → mend_page p ys ≡ end p (after p ys k).words
  in-the-end h k e = comes h k ∙ rounds-end p A (after p ys k) e

  pub stuck : left 0 ≤ p.v → (k : ℕ) → 0 < left k → left (suc k) ≡ left k → mend_page p ys ≡ none
  stuck h k o e =
      comes h k ∙ rounds-stop p A (after p ys k) o (left-most h k) (rw (after-suc p ys k) at (Nat.le_of_eq (sym e)))

  -- ---- what comes, and when nothing does
  -- some round finds none broken any more, or some leaves as many
  abbrev Rests : Type 0
  Rests = (k : ℕ) × (left k ≡ 0)

  abbrev Sticks : Type 0
  Sticks = (k : ℕ) × (0 < left k) × (left (suc k) ≡ left k)

  settles : (f k : ℕ) → left k ≤ f → Rests ⊎ Sticks
  settles zero k h = inl (k, omega arith)
  settles (suc f) k h = go (dec_le (left k) 0) (dec_le (left k) (left (suc k))) (λ b. settles f (suc k) b)
    where
      go : Dec (left k ≤ 0) → Dec (left k ≤ left (suc k)) → (left (suc k) ≤ f → Rests ⊎ Sticks) → Rests ⊎ Sticks
      go (yes z) d ih = inl (k, omega arith)
      go (no n) (yes b) ih = inr (k, omega arith, omega (arith, left-falls k))
      go (no n) (no d) ih = ih (omega arith)

  settled : Rests ⊎ Sticks
  settled = settles (left 0) 0 (Nat.le_refl (left 0))

  pub mend-some : (cs : List ℕ) → mend_page p ys ≡ some cs → (left 0 ≤ p.v) × ((k : ℕ) × (left k ≡ 0) × (end p (after p ys k).words ≡ some cs))
  mend-some cs e = go (dec_le (left 0) p.v) settled
    where
      go : Dec (left 0 ≤ p.v) → Rests ⊎ Sticks → (left 0 ≤ p.v) × ((k : ℕ) × (left k ≡ 0) × (end p (after p ys k).words ≡ some cs))
      go (no n) s = absurd (none-some cs (sym (too_many (Nat.lt_of_not-le n)) ∙ e))
      go (yes h) (inl s) = (h, (s.0, s.1, sym (in-the-end h s.0 s.1) ∙ e))
      go (yes h) (inr s) = absurd (none-some cs (sym (stuck h s.0 s.1 s.2) ∙ e))

  abbrev pub NoneComes : (List ℕ → Type 0) → Type 0
  NoneComes P =
      (p.v < left 0)
      ⊎ (((k : ℕ) × (0 < left k) × (left k ≤ p.v) × (left (suc k) ≡ left k)) ⊎ ((k : ℕ) × (left k ≡ 0) × P (after p ys k).words))

  pub mend-none : mend_page p ys ≡ none → NoneComes (λ ws. end p ws ≡ none)
  mend-none e = go (dec_le (left 0) p.v) settled
    where
      go : Dec (left 0 ≤ p.v) → Rests ⊎ Sticks → NoneComes (λ ws. end p ws ≡ none)
      go (no n) s = inl (Nat.lt_of_not-le n)
      go (yes h) (inl s) = inr (inr (s.0, s.1, sym (in-the-end h s.0 s.1) ∙ e))
      go (yes h) (inr s) = inr (inl (s.0, s.1, left-most h s.0, s.2))

  pub none-mends : NoneComes (λ ws. end p ws ≡ none) → mend_page p ys ≡ none
  none-mends c = go (dec_le (left 0) p.v) c
    where
      go : Dec (left 0 ≤ p.v) → NoneComes (λ ws. end p ws ≡ none) → mend_page p ys ≡ none
      go (no n) c = too_many (Nat.lt_of_not-le n)
      go (yes h) (inl b) = absurd (Nat.not-le_of_lt b h)
      go (yes h) (inr (inl s)) = stuck h s.0 s.1 s.3
      go (yes h) (inr (inr s)) = in-the-end h s.0 s.1 ∙ s.2
