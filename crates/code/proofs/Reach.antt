-- What rounds reach, on words: a static condition on the flips by which the member comes back.
--   flipped p ys cs i        the flips of word i
--   Reaches p ys cs          for c from 1 to v + 1 fewer than c words have more than t_(v+1-c) flips, and no error of more than t_a, at level 0
--                            or at one that a round may have, is near a multiple of g_a
--   reach-hopeful            then the change request's supposition holds
use Rattle.std.specs.Prelude.{◌≡◌, refl, Bool, true, false, cond, ◌⊎◌, List, [], ◌∷◌, ℕ, zero, suc, ◌+◌, ◌-◌, ◌*◌, ◌≤◌, ◌<◌, T, ltb, length, get_or}
use Rattle.std.proofs.Common.{sym, ap, ◌∙◌, inl, inr, zero-le, arith, lt→ltb, ltb→lt, ltb-false}
use Rattle.std.proofs.Math.Nat as Nat
use Rattle.std.proofs.Math.Decide.{dec_le}
use Rattle.polynomial.specs.Division.{xor_lt}
use Rattle.polynomial.specs.Multiple.{Multiple}
use Rattle.polynomial.specs.Xor.{xor, xor-cancel, xor_self, xors}
use Rattle.field.specs.Bch.{weight}
use Rattle.field.specs.Elements.{syndrome, syndrome-xor}
use Rattle.field.specs.Flips.{Rising, flips, flips-lt, flips-ones, length-ones, ones, ones-rising, weight-flips}
use Rattle.code.specs.declared.Parameters.{Parameters}
use Rattle.code.specs.Accepted.{Rules}
use Rattle.code.proofs.Accepted.{accepted, lawful}
use Rattle.code.specs.Code.{Flips, Near, gen}
use Rattle.code.proofs.Distance.{Passing}
use Rattle.code.proofs.Ending.{left-falls}
use Rattle.code.specs.Lists.{count_below}
use Rattle.code.proofs.Mend.{flips-near, near-flips}
use Rattle.code.specs.Nest.{ErrorBy, Mem, Work, after, after-suc, after-zero, error_sums, round, round_level, start}
use Rattle.code.specs.Pages.{IsWords}
use Rattle.code.specs.Parameters.{Accepted, stored, strength}
use Rattle.code.proofs.Passes.{pass-mends, pass-stays, round-leaves, round-mends, round-others}
use Rattle.code.proofs.Places.{add_below-none, add_below-suc, add_below-zero, count_below-eq}
use Rattle.code.proofs.Recovery.{Hopeful, after-stays, after-work, heavy, start-few, word-multiple, word-near}
use Rattle.code.specs.Rounds.{IsWork}
use Rattle.code.proofs.Rounds.{Sound, dec_mem, error-is, mem-from, mem-some, multiple-syndromes, round-level, words-low, xor_low}

-- ---- counting
count-suc : (n : ℕ) (P : ℕ → Bool) → count_below (suc n) P ≡ count_below n P + cond (P n) 1 0
count-suc n P = count_below-eq (suc n) P ∙ add_below-suc n (λ k. cond (P k) 1 0) ∙ ap (λ (c : ℕ). c + cond (P n) 1 0) (sym (count_below-eq n P))

count-more : (P : ℕ → Bool) (c d : ℕ) → count_below c P ≤ count_below (c + d) P
count-more P c zero = rw (Nat.add-zero c) (Nat.le_refl (count_below c P))
count-more P c (suc d) = rw (Nat.add-suc c d) (omega (arith, count-suc (c + d) P, count-more P c d))

count-up : (P : ℕ → Bool) (c n : ℕ) → c ≤ n → count_below c P ≤ count_below n P
count-up P c n h = rw (Nat.add-sub_of_le h) at (count-more P c (n - c))

-- rising numbers that all pass are no more than there are
count-rising : (P : ℕ → Bool) (c n : ℕ) (ks : List ℕ) → c ≤ n → Rising c n ks → ((i : ℕ) → Mem i ks → T (P i)) → count_below c P + length ks ≤ count_below n P
count-rising P c n [] l r h = rw (Nat.add-zero (count_below c P)) (count-up P c n l)
count-rising P c n (k ∷ ks) l r h =
    omega (arith, counts (P k) (h k (inl refl)), count-suc k P, count-up P c k r.0, count-rising P (suc k) n ks r.1 r.2 (λ i m. h i (inr m)))
  where
    counts : (b : Bool) → T b → 1 ≤ cond b 1 0
    counts true t = Nat.le_refl 1
    counts false t = absurd t

-- what passes P passes Q: no more pass
count-le : (n : ℕ) (P Q : ℕ → Bool) → ((i : ℕ) → i < n → T (P i) → T (Q i)) → count_below n P ≤ count_below n Q
count-le zero P Q h = rw (count_below-eq 0 P, add_below-zero (λ k. cond (P k) 1 0)) zero-le
count-le (suc n) P Q h = omega (arith, count-suc n P, count-suc n Q, count-le n P Q (λ i l. h i (Nat.le_step l)), one (P n) (Q n) (h n (Nat.le_refl (suc n))))
  where
    one : (a b : Bool) → (T a → T b) → cond a 1 0 ≤ cond b 1 0
    one true true t = Nat.le_refl 1
    one true false t = absurd (t tt)
    one false b t = zero-le

-- more numbers than pass: one does not
abbrev Miss : (ℕ → Bool) → List ℕ → Type 0
Miss P ks = (i : ℕ) × Mem i ks × (P i ≡ false)

passes-or : (P : ℕ → Bool) (ks : List ℕ) → Miss P ks ⊎ ((i : ℕ) → Mem i ks → T (P i))
passes-or P [] = inr (λ i m. absurd m)
passes-or P (k ∷ ks) = go (P k) refl (passes-or P ks)
  where
    go : (b : Bool) → P k ≡ b → Miss P ks ⊎ ((i : ℕ) → Mem i ks → T (P i)) → Miss P (k ∷ ks) ⊎ ((i : ℕ) → Mem i (k ∷ ks) → T (P i))
    go false e s = inl (k, inl refl, e)
    go true e (inl s) = inl (s.0, inr s.1, s.2)
    go true e (inr h) = inr by
      where
        by : (i : ℕ) → Mem i (k ∷ ks) → T (P i)
        by i (inl q) = rw (← q, e) tt
        by i (inr m) = h i m

pub pigeon : (P : ℕ → Bool) (n : ℕ) (ks : List ℕ) → Rising 0 n ks → count_below n P < length ks → Miss P ks
pigeon P n ks r h = go (passes-or P ks)
  where
    go : Miss P ks ⊎ ((i : ℕ) → Mem i ks → T (P i)) → Miss P ks
    go (inl s) = s
    go (inr f) = absurd (Nat.not-le_of_lt h (Nat.le_trans (Nat.le-add_left (length ks) (count_below 0 P)) (count-rising P 0 n ks zero-le r f)))

-- a sum of multiples is one
multiples : (p : Parameters) (R : Rules p) (a c d : ℕ) → a ≤ p.v → Multiple (gen p a) c → Multiple (gen p a) d → Multiple (gen p a) (xor c d)
multiples p R a c d l m n =
    (multiple-syndromes p R a l (xor c d)).1
    (λ j o b. syndrome-xor p.q R.known c d j
    ∙ rw ((multiple-syndromes p R a l c).0 m j o b, (multiple-syndromes p R a l d).0 n j o b) (xor_self 0))

-- ---- within reach
abbrev pub flipped : List ℕ → List ℕ → ℕ → ℕ
flipped ys cs i = weight (xor (get_or ys i 0) (get_or cs i 0))

pub record Reaches (p : Parameters) (ys cs : List ℕ) : Type 0 where
  pub few : (c : ℕ) → 1 ≤ c → c ≤ p.v + 1 → count_below p.m (λ i. ltb (strength p (p.v + 1 - c)) (flipped ys cs i)) < c
  pub apart : (a i c : ℕ) → a ≤ p.v → (a ≡ 0) ⊎ (p.v < a + heavy p ys cs) → i < p.m → strength p a < flipped ys cs i
      → ¬ Near p a (xor (get_or ys i 0) (get_or cs i 0)) c

module _ (p : Parameters) (A : Accepted p) (ys cs : List ℕ) (w : IsWords p ys) (C : IsWords p cs) (M : Passing p cs) (H : Reaches p ys cs) where
  R : Rules p
  R = accepted p A

  abbrev fault : ℕ → ℕ
  fault i = xor (get_or ys i 0) (get_or cs i 0)

  many : heavy p ys cs ≤ p.v
  many = omega (arith, rw (Nat.sub_self (p.v + 1)) at (H.few (p.v + 1) (omega arith) (Nat.le_refl (p.v + 1))))

  -- the broken words are never more than those with more than t_0 flips
  left-few : (k : ℕ) → length (after p ys k).broken ≤ heavy p ys cs
  left-few zero = rw (after-zero p ys) (start-few p A ys cs w C M)
  left-few (suc k) = Nat.le_trans (left-falls p A ys k) (left-few k)

  -- ---- no single mending is wrong
  -- the first pass finds nothing for a word with more than t_0 flips
  pass-none : (i : ℕ) → i < p.m → strength p 0 < weight (fault i) → (Q : List ℕ) → ¬ Flips p 0 (get_or ys i 0) Q
  pass-none i l h Q f =
      let y = get_or ys i 0 in
      let c = get_or cs i 0 in
      let n = flips-near p R 0 zero-le y (words-low p ys w i) Q f in
      H.apart 0 i (xor c (xor y (flips Q))) zero-le (inl refl) l h (record {
        stores = xor_lt (stored p) c (xor y (flips Q)) (words-low p cs C i) n.stores;
        multiple = multiples p R 0 c (xor y (flips Q)) zero-le (word-multiple p A cs C M i l) n.multiple;
        near = rw (between y c (xor y (flips Q))) n.near;
      })
    where
      between : (y c d : ℕ) → xor (xor y c) (xor c d) ≡ xor y d
      between y c d = simp xors

  -- a word that its own flips make that of cs
  made : (i : ℕ) → xor (get_or ys i 0) (flips (ones (stored p) (fault i))) ≡ get_or cs i 0
  made i = ap (xor (get_or ys i 0)) (flips-ones (stored p) (fault i) (xor_low p ys cs w C i)) ∙ xor-cancel (get_or ys i 0) (get_or cs i 0)

  start-sound : Sound p (start p ys) cs
  start-sound = record { is = λ i l n. go i l n (dec_le (weight (fault i)) (strength p 0)) }
    where
      go : (i : ℕ) → i < p.m → ¬ Mem i (start p ys).broken → Dec (weight (fault i) ≤ strength p 0) → get_or (start p ys).words i 0 ≡ get_or cs i 0
      go i l n (yes h) =
          let f = near-flips p R 0 zero-le (get_or ys i 0) (words-low p ys w i) (get_or cs i 0) (word-near p A ys cs C M i l h) in
          (pass-mends p A ys w i l (ones (stored p) (fault i)) f).0 ∙ made i
      go i l n (no h) = absurd (n (pass-stays p A ys w i l (pass-none i l (Nat.lt_of_not-le h))).1)

  -- a round on such a page finds the errors of at most t_a places, and nothing else
  module _ (k : ℕ) (s : Sound p (after p ys k) cs) where
    abbrev W : Work
    W = after p ys k

    abbrev b : ℕ
    b = length W.broken

    abbrev a : ℕ
    a = round_level p b

    works : IsWork p W
    works = after-work p A ys w k

    left-v : b ≤ p.v
    left-v = Nat.le_trans (left-few k) many

    module _ (i : ℕ) (m : Mem i W.broken) where
      il : i < p.m
      il = (mem-from 0 p.m W.broken i works.rising m).1

      is_y : get_or W.words i 0 ≡ get_or ys i 0
      is_y = after-stays p A ys w k i m

      one : 1 ≤ b
      one = mem-some i W.broken m

      known : (j : ℕ) → 0 < j → j ≤ 2 * strength p a → error_sums p W i j ≡ syndrome p.q (fault i) j
      known j o t = error-is p A cs C M W works s i m one left-v j o t ∙ ap (λ (y : ℕ). syndrome p.q (xor y (get_or cs i 0)) j) is_y

      is-error : weight (fault i) ≤ strength p a → ErrorBy p a (error_sums p W i) (ones (stored p) (fault i))
      is-error h = record {
        rising = ones-rising (stored p) (fault i);
        few = rw (length-ones (stored p) (fault i) (xor_low p ys cs w C i)) h;
        sums = λ j o t. ap (λ (c : ℕ). syndrome p.q c j) (flips-ones (stored p) (fault i) (xor_low p ys cs w C i)) ∙ sym (known j o t);
      }

      no-error : strength p a < weight (fault i) → (Q : List ℕ) → ¬ ErrorBy p a (error_sums p W i) Q
      no-error h Q E =
          H.apart a i (xor (fault i) (flips Q)) (round-level p A b one) (inr (omega (arith, left-few k, left-v, one))) il h (record {
            stores = xor_lt (stored p) (fault i) (flips Q) (xor_low p ys cs w C i) (flips-lt 0 (stored p) Q E.rising);
            multiple = (multiple-syndromes p R a (round-level p A b one) (xor (fault i) (flips Q))).1
                (λ j o t. syndrome-xor p.q R.known (fault i) (flips Q) j
                ∙ rw (E.sums j o t ∙ known j o t) (xor_self (syndrome p.q (fault i) j)));
            near = rw (xor-cancel (fault i) (flips Q)) (Nat.le_trans (weight-flips Q) E.few);
          })

      mended : ¬ Mem i (round p W).broken → get_or (round p W).words i 0 ≡ get_or cs i 0
      mended n = go (dec_le (weight (fault i)) (strength p a))
        where
          go : Dec (weight (fault i) ≤ strength p a) → get_or (round p W).words i 0 ≡ get_or cs i 0
          go (yes h) =
              (round-mends p A W works i m (ones (stored p) (fault i)) (is-error h)).0
              ∙ ap (λ (y : ℕ). xor y (flips (ones (stored p) (fault i)))) is_y ∙ made i
          go (no h) = absurd (n (round-leaves p A W works i m (no-error (Nat.lt_of_not-le h))).1)

    round-sound : Sound p (round p W) cs
    round-sound = record { is = λ i l n. go i l n (dec_mem i W.broken) }
      where
        go : (i : ℕ) → i < p.m → ¬ Mem i (round p W).broken → Dec (Mem i W.broken) → get_or (round p W).words i 0 ≡ get_or cs i 0
        go i l n (yes m) = mended i m n
        go i l n (no d) = (round-others p A W works i d).0 ∙ s.is i l d

    -- some broken word has at most t_a flips
    lighter : 0 < b → (i : ℕ) × Mem i W.broken × (weight (fault i) ≤ strength p a)
    lighter o =
        let P : ℕ → Bool = λ i. ltb (strength p a) (weight (fault i)) in
        let level : p.v + 1 - b ≡ a = omega (arith, left-v) in
        let few : count_below p.m P < b = rw level at (H.few b o (omega (arith, left-v))) in
        let x = pigeon P p.m W.broken works.rising few in
        (x.0, x.1, ltb-false (strength p a) (weight (fault x.0)) x.2)

  all_sound : (k : ℕ) → Sound p (after p ys k) cs
  all_sound zero = rw (after-zero p ys) start-sound
  all_sound (suc k) = rw (after-suc p ys k) (round-sound k (all_sound k))

  -- THE SUPPOSITION HOLDS
  pub reach-hopeful : Hopeful p ys cs
  reach-hopeful = record { few = many; right = all_sound; light = λ k o. lighter k (all_sound k) o }

-- ---- where one round is enough: b words, b at most v, with more than t_0 flips and at most t_(v-b+1)
module _ (p : Parameters) (A : Accepted p) (ys cs : List ℕ) (w : IsWords p ys) (C : IsWords p cs) (M : Passing p cs) (few : heavy p ys cs ≤ p.v)
    (light : (i : ℕ) → i < p.m → strength p 0 < flipped ys cs i → flipped ys cs i ≤ strength p (p.v - heavy p ys cs + 1))
    (apart : (i c : ℕ) → i < p.m → strength p 0 < flipped ys cs i → ¬ Near p 0 (get_or ys i 0) c) where
  Rl : Rules p
  Rl = accepted p A

  abbrev h₀ : ℕ
  h₀ = heavy p ys cs

  -- no word has more flips than a level reaches that is as high as the round's
  at_most : (a i : ℕ) → a ≤ p.v → p.v < a + h₀ → i < p.m → flipped ys cs i ≤ strength p a
  at_most a i l h im = go (dec_le (flipped ys cs i) (strength p 0))
    where
      go : Dec (flipped ys cs i ≤ strength p 0) → flipped ys cs i ≤ strength p a
      go (yes t) = Nat.le_trans t ((lawful p Rl).rising 0 a zero-le l)
      go (no n) = Nat.le_trans (light i im (Nat.lt_of_not-le n)) ((lawful p Rl).rising (p.v - h₀ + 1) a (omega arith) l)

  reach_few : (c : ℕ) → 1 ≤ c → c ≤ p.v + 1 → count_below p.m (λ i. ltb (strength p (p.v + 1 - c)) (flipped ys cs i)) < c
  reach_few c o b = go (dec_le c h₀)
    where
      P : ℕ → Bool
      P i = ltb (strength p (p.v + 1 - c)) (flipped ys cs i)

      go : Dec (c ≤ h₀) → count_below p.m P < c
      go (yes l) =
          Nat.lt_of_le_of_lt
          (count-le p.m P (λ i. false) (λ i im t. Nat.not-le_of_lt (ltb→lt (strength p (p.v + 1 - c)) (flipped ys cs i) t) (at_most (p.v + 1 - c) i (omega arith) (omega arith) im)))
          (rw (count_below-eq p.m (λ i. false), add_below-none p.m (λ i. 0) (λ i im. refl)) o)
      go (no n) =
          Nat.lt_of_le_of_lt
          (count-le p.m P (λ i. ltb (strength p 0) (flipped ys cs i)) (λ i im t. lt→ltb (strength p 0) (flipped ys cs i)
          (Nat.lt_of_le_of_lt ((lawful p Rl).rising 0 (p.v + 1 - c) zero-le (omega arith)) (ltb→lt (strength p (p.v + 1 - c)) (flipped ys cs i) t))))
          (Nat.lt_of_not-le n)

  reach-apart : (a i c : ℕ) → a ≤ p.v → (a ≡ 0) ⊎ (p.v < a + h₀) → i < p.m → strength p a < flipped ys cs i → ¬ Near p a (xor (get_or ys i 0) (get_or cs i 0)) c
  reach-apart a i c l (inl e) im h N = at_zero (rw e at h) (rw e at N)
    where
      between : (y d c : ℕ) → xor y (xor d c) ≡ xor (xor y d) c
      between y d c = simp xors

      at_zero : strength p 0 < flipped ys cs i → Near p 0 (xor (get_or ys i 0) (get_or cs i 0)) c → ⊥
      at_zero h N = apart i (xor (get_or cs i 0) c) im h (record {
        stores = xor_lt (stored p) (get_or cs i 0) c (words-low p cs C i) N.stores;
        multiple = multiples p Rl 0 (get_or cs i 0) c zero-le (word-multiple p A cs C M i im) N.multiple;
        near = rw (between (get_or ys i 0) (get_or cs i 0) c) N.near;
      })
  reach-apart a i c l (inr b) im h N = Nat.not-le_of_lt h (at_most a i l b im)

  pub one-reaches : Reaches p ys cs
  one-reaches = record { few = reach_few; apart = reach-apart }
