-- A round as a whole: what is found by the rows of the page as it stood when the round began is what the definition finds.
use Rattle.std.specs.Prelude.{◌≡◌, refl, List, [], ◌∷◌, ℕ, zero, suc, ◌+◌, ◌*◌, ◌≤◌, ◌<◌, length, get_or, replicate}
use Rattle.std.proofs.Common.{sym, ap, ◌∙◌, inl, inr, arith, pow_pos}
use Rattle.std.proofs.Math.Nat as Nat
use Rattle.field.specs.Elements.{syndrome}
use Rattle.field.specs.Flips.{Rising}
use Rattle.field.specs.Odd.{from_odd}
use Rattle.code.specs.declared.Parameters.{Parameters}
use Rattle.code.specs.Accepted.{Rules}
use Rattle.code.proofs.Accepted.{accepted, rising}
use Rattle.code.specs.Code.{nested}
use Rattle.code.specs.Nest.{Mem, Work, error_of, error_syndrome, error_syndrome-eq, found, found-eq, others, round, round-broken, round-words, round_level}
use Rattle.code.proofs.Pages.{zeros-at}
use Rattle.code.specs.Parameters.{Accepted, strength}
use Rattle.code.proofs.Rounds.{error-agree, error-odd, mem-from, mend_all-agree, others_apart, others-fewer, round-level, unfound-agree}
use Rattle.massey.specs.Entries.{Below}
use Rattle.mend.specs.Settled.{Held, Passed, pass-last}
use Rattle.unmix.specs.Nodes.{unmixed_at, weight_at-eq}
use Rattle.unmix.specs.Weights.{weight-agree}
use Rattle.rounds.specs.Found.{found_by}
use Rattle.rounds.specs.Rows.{Sums}

pub mem-at : (l : List ℕ) (c : ℕ) → c < length l → Mem (get_or l c 0) l
mem-at [] c h = absurd (Nat.not-suc-le-zero h)
mem-at (k ∷ l) zero h = inl refl
mem-at (k ∷ l) (suc c) h = inr (mem-at l c (Nat.le_of_suc-le-suc h))

module _ (p : Parameters) (A : Accepted p) (W : Work) (few : length W.broken ≤ p.v) (some : 1 ≤ length W.broken) (r : Rising 0 p.m W.broken)
    (a : ℕ) (e : a ≡ round_level p (length W.broken)) (rows : List ℕ) (S : Sums p a W.words (length W.broken) rows) where
  R : Rules p
  R = accepted p A

  pub level : a ≤ p.v
  level = rw e (round-level p A (length W.broken) some)

  -- the rows hold the sums that the definition asks for
  unmixed-error : (i : ℕ) → Mem i W.broken → (k : ℕ) → k < strength p a
      → unmixed_at p.q rows (others i W.broken) i k ≡ error_syndrome p W.words (others i W.broken) i (2 * k + 1)
  unmixed-error i m k h =
      weight-agree p.q (2 * k + 1) i (others i W.broken) (λ l. get_or rows (64 * l + k) 0) (λ l. syndrome p.q (nested p l W.words) (2 * k + 1))
      (λ l b. S.is l k (omega (arith, others-fewer i 0 p.m W.broken r m)) h)
      ∙ weight_at-eq p.q (2 * k + 1) i (others i W.broken) (λ l. syndrome p.q (nested p l W.words) (2 * k + 1))
      ∙ sym (error_syndrome-eq p W.words (others i W.broken) i (2 * k + 1))

  pub found-same : (i : ℕ) → Mem i W.broken → found_by p a rows W.broken i ≡ found p W i
  found-same i m =
      error-agree p R a level (from_odd p.q (unmixed_at p.q rows (others i W.broken) i)) (error_syndrome p W.words (others i W.broken) i)
      (error-odd p A W.words i (mem-from 0 p.m W.broken i r m).1 (others i W.broken) (others_apart i 0 p.m W.broken r) (strength p a)
      (rising p R a p.v level (Nat.le_refl p.v)) (unmixed_at p.q rows (others i W.broken) i) (unmixed-error i m))
      ∙ ap (λ (b : ℕ). error_of p b (error_syndrome p W.words (others i W.broken) i)) e ∙ sym (found-eq p W i)

  -- all of them done
  pub round-held : (y l : List ℕ) (c b : ℕ) → Passed p (found_by p a rows W.broken) W.broken W.words y l c b → length W.broken ≤ c → c ≤ 8 → Held p (round p W) y l b
  round-held y l c b P h k =
      pass-last p (found_by p a rows W.broken) W.broken W.words y l c b P h k (round p W)
      (round-words p W ∙ sym (mend_all-agree (found_by p a rows W.broken) (found p W) W.broken W.words found-same))
      (round-broken p W ∙ sym (unfound-agree (found_by p a rows W.broken) (found p W) W.broken found-same))

-- rows before the first sums
pub below-zeros : (q n : ℕ) → Below q (replicate n 0)
below-zeros q n = record { lt = λ i. rw (zeros-at n i) (pow_pos q) }
