-- A member of which one byte is changed is no member.
use Rattle.std.specs.Prelude.{Result, Ok, Err, ◌≡◌, true, not, ◌≢◌, ◌⊎◌, List, ℕ, ◌+◌, ◌*◌, ◌/◌, ◌%◌, ◌≤◌, ◌<◌, length, get_or, set}
use Rattle.std.proofs.Common.{sym, ap, ◌∙◌, inl, inr, arith, length-set, get_or-set_same, get_or-set_other}
use Rattle.std.proofs.Math.Nat as Nat
use Rattle.std.proofs.Math.Decide.{ℕ_discrete}
use Rattle.std.specs.Int.Bits.{bit_xor}
use Rattle.polynomial.specs.Division.{xor_lt}
use Rattle.polynomial.specs.Sums.{all-at, at_all}
use Rattle.polynomial.specs.Xor.{xor, xor-cancel, xor_is, xor_self}
use Rattle.code.specs.Answers.{Judgement}
use Rattle.code.specs.declared.Parameters.{Parameters}
use Rattle.code.specs.declared.Verdict.{Verdict}
use Rattle.code.proofs.Accepted.{accepted}
use Rattle.code.proofs.Answers.{judged}
use Rattle.code.specs.Calls.{Judged, judge_answer}
use Rattle.code.specs.Layout.{Bytes, IsPage}
use Rattle.code.specs.Parameters.{Accepted, sub_word_bytes}
use Rattle.code.proofs.Theorems.{demands}
use Rattle.layout.specs.Sizes.{stored_low}
use Rattle.gate_rounds.specs.Answers.{is_member, not-member}

-- a page has a byte in the middle
pub middle : (p : Parameters) → Accepted p → (x : List ℕ) → IsPage p x → length x / 2 < length x
middle p A x h = go p.m (sub_word_bytes p) h.exact (omega (arith, (accepted p A).m-low)) (omega (arith, stored_low p A))
  where
    go : (m b : ℕ) → length x ≡ m * b → 1 ≤ m → 1 ≤ b → length x / 2 < length x
    go m b e i j = let l : 1 ≤ m * b = Nat.mul-pos i j in omega arith

module _ (p : Parameters) (A : Accepted p) (x : List ℕ) (k e : ℕ) (h : IsPage p x) (l : k < length x) (f : e < 256) (g : 1 ≤ e) where
  abbrev b : ℕ
  b = sub_word_bytes p

  -- the byte's new value
  abbrev c : ℕ
  c = bit_xor (get_or x k 0) e

  old : get_or x k 0 < 256
  old = all-at (λ d. d < 256) x h.bytes k l

  d : c < 256
  d = rw (xor_is (get_or x k 0) e) (xor_lt 8 (get_or x k 0) e old f)

  o : c ≢ get_or x k 0
  o s = Nat.not-suc-le-zero (rw (sym (xor-cancel (get_or x k 0) e) ∙ ap (xor (get_or x k 0)) (sym (xor_is (get_or x k 0) e) ∙ s) ∙ xor_self (get_or x k 0)) at g)

  set-bytes : Bytes (set x k c)
  set-bytes = at_all (λ d. d < 256) (set x k c) (λ j i. go j (rw (length-set x k c) at i) (ℕ_discrete j k))
    where
      go : (j : ℕ) → j < length x → Dec (j ≡ k) → get_or (set x k c) j 0 < 256
      go j i (yes s) = rw (s, get_or-set_same x k c 0 l) d
      go j i (no s) = rw (get_or-set_other x k j c 0 s) (all-at (λ d. d < 256) x h.bytes j i)

  other : x ≢ set x k c
  other s = o (sym (ap (λ (y : List ℕ). get_or y k 0) s ∙ get_or-set_same x k c 0 l))

  b-pos : 0 < b
  b-pos = omega (arith, stored_low p A)

  place : k / b * b + k % b ≡ k
  place = Nat.div-add-mod' k b

  pub byte-changed : judge_answer p x ≡ Ok Verdict.Member → (r : Judgement) → Judged p (set x k c) r → not (is_member r) ≡ true
  byte-changed m r J =
      not-member r ((demands p A).2.bytes x (set x k c) (k / b) (k % b) 1 r h.bytes set-bytes
      ((Nat.div-lt_iff_lt-mul b-pos).1 (rw h.exact at l)) (Nat.le_refl 1) (omega (arith, Nat.mod-lt k b-pos)) (demands p A).2.one_byte
      (λ j s. sym (get_or-set_other x k j c 0 (apart j s))) (judged p x (Ok Verdict.Member) (sym m)) other J)
    where
      apart : (j : ℕ) → (j < k / b * b + k % b) ⊎ (k / b * b + k % b + 1 ≤ j) → j ≢ k
      apart j (inl s) t = Nat.lt_irrefl k (omega (arith, place))
      apart j (inr s) t = Nat.lt_irrefl k (omega (arith, place))
