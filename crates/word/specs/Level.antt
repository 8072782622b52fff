-- Remainders and syndromes by a level's generator.
use Rattle.std.specs.Prelude.{◌≡◌, refl, List, map, ℕ, ◌-◌, ◌*◌, ◌^◌, ◌≤◌, ◌<◌, ◌+◌, length, get_or}
use Rattle.std.proofs.Common.{sym, ap, ap₂, ◌∙◌, arith, ext_get_or}
use Rattle.std.proofs.Math.Nat as Nat
use Rattle.polynomial.specs.Digits.{value}
use Rattle.polynomial.specs.Division.{Deg, rem_lt}
use Rattle.field.specs.Elements.{syndrome, syndrome-num}
use Rattle.field.specs.Eval.{eval, eval-rem}
use Rattle.field.specs.Field.{pow}
use Rattle.field.specs.Fields.{field_of}
use Rattle.generator.proofs.Generator.{generator-roots}
use Rattle.kernels.specs.Row.{D}
use Rattle.code.specs.declared.Parameters.{Parameters}
use Rattle.code.specs.Accepted.{Rules}
use Rattle.code.proofs.Accepted.{accepted, degree-of, degree-high, width-below}
use Rattle.code.specs.Code.{gen, degree, remainder, odd_syndromes, all_syndromes}
use Rattle.code.specs.Lists.{range}
use Rattle.code.specs.Parameters.{Accepted, strength, len}
use Rattle.code.proofs.Steps.{gen-eq}
use Rattle.element.specs.declared.Field.{Field}
use Rattle.element.specs.Fields.{field_at}
use Rattle.levels.specs.Ready.{RowOf}
use Rattle.word.specs.Row.{remainder-room}
use Rattle.code.proofs.Odd.{length-odd, odd-at}
use Rattle.field.specs.Odd.{from_odd}

module _ (p : Parameters) (A : Accepted p) (a : ℕ) (h : a ≤ p.v) where
  R : Rules p
  R = accepted p A

  -- ---- the row of the generator
  module _ (g : List ℕ) (G : RowOf p a g) (w : ℕ) (e : w ≡ degree p a) where
    pub row-deg : Deg (value 64 g) w
    row-deg = rw (G.is, e) (degree-of p R a h)

    pub row-most : w ≤ 768
    row-most = rw e (degree-high p R a h)

  -- ---- what the remainder takes
  pub level-lt : (c r w : ℕ) → w ≡ degree p a → r ≡ remainder p a c → r < 2 ^ w
  level-lt c r w e f = rw (e, f) (rem_lt (gen p a) (degree p a) (degree-of p R a h) c)

  pub level-room : (c r : ℕ) → r ≡ remainder p a c → r < 2 ^ D
  level-room c r = remainder-room (gen p a) (degree p a) (degree-of p R a h) c r (degree-high p R a h)

  -- ---- its syndromes: α^j is a root of the generator for j from 1 to 2 t_a
  pub level-syndrome : (c j : ℕ) → 0 < j → j ≤ 2 * strength p a → syndrome p.q (remainder p a c) j ≡ syndrome p.q c j
  level-syndrome c j l b =
      let F = (field_of p.q).field in
      let x = pow F (field_of p.q).α j in
      let z : eval F (gen p a) x ≡ F.𝟘 = rw (gen-eq p a) (generator-roots (field_of p.q) (strength p a) j l b) in
      sym (syndrome-num p.q R.known (remainder p a c) j)
      ∙ ap (field_of p.q).num (eval-rem F (gen p a) (degree p a) (degree-of p R a h) c x z) ∙ syndrome-num p.q R.known c j

  level-odd : (c t : ℕ) → t ≡ strength p a → odd_syndromes p t (remainder p a c) ≡ odd_syndromes p t c
  level-odd c t e =
      ext_get_or 0 (odd_syndromes p t (remainder p a c)) (odd_syndromes p t c) (length-odd p t (remainder p a c) ∙ sym (length-odd p t c))
      (λ i l. let k : i < t = rw (length-odd p t (remainder p a c)) at l in
      odd-at p t (remainder p a c) i k ∙ level-syndrome c (2 * i + 1) (omega arith) (omega (arith, e)) ∙ sym (odd-at p t c i k))

  -- the list that is made, of as many as level a fixes
  pub level-made : (c r k : ℕ) (l : List ℕ) → r ≡ remainder p a c → k ≡ strength p a → l ≡ odd_syndromes p k r → l ≡ odd_syndromes p (strength p a) c
  level-made c r k l e f g = g ∙ ap₂ (odd_syndromes p) f e ∙ level-odd c (strength p a) refl

  -- a remainder's places are places of a word
  pub degree-few : (w : ℕ) → w ≡ degree p a → (w ≤ 768) × (w ≤ len p)
  degree-few w e = (rw e (degree-high p R a h), omega (arith, e, width-below p R a h))

-- the lists by the field's entry
pub odd-are : (p : Parameters) (f : Field) (c k : ℕ) (l : List ℕ) → f ≡ field_at p.q
    → l ≡ map (λ i. syndrome f.q c (2 * i + 1)) (range 0 k) → l ≡ odd_syndromes p k c
unfolding odd_syndromes
odd-are p f c k l e g = g ∙ ap (λ (f : Field). map (λ i. syndrome f.q c (2 * i + 1)) (range 0 k)) e

pub all_are : (p : Parameters) (f : Field) (o l : List ℕ) → f ≡ field_at p.q
    → l ≡ map (from_odd f.q (λ i. get_or o i 0)) (range 1 (2 * length o)) → l ≡ all_syndromes p o
unfolding all_syndromes
all_are p f o l e g = g ∙ ap (λ (f : Field). map (from_odd f.q (λ i. get_or o i 0)) (range 1 (2 * length o))) e
