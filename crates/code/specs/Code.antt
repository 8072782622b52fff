-- The code on words. A word is a number whose bit k is the coefficient of x^k; a page's sub-words are a list of m words.
--   gen p a             g_a, the generator of level a; degree p a is its degree w_a (Parameters)
--   remainder p a c     the remainder of c by g_a
--   level p i           the level of sub-word i: v - i, and 0 from i = v on; check_bits p i is its number w of check bits
--   combine f i cs      Σ f(k) × c_k, the list's first word being c_i
--   nested p l cs       nested word l: Σ x^(l i) × c_i with x^n = 1
--   N i l               the nesting coefficient, a bit polynomial
--   newton l cs         Σ N(i, l) × c_i: nested word l in the equal form
--   encode p ds         the words of the data ds; data_words p cs the data of words
--   IsMember p cs       the words of a member of the code
--   verdict p cs        member, or the first word that fails: sub-words before nested words
--   failing_number p cs  its number, apart from the enum: 32 + i, 64 + l, or 0; failing_values p cs its values: i, l, or none
--   syndromes p k c     S_1 to S_k of a word
--   odd_syndromes p t c  S_1, S_3, .., t of them: the list that calls give
--   all_syndromes p l    S_1, S_2, .. by squares, from the list l of S_1, S_3, ..
--   divisor p l         g_(v-l) / g_0; short_remainder p l cs is the remainder of nested word l by it
--   tried P k z t y     of the places k, k + 1, .., z of them, the first rising list of at most t whose flips take y to a word that passes P
--   nearest p a y       the flips that mend y at level a: the stored places to flip for a multiple of g_a, at most t_a of them; or none
--   Flips p a y R       R are such places, rising
--   Near p a y c        c is such a multiple: of g_a, 0 in its top s places, and other than y in at most t_a places
--   distance p          the smallest of (v + 1)(2 t_0 + 1) and b (2 t_(v-b+1) + 1), b from 1 to v
use Rattle.std.specs.Prelude.{◌≡◌, refl, Bool, not, cond, List, [], ◌∷◌, map, ℕ, zero, suc, ◌+◌, ◌-◌, ◌*◌, ◌/◌, ◌^◌, ◌≤◌, ◌<◌, min, eqb, ltb, length, get_or}
use Rattle.std.proofs.Math.Option.{Option, none, some}
use Rattle.polynomial.specs.Clmul.{clmul}
use Rattle.polynomial.specs.Division.{rem, quot, deg}
use Rattle.polynomial.specs.Multiple.{Multiple}
use Rattle.polynomial.specs.Xor.{xor}
use Rattle.field.specs.Bch.{weight}
use Rattle.field.specs.Elements.{syndrome}
use Rattle.field.specs.Odd.{from_odd}
use Rattle.field.specs.Fields.{field_of}
use Rattle.field.specs.Flips.{Rising, flips}
use Rattle.generator.specs.Generator.{generator}
use Rattle.code.specs.declared.Parameters.{Parameters}
use Rattle.code.specs.declared.Verdict.{Verdict}
use Rattle.code.specs.declared.Verdict.TheVariants.{Member, SubWord, NestedWord}
use Rattle.code.specs.Lists.{range, first}
use Rattle.code.specs.Parameters.{len, stored, strength}
unfoldable pub use Rattle.code.specs.Parameters.{degree}

-- ---- generators by level
unfoldable pub gen : Parameters → ℕ → ℕ
unfolding field_of generator
gen p a = generator (field_of p.q) (strength p a)

abbrev pub remainder : Parameters → ℕ → ℕ → ℕ
remainder p a c = rem (gen p a) (degree p a) c

abbrev pub level : Parameters → ℕ → ℕ
level p i = p.v - i

abbrev pub check_bits : Parameters → ℕ → ℕ
check_bits p i = degree p (level p i)

-- ---- nested words
unfoldable pub combine : (ℕ → ℕ) → ℕ → List ℕ → ℕ
unfolding clmul xor
combine f i [] = 0
combine f i (c ∷ cs) = xor (clmul (f i) c) (combine f (suc i) cs)

-- sub-word i enters nested word l at this power of x
abbrev pub place : ℕ → ℕ → ℕ
place l i = l * i

abbrev pub nested_sum : Parameters → ℕ → List ℕ → ℕ
nested_sum p l cs = combine (λ i. 2 ^ place l i) 0 cs

unfoldable pub nested : Parameters → ℕ → List ℕ → ℕ
unfolding combine rem
nested p l cs = rem (2 ^ len p + 1) (len p) (nested_sum p l cs)

-- ---- the equal form
-- the power of x in the rule of N(i, l)
abbrev pub nesting_power : ℕ → ℕ
nesting_power l = l

unfoldable pub N : ℕ → ℕ → ℕ
unfolding xor
N zero zero = 1
N zero (suc l) = 0
N (suc i) zero = 1
N (suc i) (suc l) = xor (N i l) (N i (suc l) * 2 ^ nesting_power (suc l))

abbrev pub newton : ℕ → List ℕ → ℕ
newton l cs = combine (λ i. N i l) 0 cs

-- ---- encoding, from the last sub-word down
-- data begin at this power of x in a word with w check bits
abbrev pub data_place : ℕ → ℕ
data_place w = w

-- what the later words add to the rule of sub-word i, at level a: nothing at level 0
unfoldable pub carried : ℕ → ℕ → List ℕ → ℕ
unfolding combine N
carried zero i cs = 0
carried (suc a) i cs = combine (λ k. N k i) (suc i) cs

-- the check bits at level a of the data u, already in their places, and of what is carried
abbrev pub check : Parameters → ℕ → ℕ → ℕ → ℕ
check p a u f = remainder p a (xor u f)

unfoldable pub checked : Parameters → ℕ → ℕ → ℕ → ℕ
unfolding xor rem gen degree
checked p a u f = xor u (check p a u f)

unfoldable pub encode_from : Parameters → ℕ → List ℕ → List ℕ
unfolding checked carried degree
encode_from p i [] = []
encode_from p i (d ∷ ds) =
    let rest = encode_from p (suc i) ds in
    checked p (level p i) (d * 2 ^ data_place (check_bits p i)) (carried (level p i) i rest) ∷ rest

unfoldable pub encode : Parameters → List ℕ → List ℕ
unfolding encode_from
encode p ds = encode_from p 0 ds

-- the data of words: what stands above the check bits
unfoldable pub data_from : Parameters → ℕ → List ℕ → List ℕ
unfolding degree
data_from p i [] = []
data_from p i (c ∷ cs) = c / 2 ^ data_place (check_bits p i) ∷ data_from p (suc i) cs

unfoldable pub data_words : Parameters → List ℕ → List ℕ
unfolding data_from
data_words p cs = data_from p 0 cs

-- ---- membership
pub record IsMember (p : Parameters) (cs : List ℕ) : Type 0 where
  pub sub_words : (i : ℕ) → i < p.m → Multiple (gen p 0) (get_or cs i 0)
  pub nested-words : (l : ℕ) → l < p.v → Multiple (gen p (p.v - l)) (nested p l cs)

-- the lowest sub-word that is no multiple of g_0 (m: none), the lowest nested word that is none of g_(v-l) (v: none)
unfoldable pub failing : Parameters → List ℕ → ℕ
unfolding first range rem gen degree
failing p cs = first (λ i. not (eqb (remainder p 0 (get_or cs i 0)) 0)) (range 0 p.m) p.m

unfoldable pub failing_nested : Parameters → List ℕ → ℕ
unfolding first range rem gen degree nested
failing_nested p cs = first (λ l. not (eqb (remainder p (p.v - l) (nested p l cs)) 0)) (range 0 p.v) p.v

unfoldable pub verdict : Parameters → List ℕ → Verdict
unfolding failing failing_nested
verdict p cs =
    cond (ltb (failing p cs) p.m) (SubWord (failing p cs))
    (cond (ltb (failing_nested p cs) p.v) (NestedWord (failing_nested p cs)) Member)

unfoldable pub failing_number : Parameters → List ℕ → ℕ
unfolding failing failing_nested
failing_number p cs =
    cond (ltb (failing p cs) p.m) (32 + failing p cs) (cond (ltb (failing_nested p cs) p.v) (64 + failing_nested p cs) 0)

unfoldable pub failing_values : Parameters → List ℕ → List ℕ
unfolding failing failing_nested
failing_values p cs =
    cond (ltb (failing p cs) p.m) (failing p cs ∷ []) (cond (ltb (failing_nested p cs) p.v) (failing_nested p cs ∷ []) [])

-- ---- syndromes and short remainders
unfoldable pub syndromes : Parameters → ℕ → ℕ → List ℕ
unfolding syndrome range
syndromes p k c = map (λ j. syndrome p.q c j) (range 1 k)

unfoldable pub odd_syndromes : Parameters → ℕ → ℕ → List ℕ
unfolding syndrome range
odd_syndromes p t c = map (λ i. syndrome p.q c (2 * i + 1)) (range 0 t)

unfoldable pub all_syndromes : Parameters → List ℕ → List ℕ
unfolding from_odd range
all_syndromes p l = map (from_odd p.q (λ i. get_or l i 0)) (range 1 (2 * length l))

unfoldable pub divisor : Parameters → ℕ → ℕ
unfolding quot gen degree
divisor p l = quot (gen p 0) (degree p 0) (gen p (p.v - l))

unfoldable pub short_remainder : Parameters → ℕ → List ℕ → ℕ
unfolding divisor rem nested deg
short_remainder p l cs = rem (divisor p l) (deg (divisor p l)) (nested p l cs)

-- ---- mending: the multiple of g_a that is 0 in its top s places and within t_a flips of a word
-- the empty list where it passes
abbrev pub unflipped : Bool → Option (List ℕ)
unflipped b = cond b (some []) none

abbrev pub first_of : Option (List ℕ) → Option (List ℕ) → Option (List ℕ)
first_of none o = o
first_of (some R) o = some R

abbrev pub before : ℕ → Option (List ℕ) → Option (List ℕ)
before k none = none
before k (some R) = some (k ∷ R)

unfoldable pub tried : (ℕ → Bool) → ℕ → ℕ → ℕ → ℕ → Option (List ℕ)
unfolding xor
tried P k zero t y = unflipped (P y)
tried P k (suc z) zero y = unflipped (P y)
tried P k (suc z) (suc t) y = first_of (tried P (suc k) z (suc t) y) (before k (tried P (suc k) z t (xor y (2 ^ k))))

-- the test of a multiple of g_a
abbrev pub passes : Parameters → ℕ → ℕ → Bool
passes p a c = eqb (remainder p a c) 0

unfoldable pub nearest : Parameters → ℕ → ℕ → Option (List ℕ)
unfolding tried rem gen degree
nearest p a y = tried (passes p a) 0 (stored p) (strength p a) y

pub nearest-eq : (p : Parameters) (a y : ℕ) → nearest p a y ≡ tried (passes p a) 0 (stored p) (strength p a) y
unfolding nearest
nearest-eq p a y = refl

pub record Flips (p : Parameters) (a y : ℕ) (R : List ℕ) : Type 0 where
  pub rising : Rising 0 (stored p) R
  pub few : length R ≤ strength p a
  pub multiple : Multiple (gen p a) (xor y (flips R))

pub record Near (p : Parameters) (a y c : ℕ) : Type 0 where
  pub stores : c < 2 ^ stored p
  pub multiple : Multiple (gen p a) c
  pub near : weight (xor y c) ≤ strength p a

-- ---- distance
-- the least of (v + 1)(2 t_0 + 1) and b (2 t_(v-b+1) + 1) for b from 1 to k
abbrev pub least : Parameters → ℕ → ℕ
least p zero = (p.v + 1) * (2 * strength p 0 + 1)
least p (suc b) = min (suc b * (2 * strength p (p.v - b) + 1)) (least p b)

unfoldable pub distance : Parameters → ℕ
distance p = least p p.v
