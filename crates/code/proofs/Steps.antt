-- The defining equations of the code's definitions: proofs rewrite by these, and never open a definition.
--   Divides C a f    g_a divides f: the remainder is 0
use Rattle.std.specs.Prelude.{◌≡◌, refl, List, [], ◌∷◌, ℕ, zero, suc, ◌+◌, ◌*◌, ◌/◌, ◌^◌}
use Rattle.polynomial.specs.Clmul.{clmul, clmul-xor-r}
use Rattle.polynomial.specs.Division.{rem}
use Rattle.polynomial.specs.Sums.{add}
use Rattle.polynomial.specs.Xor.{xor, xors}
use Rattle.field.specs.Fields.{field_of}
use Rattle.generator.specs.Generator.{generator, width}
use Rattle.code.specs.declared.Parameters.{Parameters}
use Rattle.code.specs.Parameters.{len, strength}
use Rattle.code.specs.Code.{gen, degree, level, check_bits, combine, nested_sum, nested}
use Rattle.code.specs.Code.{nesting_power, N, data_place, carried, check, checked, encode_from, data_from}

pub gen-eq : (C : Parameters) (a : ℕ) → gen C a ≡ generator (field_of C.q) (strength C a)
unfolding gen
gen-eq C a = refl

pub degree-eq : (C : Parameters) (a : ℕ) → degree C a ≡ width (field_of C.q) (strength C a)
unfolding degree
degree-eq C a = refl

pub combine-nil : (f : ℕ → ℕ) (i : ℕ) → combine f i [] ≡ 0
unfolding combine
combine-nil f i = refl

pub combine-cons : (f : ℕ → ℕ) (i c : ℕ) (cs : List ℕ) → combine f i (c ∷ cs) ≡ xor (clmul (f i) c) (combine f (suc i) cs)
unfolding combine
combine-cons f i c cs = refl

pub combine-add : (f : ℕ → ℕ) (i : ℕ) (cs ds : List ℕ) → combine f i (add cs ds) ≡ xor (combine f i cs) (combine f i ds)
combine-add f i [] ds = simp (combine-nil, xors)
combine-add f i (c ∷ cs) [] = simp (combine-nil, xors)
combine-add f i (c ∷ cs) (d ∷ ds) = simp (combine-cons, combine-add f (suc i) cs ds, clmul-xor-r, xors)

pub nested-eq : (C : Parameters) (l : ℕ) (cs : List ℕ) → nested C l cs ≡ rem (2 ^ len C + 1) (len C) (nested_sum C l cs)
unfolding nested
nested-eq C l cs = refl

pub N-first : (i : ℕ) → N i 0 ≡ 1
unfolding N
N-first zero = refl
N-first (suc i) = refl

pub N-start : (l : ℕ) → N 0 (suc l) ≡ 0
unfolding N
N-start l = refl

pub N-step : (i l : ℕ) → N (suc i) (suc l) ≡ xor (N i l) (N i (suc l) * 2 ^ nesting_power (suc l))
unfolding N
N-step i l = refl

pub carried-zero : (i : ℕ) (cs : List ℕ) → carried 0 i cs ≡ 0
unfolding carried
carried-zero i cs = refl

pub carried-suc : (a i : ℕ) (cs : List ℕ) → carried (suc a) i cs ≡ combine (λ k. N k i) (suc i) cs
unfolding carried
carried-suc a i cs = refl

pub checked-eq : (C : Parameters) (a u f : ℕ) → checked C a u f ≡ xor u (check C a u f)
unfolding checked
checked-eq C a u f = refl

pub encode-nil : (C : Parameters) (i : ℕ) → encode_from C i [] ≡ []
unfolding encode_from
encode-nil C i = refl

pub encode-cons : (C : Parameters) (i d : ℕ) (ds : List ℕ)
    → encode_from C i (d ∷ ds)
    ≡ checked C (level C i) (d * 2 ^ data_place (check_bits C i)) (carried (level C i) i (encode_from C (suc i) ds)) ∷ encode_from C (suc i) ds
unfolding encode_from
encode-cons C i d ds = refl

pub data-nil : (C : Parameters) (i : ℕ) → data_from C i [] ≡ []
unfolding data_from
data-nil C i = refl

pub data-cons : (C : Parameters) (i c : ℕ) (cs : List ℕ) → data_from C i (c ∷ cs) ≡ c / 2 ^ data_place (check_bits C i) ∷ data_from C (suc i) cs
unfolding data_from
data-cons C i c cs = refl
