-- Lists, tests, and refusals as numbers.
--   range i k         i, i + 1, .., k of them
--   part n k l        run k of l, cut into runs of n elements, k from 0
--   runs f i k        the runs f i, f (i + 1), .., k of them, one behind another
--   any P l           some element passes the test P
--   first P l o       the first element that passes, or o
--   sum l             the sum of the elements
--   split ks bs       bytes cut into runs of ks bytes, each read as a number, low byte first; join is the way back
--   each P bs xs      each number x of xs passes the test P b x with its partner b of bs; the tests:
--                     fits_in b x, x has at most b bits; ones_in b x, its b lowest bits are 1, whatever stands above
--   count_below n P    how many k < n pass the test P; add_below n f is f 0 + .. + f (n - 1)
--   k when b          the number k under the condition b, else 0, which is no refusal
--   r or_else s        the refusal r or, if there is none, s
--   values_by r l      the values l of an answer or, beside the refusal r, none
--   last_refusal       the greatest number of a refusal
use Rattle.std.specs.Prelude.{Bool, true, false, ◌&&◌, ◌||◌, cond, List, [], ◌∷◌, ◌++◌, ℕ, zero, suc, ◌+◌, ◌-◌, ◌*◌, ◌%◌, ◌^◌, eqb, ltb, take, drop}
use Rattle.polynomial.specs.Digits.{value, digits}

unfoldable pub range : ℕ → ℕ → List ℕ
range from zero = []
range from (suc k) = from ∷ range (suc from) k

abbrev pub part : ℕ → ℕ → List ℕ → List ℕ
part n k l = take n (drop (k * n) l)

unfoldable pub runs : (ℕ → List ℕ) → ℕ → ℕ → List ℕ
runs f i zero = []
runs f i (suc k) = f i ++ runs f (suc i) k

unfoldable pub any : {A : Type 0} → (A → Bool) → List A → Bool
any P [] = false
any P (x ∷ l) = P x || any P l

unfoldable pub first : (ℕ → Bool) → List ℕ → ℕ → ℕ
first P [] other = other
first P (x ∷ l) other = cond (P x) x (first P l other)

unfoldable pub sum : List ℕ → ℕ
sum [] = 0
sum (x ∷ l) = x + sum l

unfoldable pub split : List ℕ → List ℕ → List ℕ
unfolding value
split [] bs = []
split (k ∷ ks) bs = value 8 (take k bs) ∷ split ks (drop k bs)

unfoldable pub join : List ℕ → List ℕ → List ℕ
unfolding digits
join [] xs = []
join (k ∷ ks) [] = []
join (k ∷ ks) (x ∷ xs) = digits 8 k x ++ join ks xs

abbrev pub fits_in : ℕ → ℕ → Bool
fits_in b x = ltb x (2 ^ b)

abbrev pub ones_in : ℕ → ℕ → Bool
ones_in b x = eqb (x % 2 ^ b) (2 ^ b - 1)

unfoldable pub each : (ℕ → ℕ → Bool) → List ℕ → List ℕ → Bool
each P [] xs = true
each P (b ∷ bs) [] = true
each P (b ∷ bs) (x ∷ xs) = P b x && each P bs xs

unfoldable pub add_below : ℕ → (ℕ → ℕ) → ℕ
add_below zero f = 0
add_below (suc n) f = add_below n f + f n

unfoldable pub count_below : ℕ → (ℕ → Bool) → ℕ
unfolding add_below
count_below n P = add_below n (λ k. cond (P k) 1 0)

infix 22 ◌when◌
infixr 21 ◌or_else◌
abbrev pub ◌when◌ : ℕ → Bool → ℕ
k when true = k
k when false = 0

abbrev pub ◌or_else◌ : ℕ → ℕ → ℕ
zero or_else s = s
suc r or_else s = suc r

abbrev pub values_by : ℕ → List ℕ → List ℕ
values_by zero l = l
values_by (suc r) l = []

abbrev pub last_refusal : ℕ
last_refusal = 17
