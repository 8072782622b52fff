-- What antt computes over a whole table, and what that gives: one law for the powers and one for the logs, over q.
--   powers q      α^0 to α^(n-1), worked out one from the other; a table of powers is this list
--   undoes q t    the test of a table of logs: the power at each log is the element, and the log at each power is the exponent
use mathlib.Core.Path.{◌≡◌, refl, sym, ap, ◌∙◌}
use mathlib.Core.Bool.{Bool, ◌&&◌}
use mathlib.Core.List.{List, [], ◌∷◌}
use Prim.Native.Nat.{ℕ, zero, suc, ◌+◌, ◌-◌, ◌^◌, ◌<◌}
use native.Mathlib.Nat as Nat
use native.Mathlib.Omega.{arith}
use lib.Dec.{T, eqb, ltb, eqb→eq, ltb→lt}
use lib.ListN.{length, get_or}
use lib.Pow.{pow_pos}
use Rattle.field.specs.Irreducible.{both}
use Rattle.field.specs.Fields.{Known}
use Rattle.field.specs.Elements.{times, power, power_zero, power-suc}
use Rattle.tables.specs.Powers.{double, double-is, power-lt, power-inj}
use Rattle.tables.specs.Tables.{Powers, Logs}
use Rattle.tables.proofs.Every.{every, at}
use Rattle.tables.proofs.Read.{read, read_at}

-- ---- powers
unfoldable pub from : ℕ → ℕ → ℕ → List ℕ
unfolding double
from q zero x = []
from q (suc m) x = let y = double q x in x ∷ from q m y

abbrev pub powers : ℕ → List ℕ
powers q = from q (2 ^ q - 1) 1

length_from : (q m x : ℕ) → length (from q m x) ≡ m
unfolding from
length_from q zero x = refl
length_from q (suc m) x = ap suc (length_from q m (double q x))

module _ (q : ℕ) (known : Known q) where
  pub next : (x j : ℕ) → x ≡ power q j → double q x ≡ power q (suc j)
  next x j e = double-is q known x (rw e (power-lt q known j)) ∙ ap (times q 2) e ∙ sym (power-suc q j)

  from_at : (m x j k : ℕ) → x ≡ power q j → k < m → get_or (from q m x) k 0 ≡ power q (k + j)
  unfolding from
  from_at zero x j k e h = absurd (Nat.not-suc-le-zero h)
  from_at (suc m) x j zero e h = e ∙ ap (power q) (sym (Nat.zero-add j))
  from_at (suc m) x j (suc k) e h = from_at m (double q x) (suc j) k (next x j e) (Nat.le_of_suc-le-suc h) ∙ ap (power q) (Nat.add-suc k j ∙ sym (Nat.suc-add k j))

  powers-at : (k : ℕ) → k < 2 ^ q - 1 → get_or (powers q) k 0 ≡ power q k
  powers-at k h = from_at (2 ^ q - 1) 1 0 k (sym (power_zero q)) h ∙ ap (power q) (Nat.add-zero k)

  pub powers-hold : (t : List ℕ) → t ≡ powers q → Powers q t
  powers-hold t e = record {
    count = ap length e ∙ length_from q (2 ^ q - 1) 1;
    entry = entry;
    next = λ k h. entry (suc k) h ∙ power-suc q k ∙ ap (times q 2) (sym (entry k (Nat.le_of_suc-le h)));
    distinct = λ j k hj hk same. power-inj q known j k hj hk (sym (entry j hj) ∙ same ∙ entry k hk);
  }
    where
      entry : (k : ℕ) → k < 2 ^ q - 1 → get_or t k 0 ≡ power q k
      entry k h = ap (λ (l : List ℕ). get_or l k 0) e ∙ powers-at k h

-- ---- logs: r at the place a, below n and the exponent of a, or 0 at 0; and k at the place of the power x with the exponent k
abbrev element : (ℕ → ℕ) → ℕ → ℕ → ℕ → Bool
element power n zero r = eqb r 0
element power n (suc a) r = ltb r n && eqb (power r) (suc a)

element-is : (power : ℕ → ℕ) (n a r : ℕ) → 0 < a → T (element power n a r) → (r < n) × (power r ≡ a)
element-is power n zero r h t = absurd (Nat.not-suc-le-zero h)
element-is power n (suc a) r h t = let p = both (ltb r n) (eqb (power r) (suc a)) t in (ltb→lt r n p.0, eqb→eq (power r) (suc a) p.1)

abbrev exponent : (ℕ → ℕ) → ℕ → ℕ → Bool
exponent log k x = eqb (log x) k

abbrev pub undoes : ℕ → List ℕ → Bool
undoes q t =
    let l = powers q in
    let power = read q l in
    let log = read q t in
    eqb (length t) (2 ^ q) && every (element power (2 ^ q - 1)) 0 t && every (exponent log) 0 l

module _ (q : ℕ) (known : Known q) (t : List ℕ) (test : T (undoes q t)) where
  abbrev Elements : Bool
  Elements = every (element (read q (powers q)) (2 ^ q - 1)) 0 t

  abbrev Exponents : Bool
  Exponents = every (exponent (read q t)) 0 (powers q)

  tests : T (eqb (length t) (2 ^ q) && Elements) × T Exponents
  tests = both (eqb (length t) (2 ^ q) && Elements) Exponents test

  count : length t ≡ 2 ^ q
  count = eqb→eq (length t) (2 ^ q) (both (eqb (length t) (2 ^ q)) Elements tests.0).0

  place : (a : ℕ) → a < 2 ^ q → T (element (read q (powers q)) (2 ^ q - 1) a (get_or t a 0))
  place a h = at (element (read q (powers q)) (2 ^ q - 1)) t (both (eqb (length t) (2 ^ q)) Elements tests.0).1 a (rw count h)

  log_is : (a : ℕ) → 0 < a → a < 2 ^ q → (get_or t a 0 < 2 ^ q - 1) × (read q (powers q) (get_or t a 0) ≡ a)
  log_is a h l = element-is (read q (powers q)) (2 ^ q - 1) a (get_or t a 0) h (place a l)

  read-power : (k : ℕ) → k < 2 ^ q - 1 → read q (powers q) k ≡ power q k
  read-power k h = read_at q (powers q) k (omega arith) ∙ powers-at q known k h

  exponent-is : (k : ℕ) → k < 2 ^ q - 1 → read q t (power q k) ≡ k
  exponent-is k h =
      ap (read q t) (sym (powers-at q known k h))
      ∙ eqb→eq (read q t (get_or (powers q) k 0)) k (at (exponent (read q t)) (powers q) tests.1 k (rw (length_from q (2 ^ q - 1) 1) h))

  pub logs-hold : Logs q t
  logs-hold = record {
    count = count;
    unused = eqb→eq (get_or t 0 0) 0 (place 0 (pow_pos q));
    below = λ a h l. (log_is a h l).0;
    power-log = λ a h l. sym (read-power (get_or t a 0) (log_is a h l).0) ∙ (log_is a h l).1;
    log-power = λ k h. sym (read_at q t (power q k) (power-lt q known k)) ∙ exponent-is k h;
  }
