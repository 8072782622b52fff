-- Tables as they are lent: those of a field, with any entries after them.
--   LogOf q a k     k is the exponent of a
--   RootIn p e r    r is the entry e of p: α^e where p is lent as powers
--   LogIn l a r     r is the entry a of l: the exponent of a where l is lent as logs
--   Tables f p l    p begins with the powers and l with the logs of the field f
use Rattle.std.specs.Prelude.{◌≡◌, refl, List, ℕ, ◌+◌, ◌-◌, ◌*◌, ◌%◌, ◌^◌, ◌≤◌, ◌<◌, length, get_or, take}
use Rattle.std.proofs.Common.{sym, ap, ap₂, ◌∙◌, arith, length-take, get_or-take, take_all}
use Rattle.std.proofs.Math.Nat as Nat
use Rattle.field.specs.Fields.{Known}
use Rattle.field.specs.Elements.{times, power}
use Rattle.tables.specs.Tables.{Powers, Logs}
use Rattle.element.specs.declared.Field.{Field}
use Rattle.element.specs.Fields.{Sized, size-least, size-most}
use Rattle.element.specs.Exponents.{raise, times_power, raise-power}

-- a is α^k, with k below the order of α
pub record LogOf (q a k : ℕ) : Type 0 where
  pub below : k < 2 ^ q - 1
  pub power : power q k ≡ a

-- an entry, and what it is where the list begins with the table of some q
pub record RootIn (p : List ℕ) (e r : ℕ) : Type 0 where
  pub entry : r ≡ get_or p e 0
  pub root : (q : ℕ) → Powers q (take (2 ^ q - 1) p) → e < 2 ^ q - 1 → r ≡ power q e

pub record LogIn (l : List ℕ) (a r : ℕ) : Type 0 where
  pub entry : r ≡ get_or l a 0
  pub log : (q : ℕ) → Logs q (take (2 ^ q) l) → 0 < a → a < 2 ^ q → LogOf q a r

pub record Tables (f : Field) (p l : List ℕ) : Type 0 where
  pub field : Sized f
  pub powers : Powers f.q (take (2 ^ f.q - 1) p)
  pub logs : Logs f.q (take (2 ^ f.q) l)

-- ---- what a lent table gives
pub root_in : (p : List ℕ) (e : ℕ) → RootIn p e (get_or p e 0)
root_in p e = record { entry = refl; root = λ q t h. sym (get_or-take (2 ^ q - 1) p e 0 h) ∙ t.entry e h }

pub log-in : (l : List ℕ) (a : ℕ) → LogIn l a (get_or l a 0)
log-in l a = record {
  entry = refl;
  log = λ q t pos h. record {
    below = rw (get_or-take (2 ^ q) l a 0 h) at (t.below a pos h);
    power = ap (power q) (sym (get_or-take (2 ^ q) l a 0 h)) ∙ t.power-log a pos h;
  };
}

begins : (k : ℕ) (l : List ℕ) → length (take k l) ≡ k → k ≤ length l
begins k l e = omega (arith, length-take k l)

module _ (f : Field) (p l : List ℕ) (t : Tables f p l) where
  pub power-room : 2 ^ f.q - 1 ≤ length p
  power-room = begins (2 ^ f.q - 1) p t.powers.count

  pub log-room : 2 ^ f.q ≤ length l
  log-room = begins (2 ^ f.q) l t.logs.count

-- ---- the product and the powers of elements, by their exponents
module _ (q : ℕ) (known : Known q) where
  pub exponent_lt : (e k : ℕ) → e ≡ k % (2 ^ q - 1) → e < 2 ^ q - 1
  exponent_lt e k w = rw w (Nat.mod-lt k (omega (arith, size-least q known)))

  -- the sum of two logs: 16 bits hold it
  pub log-sum-most : (i j : ℕ) → i < 2 ^ q - 1 → j < 2 ^ q - 1 → i + j ≤ 8188
  log-sum-most i j a b = omega (arith, size-most q known)

  pub times-lent : (a b i j e : ℕ) → LogOf q a i → LogOf q b j → e ≡ (i + j) % (2 ^ q - 1) → power q e ≡ times q a b
  times-lent a b i j e x y w = ap (power q) w ∙ sym (times_power q known i j) ∙ ap₂ (times q) x.power y.power

  pub raise-lent : (a k i e : ℕ) → LogOf q a i → e ≡ i * k % (2 ^ q - 1) → power q e ≡ raise q a k
  raise-lent a k i e x w = ap (power q) w ∙ sym (raise-power q known i k) ∙ ap (λ (y : ℕ). raise q y k) x.power

-- the tables of a field
pub tables-of : (f : Field) (k : ℕ) (p l : List ℕ) → Sized f → f.q ≡ k → Powers k p → Logs k l → Tables f p l
tables-of f k p l s e x y = record {
  field = s;
  powers = rw (e, take_all (2 ^ k - 1) p (omega (arith, x.count))) x;
  logs = rw (e, take_all (2 ^ k) l (omega (arith, y.count))) y;
}
