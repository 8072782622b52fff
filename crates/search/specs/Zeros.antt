-- Places of entries that are 0, and of a polynomial's zeros.
--   zero? a k             entry k of a is 0
--   Keeps x k c b r b'    what a look at place k, with entry x, does to count and list
--   Collected a k c o b   c of the first k places have entries 0; b is o with these places from its front, as many as it has room for
--   root? q s i k         the first i terms of s vanish at 1 / α^k
--   Rooted q s i z c o b  c of the places below z pass that; b is o with these places from its front, as many as it has room for
use Rattle.std.specs.Prelude.{◌≡◌, refl, Bool, true, false, cond, ◌⊎◌, List, [], ◌∷◌, ◌++◌, ℕ, zero, suc, ◌+◌, ◌≤◌, ◌<◌, eqb, length, get_or, set}
use Rattle.std.proofs.Common.{sym, ap, ap₂, ◌∙◌, inl, inr, append-nil, add-one, arith, length-append, length-set, get_or-append-add, get_or-set_same, get_or-set_other}
use Rattle.std.proofs.Math.Nat as Nat
use Rattle.std.proofs.Math.Dec.{eqb-suc-zero}
use Rattle.std.proofs.Math.ListN.{get_or-append}
use Rattle.field.specs.Fields.{Known, field_of}
use Rattle.field.specs.Flips.{passing, passing-last, passing-suc, passing-zero}
use Rattle.massey.specs.Entries.{at, number}
use Rattle.search.specs.Values.{Values, node, part, term}

abbrev pub zero? : List ℕ → ℕ → Bool
zero? a k = eqb (get_or a k 0) 0

-- ---- one place more
not-zero : (x : ℕ) → (x ≡ 0 → ⊥) → eqb x 0 ≡ false
not-zero zero h = absurd (h refl)
not-zero (suc x) h = eqb-suc-zero x

last-is : (P : ℕ → Bool) (k : ℕ) (b : Bool) → P k ≡ b → passing P 0 (k + 1) ≡ passing P 0 k ++ cond b (k ∷ []) []
last-is P k b e = rw (add-one k) (passing-last P 0 k ∙ rw (Nat.zero-add k, e) refl)

-- ---- collected
pub record Collected (a : List ℕ) (k c : ℕ) (o b : List ℕ) : Type 0 where
  pub count : c ≡ length (passing (zero? a) 0 k)
  pub size : length b ≡ length o
  pub found : (i : ℕ) → i < c → i < length o → get_or b i 0 ≡ get_or (passing (zero? a) 0 k) i 0

pub collect-first : (a o : List ℕ) → Collected a 0 0 o o
collect-first a o = record { count = sym (ap length (passing-zero (zero? a) 0)); size = refl; found = λ i h. absurd (Nat.not-suc-le-zero h) }

module _ {a : List ℕ} {k c : ℕ} {o b : List ℕ} (C : Collected a k c o b) where
  -- the entry is not 0
  pub collect-skip : (get_or a k 0 ≡ 0 → ⊥) → Collected a (k + 1) c o b
  collect-skip n =
      let p : passing (zero? a) 0 (k + 1) ≡ passing (zero? a) 0 k = last-is (zero? a) k false (not-zero (get_or a k 0) n) ∙ append-nil (passing (zero? a) 0 k) in
      record { count = C.count ∙ sym (ap length p); size = C.size; found = λ i h l. C.found i h l ∙ sym (ap (λ (m : List ℕ). get_or m i 0) p) }

  module _ (z : get_or a k 0 ≡ 0) where
    more : passing (zero? a) 0 (k + 1) ≡ passing (zero? a) 0 k ++ (k ∷ [])
    more = last-is (zero? a) k true (rw z refl)

    count' : c + 1 ≡ length (passing (zero? a) 0 (k + 1))
    count' = ap (λ (y : ℕ). y + 1) C.count ∙ sym (ap length more ∙ length-append (passing (zero? a) 0 k) (k ∷ []))

    earlier : (i : ℕ) → i < c → get_or (passing (zero? a) 0 k) i 0 ≡ get_or (passing (zero? a) 0 (k + 1)) i 0
    earlier i h = sym (ap (λ (m : List ℕ). get_or m i 0) more ∙ get_or-append (passing (zero? a) 0 k) (k ∷ []) 0 i (rw C.count at h))

    latest : get_or (passing (zero? a) 0 (k + 1)) c 0 ≡ k
    latest = ap₂ (λ (m : List ℕ) (i : ℕ). get_or m i 0) more (C.count ∙ sym (Nat.add-zero (length (passing (zero? a) 0 k)))) ∙ get_or-append-add (passing (zero? a) 0 k) (k ∷ []) 0 0

    -- the entry is 0, and the list has room
    pub collect-put : c < length o → Collected a (k + 1) (c + 1) o (set b c k)
    collect-put h = record { count = count'; size = length-set b c k ∙ C.size; found = λ i l m. go i m (Nat.eq-or-lt_of_le (omega arith)) }
      where
        go : (i : ℕ) → i < length o → (i ≡ c) ⊎ (i < c) → get_or (set b c k) i 0 ≡ get_or (passing (zero? a) 0 (k + 1)) i 0
        go i m (inl e) = rw e (get_or-set_same b c k 0 (omega (arith, C.size)) ∙ sym latest)
        go i m (inr l) = get_or-set_other b c i k 0 (omega arith) ∙ C.found i l m ∙ earlier i l

    -- it has none
    pub collect-full : length o ≤ c → Collected a (k + 1) (c + 1) o b
    collect-full h = record { count = count'; size = C.size; found = λ i l m. C.found i (omega arith) m ∙ earlier i (omega arith) }

pub collect-last : {a : List ℕ} {k c : ℕ} {o b : List ℕ} (n : ℕ) → k ≡ n → Collected a k c o b → Collected a n c o b
collect-last n e C = rw e at C

-- place k, whose entry is x, looked at
pub record Keeps (x k c : ℕ) (b : List ℕ) (r : ℕ) (b' : List ℕ) : Type 0 where
  pub size : length b' ≡ length b
  pub most : r ≤ c + 1
  pub step : (a o : List ℕ) → x ≡ get_or a k 0 → Collected a k c o b → Collected a (k + 1) r o b'

pub keeps-not : (x k c : ℕ) (b : List ℕ) → (x ≡ 0 → ⊥) → Keeps x k c b c b
keeps-not x k c b n = record { size = refl; most = omega arith; step = λ a o e C. collect-skip C (λ z. n (e ∙ z)) }

pub keeps-put : (x k c : ℕ) (b : List ℕ) → x ≡ 0 → c < length b → Keeps x k c b (c + 1) (set b c k)
keeps-put x k c b z h = record { size = length-set b c k; most = Nat.le_refl (c + 1); step = λ a o e C. collect-put C (sym e ∙ z) (omega (arith, C.size)) }

pub keeps-full : (x k c : ℕ) (b : List ℕ) → x ≡ 0 → length b ≤ c → Keeps x k c b (c + 1) b
keeps-full x k c b z h = record { size = refl; most = Nat.le_refl (c + 1); step = λ a o e C. collect-full C (sym e ∙ z) (omega (arith, C.size)) }

-- ---- zeros
abbrev pub root? : (q : ℕ) (s : List ℕ) (i k : ℕ) → Bool
root? q s i k = eqb ((field_of q).num (part q (at q s) (node q k) i)) 0

pub record Rooted (q : ℕ) (s : List ℕ) (i z c : ℕ) (o b : List ℕ) : Type 0 where
  pub count : c ≡ length (passing (root? q s i) 0 z)
  pub size : length b ≡ length o
  pub found : (j : ℕ) → j < c → j < length o → get_or b j 0 ≡ get_or (passing (root? q s i) 0 z) j 0

passing-same : (P Q : ℕ → Bool) (k z n : ℕ) → k + z ≤ n → ((i : ℕ) → i < n → P i ≡ Q i) → passing P k z ≡ passing Q k z
passing-same P Q k zero n h e = passing-zero P k ∙ sym (passing-zero Q k)
passing-same P Q k (suc z) n h e =
    passing-suc P k z ∙ ap₂ (λ (b : Bool) (l : List ℕ). cond b (k ∷ l) l) (e k (omega arith)) (passing-same P Q (suc k) z n (omega arith) e)
    ∙ sym (passing-suc Q k z)

-- entries that are the values, and their zeros
pub rooted : (q : ℕ) → Known q → (s : List ℕ) (i z c : ℕ) (a o b : List ℕ) → Values q (λ j k. term q (at q s j) j k) i z a → Collected a z c o b → Rooted q s i z c o b
rooted q known s i z c a o b W C =
    let e : passing (zero? a) 0 z ≡ passing (root? q s i) 0 z =
    passing-same (zero? a) (root? q s i) 0 z z (omega arith) (λ k h. ap (λ (x : ℕ). eqb x 0) (sym (number q known (get_or a k 0) (W.small.lt k)) ∙ ap (field_of q).num (W.is k h))) in
    record { count = C.count ∙ ap length e; size = C.size; found = λ j h l. C.found j h l ∙ ap (λ (m : List ℕ). get_or m j 0) e }
