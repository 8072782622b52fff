-- Many pages in one call, each beside a single call over the same bytes.
--   filled m                      m bytes A5; room n has n, rooms n those of three pages of n
--   Listable n                    n is 0, 8 or 13
--   Each p L blocks pages list    page k and byte k of the list are what a single call gives over a room
use Rattle.std.specs.Prelude.{Ok, ◌≡◌, refl, false, ◌⊎◌, List, [], ◌∷◌, ℕ, zero, suc, ◌+◌, ◌-◌, ◌*◌, ◌≤◌, ◌<◌, length, get_or, replicate, take, drop}
use Rattle.std.proofs.Common.{sym, ap, ap₂, ◌∙◌, arith, lit≤, length-take, ext_get_or, get_or-drop, get_or-take}
use Rattle.std.proofs.Math.Nat as Nat
use Rattle.std.proofs.Math.Decide.{dec_le}
use Rattle.std.proofs.lemmas.List.{get_or-replicate, length-replicate}
use Rattle.code.specs.declared.Refusal.{Refusal}
use Rattle.code.specs.Answers.{Outcome, answer_number, refusal_number, refusals}
use Rattle.code.specs.declared.Parameters.{Parameters}
use Rattle.code.proofs.Answers.{outcome-number}
use Rattle.code.specs.Calls.{Written, WrittenMany, leaves, outcome, statuses}
use Rattle.code.specs.Demands.{ManyLaws}
use Rattle.code.specs.Layout.{data_bytes, page_bytes, page_of}
use Rattle.code.specs.Lists.{last_refusal, part}
use Rattle.code.proofs.Many.{part_length, part_room}
use Rattle.code.specs.Parameters.{Accepted}
use Rattle.code.specs.Refusals.{write_refusal}
use Rattle.code.specs.Refused.{Width}
use Rattle.code.proofs.Refused.{write-other}
use Rattle.code.proofs.Theorems.{demands}
use Rattle.gate_rounds.specs.Answers.{is_done, never}

abbrev pub filled : ℕ → List ℕ
filled m = replicate m 0xA5

abbrev pub room : ℕ → List ℕ
room n = take n (filled 1024)

abbrev pub rooms : ℕ → List ℕ
rooms n = take (3 * n) (filled 3072)

abbrev pub Listable : ℕ → Type 0
Listable n = (n ≡ 0) ⊎ ((n ≡ 8) ⊎ (n ≡ 13))

pub record Each (p : Parameters) (L : ℕ) (blocks pages list : List ℕ) : Type 0 where
  pub blocks-exact : length blocks ≡ length list * data_bytes p
  pub pages-exact : length pages ≡ length list * page_bytes p
  pub few : length list ≤ 16
  pub says : (k : ℕ) → k < length list → Listable (get_or list k 0)
  pub each : (k : ℕ) → k < length list
      → Written p L (part (data_bytes p) k blocks) (room (page_bytes p)) (part (page_bytes p) k pages) (outcome (get_or list k 0))

-- ---- rooms
same_at : (n m i : ℕ) → i < n → n ≤ m → ◌≡◌ {A = ℕ} (get_or (take n (filled m)) i 0) 0xA5
same_at n m i h l = get_or-take n (filled m) i 0 h ∙ get_or-replicate m i 0xA5 0 (Nat.lt_of_lt_of_le h l)

room-length : (n m : ℕ) → n ≤ m → length (take n (filled m)) ≡ n
room-length n m l = length-take n (filled m) ∙ Nat.min-eq_left (rw (length-replicate {A = ℕ} m 0xA5) l)

-- page k of three rooms is a room
module _ (n k : ℕ) (h : k < 3) (l : n ≤ 1024) where
  three : length (rooms n) ≡ 3 * n
  three = room-length (3 * n) 3072 (omega arith)

  part_at : (i : ℕ) → i < n → ◌≡◌ {A = ℕ} (get_or (part n k (rooms n)) i 0) 0xA5
  part_at i j =
      get_or-take n (drop (k * n) (rooms n)) i 0 j
      ∙ get_or-drop (k * n) (rooms n) i 0 ∙ same_at (3 * n) 3072 (k * n + i) (omega (arith, part_room n 3 k h)) (omega arith)

  room-part : part n k (rooms n) ≡ room n
  room-part =
      let e = part_length n 3 (rooms n) three k h in
      ext_get_or 0 (part n k (rooms n)) (room n) (e ∙ sym (room-length n 1024 l))
      (λ i j. (let t : i < n = rw e at j in part_at i t ∙ sym (same_at n 1024 i t l)))

-- ---- run k of `size` bytes, as it is lent
run_small : (k size : ℕ) → k < 16 → size ≤ 1024 → k * size + size ≤ 16384
run_small k size h l = omega (arith, part_room size 16 k h)

run_room : (k size n c : ℕ) (x : List ℕ) → k < c → length x ≡ c * n → size ≡ n → k * size + size ≤ length x
run_room k size n c x h e f = rw (e, f) (part_room n c k h)

run_is : (k size n : ℕ) (x : List ℕ) → size ≡ n → take (k * size + size - k * size) (drop (k * size) x) ≡ part n k x
run_is k size n x f =
    let s : k * size + size - k * size ≡ size = omega arith in
    ap₂ (λ (i o : ℕ). take i (drop o x)) (s ∙ f) (ap (λ (m : ℕ). k * m) f)

module _ (p : Parameters) (L : ℕ) (blocks pages list : List ℕ) (E : Each p L blocks pages list) (k : ℕ) (h : k < length list) (b n : ℕ)
    (e : b ≡ data_bytes p) (f : n ≡ page_bytes p) where
  pub blocks-small : b ≤ 1024 → k * b + b ≤ 16384
  blocks-small l = run_small k b (Nat.lt_of_lt_of_le h E.few) l

  pub page-small : n ≤ 1024 → k * n + n ≤ 16384
  page-small l = run_small k n (Nat.lt_of_lt_of_le h E.few) l

  pub blocks-room : k * b + b ≤ length blocks
  blocks-room = run_room k b (data_bytes p) (length list) blocks h E.blocks-exact e

  pub page-room : k * n + n ≤ length pages
  page-room = run_room k n (page_bytes p) (length list) pages h E.pages-exact f

  pub single_of : Written p L (take (k * b + b - k * b) (drop (k * b) blocks)) (room n) (take (k * n + n - k * n) (drop (k * n) pages))
      (outcome (get_or list k 0))
  single_of = rw (run_is k b (data_bytes p) blocks e, run_is k n (page_bytes p) pages f, f) (E.each k h)

-- ---- a single call: its number and its page are those of the other
kept : (x : ℕ) (result old page : List ℕ) (r : Outcome) → r ≡ outcome x → page ≡ leaves x result old → is_done r ≡ false → page ≡ old
kept zero result old page r e b f = absurd (never (sym f ∙ ap is_done e))
kept (suc x) result old page r e b f = b

get_or-past : {A : Type 0} (l : List A) (k : ℕ) (d : A) → length l ≤ k → get_or l k d ≡ d
get_or-past [] k d h = refl
get_or-past (x ∷ l) zero d h = absurd (Nat.not-suc-le-zero h)
get_or-past (x ∷ l) (suc k) d h = get_or-past l k d (Nat.le_of_suc-le-suc h)

outcome-past : (k : ℕ) → last_refusal < k → answer_number (outcome k) ≡ 16
outcome-past zero h = absurd (Nat.not-suc-le-zero h)
outcome-past (suc k) h = ap refusal_number (get_or-past refusals k Refusal.Reserved (Nat.le_of_suc-le-suc h))

module _ (p : Parameters) (L : ℕ) (blocks old page after : List ℕ) (said : ℕ) (r : Outcome)
    (W : Written p L blocks old page (outcome said)) (X : Written p L blocks old after r) where
  pub same_number : answer_number r ≡ said
  same_number = X.number ∙ sym W.number ∙ go (dec_le said last_refusal)
    where
      go : Dec (said ≤ last_refusal) → answer_number (outcome said) ≡ said
      go (yes h) = outcome-number said h
      go (no n) = absurd (rw (sym W.number ∙ outcome-past said (Nat.lt_of_not-le n)) at (write-other p L blocks (length old)))

  pub same-page : after ≡ page
  same-page = X.buffer ∙ sym W.buffer

  pub page-kept : is_done r ≡ false → page ≡ old
  page-kept = kept (write_refusal p L blocks (length old)) (page_of p blocks) old page r X.answers W.buffer

-- ---- the call on three pages
module _ (p : Parameters) (A : Accepted p) (L : ℕ) (w : Width L) (blocks pages after list listed : List ℕ) (r : Outcome)
    (b : length blocks ≡ 3 * data_bytes p) (o : pages ≡ rooms (page_bytes p)) (l : page_bytes p ≤ 1024) (e : length list ≡ 3)
    (W : WrittenMany p L 3 blocks pages after list listed r) where
  laws : ManyLaws p
  laws = (demands p A).3

  exact : length pages ≡ 3 * page_bytes p
  exact = ap length o ∙ room-length (3 * page_bytes p) 3072 (omega arith)

  pub many-done : r ≡ Ok tt
  many-done =
      (laws.done L 3 blocks pages after list listed r W).1
      (record { width = w; low = lit≤ tt; high = lit≤ tt; blocks-exact = b; pages-exact = exact; list-exact = e })

  made : WrittenMany p L 3 blocks pages after list listed (Ok tt)
  made = rw many-done at W

  pub many-each : Each p L blocks after listed
  many-each =
      let x = laws.whole L 3 blocks pages after list listed made in
      record {
        blocks-exact = rw x.2 b;
        pages-exact = rw x.2 (x.1 ∙ exact);
        few = rw x.2 (lit≤ tt);
        says = λ k h. laws.says L 3 blocks pages after list listed made k (rw x.2 at h);
        each = λ k h.
            let i : k < 3 = rw x.2 at h in
            rw (ap (part (page_bytes p) k) o ∙ room-part (page_bytes p) k i l) at (laws.each L 3 blocks pages after list listed made k i);
      }

  pub many-list : listed ≡ statuses p L 3 blocks
  many-list = made.1.buffer ∙ ap (λ (k : ℕ). leaves k (statuses p L 3 blocks) list) (sym made.1.number)
