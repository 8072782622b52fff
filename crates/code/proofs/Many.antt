-- Many pages in one call: runs of bytes one behind another, the call's refusal, its list, its pages.
--   Lent p L count blocks pages list    what the call does not refuse: a width, 1 to 16 pages, exact lengths
use Rattle.std.specs.Prelude.{◌≡◌, ◌⊎◌, Bool, true, false, not, List, [], ◌∷◌, ◌++◌, map, ℕ, zero, suc, ◌+◌, ◌*◌, ◌≤◌, ◌<◌, length, get_or, take, drop, replicate}
use Rattle.std.proofs.Math.Path.{refl, sym, ap}
use Rattle.std.proofs.Common.{ap₂, ◌∙◌, inl, inr, append-nil, suc-le-suc, arith, lit≤, length-append, length-take, length-drop, take-append-drop, take_all, take_at, drop_at, drop-drop}
use Rattle.std.proofs.Math.Nat as Nat
use Rattle.std.proofs.lemmas.List.{length-map}
use Rattle.code.specs.declared.Parameters.{Parameters}
use Rattle.code.proofs.Answers.{outcome-number, outcome-values}
use Rattle.code.specs.Calls.{Written, leaves, outcome, page_by, pages_by, status_of, statuses}
use Rattle.code.proofs.Chains.{exact_none, exact-of, last, off', or-le, or-none, or-second, or-zero, when-le}
use Rattle.code.specs.Layout.{blank, blocks_clear, data_bytes, page_bytes, page_of}
use Rattle.code.specs.Lists.{◌or_else◌, ◌when◌, last_refusal, part, range, runs}
use Rattle.code.proofs.Pages.{length-range, page-length}
use Rattle.code.specs.Parameters.{Accepted, sheet_refusal}
use Rattle.code.proofs.Placement.{get_or-map-range}
use Rattle.code.specs.Refusals.{bad_count, bad_width, many_refusal, not_exact, write_refusal}
use Rattle.code.specs.Refused.{Width}
use Rattle.code.proofs.Refused.{between-good, between_is, sheet-le, width-good, width_is, write-alike, write-le, write-links}
use Rattle.code.specs.Many.{Lent}

-- ---- runs of n elements
part-zero : (n : ℕ) (x : List ℕ) → part n 0 x ≡ take n x
part-zero n x = ap (λ (z : ℕ). take n (drop z x)) (Nat.zero-mul n)

part-suc : (n k : ℕ) (x : List ℕ) → part n (suc k) x ≡ part n k (drop n x)
part-suc n k x =
    let w : suc k * n ≡ n + k * n = omega arith in
    ap (λ (z : ℕ). take n (drop z x)) w ∙ ap (take n) (sym (drop-drop (k * n) n x))

pub part_room : (n c k : ℕ) → k < c → k * n + n ≤ c * n
part_room n c k h = let w : suc k * n ≡ k * n + n = omega arith in rw w at (Nat.mul-le-mul_right n h)

pub part_length : (n c : ℕ) (x : List ℕ) → length x ≡ c * n → (k : ℕ) → k < c → length (part n k x) ≡ n
part_length n c x e k h =
    length-take n (drop (k * n) x) ∙ Nat.min-eq_left (rw (length-drop (k * n) x, e) (omega (arith, part_room n c k h)))

runs-cons : (f : ℕ → List ℕ) (i k : ℕ) → runs f i (suc k) ≡ f i ++ runs f (suc i) k
unfolding runs
runs-cons f i k = refl

-- run k of the runs
pub part-runs : (n : ℕ) (f : ℕ → List ℕ) (i c : ℕ) → ((j : ℕ) → j < c → length (f (i + j)) ≡ n) → (k : ℕ) → k < c
    → part n k (runs f i c) ≡ f (i + k)
part-runs n f i zero e k h = absurd (Nat.not-suc-le-zero h)
part-runs n f i (suc c) e zero h =
    rw (runs-cons f i c) (part-zero n (f i ++ runs f (suc i) c) ∙ take_at (f i) (runs f (suc i) c) n (ap (λ (j : ℕ). length (f j)) (sym (Nat.add-zero i)) ∙ e 0 h))
    ∙ ap f (sym (Nat.add-zero i))
part-runs n f i (suc c) e (suc k) h =
    rw (runs-cons f i c) (part-suc n k (f i ++ runs f (suc i) c)
    ∙ ap (part n k) (drop_at (f i) (runs f (suc i) c) n (ap (λ (j : ℕ). length (f j)) (sym (Nat.add-zero i)) ∙ e 0 (omega arith))))
    ∙ part-runs n f (suc i) c (λ j l. ap (λ (a : ℕ). length (f a)) (Nat.suc-add i j ∙ sym (Nat.add-suc i j)) ∙ e (suc j) (suc-le-suc l)) k (Nat.le_of_suc-le-suc h)
    ∙ ap f (Nat.suc-add i k ∙ sym (Nat.add-suc i k))

pub length_runs : (n : ℕ) (f : ℕ → List ℕ) (i c : ℕ) → ((j : ℕ) → j < c → length (f (i + j)) ≡ n) → length (runs f i c) ≡ c * n
unfolding runs
length_runs n f i zero e = sym (Nat.zero-mul n)
length_runs n f i (suc c) e =
    let w : suc c * n ≡ n + c * n = omega arith in
    length-append (f i) (runs f (suc i) c)
    ∙ ap₂ ◌+◌ (ap (λ (j : ℕ). length (f j)) (sym (Nat.add-zero i)) ∙ e 0 (omega arith))
    (length_runs n f (suc i) c (λ j l. ap (λ (a : ℕ). length (f a)) (Nat.suc-add i j ∙ sym (Nat.add-suc i j)) ∙ e (suc j) (suc-le-suc l))) ∙ sym w

-- a list is its runs
pub runs-are : (n : ℕ) (f : ℕ → List ℕ) (i c : ℕ) (x : List ℕ) → length x ≡ c * n → ((k : ℕ) → k < c → part n k x ≡ f (i + k))
    → x ≡ runs f i c
unfolding runs
runs-are n f i zero [] e h = refl
runs-are n f i zero (y ∷ x) e h = absurd (Nat.suc-ne-zero (length x) (e ∙ Nat.zero-mul n))
runs-are n f i (suc c) x e h =
    let w : suc c * n ≡ n + c * n = omega arith in
    let d : length (drop n x) ≡ c * n = length-drop n x ∙ omega arith in
    sym (take-append-drop n x)
    ∙ ap₂ ◌++◌ (sym (part-zero n x) ∙ h 0 (omega arith) ∙ ap f (Nat.add-zero i))
    (runs-are n f (suc i) c (drop n x) d (λ k l. sym (part-suc n k x) ∙ h (suc k) (suc-le-suc l) ∙ ap f (Nat.add-suc i k ∙ sym (Nat.suc-add i k))))

module _ (p : Parameters) (L count blocks pages list : ℕ) where
  abbrev from-10 : ℕ
  from-10 = 10 when not_exact list count

  abbrev from-7 : ℕ
  from-7 = 7 when not_exact pages (count * page_bytes p) or_else from-10

  abbrev from-6 : ℕ
  from-6 = 6 when not_exact blocks (count * data_bytes p) or_else from-7

  abbrev from-9 : ℕ
  from-9 = 9 when bad_count count or_else from-6

  pub many-links : many_refusal p L count blocks pages list ≡ (sheet_refusal p or_else 5 when bad_width L or_else from-9)
  unfolding many_refusal
  many-links = refl

  pub many-le : many_refusal p L count blocks pages list ≤ last_refusal
  many-le =
      rw many-links (or-le (sheet_refusal p) (5 when bad_width L or_else from-9) (sheet-le p)
      (or-le (5 when bad_width L) from-9 (when-le 5 (bad_width L) (lit≤ tt))
      (or-le (9 when bad_count count) from-6 (when-le 9 (bad_count count) (lit≤ tt))
      (or-le (6 when not_exact blocks (count * data_bytes p)) from-7 (when-le 6 (not_exact blocks (count * data_bytes p)) (lit≤ tt))
      (or-le (7 when not_exact pages (count * page_bytes p)) from-10 (when-le 7 (not_exact pages (count * page_bytes p)) (lit≤ tt))
      (when-le 10 (not_exact list count) (lit≤ tt)))))))

  pub many-none : Accepted p → Lent p L count blocks pages list → many_refusal p L count blocks pages list ≡ 0
  many-none A s =
      many-links
      ∙ or-zero (sheet_refusal p) (5 when bad_width L or_else from-9) A
      (or-zero (5 when bad_width L) from-9 (off' 5 (bad_width L) (width-good L s.width))
      (or-zero (9 when bad_count count) from-6 (off' 9 (bad_count count) (between-good 16 count s.low s.high))
      (or-zero (6 when not_exact blocks (count * data_bytes p)) from-7 (exact_none 6 blocks (count * data_bytes p) s.blocks-exact)
      (or-zero (7 when not_exact pages (count * page_bytes p)) from-10 (exact_none 7 pages (count * page_bytes p) s.pages-exact)
      (exact_none 10 list count s.list-exact)))))

  pub many-lent : many_refusal p L count blocks pages list ≡ 0 → Lent p L count blocks pages list
  many-lent z =
      let a = or-none (sheet_refusal p) (5 when bad_width L or_else from-9) (sym many-links ∙ z) in
      let b = or-none (5 when bad_width L) from-9 a.1 in
      let c = or-none (9 when bad_count count) from-6 b.1 in
      let d = or-none (6 when not_exact blocks (count * data_bytes p)) from-7 c.1 in
      let e = or-none (7 when not_exact pages (count * page_bytes p)) from-10 d.1 in
      let n = between_is 16 count (last 8 (bad_count count) c.0) in
      record {
        width = width_is L (last 4 (bad_width L) b.0);
        low = n.0;
        high = n.1;
        blocks-exact = exact-of 5 blocks (count * data_bytes p) d.0;
        pages-exact = exact-of 6 pages (count * page_bytes p) e.0;
        list-exact = exact-of 9 list count e.1;
      }

pub many-alike : (p : Parameters) (L M count blocks pages list : ℕ) → Width L → Width M
    → many_refusal p L count blocks pages list ≡ many_refusal p M count blocks pages list
many-alike p L M count blocks pages list w w' =
    many-links p L count blocks pages list
    ∙ rw (off' 5 (bad_width L) (width-good L w))
    (sym (many-links p M count blocks pages list ∙ rw (off' 5 (bad_width M) (width-good M w')) refl))

-- ---- the list
pub length-statuses : (p : Parameters) (L count : ℕ) (blocks : List ℕ) → length (statuses p L count blocks) ≡ count
unfolding statuses
length-statuses p L count blocks = length-map (range 0 count) (status_of p L blocks) ∙ length-range 0 count

pub status-at : (p : Parameters) (L count : ℕ) (blocks : List ℕ) (k : ℕ) → k < count
    → get_or (statuses p L count blocks) k 0 ≡ status_of p L blocks k
unfolding statuses
status-at p L count blocks k h = get_or-map-range (status_of p L blocks) 0 count k h ∙ ap (status_of p L blocks) (Nat.zero-add k)

pub statuses-alike : (p : Parameters) (L M count : ℕ) (blocks : List ℕ) → Width L → Width M
    → statuses p L count blocks ≡ statuses p M count blocks
unfolding statuses
statuses-alike p L M count blocks w w' = go (range 0 count)
  where
    go : (ks : List ℕ) → map (status_of p L blocks) ks ≡ map (status_of p M blocks) ks
    go [] = refl
    go (k ∷ ks) = ap₂ ◌∷◌ (write-alike p L M w w' (part (data_bytes p) k blocks) (page_bytes p)) (go ks)

-- of blocks and a page of exact length 8 and 13 are left
pub status-left : (p : Parameters) (L : ℕ) (a : List ℕ) → Accepted p → Width L → length a ≡ data_bytes p
    → (write_refusal p L a (page_bytes p) ≡ 0) ⊎ ((write_refusal p L a (page_bytes p) ≡ 8) ⊎ (write_refusal p L a (page_bytes p) ≡ 13))
status-left p L a A w e =
    rw (write-links p L a (page_bytes p)
    ∙ or-second (sheet_refusal p) _ A ∙ or-second (5 when bad_width L) _ (off' 5 (bad_width L) (width-good L w))
    ∙ or-second (6 when not_exact (length a) (data_bytes p)) _ (exact_none 6 (length a) (data_bytes p) e)
    ∙ or-second (7 when not_exact (page_bytes p) (page_bytes p)) _ (exact_none 7 (page_bytes p) (page_bytes p) refl))
    (go (not (blocks_clear p a)) (blank p (page_of p a)))
  where
    go : (b c : Bool) → ((8 when b or_else 13 when c) ≡ 0) ⊎ (((8 when b or_else 13 when c) ≡ 8) ⊎ ((8 when b or_else 13 when c) ≡ 13))
    go true c = inr (inl refl)
    go false true = inr (inr refl)
    go false false = inl refl

-- ---- the pages
left-length : (r : ℕ) (x old : List ℕ) (n : ℕ) → length x ≡ n → length old ≡ n → length (leaves r x old) ≡ n
left-length zero x old n e f = e
left-length (suc r) x old n e f = f

module _ (p : Parameters) (list blocks pages : List ℕ) (e : length pages ≡ length list * page_bytes p) where
  pub by_length : (j : ℕ) → j < length list → length (page_by p list blocks pages (0 + j)) ≡ page_bytes p
  by_length j h =
      let z = Nat.zero-add j in
      ap (λ (k : ℕ). length (page_by p list blocks pages k)) z
      ∙ left-length (get_or list j 0) _ _ (page_bytes p) (page-length p _) (part_length (page_bytes p) (length list) pages e j h)

  pub length-by : length (pages_by p list blocks pages) ≡ length pages
  unfolding pages_by
  length-by = length_runs (page_bytes p) (page_by p list blocks pages) 0 (length list) by_length ∙ sym e

  pub page-at : (k : ℕ) → k < length list → part (page_bytes p) k (pages_by p list blocks pages) ≡ page_by p list blocks pages k
  unfolding pages_by
  page-at k h =
      part-runs (page_bytes p) (page_by p list blocks pages) 0 (length list) by_length k h ∙ ap (page_by p list blocks pages) (Nat.zero-add k)

  -- pages of which each is the one that the list says are these
  pub pages-are : (after : List ℕ) → length after ≡ length pages
      → ((k : ℕ) → k < length list → part (page_bytes p) k after ≡ page_by p list blocks pages k) → after ≡ pages_by p list blocks pages
  unfolding pages_by
  pages-are after l h =
      runs-are (page_bytes p) (page_by p list blocks pages) 0 (length list) after (l ∙ e)
      (λ k i. h k i ∙ ap (page_by p list blocks pages) (sym (Nat.zero-add k)))

-- a listed byte is a single call's
pub status-single : (p : Parameters) (L count : ℕ) (blocks pages : List ℕ) → length pages ≡ count * page_bytes p → (k : ℕ) → k < count
    → get_or (statuses p L count blocks) k 0 ≡ write_refusal p L (part (data_bytes p) k blocks) (length (part (page_bytes p) k pages))
status-single p L count blocks pages e k h =
    status-at p L count blocks k h
    ∙ ap (write_refusal p L (part (data_bytes p) k blocks)) (sym (part_length (page_bytes p) count pages e k h))

-- THE LAW: each listed byte and each page are what a single call gives
pub each-written : (p : Parameters) (L count : ℕ) (blocks pages : List ℕ) → length pages ≡ count * page_bytes p → (k : ℕ) → k < count
    → Written p L (part (data_bytes p) k blocks) (part (page_bytes p) k pages)
    (part (page_bytes p) k (pages_by p (statuses p L count blocks) blocks pages)) (outcome (get_or (statuses p L count blocks) k 0))
each-written p L count blocks pages e k h =
    let c = length-statuses p L count blocks in
    let b : List ℕ = part (data_bytes p) k blocks in
    let old : List ℕ = part (page_bytes p) k pages in
    let s : get_or (statuses p L count blocks) k 0 ≡ write_refusal p L b (length old) = status-single p L count blocks pages e k h in
    record {
      answers = ap outcome s;
      number = outcome-number (get_or (statuses p L count blocks) k 0) (rw s (write-le p L b (length old))) ∙ s;
      values = outcome-values (get_or (statuses p L count blocks) k 0);
      small = write-le p L b (length old);
      buffer = page-at p (statuses p L count blocks) blocks pages (rw c e) k (rw c h) ∙ ap (λ (r : ℕ). leaves r (page_of p b) old) s;
    }

-- one page, which is written
pub one-page : (p : Parameters) (blocks page : List ℕ) → length blocks ≡ data_bytes p → pages_by p (replicate 1 0) blocks page ≡ page_of p blocks
unfolding pages_by runs
one-page p blocks page e =
    append-nil (page_of p (part (data_bytes p) 0 blocks))
    ∙ ap (page_of p) (part-zero (data_bytes p) blocks ∙ take_all (data_bytes p) blocks (Nat.le_of_eq e))
