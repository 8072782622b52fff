-- Pages one behind another, written level by level: page k is the k-th run of a page's bytes, and its byte in the list says whether it is
-- written (0) or left.
--   Given p w blocks pages list width      accepted parameters, the degrees of their generators, at most 16 pages,
--                                          blocks without a stray bit for each page that is written, coefficients a step
--   Filling p w blocks pages list width acc     the same, room for the sum of a rule
--   Making p rows w blocks pages list width t acc     the same, the generators' rows, room for a table
--   SameLevel p least most                 sub-words least to most - 1 are of one level
--   Begun p blocks list x k i              sub-words i to m - 1 of page k are written, if it is written
--   PageTurned p blocks list x y k i       y is x with page k written down to sub-word i, or left
--   Passing p blocks list x y i k          so for all pages before k
--   Stage p blocks list x y i              so for all pages
use Rattle.std.specs.Prelude.{◌≡◌, refl, ◌≢◌, ◌⊎◌, List, ℕ, ◌+◌, ◌-◌, ◌*◌, ◌^◌, ◌≤◌, ◌<◌, T, length, get_or, take, drop, replicate}
use Rattle.std.proofs.Common.{sym, ap, ap₂, ◌∙◌, inl, inr, arith, lit≤, take_all}
use Rattle.std.proofs.Math.Nat as Nat
use Rattle.std.proofs.Math.Decide.{dec_lt, ℕ_discrete}
use Rattle.polynomial.specs.Sums.{all_drop, all_take, at_all}
use Rattle.code.specs.declared.Parameters.{Parameters}
use Rattle.code.proofs.Accepted.{accepted}
use Rattle.code.proofs.Answers.{leaves-refused}
use Rattle.code.specs.Calls.{generators, leaves, page_by, pages_by}
use Rattle.code.specs.Code.{level}
use Rattle.code.specs.Layout.{Fits, blocks_clear, data_bytes, page_bytes, page_of}
use Rattle.code.specs.Lists.{part}
use Rattle.code.proofs.Many.{pages-are, part_length, part_room}
use Rattle.code.specs.Parameters.{Accepted}
use Rattle.layout.specs.Replaced.{replaced, replaced-after, replaced-before, replaced-length, replaced-part}
use Rattle.layout.specs.Sizes.{Degrees}
use Rattle.encode.specs.Carried.{room_bytes}
use Rattle.encode.specs.Page.{Encoded, encoded-all, encoded-start}
use Rattle.encode.specs.Rule.{level-late}

pub record Given (p : Parameters) (w blocks pages list : List ℕ) (width : ℕ) : Type 0 where
  pub accepts : Accepted p
  pub degrees : Degrees p w
  pub blocks-exact : length blocks ≡ length list * data_bytes p
  pub pages-exact : length pages ≡ length list * page_bytes p
  pub many : length list ≤ 16
  pub clear : (k : ℕ) → k < length list → get_or list k 0 ≡ 0 → T (blocks_clear p (part (data_bytes p) k blocks))
  pub low : 1 ≤ width
  pub high : width ≤ 64

pub record Filling (p : Parameters) (w blocks pages list : List ℕ) (width : ℕ) (acc : List ℕ) : Type 0 where
  pub given : Given p w blocks pages list width
  pub room : length acc ≡ room_bytes p

pub record Making (p : Parameters) (rows : List (List ℕ)) (w blocks pages list : List ℕ) (width : ℕ) (t acc : List ℕ) : Type 0 where
  pub filling : Filling p w blocks pages list width acc
  pub rowed : rows ≡ generators p
  pub table : length t ≡ 3072

pub record SameLevel (p : Parameters) (least most : ℕ) : Type 0 where
  pub rising : least ≤ most
  pub inside : most ≤ p.m
  pub levels : (i : ℕ) → least ≤ i → i < most → level p i ≡ level p least

-- the last sub-words are of level 0, each other of a level of its own
pub level-last : (p : Parameters) → Accepted p → SameLevel p p.v p.m
level-last p A = record {
  rising = omega (arith, (accepted p A).m-low);
  inside = Nat.le_refl p.m;
  levels = λ i h l. level-late p i h ∙ sym (level-late p p.v (Nat.le_refl p.v));
}

pub level-own : (p : Parameters) (i : ℕ) → 0 < i → i ≤ p.m → SameLevel p (i - 1) i
level-own p i h l = record {
  rising = omega arith;
  inside = l;
  levels = λ j a b. (let e : j ≡ i - 1 = omega arith in ap (level p) e);
}

-- pages of the same length are lent on
pub same-given : (p : Parameters) (w blocks pages pages' list : List ℕ) (width : ℕ) → length pages' ≡ length pages
    → Given p w blocks pages list width → Given p w blocks pages' list width
same-given p w blocks pages pages' list width e g = record {
  accepts = g.accepts;
  degrees = g.degrees;
  blocks-exact = g.blocks-exact;
  pages-exact = e ∙ g.pages-exact;
  many = g.many;
  clear = g.clear;
  low = g.low;
  high = g.high;
}

pub record Begun (p : Parameters) (blocks list x : List ℕ) (k i : ℕ) : Type 0 where
  pub done : get_or list k 0 ≡ 0 → Encoded p (part (data_bytes p) k blocks) i (part (page_bytes p) k x)

pub begun-start : (p : Parameters) (blocks list x : List ℕ) → length x ≡ length list * page_bytes p → (k : ℕ) → k < length list
    → Begun p blocks list x k p.m
begun-start p blocks list x e k h = record {
  done = λ z. encoded-start p (part (data_bytes p) k blocks) (part (page_bytes p) k x) (part_length (page_bytes p) (length list) x e k h);
}

pub record PageTurned (p : Parameters) (blocks list x y : List ℕ) (k i : ℕ) : Type 0 where
  pub exact : length y ≡ length x
  pub others : (j : ℕ) → j ≢ k → part (page_bytes p) j y ≡ part (page_bytes p) j x
  pub begun : Begun p blocks list y k i
  pub kept : get_or list k 0 ≢ 0 → y ≡ x

-- ---- one page
pub turned-kept : (p : Parameters) (blocks list x : List ℕ) (k i : ℕ) → get_or list k 0 ≢ 0 → PageTurned p blocks list x x k i
turned-kept p blocks list x k i n = record { exact = refl; others = λ j h. refl; begun = record { done = λ z. absurd (n z) }; kept = λ h. refl }

-- where page k stands, and its blocks
pub place-small : (k c n size : ℕ) → k < c → c ≤ 16 → n ≤ 4096 → size ≡ n → k * size + size ≤ 65536
place-small k c n size h l m e =
    rw e (Nat.le_trans (part_room n c k h) (Nat.le_trans (Nat.mul-le-mul {n₂ = 16} {m₂ = 4096} l m) (lit≤ {m = 16 * 4096} {n = 65536} tt)))

-- the part that is lent of the blocks, and that of the pages
pub lent-part : (x : List ℕ) (k size at n : ℕ) → at ≡ k * size → size ≡ n → take (at + size - at) (drop at x) ≡ part n k x
lent-part x k size at n e f =
    let s : at + size - at ≡ size = omega arith in
    ap₂ (λ (i o : ℕ). take i (drop o x)) (s ∙ f) (e ∙ ap (λ (m : ℕ). k * m) f)

beside : (j k : ℕ) → j ≤ k → j ≢ k → j < k
beside j k h n = go (Nat.eq-or-lt_of_le h)
  where
    go : (j ≡ k) ⊎ (j < k) → j < k
    go (inl e) = absurd (n e)
    go (inr l) = l

-- one page, which is written
pub one-given : (p : Parameters) (w blocks page : List ℕ) (width : ℕ) → Accepted p → Degrees p w → length blocks ≡ data_bytes p
    → length page ≡ page_bytes p → T (blocks_clear p blocks) → 1 ≤ width → width ≤ 64 → Given p w blocks page (replicate 1 0) width
one-given p w blocks page width A D e f t l h =
    record {
      accepts = A;
      degrees = D;
      blocks-exact = e ∙ sym (Nat.one-mul (data_bytes p));
      pages-exact = f ∙ sym (Nat.one-mul (page_bytes p));
      many = lit≤ {m = 1} {n = 16} tt;
      clear = λ k i z. (let c : k ≡ 0 = omega arith in rw (c, all) t);
      low = l;
      high = h;
    }
  where
    all : part (data_bytes p) 0 blocks ≡ blocks
    all =
        sym (lent-part blocks 0 (data_bytes p) 0 (data_bytes p) (sym (Nat.zero-mul (data_bytes p))) refl)
        ∙ take_all (0 + data_bytes p - 0) blocks (omega arith)

apart : (n j k : ℕ) → j ≢ k → (j * n + n ≤ k * n) ⊎ (k * n + n ≤ j * n)
apart n j k h = go (dec_lt j k)
  where
    go : Dec (j < k) → (j * n + n ≤ k * n) ⊎ (k * n + n ≤ j * n)
    go (yes l) = inl (part_room n k j l)
    go (no l) = inr (part_room n j k (beside k j (Nat.le_of_suc-le-suc (Nat.lt_of_not-le (λ i. l i))) (λ e. h (sym e))))

pub turned-done : (p : Parameters) (blocks list x y : List ℕ) (k i : ℕ) → length x ≡ length list * page_bytes p → k < length list
    → get_or list k 0 ≡ 0 → Encoded p (part (data_bytes p) k blocks) i y → PageTurned p blocks list x (replaced x (k * page_bytes p) y) k i
turned-done p blocks list x y k i e h z E =
    record {
      exact = replaced-length x (k * page_bytes p) y room;
      others = λ j n. other j (apart (page_bytes p) j k n);
      begun = record { done = λ w. rw same E };
      kept = λ n. absurd (n z);
    }
  where
    room : k * page_bytes p + length y ≤ length x
    room = rw (E.exact, e) (part_room (page_bytes p) (length list) k h)

    same : part (page_bytes p) k (replaced x (k * page_bytes p) y) ≡ y
    same = ap (λ (n : ℕ). take n (drop (k * page_bytes p) (replaced x (k * page_bytes p) y))) (sym E.exact) ∙ replaced-part x (k * page_bytes p) y room

    other : (j : ℕ) → (j * page_bytes p + page_bytes p ≤ k * page_bytes p) ⊎ (k * page_bytes p + page_bytes p ≤ j * page_bytes p)
        → part (page_bytes p) j (replaced x (k * page_bytes p) y) ≡ part (page_bytes p) j x
    other j (inl l) = replaced-before x (k * page_bytes p) y room (j * page_bytes p) (page_bytes p) l
    other j (inr l) = ap (take (page_bytes p)) (replaced-after x (k * page_bytes p) y room (j * page_bytes p) (rw E.exact l))

-- ---- page by page
pub record Passing (p : Parameters) (blocks list x y : List ℕ) (i k : ℕ) : Type 0 where
  pub exact : length y ≡ length x
  pub before : (j : ℕ) → j < k → Begun p blocks list y j i
  pub behind : (j : ℕ) → k ≤ j → part (page_bytes p) j y ≡ part (page_bytes p) j x
  pub kept : (j : ℕ) → get_or list j 0 ≢ 0 → part (page_bytes p) j y ≡ part (page_bytes p) j x

pub passing-start : (p : Parameters) (blocks list x : List ℕ) (i : ℕ) → Passing p blocks list x x i 0
passing-start p blocks list x i = record {
  exact = refl;
  before = λ j h. absurd (Nat.not-suc-le-zero h);
  behind = λ j h. refl;
  kept = λ j h. refl;
}

-- page k is as it was
pub passing-begun : (p : Parameters) (blocks list x y : List ℕ) (i k n : ℕ) → Passing p blocks list x y i k → Begun p blocks list x k n
    → Begun p blocks list y k n
passing-begun p blocks list x y i k n s b = record { done = λ z. rw (s.behind k (Nat.le_refl k)) (b.done z) }

pub passing-next : (p : Parameters) (blocks list x y z : List ℕ) (i k : ℕ) → Passing p blocks list x y i k → PageTurned p blocks list y z k i
    → Passing p blocks list x z i (k + 1)
passing-next p blocks list x y z i k s t =
    record {
      exact = t.exact ∙ s.exact;
      before = λ j h. before j h (ℕ_discrete j k);
      behind = λ j h. t.others j (λ e. Nat.lt_irrefl k (omega arith)) ∙ s.behind j (omega arith);
      kept = λ j n. kept j n (ℕ_discrete j k);
    }
  where
    before : (j : ℕ) → j < k + 1 → Dec (j ≡ k) → Begun p blocks list z j i
    before j h (yes e) = rw e t.begun
    before j h (no n) = record { done = λ e. rw (t.others j n) ((s.before j (beside j k (omega arith) n)).done e) }

    kept : (j : ℕ) → get_or list j 0 ≢ 0 → Dec (j ≡ k) → part (page_bytes p) j z ≡ part (page_bytes p) j x
    kept j n (yes e) = ap (part (page_bytes p) j) (t.kept (rw e at n)) ∙ s.kept j n
    kept j n (no d) = t.others j d ∙ s.kept j n

-- ---- all pages
pub record Stage (p : Parameters) (blocks list x y : List ℕ) (i : ℕ) : Type 0 where
  pub exact : length y ≡ length x
  pub begun : (k : ℕ) → k < length list → Begun p blocks list y k i
  pub kept : (k : ℕ) → get_or list k 0 ≢ 0 → part (page_bytes p) k y ≡ part (page_bytes p) k x

pub passing-done : (p : Parameters) (blocks list x y : List ℕ) (i k : ℕ) → length list ≤ k → Passing p blocks list x y i k
    → Stage p blocks list x y i
passing-done p blocks list x y i k h s = record { exact = s.exact; begun = λ j l. s.before j (Nat.lt_of_lt_of_le l h); kept = s.kept }

-- nothing is to be done
pub stage-start : (p : Parameters) (blocks list x : List ℕ) (i : ℕ) → ((k : ℕ) → k < length list → Begun p blocks list x k i)
    → Stage p blocks list x x i
stage-start p blocks list x i b = record { exact = refl; begun = b; kept = λ k n. refl }

pub stage-next : (p : Parameters) (blocks list x y z : List ℕ) (i j : ℕ) → Stage p blocks list x y i → Stage p blocks list y z j
    → Stage p blocks list x z j
stage-next p blocks list x y z i j s t = record {
  exact = t.exact ∙ s.exact;
  begun = t.begun;
  kept = λ k n. t.kept k n ∙ s.kept k n;
}

pub stage-done : (p : Parameters) (w blocks list x y : List ℕ) (width : ℕ) → Given p w blocks x list width
    → ((i : ℕ) → get_or blocks i 0 < 2 ^ 8) → Stage p blocks list x y 0 → y ≡ pages_by p list blocks x
stage-done p w blocks list x y width g b s =
    pages-are p list blocks x g.pages-exact y s.exact (λ k h. each k h (ℕ_discrete (get_or list k 0) 0))
  where
    part-fits : (k : ℕ) → k < length list → get_or list k 0 ≡ 0 → Fits p (part (data_bytes p) k blocks)
    part-fits k h z = record {
      bytes = all_take (λ d. d < 256) (data_bytes p) (drop (k * data_bytes p) blocks)
          (all_drop (λ d. d < 256) (k * data_bytes p) blocks (at_all (λ d. d < 256) blocks (λ i l. b i)));
      exact = part_length (data_bytes p) (length list) blocks g.blocks-exact k h;
      clear = g.clear k h z;
    }

    each : (k : ℕ) → k < length list → Dec (get_or list k 0 ≡ 0) → part (page_bytes p) k y ≡ page_by p list blocks x k
    each k h (yes z) =
        encoded-all p g.accepts (part (data_bytes p) k blocks) (part-fits k h z) (part (page_bytes p) k y) 0 refl ((s.begun k h).done z)
        ∙ sym (ap (λ (r : ℕ). leaves r (page_of p (part (data_bytes p) k blocks)) (part (page_bytes p) k x)) z)
    each k h (no n) =
        s.kept k n ∙ sym (leaves-refused (get_or list k 0) (page_of p (part (data_bytes p) k blocks)) (part (page_bytes p) k x) (Nat.pos_of_ne-zero n))
