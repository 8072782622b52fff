-- Many pages: their list, byte by byte, and the promise of the call.
--   Listing p L blocks k l₀ l    l is l₀ with the refusals of pages 0 to k - 1
use Rattle.std.specs.Prelude.{Ok, Err, ◌≡◌, refl, List, ℕ, ◌+◌, ◌*◌, ◌≤◌, ◌<◌, length, get_or, set}
use Rattle.std.proofs.Common.{sym, ap, ◌∙◌, length-set, ext_get_or}
use Rattle.std.proofs.Math.Nat as Nat
use Rattle.code.specs.declared.Parameters.{Parameters}
use Rattle.code.specs.declared.Refusal.{Refusal}
use Rattle.code.specs.Answers.{refusal_number}
use Rattle.code.proofs.Answers.{made-done, made-refused}
use Rattle.code.specs.Calls.{WrittenMany, pages_by, status_of, statuses}
use Rattle.code.specs.Layout.{data_bytes, page_bytes}
use Rattle.code.specs.Lists.{part}
use Rattle.code.proofs.Many.{length-statuses, many-le, many-lent, status-at}
use Rattle.code.specs.Parameters.{Accepted}
use Rattle.code.proofs.Placement.{first_more}
use Rattle.code.specs.Refusals.{many_refusal}
use Rattle.layout.specs.Sizes.{Degrees}
use Rattle.refusal.specs.Writing.{write-zero}
use Rattle.pages.specs.Filling.{Given}

pub record Listing (p : Parameters) (L : ℕ) (blocks : List ℕ) (k : ℕ) (l₀ l : List ℕ) : Type 0 where
  pub exact : length l ≡ length l₀
  pub first : (j : ℕ) → j < k → get_or l j 0 ≡ status_of p L blocks j

module _ (p : Parameters) (L : ℕ) (blocks : List ℕ) where
  pub listing_start : (l : List ℕ) → Listing p L blocks 0 l l
  listing_start l = record { exact = refl; first = λ j h. absurd (Nat.not-suc-le-zero h) }

  pub listing-next : (k x : ℕ) (l₀ l : List ℕ) → k < length l → Listing p L blocks k l₀ l → x ≡ status_of p L blocks k
      → Listing p L blocks (k + 1) l₀ (set l k x)
  listing-next k x l₀ l h s e = record {
    exact = length-set l k x ∙ s.exact;
    first = first_more (status_of p L blocks) k x l h s.first e;
  }

  pub listing-done : (k : ℕ) (l₀ l : List ℕ) → length l ≤ k → Listing p L blocks k l₀ l → l ≡ statuses p L (length l₀) blocks
  listing-done k l₀ l h s =
      ext_get_or 0 l (statuses p L (length l₀) blocks) (s.exact ∙ sym (length-statuses p L (length l₀) blocks))
      (λ j b. s.first j (Nat.lt_of_lt_of_le b h) ∙ sym (status-at p L (length l₀) blocks j (rw s.exact at b)))

-- ---- the promise
module _ (p : Parameters) (L count : ℕ) (blocks pages list : List ℕ) where
  abbrev refusal : ℕ
  refusal = many_refusal p L count (length blocks) (length pages) (length list)

  pub many-refused : (e : Refusal) → refusal_number e ≡ refusal → WrittenMany p L count blocks pages pages list list (Err e)
  many-refused e h =
      let l = many-le p L count (length blocks) (length pages) (length list) in (
        made-refused refusal e (pages_by p (statuses p L count blocks) blocks pages) pages h l,
        made-refused refusal e (statuses p L count blocks) list h l,
      )

  module _ (z : refusal ≡ 0) (said : List ℕ) (e : said ≡ statuses p L (length list) blocks) where
    as-counted : said ≡ statuses p L count blocks
    as-counted = e ∙ ap (λ (c : ℕ). statuses p L c blocks) (many-lent p L count (length blocks) (length pages) (length list) z).list-exact

    said-length : length said ≡ count
    said-length = ap length as-counted ∙ length-statuses p L count blocks

    -- what is lent to be written
    pub many-given : Accepted p → (w : List ℕ) → Degrees p w → Given p w blocks pages said L
    many-given A w D =
        let s = many-lent p L count (length blocks) (length pages) (length list) z in
        record {
          accepts = A;
          degrees = D;
          blocks-exact = s.blocks-exact ∙ ap (λ (c : ℕ). c * data_bytes p) (sym said-length);
          pages-exact = s.pages-exact ∙ ap (λ (c : ℕ). c * page_bytes p) (sym said-length);
          many = rw said-length s.high;
          clear = λ k h r. (write-zero p L (part (data_bytes p) k blocks) (page_bytes p) A
              (sym (ap (λ (l : List ℕ). get_or l k 0) as-counted ∙ status-at p L count blocks k (rw said-length at h)) ∙ r)).clear;
          low = s.width.low;
          high = s.width.high;
        }

    pub many-done : (after : List ℕ) → after ≡ pages_by p said blocks pages → WrittenMany p L count blocks pages after list said (Ok tt)
    many-done after f = (
      made-done refusal (pages_by p (statuses p L count blocks) blocks pages) pages after z
          (f ∙ ap (λ (l : List ℕ). pages_by p l blocks pages) as-counted),
      made-done refusal (statuses p L count blocks) list said z as-counted,
    )
