-- One bit altered: of blocks, and of their page.
--   Twins p a b i r x y    b is a with bit r of block i made x, and a is b with it made y; write takes both
use Rattle.std.specs.Prelude.{Result, Ok, Err, ◌≡◌, refl, List, ℕ, get_or, replicate}
use Rattle.std.proofs.Common.{sym}
use Rattle.std.proofs.lemmas.List.{length-replicate}
use Rattle.polynomial.specs.Bits.{coefficient}
use Rattle.code.specs.Answers.{Outcome}
use Rattle.code.specs.declared.Parameters.{Parameters}
use Rattle.code.specs.declared.Verdict.{Verdict}
use Rattle.code.proofs.Accepted.{accepted}
use Rattle.code.specs.Alter.{altered_blocks}
use Rattle.code.proofs.Alter.{altered-fits, set_here, set_there}
use Rattle.code.proofs.Answers.{judged, read}
use Rattle.code.specs.Calls.{Altered, Written, judge_answer, read_answer}
use Rattle.code.specs.Demands.{AlteredMember, NamesBit, SetTo, WriteLaws}
use Rattle.code.specs.Layout.{Fits, block_bit, data_bytes}
use Rattle.code.specs.Parameters.{Accepted}
use Rattle.code.specs.Refused.{BlocksBuffer, PageBuffer, Width}
use Rattle.code.proofs.Theorems.{demands}
use Rattle.gate_rounds.specs.Apt.{Apt, apt}

pub record Twins (p : Parameters) (a b : List ℕ) (i r x y : ℕ) : Type 0 where
  pub apt-a : Apt p a
  pub apt-b : Apt p b
  pub names-x : NamesBit p i r x
  pub names-y : NamesBit p i r y
  pub a-to-b : SetTo p b i r x (block_bit p a)
  pub b-to-a : SetTo p a i r y (block_bit p b)

-- ---- blocks whose first bit is 0
set-of : (p : Parameters) → Accepted p → (a c : List ℕ) (i r b : ℕ) → Fits p a → NamesBit p i r b → c ≡ altered_blocks p a i r b
    → SetTo p c i r b (block_bit p a)
set-of p A a c i r b h n e =
    let R = accepted p A in
    rw e (record {
      fits = altered-fits p R i r n.block n.bit a h b;
      here = set_here p R i r n.block n.bit a h b n.value;
      others = set_there p R i r n.block n.bit a h b;
    })

pub twins : (p : Parameters) → Accepted p → (a b : List ℕ) (i r x y : ℕ) → Fits p a → Fits p b → coefficient (get_or a 0 0) 0 ≡ 0
    → coefficient (get_or b 0 0) 0 ≡ 0 → NamesBit p i r x → NamesBit p i r y → b ≡ altered_blocks p a i r x → a ≡ altered_blocks p b i r y
    → Twins p a b i r x y
twins p A a b i r x y h j z w m n e f = record {
  apt-a = apt p A a h z;
  apt-b = apt p A b j w;
  names-x = m;
  names-y = n;
  a-to-b = set-of p A a b i r x h m e;
  b-to-a = set-of p A b a i r y j n f;
}

-- ---- the page of a, with the bit altered, is the page of b
module _ (p : Parameters) (A : Accepted p) (L M : ℕ) (wl : Width L) (wm : Width M) (a b old-a old-b page-a page-b after : List ℕ)
    (i r x : ℕ) (o : Outcome) (apt-a : Apt p a) (n : NamesBit p i r x) (S : SetTo p b i r x (block_bit p a)) (ea : PageBuffer p old-a)
    (eb : PageBuffer p old-b) (W : Written p L a old-a page-a (Ok tt)) (X : Written p M b old-b page-b (Ok tt))
    (E : Altered p page-a i r x after o) where
  laws : WriteLaws p a page-a (Ok tt)
  laws = (demands p A).0.write-laws L a old-a page-a (Ok tt) wl apt-a.fits ea apt-a.other W

  -- blocks that are lent to read out
  abbrev lent : List ℕ
  lent = replicate (data_bytes p) 0

  exact : BlocksBuffer p lent
  exact = length-replicate {A = ℕ} (data_bytes p) 0

  member : AlteredMember p after page-b o (Ok tt)
  member =
      (demands p A).4.member M page-a after lent a b old-b page-b i r x (read_answer p page-a lent) o (Ok tt) wm laws.page.bytes
      (judged p page-a (Ok Verdict.Member) (sym (laws.judged (judge_answer p page-a) (judged p page-a (judge_answer p page-a) refl)))) n exact eb E
      (read p page-a lent (read_answer p page-a lent) a refl
      (sym (laws.read lent _ _ exact (read p page-a lent (read_answer p page-a lent) _ refl refl)).1)) S X

  pub alter-is : (o ≡ Ok tt) × (after ≡ page-b)
  alter-is = (member.answers, member.pages member.answers)
