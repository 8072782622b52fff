-- What the call answers, and what it leaves.
use Rattle.std.specs.Prelude.{Ok, Err, ◌≡◌, List, [], ◌∷◌, ℕ, ◌+◌, ◌*◌, ◌^◌, ◌≤◌, ◌<◌, Option as RustOption, Some, None, IfSome, length, get_or, take, drop}
use Rattle.std.proofs.Common.{sym, ap, ap₂, ◌∙◌, zero-le, arith, length-drop, length-take, length-take-le, get_or-take}
use Rattle.std.proofs.Math.Option.{Option, none, some}
use Rattle.std.proofs.Math.Nat as Nat
use Rattle.std.proofs.Math.Decide.{ℕ_discrete}
use Rattle.polynomial.specs.Digits.{digits, digits_value}
use Rattle.polynomial.specs.Sums.{all_drop, all_take}
use Rattle.polynomial.specs.Xor.{xor}
use Rattle.field.specs.Flips.{Rising, flips}
use Rattle.locating.specs.Look.{front}
use Rattle.code.specs.declared.Refusal.{Refusal}
use Rattle.code.specs.Answers.{refusal_number}
use Rattle.code.specs.declared.Parameters.{Parameters}
use Rattle.code.specs.Accepted.{Rules}
use Rattle.code.proofs.Accepted.{accepted}
use Rattle.code.proofs.Answers.{made-done, made-refused, refusal-pos}
use Rattle.code.specs.Calls.{Mended, list_of, places_of}
use Rattle.code.proofs.Chains.{or-first}
use Rattle.code.specs.Code.{Flips, nearest}
use Rattle.code.specs.Layout.{IsPage, flipped, mending, place_list, words_of}
use Rattle.code.specs.Lists.{◌when◌, part}
use Rattle.code.proofs.Mend.{flipped-else, flipped-here, flipped-page, mend-chain, mend-le, mend-left, mending-eq, nearest-sound}
use Rattle.code.proofs.Pages.{join-words, words-many}
use Rattle.code.specs.Parameters.{Accepted, stored, strength, sub_word_bytes}
use Rattle.code.proofs.Placement.{word_at}
use Rattle.code.specs.Refusals.{mend_refusal, nowhere, word_refusal}
use Rattle.layout.specs.Parts.{page-parts, word_room}
use Rattle.layout.specs.Written.{written, written-here, written-length, written-there}
use Rattle.refusal.specs.Indexed.{Unrefused}
use Rattle.syndrome.specs.Places.{Places, rising-at}

-- ---- the page
module _ (p : Parameters) (A : Accepted p) (x : List ℕ) (h : IsPage p x) (i : ℕ) (li : i < p.m) (Q : List ℕ) (r : Rising 0 (stored p) Q) where
  R : Rules p
  R = accepted p A

  abbrev new : ℕ
  new = xor (get_or (words_of p x) i 0) (flips Q)

  pub written-flipped : written p x i new ≡ flipped p x i Q
  written-flipped =
      page-parts p (written p x i new) (words_of p (flipped p x i Q)) (written-length p x i new h.exact li) (words-many p (flipped p x i Q))
      (λ j l. go j l (ℕ_discrete j i))
      ∙ join-words p R (flipped p x i Q) (flipped-page p R x h i li Q r)
    where
      -- the bytes of the other sub-words
      old-part : (j : ℕ) → j < p.m → part (sub_word_bytes p) j x ≡ digits 8 (sub_word_bytes p) (get_or (words_of p x) j 0)
      old-part j l =
          let k = sub_word_bytes p in
          let room : j * k + k ≤ length x = rw h.exact (word_room p j l) in
          sym (digits_value 8 (part k j x) (all_take (λ d. d < 256) k (drop (j * k) x) (all_drop (λ d. d < 256) (j * k) x h.bytes)))
          ∙ ap₂ (digits 8) (length-take k (drop (j * k) x) ∙ Nat.min-eq_left (rw (length-drop (j * k) x) (omega arith))) (sym (word_at p x j l))

      go : (j : ℕ) → j < p.m → Dec (j ≡ i) → part (sub_word_bytes p) j (written p x i new) ≡ digits 8 (sub_word_bytes p) (get_or (words_of p (flipped p x i Q)) j 0)
      go j l (yes e) = rw e (written-here p x i new h.exact li ∙ ap (digits 8 (sub_word_bytes p)) (sym (flipped-here p R x h i li Q r)))
      go j l (no n) =
          written-there p x i new h.exact li j n ∙ old-part j l ∙ ap (digits 8 (sub_word_bytes p)) (sym (flipped-else p R x h i li Q r j n))

-- places that rise: the first c of l
pub rising-places : (n c : ℕ) (l : List ℕ) → c ≤ length l → Rising 0 n (take c l) → Places n c l
rising-places n c l b r = record {
  below = λ j k. rw (get_or-take c l j 0 k) at (rising-at 0 n (take c l) r j (rw (length-take-le c l b) k));
}

-- the same, of a whole list
pub rising-all : (n : ℕ) (Q : List ℕ) → Rising 0 n Q → Places n (length Q) Q
rising-all n Q r = record { below = λ j k. rising-at 0 n Q r j k }

-- ---- the places that are found
module _ (p : Parameters) (A : Accepted p) (y : ℕ) (low : y < 2 ^ stored p) where
  pub found-flips : (Q : List ℕ) → nearest p 0 y ≡ some Q → Flips p 0 y Q
  found-flips Q e = nearest-sound p (accepted p A) 0 zero-le y low Q e

  pub found-rising : (Q : List ℕ) → nearest p 0 y ≡ some Q → Rising 0 (stored p) Q
  found-rising Q e = (found-flips Q e).rising

  pub found-rise : (t : ℕ) (r : RustOption ℕ) (l : List ℕ) → nearest p 0 y ≡ front r l → IfSome r (λ c. c ≤ t) → t ≤ length l
      → IfSome r (λ c. (c ≤ length l) × Rising 0 (stored p) (take c l))
  found-rise t None l e h k = tt
  found-rise t (Some c) l e h k = (Nat.le_trans h k, found-rising (take c l) e)

-- ---- the answer
module _ (p : Parameters) (x : List ℕ) (i : ℕ) (l : List ℕ) (n : ℕ) where
  abbrev refusal : ℕ
  refusal = mend_refusal 1 p x i (length l)

  -- refused before the places are looked for
  pub mend-refused : (e : Refusal) → refusal_number e ≡ word_refusal p x i p.m (length l) (1 * strength p 0)
      → Mended p x x i l l n n (Err e)
  mend-refused e h =
      let r = word_refusal p x i p.m (length l) (1 * strength p 0) in
      let f : refusal_number e ≡ refusal = h ∙ sym (mend-chain 1 p x i (length l) ∙ or-first r _ (rw (← h) (refusal-pos e))) in
      let s = mend-le 1 p x i (length l) in
      (made-refused refusal e _ x f s, made-refused refusal e _ l f s, made-refused refusal e _ (n ∷ []) f s)

  module _ (u : Unrefused p x i p.m (length l) (1 * strength p 0)) where
    left : refusal ≡ (15 when nowhere (mending p x i))
    left =
        mend-left 1 p x i (length l) u.accepted
        (record { exact = u.page.exact; clear = u.page.clear; sub_word = u.index; room = u.list })

    pub mend-nowhere : nearest p 0 (get_or (words_of p x) i 0) ≡ none → Mended p x x i l l n n (Err Refusal.Unmended)
    mend-nowhere e =
        let f : 15 ≡ refusal = sym (left ∙ ap (λ (o : Option (List ℕ)). 15 when nowhere o) (mending-eq p x i ∙ e)) in
        let s = mend-le 1 p x i (length l) in
        (made-refused refusal Refusal.Unmended _ x f s, made-refused refusal Refusal.Unmended _ l f s, made-refused refusal Refusal.Unmended _ (n ∷ []) f s)

    pub mend-made : (Q after listed : List ℕ) (counted : ℕ) → nearest p 0 (get_or (words_of p x) i 0) ≡ some Q → after ≡ flipped p x i Q
        → listed ≡ place_list (strength p 0) Q → counted ≡ length Q → Mended p x after i l listed n counted (Ok tt)
    mend-made Q after listed counted e a b c =
        let m : mending p x i ≡ some Q = mending-eq p x i ∙ e in
        let f : refusal ≡ 0 = left ∙ ap (λ (o : Option (List ℕ)). 15 when nowhere o) m in
        let t : places_of p x i ≡ Q = ap list_of m in (
          made-done refusal _ x after f (a ∙ ap (flipped p x i) (sym t)),
          made-done refusal _ l listed f (b ∙ ap (place_list (strength p 0)) (sym t)),
          made-done refusal _ (n ∷ []) (counted ∷ []) f (ap (λ (k : ℕ). k ∷ []) (c ∙ ap length (sym t))),
        )
