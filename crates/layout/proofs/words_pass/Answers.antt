use Rattle.std.proofs.Common.{rules, tests, arith, refl, ◌≡◌, ◌∙◌, ◌&&◌, ◌+◌, ◌*◌, ◌/◌, ◌≤◌, ◌<◌, ℕ, zero, suc, Bool, true, false, List, length}
use Rattle.std.proofs.Math.Nat as Nat
use Rattle.std.proofs.lemmas.Iterator.{YieldsList-from_range, serves_from_Range}
use Rattle.std.proofs.lemmas.Iterator.Search.{all_from_yields_List}
use Rattle.std.specs.List.{list_all, range_with_len}
use Rattle.code.specs.declared.Parameters.{Parameters}
use Rattle.code.specs.Layout.{words_of}
use Rattle.code.specs.Lists.{each}
use Rattle.code.specs.Parameters.{Accepted, stored, sub_word_bytes}
use Rattle.layout.specs.Runs.{run_passes}
use Rattle.layout.specs.Sizes.{page-high}
use Rattle.layout.specs.Tested.{WordsPassed, word_bits, word-there, words-start, words-turn, words-found, words-done}
use Rattle.layout.proofs.words_pass.Goals as goal

pub all-requires-clause-callable : goal.all-requires-clause-callable
all-requires-clause-callable g c =
    serves_from_Range (λ x q k. search (rules, tests))
    (λ x h j.
    let t : (1 ≤ c.stored_of-n.result) × (c.stored_of-n.result < 4096) × (c.sub_word_bytes-b.result ≡ (c.stored_of-n.result + 7) / 8)
    × (x * c.sub_word_bytes-b.result + c.sub_word_bytes-b.result ≤ length c.args.page.now) =
    word-there c.args.p c.args.page.now c.requires.lengths.0 x _ _ j c.stored_of-n.ensures c.sub_word_bytes-b.ensures c.requires.lengths.1 in
    let m : length c.args.page.now ≤ 4096 = rw c.requires.lengths.1 (page-high c.args.p c.requires.lengths.0) in
    search rules)

-- the sub-words from i on, n of them, after i that pass
module _ (P : ℕ → ℕ → Bool) (p : Parameters) (x : List ℕ) (A : Accepted p) (b k : ℕ) (e : b ≡ stored p) (f : k ≡ sub_word_bytes p) where
  abbrev test : ℕ → Bool
  test i = run_passes P x (i * k) k b

  abbrev all : ℕ → ℕ → Bool
  all i n = list_all test (range_with_len i n)

  turn : (i n : ℕ) → i < p.m → WordsPassed P p x i → (WordsPassed P p x (i + 1) → all (i + 1) n ≡ each P (word_bits p) (words_of p x))
      → (t : Bool) → test i ≡ t → (t && all (i + 1) n) ≡ each P (word_bits p) (words_of p x)
  turn i n h s r true t = r (words-turn P p x A i b k h e f s t)
  turn i n h s r false t = words-found P p x A i b k h e f s t

  from : (n i : ℕ) → i + n ≡ p.m → WordsPassed P p x i → all i n ≡ each P (word_bits p) (words_of p x)
  from zero i h s = words-done P p x i s (omega arith)
  from (suc n) i h s = turn i n (omega arith) s (from n (i + 1) (omega arith)) (test i) refl

pub returns : goal.returns
returns g c = λ P h.
    let a = c.args in
    all_from_yields_List (test P a.p a.page.now c.requires.lengths.0 _ _ c.stored_of-n.ensures c.sub_word_bytes-b.ensures) _ _ _ c.all.ensures.ran
    (YieldsList-from_range 0 a.p.m a.p.m refl (Nat.sub-zero a.p.m)) (λ x b q k. (search rules, h c.args.page _ _ _ b refl (search rules)))
    ∙ from P a.p a.page.now c.requires.lengths.0 _ _ c.stored_of-n.ensures c.sub_word_bytes-b.ensures a.p.m 0 (Nat.zero-add a.p.m) (words-start P a.p a.page.now)
