use Rattle.std.proofs.Common.{refl, rules, tests, arith, length-take-le, length-drop, get_or-take, get_or-drop, zero-le, ◌≡◌, ◌+◌, ◌-◌, ◌≤◌, ◌<◌, ℕ, Bool, true, false, List, length, get_or, take, drop, sym, ap, ◌∙◌}
use Rattle.std.proofs.lemmas.Iterator.{YieldsList-from_slice, cases_from_all}
use Rattle.std.specs.Bool.{MatchBool}
use Rattle.std.specs.List.{AllWithin, HoldsAt}
use Rattle.layout.specs.Runs.{OnesFound}
use Rattle.layout.proofs.bytes_ones.Goals as goal

-- the bytes from `at` on up to `end` by themselves
module _ (l : List ℕ) (at end : ℕ) (h : at ≤ end) (e : end ≤ length l) where
  abbrev run : List ℕ
  run = take (end - at) (drop at l)

  size : length run ≡ end - at
  size = length-take-le (end - at) (drop at l) (rw (length-drop at l) (omega arith))

  byte : (k : ℕ) → k < end - at → get_or run k 0 ≡ get_or l (at + k) 0
  byte k b = get_or-take (end - at) (drop at l) k 0 b ∙ get_or-drop at l k 0

  found : (r : Bool) → MatchBool r (AllWithin (λ x. x ≡ 255) run 0 (length run)) ((k : ℕ) × (k < length run) × HoldsAt (λ x. x ≡ 255 → ⊥) run k)
      → OnesFound l at end r
  found true a = record {
    all = λ t i u j.
        let k : i - at < end - at = omega arith in
        let o : at + (i - at) ≡ i = omega arith in
        ap (λ (n : ℕ). get_or l n 0) (sym o) ∙ sym (byte (i - at) k) ∙ a (i - at) 0 zero-le (rw size k);
    none = λ f. refl;
  }
  found false a = record {
    all = λ t. absurd (cc);
    none = λ f. let k : a.0 < end - at = rw size at a.1 in absurd (a.2 0 (byte a.0 k ∙ f (at + a.0) (omega arith) (omega arith)));
  }

pub returns : goal.returns
returns c =
    found c.args.bytes.now c.args.at c.args.end c.requires.0 c.requires.1 c.all.result
    (cases_from_all _ _ _ (λ x. x ≡ 255) (λ x. x ≡ 255 → ⊥) c.all.ensures.ran (YieldsList-from_slice _ c.iter.ensures.rest)
    (λ x q k. search (rules, tests)) (λ x q k. search (rules, tests)))
