-- The eight bytes are the word, also where some are past the end: eight_is.
use Rattle.std.proofs.Common.{◌≡◌, ◌∙◌, ℕ, ◌+◌, ◌<◌, List, ap, arith, rules, add-zero, get_or}
use Rattle.kernels.specs.Bytes.{eight, eight_is}
use Rattle.kernels.proofs.bits.word_at.Goals as goal
use Rattle.kernels.proofs.bits.word_at.Goals.{After-from_fn}

each : (c : After-from_fn) → (k : ℕ) → k < 8 → get_or c.from_fn.result k 0 ≡ get_or c.args.s.now (c.args.at + k) 0
each c = search rules

same_eight : (l s : List ℕ) (at : ℕ) → ((k : ℕ) → k < 8 → get_or l k 0 ≡ get_or s (at + k) 0) → eight l 0 ≡ eight s at
same_eight l s at h =
    let h0 : get_or l 0 0 ≡ get_or s at 0 = h 0 (omega arith) ∙ ap (λ (k : ℕ). get_or s k 0) (add-zero at) in
    let h1 : get_or l 1 0 ≡ get_or s (at + 1) 0 = h 1 (omega arith) in
    let h2 : get_or l 2 0 ≡ get_or s (at + 2) 0 = h 2 (omega arith) in
    let h3 : get_or l 3 0 ≡ get_or s (at + 3) 0 = h 3 (omega arith) in
    let h4 : get_or l 4 0 ≡ get_or s (at + 4) 0 = h 4 (omega arith) in
    let h5 : get_or l 5 0 ≡ get_or s (at + 5) 0 = h 5 (omega arith) in
    let h6 : get_or l 6 0 ≡ get_or s (at + 6) 0 = h 6 (omega arith) in
    let h7 : get_or l 7 0 ≡ get_or s (at + 7) 0 = h 7 (omega arith) in
    omega arith

pub returns-else-at-s : goal.returns-else-at-s
returns-else-at-s c =
    let s = c.args.s.now in
    let at = c.args.at in
    c.from_le_bytes.ensures ∙ same_eight c.from_fn.result s at (each (goal.at.returns-else-at-s c).After-from_fn)
    ∙ eight_is s (λ k. (c.type_inv.s k).fits) at
