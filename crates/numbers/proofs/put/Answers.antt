-- The number's bytes are its two digits.
use Rattle.std.proofs.Common.{◌≡◌, ◌∙◌, ℕ, ◌+◌, refl, sym, arith, take, drop, append_assoc}
use Rattle.std.proofs.lemmas.List.Edits.{paste_all}
use Rattle.std.proofs.lemmas.Slice.{put_mid-paste}
use Rattle.std.specs.Int.{w16, to_le_bytes}
use Rattle.polynomial.specs.Digits.{digits, length_digits}
use Rattle.numbers.proofs.put.Goals as goal

bytes_are : (x : ℕ) → to_le_bytes w16 x ≡ digits 8 2 x
unfolding digits
bytes_are x = refl

pub returns : goal.returns
returns c =
    let a = c.args in
    let d = digits 8 2 a.x in
    put_mid-paste a.at _ a.list.now _ d 2 (c.copy_from_slice.ensures.after ∙ c.to_le_bytes.ensures ∙ bytes_are a.x) (omega arith) (sym (length_digits 8 2 a.x))
    ∙ paste_all a.list.now a.at d 2 (sym (length_digits 8 2 a.x)) ∙ sym (append_assoc (take a.at a.list.now) d (drop (a.at + 2) a.list.now))
