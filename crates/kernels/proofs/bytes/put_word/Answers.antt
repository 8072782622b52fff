-- The word's bytes are its eight digits: bytes_are.
use Rattle.std.proofs.Common.{◌∙◌, ◌+◌, sym, arith, take, drop, append_assoc}
use Rattle.std.proofs.lemmas.List.Edits.{paste_all}
use Rattle.std.proofs.lemmas.Slice.{put_mid-paste}
use Rattle.polynomial.specs.Digits.{digits, length_digits}
use Rattle.kernels.proofs.Digits.{bytes_are}
use Rattle.kernels.proofs.bytes.put_word.Goals as goal

pub returns : goal.returns
returns c =
    let a = c.args in
    put_mid-paste a.at _ a.dst.now _ (digits 8 8 a.v) 8 (c.copy_from_slice.ensures.after ∙ c.to_le_bytes.ensures ∙ bytes_are a.v) (omega arith) (sym (length_digits 8 8 a.v))
    ∙ paste_all a.dst.now a.at (digits 8 8 a.v) 8 (sym (length_digits 8 8 a.v))
    ∙ sym (append_assoc (take a.at a.dst.now) (digits 8 8 a.v) (drop (a.at + 8) a.dst.now))
