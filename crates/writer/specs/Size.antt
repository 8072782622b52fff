-- At most 4,097 bytes are written: byte 0 and a page of accepted parameters.
use Rattle.std.specs.Prelude.{◌≡◌, refl, ◌⊎◌, List, ℕ, ◌≤◌, ◌<◌, length}
use Rattle.std.proofs.Common.{inl, inr, arith, lit≤}
use Rattle.std.proofs.Math.Nat as Nat
use Rattle.code.specs.Layout.{page_bytes}
use Rattle.code.proofs.Pages.{page-length}
use Rattle.code.specs.Writer.{lead, rest_given, sheet_given, writer}
use Rattle.layout.specs.Sizes.{page-high}
use Rattle.writer.specs.Output.{refusal_of, writer-done, writer-refused}
use Rattle.writer.specs.Sheet.{write-accepted}

module _ (input : List ℕ) where
  pub writer-most : length (writer input) ≤ 4097
  writer-most = go (Nat.eq-zero-or-pos (refusal_of input))
    where
      go : (refusal_of input ≡ 0) ⊎ (0 < refusal_of input) → length (writer input) ≤ 4097
      go (inl z) =
          let A = write-accepted (sheet_given input) (lead input 3) (rest_given input) (page_bytes (sheet_given input)) z in
          rw (writer-done input z) (omega (arith, page-length (sheet_given input) (rest_given input), page-high (sheet_given input) A))
      go (inr h) = rw (writer-refused input (refusal_of input) refl h) (lit≤ tt)
