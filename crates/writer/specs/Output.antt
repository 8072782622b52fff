-- The writer's output: one byte where it refuses, byte 0 and the page where it does not.
--   refusal_of input    the refusal's number, 0 for none
--   page_given input    the page of the blocks
use Rattle.std.specs.Prelude.{◌≡◌, List, [], ◌∷◌, ℕ, ◌<◌, replicate}
use Rattle.std.proofs.Math.Path.{refl}
use Rattle.code.specs.Layout.{page_bytes, page_of}
use Rattle.code.specs.Refusals.{write_refusal}
use Rattle.code.specs.Writer.{Wrote, lead, output_of, rest_given, sheet_given, writer}
use Rattle.given.specs.Output.{output-done, output-refused, puts-refused}

abbrev pub refusal_of : List ℕ → ℕ
refusal_of input = write_refusal (sheet_given input) (lead input 3) (rest_given input) (page_bytes (sheet_given input))

abbrev pub page_given : List ℕ → List ℕ
page_given input = page_of (sheet_given input) (rest_given input)

module _ (input : List ℕ) where
  pub writer-eq : writer input ≡ output_of (refusal_of input) (page_given input)
  unfolding writer
  writer-eq = refl

  pub writer-refused : (k : ℕ) → k ≡ refusal_of input → 0 < k → writer input ≡ k ∷ []
  writer-refused = output-refused (writer input) (refusal_of input) (page_given input) writer-eq

  pub writer-done : refusal_of input ≡ 0 → writer input ≡ 0 ∷ page_given input
  writer-done = output-done (writer input) (refusal_of input) (page_given input) writer-eq

  pub wrote-refused : (k count : ℕ) (bytes : List ℕ) → k ≡ refusal_of input → 0 < k → count ≡ 1 → bytes ≡ k ∷ replicate 4096 0
      → Wrote input count bytes
  wrote-refused = puts-refused (writer input) (refusal_of input) (page_given input) writer-eq
