-- The nodes of Vandermonde's equations, α^(j i), differ.
use Rattle.std.specs.Prelude.{◌≢◌, ℕ, ◌-◌, ◌*◌, ◌≤◌, ◌<◌}
use Rattle.std.proofs.Common.{sym, arith}
use Rattle.std.proofs.Math.Decide.{dec_le}
use Rattle.field.specs.Field.{Field2, pow}
use Rattle.field.specs.Fields.{BinaryField, field_of}
use Rattle.code.specs.declared.Parameters.{Parameters}
use Rattle.code.specs.Accepted.{Rules}
use Rattle.code.specs.Nest.{node}
use Rattle.code.specs.Parameters.{strength}
use Rattle.code.proofs.Accepted.{lawful}
use Rattle.code.proofs.Distance.{pow-differ, root-apart, root≢zero}
use Rattle.code.proofs.Values.{Lawful}

module _ (p : Parameters) (R : Rules p) where
  abbrev B : BinaryField
  B = field_of p.q

  abbrev F : Field2
  F = B.field

  abbrev α : F.K
  α = B.α

  L : Lawful B.field B.α p
  L = lawful p R

  pub node-apart : (j i k : ℕ) → 0 < j → j ≤ 2 * strength p p.v → i < p.m → k < p.m → i ≢ k → node B j i ≢ node B j k
  node-apart j i k h b hi hk d = or (dec_le i k)
    where
      or : Dec (i ≤ k) → node B j i ≢ node B j k
      or (yes l) e = pow-differ F (pow F α j) (root≢zero F α p L j) i k l (root-apart F α p L j h b (k - i) (omega arith) (omega arith)) (sym e)
      or (no l) e = pow-differ F (pow F α j) (root≢zero F α p L j) k i (omega arith) (root-apart F α p L j h b (i - k) (omega arith) (omega arith)) e
