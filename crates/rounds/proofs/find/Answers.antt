use mathlib.Core.Path.{◌≡◌, sym}
use Prim.Native.Nat.{ℕ}
use native.Mathlib.Nat as Nat
use native.Mathlib.Omega.{arith}
use lib.ListN.{length, replicate, take}
use lib.Seq.{length-take-le}
use Rattle.code.proofs.Accepted.{accepted}
use Rattle.code.proofs.Pages.{zeros-length}
use Rattle.rounds.specs.Found.{asked-few, asked-short, asked-small, asked-stored, found-located, odd-below, odd-size, others-nodes, others-small, others-two}
use Rattle.rounds.proofs.find.Goals as goal
use Rattle.rounds.proofs.find.Goals.{After-others_into-c}

-- the room for the odd syndromes
size : (o : After-others_into-c) → length {A = ℕ} (take o.args.k (replicate 64 0)) ≡ o.args.k
size o = zeros-length o.args.k 64 (asked-few o.requires.0 o.requires.1 o.args.i o.requires.2)

pub others_into-c-requires : goal.others_into-c-requires
others_into-c-requires c = omega (arith, c.requires.1.few, (accepted _ c.requires.0.accepts).v_high)

pub slice_bounds-room-end : goal.slice_bounds-room-end
slice_bounds-room-end c = asked-few c.requires.0 c.requires.1 c.args.i c.requires.2

pub slice_bounds-odd-end : goal.slice_bounds-odd-end
slice_bounds-odd-end c = sym (size (goal.at.slice_bounds-odd-end c).After-others_into-c)

pub slice_bounds-near-end : goal.slice_bounds-near-end
slice_bounds-near-end c = omega (arith, c.others_into-c.ensures.0, c.requires.1.few, (accepted _ c.requires.0.accepts).v_high)

pub slice_bounds-error_into-end : goal.slice_bounds-error_into-end
slice_bounds-error_into-end c = sym (length-take-le _ _ (omega (arith, c.near-2-1.given, c.others_into-c.ensures.0, c.requires.1.few, (accepted _ c.requires.0.accepts).v_high)))

pub error_into-requires : goal.error_into-requires
error_into-requires c =
    let l = c.others_into-c.ensures.1 in (
      c.requires.0.tables,
      rw c.requires.0.field c.requires.1.below,
      c.requires.1.size,
      others-two c.requires.0 c.requires.1 c.args.i c.requires.2 _ l,
      Nat.le_trans (Nat.le_of_eq (size (goal.at.error_into-requires c).After-others_into-c)) (asked-few c.requires.0 c.requires.1 c.args.i c.requires.2),
      asked-small c.requires.0 c.requires.1 c.args.i c.requires.2,
      others-small c.requires.0 c.requires.1 c.args.i c.requires.2 _ l,
      others-nodes c.requires.0 c.requires.1 c.args.i c.requires.2 _ l _ (size (goal.at.error_into-requires c).After-others_into-c),
    )

pub locate-requires : goal.locate-requires
locate-requires c =
    let l = c.others_into-c.ensures.1 in (
      c.requires.0.tables,
      odd-below c.requires.0 c.requires.1 c.args.i c.requires.2 _ l _ (size (goal.at.locate-requires c).After-others_into-c) _ c.error_into.ensures,
      asked-few c.requires.0 c.requires.1 c.args.i c.requires.2,
      odd-size c.requires.0 c.requires.1 c.args.i c.requires.2 _ l _ (size (goal.at.locate-requires c).After-others_into-c) _ c.error_into.ensures,
      asked-short c.requires.0 c.requires.1 c.args.i c.requires.2,
      asked-stored c.requires.0 c.requires.1 c.args.i c.requires.2 _ c.stored_of-z.ensures,
      Nat.le_trans (asked-few c.requires.0 c.requires.1 c.args.i c.requires.2) (Nat.le_of_eq (sym c.requires.3)),
    )

pub returns : goal.returns
returns c = (found-located c.requires.0 c.requires.1 c.args.i c.requires.2 _ c.others_into-c.ensures.1 _ (size (goal.at.returns c).After-others_into-c) _ c.error_into.ensures _ c.stored_of-z.ensures _ c.locate.ensures.0, c.locate.ensures.1)
