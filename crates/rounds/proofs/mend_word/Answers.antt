use mathlib.Core.Path.{sym}
use native.Mathlib.Nat as Nat
use Rattle.rounds.specs.Found.{asked-below, asked-few, found-rise, settled-found}
use Rattle.rounds.proofs.mend_word.Goals as goal

pub settle-requires : goal.settle-requires
settle-requires c =
    let a = c.args in
    let f = c.find-found in (
      c.requires.0.accepts,
      c.requires.3,
      asked-below c.requires.0 c.requires.1 a.i c.requires.2,
      found-rise a.p c.requires.0.accepts a.a c.requires.1.level a.rows.now a.ks.now a.i a.k f.result f.new.list f.ensures.0 f.ensures.1
          (Nat.le_trans (asked-few c.requires.0 c.requires.1 a.i c.requires.2) (Nat.le_of_eq (sym c.list-2-1.given))),
    )

pub returns : goal.returns
returns c = settled-found c.args.p c.args.page.now c.args.i _ c.find-found.result c.find-found.new.list _ _ c.find-found.ensures.0 c.settle.ensures
