use Rattle.std.specs.Prelude.{refl, ◌≤◌, length, take}
use Rattle.field.specs.Flips.{Rising}
use Rattle.code.specs.Parameters.{stored}
use Rattle.mend.specs.Call.{rising-all}
use Rattle.mend.specs.Settled.{settled-some}
use Rattle.mend.proofs.settle.Goals as goal
use Rattle.mend.proofs.settle.Goals.{In-Some}

-- the places that are found
places : (i : In-Some) → (i.in-Some.c ≤ length i.args.list.now) × Rising 0 (stored i.args.p) (take i.in-Some.c i.args.list.now)
places i = rw i.in-Some.is at i.requires.3

pub flip_in-requires : goal.flip_in-requires
flip_in-requires c =
    let a = c.args in
    (c.requires.0, c.requires.1.exact, c.requires.2, rising-all (stored a.p) (take c.in-Some.c a.list.now) (places (goal.at.flip_in-requires c).In-Some).1)

pub returns : goal.returns
returns c =
    let a = c.args in
    rw c.in-Some.is (settled-some a.p c.requires.0 a.page.now c.requires.1 a.i c.requires.2 (take c.in-Some.c a.list.now) _ (places (goal.at.returns c).In-Some).1 c.flip_in.ensures, refl)
