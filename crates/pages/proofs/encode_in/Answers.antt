use mathlib.Core.Path.{◌≡◌, refl, sym, ◌∙◌}
use native.Mathlib.Nat as Nat
use native.Mathlib.Omega.{arith}
use Prim.Native.Nat.{ℕ, ◌≤◌}
use lib.ListN.{length, take, replicate, length-take}
use Rattle.layout.specs.Sizes.{word-high}
use Rattle.encode.specs.Carried.{room_bytes}
use Rattle.pages.specs.Filling.{begun-start, level-last, same-given, stage-done, stage-next}
use Rattle.pages.proofs.encode_in.Goals as goal
use Rattle.pages.proofs.encode_in.Goals.{After-room_bytes-k}

-- the room suffices
fit : (c : After-room_bytes-k) → c.room_bytes-k.result ≤ 520
fit c = omega (arith, c.room_bytes-k.ensures, word-high c.args.p c.requires.0.accepts)

size : (c : After-room_bytes-k) → length {A = ℕ} (take c.room_bytes-k.result (replicate 520 0)) ≡ room_bytes c.args.p
size c = length-take c.room_bytes-k.result (replicate {A = ℕ} 520 0) ∙ Nat.min-eq_left (fit c) ∙ c.room_bytes-k.ensures

pub room_bytes-k-requires : goal.room_bytes-k-requires
room_bytes-k-requires c = c.requires.0.accepts

pub slice_bounds-room-end : goal.slice_bounds-room-end
slice_bounds-room-end c = fit (goal.at.slice_bounds-room-end c).After-room_bytes-k

pub slice_bounds-acc-end : goal.slice_bounds-acc-end
slice_bounds-acc-end c = sym (length-take c.room_bytes-k.result _ ∙ Nat.min-eq_left (fit (goal.at.slice_bounds-acc-end c).After-room_bytes-k))

pub write_level-requires : goal.write_level-requires
write_level-requires c =
    let a = c.args in
    let g = c.requires.0 in (
      record { filling = record { given = g; room = size (goal.at.write_level-requires c).After-room_bytes-k }; rowed = c.requires.1; table = refl },
      level-last a.p g.accepts,
      begun-start a.p a.blocks.now a.list.now a.pages.now g.pages-exact,
    )

pub write_earlier-requires : goal.write_earlier-requires
write_earlier-requires c =
    let a = c.args in
    let e = c.write_level.ensures in (
      record {
        filling = record {
          given = same-given a.p a.w.now a.blocks.now a.pages.now _ a.list.now a.width e.exact c.requires.0;
          room = c.acc-1.given ∙ size (goal.at.write_earlier-requires c).After-room_bytes-k;
        };
        rowed = c.requires.1;
        table = c.t-1.given;
      },
      e.begun,
    )

pub returns : goal.returns
returns c =
    let a = c.args in
    stage-done a.p a.w.now a.blocks.now a.list.now a.pages.now _ a.width c.requires.0 (λ i. (c.type_inv.blocks i).fits)
    (stage-next a.p a.blocks.now a.list.now a.pages.now _ _ a.p.v 0 c.write_level.ensures c.write_earlier.ensures)
