use Rattle.search.specs.Slots.{group-five}
use Rattle.search.specs.Values.{adding-same}
use Rattle.search.proofs.add_group.Goals as goal

pub slot_of-a-requires : goal.slot_of-a-requires
slot_of-a-requires c = (c.requires.0.field, c.requires.0.logs, c.requires.1, c.requires.2, c.requires.3)

pub slot_of-b-requires : goal.slot_of-b-requires
slot_of-b-requires c = (c.requires.0.field, c.requires.0.logs, c.requires.1, c.requires.2, c.requires.3)

pub slot_of-c-requires : goal.slot_of-c-requires
slot_of-c-requires c = (c.requires.0.field, c.requires.0.logs, c.requires.1, c.requires.2, c.requires.3)

pub slot_of-d-requires : goal.slot_of-d-requires
slot_of-d-requires c = (c.requires.0.field, c.requires.0.logs, c.requires.1, c.requires.2, c.requires.3)

pub slot_of-e-requires : goal.slot_of-e-requires
slot_of-e-requires c = (c.requires.0.field, c.requires.0.logs, c.requires.1, c.requires.2, c.requires.3)

pub add_five-requires : goal.add_five-requires
add_five-requires c = (
  c.requires.0,
  c.requires.5,
  c.requires.6,
  c.slot_of-a.ensures.sound,
  c.slot_of-b.ensures.sound,
  c.slot_of-c.ensures.sound,
  c.slot_of-d.ensures.sound,
  c.slot_of-e.ensures.sound,
)

pub returns : goal.returns
returns c =
    let a = c.args in
    adding-same (group-five a.f.q a.sig.now a.l a.i _ _ _ _ _ c.slot_of-a.ensures c.slot_of-b.ensures c.slot_of-c.ensures c.slot_of-d.ensures
    c.slot_of-e.ensures) c.add_five.ensures
