use mathlib.Core.Path.{◌∙◌}
use Rattle.pages.specs.Filling.{passing-begun, passing-done, passing-next, passing-start, same-given}
use Rattle.pages.proofs.write_pages.Goals as goal

pub loop-k-init : goal.loop-k-init
loop-k-init c =
    let a = c.args in
    (passing-start a.p a.blocks.now a.list.now a.pages.now a.to, c.requires.0.room)

pub write_page-requires : goal.write_page-requires
write_page-requires c =
    let a = c.args in
    let i = c.loop-k.invariant in (
      record {
        given = same-given a.p a.w.now a.blocks.now a.pages.now c.loop-k.pages a.list.now a.width i.0.exact c.requires.0.given;
        room = i.1;
      },
      c.loop-k-test.true,
      c.requires.1,
      passing-begun a.p a.blocks.now a.list.now a.pages.now c.loop-k.pages a.to c.loop-k.k a.from i.0 (c.requires.2 c.loop-k.k c.loop-k-test.true),
    )

pub loop-k-preserved : goal.loop-k-preserved
loop-k-preserved c =
    let a = c.args in (
      passing-next a.p a.blocks.now a.list.now a.pages.now c.loop-k.pages _ a.to c.loop-k.k c.loop-k.invariant.0 c.write_page.ensures,
      c.acc-1.given ∙ c.loop-k.invariant.1,
    )

pub returns : goal.returns
returns c =
    let a = c.args in
    passing-done a.p a.blocks.now a.list.now a.pages.now c.loop-k.pages a.to c.loop-k.k c.loop-k-test.false c.loop-k.invariant.0
