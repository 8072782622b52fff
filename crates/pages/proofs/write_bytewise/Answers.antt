use mathlib.Core.Path.{◌∙◌}
use Rattle.code.specs.Code.{level}
use Rattle.encode.specs.Loaded.{loaded_bytes, short-up}
use Rattle.pages.proofs.write_bytewise.Goals as goal

pub build-requires : goal.build-requires
build-requires c = (c.requires.4, c.requires.2.words, short-up c.args.p (level c.args.p c.args.to) c.args.t.now c.requires.2 c.requires.3)

pub write_pages-requires : goal.write_pages-requires
write_pages-requires c =
    let a = c.args in
    let l = c.requires.1 in (
      c.requires.0,
      record {
        rising = l.rising;
        inside = l.inside;
        loaded = λ i h j. rw (l.levels i h j) (loaded_bytes a.p (level a.p a.to) _
            (record { hex = a.t.now; prepared = c.requires.2; words = c.build.auto.b ∙ c.requires.4; widened = c.build.ensures; short = c.requires.3 }));
      },
      c.requires.5,
    )
