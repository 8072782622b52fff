use mathlib.Core.Path.{◌≡◌, refl, sym, ap, ◌∙◌}
use Prim.Native.Nat.{ℕ, ◌<◌}
use native.Mathlib.Nat as Nat
use native.Mathlib.Omega.{arith}
use lib.Dec.{lit≤}
use lib.ListN.{length, get_or}
use Rattle.field.specs.Flips.{Rising}
use Rattle.code.proofs.Accepted.{accepted}
use Rattle.code.specs.Code.{nearest}
use Rattle.code.specs.Layout.{words_of}
use Rattle.code.specs.Lists.{range}
use Rattle.code.specs.Nest.{alone, start, start-broken, start-words}
use Rattle.code.proofs.Pages.{length-range}
use Rattle.code.proofs.Rounds.{range-rising}
use Rattle.mend.specs.Settled.{pass-first, pass-last, pass-next, pass-word}
use Rattle.alone.specs.Alone.{range_at}
use Rattle.alone.proofs.mend_words.Goals as goal
use Rattle.alone.proofs.mend_words.Goals.{In-loop-i}

-- a turn of the loop
module _ (t : In-loop-i) where
  inside : t.loop-i.i < length (range 0 t.args.p.m)
  inside = rw (length-range 0 t.args.p.m) t.loop-i-test.true

  rises : Rising 0 t.args.p.m (range 0 t.args.p.m)
  rises = range-rising 0 t.args.p.m t.args.p.m (Nat.zero-add t.args.p.m)

  here : get_or (range 0 t.args.p.m) t.loop-i.i 0 ≡ t.loop-i.i
  here = range_at 0 t.args.p.m t.loop-i.i t.loop-i-test.true ∙ Nat.zero-add t.loop-i.i

  few : t.loop-i.i < 8
  few = Nat.lt_of_lt_of_le t.loop-i-test.true (accepted t.args.p t.requires.0.accepts).m-high

  -- the word is as it was
  same : nearest t.args.p 0 (get_or (words_of t.args.p t.loop-i.page) t.loop-i.i 0) ≡ alone t.args.p (words_of t.args.p t.args.page.now) (get_or (range 0 t.args.p.m) t.loop-i.i 0)
  same =
      ap (λ (i : ℕ). nearest t.args.p 0 (get_or (words_of t.args.p t.loop-i.page) i 0)) (sym here)
      ∙ ap (nearest t.args.p 0) (pass-word t.args.p (alone t.args.p (words_of t.args.p t.args.page.now)) (range 0 t.args.p.m) (words_of t.args.p t.args.page.now) t.loop-i.page t.loop-i.broken t.loop-i.i t.loop-i.b t.loop-i.invariant inside rises)

pub loop-i-init : goal.loop-i-init
loop-i-init c =
    let a = c.args in
    let ws = words_of a.p a.page.now in
    (pass-first a.p (alone a.p ws) (range 0 a.p.m) ws a.page.now a.broken.now c.requires.3 refl c.requires.4)

pub overflow_cast-i : goal.overflow_cast-i
overflow_cast-i c = record { fits = Nat.lt_of_lt_of_le (few (goal.at.overflow_cast-i c).In-loop-i) (lit≤ tt) }

pub note-b-requires : goal.note-b-requires
note-b-requires c = omega (arith, few (goal.at.note-b-requires c).In-loop-i, c.loop-i.invariant.room, c.loop-i.invariant.size)

pub loop-i-preserved : goal.loop-i-preserved
loop-i-preserved c =
    let o = nearest c.args.p 0 (get_or (words_of c.args.p c.loop-i.page) c.loop-i.i 0) in
    (pass-next c.args.p (alone c.args.p (words_of c.args.p c.args.page.now)) (range 0 c.args.p.m) (words_of c.args.p c.args.page.now) c.loop-i.page c.loop-i.broken c.loop-i.i c.loop-i.b c.loop-i.invariant (inside (goal.at.loop-i-preserved c).In-loop-i) (rises (goal.at.loop-i-preserved c).In-loop-i) o _ _ _ _
    (same (goal.at.loop-i-preserved c).In-loop-i) (rw (here (goal.at.loop-i-preserved c).In-loop-i) c.mend_word-found.ensures.0) c.mend_word-found.ensures.1 c.note-b.ensures.0 c.note-b.auto.list (rw (here (goal.at.loop-i-preserved c).In-loop-i) c.note-b.ensures.1))

pub returns : goal.returns
returns c =
    let p = c.args.p in
    let ws = words_of p c.args.page.now in
    pass-last p (alone p ws) (range 0 p.m) ws c.loop-i.page c.loop-i.broken c.loop-i.i c.loop-i.b c.loop-i.invariant
    (rw (length-range 0 p.m) (omega (arith, c.loop-i-test.false))) (Nat.le_trans c.loop-i.auto.i-end (accepted p c.requires.0.accepts).m-high)
    (start p ws) (start-words p ws) (start-broken p ws)
