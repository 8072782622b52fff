use Rattle.std.proofs.Common.{inl, inr, sym, ◌∙◌, ◌≡◌, ◌≤◌, ◌<◌, true, false, leb-true, leb-false}
use Rattle.code.specs.Parameters.{place_fits, strengths_fit}
use Rattle.sheet.specs.Rules.{strengths-t0, strengths-t1, strengths-place, strengths-place-3, strengths-high, strengths-rest}
use Rattle.sheet.proofs.strengths_fit.Goals as goal
use Rattle.sheet.proofs.strengths_fit.Goals.{Joined-place_fits-2, then-place_fits-2, else-place_fits-2, then-place_fits, else-place_fits, then-p, else-p}

-- what the tests have shown, where they passed
module _ (c : Joined-place_fits-2) where
  two : c.if-p.value ≡ true → (1 ≤ c.args.p.t0) × (c.args.p.t0 < c.args.p.t1) × (true ≡ place_fits c.args.p 2)
  two e = elim c.if-p.branch [
    | then-p w ↦ (w.if-p.true.0, w.if-p.true.1, sym e ∙ w.value-is ∙ w.place_fits.ensures)
    | else-p w ↦ absurd (cc)
  ]

  three : c.if-place_fits.value ≡ true → (c.if-p.value ≡ true) × (true ≡ place_fits c.args.p 3)
  three e = elim c.if-place_fits.branch [
    | then-place_fits w ↦ (w.if-place_fits.true, sym e ∙ w.value-is ∙ w.place_fits-then-place_fits.ensures)
    | else-place_fits w ↦ absurd (cc)
  ]

  four : c.if-place_fits-2.value ≡ true → (c.if-place_fits.value ≡ true) × (c.strength_at-t.result ≤ 64)
  four e = elim c.if-place_fits-2.branch [
    | then-place_fits-2 w ↦ (w.if-place_fits-2.true, leb-true _ _ (sym w.value-is ∙ e))
    | else-place_fits-2 w ↦ absurd (cc)
  ]

  refused : c.if-place_fits-2.value ≡ false → false ≡ strengths_fit c.args.p
  refused e = elim c.if-place_fits-2.branch [
    | then-place_fits-2 w ↦
        let d = three w.if-place_fits-2.true in
        let b = two d.0 in
        strengths-high c.args.p c.strength_at-t.result b.0 b.1 b.2 d.1 c.strength_at-t.ensures (leb-false _ _ (sym w.value-is ∙ e))
    | else-place_fits-2 w ↦ elim c.if-place_fits.branch [
      | then-place_fits u ↦
          let b = two u.if-place_fits.true in
          strengths-place-3 c.args.p b.0 b.1 b.2 (sym w.if-place_fits-2.false ∙ u.value-is ∙ u.place_fits-then-place_fits.ensures)
      | else-place_fits u ↦ elim c.if-p.branch [
        | then-p v ↦ strengths-place c.args.p v.if-p.true.0 v.if-p.true.1 (sym u.if-place_fits.false ∙ v.value-is ∙ v.place_fits.ensures)
        | else-p v ↦ elim v.if-p.either [
          | inl h ↦ strengths-t1 c.args.p h.0 h.1
          | inr h ↦ strengths-t0 c.args.p h
        ]
      ]
    ]
  ]

pub returns-then-t-le64 : goal.returns-then-t-le64
returns-then-t-le64 c =
    let so = (goal.at.returns-then-t-le64 c).Joined-place_fits-2 in
    let f = four so c.if-t-le64.true in
    let d = three so f.0 in
    let b = two so d.0 in
    strengths-rest c.args.p c.strength_at-t.result c.args.n b.0 b.1 b.2 d.1 c.strength_at-t.ensures f.1 c.requires.0

pub returns-else-t-le64 : goal.returns-else-t-le64
returns-else-t-le64 c = c.if-t-le64.false ∙ refused (goal.at.returns-else-t-le64 c).Joined-place_fits-2 c.if-t-le64.false
