use mathlib.Core.Path.{◌≡◌, sym, ap, ◌∙◌}
use mathlib.Core.Bool.{true, not}
use native.Mathlib.Omega.{arith}
use Prim.Native.Nat.{ℕ, ◌*◌, ◌≤◌}
use Rattle.code.specs.Layout.{data_bytes, page_bytes}
use Rattle.code.specs.Refusals.{bad_count, bad_width}
use Rattle.layout.specs.Parts.{bytes_high}
use Rattle.layout.specs.Sizes.{page-high}
use Rattle.refusal.specs.Many.{count-high, many-blocks, many-count, many-else, many-list, many-pages, many-width, runs-high}
use Rattle.refusal.proofs.many_refusal.Goals as goal
use Rattle.refusal.proofs.many_refusal.Goals.{Else-blocks-c, Else-not-count_good, Else-not-width_good, Else-pages-c}

-- what the tests have shown so far
wide : (c : Else-not-width_good) → true ≡ not (bad_width c.args.width)
wide c = sym c.if-not-width_good.false ∙ c.width_good.ensures

few : (c : Else-not-count_good) → true ≡ not (bad_count c.args.count)
few c = sym c.if-not-count_good.false ∙ c.count_good.ensures

blocks-fit : (c : Else-blocks-c) → (let a = c.args in a.blocks ≡ a.count * data_bytes a.p)
blocks-fit c = let a = c.args in c.if-blocks-c.false ∙ ap (λ (n : ℕ). a.count * n) c.data_bytes.ensures

pages-fit : (c : Else-pages-c) → (let a = c.args in a.pages ≡ a.count * page_bytes a.p)
pages-fit c = let a = c.args in c.if-pages-c.false ∙ ap (λ (n : ℕ). a.count * n) c.page_bytes.ensures

pub returns-then-not-width_good : goal.returns-then-not-width_good
returns-then-not-width_good c =
    let a = c.args in
    many-width a.p a.width a.count a.blocks a.pages a.list c.requires.0 (sym c.if-not-width_good.true ∙ c.width_good.ensures)

pub returns-then-not-count_good : goal.returns-then-not-count_good
returns-then-not-count_good c =
    let a = c.args in
    many-count a.p a.width a.count a.blocks a.pages a.list c.requires.0 (wide (goal.at.returns-then-not-count_good c).Else-not-width_good) (sym c.if-not-count_good.true ∙ c.count_good.ensures)

pub overflow_mul-c : goal.overflow_mul-c
overflow_mul-c c =
    let a = c.args in
    let h : a.count * c.data_bytes.result ≤ 65536 = runs-high a.count c.data_bytes.result (data_bytes a.p) (count-high a.count (few (goal.at.overflow_mul-c c).Else-not-count_good)) c.data_bytes.ensures (bytes_high a.p c.requires.0) in
    omega arith

pub returns-then-blocks-c : goal.returns-then-blocks-c
returns-then-blocks-c c =
    let a = c.args in
    many-blocks a.p a.width a.count a.blocks a.pages a.list c.requires.0 (wide (goal.at.returns-then-blocks-c c).Else-not-width_good) (few (goal.at.returns-then-blocks-c c).Else-not-count_good) (λ z. c.if-blocks-c.true (z ∙ ap (λ (n : ℕ). a.count * n) (sym c.data_bytes.ensures)))

pub overflow_mul-c-2 : goal.overflow_mul-c-2
overflow_mul-c-2 c =
    let a = c.args in
    let h : a.count * c.page_bytes.result ≤ 65536 = runs-high a.count c.page_bytes.result (page_bytes a.p) (count-high a.count (few (goal.at.overflow_mul-c-2 c).Else-not-count_good)) c.page_bytes.ensures (page-high a.p c.requires.0) in
    omega arith

pub returns-then-pages-c : goal.returns-then-pages-c
returns-then-pages-c c =
    let a = c.args in
    many-pages a.p a.width a.count a.blocks a.pages a.list c.requires.0 (wide (goal.at.returns-then-pages-c c).Else-not-width_good) (few (goal.at.returns-then-pages-c c).Else-not-count_good) (blocks-fit (goal.at.returns-then-pages-c c).Else-blocks-c) (λ z. c.if-pages-c.true (z ∙ ap (λ (n : ℕ). a.count * n) (sym c.page_bytes.ensures)))

pub returns-then-list-c : goal.returns-then-list-c
returns-then-list-c c =
    let a = c.args in
    many-list a.p a.width a.count a.blocks a.pages a.list c.requires.0 (wide (goal.at.returns-then-list-c c).Else-not-width_good) (few (goal.at.returns-then-list-c c).Else-not-count_good) (blocks-fit (goal.at.returns-then-list-c c).Else-blocks-c) (pages-fit (goal.at.returns-then-list-c c).Else-pages-c) c.if-list-c.true

pub returns : goal.returns
returns c =
    let a = c.args in
    many-else a.p a.width a.count a.blocks a.pages a.list c.requires.0 (wide (goal.at.returns c).Else-not-width_good) (few (goal.at.returns c).Else-not-count_good) (blocks-fit (goal.at.returns c).Else-blocks-c) (pages-fit (goal.at.returns c).Else-pages-c) c.if-list-c.false
