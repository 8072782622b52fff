use mathlib.Core.Bool.{not}
use mathlib.Core.Path.{refl, ap, ◌∙◌}
use lib.Dec.{lit≤}
use Rattle.cases.specs.Inhabited.{accepted-A, accepted-B, erased-blank, is_page-A}
use Rattle.gate_rounds.specs.Sheets.{accepted-8, accepted-12, accepted-short, accepted-short-8, blocks-12, blocks-A, cleared-A, damaged-8, damaged-12, damaged-A, damaged-B, damaged-short-8, erased-12, member-A, member-short, no-member-A, no-member-short, page-8, page-12, page-cleared-A, page-cleared-short, page-damaged-A, page-damaged-B, page-short, page-short-8, three-8, three-12, three-A, three-B, three-short, three-short-8}
use Rattle.gate_rounds.proofs.main.Goals as goal

pub holds-requires : goal.holds-requires
holds-requires c = (accepted-A, three-A.0, three-A.1, is_page-A, lit≤ tt, lit≤ tt, three-A.2)

pub expect-requires : goal.expect-requires
expect-requires c = c.holds.ensures ∙ member-A

pub holds-requires-2 : goal.holds-requires-2
holds-requires-2 c = (accepted-A, three-A.0, three-A.1, page-damaged-A, lit≤ tt, lit≤ tt, three-A.2)

pub expect-requires-2 : goal.expect-requires-2
expect-requires-2 c = ap not (c.holds-2.ensures ∙ damaged-A)

pub holds-requires-3 : goal.holds-requires-3
holds-requires-3 c = (accepted-A, three-A.0, three-A.1, page-cleared-A, lit≤ tt, lit≤ tt, three-A.2)

pub expect-requires-3 : goal.expect-requires-3
expect-requires-3 c = ap not (c.holds-3.ensures ∙ no-member-A)

pub erased_rooms-requires : goal.erased_rooms-requires
erased_rooms-requires c = (accepted-A, refl, cleared-A, blocks-A, lit≤ tt, lit≤ tt, refl)

pub erased_rooms-requires-2 : goal.erased_rooms-requires-2
erased_rooms-requires-2 c = (accepted-A, refl, erased-blank, blocks-A, lit≤ tt, lit≤ tt, refl)

pub holds-requires-4 : goal.holds-requires-4
holds-requires-4 c = (accepted-B, three-B.0, three-B.1, page-damaged-B, lit≤ tt, lit≤ tt, three-B.2)

pub expect-requires-4 : goal.expect-requires-4
expect-requires-4 c = ap not (c.holds-4.ensures ∙ damaged-B)

pub holds-requires-5 : goal.holds-requires-5
holds-requires-5 c = (accepted-8, three-8.0, three-8.1, page-8, lit≤ tt, lit≤ tt, three-8.2)

pub expect-requires-5 : goal.expect-requires-5
expect-requires-5 c = ap not (c.holds-5.ensures ∙ damaged-8)

pub holds-requires-6 : goal.holds-requires-6
holds-requires-6 c = (accepted-12, three-12.0, three-12.1, page-12, lit≤ tt, lit≤ tt, three-12.2)

pub expect-requires-6 : goal.expect-requires-6
expect-requires-6 c = ap not (c.holds-6.ensures ∙ damaged-12)

pub erased_rooms-requires-3 : goal.erased_rooms-requires-3
erased_rooms-requires-3 c = (accepted-12, refl, erased-12, blocks-12, lit≤ tt, lit≤ tt, refl)

pub holds-requires-7 : goal.holds-requires-7
holds-requires-7 c = (accepted-short, three-short.0, three-short.1, page-short, lit≤ tt, lit≤ tt, three-short.2)

pub expect-requires-7 : goal.expect-requires-7
expect-requires-7 c = c.holds-7.ensures ∙ member-short

pub holds-requires-8 : goal.holds-requires-8
holds-requires-8 c = (accepted-short, three-short.0, three-short.1, page-cleared-short, lit≤ tt, lit≤ tt, three-short.2)

pub expect-requires-8 : goal.expect-requires-8
expect-requires-8 c = ap not (c.holds-8.ensures ∙ no-member-short)

pub holds-requires-9 : goal.holds-requires-9
holds-requires-9 c = (accepted-short-8, three-short-8.0, three-short-8.1, page-short-8, lit≤ tt, lit≤ tt, three-short-8.2)

pub expect-requires-9 : goal.expect-requires-9
expect-requires-9 c = ap not (c.holds-9.ensures ∙ damaged-short-8)
