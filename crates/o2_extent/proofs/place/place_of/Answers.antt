-- The last record that begins at the cluster or before decides.
use Rattle.std.proofs.Common.{◌≡◌, ◌+◌, ◌-◌, sym, ◌∙◌, arith}
use Rattle.o2_extent.proofs.Places.{none_begun, last_begun, none_about}
use Rattle.o2_extent.proofs.place.place_of.Goals as goal

pub returns-then-begun-eq0 : goal.returns-then-begun-eq0
returns-then-begun-eq0 c =
    none_begun c.args.c c.args.leaves.now c.requires c.count_begun-begun.result c.count_begun-begun.ensures.point c.count_begun-begun.ensures.within (record { cpos = 0; clusters = 0; block = 0; flags = 0 }) c.if-begun-eq0.true

pub returns-then-not-is_about : goal.returns-then-not-is_about
returns-then-not-is_about c =
    let begun = c.count_begun-begun.result in
    let is : begun - 1 + 1 ≡ begun = omega (arith, c.if-begun-eq0.false) in
    none_about c.args.c c.args.leaves.now c.requires begun c.count_begun-begun.ensures.point c.count_begun-begun.ensures.within (begun - 1) _ is (sym c.is_about.ensures ∙ c.if-not-is_about.true)

pub returns : goal.returns
returns c =
    let begun = c.count_begun-begun.result in
    let is : begun - 1 + 1 ≡ begun = omega (arith, c.if-begun-eq0.false) in
    last_begun c.args.c c.args.leaves.now c.requires begun c.count_begun-begun.ensures.point c.count_begun-begun.ensures.within (begun - 1) _ is (sym c.is_about.ensures ∙ c.if-not-is_about.false)
