-- The groups are those of the walk.
use Rattle.std.proofs.Common.{◌≡◌, true, [], arith, sym, ◌∙◌, subst}
use Rattle.o2_view.proofs.Shown.{showed_before}
use Rattle.o2_chain.specs.Walks.{AreSoundGroups, judged_as}
use Rattle.o2_chain.proofs.tests.free_clusters.Goals as goal

pub free_runs-requires : goal.free_runs-requires
free_runs-requires g c = (
  omega arith,
  (
    record {
      sizes = c.numbers-geo.ensures.sizes;
      numbers = c.numbers-geo.ensures.numbers;
      bits = c.numbers-geo.ensures.bits ∙ sym (c.walk.ensures.reads.same.bits ∙ c.in_ok-view.ensures.bits);
      within = omega (arith, c.numbers-geo.ensures.blocks, c.in_ok-view.ensures.blocks, c.walk.ensures.reads.same.blocks);
    },
    λ v shows.
        let none : c.from-before.result ≡ [] = search in
        (40, subst (λ runs. AreSoundGroups v (judged_as true 40) runs c.in_ok-groups.groups) none (c.in_ok-groups.ensures.told v (showed_before c.walk.ensures.reads shows)).1),
  ),
)
