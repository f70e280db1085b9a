-- The walk of the next allocator, as the bitmap or as another one, over the chains of its row.
use Rattle.std.proofs.Common.{◌≡◌, sym, ◌∙◌, ap, subst}
use Rattle.o2_model.specs.Allocators.{chain_heads}
use Rattle.o2_chain.specs.Readings.{Keeps}
use Rattle.o2_chain.specs.Walks.{allocator_walk, judged_as}
use Rattle.o2_chain.proofs.Answered.{heads_in}
use Rattle.o2_chain.proofs.BesideWalks.{judged}
use Rattle.o2_chain.proofs.OneAllocator.{same_heads}
use Rattle.o2_chain.proofs.whole_walk.gather.Goals as goal

pub returns-clause-told : goal.returns-clause-told
returns-clause-told g c v shows row earlier later is h =
    let a = c.args.row.now.allocator in
    let runs = c.args.gathered.now.runs.items in
    let walked = c.in_ok-walked.walked in
    let by_use = c.judged-by_use.result in
    let same : by_use ≡ judged a = c.judged-by_use.ensures ∙ ap (λ bitmap. judged_as bitmap a.block) c.is_bitmap.ensures in
    let heads = heads_in v a c.as_slice-chains.result.now c.args.row.now.chains c.as_slice-chains.ensures row.chains ∙ (same_heads v a ∙ ap (chain_heads v) (sym same)) in
    let told = subst (λ rs. Keeps v by_use rs walked (allocator_walk v by_use rs)) c.as_slice.ensures.value (c.in_ok-walked.ensures.told v shows heads) in
    c.in_ok-add_walk.ensures v shows.numbers earlier later is h (subst (λ x. Keeps v x runs walked (allocator_walk v x runs)) same told)
