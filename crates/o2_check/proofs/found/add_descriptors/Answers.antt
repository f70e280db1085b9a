-- One descriptor more, up to the last.
use Rattle.std.proofs.Common.{◌-◌, ◌*◌, ◌<◌, [], ◌∷◌, ◌++◌, map, subst, ◌∙◌, ap, arith}
use Rattle.std.specs.List.{range_with_len}
use Rattle.o2_model.specs.declared.claim.Owner.TheVariants.{GlobalGroup}
use Rattle.o2_model.specs.ClusterGroups.{group_size}
use Rattle.o2_model.specs.Orders.{from_to}
use Rattle.o2_model.specs.Claims.{claims_by}
use Rattle.o2_view.specs.Geos.{bare}
use Rattle.o2_judges_claims.proofs.ClaimsTold.{next_descriptor, all_descriptors}
use Rattle.o2_check.specs.OwnersAt.{AddsOwners}
use Rattle.o2_check.proofs.FoundOwners.{adds_next}
use Rattle.o2_check.proofs.found.add_descriptors.Goals as goal

pub loop-i-preserved : goal.loop-i-preserved
loop-i-preserved c =
    let size = group_size (bare c.args.geo.now) in
    let low : c.loop-i.i < c.group_count-count.result = c.loop-i-test.true in
    record {
      within = omega (arith, low);
      owners =
          adds_next _ _ _ c.args.cluster _ _ _
          (ap (λ n. claims_by GlobalGroup (map (λ j. j * size) (range_with_len 1 (c.loop-i.i - 1))) ++ record { owner = GlobalGroup; cluster = c.loop-i.i * n } ∷ []) c.group_size-size.ensures.size
          ∙ next_descriptor GlobalGroup size c.loop-i.i c.loop-i.auto.i)
          c.loop-i.invariant.owners
          c.in_ok-add_at.ensures;
    }

pub returns : goal.returns
returns c =
    let size = group_size (bare c.args.geo.now) in
    subst (λ ks. AddsOwners ks c.args.cluster c.args.owners.now.items c.loop-i.owners.items)
    (all_descriptors GlobalGroup size c.group_count-count.result c.loop-i.i c.loop-i-test.false c.loop-i.invariant.within
    ∙ ap (λ n. claims_by GlobalGroup (map (λ j. j * size) (from_to 1 n))) c.group_count-count.ensures.count)
    c.loop-i.invariant.owners
