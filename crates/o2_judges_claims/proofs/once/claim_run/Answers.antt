-- One cluster more.
use Rattle.std.proofs.Common.{◌≡◌, ◌+◌, [], ◌∷◌, ◌++◌, ◌∙◌, ap, arith}
use Rattle.std.specs.List.{range_with_len}
use Rattle.o2_model.specs.Claims.{claims_by}
use Rattle.o2_judges_claims.proofs.Addings.{adds_next}
use Rattle.o2_judges_claims.proofs.Lists.{next_in_range}
use Rattle.o2_judges_claims.proofs.once.claim_run.Goals as goal

pub loop-k-preserved : goal.loop-k-preserved
loop-k-preserved c =
    let owner = c.args.owner in
    let start = c.args.start in
    let front = claims_by owner (range_with_len start c.loop-k.k) in
    let here : c.from.result + c.from-in-loop-k.result ≡ start + c.loop-k.k = omega (arith, c.from.ensures, c.from-in-loop-k.ensures) in
    record {
      clusters = c.claim_number.ensures.clusters ∙ c.loop-k.invariant.clusters;
      owners =
          adds_next _ _ _ _ _ _ (ap (λ q. front ++ record { owner = owner; cluster = q } ∷ []) here ∙ next_in_range (λ q. record { owner = owner; cluster = q }) start c.loop-k.k)
          c.loop-k.invariant.owners
          c.in_ok-claim_number.ensures.owners;
    }
