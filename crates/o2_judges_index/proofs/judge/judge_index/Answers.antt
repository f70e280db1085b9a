-- An index that holds adds its claims and its blocks.
use Rattle.std.proofs.Common.{◌≡◌, ◌++◌, List, refl, sym, ◌∙◌, subst}
use Rattle.std.proofs.lemmas.Result.{on_ok_weaker}
use Rattle.o2_model.specs.declared.claim.Claim.{Claim}
use Rattle.o2_model.specs.declared.claim.Owner.TheVariants.{Index}
use Rattle.o2_model.specs.Volume.{Volume}
use Rattle.o2_claims.specs.Owners.{clusters_of, AreOwners}
use Rattle.o2_tree.specs.TreeRows.{IsIndexRow}
use Rattle.o2_judges_claims.specs.Adding.{AddsClaims}
use Rattle.o2_judges_claims.specs.ClaimRows.{runs_claims}
use Rattle.o2_judges_index.specs.declared.judge.IndexJudgement.{IndexJudgement}
use Rattle.o2_judges_index.specs.IndexRows.{blocks_of_row, AreBlockUses}
use Rattle.o2_judges_index.specs.Judgements.{IsJudgedOne}
use Rattle.o2_judges_index.proofs.Judged.{held_one}
use Rattle.o2_judges_index.proofs.judge.judge_index.Goals as goal

pub returns-clause-told : goal.returns-clause-told
returns-clause-told c =
    let row = c.args.row.now in
    let old = c.args.judged.now in
    let new : IndexJudgement = record { faults = old.faults; blocks = c.add_index_blocks.new.blocks } in
    let claims = c.args.claims.now in
    let more = c.claim_runs.new.claims in
    let adds = subst (λ runs. AddsClaims (runs_claims (Index row.directory) runs) claims more) c.as_slice.ensures c.in_ok-claim_runs.ensures.owners in
    on_ok_weaker {P = new.blocks.items ≡ old.blocks.items ++ blocks_of_row row}
    {Q = (v : Volume) (before : List Claim) → AreBlockUses v c.args.uses.now → IsIndexRow v row → clusters_of claims ≡ v.geo.clusters → AreOwners before claims → IsJudgedOne v before row.directory old new more}
    c.add_index_blocks.result
    (λ put v before uses is all are. held_one v before row old new claims more is (sym (c.in_ok-is_sound.ensures v before uses is all are) ∙ c.if-not-branch.false) are adds refl put)
    c.add_index_blocks.ensures
