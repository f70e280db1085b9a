use Rattle.std.proofs.Common.{◌≡◌, ◌∙◌, inl, ap, subst, Bool, Option, Some, None}
use Rattle.std.specs.Prelude.{MatchOption, if◌then◌else◌}
use Rattle.o2_model.specs.Superblock.{superblock_bits}
use Rattle.o2_view.specs.SuperSector.{IsSuperSector}
use Rattle.o2_view.specs.declared.superblock.SuperSector.{SuperSector}
use Rattle.o2_cause.specs.declared.cause.Cause.TheVariants.{Later}
use Rattle.o2_tunefs.proofs.Refusals.{refusal_read}
use Rattle.o2_tunefs.proofs.label.open_volume.Goals as goal

pub returns-then-is_not_served-clause-refused : goal.returns-then-is_not_served-clause-refused
returns-then-is_not_served-clause-refused g c I content =
    let found = subst (λ (o : Option SuperSector). MatchOption o (superblock_bits I ≡ None) (λ s. (superblock_bits I ≡ Some s.bits) × IsSuperSector I s)) c.in-Some.is (c.in_ok-sector.ensures.found I (c.attach.ensures.same.content ∙ content)) in
    inl (refusal_read I c.in-Some.sector c.is_not_served.result c.superblock.result c.cluster_count.result found c.superblock.ensures.volume c.cluster_count.ensures.volume c.is_not_served.ensures ∙ ap (λ (b : Bool). if b then Some Later else None) c.if-is_not_served.true)

pub returns-clause-found : goal.returns-clause-found
returns-clause-found g c I content =
    let found = subst (λ (o : Option SuperSector). MatchOption o (superblock_bits I ≡ None) (λ s. (superblock_bits I ≡ Some s.bits) × IsSuperSector I s)) c.in-Some.is (c.in_ok-sector.ensures.found I (c.attach.ensures.same.content ∙ content)) in
    (found.0, found.1, refusal_read I c.in-Some.sector c.is_not_served.result c.superblock.result c.cluster_count.result found c.superblock.ensures.volume c.cluster_count.ensures.volume c.is_not_served.ensures ∙ ap (λ (b : Bool). if b then Some Later else None) c.if-is_not_served.false)
