-- What is read of the superblock's sector.
use Rattle.std.proofs.Common.{◌≡◌, ◌∙◌, refl, subst, Option, Some, None}
use Rattle.std.specs.Prelude.{MatchOption, IfSome}
use Rattle.o2_model.specs.Superblock.{superblock_bits}
use Rattle.o2_view.specs.SuperSector.{IsSuperSector, TellsSuper}
use Rattle.o2_view.specs.declared.superblock.SuperSector.{SuperSector}
use Rattle.o2_open.proofs.Opened.{feature_read, opened_read}
use Rattle.o2_open.proofs.open.open_for_reading.Goals as goal

pub returns-in-Some-unsupported-clause-refused : goal.returns-in-Some-unsupported-clause-refused
returns-in-Some-unsupported-clause-refused g c I content =
    let found = subst (λ (o : Option SuperSector). MatchOption o (superblock_bits I ≡ None) (λ s. (superblock_bits I ≡ Some s.bits) × IsSuperSector I s)) c.in-Some.is (c.in_ok-sector.ensures.found I (c.attach.ensures.same.content ∙ content)) in
    (feature_read I c.in-Some.sector found (Some c.in-Some-unsupported.what) c.superblock.result c.cluster_count.result c.superblock.ensures.volume c.cluster_count.ensures.volume c.in-Some-unsupported.ensures, refl)

pub returns-in-None-clause-found : goal.returns-in-None-clause-found
returns-in-None-clause-found g c I content =
    let found = subst (λ (o : Option SuperSector). MatchOption o (superblock_bits I ≡ None) (λ s. (superblock_bits I ≡ Some s.bits) × IsSuperSector I s)) c.in-Some.is (c.in_ok-sector.ensures.found I (c.attach.ensures.same.content ∙ content)) in (
      opened_read I c.in-Some.sector found c.geometry.result c.geometry.ensures.told c.geometry.ensures.volume (subst (λ (o : Option SuperSector). IfSome o TellsSuper) c.in-Some.is c.in_ok-sector.ensures.tells),
      feature_read I c.in-Some.sector found None c.superblock.result c.cluster_count.result c.superblock.ensures.volume c.cluster_count.ensures.volume c.in-None.ensures,
    )
