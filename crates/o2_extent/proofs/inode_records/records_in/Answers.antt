-- The faults that were read are EXTENT's.
use Rattle.std.proofs.Common.{◌≡◌, inl, refl, sym, ◌∙◌, subst}
use Rattle.o2_model.specs.Words.{IsLeast}
use Rattle.o2_model.specs.Checks.Extent.{extent_faults}
use Rattle.o2_model.proofs.Readings.{faults_of_own_list}
use Rattle.o2_extent.proofs.inode_records.records_in.Goals as goal

pub returns-in-Some-clause-fails : goal.returns-in-Some-clause-fails
returns-in-Some-clause-fails g c = record {
  own = inl refl;
  first = λ v seen.
      let keeps = c.in_ok-reading.ensures.read v seen in
      let same : c.in_ok-reading.reading.faults.items ≡ extent_faults v c.args.owner = keeps.faults ∙ sym (faults_of_own_list v c.args.owner) in
      inl (refl, subst (IsLeast c.in-Some.block) (c.as_slice.ensures.value ∙ same) c.in-Some.ensures);
}

pub returns-clause-told : goal.returns-clause-told
returns-clause-told g c v seen =
    let keeps = c.in_ok-reading.ensures.read v seen in
    ((faults_of_own_list v c.args.owner ∙ (sym keeps.faults ∙ (sym c.as_slice.ensures.value ∙ c.in_default.ensures)), tt), c.from.ensures ∙ keeps.leaves)
