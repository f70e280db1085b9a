-- The block that is read, with zeros in it.
use Rattle.std.proofs.Common.{◌≡◌, inl, ◌∙◌, refl}
use Rattle.std.specs.Prelude.{is_some}
use Rattle.o2_model.specs.Directories.{entries_in}
use Rattle.o2_view.proofs.HomePlans.{only_home}
use Rattle.o2_dir.specs.VoidEntries.{filled_bytes}
use Rattle.o2_dir.proofs.VoidedEntries.{entries_voided, none_found}
use Rattle.o2_dir.proofs.Whole.{fails_there}
use Rattle.o2_dir.proofs.void_plan.void_entry.Goals as goal

pub returns-then-not-branch-clause-fails : goal.returns-then-not-branch-clause-fails
returns-then-not-branch-clause-fails g c = record {
  own = inl refl;
  first = λ v shows.
      let found = entries_in (filled_bytes v c.args.inode c.args.block) in
      let read : c.deref_mut.result.now ≡ v.at c.args.block = c.deref_mut.ensures.value ∙ (c.into_vec-bytes.ensures ∙ c.in_ok-look.ensures.bytes v shows) in
      inl (refl, fails_there c.args.block (is_some found) (none_found found (λ es is. c.in_ok-void_in.ensures.bad c.if-not-branch.true v read es is (c.requires.begins v shows es is))));
}

pub returns-clause-entries : goal.returns-clause-entries
returns-clause-entries g c v shows old found = entries_voided v c.args.inode c.args.block c.args.at old found (c.requires.begins v shows old found)

pub returns-clause-alone : goal.returns-clause-alone
returns-clause-alone g c = only_home c.args.view.now c.look.new.view c.home.new.self c.args.block c.deref.result.now c.in_ok-look.ensures.reads c.in_ok-home.ensures.ok
