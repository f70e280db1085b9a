-- The name at hand is not sound.
use Rattle.std.proofs.Common.{sym, ◌∙◌, ap}
use Rattle.o2_model.specs.Checks.DirentName.{is_sound_name}
use Rattle.o2_skeleton.proofs.EntryLists.{bad_at}
use Rattle.o2_skeleton.proofs.entry_names.are_sound_names.Goals as goal

pub returns-then-not-is_sound_name : goal.returns-then-not-is_sound_name
returns-then-not-is_sound_name c =
    let e = c.entry-item.result in
    let bad = ap is_sound_name (sym c.as_slice.ensures) ∙ (sym c.is_sound_name.ensures ∙ c.if-not-is_sound_name.true) in
    sym (bad_at c.args.entries.now c.loop-entry.entry-index e c.loop-entry-test.true (ap (λ x. is_sound_name x.name) (sym c.entry-item.is) ∙ bad))
