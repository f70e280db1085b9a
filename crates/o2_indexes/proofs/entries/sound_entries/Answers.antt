-- The entries of the root, or of its leaves.
use Rattle.std.proofs.Common.{sym, ◌∙◌}
use Rattle.std.proofs.lemmas.Result.{IfOk-weaker}
use Rattle.o2_model.specs.Indexes.{index_root}
use Rattle.o2_indexes.proofs.SoundTold.{entries_found}
use Rattle.o2_indexes.proofs.entries.sound_entries.Goals as goal

pub returns-clause-told : goal.returns-clause-told
returns-clause-told g c =
    IfOk-weaker c.entries_in_root.result _ _
    (λ found told v shows d bytes keeps.
    told v shows (index_root v d) bytes
    ∙ entries_found v d c.deref.result.now (sym (c.has_sound_list.ensures.test v d shows.numbers bytes keeps) ∙ c.if-not-has_sound_list.false) (c.deref.ensures.value ∙ keeps.leaves))
    c.entries_in_root.ensures.told
