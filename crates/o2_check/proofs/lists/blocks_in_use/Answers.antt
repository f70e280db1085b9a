-- The uses and the blocks of indexes are those in use.
use Rattle.std.proofs.Common.{◌++◌, List, ℕ, sym, ◌∙◌, ap, subst}
use Rattle.std.proofs.lemmas.Result.{IfOk-weaker}
use Rattle.o2_model.specs.Words.{among}
use Rattle.o2_tables.specs.Rows.{IsInodeTable, IsRefcountTreeTable}
use Rattle.o2_judges_alloc.proofs.MetadataTold.{uses_are}
use Rattle.o2_check.proofs.NamedJournals.{in_use_are}
use Rattle.o2_check.proofs.lists.blocks_in_use.Goals as goal

pub returns : goal.returns
returns c = IfOk-weaker c.set_of.result _ _
    (λ set are v tables judged b.
    let uses = c.in_ok-blocks.ensures ∙ uses_are v c.deref.result.now c.deref-2.result.now (subst (IsInodeTable v) (sym c.deref.ensures.value) tables.inodes) (subst (IsRefcountTreeTable v) (sym c.deref-2.ensures.value) tables.trees.table) in
    are.each b
    ∙ ap (λ ns. among ns b) (c.deref-4.ensures.value ∙ (c.in_ok-put_all.ensures ∙ in_use_are v c.in_ok-blocks.blocks.items c.deref-3.result.now uses (c.deref-3.ensures.value ∙ judged.blocks))))
    c.set_of.ensures
