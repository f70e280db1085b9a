-- There is nothing to tell but where the root should be.
use Rattle.std.proofs.Common.{◌≡◌, ℕ, false, refl, sym, ◌∙◌, subst}
use Rattle.o2_model.specs.Indexes.{is_index_root}
use Rattle.o2_indexes.proofs.RowsTold.{row_without_root_told}
use Rattle.o2_indexes.proofs.rows.row_without_root.Goals as goal

pub returns-clause-told : goal.returns-clause-told
returns-clause-told c v is none =
    row_without_root_told v _ (sym is) (subst (λ (b : ℕ). is_index_root v c.args.directory b ≡ false) (sym is) none) (c.from.ensures ∙ c.new.ensures.items) (c.from-2.ensures ∙ c.new-2.ensures.items)
    refl
