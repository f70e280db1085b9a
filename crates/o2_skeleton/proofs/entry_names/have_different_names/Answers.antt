-- An entry is a dot, or its name is put among those that were met.
use Rattle.std.proofs.Common.{◌+◌, ◌∷◌, drop, not, ap, sym, ◌∙◌, bytes_eq, ◌&&◌, ◌||◌}
use Rattle.std.proofs.lemmas.List.{drop_more}
use Rattle.o2_skeleton.specs.Names.{has_name}
use Rattle.o2_skeleton.proofs.EntryLists.{differ, are_fresh, all_fresh, dot_left_out, one_met, was_new, before_taken}
use Rattle.o2_skeleton.proofs.MetNames.{has}
use Rattle.o2_skeleton.proofs.entry_names.have_different_names.Goals as goal

pub loop-entry-init : goal.loop-entry-init
loop-entry-init c = all_fresh (has_name c.new-names.result) (λ n. ap (λ ks. has ks n) c.new-names.ensures.empty) c.args.entries.now

pub loop-entry-preserved : goal.loop-entry-preserved
loop-entry-preserved c =
    let xs = c.args.entries.now in
    let i = c.loop-entry.entry-index in
    let e = c.entry-item.result in
    let rest = drop (i + 1) xs in
    let now = has_name c.loop-entry.names in
    let left = drop_more xs i e c.loop-entry-test.true ∙ ap (λ y. y ∷ rest) (sym c.entry-item.is) in
    let before = before_taken now (drop i xs) rest e left ∙ c.loop-entry.invariant in
    elim c.else-not-is_dot.branch [
      | goal.else-not-is_dot-via-then-not-is_dot+in_ok-add_name+else-not-branch w ↦
          let new = has_name c.else-not-is_dot.names in
          let fresh = was_new _ (now e.name) (w.in_ok-add_name.ensures.new ∙ ap (λ n. not (now n)) w.as_slice.ensures) w.if-not-branch.false in
          sym (one_met now new e rest (sym c.is_dot_entry-is_dot.ensures ∙ w.if-not-is_dot.true) fresh
          (λ n. ap (λ s. has_name s n) w.names-is ∙ (w.in_ok-add_name.ensures.put n ∙ ap (λ m. bytes_eq n m || now n) w.as_slice.ensures)))
          ∙ before
      | goal.else-not-is_dot-via-else-not-is_dot w ↦
          ap (λ s. differ rest && are_fresh (has_name s) rest) w.names-is
          ∙ (sym (dot_left_out now e rest (sym c.is_dot_entry-is_dot.ensures ∙ w.if-not-is_dot.false))
          ∙ before)
    ]
