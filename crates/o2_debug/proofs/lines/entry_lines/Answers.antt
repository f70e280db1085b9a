-- One line more.
use Rattle.std.proofs.Common.{List, ℕ, ◌∷◌, [], ◌++◌, map, take, sym, ◌∙◌, ap}
use Rattle.std.proofs.lemmas.List.{map_more}
use Rattle.o2_debug.specs.Lines.{entry_line}
use Rattle.o2_debug.proofs.lines.entry_lines.Goals as goal

pub loop-entry-preserved : goal.loop-entry-preserved
loop-entry-preserved c =
    let entries = c.args.entries.now in
    let i = c.loop-entry.entry-index in
    c.in_ok-push.ensures.items
    ∙ (ap (λ (ls : List (List ℕ)). ls ++ c.in_ok-entry_text.field-0 ∷ []) c.loop-entry.invariant
    ∙ (ap (λ (l : List ℕ). map entry_line (take i entries) ++ l ∷ []) (c.in_ok-entry_text.ensures ∙ ap entry_line c.entry-item.is)
    ∙ sym (map_more entry_line entries i c.entry-item.result c.loop-entry-test.true)))
