-- One slot more.
use Rattle.std.proofs.Common.{◌≡◌, ℕ, List, [], ◌∷◌, ◌++◌, Option, Some, None, get_or, sym, ◌∙◌, ap}
use Rattle.std.proofs.lemmas.List.{append-nil}
use Rattle.o2_debug.specs.Lines.{pair_line}
use Rattle.o2_debug.proofs.VolumeText.{slot_more}
use Rattle.o2_debug.proofs.volume_lines.slot_lines.Goals as goal
use Rattle.o2_debug.proofs.volume_lines.slot_lines.Goals.{in-Some+in_ok-pair_text_line+in_ok-push, in_default}

pub loop-slot-preserved : goal.loop-slot-preserved
loop-slot-preserved c =
    let map = c.args.map.now in
    let slot = c.loop-slot.slot in
    let same : c.as_slice-node-items.result.now ≡ map = c.as_slice-node-items.ensures in
    elim c.match-node.branch [
      | in-Some+in_ok-pair_text_line+in_ok-push w ↦
          slot_more map slot (Some w.in-Some.node) c.loop-slot.lines.items _ (ap (λ (nodes : List (Option ℕ)). get_or nodes slot None) (sym same) ∙ w.in-Some.is) c.loop-slot.invariant
          (ap (λ lines. lines.items) w.lines-is
          ∙ (w.in_ok-push.ensures.items
          ∙ ap (λ (line : List ℕ). c.loop-slot.lines.items ++ line ∷ []) (w.in_ok-pair_text_line.ensures ∙ ap (λ (n : ℕ). pair_line [] slot n) w.from.ensures)))
      | in_default w ↦
          slot_more map slot None c.loop-slot.lines.items _ (ap (λ (nodes : List (Option ℕ)). get_or nodes slot None) (sym same) ∙ w.in_default.is) c.loop-slot.invariant
          (ap (λ lines. lines.items) w.lines-is ∙ sym (append-nil c.loop-slot.lines.items))
    ]
