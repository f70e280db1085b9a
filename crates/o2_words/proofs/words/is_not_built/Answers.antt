-- The first two words tell.
use Rattle.std.proofs.Common.{◌≡◌, ◌∷◌, List, ℕ, drop, string_bytes, ⊎_elim, refl, sym, ◌∙◌, ap}
use Rattle.o2_words.specs.CommandLine.{texts}
use Rattle.o2_words.proofs.NotBuilt.{unbuilt_tool, unbuilt_option, unbuilt}
use Rattle.o2_words.proofs.Shapes.{first_two}
use Rattle.o2_words.proofs.words.is_not_built.Goals as goal

pub returns-then-is_unbuilt_tool : goal.returns-then-is_unbuilt_tool
returns-then-is_unbuilt_tool c =
    let words = c.args.words.now in
    let behind = string_bytes c.option-item.result ∷ texts (drop 2 words) in
    let shown : texts words ≡ c.as_str-in-len2-up.result.now ∷ behind = first_two words c.tool-item-2.result c.option-item.result c.in-len2-up.len_at_least c.tool-item-2.is c.option-item.is ∙ ap (λ (t : List ℕ). t ∷ behind) (sym c.as_str-in-len2-up.ensures.value) in
    (λ _. unbuilt_tool (texts words) behind c.as_str-in-len2-up.result.now shown (c.if-is_unbuilt_tool.ensures.0 refl), λ _. c.if-is_unbuilt_tool.true)

pub returns-then-is : goal.returns-then-is
returns-then-is c =
    let words = c.args.words.now in
    let tool = c.as_str-in-len2-up.result.now in
    let same = c.as_str-else-is_unbuilt_tool.result.now in
    let option = c.as_str-then-is.result.now in
    let rest = texts (drop 2 words) in
    let both = first_two words c.tool-item-2.result c.option-item.result c.in-len2-up.len_at_least c.tool-item-2.is c.option-item.is ∙ ap (λ (t : List ℕ). string_bytes c.tool-item-2.result ∷ t ∷ rest) (sym c.as_str-then-is.ensures.value) in
    let shown : texts words ≡ same ∷ option ∷ rest = both ∙ ap (λ (t : List ℕ). t ∷ option ∷ rest) (sym c.as_str-else-is_unbuilt_tool.ensures.value) in
    let shown' : texts words ≡ tool ∷ option ∷ rest = both ∙ ap (λ (t : List ℕ). t ∷ option ∷ rest) (sym c.as_str-in-len2-up.ensures.value) in (
      λ is. unbuilt_option (texts words) rest same option shown (c.if-is.ensures.0 refl) (c.is_unbuilt_option.ensures.0 is),
      λ built. ⊎_elim (λ is. let b = c.if-is_unbuilt_tool.ensures.1 is in cc b) c.is_unbuilt_option.ensures.1 (unbuilt (texts words) rest tool option shown' built),
    )
