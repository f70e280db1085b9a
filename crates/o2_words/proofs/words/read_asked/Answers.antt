-- Four words, of which the third asks.
use Rattle.std.proofs.Common.{◌≡◌, ◌∷◌, [], List, ℕ, codes, string_bytes, refl, sym, ◌∙◌, ap}
use Rattle.o2_words.specs.CommandLine.{texts}
use Rattle.o2_words.proofs.Shapes.{all_four, asked_line}
use Rattle.o2_words.proofs.words.read_asked.Goals as goal

pub returns-then-fits : goal.returns-then-fits
returns-then-fits c =
    let words = c.args.words.now in
    let word = c.as_str-then-fits.result.now in
    let device = c.as_str-then-is-2.result.now in
    let tool : string_bytes c.tool-item.result ≡ codes "debugfs" = sym c.as_str.ensures.value ∙ c.if-is.ensures.0 refl in
    let option : string_bytes c.option-item.result ≡ codes "-R" = sym c.as_str-then-is.ensures.value ∙ c.if-is-2.ensures.0 refl in
    let form : texts words ≡ codes "debugfs" ∷ codes "-R" ∷ word ∷ device ∷ [] =
    all_four words c.tool-item.result c.option-item.result c.word-item.result c.device-item.result c.in-len4.len_at_least c.in-len4.len_below c.tool-item.is c.option-item.is c.word-item.is c.device-item.is
    ∙ ap (λ (t : List ℕ). t ∷ string_bytes c.option-item.result ∷ string_bytes c.word-item.result ∷ string_bytes c.device-item.result ∷ []) tool
    ∙ ap (λ (t : List ℕ). codes "debugfs" ∷ t ∷ string_bytes c.word-item.result ∷ string_bytes c.device-item.result ∷ []) option
    ∙ ap (λ (t : List ℕ). codes "debugfs" ∷ codes "-R" ∷ t ∷ string_bytes c.device-item.result ∷ []) (sym c.as_str-then-fits.ensures.value)
    ∙ ap (λ (t : List ℕ). codes "debugfs" ∷ codes "-R" ∷ word ∷ t ∷ []) (sym c.as_str-then-is-2.ensures.value) in
    asked_line (texts words) word device c.read_query_word.result form (c.if-fits.ensures.0 refl) c.read_query_word.ensures
