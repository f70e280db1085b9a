-- The texts of items, one behind the other.
use Rattle.std.proofs.Common.{◌≡◌, ℕ, ◌+◌, ◌<◌, List, [], ◌∷◌, ◌++◌, length, map, take, drop, get_or, sym, ◌∙◌, ap}
use Rattle.std.specs.List.{concat}
use Rattle.std.proofs.lemmas.List.{map_more, drop_more, map-append, append-nil, take-append-drop}
use Rattle.std.proofs.lemmas.List.Folds.{concat-append}

module _ {X : Type 0} (text_of : X → List ℕ) (xs : List X) (i : ℕ) (x : X) (text : List ℕ) (within : i < length xs) (is : x ≡ get_or xs i x) (same : text ≡ text_of x) where
  -- those before an item, and its own
  pub texts_more : concat (map text_of (take i xs)) ++ text ≡ concat (map text_of (take (i + 1) xs))
  texts_more = sym (
      ap concat (map_more text_of xs i x within)
      ∙ concat-append (map text_of (take i xs)) (text_of (get_or xs i x) ∷ [])
      ∙ ap (λ (l : List ℕ). concat (map text_of (take i xs)) ++ l) (append-nil (text_of (get_or xs i x)) ∙ ap text_of (sym is) ∙ sym same)
      )

  -- and those behind
  pub texts_around : concat (map text_of (take i xs)) ++ (text ++ concat (map text_of (drop (i + 1) xs))) ≡ concat (map text_of xs)
  texts_around =
      ap (λ (l : List ℕ). concat (map text_of (take i xs)) ++ (l ++ concat (map text_of (drop (i + 1) xs)))) (same ∙ ap text_of is)
      ∙ (ap (λ (ys : List X). concat (map text_of (take i xs)) ++ concat (map text_of ys)) (sym (drop_more xs i x within))
      ∙ (sym (concat-append (map text_of (take i xs)) (map text_of (drop i xs)))
      ∙ ap concat (sym (map-append text_of (take i xs) (drop i xs)) ∙ ap (map text_of) (take-append-drop i xs))))

-- those before a place, and those from it on
pub texts_cut : {X : Type 0} (text_of : X → List ℕ) (xs : List X) (i : ℕ) → concat (map text_of (take i xs)) ++ concat (map text_of (drop i xs)) ≡ concat (map text_of xs)
texts_cut text_of xs i =
    sym (concat-append (map text_of (take i xs)) (map text_of (drop i xs)))
    ∙ ap concat (sym (map-append text_of (take i xs) (drop i xs)) ∙ ap (map text_of) (take-append-drop i xs))
