-- Names that a reader of a directory met.
use Rattle.std.specs.Prelude.{ℕ, Bool, not, bytes_eq, List, map, filter}
use Rattle.std.specs.List.{list_any}
use Rattle.std.specs.BTreeSet.{BTreeSet}
use Rattle.std.specs.Borrow.{Bor}
use Rattle.o2_model.specs.declared.entry.Entry.{Entry}
use Rattle.o2_model.specs.Directories.{is_dot}
use Rattle.o2_model.specs.Checks.DirentDup.{are_namesakes}
use Rattle.o2_tally.specs.Again.{those_again}

-- the name is one of them
abbrev pub has_name : BTreeSet (Bor (List ℕ)) → List ℕ → Bool
has_name names name = list_any (λ (met : Bor (List ℕ)). bytes_eq name met.now) names.keys

-- the blocks of the entries but the dots whose name was met, or came before
abbrev pub repeats : (List ℕ → Bool) → List Entry → List ℕ
repeats met es = map (λ e. e.block) (those_again are_namesakes (λ e. met e.name) (filter (λ e. not (is_dot e)) es))
