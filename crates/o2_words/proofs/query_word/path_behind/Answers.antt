-- What is behind the name is no path.
use Rattle.std.proofs.Common.{sym, subst}
use Rattle.o2_dir.specs.PathTexts.{IsPath}
use Rattle.o2_words.proofs.QueryWordLemmas.{names_no_path}
use Rattle.o2_words.proofs.query_word.path_behind.Goals as goal

pub returns-else-is_path : goal.returns-else-is_path
returns-else-is_path c =
    names_no_path c.args.name.now c.args.word.now c.in-Some.path.now c.in-Some.ensures
    (λ is. let b = c.if-is_path.ensures.1 (subst IsPath (sym c.as_bytes.ensures.value) is) in cc b)
