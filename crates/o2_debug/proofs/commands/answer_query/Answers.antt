-- A path is followed where the skeleton is sound, since it begins at a valid dinode then.
use Rattle.std.proofs.Common.{subst, arith}
use Rattle.o2_debug.specs.Queries.{NamesPath}
use Rattle.o2_debug.proofs.AtPath.{has_start}
use Rattle.o2_debug.proofs.commands.answer_query.Goals as goal

pub answer_at_path-requires : goal.answer_at_path-requires
answer_at_path-requires g c = (omega arith, (c.requires.geo, (subst NamesPath c.in-At.is c.requires.path, λ v shows. has_start c.in-At.query v (c.requires.sound v shows))))

pub returns-in-At-clause-fails : goal.returns-in-At-clause-fails
returns-in-At-clause-fails g c = rw c.in-At.is c.answer_at_path.ensures.fails
