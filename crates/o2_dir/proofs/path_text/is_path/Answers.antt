-- What follows the beginning of a path decides.
use Rattle.o2_dir.proofs.PathNames.{with_root, behind_root, with_system, behind_system}
use Rattle.o2_dir.proofs.path_text.is_path.Goals as goal

pub returns-in-None-behind_slash : goal.returns-in-None-behind_slash
returns-in-None-behind_slash c =
    let text = c.args.text.now in
    let rest = c.in-Some.rest.now in (
      λ is. with_root text rest c.in-Some.ensures (c.is_rest.ensures.0 is),
      λ path. c.is_rest.ensures.1 (behind_root text rest c.in-Some.ensures c.in-None-behind_slash.ensures path),
    )

pub returns-in-Some-behind_slash : goal.returns-in-Some-behind_slash
returns-in-Some-behind_slash c =
    let text = c.args.text.now in
    let rest = c.in-Some.rest.now in
    let names = c.in-Some-behind_slash.names.now in (
      λ is. with_system text rest names c.in-Some.ensures c.in-Some-behind_slash.ensures (c.is_rest-in-Some-behind_slash.ensures.0 is),
      λ path. c.is_rest-in-Some-behind_slash.ensures.1 (behind_system text rest names c.in-Some.ensures c.in-Some-behind_slash.ensures path),
    )
