-- Where a path begins, and what it leads to.
use Rattle.std.proofs.Common.{◌≡◌, ◌⊎◌, inl, inr, ℕ, true, List, [], ◌∷◌, ◌++◌, codes, refl, sym, ◌∙◌, ap, subst}
use Rattle.std.specs.List.{list_all, join_with_byte}
use Rattle.o2_model.specs.declared.geo.Geo.{Geo}
use Rattle.o2_model.specs.Volume.{Volume, is_valid}
use Rattle.o2_dir.specs.PathTexts.{is_name, AreJoinedNames, IsPath}
use Rattle.o2_dir.specs.Paths.{Begins, Leads}
use Rattle.o2_skeleton.specs.Skeleton.{HasSkeleton}
use Rattle.o2_debug.specs.declared.query.PathQuery.{PathQuery}
use Rattle.o2_debug.specs.Answers.{path_of, text_of, IsAnswerable}
use Rattle.o2_debug.specs.PathAnswers.{HasStart, PathLeads, IsPathAnswer}
use Rattle.o2_debug.proofs.Starts.{valid_root, valid_sysdir}

-- the names of what follows the beginning of a path
record Named (rest : List ℕ) : Type 0 where
  names : List (List ℕ)
  are_names : list_all is_name names ≡ true
  form : rest ≡ join_with_byte 47 names

named : (rest : List ℕ) → (rest ≡ []) ⊎ AreJoinedNames rest → Named rest
named rest (inl none) = record { names = []; are_names = refl; form = none }
named rest (inr joined) = record { names = joined.names; are_names = joined.are_names; form = joined.form }

-- a path begins somewhere, and has names
pub record Beginning (geo : Geo) (text : List ℕ) : Type 0 where
  pub start : ℕ
  pub names : List (List ℕ)
  pub begins : Begins geo text start names

pub beginning : (geo : Geo) (text : List ℕ) → IsPath text → Beginning geo text
beginning geo text path =
    let follow = named path.rest path.names in
    elim path.is_start [
      | inl root ↦ record {
        start = geo.root;
        names = follow.names;
        begins = inl (refl, record { are_names = follow.are_names; form = path.form ∙ ap (λ (s : List ℕ). s ++ path.rest) root ∙ ap (λ (t : List ℕ). codes "/" ++ t) follow.form });
      }
      | inr system ↦ record {
        start = geo.sysdir;
        names = follow.names;
        begins = inr (refl, record { are_names = follow.are_names; form = path.form ∙ ap (λ (s : List ℕ). s ++ path.rest) system ∙ ap (λ (t : List ℕ). codes "//" ++ t) follow.form });
      }
    ]

-- what it leads to is a valid dinode
along : (v : Volume) (names : List (List ℕ)) (start i : ℕ) → is_valid v start ≡ true → Leads v start names i → is_valid v i ≡ true
along v [] start i valid leads = subst (λ (b : ℕ). is_valid v b ≡ true) (sym leads) valid
along v (n ∷ names) start i valid leads = along v names leads.0.inode i leads.1.valid leads.2

-- where paths begin, a sound skeleton has valid dinodes
start_is_valid : (v : Volume) (text : List ℕ) (start : ℕ) (names : List (List ℕ)) → HasSkeleton v → Begins v.geo text start names → is_valid v start ≡ true
start_is_valid v text start names skeleton (inl root) = subst (λ (b : ℕ). is_valid v b ≡ true) (sym root.0) (valid_root v skeleton)
start_is_valid v text start names skeleton (inr system) = subst (λ (b : ℕ). is_valid v b ≡ true) (sym system.0) (valid_sysdir v skeleton)

pub has_start : (query : PathQuery) (v : Volume) → HasSkeleton v → HasStart query v
has_start query v skeleton start names begins = start_is_valid v (path_of query) start names skeleton begins

pub leads_to_valid : (query : PathQuery) (v : Volume) (b : ℕ) → IsPath (path_of query) → HasStart query v → PathLeads query v b → is_valid v b ≡ true
leads_to_valid query v b path valid leads =
    let from = beginning v.geo (path_of query) path in
    along v from.names from.start b (valid from.start from.names from.begins) (leads from.start from.names from.begins)

-- the same beginning, by other names for the numbers and for the path
pub same_beginning : (query : PathQuery) (v : Volume) (geo : Geo) (text : List ℕ) (start : ℕ) (names : List (List ℕ)) → v.geo ≡ geo → text ≡ path_of query → Begins v.geo (path_of query) start names → Begins geo text start names
same_beginning query v geo text start names numbers is begins =
    subst (λ (t : List ℕ). Begins geo t start names) (sym is) (subst (λ (n : Geo). Begins n (path_of query) start names) numbers begins)

-- the text of the inode that the path leads to
pub answer_text : (query : PathQuery) (v : Volume) (b : ℕ) → PathLeads query v b → IsAnswerable query v b → IsPathAnswer query v (text_of query v b)
answer_text query v b leads answered = record { inode = b; leads = leads; answered = answered; is = refl }
