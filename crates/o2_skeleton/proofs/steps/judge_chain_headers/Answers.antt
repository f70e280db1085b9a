-- The table tells where the check fails.
use Rattle.std.proofs.Common.{◌≡◌, sym, subst, ◌∙◌, ap}
use Rattle.std.proofs.lemmas.Result.{on_ok_weaker, IfErr-weaker}
use Rattle.o2_model.specs.Checks.ChainHeader.{chain_header_faults}
use Rattle.o2_model.specs.Orders.{rising}
use Rattle.o2_model.specs.Volume.{Volume}
use Rattle.o2_tables.specs.Rows.{IsAllocatorTable}
use Rattle.o2_skeleton.specs.Skeleton.{chain_header_check}
use Rattle.o2_skeleton.specs.SkeletonTables.{IsSkeletonOf}
use Rattle.o2_skeleton.proofs.Sequence.{headers_by_table, table_holds, table_fails}
use Rattle.o2_skeleton.proofs.steps.judge_chain_headers.Goals as goal

told : (c : goal.After-drop-found) (v : Volume) → IsSkeletonOf c.args.geo.now c.args.skeleton.now v → rising c.as_slice-2.result.now ≡ rising (chain_header_faults v)
told c v is = ap rising c.as_slice-2.ensures.value ∙ headers_by_table v c.in_ok-found.found.items (c.in_ok-found.ensures v (subst (IsAllocatorTable v) (sym c.as_slice.ensures) is.tables.allocators))

pub returns-clause-told : goal.returns-clause-told
returns-clause-told c = on_ok_weaker c.judged.result (λ none. table_holds (IsSkeletonOf c.args.geo.now c.args.skeleton.now) chain_header_check c.as_slice-2.result.now (told c) none) c.judged.ensures.none

pub returns-clause-fails : goal.returns-clause-fails
returns-clause-fails c = IfErr-weaker c.judged.result _ _ (table_fails (IsSkeletonOf c.args.geo.now c.args.skeleton.now) chain_header_check c.as_slice-2.result.now (told c)) c.judged.ensures.bad
