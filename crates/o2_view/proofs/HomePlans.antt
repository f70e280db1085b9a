-- Calls that read and plan home blocks, one after the other.
use Rattle.std.proofs.Common.{◌≡◌, ◌≢◌, ◌==◌, ◌||◌, true, false, cond, [], ◌∷◌, nat_cmp, Some, ℕ, refl, sym, ◌∙◌, ap, subst, arith, List}
use Rattle.std.specs.BTreeMap.{insert_entry, is_at}
use Rattle.std.specs.Map.{lookup}
use Rattle.std.specs.declared.cmp.Ordering.{Ordering}
use Rattle.std.specs.declared.cmp.Ordering.TheVariants.{Less, Equal, Greater}
use Rattle.std.proofs.lemmas.Bool.{false≢true}
use Rattle.std.proofs.lemmas.Bool.Decides.{nat_tests}
use Rattle.std.proofs.lemmas.Grind.{common_steps}
use Rattle.o2_view.proofs.Places.{apart_keys}
use Rattle.o2_disk.specs.Device.{ReadsOnly}
use Rattle.o2_disk.specs.declared.disk.Disk as disk
use Rattle.o2_disk.proofs.Moments.{reads_none, reads_both}
use Rattle.o2_model.specs.Words.{among}
use Rattle.o2_model.specs.declared.geo.Geo.{Geo}
use Rattle.o2_view.specs.Geos.{LiesIn}
use Rattle.o2_view.specs.Plans.{home_at, with_home}
use Rattle.o2_view.specs.Views.{view_state, view_plan, OnlyReads, OnlyPlans}
use Rattle.o2_view.specs.declared.view.View.{View}
use Rattle.o2_view.specs.HomePlans.{PlansHome, PlansOnly}

-- ---- the home blocks of a plan
-- an entry that is put leaves those of other keys
lookup_other : (c k : ℕ) (x : List ℕ) → k ≢ c → (es : List (ℕ × List ℕ)) → lookup (is_at (nat_cmp c)) (insert_entry nat_cmp es k x) ≡ lookup (is_at (nat_cmp c)) es
lookup_other c k x apart [] = let out : is_at (nat_cmp c) k ≡ false = apart_keys c k apart in rw out refl
lookup_other c k x apart (e ∷ es) = by_order (nat_cmp k e.0) refl (lookup_other c k x apart es)
  where
    out : is_at (nat_cmp c) k ≡ false
    out = apart_keys c k apart

    by_order : (o : Ordering) → nat_cmp k e.0 ≡ o → lookup (is_at (nat_cmp c)) (insert_entry nat_cmp es k x) ≡ lookup (is_at (nat_cmp c)) es
        → lookup (is_at (nat_cmp c)) (insert_entry nat_cmp (e ∷ es) k x) ≡ lookup (is_at (nat_cmp c)) (e ∷ es)
    by_order Less is rest = rw (is, out) refl
    by_order Equal is rest =
        let same : k ≡ e.0 = grind (arith, common_steps) in
        let here : is_at (nat_cmp c) e.0 ≡ false = ap (λ n. is_at (nat_cmp c) n) (sym same) ∙ out in
        rw (is, here) refl
    by_order Greater is rest = rw is (ap (λ found. cond (is_at (nat_cmp c) e.0) (Some e.1) found) rest)

-- a block of none of these is not the first one
pub not_first : (c b : ℕ) (bs : List ℕ) → among (b ∷ bs) c ≡ false → b ≢ c
not_first c b bs out same = let is : (c == b) ≡ true = grind (arith, nat_tests) in false≢true (sym out ∙ ap (λ t. t || among bs c) is)

module _ {D : Type 0} {N : ℕ} {g : disk.Ghosts D} where
  pub home_none : (view : View D N g) → PlansHome view view
  home_none view = record {
    reads = reads_none (view_state view);
    device = record { attaches = refl; attached = refl; sectors = refl };
    bits = refl;
    blocks = refl;
    disk = refl;
    fresh = refl;
    zeros = refl;
    later = omega arith;
  }

  pub home_both : {old mid new : View D N g} → PlansHome old mid → PlansHome mid new → PlansHome old new
  home_both {old} {mid} {new} a b = record {
    reads = reads_both a.reads b.reads;
    device = record {
      attaches = b.device.attaches ∙ a.device.attaches;
      attached = b.device.attached ∙ a.device.attached;
      sectors = b.device.sectors ∙ a.device.sectors;
    };
    bits = b.bits ∙ a.bits;
    blocks = b.blocks ∙ a.blocks;
    disk = b.disk ∙ a.disk;
    fresh = b.fresh ∙ a.fresh;
    zeros = b.zeros ∙ a.zeros;
    later = omega (arith, a.later, b.later);
  }

  -- a call that only reads plans nothing
  pub home_reads : {old new : View D N g} → OnlyReads old new → PlansHome old new
  home_reads {old} {new} only = record {
    reads = only.reads;
    device = only.device;
    bits = only.same.bits;
    blocks = only.same.blocks;
    disk = only.same.disk;
    fresh = ap (λ p. p.fresh) only.same.plan;
    zeros = ap (λ p. p.zeros) only.same.plan;
    later = only.later;
  }

  -- a home block is planned, or memory ends
  home_plans : {old new : View D N g} → OnlyPlans old new → (view_plan new).fresh ≡ (view_plan old).fresh → (view_plan new).zeros ≡ (view_plan old).zeros → PlansHome old new
  home_plans {old} {new} only fresh zeros = record {
    reads = subst (λ d. ReadsOnly (view_state old) (g.state d.now)) (sym only.disk) (reads_none (view_state old));
    device = record {
      attaches = ap (λ d. (g.state d.now).attaches) only.disk;
      attached = ap (λ d. (g.state d.now).attached) only.disk;
      sectors = ap (λ d. (g.state d.now).sectors) only.disk;
    };
    bits = only.bits;
    blocks = only.blocks;
    disk = ap (λ d. d.ghost_name) only.disk;
    fresh = fresh;
    zeros = zeros;
    later = omega (arith, ap (λ d. (g.state d.now).faults) only.disk);
  }

  pub home_planned : {old new : View D N g} (b : ℕ) (bytes : List ℕ) → OnlyPlans old new → view_plan new ≡ with_home (view_plan old) b bytes → PlansHome old new
  home_planned {old} {new} b bytes only is = home_plans only (ap (λ p. p.fresh) is) (ap (λ p. p.zeros) is)

  pub home_same : {old new : View D N g} → OnlyPlans old new → view_plan new ≡ view_plan old → PlansHome old new
  home_same {old} {new} only is = home_plans only (ap (λ p. p.fresh) is) (ap (λ p. p.zeros) is)

  pub still_lies : {geo : Geo} {old new : View D N g} → LiesIn geo old → PlansHome old new → LiesIn geo new
  still_lies {geo} {old} {new} h plans = record { sizes = h.sizes; numbers = h.numbers; bits = h.bits ∙ sym plans.bits; within = omega (arith, h.within, plans.blocks) }

  -- ---- at which blocks
  pub only_home : (old mid new : View D N g) (b : ℕ) (bytes : List ℕ) → OnlyReads old mid → view_plan new ≡ with_home (view_plan mid) b bytes → PlansOnly (b ∷ []) old new
  only_home old mid new b bytes only is c other = ap (λ p. home_at p c) is ∙ (lookup_other c b bytes (not_first c b [] other) (view_plan mid).home ∙ ap (λ p. home_at p c) only.same.plan)

  -- one call after the other, each at some of these blocks
  pub only_both : (old mid new : View D N g) (first later all : List ℕ) → ((b : ℕ) → among all b ≡ false → among first b ≡ false) → ((b : ℕ) → among all b ≡ false → among later b ≡ false)
      → PlansOnly first old mid → PlansOnly later mid new → PlansOnly all old new
  only_both old mid new first later all in_first in_later before after b out = after b (in_later b out) ∙ before b (in_first b out)
