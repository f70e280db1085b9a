-- What a group is that the walk of the chains reaches.
use Rattle.std.specs.Prelude.{◌≡◌, true, List}
use Rattle.o2_model.specs.declared.allocator.Group.{Group}
use Rattle.o2_model.specs.Volume.{Volume}
use Rattle.o2_model.specs.Groups.{group_desc, is_good_group}

-- it is a good group of its allocator behind the groups that were walked before it, with the bits that its descriptor tells
pub record IsGoodGroup (v : Volume) (g : Group) : Type 0 where
  pub walked : List Group
  pub good : is_good_group v g.of walked g.block ≡ true
  pub bits : g.bits ≡ (group_desc v g.block).bits
