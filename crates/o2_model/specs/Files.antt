-- What a user has on a volume: the inodes of the tree, and which clusters they share.
use Rattle.std.specs.Prelude.{ℕ, ◌+◌, ◌*◌, ◌==◌, List, [], map, flat_map, filter, count_by, Option, Some, None}
use Rattle.std.specs.Ordering.{nat_cmp}
use Rattle.std.specs.FinMap as finite
use Rattle.o2_ondisk.specs.declared.dinode.Dinode.{Dinode}
use Rattle.o2_ondisk.specs.declared.kind.Kind.{Kind}
use Rattle.o2_ondisk.specs.declared.kind.Kind.TheVariants.{Character, Block}
use Rattle.o2_model.specs.Volume.{Volume, dinode}
use Rattle.o2_model.specs.Inodes.{kind, records_of}
use Rattle.o2_model.specs.LeafRecords.{clusters_under, is_refcounted}
use Rattle.o2_model.specs.Contents.{Content, content_of}
use Rattle.o2_model.specs.Orders.{rising}
use Rattle.o2_model.specs.Tree.{tree_inodes}

-- ---- inodes
-- An extended attribute of an inode.
pub record Attribute : Type 0 where
  pub name : List ℕ
  pub value : List ℕ

-- The attributes of an inode: none, as a volume with some is not supported. Whatever speaks of an inode's attributes does so
-- through this word.
unfoldable pub attributes_of : Volume → ℕ → List Attribute
attributes_of v b = []

-- A time: seconds, and the nanoseconds of the second.
pub record Time : Type 0 where
  pub seconds : ℕ
  pub nanoseconds : ℕ

-- the device that a device file stands for
abbrev pub device_of : Dinode → Option Kind → Option ℕ
device_of d (Some Character) = Some d.role_data.0
device_of d (Some Block) = Some d.role_data.0
device_of d _ = None

-- What a user sees of an inode.
pub record File : Type 0 where
  pub kind : Option Kind
  pub mode : ℕ
  pub owner : ℕ
  pub group : ℕ
  pub links : ℕ
  pub accessed : Time
  pub changed : Time
  pub modified : Time
  -- in bytes
  pub size : ℕ
  pub device : Option ℕ
  pub content : Content
  pub attributes : List Attribute

-- the number of entries that name the inode, as its dinode tells it
abbrev pub links_of : Dinode → ℕ
links_of d = d.links_count_hi * 65536 + d.links_count

abbrev pub file_of : Volume → ℕ → File
file_of v b = record {
  kind = kind v b;
  mode = (dinode v b).mode;
  owner = (dinode v b).uid;
  group = (dinode v b).gid;
  links = links_of (dinode v b);
  accessed = record { seconds = (dinode v b).atime; nanoseconds = (dinode v b).atime_nsec };
  changed = record { seconds = (dinode v b).ctime; nanoseconds = (dinode v b).ctime_nsec };
  modified = record { seconds = (dinode v b).mtime; nanoseconds = (dinode v b).mtime_nsec };
  size = (dinode v b).size;
  device = device_of (dinode v b) (kind v b);
  content = content_of v b;
  attributes = attributes_of v b;
}

-- the inodes at the paths of the tree, by their numbers
abbrev pub files_of : Volume → finite.FinMap nat_cmp File
files_of v = finite.from_entries (map (λ b. (b, file_of v b)) (tree_inodes v))

-- ---- sharing
-- each reference of an inode to a cluster by a refcounted record: the cluster, once for each list and place
abbrev pub shared_references : Volume → ℕ → List ℕ
shared_references v b = flat_map (clusters_under v) (filter is_refcounted (records_of v b))

-- how often the cluster is one of these
abbrev pub times_in : List ℕ → ℕ → ℕ
times_in clusters c = count_by (λ d. d == c) clusters

-- those of all inodes of the tree; orphans do not count
abbrev pub tree_sharing : Volume → List ℕ
tree_sharing v = flat_map (shared_references v) (rising (tree_inodes v))

-- how many references the inodes of the tree have to each cluster under a refcounted record
abbrev pub shared_clusters : Volume → finite.FinMap nat_cmp ℕ
shared_clusters v =
    let references = tree_sharing v in
    finite.from_entries (map (λ c. (c, times_in references c)) references)
