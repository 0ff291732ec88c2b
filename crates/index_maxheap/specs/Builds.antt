-- A tree that is built in a draft, slot by slot.
use Rattle.std.specs.Prelude.{◌⊎◌, ℕ, ℤ, ◌≡◌, ◌≢◌, ◌+◌, ◌-◌, ◌*◌, ◌/◌, ◌%◌, ◌<◌, ◌≤◌, List, [], ◌∷◌, ◌++◌, length, get_or, replicate, set, slice_range}
use Rattle.afl_base.specs.Fields.{put_at, u16_at}
use Rattle.afl_base.specs.Files.{Drafts, State, draft_in}
use Rattle.padded.specs.Padded.{padded}
use Rattle.db_model.specs.HashTree.{buckets, node}
use Rattle.index_tree.specs.Buckets.{IsPairBytes}
use Rattle.index_tree.specs.Loads.{CountsPairs}
use Rattle.index_tree.specs.Pairs.{Pair, goes, pair_keys, reaching}
use Rattle.index_tree.specs.Places.{SlotsRise}
use Rattle.index_tree.specs.TreeFile.{IsTree, bucket_place, number_of, numbered_place}
use Rattle.index_maxheap.specs.declared.groups.Nodes.{Nodes}

-- after a bucket's pairs are zeros
abbrev pub IsBlank : List ℕ → List Pair → Type 0
IsBlank bytes ps = (key : ℤ) (hop : ℕ) → number_of bytes key hop ≢ 0 → (x : ℕ)
    → 6 * length (reaching (goes key) hop ps) ≤ x → x < 192
    → get_or bytes (numbered_place (number_of bytes key hop) + x) 0 ≡ 0

-- the loads, and the number of buckets, are those of the tree of this many keys
abbrev pub AreLoads : List ℕ → (slots opened : ℕ) → Type 0
AreLoads loads slots opened = (ps : List Pair) × (length ps ≡ slots) × CountsPairs loads ps
    × (opened ≡ buckets (pair_keys ps))

-- where the last bucket of a node lies, by how many come before it
abbrev pub place_of : List ℕ → ℕ → ℕ
place_of lasts node = bucket_place (get_or lasts node 0)

-- the last bucket of each node that has one
abbrev pub AreLast : List ℕ → List ℕ → List ℕ → Type 0
AreLast loads lasts tree = (key : ℤ) (level : ℕ) → level ≤ 4
    → 0 < get_or loads (node key level) 0 →
    place_of lasts (node key level) ≡ numbered_place (number_of tree key (level + (get_or loads (node key level) 0 - 1) / 32))

-- the draft has the tree of these pairs in front, and zeros after it
pub record Builds (loads lasts : List ℕ) (opened : ℕ) (draft : List ℕ) (ps : List Pair) : Type 0 where
  pub tree : List ℕ
  pub is : IsTree tree ps
  pub rises : SlotsRise ps
  pub blank : IsBlank tree ps
  pub counts : CountsPairs loads ps
  pub long : length lasts ≡ 341
  pub ends : AreLast loads lasts tree
  pub count : opened ≡ buckets (pair_keys ps)
  pub fits : length tree ≤ length draft
  pub padding : draft ≡ padded (length draft) tree

-- the draft has other bytes
abbrev pub HasOtherDraft : State → State → Type 0
HasOtherDraft old new = (bytes : List ℕ)
    × Drafts old new (draft_in old).name (length (draft_in old).bytes) bytes

-- one pair more
abbrev pub with_pair : List Pair → ℤ → ℕ → List Pair
with_pair ps key slot = ps ++ record { key = key; slot = slot } ∷ []

-- this many zeros from a place on
abbrev pub HasZeros : List ℕ → ℕ → ℕ → Type 0
HasZeros bytes at n = slice_range bytes at (at + n) ≡ replicate n 0

-- the last byte of a bucket stands after this many buckets of the draft, and its number at a place before it
abbrev pub DraftsBucket : State → State → (at opened : ℕ) → Type 0
DraftsBucket old new at opened = (two : List ℕ) × (length two ≡ 2) × (u16_at two 0 ≡ opened + 1)
    × Drafts old new (draft_in old).name (length (draft_in old).bytes) (put_at (put_at (draft_in old).bytes (bucket_place opened + 194) (1 ∷ [])) at two)

-- ---- nodes

-- what is kept where no bytes are told: last buckets are among those that are open, and no two are the same
pub record IsSafeBuild (nodes : Nodes) (most slot : ℕ) : Type 0 where
  pub light : (i : ℕ) → get_or nodes.loads i 0 ≤ slot
  pub inside : (i : ℕ) → 0 < get_or nodes.loads i 0 → get_or nodes.lasts i 0 < nodes.opened
  pub under : nodes.opened ≤ most
  pub apart : (i j : ℕ) → i ≢ j → 0 < get_or nodes.loads i 0 → 0 < get_or nodes.loads j 0
      → get_or nodes.lasts i 0 ≢ get_or nodes.lasts j 0

-- and the draft has as many bytes as buckets may come
abbrev pub FitDraft : Nodes → State → Type 0
FitDraft nodes state = (most slot : ℕ) × IsSafeBuild nodes most slot
    × (length (draft_in state).bytes ≡ bucket_place most)

-- the next bucket of a node lies after all others
abbrev pub with_bucket : Nodes → ℕ → Nodes
with_bucket nodes node =
    record nodes { lasts = set nodes.lasts node nodes.opened; opened = nodes.opened + 1 }

-- ---- pairs that wait: of each group of four up to three

-- how many of a node wait: those of its last group, where that is not whole
abbrev pub waiting : Nodes → ℕ → ℕ
waiting nodes node = get_or nodes.loads node 0 % 4

-- where in the draft that group belongs
abbrev pub group_place : Nodes → ℕ → ℕ
group_place nodes node = place_of nodes.lasts node + 24 * (get_or nodes.loads node 0 % 32 / 4)

-- a node has one pair more
pub record IsOneMore (old new : Nodes) (node : ℕ) : Type 0 where
  pub loads : new.loads ≡ set old.loads node (get_or old.loads node 0 + 1)
  pub lasts : new.lasts ≡ old.lasts
  pub opened : new.opened ≡ old.opened

-- that pair waits
pub record TakesIn (old new : Nodes) (node : ℕ) (q : Pair) : Type 0 where
  pub six : List ℕ
  pub is : IsPairBytes six q
  pub more : IsOneMore old new node
  pub groups : new.groups ≡ put_at old.groups (18 * node + 6 * waiting old node) six

-- with those that wait, that pair is a whole group
pub record Completes (old new : Nodes) (node : ℕ) (q : Pair) (group : List ℕ) : Type 0 where
  pub six : List ℕ
  pub is : IsPairBytes six q
  pub more : IsOneMore old new node
  pub groups : new.groups ≡ old.groups
  pub whole : group ≡ slice_range old.groups (18 * node) (18 * node + 18) ++ six

-- a byte of the draft belongs to one of this many pairs that wait, of a node from one on
pub record IsAwaited (from : ℕ) (at count : ℕ → ℕ) (x : ℕ) : Type 0 where
  pub node : ℕ
  pub later : from ≤ node
  pub among : node < 341
  pub behind : at node ≤ x
  pub before : x < at node + 6 * count node

-- the draft has zeros for the pairs that wait, and is the full one when they stand there
pub record Awaits (from : ℕ) (at count : ℕ → ℕ) (groups draft full : List ℕ) : Type 0 where
  pub size : length draft ≡ length full
  pub free : (x : ℕ) → IsAwaited from at count x → get_or draft x 0 ≡ 0
  pub held : (node i : ℕ) → from ≤ node → node < 341 → i < 6 * count node
      → get_or full (at node + i) 0 ≡ get_or groups (18 * node + i) 0
  pub rest : (x : ℕ) → IsAwaited from at count x ⊎ (get_or draft x 0 ≡ get_or full x 0)

abbrev pub NodesAwait : (from : ℕ) → Nodes → (draft full : List ℕ) → Type 0
NodesAwait from nodes draft full = Awaits from (group_place nodes) (waiting nodes) nodes.groups draft full

-- when all that waits stands in the draft, it has the tree of these pairs in front
pub record Gathers (nodes : Nodes) (draft : List ℕ) (ps : List Pair) : Type 0 where
  pub full : List ℕ
  pub awaits : NodesAwait 0 nodes draft full
  pub builds : Builds nodes.loads nodes.lasts nodes.opened full ps
