-- Places on the path of a key, and what is still to come from them.
use Rattle.std.specs.Prelude.{⊤, [], ◌∷◌, ℕ, ℤ, ◌≡◌, ◌≢◌, ◌<◌, ◌≤◌, ◌&&◌, nat_le, Bool, List, ◌++◌, length, drop, filter}
use Rattle.index_tree.specs.Pairs.{Pair, goes, has_key, reaching}
use Rattle.index_tree.specs.TreeFile.{IsTree, number_of}

-- a place on a path: each bucket before it is full, and it lies in its bucket or at its end
pub record IsPlace {P : Type 0} (test : ℕ → P → Bool) (ps : List P) (hop pair : ℕ) : Type 0 where
  pub full : (i : ℕ) → i < hop → 32 ≤ length (reaching test i ps)
  pub within : pair ≤ length (reaching test hop ps)
  pub short : pair ≤ 32

-- those that pass a test, at or after a place
abbrev pub ahead_of_place : {P : Type 0} → (P → Bool) → (ℕ → P → Bool) → List P → ℕ → ℕ → List P
ahead_of_place mine test ps hop pair = filter mine (drop pair (reaching test hop ps))

-- a pair of the key whose slot is not below one
abbrev pub is_wanted : ℤ → ℕ → Pair → Bool
is_wanted key from p = has_key key p && nat_le from p.slot

-- the pairs of a key and of slots from one on, at or after a pair of the bucket at a hop
abbrev pub to_come : List Pair → ℤ → ℕ → ℕ → ℕ → List Pair
to_come ps key from hop pair = ahead_of_place (is_wanted key from) (goes key) ps hop pair

-- the path of a key has a bucket at a hop
pub record IsOnPath (ps : List Pair) (key : ℤ) (hop : ℕ) : Type 0 where
  pub full : (i : ℕ) → i < hop → 32 ≤ length (reaching (goes key) i ps)
  pub some : 0 < length (reaching (goes key) hop ps)

-- a place in the bucket of a number at a hop: all that is wanted comes at or after it
pub record IsPlaceAt (bytes : List ℕ) (ps : List Pair) (key : ℤ) (from number pair hop : ℕ) : Type 0 where
  pub there : number ≡ number_of bytes key hop
  pub some : number ≢ 0
  pub good : IsPlace (goes key) ps hop pair
  pub rest : to_come ps key from hop pair ≡ filter (is_wanted key from) ps

-- ---- inserts

-- each bucket has kept its number
abbrev pub KeepsNumbers : List ℕ → List ℕ → Type 0
KeepsNumbers old new = (key : ℤ) (hop : ℕ) → number_of old key hop ≢ 0
    → number_of new key hop ≡ number_of old key hop

-- the tree of more pairs, in which each bucket kept its number
pub record IsGrown (old new : List ℕ) (ps qs : List Pair) : Type 0 where
  pub tree : IsTree new (ps ++ qs)
  pub keeps : KeepsNumbers old new

-- all slots are above one
abbrev pub Above : ℕ → List Pair → Type 0
Above slot [] = ⊤
Above slot (p ∷ ps) = (slot < p.slot) × Above slot ps

-- the slots rise
abbrev pub SlotsRise : List Pair → Type 0
SlotsRise [] = ⊤
SlotsRise (p ∷ ps) = Above p.slot ps × SlotsRise ps
