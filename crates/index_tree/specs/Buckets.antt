-- What is seen of one bucket.
use Rattle.std.specs.Prelude.{ℕ, ◌≡◌, ◌≢◌, ◌+◌, ◌<◌, ◌≤◌, List, [], ◌∷◌, get_or, length}
use Rattle.afl_base.specs.Fields.{i32_at, u16_at}
use Rattle.index_tree.specs.Pairs.{Pair}
use Rattle.index_tree.specs.TreeFile.{HoldsPairs, bucket_place, key_at, last_at, next_at, numbered_place, slot_at}

-- this many pairs of a bucket's bytes stand before the first empty one
pub record IsFilledBucket (bytes : List ℕ) (pairs : ℕ) : Type 0 where
  pub most : pairs ≤ 32
  pub some : (i : ℕ) → i < pairs → slot_at bytes 0 i ≢ 0
  pub empty : pairs < 32 → slot_at bytes 0 pairs ≡ 0

-- the six bytes of a pair
pub record IsPairBytes (bytes : List ℕ) (q : Pair) : Type 0 where
  pub long : length bytes ≡ 6
  pub key : i32_at bytes 0 ≡ q.key
  pub slot : u16_at bytes 4 ≡ q.slot + 1

-- the bytes of a bucket that holds one pair
pub record IsFirstBucket (bytes : List ℕ) (q : Pair) : Type 0 where
  pub long : length bytes ≡ 195
  pub holds : HoldsPairs bytes 0 (q ∷ [])
  pub next : next_at bytes 0 ≡ 0
  pub zeros : (x : ℕ) → 6 ≤ x → x < 192 → get_or bytes x 0 ≡ 0

-- a pair stands in a bucket
pub record HasPair (bytes : List ℕ) (number pair : ℕ) (q : Pair) : Type 0 where
  pub some : number ≢ 0
  pub within : bucket_place number ≤ length bytes
  pub slot : slot_at bytes (numbered_place number) pair ≡ q.slot + 1
  pub key : key_at bytes (numbered_place number) pair ≡ q.key
  pub last : last_at bytes (numbered_place number) ≡ 1
