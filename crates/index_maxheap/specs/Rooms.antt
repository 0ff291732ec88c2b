-- What an insert needs, and where it writes.
use Rattle.std.specs.Prelude.{ℕ, zero, suc, ℤ, ⊤, ◌≡◌, ◌≢◌, ◌⊎◌, ◌+◌, ◌-◌, ◌*◌, ◌/◌, ◌≤◌, List, ◌++◌, length, take}
use Rattle.afl_base.specs.Files.{State, Becomes, Overwrites, bytes_at, file_at, size_at}
use Rattle.afl_base.specs.Fields.{put_at, u16_at}
use Rattle.afl_base.specs.Frames.{SparesOthers}
use Rattle.afl_base.specs.Regions.{regions}
use Rattle.index_tree.specs.Buckets.{IsFirstBucket, IsPairBytes}
use Rattle.index_tree.specs.Pairs.{Pair}
use Rattle.index_tree.specs.Ends.{path_end, filled_of, spot_of}
use Rattle.index_tree.specs.TreeFile.{NamesOnly, number_of, numbered_place}
use Rattle.index_tree.specs.Trees.{IsTreeOf}
use Rattle.index_maxheap.specs.declared.rooms.End.{End}
use Rattle.index_maxheap.specs.declared.rooms.End.TheVariants as end
use Rattle.index_maxheap.specs.declared.rooms.Room.{Room}

-- after this many pairs of the bucket at a place, or in a first pair of a new bucket, whose number goes to a spot
abbrev pub end_by : ℕ → ℕ → ℕ → End
end_by spot place zero = end.Bucket spot
end_by spot place (suc pairs) = end.Pair (place + 6 * suc pairs)

-- where the next pair of the bucket at a hop of a key's path goes
abbrev pub end_at : List ℕ → ℤ → ℕ → End
end_at bytes key hop = end_by (spot_of bytes key hop) (numbered_place (number_of bytes key hop)) (filled_of bytes (number_of bytes key hop))

-- a pair takes an overwrite of each region that its 6 bytes touch; a bucket takes 195 bytes at the end of the file,
-- and an overwrite of each region that the 2 bytes of its number touch
abbrev pub room_at : End → Room
room_at (end.Pair at) = record { overwrites = regions at 6; bytes = 0; end = end.Pair at }
room_at (end.Bucket at) = record { overwrites = regions at 2; bytes = 195; end = end.Bucket at }
room_at end.Nowhere = record { overwrites = 0; bytes = 0; end = end.Nowhere }

-- what an insert of a key into the tree of a file needs
unfoldable pub room_of : List ℕ → ℤ → Room
room_of bytes key = room_at (end_at bytes key (path_end bytes key))

-- ---- what holds also where bytes are not told

-- what is written lies in a file of this many bytes, before its last byte
abbrev pub IsWithin : End → ℕ → Type 0
IsWithin (end.Pair at) size = at + 7 ≤ size
IsWithin (end.Bucket at) size = (at + 3 ≤ size) × (683 ≤ size) × (size ≤ 268000)
IsWithin end.Nowhere size = ⊤

-- an insert may be made with this room in a file of this many bytes
pub record IsRoomIn (room : Room) (size : ℕ) : Type 0 where
  pub whole : room ≡ room_at room.end
  pub within : IsWithin room.end size

-- the file has what the insert needs, as after `prepare` for the two numbers
pub record HasRoomFor (state : State) (index : ℕ) (room : Room) : Type 0 where
  pub place : IsRoomIn room (size_at state.files index)
  pub records : room.overwrites ≤ (file_at state.files index).records
  pub bytes : room.bytes ≤ (file_at state.files index).room

-- the file of the index has other bytes; its name and kind and all else is as before
abbrev pub OnlyIndexChanges : State → State → ℕ → Type 0
OnlyIndexChanges old new index = (size : ℕ) × (bytes : List ℕ) × Becomes old new index size bytes

-- a pair stands at a place of the file, and all else is as before
abbrev pub PutsPair : State → State → (index at : ℕ) → Pair → Type 0
PutsPair old new index at q = (six : List ℕ) × IsPairBytes six q × Overwrites old new index at six

-- a bucket of one pair stands at the end of the file, and its number at a place before it
abbrev pub PutsBucket : State → State → (index at : ℕ) → Pair → Type 0
PutsBucket old new index at q = (bucket two : List ℕ) × IsFirstBucket bucket q × (length two ≡ 2)
    × (u16_at two 0 ≡ (size_at old.files index - 683) / 195 + 1)
    × Becomes old new index (size_at old.files index + 195) (put_at (bytes_at old.files index ++ bucket) at two)

-- ---- what a cut leaves

-- of the bytes of a pair a front part stands at a place, and no other file has changed
pub record MayPutPair (old after : State) (index at : ℕ) (q : Pair) : Type 0 where
  pub others : SparesOthers old after (λ k. k ≢ index)
  pub six : List ℕ
  pub pair_is : IsPairBytes six q
  pub done : ℕ
  pub within : done ≤ 6
  pub bytes : bytes_at after.files index ≡ put_at (bytes_at old.files index) at (take done six)

-- of a bucket of one pair a front part stands at the end of the file; or all of it, and at its spot a part of its number
pub record MayPutBucket (old after : State) (index at : ℕ) (q : Pair) : Type 0 where
  pub others : SparesOthers old after (λ k. k ≢ index)
  pub bucket : List ℕ
  pub two : List ℕ
  pub first : IsFirstBucket bucket q
  pub long : length two ≡ 2
  pub number : u16_at two 0 ≡ (size_at old.files index - 683) / 195 + 1
  pub done : ℕ
  pub bytes : ((done ≤ 195) × (bytes_at after.files index ≡ bytes_at old.files index ++ take done bucket))
      ⊎ ((done ≤ 2) × (bytes_at after.files index ≡ put_at (bytes_at old.files index ++ bucket) at (take done two)))

-- no other file has changed, and the pairs of a tree name no slots but those that it had, and the next one
pub record MayInsert (old after : State) (index : ℕ) (room : Room) (key : ℤ) (slot : ℕ) : Type 0 where
  pub others : SparesOthers old after (λ k. k ≢ index)
  pub names : (keys : List ℤ) → IsTreeOf (bytes_at old.files index) keys → length keys ≡ slot
      → room ≡ room_of (bytes_at old.files index) key → NamesOnly (slot + 1) (bytes_at after.files index)
