-- Headers: the 32 bytes with which an extent begins.
use Rattle.std.specs.Prelude.{◌≡◌, ◌<◌, ℕ, true, Bool, ◌&&◌, ◌||◌, ◌==◌, List, [], ◌∷◌, ◌++◌, take, drop, slice_index, Option, Some, None, if◌then◌else◌}
use Rattle.std.specs.List.{prefix_len}
use Rattle.afl_base.specs.Fields.{u16_at, u16_bytes}
use Rattle.afl_base.specs.Names.{is_file_name, is_name_byte}
use Rattle.padded.specs.Padded.{padded}
use Rattle.padded.specs.Zeros.{is_zeros}
use Rattle.coffee_header.specs.declared.header.Header.{Header}

-- The flags are a sum of VALID 1, ALLOCATED 2, OBSOLETE 4, MODIFIED 8 and LOG 16: an extent under
-- construction (2), an active file (3) and one with a log (11), an active log (19), and the same
-- three when they are obsolete (7, 15, 23).
abbrev pub is_flags : ℕ → Bool
is_flags flags = flags == 2 || flags == 3 || flags == 11 || flags == 19 || flags == 7 || flags == 15 || flags == 23

-- 0 is a doubling file, 1 a fixed one or a log
abbrev pub is_kind : ℕ → Bool
is_kind kind = kind == 0 || kind == 1

-- the name at the front of a name field
abbrev pub name_of_field : List ℕ → List ℕ
name_of_field field = take (prefix_len is_name_byte field) field

-- a name field holds a name, and zeros after it
abbrev pub is_name_field : List ℕ → Bool
is_name_field field = is_file_name (name_of_field field) && is_zeros (drop (prefix_len is_name_byte field) field)

-- 32 bytes are a header: byte 8 is the kind, byte 9 the flags, and the bytes from 10 on the name
abbrev pub is_header : List ℕ → Bool
is_header bytes = is_kind (slice_index bytes 8) && is_flags (slice_index bytes 9) && is_name_field (drop 10 bytes)

-- the fields, as they stand in the bytes
abbrev pub fields : List ℕ → Header
fields bytes = record {
  log_page = u16_at bytes 0;
  log_records = u16_at bytes 2;
  log_record_size = u16_at bytes 4;
  max_pages = u16_at bytes 6;
  kind = slice_index bytes 8;
  flags = slice_index bytes 9;
  name = name_of_field (drop 10 bytes);
}

-- the header that 32 bytes are
unfoldable pub header_of : List ℕ → Option Header
header_of bytes = if is_header bytes then Some (fields bytes) else None

-- the 32 bytes of a header
unfoldable pub header_bytes : Header → List ℕ
header_bytes h =
    u16_bytes h.log_page ++ u16_bytes h.log_records ++ u16_bytes h.log_record_size ++ u16_bytes h.max_pages
    ++ (h.kind ∷ h.flags ∷ []) ++ padded 22 h.name

-- a header whose fields fit their bytes
pub record IsValid (h : Header) : Type 0 where
  pub log_page : h.log_page < 65536
  pub log_records : h.log_records < 65536
  pub log_record_size : h.log_record_size < 65536
  pub max_pages : h.max_pages < 65536
  pub kind : is_kind h.kind ≡ true
  pub flags : is_flags h.flags ≡ true
  pub name : is_file_name h.name ≡ true
