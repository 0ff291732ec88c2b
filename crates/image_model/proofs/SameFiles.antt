-- The files of a volume are those of the image that it hands back.
use Rattle.std.proofs.Common.{◌≡◌, ℕ, zero, suc, ◌-◌, ◌*◌, ◌<◌, true, List, [], ◌∷◌, ◌++◌, length, map, replicate, get_or, Option, Some, None, refl, ap, sym, subst, ◌∙◌, arith}
use Rattle.std.specs.Prelude.{IsTrue, is_some, option_map, unwrap_or}
use Rattle.std.specs.List.{Contains}
use Rattle.afl_base.specs.Files.{AreDistinct, File, IsLive, Table, file_at, name_at, no_file, place}
use Rattle.coffee_layout.specs.Files.{NamedFile, Placed, entry_of, files_in as placed_in, files_of, listed, named_file}
use Rattle.coffee_layout.specs.Rules.{broken_image}
use Rattle.coffee_layout.specs.Tiling.{units_of}
use Rattle.coffee_layout.specs.Units.{pages_of}
use Rattle.coffee_layout.specs.declared.file.FileAt.{FileAt}
use Rattle.coffee_merge.specs.Holding.{IsIn}
use Rattle.coffee_merge.proofs.SoundTables.{sound_held}
use Rattle.coffee_volume.specs.Mounting.{mounted_state, roomless_file}
use Rattle.coffee_volume.specs.Volumes.{file_seen, files_seen, roomless}
use Rattle.stored.specs.Same.{HasLike, HaveSameFiles}
use Rattle.padded.proofs.Facts.{some_alike}
use Rattle.afl_base.proofs.FileLaws.{place_live}

-- ---- the same files

module _ (image : List ℕ) where
  abbrev seen : List Placed → ℕ → Table
  seen fs n = files_seen true image (map (λ (at : FileAt). Some (roomless at)) (map (entry_of image) fs) ++ replicate n None)

  -- a file that is contained has its like in the table
  contained_like : (fs : List Placed) (n i : ℕ) (f : File) → i < length (map (named_file image) fs)
      → get_or (map (named_file image) fs) i (roomless_file f) ≡ roomless_file f → HasLike (seen fs n) f
  contained_like [] n i f h e = absurd (omega (arith, h))
  contained_like (p ∷ ps) n zero f h e = record {
    id = 0;
    file = file_seen true image (roomless (entry_of image p));
    there = refl;
    name = ap (λ (x : NamedFile). x.name) e;
    kind = ap (λ (x : NamedFile). x.kind) e;
    bytes = ap (λ (x : NamedFile). x.bytes) e;
  }
  contained_like (p ∷ ps) n (suc i) f h e =
      let l = contained_like ps n i f (omega (arith, h)) e in
      record { id = suc l.id; file = l.file; there = l.there; name = l.name; kind = l.kind; bytes = l.bytes }

  none_there : (n i : ℕ) (g : File) → place (seen [] n) i ≡ Some g → ⊥
  none_there zero i g e = cc
  none_there (suc n) zero g e = cc
  none_there (suc n) (suc i) g e = none_there n i g e

  there_contained : (fs : List Placed) (n i : ℕ) (g : File) → place (seen fs n) i ≡ Some g → Contains (map (named_file image) fs) (roomless_file g)
  there_contained [] n i g e = absurd (none_there n i g e)
  there_contained (p ∷ ps) n zero g e =
      let same : file_seen true image (roomless (entry_of image p)) ≡ g = ap (λ o. unwrap_or o no_file) e in
      (0, omega arith, ap roomless_file same)
  there_contained (p ∷ ps) n (suc i) g e =
      let c = there_contained ps n i g e in
      let less : c.0 < length (map (named_file image) ps) = c.1 in
      (suc c.0, omega (arith, less), c.2)

pub live_there : (files : Table) (id : ℕ) (f : File) → place files id ≡ Some f → IsLive files id × (file_at files id ≡ f)
live_there files id f e = (subst (λ o. IsTrue (is_some o)) (sym e) refl, ap (λ o. unwrap_or o no_file) e)

-- as a volume says it when it hands back its flash
pub same_files : (files : Table) (image : List ℕ)
    → ((id : ℕ) → IsLive files id → Contains (files_of image) (roomless_file (file_at files id)))
    → ((n : NamedFile) → Contains (files_of image) n → (id : ℕ) × IsLive files id × (roomless_file (file_at files id) ≡ n))
    → HaveSameFiles files (mounted_state image).files
same_files files image each only = record {
  kept = λ id f e.
      let l = live_there files id f e in
      let c : Contains (files_of image) (roomless_file f) = subst (λ x. Contains (files_of image) (roomless_file x)) l.1 (each id l.0) in
      contained_like image (placed_in (units_of image)) (32 - length (listed image)) c.0 f c.1 c.2;
  only = λ id g e.
      let c = there_contained image (placed_in (units_of image)) (32 - length (listed image)) id g e in
      let o = only (roomless_file g) c in
      record {
        id = o.0;
        file = file_at files o.0;
        there = place_live files o.0 o.1;
        name = ap (λ (x : NamedFile). x.name) o.2;
        kind = ap (λ (x : NamedFile). x.kind) o.2;
        bytes = ap (λ (x : NamedFile). x.bytes) o.2;
      };
}

-- ---- names

name_of_entry : Option FileAt → Option (List ℕ)
name_of_entry o = option_map (λ (e : FileAt). e.name) o

names_none : (image : List ℕ) (n i : ℕ) → name_at (files_seen true image (replicate n None)) i ≡ name_of_entry (get_or (replicate n None) i None)
unfolding name_of_entry
names_none image zero i = refl
names_none image (suc n) zero = refl
names_none image (suc n) (suc i) = names_none image n i

names_seen : (image : List ℕ) (es : List FileAt) (n i : ℕ)
    → name_at (files_seen true image (map (λ (at : FileAt). Some (roomless at)) es ++ replicate n None)) i
    ≡ name_of_entry (get_or (map Some es ++ replicate n None) i None)
unfolding name_of_entry
names_seen image [] n i = names_none image n i
names_seen image (e ∷ es) n zero = refl
names_seen image (e ∷ es) n (suc i) = names_seen image es n i

entry_named : (o : Option FileAt) (name : List ℕ) → name_of_entry o ≡ Some name → (e : FileAt) × (o ≡ Some e) × (e.name ≡ name)
unfolding name_of_entry
entry_named None name h = cc
entry_named (Some e) name h = (e, refl, some_alike h)

distinct_by : (image : List ℕ) (es : List FileAt) (n : ℕ)
    → ((i j : ℕ) (e d : FileAt) → IsIn (map Some es ++ replicate n None) i e → IsIn (map Some es ++ replicate n None) j d → e.name ≡ d.name → i ≡ j)
    → AreDistinct (files_seen true image (map (λ (at : FileAt). Some (roomless at)) es ++ replicate n None))
distinct_by image es n names i j name a b =
    let x = entry_named (get_or (map Some es ++ replicate n None) i None) name (sym (names_seen image es n i) ∙ a) in
    let y = entry_named (get_or (map Some es ++ replicate n None) j None) name (sym (names_seen image es n j) ∙ b) in
    names i j x.0 y.0 x.1 y.1 (x.2 ∙ sym y.2)

-- no two files of an image that keeps its rules have one name
pub distinct_image : (image : List ℕ) → broken_image image ≡ None → 256 * pages_of image ≡ length image → AreDistinct (mounted_state image).files
distinct_image image sound whole =
    let free : ℕ = 32 - length (listed image) in
    let holds = sound_held image free sound whole in
    distinct_by image (listed image) free holds.names
