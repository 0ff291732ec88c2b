-- An image mends to one database, and a sound one to that which it stands for.
use Rattle.std.proofs.Common.{◌≡◌, inl, ℕ, zero, suc, ◌-◌, ◌*◌, ◌<◌, Bool, true, false, List, [], ◌∷◌, ◌++◌, length, map, replicate, get_or, Option, Some, None, if◌then◌else◌, refl, ap, sym, subst, ◌∙◌, arith}
use Rattle.std.specs.Prelude.{is_some, unwrap_or}
use Rattle.std.specs.List.{Contains}
use Rattle.std.specs.Str.{bytes_eq}
use Rattle.std.proofs.lemmas.Slice.Eq.{bytes_eq-Decides}
use Rattle.afl_base.specs.Files.{File, Table, file_at, place}
use Rattle.afl_base.proofs.FileLaws.{place_live}
use Rattle.coffee_cuts.specs.Cuts.{MendsTo, Nothing}
use Rattle.coffee_cuts.proofs.OneSettling.{one_list}
use Rattle.coffee_layout.specs.Files.{NamedFile, files_of, listed}
use Rattle.coffee_layout.specs.Rules.{broken_image}
use Rattle.coffee_layout.specs.Units.{pages_of}
use Rattle.coffee_merge.proofs.SoundTables.{sound_few}
use Rattle.coffee_volume.specs.Cuts.{MendsToFiles}
use Rattle.coffee_volume.specs.Mounting.{mounted_table, roomless_file}
use Rattle.coffee_volume.proofs.MountedTables.{mounted_length}
use Rattle.coffee_volume.proofs.Tables.{length_seen}
use Rattle.db_model.specs.Database.{Database}
use Rattle.space_model.specs.FileNames.{bytes_in_file, catalog_file, file_named, is_there, rows_file, tree_file}
use Rattle.space_model.proofs.NamedFiles.{named_place}
use Rattle.stored.specs.CutTables.{IsCutTable}
use Rattle.stored.specs.Mended.{mended_base}
use Rattle.stored.specs.Same.{HasLike, HaveSameFiles}
use Rattle.stored.proofs.MendedSound.{mended_of_sound}
use Rattle.stored.proofs.MendedTables.{mended_same}
use Rattle.stored.proofs.SoundCut.{sound_table_is_cut}
use Rattle.image_model.specs.Images.{IsSound, base, file_from, files_of_image}
use Rattle.image_model.specs.Mending.{ImageMendsTo, ImageReadsAs}
use Rattle.image_model.proofs.Mounted.{mounted_files}
use Rattle.image_model.proofs.OneName.{one_file}
use Rattle.stored.proofs.SameCut.{same_cut}
use Rattle.image_model.proofs.SameFiles.{live_there}

-- ---- files by name

-- files of one name have the same bytes
abbrev AreAlikeByName : Table → Type 0
AreAlikeByName files = (i j : ℕ) (f g : File) → place files i ≡ Some f → place files j ≡ Some g → f.name ≡ g.name → f.bytes ≡ g.bytes

-- there is a file of the name of a file
there_by : (files : Table) (id : ℕ) (f : File) → place files id ≡ Some f → (g : File) × (file_named f.name files ≡ Some g)
there_by [] id f e = cc
there_by (None ∷ files) zero f e = cc
there_by (None ∷ files) (suc id) f e = there_by files id f e
there_by (Some g ∷ files) zero f e =
    let same : g ≡ f = ap (λ o. unwrap_or o g) e in
    let here : bytes_eq g.name f.name ≡ true = (bytes_eq-Decides g.name f.name).1 (ap (λ x. x.name) same) in
    (g, ap (λ b. if b then Some g else file_named f.name files) here)
there_by (Some g ∷ files) (suc id) f e = by_test (bytes_eq g.name f.name) (there_by files id f e)
  where
    by_test : (b : Bool) → (h : File) × (file_named f.name files ≡ Some h) → (h : File) × ((if b then Some g else file_named f.name files) ≡ Some h)
    by_test true r = (g, refl)
    by_test false r = r

absent : (files : Table) (name : List ℕ) (f : File) → HasLike files f → f.name ≡ name → file_named name files ≡ None → ⊥
absent files name f like named none =
    let r = there_by files like.id like.file like.there in
    let no : None ≡ Some r.0 = sym none ∙ ap (λ x. file_named x files) (sym (like.name ∙ named)) ∙ r.1 in
    let n : ⊥ = cc in n

same_named : (old new : Table) (name : List ℕ) → AreAlikeByName old → HaveSameFiles old new
    → (is_some (file_named name new) ≡ is_some (file_named name old)) × (bytes_in_file (file_named name new) ≡ bytes_in_file (file_named name old))
same_named old new name alike s = by_both (file_named name old) refl (file_named name new) refl
  where
    by_both : (o : Option File) → file_named name old ≡ o → (p : Option File) → file_named name new ≡ p → (is_some p ≡ is_some o) × (bytes_in_file p ≡ bytes_in_file o)
    by_both None e None h = (refl, refl)
    by_both None e (Some g) h = let at = named_place new name g h in absurd (absent old name g (s.only at.0 g at.1) at.2 e)
    by_both (Some f) e None h = let at = named_place old name f e in absurd (absent new name f (s.kept at.0 f at.1) at.2 h)
    by_both (Some f) e (Some g) h =
        let was = named_place old name f e in
        let now = named_place new name g h in
        let like = s.only now.0 g now.1 in
        (refl, sym like.bytes ∙ sym (alike was.0 like.id f like.file was.1 like.there (was.2 ∙ sym (like.name ∙ now.2))))

mended_of_same : (old new : Table) → AreAlikeByName old → HaveSameFiles old new → mended_base new ≡ mended_base old
mended_of_same old new alike s = mended_same old new (record {
  catalog = (same_named old new catalog_file alike s).1;
  rows = λ k below used. (same_named old new (rows_file k) alike s).1;
  trees = λ i below tree. (same_named old new (tree_file i) alike s).0;
})

-- ---- what an image mends to

held : (image : List ℕ) (files : Table) (m : MendsToFiles image files) (id : ℕ) (f : File) → place files id ≡ Some f → Contains m.named (roomless_file f)
held image files m id f e =
    let l = live_there files id f e in
    subst (λ x. Contains m.named (roomless_file x)) l.1 (m.each id l.0)

like_of : (image : List ℕ) (files : Table) (m : MendsToFiles image files) (f : File) → Contains m.named (roomless_file f) → HasLike files f
like_of image files m f has =
    let o = m.only (roomless_file f) has in
    record {
      id = o.0;
      file = file_at files o.0;
      there = place_live files o.0 o.1;
      name = ap (λ (x : NamedFile). x.name) o.2;
      kind = ap (λ (x : NamedFile). x.kind) o.2;
      bytes = ap (λ (x : NamedFile). x.bytes) o.2;
    }

-- any two tables that an image mends to have the same files
alike : (image : List ℕ) (files : Table) (sectors : ℕ) → length image ≡ 4096 * sectors → MendsToFiles image files → AreAlikeByName files
alike image files sectors size m = λ i j f g e h name.
    ap (λ (x : NamedFile). x.bytes) (one_file image m.named sectors size m.mends (roomless_file f) (roomless_file g) (held image files m i f e) (held image files m j g h) name)

have_same : (image : List ℕ) (files others : Table) (sectors : ℕ) → length image ≡ 4096 * sectors → MendsToFiles image files → MendsToFiles image others → HaveSameFiles files others
have_same image files others sectors size m n =
    let same : m.named ≡ n.named = one_list image m.named n.named sectors size m.mends n.mends in
    record {
      kept = λ id f e. like_of image others n f (subst (λ fs. Contains fs (roomless_file f)) same (held image files m id f e));
      only = λ id f e. like_of image files m f (subst (λ fs. Contains fs (roomless_file f)) (sym same) (held image others n id f e));
    }

-- they mend to one database
pub one_base : (image : List ℕ) (files others : Table) (sectors : ℕ) → length image ≡ 4096 * sectors → MendsToFiles image files → MendsToFiles image others → mended_base files ≡ mended_base others
one_base image files others sectors size m n =
    sym (mended_of_same files others (alike image files sectors size m) (have_same image files others sectors size m n))

-- the same names are in both
pub one_there : (image : List ℕ) (files others : Table) (name : List ℕ) (sectors : ℕ) → length image ≡ 4096 * sectors → MendsToFiles image files → MendsToFiles image others
    → is_there name others ≡ is_there name files
one_there image files others name sectors size m n = (same_named files others name (alike image files sectors size m) (have_same image files others sectors size m n)).0

-- and where a cut can have left the one, it can have left the other
pub one_cut : (image : List ℕ) (files others : Table) (sectors : ℕ) → length image ≡ 4096 * sectors → MendsToFiles image files → MendsToFiles image others → IsCutTable files → IsCutTable others
one_cut image files others sectors size m n cut =
    let same = have_same image files others sectors size m n in
    let named = same_named files others in
    same_cut files others (record {
      there = λ name. (named name (alike image files sectors size m) same).0;
      bytes = λ name. (named name (alike image files sectors size m) same).1;
      only = same.only;
    })
    cut

-- ---- the table of an image

from_table : (fs : List NamedFile) (n id : ℕ) (f : File) → place (map (λ f. Some (file_from f)) fs ++ replicate n None) id ≡ Some f → Contains fs (roomless_file f)
from_table [] zero id f e = cc
from_table [] (suc n) zero f e = cc
from_table [] (suc n) (suc id) f e = from_table [] n id f e
from_table (x ∷ fs) n zero f e = (0, omega arith, ap (λ o. roomless_file (unwrap_or o (file_from x))) e)
from_table (x ∷ fs) n (suc id) f e =
    let c = from_table fs n id f e in
    let less : c.0 < length fs = c.1 in
    (suc c.0, omega (arith, less), c.2)

in_table : (fs : List NamedFile) (n i : ℕ) (f : NamedFile) → i < length fs → get_or fs i f ≡ f → place (map (λ f. Some (file_from f)) fs ++ replicate n None) i ≡ Some (file_from f)
in_table [] n i f less e = absurd (omega (arith, less))
in_table (x ∷ fs) n zero f less e = ap (λ y. Some (file_from y)) e
in_table (x ∷ fs) n (suc i) f less e = in_table fs n i f (omega (arith, less)) e

-- an image mends to the table of one that has the files that it mends to
pub table_mends : (old new : List ℕ) (named : List NamedFile) → MendsTo old named → ((f : NamedFile) → Contains named f → Contains (files_of new) f) → ((f : NamedFile) → Contains (files_of new) f → Contains named f)
    → MendsToFiles old (files_of_image new)
unfolding files_of_image
table_mends old new named mends kept only = record {
  named = named;
  mends = mends;
  each = λ id live.
      let table : Table = map (λ f. Some (file_from f)) (files_of new) ++ replicate (32 - length (files_of new)) None in
      only (roomless_file (file_at table id)) (from_table (files_of new) (32 - length (files_of new)) id (file_at table id) (place_live table id live));
  only = λ f has.
      let table : Table = map (λ f. Some (file_from f)) (files_of new) ++ replicate (32 - length (files_of new)) None in
      let c = kept f has in
      let l = live_there table c.0 (file_from f) (in_table (files_of new) (32 - length (files_of new)) c.0 f c.1 c.2) in
      (c.0, l.0, ap roomless_file l.1);
}

-- a sound image mends to what it stands for
pub sound_base : (image : List ℕ) → IsSound image → mended_base (files_of_image image) ≡ base image
unfolding base
sound_base image s = mended_of_sound (files_of_image image) s.database

-- and to its own files
pub own_files : (image : List ℕ) → broken_image image ≡ None → MendsToFiles image (files_of_image image)
own_files image sound = table_mends image image (files_of image) (record { under_way = Nothing; found = tt; settles = inl sound; files_are = refl }) (λ f has. has) (λ f has. has)

-- these are ones that a cut can have left
pub sound_cut : (image : List ℕ) (sectors : ℕ) → length image ≡ 4096 * sectors → IsSound image → IsCutTable (files_of_image image)
sound_cut image sectors size s =
    let whole : 256 * pages_of image ≡ length image = omega (arith, size) in
    let places : length (files_of_image image) ≡ 32 =
    ap length (sym (mounted_files image)) ∙ length_seen true image (mounted_table (listed image)) ∙ mounted_length (listed image) (sound_few image s.volume whole) in
    sound_table_is_cut (files_of_image image) s.database places

pub sound_mends : (image : List ℕ) (sectors : ℕ) → length image ≡ 4096 * sectors → IsSound image → ImageMendsTo image (λ mended. mended ≡ base image)
sound_mends image sectors size s = record { files = files_of_image image; mends_to = own_files image s.volume; cut = sound_cut image sectors size s; is = sound_base image s }

-- and so to one database
pub sound_is : (image : List ℕ) (db : Database) (sectors : ℕ) → length image ≡ 4096 * sectors → IsSound image → ImageReadsAs image (λ mended. mended ≡ db) → base image ≡ db
sound_is image db sectors size s m =
    sym (sound_base image s) ∙ one_base image (files_of_image image) m.files sectors size (own_files image s.volume) m.mends_to ∙ m.is
