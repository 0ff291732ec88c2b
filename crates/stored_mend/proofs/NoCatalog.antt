-- A catalog whose first change was not whole is none.
use Rattle.std.proofs.Common.{◌≡◌, ℕ, ◌<◌, [], length, ap, sym, subst, ◌∙◌}
use Rattle.afl_base.specs.Files.{IsNamed, IsUnnamed, Removes, State, bytes_at}
use Rattle.afl_base.proofs.FileLaws.{named_live, place_live}
use Rattle.catalog.proofs.Named.{named_found, named_none}
use Rattle.space_model.specs.FileNames.{bytes_in_file, bytes_named, catalog_file}
use Rattle.stored.specs.Mended.{mended_base, whole_bytes}
use Rattle.stored.proofs.MendedBase.{mended_none, whole_short}
use Rattle.stored_mend.proofs.Replaced.{name_of}

-- it is removed
pub catalog_gone : (old new : State) (cat : ℕ) → IsNamed old.files cat catalog_file → ((k : ℕ) → IsNamed old.files k catalog_file → k ≡ cat) → length (bytes_at old.files cat) < 1472
    → Removes old new cat → mended_base new.files ≡ mended_base old.files
catalog_gone old new cat named only short r =
    let live = named_live old.files cat catalog_file named in
    let before : bytes_named catalog_file old.files ≡ bytes_at old.files cat = ap bytes_in_file (named_found old.files cat catalog_file named only ∙ place_live old.files cat live) in
    let unnamed : IsUnnamed new.files catalog_file = subst (IsUnnamed new.files) (name_of old.files cat catalog_file named) r.unnamed in
    let after : bytes_named catalog_file new.files ≡ [] = ap bytes_in_file (named_none new.files catalog_file unnamed) in
    mended_none new.files (ap whole_bytes after) ∙ sym (mended_none old.files (ap whole_bytes before ∙ whole_short (bytes_at old.files cat) short))
