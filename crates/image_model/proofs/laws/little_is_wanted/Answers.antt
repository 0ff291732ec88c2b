use Rattle.std.proofs.Common.{◌⊎◌, inl, inr, ℕ, ap, ◌∙◌}
use Rattle.afl_base.specs.Files.{AreDistinct, IsNamed, IsUnnamed, Table, file_at}
use Rattle.session_model.specs.Wanted.{room_in}
use Rattle.session_model.proofs.Wanted.{room_bytes}
use Rattle.space_model.specs.FileNames.{catalog_file}
use Rattle.space_model.specs.Wants.{IsOfSixPages}
use Rattle.stored.specs.Files.{HasCatalog}
use Rattle.image_model.proofs.laws.little_is_wanted.Goals as goal

-- a file of the catalog's name is the catalog
of_catalog : (files : Table) → AreDistinct files → HasCatalog files ⊎ IsUnnamed files catalog_file → (id : ℕ) → IsNamed files id catalog_file → IsOfSixPages files id
of_catalog files distinct (inl cat) id named = ap (λ (i : ℕ). (file_at files i).kind) (distinct id cat.id catalog_file named cat.named) ∙ cat.fixed
of_catalog files distinct (inr none) id named = absurd (none id named)

pub returns : goal.returns
returns g c = λ little sound command need wants.
    let state = g.V.Files.state c.args.files.now in
    let e = c.tell_places.ensures in
    let has = c.sound_catalogs_have_their_files.ensures state.files e.places e.distinct sound.catalog in
    c.commands_want_at_most.ensures (room_in state.files) _ command need
    (c.sound_files_have_their_sizes.ensures state.files e.places e.distinct sound)
    (c.files_ask_for_few.ensures (room_in state.files) e.distinct has.kinds (of_catalog state.files e.distinct has.catalog) (λ slot key. room_bytes _ key) little)
    wants
