-- Room is made in the catalog, and one slot of it is replaced.
use Rattle.std.proofs.Common.{◌≡◌, ℕ, Some, sym, ◌∙◌, subst}
use Rattle.afl_base.specs.Files.{IsLive, KeepsBytes, State, Table}
use Rattle.afl_base.proofs.FileLaws.{named_live}
use Rattle.afl_base.proofs.FrameLaws.{becomes_spares}
use Rattle.catalog.specs.CatalogFile.{IsCatalogSize}
use Rattle.space_model.specs.FileNames.{catalog_file}
use Rattle.session_model.specs.Frames.{AsksNoExtent}
use Rattle.session_model.specs.Running.{HasCatalogFile}

pub live_catalog : (files : Table) (cat : ℕ) → HasCatalogFile files (Some cat) → IsLive files cat
live_catalog files cat h = named_live files cat catalog_file h.0

module _ (old new : State) (cat : ℕ) (u : KeepsBytes old new cat) where
  pub catalog_stays : HasCatalogFile old.files (Some cat) → HasCatalogFile new.files (Some cat)
  catalog_stays h = (
    (becomes_spares old new cat _ _ (live_catalog old.files cat h) u).named cat ∙ h.0,
    subst IsCatalogSize (sym u.size) h.1,
    u.kind ∙ h.2,
  )

-- where reading asks for nothing new, none is asked for after it, either
pub asks_as_before : (asks after : ℕ → ℕ → ℕ → ℕ → Type 0) (old new : State) (cat at n : ℕ) → new ≡ old → ((id overwrites bytes need : ℕ) → after id overwrites bytes need → asks id overwrites bytes need)
    → AsksNoExtent asks old.files cat at n → AsksNoExtent after new.files cat at n
asks_as_before asks after old new cat at n same less none =
    subst (λ (s : State). AsksNoExtent after s.files cat at n) (sym same) (λ need asked. none need (less _ _ _ need asked))
