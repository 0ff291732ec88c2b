-- Images that keep the active extents, by any list of units that tiles them.
use Rattle.std.proofs.Common.{◌≡◌, ℕ, inl, Bool, true, false, List, get_or, refl, ap, sym, subst, ◌∙◌}
use Rattle.afl_base.specs.Image.{page_bytes}
use Rattle.coffee_layout.specs.Marks.{active_pages, is_taken}
use Rattle.coffee_layout.specs.Tiling.{IsTiled, units_of}
use Rattle.coffee_layout.specs.declared.unit.Unit.{Unit}
use Rattle.coffee_layout.proofs.Tilings.{units_tiled}
use Rattle.coffee_space.specs.Collection.{IsCollected, KeepsActive, active_extents, units_left}
use Rattle.coffee_space.specs.Cutting.{IsCutCollection}

pub tiled_units : (building : ℕ → Bool) (image : List ℕ) (us : List Unit) → IsTiled building image us → IsTiled building image (units_of image)
tiled_units building image us t = subst (λ vs. IsTiled building image vs) (sym (units_tiled building image us t)) t

pub keeps_active : (building : ℕ → Bool) (old new : List ℕ) (us vs : List Unit) → IsTiled building new vs → active_extents vs ≡ active_extents us
    → ((page : ℕ) → get_or (active_pages us) page false ≡ true → page_bytes new page ≡ page_bytes old page) → KeepsActive building old new us
keeps_active building old new us vs t extents active = record {
  tiled = tiled_units building new vs t;
  extents = ap active_extents (units_tiled building new vs t) ∙ extents;
  active = active;
}

-- the image stays
pub keeps_same : (building : ℕ → Bool) (old new : List ℕ) (us : List Unit) → new ≡ old → IsTiled building old us → KeepsActive building old new us
keeps_same building old new us same t =
    keeps_active building old new us us (subst (λ image. IsTiled building image us) (sym same) t) refl (λ page a. ap (λ image. page_bytes image page) same)

-- a collection took what it could
pub keeps_collected : (building : ℕ → Bool) (old new : List ℕ) (us : List Unit) → IsCollected building old new us → KeepsActive building old new us
keeps_collected building old new us c = keeps_active building old new us (units_left (is_taken us) 0 us) c.tiled c.extents c.active

-- where it breaks off before anything is written, or behind a collection
pub cut_before : (old new : List ℕ) → new ≡ old → (building : ℕ → Bool) (us : List Unit) → IsTiled building old us → IsCutCollection building old new us
cut_before old new same building us tiled = inl (keeps_same building old new us same tiled)

pub cut_behind : (old mid new : List ℕ) → ((building : ℕ → Bool) (us : List Unit) → IsTiled building old us → IsCollected building old mid us) → new ≡ mid → (building : ℕ → Bool) (us : List Unit) → IsTiled building old us → IsCutCollection building old new us
cut_behind old mid new c same building us tiled = subst (λ image. IsCutCollection building old image us) (sym same) (inl (keeps_collected building old mid us (c building us tiled)))
