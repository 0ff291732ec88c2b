-- An image that a cut left of a write that settles another one mends to its files.
use Rattle.std.proofs.Common.{◌≡◌, ⊎_elim, ℕ, ◌*◌, List, refl, ap, subst, sym, ◌∙◌}
use Rattle.afl_base.specs.Cuts.{IsCutErase}
use Rattle.afl_base.specs.Image.{zeros_at}
use Rattle.coffee_cuts.specs.Cuts.{IsErasing, IsFound, IsSettled, UnderWay, Nothing, Beginning, Building, Erasing, Unnamed, Naming, Replacing, settled}
use Rattle.coffee_layout.specs.Files.{NamedFile, files_of}
use Rattle.coffee_merge.specs.CutMarks.{IsOneOf}
use Rattle.coffee_mend.proofs.Erasures.{erasing_again, whole_same}
use Rattle.coffee_mend.specs.Mended.{MendAlike}
use Rattle.coffee_mend.specs.Settling.{IsCutSettling}

-- where the images once settled are the same
alike : (old new : List ℕ) (u v : UnderWay) → IsFound old u → IsSettled (settled old u) → IsFound new v → settled new v ≡ settled old u → MendAlike old new
alike old new u v found settles there same =
    let files : List NamedFile = files_of (settled old u) in
    record {
      files = files;
      mends = record { under_way = u; found = found; settles = settles; files_are = refl };
      others = files;
      still = record { under_way = v; found = there; settles = subst IsSettled (sym same) settles; files_are = ap files_of (sym same) };
      kept = λ f has. has;
      only = λ f has. has;
    }

-- nothing was done
undone : (old new : List ℕ) (u : UnderWay) → IsFound old u → IsSettled (settled old u) → new ≡ old → MendAlike old new
undone old new u found settles is = alike old new u u found settles (subst (λ i. IsFound i u) (sym is) found) (ap (λ i. settled i u) is)

-- or all
done : (old new : List ℕ) (u : UnderWay) → IsFound old u → IsSettled (settled old u) → new ≡ settled old u → MendAlike old new
done old new u found settles is = alike old new u Nothing found settles tt is

one : (old new : List ℕ) (u : UnderWay) → IsFound old u → IsSettled (settled old u) → IsOneOf new old (settled old u) → MendAlike old new
one old new u found settles cut = ⊎_elim (undone old new u found settles) (done old new u found settles) cut

-- a front part of the sector is erased
erased : (old new : List ℕ) (sector page : ℕ) → IsFound old (Erasing sector page) → IsSettled (settled old (Erasing sector page)) → IsCutErase old new sector → MendAlike old new
erased old new sector page found settles cut =
    alike old new (Erasing sector page) (Erasing sector page) found settles
    (subst (λ i. IsErasing i sector page) (sym cut.is) (erasing_again old sector page cut.done found cut.within))
    (ap (λ i. zeros_at i (4096 * sector) 4096) cut.is ∙ whole_same old (4096 * sector) cut.done found.inside cut.within)

pub settling_mends : (old new : List ℕ) (u : UnderWay) → IsFound old u → IsSettled (settled old u) → IsCutSettling old new u → MendAlike old new
settling_mends old new Nothing found settles cut = undone old new Nothing found settles cut
settling_mends old new (Beginning page) found settles cut = one old new (Beginning page) found settles cut
settling_mends old new (Building page) found settles cut = one old new (Building page) found settles cut
settling_mends old new (Erasing sector page) found settles cut = erased old new sector page found settles cut
settling_mends old new (Unnamed log) found settles cut = one old new (Unnamed log) found settles cut
settling_mends old new (Naming page) found settles cut = one old new (Naming page) found settles cut
settling_mends old new (Replacing dropped kept) found settles cut = one old new (Replacing dropped kept) found settles cut
