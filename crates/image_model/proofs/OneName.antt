-- An image mends to one file of a name.
use Rattle.std.proofs.Common.{◌≡◌, ℕ, zero, suc, ◌+◌, ◌*◌, ◌<◌, List, [], ◌∷◌, length, map, get_or, None, refl, ap, sym, subst, ◌∙◌, arith}
use Rattle.std.specs.List.{Contains}
use Rattle.afl_base.proofs.Images.{length_or_at, length_zeros_at}
use Rattle.coffee_cuts.specs.Cuts.{IsFound, MendsTo, UnderWay, Nothing, Beginning, Building, Erasing, Unnamed, Naming, Replacing, settled}
use Rattle.coffee_cuts.proofs.SettledRules.{settled_kept}
use Rattle.coffee_layout.specs.Files.{NamedFile, Placed, files_in, named_file}
use Rattle.coffee_layout.specs.Rules.{first_repeated}
use Rattle.coffee_layout.specs.Tiling.{units_of}
use Rattle.coffee_merge.specs.Flags.{flagged}
use Rattle.coffee_merge.proofs.SoundEntries.{IsAt, at_same, one_place}

-- ---- the length of what is settled

flagged_long : (image : List ℕ) (page flag : ℕ) → length (flagged image page flag) ≡ length image
flagged_long image page flag = length_or_at image (256 * page + 9) (flag ∷ [])

pub settled_long : (image : List ℕ) (under_way : UnderWay) → IsFound image under_way → length (settled image under_way) ≡ length image
settled_long image Nothing f = refl
settled_long image (Beginning page) f = flagged_long image page 34
settled_long image (Building page) f = flagged_long image page 5
settled_long image (Erasing sector page) f = length_zeros_at image (4096 * sector) 4096 f.inside
settled_long image (Unnamed log) f = flagged_long image log 4
settled_long image (Naming page) f = flagged_long image page 8
settled_long image (Replacing dropped kept) f = flagged_long image dropped.page 4

-- ---- names

contains_at : (make : Placed → NamedFile) (fs : List Placed) (i : ℕ) (n : NamedFile) → i < length (map make fs) → get_or (map make fs) i n ≡ n → (f : Placed) × IsAt fs i f × (n ≡ make f)
contains_at make [] i n less e = absurd (omega (arith, less))
contains_at make (x ∷ xs) zero n less e = (x, refl, sym e)
contains_at make (x ∷ xs) (suc i) n less e = contains_at make xs i n (omega (arith, less)) e

one_contained : (make : Placed → NamedFile) (fs : List Placed) → ((f : Placed) → (make f).name ≡ f.header.name) → first_repeated [] fs ≡ None
    → (m n : NamedFile) → Contains (map make fs) m → Contains (map make fs) n → m.name ≡ n.name → m ≡ n
one_contained make fs named once m n a b same =
    let f = contains_at make fs a.0 m a.1 a.2 in
    let g = contains_at make fs b.0 n b.1 b.2 in
    let names : f.0.header.name ≡ g.0.header.name =
    sym (named f.0) ∙ ap (λ (x : NamedFile). x.name) (sym f.2) ∙ same ∙ ap (λ (x : NamedFile). x.name) g.2 ∙ named g.0 in
    let at : a.0 ≡ b.0 = one_place fs a.0 b.0 f.0 g.0 once f.1 g.1 names in
    f.2 ∙ ap make (at_same fs b.0 f.0 g.0 (subst (λ i. IsAt fs i f.0) at f.1) g.1) ∙ sym g.2

pub one_file : (image : List ℕ) (files : List NamedFile) (sectors : ℕ) → length image ≡ 4096 * sectors → MendsTo image files
    → (m n : NamedFile) → Contains files m → Contains files n → m.name ≡ n.name → m ≡ n
one_file image files sectors size mends m n a b same =
    let now : List ℕ = settled image mends.under_way in
    let long = settled_long image mends.under_way mends.found in
    let kept = settled_kept (settled image mends.under_way) (omega (arith, long, size)) mends.settles in
    one_contained (named_file now) (files_in (units_of now)) (λ f. refl) kept.rules.names m n
    (subst (λ fs. Contains fs m) mends.files_are a) (subst (λ fs. Contains fs n) mends.files_are b) same
