-- The window of a volume: part of the content of the file that was read last.
use Rattle.std.proofs.Common.{◌≡◌, sym, ap, subst, ◌∙◌, ℕ, ◌+◌, ◌-◌, ◌<◌, ◌≤◌, List, [], ◌++◌, length, take, drop, get_or, arith, ⊎_elim}
use Rattle.std.specs.Prelude.{slice_range}
use Rattle.std.proofs.lemmas.Bool.{cases_lt}
use Rattle.std.proofs.lemmas.List.{get_or-append_right, get_or-drop, get_or-take, get_or_append_left, length-drop, length-take-le}
use Rattle.coffee_volume.specs.Volumes.{EntryTable, IsEntry}
use Rattle.coffee_volume.specs.Windows.{IsPart, Part, ShowsContent, ShowsFile, content_of}
use Rattle.coffee_volume.specs.declared.entry.Entry.{Entry}
use Rattle.coffee_volume.proofs.Tables.{one_entry}

-- nothing is held
pub none_held : (bytes : List ℕ) (k : ℕ) → bytes ≡ [] → k < length bytes → ⊥
none_held bytes k none low = omega (arith, low, ap (λ xs. length xs) none)

-- what is held of a file, and what it is after it was read
pub shown_here : (image : List ℕ) (table : EntryTable) (part : Part) (e : Entry) (id : ℕ) → ShowsFile image table part → IsEntry table id e → part.file ≡ id → ShowsContent part (content_of image e.at)
shown_here image table part e id shown entry file = shown e (subst (λ i. IsEntry table i e) (sym file) entry)

pub shown_on : (old new : List ℕ) (table : EntryTable) (e : Entry) (id : ℕ) (part : Part) → new ≡ old → IsEntry table id e → part.file ≡ id → ShowsContent part (content_of old e.at) → ShowsFile new table part
shown_on old new table e id part same entry file shows d is =
    let here : IsEntry table id d = subst (λ i. IsEntry table i d) file is in
    let one : e ≡ d = one_entry table id e d entry here in
    subst (λ (x : Entry). ShowsContent part (content_of new x.at)) one (subst (λ i. ShowsContent part (content_of i e.at)) (sym same) shows)

-- what is given of what is held
pub given_part : (bytes new rest : List ℕ) (held before count from at : ℕ) (content : ℕ → ℕ) → new ≡ slice_range bytes before (before + count) → before + count ≤ held → held ≤ length bytes → at ≡ from + before
    → IsPart (take held bytes) (length (take held bytes)) from content → IsPart (new ++ rest) count at content
given_part bytes new rest held before count from at content is fits some place shows k low =
    let many : length (take held bytes) ≡ held = length-take-le held bytes some in
    let n : before + count - before ≡ count = omega arith in
    let left = length-drop before bytes in
    let long : length new ≡ count = ap length is ∙ ap (λ m. length (take m (drop before bytes))) n ∙ length-take-le count (drop before bytes) (omega (arith, left, fits, some)) in
    let here : from + (before + k) ≡ at + k = omega (arith, place) in
    get_or_append_left new rest 0 k (omega (arith, long, low))
    ∙ ap (λ xs. get_or xs k 0) is
    ∙ get_or-take (before + count - before) (drop before bytes) k 0 (omega (arith, n, low))
    ∙ get_or-drop before bytes k 0
    ∙ sym (get_or-take held bytes (before + k) 0 (omega (arith, low, fits)))
    ∙ shows (before + k) (omega (arith, low, fits, many))
    ∙ ap content here

-- what is given, and what is read behind it
pub joined_part : (front rest post : List ℕ) (given at : ℕ) (content : ℕ → ℕ) → given ≤ length front → IsPart front given at content → IsPart rest (length rest) (at + given) content
    → IsPart (take given front ++ (rest ++ post)) (given + length rest) at content
joined_part front rest post given at content some first second k low =
    let long : length (take given front) ≡ given = length-take-le given front some in
    ⊎_elim
    (λ (before : k < given). get_or_append_left (take given front) (rest ++ post) 0 k (omega (arith, long, before)) ∙ get_or-take given front k 0 before ∙ first k before)
    (λ (behind : given ≤ k).
    let same : at + given + (k - given) ≡ at + k = omega (arith, behind) in
    get_or-append_right (take given front) (rest ++ post) given k 0 long behind
    ∙ get_or_append_left rest post 0 (k - given) (omega (arith, low, behind))
    ∙ second (k - given) (omega (arith, low, behind))
    ∙ ap content same)
    (cases_lt k given)
