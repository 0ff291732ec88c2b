-- The search for a name that stands twice.
use Rattle.std.proofs.Common.{◌≡◌, ℕ, ◌+◌, ◌<◌, Bool, true, false, ◌||◌, List, [], ◌∷◌, ◌++◌, length, take, drop, get_or, map, Some, if◌then◌else◌, refl, ap, sym, subst, ◌∙◌, arith}
use Rattle.std.specs.List.{list_any}
use Rattle.std.proofs.lemmas.List.{get_or_at, length-map, map-append}
use Rattle.coffee_layout.specs.Files.{Placed, entry_with}
use Rattle.coffee_layout.specs.Rules.{first_repeated, same_name}
use Rattle.coffee_layout.specs.declared.file.FileAt.{FileAt}
use Rattle.coffee_layout.proofs.Splits.{split, take_here, drop_here, take_behind, drop_behind}

abbrev sketches : List Placed → List FileAt
sketches files = map (λ f. entry_with f 0 0) files

abbrev names : List Placed → List (List ℕ)
names files = map (λ f. f.header.name) files

-- a name among entries is one among names
named_among : (name : List ℕ) (files : List Placed) → list_any (λ f. same_name f.name name) (sketches files) ≡ list_any (λ n. same_name n name) (names files)
named_among name [] = refl
named_among name (f ∷ fs) = ap (λ b. same_name f.header.name name || b) (named_among name fs)

-- what one file adds to the search
pub record Turn (files : List Placed) (i : ℕ) (entry : FileAt) (named : Bool) : Type 0 where
  pub onward : named ≡ false → first_repeated (names (take (i + 1) files)) (drop (i + 1) files) ≡ first_repeated (names (take i files)) (drop i files)
  pub found : named ≡ true → first_repeated (names (take i files)) (drop i files) ≡ Some entry.page.0

turn_at : (front rest : List Placed) (f : Placed) (i : ℕ) (entry : FileAt) (named : Bool) → length front ≡ i → entry ≡ entry_with f 0 0
    → named ≡ list_any (λ e. same_name e.name entry.name) (take i (sketches (front ++ f ∷ rest))) → Turn (front ++ f ∷ rest) i entry named
turn_at front rest f i entry named size is named_is =
    let before : take i (sketches (front ++ f ∷ rest)) ≡ sketches front = ap (take i) (map-append (λ g. entry_with g 0 0) front (f ∷ rest)) ∙ take_here (sketches front) (entry_with f 0 0) (sketches rest) i (length-map front (λ g. entry_with g 0 0) ∙ size) in
    let test : named ≡ list_any (λ n. same_name n f.header.name) (names front) =
    named_is ∙ ap (list_any (λ e. same_name e.name entry.name)) before ∙ ap (λ e. list_any (λ g. same_name g.name e.name) (sketches front)) is ∙ named_among f.header.name front in
    let here : first_repeated (names (take i (front ++ f ∷ rest))) (drop i (front ++ f ∷ rest)) ≡ (if named then Some f.page else first_repeated (names front ++ f.header.name ∷ []) rest) =
    ap (λ t. first_repeated (names t) (drop i (front ++ f ∷ rest))) (take_here front f rest i size) ∙ ap (first_repeated (names front)) (drop_here front f rest i size)
    ∙ ap (λ b. if b then Some f.page else first_repeated (names front ++ f.header.name ∷ []) rest) (sym test) in
    record {
      onward = λ e. ap (λ t. first_repeated (names t) (drop (i + 1) (front ++ f ∷ rest))) (take_behind front f rest i size) ∙ ap (first_repeated (names (front ++ f ∷ []))) (drop_behind front f rest i size)
          ∙ ap (λ t. first_repeated t rest) (map-append (λ g. g.header.name) front (f ∷ []))
          ∙ sym (here ∙ ap (λ b. if b then Some f.page else first_repeated (names front ++ f.header.name ∷ []) rest) e);
      found = λ e. here ∙ ap (λ b. if b then Some f.page else first_repeated (names front ++ f.header.name ∷ []) rest) e ∙ ap (λ g. Some g.page.0) (sym is);
    }

pub turn : (files : List Placed) (entries : List FileAt) (i : ℕ) (entry : FileAt) (named : Bool) → entries ≡ sketches files → i < length entries → entry ≡ get_or entries i entry
    → named ≡ list_any (λ e. same_name e.name entry.name) (take i entries) → Turn files i entry named
turn files entries i entry named all within is named_is =
    let s = split files i (omega (arith, ap length all, length-map files (λ f. entry_with f 0 0))) in
    let entries_are : entries ≡ sketches (s.front ++ s.here ∷ s.rest) = all ∙ ap sketches s.whole in
    let there : entry ≡ entry_with s.here 0 0 = is ∙ ap (λ t. get_or t i entry) (entries_are ∙ map-append (λ g. entry_with g 0 0) s.front (s.here ∷ s.rest))
    ∙ get_or_at (sketches s.front) (entry_with s.here 0 0) (sketches s.rest) entry i (length-map s.front (λ f. entry_with f 0 0) ∙ s.size) in
    subst (λ fs. Turn fs i entry named) (sym s.whole)
    (turn_at s.front s.rest s.here i entry named s.size there (named_is ∙ ap (λ t. list_any (λ e. same_name e.name entry.name) (take i t)) entries_are))
