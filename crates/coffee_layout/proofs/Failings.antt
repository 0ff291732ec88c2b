-- The search over the entries of the files for the first that fails a test.
use Rattle.std.proofs.Common.{◌≡◌, ℕ, ◌+◌, ◌<◌, Bool, true, false, List, ◌∷◌, ◌++◌, length, drop, get_or, map, Some, if◌then◌else◌, ap, sym, ◌∙◌, arith}
use Rattle.std.proofs.lemmas.List.{get_or_at, length-map, map-append}
use Rattle.coffee_layout.specs.Files.{Placed}
use Rattle.coffee_layout.specs.Rules.{first_failing}
use Rattle.coffee_layout.specs.declared.file.FileAt.{FileAt}
use Rattle.coffee_layout.proofs.Splits.{Split, split, drop_here, drop_behind}

-- what one file adds to the search
pub record FailTurn (test : Placed → Bool) (files : List Placed) (i : ℕ) (entry : FileAt) (r : Bool) : Type 0 where
  pub onward : r ≡ true → first_failing test (drop (i + 1) files) ≡ first_failing test (drop i files)
  pub found : r ≡ false → first_failing test (drop i files) ≡ Some entry.page.0

-- the file whose entry stands at a place
pub entry_split : (make : Placed → FileAt) (files : List Placed) (entries : List FileAt) (i : ℕ) (entry : FileAt) → entries ≡ map make files → i < length entries → entry ≡ get_or entries i entry
    → (s : Split files i) × (entry ≡ make s.here)
entry_split make files entries i entry all within is =
    let s = split files i (omega (arith, ap length all, length-map files make)) in (
      s,
      is ∙ ap (λ t. get_or t i entry) (all ∙ ap (map make) s.whole ∙ map-append make s.front (s.here ∷ s.rest))
          ∙ get_or_at (map make s.front) (make s.here) (map make s.rest) entry i (length-map s.front make ∙ s.size),
    )

pub fail_turn : (test : Placed → Bool) (make : Placed → FileAt) (files : List Placed) (entries : List FileAt) (i : ℕ) (entry : FileAt) (r : Bool)
    → ((f : Placed) → (make f).page.0 ≡ f.page) → entries ≡ map make files → i < length entries → entry ≡ get_or entries i entry
    → ((front rest : List Placed) (f : Placed) → files ≡ front ++ f ∷ rest → entry ≡ make f → r ≡ test f)
    → FailTurn test files i entry r
fail_turn test make files entries i entry r page all within is judged =
    let s = (entry_split make files entries i entry all within is).0 in
    let there = (entry_split make files entries i entry all within is).1 in
    let same : r ≡ test s.here = judged s.front s.rest s.here s.whole there in
    let here : first_failing test (drop i files) ≡ (if r then first_failing test s.rest else Some s.here.page) =
    ap (λ fs. first_failing test (drop i fs)) s.whole ∙ ap (first_failing test) (drop_here s.front s.here s.rest i s.size)
    ∙ ap (λ b. if b then first_failing test s.rest else Some s.here.page) (sym same) in
    record {
      onward = λ e. ap (λ fs. first_failing test (drop (i + 1) fs)) s.whole ∙ ap (first_failing test) (drop_behind s.front s.here s.rest i s.size)
          ∙ sym (here ∙ ap (λ b. if b then first_failing test s.rest else Some s.here.page) e);
      found = λ e. here ∙ ap (λ b. if b then first_failing test s.rest else Some s.here.page) e ∙ ap (λ p. Some p) (sym (ap (λ e. e.page.0) there ∙ page s.here));
    }
