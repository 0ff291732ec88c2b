-- Where an image mends by a file that was being replaced, its two extents are the one pair of files of one name.
use Rattle.std.proofs.Common.{◌≡◌, ◌≢◌, ◌⊎◌, inl, inr, ⊎_elim, ℕ, ◌+◌, ◌-◌, ◌*◌, ◌≤◌, ◌<◌, Bool, true, false, ◌||◌, ◌==◌, nat_lt, List, [], ◌∷◌, length, Option, Some, None, refl, ap, sym, subst, ◌∙◌, arith}
use Rattle.std.specs.Prelude.{IfNone, IfSome}
use Rattle.std.specs.Int.{from_bool}
use Rattle.std.specs.List.{Contains, filter}
use Rattle.std.proofs.lemmas.Bool.{cases_eq, cases_lt}
use Rattle.coffee_layout.specs.Files.{Placed, extents, files_in, is_file}
use Rattle.coffee_layout.specs.Tiling.{units_of}
use Rattle.coffee_merge.proofs.Holdings.{one_header as same_extents}
use Rattle.coffee_merge.specs.Begun.{unit_begun}
use Rattle.coffee_merge.specs.Flags.{flagged}
use Rattle.coffee_merge.proofs.SoundUnits.{Among, among_filter, begun_extent}
use Rattle.padded.proofs.Facts.{filter_few, lt_false, lt_true, true_or_false, yes_no}
use Rattle.coffee_cuts.specs.Cuts.{IsFound, IsOver, Replacing as was_replacing}
use Rattle.coffee_cuts.proofs.MarkedPages.{ninth, other_ninth}
use Rattle.coffee_cuts.proofs.SettledRules.{KeepsSettled, begins, one_named, placed_at, settled_kept}
use Rattle.coffee_cuts.proofs.TwoMarks.{IsFileFlags, IsMarked, file_begins, file_ninth, file_test, four, once_marked, turned_begins}
use Rattle.coffee_find.specs.Found.{meant, placed_of}
use Rattle.coffee_find.specs.Guesses.{Means, MendsBy}
use Rattle.coffee_find.specs.Search.{AreTwins, HasNoFile}
use Rattle.coffee_find.specs.declared.trouble.PlacedFile.{PlacedFile}
use Rattle.coffee_find.specs.declared.trouble.UnderWay.{UnderWay}
use Rattle.coffee_find.specs.declared.trouble.UnderWay.TheVariants.{Replacing}

-- ---- LISTS OF FILES

-- a file begins before a page
abbrev is_before : ℕ → Placed → Bool
is_before page f = nat_lt f.page page

bool_le : (a b : Bool) → (a ≡ true → b ≡ true) → from_bool a ≤ from_bool b
bool_le true b implied = let e : from_bool b ≡ 1 = ap from_bool (implied refl) in omega (arith, e)
bool_le false b implied = omega arith

filter_turn : (p : Placed → Bool) (e : Placed) (es : List Placed) → length (filter p (e ∷ es)) ≡ from_bool (p e) + length (filter p es)
filter_turn p e es = ⊎_elim
    (λ (t : p e ≡ true). rw t (omega arith))
    (λ (f : p e ≡ false). rw f (omega arith))
    (true_or_false (p e))

-- a weaker test passes as many, and one more where one more passes it
filter_weaker : (p q : Placed → Bool) (es : List Placed) → ((e : Placed) → p e ≡ true → q e ≡ true) → length (filter p es) ≤ length (filter q es)
filter_weaker p q [] implied = omega arith
filter_weaker p q (e ∷ es) implied =
    let rest = filter_weaker p q es implied in
    let least = bool_le (p e) (q e) (implied e) in
    omega (arith, filter_turn p e es, filter_turn q e es, rest, least)

filter_gains : (p q : Placed → Bool) (x : Placed) (es : List Placed) → ((e : Placed) → p e ≡ true → q e ≡ true) → Among x es → p x ≡ false → q x ≡ true → length (filter p es) + 1 ≤ length (filter q es)
filter_gains p q x [] implied a out here = absurd a
filter_gains p q x (e ∷ es) implied (inl s) out here =
    let rest = filter_weaker p q es implied in
    let less : from_bool (p e) ≡ 0 = ap (λ y. from_bool (p y)) s ∙ ap from_bool out in
    let more : from_bool (q e) ≡ 1 = ap (λ y. from_bool (q y)) s ∙ ap from_bool here in
    omega (arith, filter_turn p e es, filter_turn q e es, rest, less, more)
filter_gains p q x (e ∷ es) implied (inr a) out here =
    let rest = filter_gains p q x es implied a out here in
    let least = bool_le (p e) (q e) (implied e) in
    omega (arith, filter_turn p e es, filter_turn q e es, rest, least)

-- ---- FILES OF ONE IMAGE

-- files at one page are one
pub one_file : (image : List ℕ) (f g : Placed) → Contains (files_in (units_of image)) f → Contains (files_in (units_of image)) g → f.page ≡ g.page → f ≡ g
one_file image f g a b same =
    let first = (file_begins image f a).0 in
    let second = (file_begins image g b).0 in
    let headers : f.header ≡ g.header = same_extents f.header g.header (sym first ∙ ap (unit_begun (units_of image) 0) same ∙ second) in
    ap (λ p. placed_at p f.header) same ∙ ap (placed_at g.page) headers

module _ (image : List ℕ) (pages : ℕ) (size : length image ≡ 256 * pages) (dropped kept : Placed) (m : MendsBy image (was_replacing dropped kept)) where
  abbrev gone : List ℕ
  gone = flagged image dropped.page 4

  marked : IsMarked image gone
  marked = once_marked image dropped.page 4 four

  rules_kept : KeepsSettled gone
  rules_kept = let long = marked.long in settled_kept gone (omega (arith, long, size)) m.settles

  abbrev left : Placed → Placed
  left f = placed_at f.page (record f.header { flags = ninth gone f.page })

  -- a file but the one that is dropped is left as a file
  file_left : (f : Placed) → Contains (files_in (units_of image)) f → f.page ≢ dropped.page → begins gone f.page (left f).header × (is_file (left f) ≡ true)
  file_left f there other = (
    turned_begins image gone marked rules_kept f.page f.header (file_begins image f there).0,
    file_test (ninth gone f.page) (subst IsFileFlags (sym (other_ninth image dropped.page 4 f.page other)) (file_ninth image f there).1),
  )

  one_dropped : (f g : Placed) → Contains (files_in (units_of image)) f → Contains (files_in (units_of image)) g → f.page ≢ g.page → f.header.name ≡ g.header.name → (f.page ≡ dropped.page) ⊎ (g.page ≡ dropped.page)
  one_dropped f g a b apart named = ⊎_elim
      (λ (here : f.page ≡ dropped.page). inl here)
      (λ (out : f.page ≢ dropped.page). ⊎_elim
      (λ (here : g.page ≡ dropped.page). inr here)
      (λ (out_too : g.page ≢ dropped.page).
      let first = file_left f a out in
      let second = file_left g b out_too in
      absurd (apart (one_named gone rules_kept f.page g.page (left f).header (left g).header first.0 second.0 first.1 second.1 named)))
      (cases_eq g.page dropped.page))
      (cases_eq f.page dropped.page)

  -- the other file of its name is the one that is kept
  is_kept : (f : Placed) → Contains (files_in (units_of image)) f → f.page ≢ dropped.page → f.header.name ≡ dropped.header.name → f ≡ kept
  is_kept f a other named = ⊎_elim
      (λ (here : f.page ≡ kept.page). one_file image f kept a m.found.kept_there here)
      (λ (out : f.page ≢ kept.page). ⊎_elim
      (λ (here : f.page ≡ dropped.page). absurd (other here))
      (λ (here : kept.page ≡ dropped.page). absurd (m.found.apart (sym here)))
      (one_dropped f kept a m.found.kept_there out (named ∙ m.found.one_name)))
      (cases_eq f.page kept.page)

  pub twins_are : (f g : Placed) → Contains (files_in (units_of image)) f → Contains (files_in (units_of image)) g → f.page < g.page → f.header.name ≡ g.header.name
      → (f ≡ dropped) × (g ≡ kept) ⊎ (f ≡ kept) × (g ≡ dropped)
  twins_are f g a b less named = ⊎_elim
      (λ (here : f.page ≡ dropped.page).
      let same : f ≡ dropped = one_file image f dropped a m.found.dropped_there here in
      inl (same, is_kept g b (λ e. absurd (omega (arith, e, here, less))) (sym named ∙ ap (λ (p : Placed). p.header.name) same)))
      (λ (here : g.page ≡ dropped.page).
      let same : g ≡ dropped = one_file image g dropped b m.found.dropped_there here in
      inr (is_kept f a (λ e. absurd (omega (arith, e, here, less))) (named ∙ ap (λ (p : Placed). p.header.name) same), same))
      (one_dropped f g a b (λ e. absurd (omega (arith, e, less))) named)

  -- the two are found, in their order
  means_these : (f g : PlacedFile) (o : Option UnderWay) → placed_of f ≡ dropped → placed_of g ≡ kept → IfSome o (λ u. u ≡ Replacing f g) → IfNone o (f.header.flags ≡ 3 → f.header.log_page ≢ 0)
      → Means (was_replacing dropped kept) o
  means_these f g None is was some lacks =
      absurd (lacks (ap (λ (p : Placed). p.header.flags) is ∙ m.found.plain) (ap (λ (p : Placed). p.header.log_page) is ∙ m.found.no_log))
  means_these f g (Some u) is was some lacks = ap meant some ∙ ap (λ p. was_replacing p (placed_of g)) is ∙ ap (was_replacing dropped) was

  -- the second one has no log, and the first has one, or more pages
  pub first_kept : (f g : PlacedFile) (o : Option UnderWay) → AreTwins image f g → (g.header.log_page ≡ 0) × (f.header.log_page ≡ 0 → g.header.max_pages < f.header.max_pages)
      → IfSome o (λ u. u ≡ Replacing g f) → IfNone o (g.header.flags ≡ 3 → g.header.log_page ≢ 0) → Means (was_replacing dropped kept) o
  first_kept f g o twins more some lacks = ⊎_elim
      (λ (s : (placed_of f ≡ dropped) × (placed_of g ≡ kept)).
      let less = more.1 (ap (λ (p : Placed). p.header.log_page) s.0 ∙ m.found.no_log) in
      absurd (under (placed_of f) (placed_of g) less
      (subst (λ p. IsOver p (placed_of f)) (sym s.1) (subst (IsOver kept) (sym s.0) (m.found.over (sym (ap (λ (p : Placed). p.header.log_page) s.1) ∙ more.0))))))
      (λ (s : (placed_of f ≡ kept) × (placed_of g ≡ dropped)). means_these g f o s.1 s.0 some lacks)
      (twins_are (placed_of f) (placed_of g) twins.first_there twins.second_there twins.order twins.one_name)
    where
      under : (p q : Placed) → q.header.max_pages < p.header.max_pages → IsOver q p → ⊥
      under p q less (inl more) = absurd (omega (arith, less, more))
      under p q less (inr same) = let e = same.0 in absurd (omega (arith, less, e))

  -- it is not so
  pub second_kept : (f g : PlacedFile) (o : Option UnderWay) → AreTwins image f g → (g.header.log_page ≡ 0 → (f.header.log_page ≡ 0) × (f.header.max_pages ≤ g.header.max_pages))
      → IfSome o (λ u. u ≡ Replacing f g) → IfNone o (f.header.flags ≡ 3 → f.header.log_page ≢ 0) → Means (was_replacing dropped kept) o
  second_kept f g o twins more some lacks = ⊎_elim
      (λ (s : (placed_of f ≡ dropped) × (placed_of g ≡ kept)). means_these f g o s.0 s.1 some lacks)
      (λ (s : (placed_of f ≡ kept) × (placed_of g ≡ dropped)).
      let facts = more (ap (λ (p : Placed). p.header.log_page) s.1 ∙ m.found.no_log) in
      absurd (under (placed_of f) (placed_of g) twins.order facts.1
      (subst (IsOver (placed_of f)) (sym s.1) (subst (λ p. IsOver p dropped) (sym s.0) (m.found.over (sym (ap (λ (p : Placed). p.header.log_page) s.0) ∙ facts.0))))))
      (twins_are (placed_of f) (placed_of g) twins.first_there twins.second_there twins.order twins.one_name)
    where
      under : (p q : Placed) → p.page < q.page → p.header.max_pages ≤ q.header.max_pages → IsOver p q → ⊥
      under p q order few (inl more) = absurd (omega (arith, few, more))
      under p q order few (inr same) = let e = same.1 in absurd (omega (arith, order, e))

-- what is found of two files is a file that was being replaced
pub twins_found : (image : List ℕ) (f g : PlacedFile) (u : UnderWay) → AreTwins image f g → u ≡ Replacing f g → (f.header.flags ≡ 3) × (f.header.log_page ≡ 0)
    → (g.header.log_page ≡ 0 → (f.header.log_page ≡ 0) × (f.header.max_pages ≤ g.header.max_pages)) → IsFound image (meant u)
twins_found image f g u twins is plain more = subst (λ w. IsFound image (meant w)) (sym is) (record {
  dropped_there = twins.first_there;
  kept_there = twins.second_there;
  apart = λ e. let order = twins.order in absurd (omega (arith, e, order));
  one_name = twins.one_name;
  plain = plain.0;
  no_log = plain.1;
  over = λ none. by_pages (more none).1;
})
  where
    by_pages : f.header.max_pages ≤ g.header.max_pages → IsOver (placed_of g) (placed_of f)
    by_pages few = ⊎_elim
        (λ (less : f.header.max_pages < g.header.max_pages). inl less)
        (λ (most : g.header.max_pages ≤ f.header.max_pages). inr (omega (arith, few, most), twins.order))
        (cases_lt f.header.max_pages g.header.max_pages)

pub twins_found_back : (image : List ℕ) (f g : PlacedFile) (u : UnderWay) → AreTwins image f g → u ≡ Replacing g f → (g.header.flags ≡ 3) × (g.header.log_page ≡ 0)
    → (f.header.log_page ≡ 0 → g.header.max_pages < f.header.max_pages) → IsFound image (meant u)
twins_found_back image f g u twins is plain more = subst (λ w. IsFound image (meant w)) (sym is) (record {
  dropped_there = twins.second_there;
  kept_there = twins.first_there;
  apart = λ e. let order = twins.order in absurd (omega (arith, e, order));
  one_name = sym twins.one_name;
  plain = plain.0;
  no_log = plain.1;
  over = λ none. inl (more none);
})

-- ---- FILES ONE BEHIND THE OTHER

-- the two extents are not passed yet, and so many files were, which are left
pub record IsAhead (image : List ℕ) (from turn : ℕ) (dropped kept : Placed) : Type 0 where
  pub first : from ≤ dropped.page
  pub second : from ≤ kept.page
  pub passed : turn ≤ length (filter (is_before from) (files_in (units_of (flagged image dropped.page 4))))

-- so it is with each file that was being replaced, if the image mends by it
abbrev pub AreAhead : List ℕ → (from turn : ℕ) → Type 0
AreAhead image from turn = (dropped kept : Placed) → MendsBy image (was_replacing dropped kept) → IsAhead image from turn dropped kept

pub ahead_start : (image : List ℕ) → AreAhead image 0 0
ahead_start image dropped kept m = record { first = omega arith; second = omega arith; passed = omega arith }

-- the first file that is ahead has no twin behind it
pub ahead_step : (image : List ℕ) (pages from turn : ℕ) (f : Placed) → length image ≡ 256 * pages → Contains (files_in (units_of image)) f → from ≤ f.page → HasNoFile image from f.page None
    → ((to : ℕ) → HasNoFile image (f.page + 1) to (Some f.header.name)) → AreAhead image from turn → AreAhead image (f.page + 1) (turn + 1)
ahead_step image pages from turn f size there low first alone ahead dropped kept m =
    let a = ahead dropped kept m in
    let passed = a.passed in
    let apart_dropped = not_twin dropped kept m.found.dropped_there m.found.kept_there m.found.apart m.found.one_name (not_past kept m.found.kept_there a.second) in
    let apart_kept = not_twin kept dropped m.found.kept_there m.found.dropped_there (λ e. m.found.apart (sym e)) (sym m.found.one_name) (not_past dropped m.found.dropped_there a.first) in
    let before_dropped = not_past dropped m.found.dropped_there a.first in
    let before_kept = not_past kept m.found.kept_there a.second in
    let here = file_left image pages size dropped kept m f there apart_dropped in
    let among = among_filter is_file (left image pages size dropped kept m f) (extents 0 (units_of (flagged image dropped.page 4)))
    (begun_extent (units_of (flagged image dropped.page 4)) 0 f.page (left image pages size dropped kept m f).header here.0) here.1 in
    let gains = filter_gains (is_before from) (is_before (f.page + 1)) (left image pages size dropped kept m f) (files_in (units_of (flagged image dropped.page 4))) weaker among
    (lt_false f.page from low) (lt_true f.page (f.page + 1) (omega arith)) in
    record {
      first = omega (arith, apart_dropped, before_dropped);
      second = omega (arith, apart_kept, before_kept);
      passed = omega (arith, passed, gains);
    }
  where
    not_past : (g : Placed) → Contains (files_in (units_of image)) g → from ≤ g.page → f.page ≤ g.page
    not_past g b ahead = ⊎_elim
        (λ (past : g.page < f.page). absurd (first g b ahead past tt))
        (λ (behind : f.page ≤ g.page). behind)
        (cases_lt g.page f.page)

    not_twin : (g h : Placed) → Contains (files_in (units_of image)) g → Contains (files_in (units_of image)) h → g.page ≢ h.page → g.header.name ≡ h.header.name → f.page ≤ h.page → f.page ≢ g.page
    not_twin g h b c apart named behind here =
        let same : f ≡ g = one_file image f g there b here in
        alone (h.page + 1) h c (omega (arith, behind, here, apart)) (omega arith) (sym (ap (λ (p : Placed). p.header.name) same ∙ named))

    weaker : (e : Placed) → is_before from e ≡ true → is_before (f.page + 1) e ≡ true
    weaker e before = ⊎_elim
        (λ (less : e.page < from). lt_true e.page (f.page + 1) (omega (arith, less, low)))
        (λ (behind : from ≤ e.page). yes_no (is_before from e) before (lt_false e.page from behind))
        (cases_lt e.page from)

-- 33 files are too many to be left
pub ahead_end : (image : List ℕ) (pages from turn : ℕ) (dropped kept : Placed) → length image ≡ 256 * pages → 33 ≤ turn → AreAhead image from turn → MendsBy image (was_replacing dropped kept) → ⊥
ahead_end image pages from turn dropped kept size all ahead m =
    let files : List Placed = files_in (units_of (flagged image dropped.page 4)) in
    let passed = (ahead dropped kept m).passed in
    let few = (rules_kept image pages size dropped kept m).rules.few in
    absurd (omega (arith, all, passed, few, filter_few (is_before from) files))
