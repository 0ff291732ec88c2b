-- The files of a list, the places of their entries in a table, and their headers.
use Rattle.std.proofs.Common.{◌≡◌, ◌⊎◌, inl, inr, ℕ, zero, suc, ◌+◌, ◌-◌, ◌≤◌, ◌<◌, Bool, true, false, ◌||◌, ◌==◌, List, [], ◌∷◌, ◌++◌, get_or, map, replicate, Option, Some, None, if◌then◌else◌, refl, ap, sym, subst, ◌∙◌, ⊎_elim, arith}
use Rattle.std.specs.List.{list_any}
use Rattle.std.specs.Cmp.Lexicographic.{same_text, other_text}
use Rattle.std.proofs.lemmas.Bool.{both_ways, cases_order}
use Rattle.std.proofs.lemmas.List.Folds.{list_any-append}
use Rattle.padded.proofs.Facts.{both_parts, true_or_false, true_eq}
use Rattle.afl_base.specs.declared.kind.Kind.TheVariants.{Doubling, Fixed}
use Rattle.coffee_header.specs.Headers.{fields, header_of, is_header, is_kind}
use Rattle.coffee_header.specs.declared.header.Header.{Header}
use Rattle.coffee_layout.specs.Files.{Placed, kind_of, log_of}
use Rattle.coffee_layout.specs.Rules.{first_repeated, same_name}
use Rattle.coffee_layout.specs.declared.file.FileAt.{FileAt}
use Rattle.coffee_layout.proofs.Namings.{Each}
use Rattle.coffee_layout.proofs.Tests.{false_eq}
use Rattle.coffee_merge.specs.Holding.{Entries, IsIn, file_flags, kind_number, log_number}
use Rattle.coffee_merge.proofs.SoundUnits.{Among, Rising, each_all, each_pick, or_second}

-- PLACES

abbrev pub IsAt : List Placed → ℕ → Placed → Type 0
IsAt [] i f = ⊥
IsAt (x ∷ xs) zero f = x ≡ f
IsAt (x ∷ xs) (suc i) f = IsAt xs i f

pub at_among : (fs : List Placed) (i : ℕ) (f : Placed) → IsAt fs i f → Among f fs
at_among [] i f a = absurd a
at_among (x ∷ xs) zero f a = inl a
at_among (x ∷ xs) (suc i) f a = inr (at_among xs i f a)

pub among_at : (fs : List Placed) (f : Placed) → Among f fs → (i : ℕ) × IsAt fs i f
among_at [] f a = absurd a
among_at (x ∷ xs) f (inl s) = (0, s)
among_at (x ∷ xs) f (inr a) = let r = among_at xs f a in (suc r.0, r.1)

pub at_same : (fs : List Placed) (i : ℕ) (f g : Placed) → IsAt fs i f → IsAt fs i g → f ≡ g
at_same [] i f g a b = absurd a
at_same (x ∷ xs) zero f g a b = sym a ∙ b
at_same (x ∷ xs) (suc i) f g a b = at_same xs i f g a b

-- the table of the entries of some files, with free places behind them
abbrev pub table_by : (Placed → FileAt) → List Placed → ℕ → Entries
table_by make files n = map Some (map make files) ++ replicate n None

no_entry : (n i : ℕ) (e : FileAt) → get_or (replicate n None) i None ≡ Some e → ⊥
no_entry zero i e h = cc
no_entry (suc n) zero e h = cc
no_entry (suc n) (suc i) e h = no_entry n i e h

pub at_entry : (make : Placed → FileAt) (files : List Placed) (n i : ℕ) (e : FileAt) → IsIn (table_by make files n) i e → (f : Placed) × IsAt files i f × (e ≡ make f)
at_entry make [] n i e h = absurd (no_entry n i e h)
at_entry make (f ∷ fs) n zero e h = let s : e ≡ make f = cc in (f, refl, s)
at_entry make (f ∷ fs) n (suc i) e h = at_entry make fs n i e h

pub entry_at : (make : Placed → FileAt) (files : List Placed) (n i : ℕ) (f : Placed) → IsAt files i f → IsIn (table_by make files n) i (make f)
entry_at make [] n i f a = absurd a
entry_at make (x ∷ xs) n zero f a = ap (λ g. Some (make g)) a
entry_at make (x ∷ xs) n (suc i) f a = entry_at make xs n i f a

-- NAMES

pub named_same : (a b : List ℕ) → same_name a b ≡ true → a ≡ b
named_same a b e = same_text a b (sym e)

pub same_named : (a b : List ℕ) → a ≡ b → same_name a b ≡ true
same_named a b e = ⊎_elim (λ (t : same_name a b ≡ true). t) (λ (f : same_name a b ≡ false). absurd (other_text a b (sym f) e)) (true_or_false (same_name a b))

repeated_turn : (t : Bool) (page : ℕ) (o : Option ℕ) → (if t then Some page else o) ≡ None → (t ≡ false) × (o ≡ None)
repeated_turn true page o e = cc
repeated_turn false page o e = (refl, e)

last_one : (a b : Bool) → (a || (b || false)) ≡ false → (a ≡ false) × (b ≡ false)
last_one true b e = cc
last_one false true e = cc
last_one false false e = (refl, refl)

-- no file behind has a name that is given
new_name : (names : List (List ℕ)) (fs : List Placed) (j : ℕ) (g : Placed) → first_repeated names fs ≡ None → IsAt fs j g → list_any (λ n. same_name n g.header.name) names ≡ false
new_name names [] j g e a = absurd a
new_name names (x ∷ xs) zero g e a = subst (λ y. list_any (λ n. same_name n y.header.name) names ≡ false) a
    (repeated_turn (list_any (λ n. same_name n x.header.name) names) x.page (first_repeated (names ++ x.header.name ∷ []) xs) e).0
new_name names (x ∷ xs) (suc j) g e a =
    let more = new_name (names ++ x.header.name ∷ []) xs j g (repeated_turn (list_any (λ n. same_name n x.header.name) names) x.page (first_repeated (names ++ x.header.name ∷ []) xs) e).1 a in
    (last_one (list_any (λ n. same_name n g.header.name) names) (same_name x.header.name g.header.name) (sym (list_any-append (λ n. same_name n g.header.name) names (x.header.name ∷ [])) ∙ more)).0

names_differ : (names : List (List ℕ)) (fs : List Placed) (i j : ℕ) (f g : Placed) → first_repeated names fs ≡ None → IsAt fs i f → IsAt fs j g → i < j → same_name f.header.name g.header.name ≡ false
names_differ names [] i j f g e a b l = absurd a
names_differ names (x ∷ xs) i zero f g e a b l = absurd (omega arith)
names_differ names (x ∷ xs) zero (suc j) f g e a b l =
    let more = new_name (names ++ x.header.name ∷ []) xs j g (repeated_turn (list_any (λ n. same_name n x.header.name) names) x.page (first_repeated (names ++ x.header.name ∷ []) xs) e).1 b in
    subst (λ y. same_name y.header.name g.header.name ≡ false) a
    (last_one (list_any (λ n. same_name n g.header.name) names) (same_name x.header.name g.header.name) (sym (list_any-append (λ n. same_name n g.header.name) names (x.header.name ∷ [])) ∙ more)).1
names_differ names (x ∷ xs) (suc i) (suc j) f g e a b l =
    names_differ (names ++ x.header.name ∷ []) xs i j f g (repeated_turn (list_any (λ n. same_name n x.header.name) names) x.page (first_repeated (names ++ x.header.name ∷ []) xs) e).1 a b (omega arith)

-- where no name is repeated, files of one name stand in one place
pub one_place : (fs : List Placed) (i j : ℕ) (f g : Placed) → first_repeated [] fs ≡ None → IsAt fs i f → IsAt fs j g → f.header.name ≡ g.header.name → i ≡ j
one_place fs i j f g e a b same = ⊎_elim
    (λ (s : i ≡ j). s)
    (λ (o : (i < j) ⊎ (j < i)). ⊎_elim
    (λ (l : i < j). absurd (both_ways (same_name f.header.name g.header.name) (names_differ [] fs i j f g e a b l) (same_named f.header.name g.header.name same)))
    (λ (l : j < i). absurd (both_ways (same_name g.header.name f.header.name) (names_differ [] fs j i g f e b a l) (same_named g.header.name f.header.name (sym same))))
    o)
    (cases_order i j)

-- and where files of one name are one file, none is
repeated_none : (names : List (List ℕ)) (fs : List Placed) → Rising fs → Each (λ f. 1 ≤ f.header.max_pages) fs → ((f g : Placed) → Among f fs → Among g fs → f.header.name ≡ g.header.name → f.page ≡ g.page)
    → Each (λ f. list_any (λ n. same_name n f.header.name) names ≡ false) fs → first_repeated names fs ≡ None
repeated_none names [] r some one new = refl
repeated_none names (x ∷ xs) r some one new =
    rw (new.0) (repeated_none (names ++ x.header.name ∷ []) xs r.1 some.1 (λ f g a b s. one f g (inr a) (inr b) s)
    (each_all (λ f. list_any (λ n. same_name n f.header.name) (names ++ x.header.name ∷ []) ≡ false) xs
    (λ g b.
    let behind = each_pick (λ y. x.page + x.header.max_pages ≤ y.page) g xs r.0 b in
    let here = some.0 in
    let other : same_name x.header.name g.header.name ≡ false = ⊎_elim
    (λ (t : same_name x.header.name g.header.name ≡ true). let s : x.page ≡ g.page = one x g (inl refl) (inr b) (named_same x.header.name g.header.name t) in absurd (omega arith))
    (λ (t : same_name x.header.name g.header.name ≡ false). t)
    (true_or_false (same_name x.header.name g.header.name)) in
    list_any-append (λ n. same_name n g.header.name) names (x.header.name ∷ [])
    ∙ (rw (each_pick (λ f. list_any (λ n. same_name n f.header.name) names ≡ false) g xs new.1 b, other) refl))))

pub none_repeated : (fs : List Placed) → Rising fs → Each (λ f. 1 ≤ f.header.max_pages) fs → ((f g : Placed) → Among f fs → Among g fs → f.header.name ≡ g.header.name → f.page ≡ g.page) → first_repeated [] fs ≡ None
none_repeated fs r some one = repeated_none [] fs r some one (each_all (λ f. list_any (λ n. same_name n f.header.name) [] ≡ false) fs (λ g a. refl))

-- HEADERS

kind_turn : (t : Bool) (g h : Header) → (t ≡ true → is_kind g.kind ≡ true) → (if t then Some g else None) ≡ Some h → is_kind h.kind ≡ true
kind_turn true g h k e = let s : g ≡ h = cc in subst (λ x. is_kind x.kind ≡ true) s (k refl)
kind_turn false g h k e = cc

-- the kind of a header is 0 or 1
pub header_kind : (bytes : List ℕ) (h : Header) → header_of bytes ≡ Some h → is_kind h.kind ≡ true
unfolding header_of
header_kind bytes h e = kind_turn (is_header bytes) (fields bytes) h (λ t. (both_parts _ _ (both_parts _ _ t).0).0) e

number_turn : (k pages : ℕ) → is_kind k ≡ true → (t : Bool) → k == 0 ≡ t → kind_number (if t then Doubling else Fixed pages) ≡ k
number_turn k pages is true e = sym (true_eq k 0 e)
number_turn k pages is false e = sym (true_eq k 1 (or_second (k == 0) (k == 1) is e))

pub kind_back : (h : Header) → is_kind h.kind ≡ true → kind_number (kind_of h) ≡ h.kind
kind_back h is = number_turn h.kind h.max_pages is (h.kind == 0) refl

log_turn : (n : ℕ) (t : Bool) → n == 0 ≡ t → log_number (if t then None else Some (record { 0 = n - 1 })) ≡ n
log_turn n true e = sym (true_eq n 0 e)
log_turn n false e = let some = false_eq n 0 e in omega arith

pub log_back : (h : Header) → log_number (log_of h) ≡ h.log_page
log_back h = log_turn h.log_page (h.log_page == 0) refl

flags_turn : (n : ℕ) (t : Bool) → n == 0 ≡ t → (n ≡ 0 → file_flags (if t then None else Some (record { 0 = n - 1 })) ≡ 3) × ((n ≡ 0 → ⊥) → file_flags (if t then None else Some (record { 0 = n - 1 })) ≡ 11)
flags_turn n true e = (λ z. refl, λ some. absurd (some (true_eq n 0 e)))
flags_turn n false e = (λ z. absurd (false_eq n 0 e z), λ some. refl)

pub no_log_flags : (h : Header) → h.log_page ≡ 0 → file_flags (log_of h) ≡ 3
no_log_flags h e = (flags_turn h.log_page (h.log_page == 0) refl).0 e

pub log_flags : (h : Header) → (h.log_page ≡ 0 → ⊥) → file_flags (log_of h) ≡ 11
log_flags h e = (flags_turn h.log_page (h.log_page == 0) refl).1 e

made : (a b c d e f : ℕ) → List ℕ → Header
made a b c d e f name = record { log_page = a; log_records = b; log_record_size = c; max_pages = d; kind = e; flags = f; name = name }

fields_same : (a b c d e f p q r s t u : ℕ) (name other : List ℕ) → a ≡ p → b ≡ q → c ≡ r → d ≡ s → e ≡ t → f ≡ u → name ≡ other → made a b c d e f name ≡ made p q r s t u other
fields_same a b c d e f p q r s t u name other h i j k l m n = cc

-- a header, field by field
pub header_is : (h : Header) (a b c d e f : ℕ) (name : List ℕ) → a ≡ h.log_page → b ≡ h.log_records → c ≡ h.log_record_size → d ≡ h.max_pages → e ≡ h.kind → f ≡ h.flags → name ≡ h.name
    → record { log_page = a; log_records = b; log_record_size = c; max_pages = d; kind = e; flags = f; name = name } ≡ h
unfolding made
header_is h a b c d e f name p q r s t u v = fields_same a b c d e f h.log_page h.log_records h.log_record_size h.max_pages h.kind h.flags name h.name p q r s t u v
