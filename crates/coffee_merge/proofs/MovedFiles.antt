-- A move and a collection leave the files of a sound image, and its rules.
use Rattle.std.proofs.Common.{◌≡◌, ◌≢◌, ⊎_elim, ℕ, zero, suc, ◌≤◌, ◌<◌, Bool, true, false, List, [], ◌∷◌, length, get_or, map, Some, None, refl, ap, sym, subst, ◌∙◌, inl, inr, arith}
use Rattle.std.specs.Prelude.{set}
use Rattle.std.specs.List.{Contains}
use Rattle.std.specs.Option.{IfSome}
use Rattle.std.proofs.lemmas.Bool.{cases_eq}
use Rattle.std.proofs.lemmas.List.{ext_get_or}
use Rattle.afl_base.specs.declared.kind.Kind.{Kind}
use Rattle.coffee_layout.specs.FileBytes.{file_byte, file_bytes}
use Rattle.coffee_layout.specs.Files.{NamedFile, Placed, entry_of, files_in, files_of, listed}
use Rattle.coffee_layout.specs.Rules.{broken_image, first_failing, has_few_pages}
use Rattle.coffee_layout.specs.Tiling.{at_place, units_of}
use Rattle.coffee_layout.specs.Walks.{has_few}
use Rattle.coffee_layout.specs.declared.file.FileAt.{FileAt}
use Rattle.coffee_layout.proofs.Measures.{few_same}
use Rattle.coffee_layout.proofs.Spelling.{spells_file}
use Rattle.coffee_merge.specs.Holding.{Entries, HoldsTable, IsIn, IsStored, KeepsContent, Moves, Stays}
use Rattle.coffee_merge.specs.TableFiles.{SameFiles, file_of}
use Rattle.coffee_merge.proofs.Holdings.{in_table, is_in_here, is_in_set, is_in_there}
use Rattle.coffee_merge.proofs.SoundFiles.{entry_file, file_entry}
use Rattle.coffee_merge.proofs.SoundHolders.{entry_is, file_holder, placed, stored_size}
use Rattle.coffee_merge.proofs.SoundImages.{holds_rules}
use Rattle.coffee_merge.proofs.SoundRules.{rules_sound}
use Rattle.coffee_merge.proofs.SoundUnits.{Among}
use Rattle.padded.proofs.Facts.{true_or_false}

-- BYTES

pub bytes_same : (old new : List ℕ) (e d : FileAt) → IsStored old e → IsStored new d → d.size ≡ e.size → ((p : ℕ) → p < e.size → file_byte new d.page.0 d.log p ≡ file_byte old e.page.0 e.log p) → file_bytes new d.page.0 d.pages d.log ≡ file_bytes old e.page.0 e.pages e.log
bytes_same old new e d s t size same =
    let long = stored_size old e s in
    let wide = stored_size new d t in
    let first = spells_file old e.page.0 e.pages e.log in
    let second = spells_file new d.page.0 d.pages d.log in
    ext_get_or 0 (file_bytes new d.page.0 d.pages d.log) (file_bytes old e.page.0 e.pages e.log) (omega arith)
    (λ k low. sym (second.here k low) ∙ same k (omega arith) ∙ first.here k (omega arith))

file_same : (old new : List ℕ) (e d : FileAt) → IsStored old e → IsStored new d → d.name ≡ e.name → d.kind ≡ e.kind → d.size ≡ e.size → ((p : ℕ) → p < e.size → file_byte new d.page.0 d.log p ≡ file_byte old e.page.0 e.log p) → file_of new d ≡ file_of old e
file_same old new e d s t name kind size same = named d.name e.name d.kind e.kind (file_bytes new d.page.0 d.pages d.log) (file_bytes old e.page.0 e.pages e.log) name kind (bytes_same old new e d s t size same)
  where
    file : List ℕ → Kind → List ℕ → NamedFile
    file name kind bytes = record { name = name; kind = kind; bytes = bytes }

    named : (a b : List ℕ) (k l : Kind) (x y : List ℕ) → a ≡ b → k ≡ l → x ≡ y → file a k x ≡ file b l y
    named a b k l x y p q r = cc

pub content_same : (old new : List ℕ) (e : FileAt) → IsStored old e → IsStored new e → KeepsContent old new e → file_of new e ≡ file_of old e
content_same old new e s t kept = let room = s.fits.size in file_same old new e e s t refl refl refl (λ p low. kept p (omega arith))

-- FILES

-- a table has a file that is one of another's
record HasFile (image : List ℕ) (table : Entries) (f : NamedFile) : Type 0 where
  place : ℕ
  entry : FileAt
  is_in : IsIn table place entry
  same : file_of image entry ≡ f

same_files : (old new : List ℕ) (table after : Entries) → HoldsTable old table None → HoldsTable new after None → ((i : ℕ) (e : FileAt) → IsIn table i e → HasFile new after (file_of old e)) → ((i : ℕ) (e : FileAt) → IsIn after i e → HasFile old table (file_of new e)) → SameFiles old new
same_files old new table after h k there back = record {
  kept = λ f has. let r = file_entry old table f h has in let s = there r.0 r.1 r.2 in subst (Contains (files_of new)) (s.same ∙ sym r.3) (entry_file new after s.place s.entry k s.is_in);
  only = λ f has. let r = file_entry new after f k has in let s = back r.0 r.1 r.2 in subst (Contains (files_of old)) (s.same ∙ sym r.3) (entry_file old table s.place s.entry h s.is_in);
}

pub stays_files : (old new : List ℕ) (table : Entries) → HoldsTable old table None → Stays old new table → SameFiles old new
stays_files old new table h s =
    let same : (i : ℕ) (e : FileAt) → IsIn table i e → file_of new e ≡ file_of old e = λ i e is. content_same old new e (h.stored i e is) (s.holds.stored i e is) (s.kept i e is) in
    same_files old new table table h s.holds
    (λ i e is. record { place = i; entry = e; is_in = is; same = same i e is })
    (λ i e is. record { place = i; entry = e; is_in = is; same = sym (same i e is) })

pub moves_files : (old new : List ℕ) (table : Entries) (i : ℕ) (from to : FileAt) → HoldsTable old table None → IsIn table i from → Moves old new table i from to → to.name ≡ from.name → to.kind ≡ from.kind → to.size ≡ from.size → SameFiles old new
moves_files old new table i from to h is m name kind size =
    let after = set table i (Some to) in
    let here = is_in_here table i to (in_table table i from is) in
    let moved : file_of new to ≡ file_of old from = file_same old new from to (h.stored i from is) (m.sets.holds.stored i to here) name kind size m.same in
    let other : (k : ℕ) (e : FileAt) → k ≢ i → IsIn table k e → file_of new e ≡ file_of old e = λ k e differ at. content_same old new e (h.stored k e at) (m.sets.holds.stored k e (is_in_there table i (Some to) k e differ at)) (m.sets.others k e differ at) in
    same_files old new table after h m.sets.holds
    (λ k e at. ⊎_elim
    (λ (same : k ≡ i). record { place = i; entry = to; is_in = here; same = moved ∙ ap (file_of old) (one_entry table i from e is (subst (λ j. IsIn table j e) same at)) })
    (λ (differ : k ≢ i). record { place = k; entry = e; is_in = is_in_there table i (Some to) k e differ at; same = other k e differ at })
    (cases_eq k i))
    (λ k e at. ⊎_elim
    (λ (a : (k ≡ i) × (Some to ≡ Some e)). record { place = i; entry = from; is_in = is; same = sym moved ∙ ap (file_of new) (some_same to e a.1) })
    (λ (a : (k ≢ i) × IsIn table k e). record { place = k; entry = e; is_in = a.1; same = sym (other k e a.0 a.1) })
    (is_in_set table i (Some to) k e at))
  where
    some_same : (a b : FileAt) → Some a ≡ Some b → a ≡ b
    some_same a b e = cc

    one_entry : (table : Entries) (i : ℕ) (a b : FileAt) → IsIn table i a → IsIn table i b → a ≡ b
    one_entry table i a b p q = let both : Some a ≡ Some b = sym p ∙ q in cc

-- RULES

first_at : (test : Placed → Bool) (page : ℕ) (fs : List Placed) → ((f : Placed) → Among f fs → f.page ≢ page → test f ≡ true) → IfSome (at_place 13 (first_failing test fs)) (λ bad. bad ≡ record { rule = 13; place = page })
first_at test page [] others = tt
first_at test page (f ∷ fs) others = ⊎_elim
    (λ (t : test f ≡ true). rw t (first_at test page fs (λ g a differ. others g (inr a) differ)))
    (λ (t : test f ≡ false). rw t (⊎_elim
    (λ (here : f.page ≡ page). ap (λ p. record { rule = 13; place = p }) here)
    (λ (there : f.page ≢ page). true_false (sym (others f (inl refl) there) ∙ t))
    (cases_eq f.page page)))
    (true_or_false (test f))
  where
    true_false : {A : Type 0} → true ≡ false → A
    true_false e = cc

-- a file that fails rule 13 is the one at that page
pub held_place : (image : List ℕ) (table : Entries) (page : ℕ) → HoldsTable image table None → length table ≤ 32 → ((k : ℕ) (e : FileAt) → IsIn table k e → e.page.0 ≢ page → has_few e ≡ true)
    → IfSome (broken_image image) (λ bad. bad ≡ record { rule = 13; place = page })
held_place image table page h few sparing =
    subst (λ o. IfSome o (λ bad. bad ≡ record { rule = 13; place = page })) (sym (rules_sound image h.tiled (holds_rules image table h few)))
    (first_at (has_few_pages image) page (files_in (units_of image)) (λ f a differ.
    let by = file_holder image table f h a in
    subst (λ g. has_few_pages image g ≡ true) (sym by.is)
    (sym (few_same image (placed by.entry)) ∙ ap has_few (entry_is image by.entry (h.stored by.place by.entry by.is_in))
    ∙ sparing by.place by.entry by.is_in (λ same. differ (ap (λ (g : Placed). g.page) by.is ∙ same)))))

-- LISTED ENTRIES

listed_among : (make : Placed → FileAt) (fs : List Placed) (i : ℕ) (e : FileAt) → i < length (map make fs) → get_or (map make fs) i e ≡ e → (f : Placed) × Among f fs × (make f ≡ e)
listed_among make [] i e low is = absurd (omega arith)
listed_among make (x ∷ xs) zero e low is = (x, inl refl, is)
listed_among make (x ∷ xs) (suc i) e low is = let r = listed_among make xs i e (omega arith) is in let a : Among (r.0) (x ∷ xs) = inr r.1 in (r.0, a, r.2)

-- each entry that is listed is one of the table that is held
pub held_listed : (image : List ℕ) (table : Entries) (e : FileAt) → HoldsTable image table None → Contains (listed image) e → (k : ℕ) × IsIn table k e
held_listed image table e h has =
    let r = listed_among (entry_of image) (files_in (units_of image)) has.0 e has.1 has.2 in
    let by = file_holder image table r.0 h r.1 in
    let same : by.entry ≡ e = sym (entry_is image by.entry (h.stored by.place by.entry by.is_in)) ∙ ap (entry_of image) (sym by.is) ∙ r.2 in
    (by.place, subst (IsIn table by.place) same by.is_in)
