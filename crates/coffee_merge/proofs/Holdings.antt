-- What follows at once from that a table and a draft say which extents of an image are active.
use Rattle.std.proofs.Common.{◌≡◌, ◌≢◌, ℕ, suc, ◌+◌, ◌≤◌, ◌<◌, ◌⊎◌, inl, inr, ⊎_elim, Bool, true, false, ◌||◌, ◌==◌, List, [], ◌∷◌, length, get_or, Option, Some, None, refl, ap, sym, subst, ◌∙◌, arith}
use Rattle.std.specs.Prelude.{set}
use Rattle.std.specs.List.{list_any}
use Rattle.std.proofs.lemmas.Bool.{cases_eq, cases_lt}
use Rattle.std.proofs.lemmas.List.{get_or-set_other, get_or-set_same, get_or_past, length-set}
use Rattle.std.proofs.lemmas.List.Folds.{list_any_at}
use Rattle.padded.proofs.Facts.{either_part, true_eq, eq_true}
use Rattle.afl_base.specs.declared.ids.PageId.{PageId}
use Rattle.coffee_header.specs.declared.header.Header.{Header}
use Rattle.coffee_layout.specs.Tiling.{IsTiled, units_of}
use Rattle.coffee_layout.specs.Walks.{is_its_log}
use Rattle.coffee_layout.specs.declared.file.FileAt.{FileAt}
use Rattle.coffee_layout.specs.declared.unit.Unit.TheVariants.{Extent}
use Rattle.coffee_layout.proofs.Tilings.{tiled_unbroken}
use Rattle.coffee_log.proofs.UnitLaws.{FilesApart}
use Rattle.coffee_merge.specs.Begun.{unit_begun}
use Rattle.coffee_merge.specs.Holding.{Entries, HoldsTable, IsIn, building_of, draft_header, file_flags, file_header, has_extent_at, is_held, log_header}
use Rattle.coffee_merge.proofs.Begun.{HavePages, active_begun, begun_apart, have_pages}

-- UNITS

pub holds_tiled : (image : List ℕ) (table : Entries) (draft : Option FileAt) → HoldsTable image table draft → IsTiled (building_of draft) image (units_of image)
holds_tiled image table draft h = tiled_unbroken (building_of draft) image h.whole h.tiled

pub holds_pages : (image : List ℕ) (table : Entries) (draft : Option FileAt) → HoldsTable image table draft → HavePages (units_of image)
holds_pages image table draft h = have_pages (building_of draft) image (units_of image) (holds_tiled image table draft h)

pub file_unit : (image : List ℕ) (table : Entries) (draft : Option FileAt) (i : ℕ) (e : FileAt) → HoldsTable image table draft → IsIn table i e → unit_begun (units_of image) 0 e.page.0 ≡ Some (Extent (file_header e))
file_unit image table draft i e h is = (active_begun (units_of image) e.page.0 (file_header e) (h.files i e is)).0

pub log_unit : (image : List ℕ) (table : Entries) (draft : Option FileAt) (i : ℕ) (e : FileAt) (l : PageId) → HoldsTable image table draft → IsIn table i e → e.log ≡ Some l → unit_begun (units_of image) 0 l.0 ≡ Some (Extent (log_header e.name))
log_unit image table draft i e l h is log = (active_begun (units_of image) l.0 (log_header e.name) (h.logs i e l is log)).0

pub draft_unit : (image : List ℕ) (table : Entries) (d : FileAt) → HoldsTable image table (Some d) → unit_begun (units_of image) 0 d.page.0 ≡ Some (Extent (draft_header d))
draft_unit image table d h = (active_begun (units_of image) d.page.0 (draft_header d) (h.begun d refl)).0

-- PAGES

-- a file, a log and a draft have different flags
file_not_log : (log : Option PageId) → file_flags log ≡ 19 → ⊥
file_not_log None e = absurd (omega arith)
file_not_log (Some l) e = absurd (omega arith)

pub file_not_draft : (log : Option PageId) → file_flags log ≡ 2 → ⊥
file_not_draft None e = absurd (omega arith)
file_not_draft (Some l) e = absurd (omega arith)

pub one_header : (g k : Header) → Some (Extent g) ≡ Some (Extent k) → g ≡ k
one_header g k e = cc

-- two extents with different headers have no page in common
apart : (image : List ℕ) (table : Entries) (draft : Option FileAt) → HoldsTable image table draft → (page other : ℕ) (g k : Header) → unit_begun (units_of image) 0 page ≡ Some (Extent g) → unit_begun (units_of image) 0 other ≡ Some (Extent k) → (g ≡ k → ⊥)
    → (p : ℕ) → page ≤ p → p < page + g.max_pages → other ≤ p → p < other + k.max_pages → ⊥
apart image table draft h page other g k first second differ p from to behind before =
    ⊎_elim
    (λ (same : page ≡ other). differ (one_header g k (sym first ∙ ap (λ q. unit_begun (units_of image) 0 q) same ∙ second)))
    (λ (places : page ≡ other → ⊥). begun_apart (units_of image) page other (Extent g) (Extent k) (holds_pages image table draft h) first second places p from to behind before)
    (cases_eq page other)

-- files in two places have no page in common, logs included
pub entries_apart : (image : List ℕ) (table : Entries) (draft : Option FileAt) (i j : ℕ) (e d : FileAt) → HoldsTable image table draft → IsIn table i e → IsIn table j d → i ≢ j → FilesApart e.page.0 e.pages e.log d.page.0 d.pages d.log
entries_apart image table draft i j e d h is other differ =
    let first = file_unit image table draft i e h is in
    let second = file_unit image table draft j d h other in
    record {
      extents = apart image table draft h e.page.0 d.page.0 (file_header e) (file_header d) first second (λ same. differ (h.names i j e d is other (ap (λ (g : Header). g.name) same)));
      first = λ l log. apart image table draft h d.page.0 l.0 (file_header d) (log_header e.name) second (log_unit image table draft i e l h is log) (λ same. file_not_log d.log (ap (λ (g : Header). g.flags) same));
      behind = λ l log. apart image table draft h e.page.0 l.0 (file_header e) (log_header d.name) first (log_unit image table draft j d l h other log) (λ same. file_not_log e.log (ap (λ (g : Header). g.flags) same));
      logs = λ l m log more.
          apart image table draft h m.0 l.0 (log_header d.name) (log_header e.name) (log_unit image table draft j d m h other more) (log_unit image table draft i e l h is log)
          (λ same. differ (h.names i j e d is other (sym (ap (λ (g : Header). g.name) same))));
    }

-- nor has a file with the draft
pub draft_apart : (image : List ℕ) (table : Entries) (d : FileAt) (i : ℕ) (e : FileAt) → HoldsTable image table (Some d) → IsIn table i e → FilesApart d.page.0 d.pages None e.page.0 e.pages e.log
draft_apart image table d i e h is =
    let draft = draft_unit image table d h in
    let file = file_unit image table (Some d) i e h is in
    record {
      extents = apart image table (Some d) h d.page.0 e.page.0 (draft_header d) (file_header e) draft file (λ same. file_not_draft e.log (sym (ap (λ (g : Header). g.flags) same)));
      first = λ l none. cc;
      behind = λ l log.
          apart image table (Some d) h d.page.0 l.0 (draft_header d) (log_header e.name) draft (log_unit image table (Some d) i e l h is log)
          (λ same. let flags : 2 ≡ 19 = ap (λ (g : Header). g.flags) same in absurd (omega arith));
      logs = λ l m none log. cc;
    }

-- PLACES OF A TABLE

pub in_table : (table : Entries) (i : ℕ) (e : FileAt) → IsIn table i e → i < length table
in_table table i e is =
    ⊎_elim
    (λ (inside : i < length table). inside)
    (λ (past : length table ≤ i). none_some e (sym (get_or_past table i None past) ∙ is))
    (cases_lt i (length table))
  where
    none_some : (e : FileAt) → None ≡ Some e → {A : Type 0} → A
    none_some e h = cc

-- the entry that was set
pub is_in_here : (table : Entries) (i : ℕ) (e : FileAt) → i < length table → IsIn (set table i (Some e)) i e
is_in_here table i e inside = get_or-set_same table i (Some e) None inside

-- and each other
pub is_in_there : (table : Entries) (i : ℕ) (o : Option FileAt) (k : ℕ) (d : FileAt) → k ≢ i → IsIn table k d → IsIn (set table i o) k d
is_in_there table i o k d other is = get_or-set_other table i k o None other ∙ is

-- an entry of the table after a change is the one that was set, or stood there before
pub is_in_set : (table : Entries) (i : ℕ) (o : Option FileAt) (k : ℕ) (d : FileAt) → IsIn (set table i o) k d → ((k ≡ i) × (o ≡ Some d)) ⊎ ((k ≢ i) × IsIn table k d)
is_in_set table i o k d is =
    ⊎_elim
    (λ (here : k ≡ i).
    let inside : i < length table = omega (arith, in_table (set table i o) k d is, length-set table i o) in
    inl (here, sym (get_or-set_same table i o None inside) ∙ ap (λ j. get_or (set table i o) j None) (sym here) ∙ is))
    (λ (there : k ≡ i → ⊥). inr (there, sym (get_or-set_other table i k o None there) ∙ is))
    (cases_eq k i)

-- EXTENTS THAT ARE HELD

true_or : (a b : Bool) → (a ≡ true) ⊎ (b ≡ true) → a || b ≡ true
true_or true b e = refl
true_or false b e = ⊎_elim (λ (a : false ≡ true). cc) (λ (h : b ≡ true). h) e

-- the log of a file begins at a page
pub record LogAt (e : FileAt) (page : ℕ) : Type 0 where
  pub log : PageId
  pub is : e.log ≡ Some log
  pub place : log.0 ≡ page

log_read : (page : ℕ) (e : FileAt) (o : Option PageId) → e.log ≡ o → is_its_log page o ≡ true → LogAt e page
log_read page e None is t = cc
log_read page e (Some l) is t = record { log = l; is = is; place = true_eq l.0 page t }

-- a file that has an extent at a page has its own there, or its log
pub extent_read : (page : ℕ) (e : FileAt) → has_extent_at page (Some e) ≡ true → (e.page.0 ≡ page) ⊎ LogAt e page
extent_read page e t = ⊎_elim (λ (a : e.page.0 == page ≡ true). inl (true_eq e.page.0 page a)) (λ (b : is_its_log page e.log ≡ true). inr (log_read page e e.log refl b)) (either_part (e.page.0 == page) (is_its_log page e.log) t)

pub extent_here : (page : ℕ) (e : FileAt) → e.page.0 ≡ page → has_extent_at page (Some e) ≡ true
extent_here page e here = true_or (e.page.0 == page) (is_its_log page e.log) (inl (eq_true e.page.0 page here))

pub log_here : (page : ℕ) (e : FileAt) (l : PageId) → e.log ≡ Some l → l.0 ≡ page → has_extent_at page (Some e) ≡ true
log_here page e l is here = true_or (e.page.0 == page) (is_its_log page e.log) (inr (ap (is_its_log page) is ∙ eq_true l.0 page here))

-- one of the files of a table has an extent at a page
pub record HeldBy (table : Entries) (page : ℕ) : Type 0 where
  pub place : ℕ
  pub entry : FileAt
  pub is_in : IsIn table place entry
  pub extent : has_extent_at page (Some entry) ≡ true

held_first : (page : ℕ) (o : Option FileAt) (os : Entries) → has_extent_at page o ≡ true → HeldBy (o ∷ os) page
held_first page None os t = cc
held_first page (Some e) os t = record { place = 0; entry = e; is_in = refl; extent = t }

held_any : (page : ℕ) (table : Entries) → list_any (has_extent_at page) table ≡ true → HeldBy table page
held_any page [] t = cc
held_any page (o ∷ os) t =
    ⊎_elim
    (λ (a : has_extent_at page o ≡ true). held_first page o os a)
    (λ (b : list_any (has_extent_at page) os ≡ true). let more = held_any page os b in record { place = suc more.place; entry = more.entry; is_in = more.is_in; extent = more.extent })
    (either_part (has_extent_at page o) (list_any (has_extent_at page) os) t)

-- an extent that is held is one of a file's, or of the draft's
pub held_by : (table : Entries) (draft : Option FileAt) (page : ℕ) → is_held table draft page ≡ true → HeldBy table page ⊎ (has_extent_at page draft ≡ true)
held_by table draft page t =
    ⊎_elim (λ (a : list_any (has_extent_at page) table ≡ true). inl (held_any page table a)) (λ (b : has_extent_at page draft ≡ true). inr b) (either_part (list_any (has_extent_at page) table) (has_extent_at page draft) t)

-- the extents of a file and of the draft are held
pub held_in : (table : Entries) (draft : Option FileAt) (i : ℕ) (e : FileAt) (page : ℕ) → IsIn table i e → has_extent_at page (Some e) ≡ true → is_held table draft page ≡ true
held_in table draft i e page is t =
    true_or (list_any (has_extent_at page) table) (has_extent_at page draft) (inl (list_any_at (has_extent_at page) table i None (in_table table i e is) (ap (has_extent_at page) is ∙ t)))

pub held_draft : (table : Entries) (draft : Option FileAt) (page : ℕ) → has_extent_at page draft ≡ true → is_held table draft page ≡ true
held_draft table draft page t = true_or (list_any (has_extent_at page) table) (has_extent_at page draft) (inr t)

held_now : (table : Entries) (i : ℕ) (now after : Option FileAt) (page : ℕ) → i < length table → (has_extent_at page now ≡ true) ⊎ (has_extent_at page after ≡ true) → is_held (set table i now) after page ≡ true
held_now table i now after page inside t =
    ⊎_elim
    (λ (a : has_extent_at page now ≡ true).
    true_or (list_any (has_extent_at page) (set table i now)) (has_extent_at page after)
    (inl (list_any_at (has_extent_at page) (set table i now) i None (omega (arith, inside, length-set table i now)) (ap (has_extent_at page) (get_or-set_same table i now None inside) ∙ a))))
    (λ (b : has_extent_at page after ≡ true). held_draft (set table i now) after page b)
    t

-- What a table holds after a change of one place and of the draft: what those of that place and the
-- old draft's extents are held for is still to be held.
pub held_set : (table : Entries) (i : ℕ) (now draft after : Option FileAt) (page : ℕ) → i < length table → is_held table draft page ≡ true
    → ((e : FileAt) → IsIn table i e → has_extent_at page (Some e) ≡ true → (has_extent_at page now ≡ true) ⊎ (has_extent_at page after ≡ true))
    → (has_extent_at page draft ≡ true → (has_extent_at page now ≡ true) ⊎ (has_extent_at page after ≡ true))
    → is_held (set table i now) after page ≡ true
held_set table i now draft after page inside t entry drafted =
    ⊎_elim
    (λ (h : HeldBy table page).
    ⊎_elim
    (λ (here : h.place ≡ i). held_now table i now after page inside (entry h.entry (subst (λ k. IsIn table k h.entry) here h.is_in) h.extent))
    (λ (there : h.place ≡ i → ⊥). held_in (set table i now) after h.place h.entry page (is_in_there table i now h.place h.entry there h.is_in) h.extent)
    (cases_eq h.place i))
    (λ (d : has_extent_at page draft ≡ true). held_now table i now after page inside (drafted d))
    (held_by table draft page t)
