-- What the rules say of the units of a settled image, which may have a torn record.
use Rattle.std.proofs.Common.{◌≡◌, inl, inr, ⊎_elim, ℕ, ◌+◌, ◌*◌, ◌/◌, ◌<◌, ◌≤◌, true, false, not, ◌&&◌, ◌||◌, ◌==◌, nat_lt, List, [], ◌∷◌, ◌++◌, length, take, drop, replicate, get_or, Some, None, if◌then◌else◌, refl, ap, sym, subst, ◌∙◌, arith}
use Rattle.std.proofs.lemmas.Bool.{cases_lt}
use Rattle.std.proofs.lemmas.List.{ext_get_or, get_or-take, get_or_append_left, length-append, length-drop, length-replicate, length-take, length-take-le}
use Rattle.afl_base.specs.Image.{page_bytes, zeros_at}
use Rattle.afl_base.proofs.Images.{length_range, length_zeros_at, zeros_at_before, zeros_at_behind}
use Rattle.coffee_header.specs.declared.header.Header.{Header}
use Rattle.coffee_layout.specs.FileBytes.{table_of, used_in}
use Rattle.coffee_layout.specs.Files.{Placed, extents, files_in, is_file, is_log}
use Rattle.coffee_layout.specs.Rules.{broken_files, broken_image, first_failing, first_page, first_repeated, has_fields, names_log}
use Rattle.coffee_layout.specs.Tiling.{IsTiled, KeepRules, at_place, broken_suffix, broken_tiling, broken_unit, nowhere, units_of}
use Rattle.coffee_layout.specs.Units.{pages_of, size_of, total, unit_at, unit_of}
use Rattle.coffee_layout.specs.declared.unit.Unit.{Unit}
use Rattle.coffee_layout.specs.declared.unit.Unit.TheVariants.{Extent}
use Rattle.coffee_layout.proofs.Frames.{content_stays}
use Rattle.coffee_layout.proofs.Judging.{place_none}
use Rattle.coffee_layout.proofs.Tests.{none_else, or_none}
use Rattle.coffee_layout.proofs.Tilings.{keep_unbroken, kept_inside, units_tiled}
use Rattle.coffee_merge.specs.Begun.{unit_begun}
use Rattle.coffee_merge.proofs.Begun.{active_begun, begun_split}
use Rattle.coffee_merge.proofs.SoundEntries.{IsAt, among_at, at_same, one_place}
use Rattle.coffee_merge.proofs.SoundRules.{HasLog, KeepsRules, extent_in, file_log, log_fields, sound_rules}
use Rattle.coffee_merge.proofs.SoundUnits.{Among, among_filter, any_among, begun_extent, filter_among, none_failing}
use Rattle.padded.specs.Zeros.{is_zeros}
use Rattle.padded.proofs.Facts.{eq_true, true_eq}
use Rattle.coffee_cuts.specs.Cuts.{HasTornRecord, IsSettled, next_record, without_two}
use Rattle.coffee_cuts.proofs.MarkedPages.{head_byte, stands_at}
use Rattle.coffee_cuts.proofs.Reached.{IsReached, kept_at, same_unit, sizes_reach}
use Rattle.coffee_cuts.proofs.Superseding.{rules, tiled, units}

-- the units of an image tile it, and keep the rules there or where a torn record is zero
pub record KeepsSettled (image : List ℕ) : Type 0 where
  pub base : List ℕ
  pub rules : KeepsRules base (units_of image)
  pub tiled : IsTiled nowhere image (units_of image)

-- ---- ZEROS THAT MAY REACH PAST THE END

front_byte : (image : List ℕ) (at n k : ℕ) → k < at → k < length image → get_or (zeros_at image at n) k 0 ≡ get_or image k 0
unfolding zeros_at
front_byte image at n k before inside =
    let first = length-append (take at image) (replicate n 0) in
    let front = length-take at image in
    get_or_append_left (take at image ++ replicate n 0) (drop (at + n) image) 0 k (omega (arith, first, front, before, inside))
    ∙ get_or_append_left (take at image) (replicate n 0) 0 k (omega (arith, front, before, inside))
    ∙ get_or-take at image k 0 before

zeros_past : (image : List ℕ) (at n : ℕ) → length image < at + n → (length image ≤ length (zeros_at image at n)) × (length (zeros_at image at n) ≤ at + n)
unfolding zeros_at
zeros_past image at n past =
    let first = length-append (take at image ++ replicate n 0) (drop (at + n) image) in
    let second = length-append (take at image) (replicate n 0) in
    let front = length-take at image in
    let mid = length-replicate {A = ℕ} n 0 in
    let last = length-drop (at + n) image in
    (omega (arith, first, second, front, mid, last, past), omega (arith, first, second, front, mid, last, past))

-- the same unit begins where the head of the page is the same
head_unit : (a b : List ℕ) (page : ℕ) → 256 * page + 256 ≤ length a → 256 * page + 256 ≤ length b → ((k : ℕ) → k < 32 → get_or a (256 * page + k) 0 ≡ get_or b (256 * page + k) 0) → unit_at a page ≡ unit_at b page
head_unit a b page first second same =
    let la = length_range a (256 * page) (256 * page + 256) first in
    let lb = length_range b (256 * page) (256 * page + 256) second in
    let xa : length (take 32 (page_bytes a page)) ≡ 32 = length-take-le 32 (page_bytes a page) (omega (arith, la)) in
    let xb : length (take 32 (page_bytes b page)) ≡ 32 = length-take-le 32 (page_bytes b page) (omega (arith, lb)) in
    ap unit_of (ext_get_or 0 (take 32 (page_bytes a page)) (take 32 (page_bytes b page)) (xa ∙ sym xb)
    (λ k less. head_byte a page k (omega (arith, less, xa)) ∙ same k (omega (arith, less, xa)) ∙ sym (head_byte b page k (omega (arith, less, xa)))))

fields_kept : (image : List ℕ) (us : List Unit) (e : Placed) → broken_files image us ≡ None → Among e (extents 0 us) → has_fields e ≡ true
fields_kept image us e b a =
    let five = or_none (at_place 5 (first_page (drop 32 (files_in us)))) _ b in
    let six = or_none (at_place 6 (first_repeated [] (files_in us))) _ five.1 in
    let seven = or_none (at_place 7 (first_failing has_fields (extents 0 us))) _ six.1 in
    none_failing has_fields e (extents 0 us) (place_none 7 _ seven.0) a

broken_parts : (image : List ℕ) → broken_image image ≡ None → (broken_tiling nowhere image ≡ None) × (broken_files image (units_of image) ≡ None)
unfolding broken_image
broken_parts image e = or_none (broken_tiling nowhere image) (broken_files image (units_of image)) e

tiling_kept : (image : List ℕ) → broken_tiling nowhere image ≡ None → KeepRules nowhere image 0 false (units_of image) × (total (units_of image) ≡ pages_of image)
unfolding units_of
tiling_kept image e = let k = keep_unbroken nowhere (pages_of image) image 0 false (omega arith) (omega arith) e in let n = k.1 in (k.0, omega (arith, n))

reached : (image other : List ℕ) (page : ℕ) (u : Unit) → 256 * page + 256 ≤ length other → page < pages_of image → KeepRules nowhere image 0 false (units_of image) → total (units_of image) ≡ pages_of image
    → ((p : ℕ) (v w : Unit) → p < page → unit_at other p ≡ Some v → unit_at image p ≡ Some w → size_of v ≡ size_of w)
    → unit_begun (units_of other) 0 page ≡ Some u → IsReached image (units_of image) 0 page
unfolding units_of
reached image other page u inside within keep all sizes e =
    sizes_reach image other (units_of image) (pages_of other) 0 page false u (omega (arith, inside)) sizes keep (omega (arith, all)) within (omega arith) e

module _ (image : List ℕ) (whole : 256 * pages_of image ≡ length image) (t : HasTornRecord image) where
  abbrev log : ℕ
  log = t.log

  abbrev place : ℕ
  place = next_record image t.log

  abbrev zeroed : List ℕ
  zeroed = zeros_at image place 128

  place_is : place ≡ 256 * log + 96 + 128 * used_in (table_of image log)
  place_is = refl

  abbrev header : Header
  header = t.is_log.header

  begun : unit_begun (units_of image) 0 log ≡ Some (Extent header)
  begun = (active_begun (units_of image) log header t.is_log.there).0

  inside_image : 256 * log + 256 ≤ length image
  inside_image = (stands_at image log (Extent header) begun).0

  inside : 256 * log + 256 ≤ length zeroed
  inside = ⊎_elim
      (λ (past : length image < place + 128). let z = zeros_past image place 128 past in let low = z.0 in let i = inside_image in omega (arith, low, i))
      (λ (fits : place + 128 ≤ length image). let same = length_zeros_at image place 128 fits in let i = inside_image in omega (arith, same, i))
      (cases_lt (length image) (place + 128))

  heads : (p : ℕ) → p ≤ log → unit_at zeroed p ≡ unit_at image p
  heads p low =
      let i = inside_image in
      let z = inside in
      let n = place_is in
      head_unit zeroed image p (omega (arith, low, z)) (omega (arith, low, i)) (λ k few. front_byte image place 128 (256 * p + k) (omega (arith, low, few, n)) (omega (arith, low, few, i)))

  parts : (broken_tiling nowhere zeroed ≡ None) × (broken_files zeroed (units_of zeroed) ≡ None)
  parts = broken_parts zeroed t.sound

  kept : KeepRules nowhere zeroed 0 false (units_of zeroed) × (total (units_of zeroed) ≡ pages_of zeroed)
  kept = tiling_kept zeroed parts.0

  -- the log stands in the image without the record too
  reached_log : IsReached zeroed (units_of zeroed) 0 log
  reached_log =
      let z = inside in
      reached zeroed image log (Extent header) inside_image (omega (arith, z)) kept.0 kept.1
      (λ p v w less is other. ap size_of (same_unit v w (sym is ∙ sym (heads p (omega (arith, less))) ∙ other))) begun

  there : unit_begun (units_of zeroed) 0 log ≡ Some (Extent header)
  there =
      let r = reached_log in
      r.begun ∙ sym r.there ∙ heads log (omega arith) ∙ (stands_at image log (Extent header) begun).1

  -- so it has 16 pages
  pages : header.max_pages ≡ 16
  pages =
      let e : Placed = record { page = log; header = header } in
      let f = log_fields e (fields_kept zeroed (units_of zeroed) e parts.1 (begun_extent (units_of zeroed) 0 log header there)) (eq_true header.flags 19 t.is_log.flags_are) in
      ap (λ (g : Header). g.max_pages) f

  log_inside : 256 * (log + 16) ≤ length zeroed
  log_inside =
      let r = reached_log in
      let z = inside in
      let same : r.unit ≡ Extent header = same_unit r.unit (Extent header) (sym r.there ∙ heads log (omega arith) ∙ (stands_at image log (Extent header) begun).1) in
      let size : size_of r.unit ≡ header.max_pages = ap size_of same in
      let p = pages in
      let k = kept_inside nowhere zeroed log r.free r.unit (omega (arith, z)) r.there r.kept in
      let ends = k.1 in
      omega (arith, ends, size, p)

  pub fits : place + 128 ≤ length image
  fits = ⊎_elim
      (λ (past : length image < place + 128).
      let z = zeros_past image place 128 past in
      let high = z.1 in
      let l = log_inside in
      let n = place_is in
      let free = t.free in
      absurd (omega (arith, high, l, n, free)))
      (λ (good : place + 128 ≤ length image). good)
      (cases_lt (length image) (place + 128))

  long : length zeroed ≡ length image
  long = length_zeros_at image place 128 fits

  whole_zeroed : 256 * pages_of zeroed ≡ length zeroed
  whole_zeroed = ap (λ m. 256 * (m / 256)) long ∙ whole ∙ sym long

  -- the zeros change no unit
  torn_kept : KeepsSettled image
  torn_kept =
      let rules = (sound_rules zeroed whole_zeroed t.sound).0 in
      let s = begun_split (units_of zeroed) log (Extent header) there in
      let at = s.place in
      let p = pages in
      let n = place_is in
      let free = t.free in
      let stays : IsTiled nowhere image (s.front ++ (Extent header ∷ s.rest)) = content_stays nowhere zeroed image s.front s.rest header (subst (IsTiled nowhere zeroed) s.whole rules.tiled) (sym long)
      (λ k out. ⊎_elim
      (λ (low : k < 256 * total s.front + 32). sym (zeros_at_before image place 128 k fits (omega (arith, low, at, n))))
      (λ (high : 256 * (total s.front + header.max_pages) ≤ k). sym (zeros_at_behind image place 128 k fits (omega (arith, high, at, p, n, free))))
      out) in
      let same : units_of image ≡ units_of zeroed = units_tiled nowhere image (s.front ++ (Extent header ∷ s.rest)) stays ∙ sym s.whole in
      record {
        base = zeroed;
        rules = subst (KeepsRules zeroed) (sym same) rules;
        tiled = subst (IsTiled nowhere image) (sym (units_tiled nowhere image (s.front ++ (Extent header ∷ s.rest)) stays)) stays;
      }

pub settled_kept : (image : List ℕ) → 256 * pages_of image ≡ length image → IsSettled image → KeepsSettled image
settled_kept image whole (inl sound) = let r = (sound_rules image whole sound).0 in record { base = image; rules = r; tiled = r.tiled }
settled_kept image whole (inr (inl torn)) = torn_kept image whole torn
settled_kept image whole (inr (inr s)) = record { base = without_two image s.log.0 s.file.used; rules = subst (KeepsRules (without_two image s.log.0 s.file.used)) (sym (units image whole s)) (rules image whole s); tiled = subst (IsTiled nowhere image) (sym (units image whole s)) (tiled image whole s) }

-- ---- THE RULES, OF WHAT BEGINS AT A PAGE

abbrev pub begins : List ℕ → ℕ → Header → Type 0
begins image page h = unit_begun (units_of image) 0 page ≡ Some (Extent h)

abbrev pub placed_at : ℕ → Header → Placed
placed_at page h = record { page = page; header = h }

module _ (image : List ℕ) (k : KeepsSettled image) where
  among : (page : ℕ) (h : Header) → begins image page h → Among (placed_at page h) (extents 0 (units_of image))
  among page h b = begun_extent (units_of image) 0 page h b

  begun_of : (e : Placed) → Among e (extents 0 (units_of image)) → begins image e.page e.header
  begun_of e a = (extent_in nowhere k.base (units_of image) e k.rules.tiled a).begun

  -- rule 1
  pub none_building : (page : ℕ) (h : Header) → begins image page h → h.flags ≡ 2 → ⊥
  none_building page h b two =
      let a = kept_at image (units_of image) 0 page false (Extent h) k.tiled.keep b in
      let rule : broken_unit false (is_zeros (page_bytes image page)) (pages_of image) page a.0 (Some (Extent h)) ≡ None =
      sym (ap (broken_unit false (is_zeros (page_bytes image page)) (pages_of image) page a.0) a.1) ∙ a.2 in
      by_flags h.flags two (none_else (h.flags == 2 && not false) 1 (if h.max_pages == 0 || nat_lt (pages_of image) (page + h.max_pages) then Some 2 else broken_suffix page a.0) rule).0
    where
      by_flags : (n : ℕ) → n ≡ 2 → (n == 2 && not false) ≡ false → ⊥
      by_flags n e f = let g : (2 == 2 && not false) ≡ false = ap (λ m. m == 2 && not false) (sym e) ∙ f in let no : ⊥ = cc in no

  -- rule 6
  pub one_named : (page other : ℕ) (g h : Header) → begins image page g → begins image other h → is_file (placed_at page g) ≡ true → is_file (placed_at other h) ≡ true → g.name ≡ h.name → page ≡ other
  one_named page other g h b c file file_other name =
      let fs : List Placed = files_in (units_of image) in
      let i = among_at fs (placed_at page g) (among_filter is_file (placed_at page g) (extents 0 (units_of image)) (among page g b) file) in
      let j = among_at fs (placed_at other h) (among_filter is_file (placed_at other h) (extents 0 (units_of image)) (among other h c) file_other) in
      let same : i.0 ≡ j.0 = one_place fs i.0 j.0 (placed_at page g) (placed_at other h) k.rules.names i.1 j.1 name in
      ap (λ (p : Placed). p.page) (at_same fs j.0 (placed_at page g) (placed_at other h) (subst (λ n. IsAt fs n (placed_at page g)) same i.1) j.1)

  -- rule 8
  pub none_logged : (page : ℕ) (h : Header) → begins image page h → h.flags ≡ 3 → h.log_page ≡ 0
  none_logged page h b three =
      let file : is_file (placed_at page h) ≡ true = ap (λ n. n == 3 || n == 11) three in
      ⊎_elim
      (λ (n : (h.flags ≡ 3) × (h.log_page ≡ 0)). n.1)
      (λ (l : HasLog (units_of image) (placed_at page h)). let eleven : h.flags ≡ 11 = l.flags in absurd (omega (arith, eleven, three)))
      (file_log k.base (units_of image) (placed_at page h) k.rules (among_filter is_file (placed_at page h) (extents 0 (units_of image)) (among page h b) file))

  pub log_there : (page log : ℕ) (h : Header) → begins image page h → is_file (placed_at page h) ≡ true → h.log_page ≡ log + 1 → (g : Header) × begins image log g × (g.flags ≡ 19)
  log_there page log h b file named =
      ⊎_elim
      (λ (n : (h.flags ≡ 3) × (h.log_page ≡ 0)). let z = n.1 in absurd (omega (arith, z, named)))
      (λ (l : HasLog (units_of image) (placed_at page h)).
      let p : l.log.page + 1 ≡ h.log_page = l.page in
      let at : l.log.page ≡ log = omega (arith, p, named) in
      let a = filter_among is_log l.log (extents 0 (units_of image)) l.is in
      (l.log.header, ap (unit_begun (units_of image) 0) (sym at) ∙ begun_of l.log a.0, true_eq l.log.header.flags 19 a.1))
      (file_log k.base (units_of image) (placed_at page h) k.rules (among_filter is_file (placed_at page h) (extents 0 (units_of image)) (among page h b) file))

  pub some_logged : (page : ℕ) (h : Header) → begins image page h → h.flags ≡ 11 → 1 ≤ h.log_page
  some_logged page h b eleven =
      let file : is_file (placed_at page h) ≡ true = ap (λ n. n == 3 || n == 11) eleven in
      ⊎_elim
      (λ (n : (h.flags ≡ 3) × (h.log_page ≡ 0)). let three : h.flags ≡ 3 = n.0 in absurd (omega (arith, eleven, three)))
      (λ (l : HasLog (units_of image) (placed_at page h)). let p : l.log.page + 1 ≡ h.log_page = l.page in omega (arith, p))
      (file_log k.base (units_of image) (placed_at page h) k.rules (among_filter is_file (placed_at page h) (extents 0 (units_of image)) (among page h b) file))

  -- rule 9
  pub file_there : (log : ℕ) (g : Header) → begins image log g → g.flags ≡ 19 → (page : ℕ) × (h : Header) × begins image page h × (h.flags ≡ 11) × (h.log_page ≡ log + 1)
  file_there log g b flags =
      let l : Placed = placed_at log g in
      let f = any_among (names_log log) (files_in (units_of image)) (k.rules.logs l (among_filter is_log l (extents 0 (units_of image)) (among log g b) (eq_true g.flags 19 flags))) in
      let a = filter_among is_file f.0 (extents 0 (units_of image)) f.1 in
      let named : f.0.header.log_page ≡ log + 1 = true_eq f.0.header.log_page (log + 1) f.2 in
      let eleven : f.0.header.flags ≡ 11 = ⊎_elim
      (λ (n : (f.0.header.flags ≡ 3) × (f.0.header.log_page ≡ 0)). let z = n.1 in absurd (omega (arith, z, named)))
      (λ (h : HasLog (units_of image) f.0). h.flags)
      (file_log k.base (units_of image) f.0 k.rules f.1) in
      (f.0.page, f.0.header, begun_of f.0 a.0, eleven, named)

  -- the units of a file, and the pages of a log
  pub file_of_units : (f : Placed) → Among f (files_in (units_of image)) → begins image f.page f.header × (is_file f ≡ true)
  file_of_units f a = let b = filter_among is_file f (extents 0 (units_of image)) a in (begun_of f b.0, b.1)

  pub log_pages : (log : ℕ) (g : Header) → begins image log g → g.flags ≡ 19 → g.max_pages ≡ 16
  log_pages log g b flags =
      let l : Placed = placed_at log g in
      ap (λ (h : Header). h.max_pages) (log_fields l (k.rules.fields l (among log g b)) (eq_true g.flags 19 flags))
