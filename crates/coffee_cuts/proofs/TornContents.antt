-- An overwrite or an append that broke off, also while a draft stands.
use Rattle.std.proofs.Common.{◌≡◌, ◌≢◌, ⊎_elim, ℕ, ◌+◌, ◌-◌, ◌*◌, ◌/◌, ◌<◌, ◌≤◌, List, [], ◌∷◌, length, take, get_or, bit_or, Option, Some, None, refl, ap, sym, subst, ◌∙◌, arith}
use Rattle.std.specs.Prelude.{set, slice_index}
use Rattle.std.specs.List.{Contains}
use Rattle.std.proofs.lemmas.Bool.{cases_eq, cases_lt}
use Rattle.std.proofs.lemmas.List.{get_or_past, length-take-le}
use Rattle.afl_base.proofs.Images.{length_or_at, or_at_inside}
use Rattle.coffee_layout.specs.FileBytes.{file_byte, number_in}
use Rattle.coffee_layout.specs.Files.{files_of}
use Rattle.coffee_layout.specs.Tiling.{units_of}
use Rattle.coffee_layout.specs.declared.file.FileAt.{FileAt}
use Rattle.coffee_layout.proofs.Tilings.{units_tiled}
use Rattle.coffee_log.specs.FileChanges.{Puts}
use Rattle.coffee_log.specs.FileCuts.{IsFileCut}
use Rattle.coffee_merge.specs.Begun.{active_at}
use Rattle.coffee_merge.specs.Flags.{flagged}
use Rattle.coffee_merge.specs.Holding.{Entries, IsIn, building_of, draft_header}
use Rattle.coffee_merge.specs.TableFiles.{file_of}
use Rattle.coffee_merge.proofs.Contents.{changed_tiled}
use Rattle.coffee_merge.proofs.Holdings.{draft_apart, is_in_set}
use Rattle.coffee_merge.proofs.Kept.{KeepsBody, body_byte, body_file, table_kept}
use Rattle.coffee_merge.proofs.Marked.{flagged_bytes}
use Rattle.padded.proofs.Facts.{some_same}
use Rattle.coffee_cuts.specs.Cuts.{Building, Nothing}
use Rattle.coffee_cuts.specs.Mending.{IsTable, MendsToPut}
use Rattle.coffee_cuts.proofs.AlikeFiles.{bytes_alike}
use Rattle.coffee_cuts.proofs.Drafts.{draft_dropped}
use Rattle.coffee_cuts.proofs.Mended.{named}
use Rattle.coffee_cuts.proofs.TornRecords.{EndsSome, SettlesPut, put_settles}

-- WHERE NO DRAFT STANDS

idle_put : (whole new : List ℕ) (table : Entries) (i : ℕ) (e : FileAt) (at : ℕ) (bytes : List ℕ) → SettlesPut whole new table i e at bytes → MendsToPut whole new table i e at bytes
idle_put whole new table i e at bytes s = record {
  size = s.size;
  used = s.used;
  mends = record {
    files = files_of new;
    mends = record { under_way = Nothing; found = tt; settles = s.settles; files_are = refl };
    each = s.each;
    only = s.only;
  };
  put = s.put;
  others = s.others;
}

-- WHERE ONE DOES

flag_here : (image : List ℕ) (page flag : ℕ) → 256 * page + 9 < length image → get_or (flagged image page flag) (256 * page + 9) 0 ≡ bit_or (get_or image (256 * page + 9) 0) flag
flag_here image page flag inside =
    let place : 256 * page + 9 + 0 ≡ 256 * page + 9 = omega arith in
    subst (λ j. get_or (flagged image page flag) j 0 ≡ bit_or (get_or image j 0) flag) place (or_at_inside image (256 * page + 9) (flag ∷ []) 0 (omega (arith, inside)) (omega arith))

-- equal bytes stay equal where a flag is added to a header
flag_same : (a b : List ℕ) (page flag k : ℕ) → length a ≡ length b → get_or a k 0 ≡ get_or b k 0 → get_or (flagged a page flag) k 0 ≡ get_or (flagged b page flag) k 0
flag_same a b page flag k long same = ⊎_elim
    (λ (here : k ≡ 256 * page + 9). ⊎_elim
    (λ (inside : 256 * page + 9 < length a).
    let was : get_or a (256 * page + 9) 0 ≡ get_or b (256 * page + 9) 0 = subst (λ j. get_or a j 0 ≡ get_or b j 0) here same in
    subst (λ j. get_or (flagged a page flag) j 0 ≡ get_or (flagged b page flag) j 0) (sym here)
    (flag_here a page flag inside ∙ ap (λ n. bit_or n flag) was ∙ sym (flag_here b page flag (omega (arith, inside, long)))))
    (λ (past : length a ≤ 256 * page + 9).
    get_or_past (flagged a page flag) k 0 (omega (arith, past, here, length_or_at a (256 * page + 9) (flag ∷ []))) ∙ sym (get_or_past (flagged b page flag) k 0 (omega (arith, past, here, long, length_or_at b (256 * page + 9) (flag ∷ [])))))
    (cases_lt (256 * page + 9) (length a)))
    (λ (there : k ≢ 256 * page + 9). flagged_bytes a page flag k there ∙ same ∙ sym (flagged_bytes b page flag k there))
    (cases_eq k (256 * page + 9))

module _ (whole new : List ℕ) (table : Entries) (d : FileAt) (i : ℕ) (e : FileAt) (at : ℕ) (bytes : List ℕ) (t : IsTable whole table (Some d)) (is : IsIn table i e) (long : length new ≡ length whole)
    (c : IsFileCut whole new e.page.0 e.pages e.log e.size at bytes) (ends : EndsSome e.size at bytes)
    (room : at + length bytes + 32 ≤ 256 * e.pages) where
  -- the draft is obsolete
  abbrev dropped : List ℕ → List ℕ
  dropped image = flagged image d.page.0 5

  same_long : (image : List ℕ) → length (dropped image) ≡ length image
  same_long image = length_or_at image (256 * d.page.0 + 9) (5 ∷ [])

  -- no byte of a file is its mark
  body : (image : List ℕ) (k : ℕ) (f : FileAt) → IsIn table k f → KeepsBody image (dropped image) f.page.0 f.pages f.log
  body image k f there =
      let some = (t.holds.drafted d refl).fits.some in
      let apart = draft_apart whole table d k f t.holds there in
      record {
        extent = λ j from to. flagged_bytes image d.page.0 5 j (λ here. apart.extents (j / 256) (omega (arith, here)) (omega (arith, here, some)) (omega (arith, from)) (omega (arith, to)));
        logged = λ l log j from to. flagged_bytes image d.page.0 5 j (λ here. apart.behind l log (j / 256) (omega (arith, here)) (omega (arith, here, some)) (omega (arith, from)) (omega (arith, to)));
      }

  byte_same : (image : List ℕ) (p : ℕ) → p + 32 < 256 * e.pages → file_byte (dropped image) e.page.0 e.log p ≡ file_byte image e.page.0 e.log p
  byte_same image p within = body_byte image (dropped image) e.page.0 e.pages e.log p (same_long image) (body image i e is) within

  put_same : (old now part : List ℕ) → at + length part + 32 ≤ 256 * e.pages → Puts (file_byte old e.page.0 e.log) (file_byte now e.page.0 e.log) (256 * e.pages - 32) at part
      → Puts (file_byte (dropped old) e.page.0 e.log) (file_byte (dropped now) e.page.0 e.log) (256 * e.pages - 32) at part
  put_same old now part fits p = record {
    here = λ k low. byte_same now (at + k) (omega (arith, low, fits)) ∙ p.here k low;
    others = λ q low out. byte_same now q (omega (arith, low)) ∙ p.others q low out ∙ sym (byte_same old q (omega (arith, low)));
  }

  put_back : (old now part : List ℕ) → at + length part + 32 ≤ 256 * e.pages → Puts (file_byte (dropped old) e.page.0 e.log) (file_byte (dropped now) e.page.0 e.log) (256 * e.pages - 32) at part
      → Puts (file_byte old e.page.0 e.log) (file_byte now e.page.0 e.log) (256 * e.pages - 32) at part
  put_back old now part fits p = record {
    here = λ k low. sym (byte_same now (at + k) (omega (arith, low, fits))) ∙ p.here k low;
    others = λ q low out. sym (byte_same now q (omega (arith, low))) ∙ p.others q low out ∙ byte_same old q (omega (arith, low));
  }

  abbrev part : List ℕ
  part = take c.done bytes

  part_fits : at + length part + 32 ≤ 256 * e.pages
  part_fits = let n = length-take-le c.done bytes c.within in let w = c.within in omega (arith, n, w, room)

  dropped_cut : IsFileCut (dropped whole) (dropped new) e.page.0 e.pages e.log e.size at bytes
  dropped_cut = record {
    done = c.done;
    records = c.records;
    put = dropped c.put;
    long = same_long c.put ∙ c.long ∙ sym (same_long whole);
    within = c.within;
    becomes = record {
      kept = body_file c.put (dropped c.put) e.page.0 e.pages e.log c.records _ (same_long c.put) (body c.put i e is) c.becomes.kept;
      put = put_same whole c.put part part_fits c.becomes.put;
      others = λ k out. flag_same c.put whole d.page.0 5 k c.long (c.becomes.others k out);
    };
    below = λ l log j low. subst (λ (xs : List ℕ). 128 * (number_in xs j - 1) < e.size) (sym (table_kept c.put (dropped c.put) e.page.0 e.pages e.log l (same_long c.put) (body c.put i e is) log)) (c.below l log j low);
    torn = λ k out. flag_same new c.put d.page.0 5 k (long ∙ sym c.long) (c.torn k out);
  }

  abbrev held : IsTable (dropped whole) table None
  held = record {
    holds = (draft_dropped whole table d t.holds).holds;
    few = t.few;
    sparing = t.sparing;
    sectors = t.sectors;
    size = same_long whole ∙ t.size;
    small = t.small;
  }

  settled_put : SettlesPut (dropped whole) (dropped new) table i e at part
  unfolding dropped_cut
  settled_put = put_settles (dropped whole) (dropped new) table i e at bytes held is (same_long new ∙ long ∙ sym (same_long whole)) dropped_cut ends room

  abbrev last : FileAt
  last = record e { size = settled_put.size; used = settled_put.used }

  file_same : (image : List ℕ) (k : ℕ) (f : FileAt) → IsIn table k f → file_of (dropped image) f ≡ file_of image f
  file_same image k f there =
      ap (named f.name f.kind) (bytes_alike (dropped image) image f.page.0 f.pages f.log (λ p low. body_byte image (dropped image) f.page.0 f.pages f.log p (same_long image) (body image k f there) (omega (arith, low))))

  now_same : (k : ℕ) (f : FileAt) → IsIn (set table i (Some last)) k f → file_of (dropped new) f ≡ file_of new f
  now_same k f there = ⊎_elim
      (λ (a : (k ≡ i) × (Some last ≡ Some f)). subst (λ (x : FileAt). file_of (dropped new) x ≡ file_of new x) (some_same last f a.1) (file_same new i e is))
      (λ (a : (k ≢ i) × IsIn table k f). file_same new k f a.1)
      (is_in_set table i (Some last) k f there)

  units_same : units_of new ≡ units_of whole
  units_same = units_tiled (building_of (Some d)) new (units_of whole) (changed_tiled whole new table (Some d) i e t.holds is long (λ k out. c.torn k (λ l named few a b. out.logged l named (omega (arith, a)) (omega (arith, b, few))) ∙ c.becomes.others k out))

  -- the draft is still under way
  pub drafted_put : MendsToPut whole new table i e at part
  drafted_put =
      let s = settled_put in
      record {
        size = s.size;
        used = s.used;
        mends = record {
          files = files_of (dropped new);
          mends = record {
            under_way = Building d.page.0;
            found = record { header = draft_header d; there = ap (λ us. active_at us d.page.0) units_same ∙ t.holds.begun d refl; flags_are = refl };
            settles = s.settles;
            files_are = refl;
          };
          each = λ k f there. subst (Contains (files_of (dropped new))) (now_same k f there) (s.each k f there);
          only = λ f has. let r = s.only f has in (r.0, r.1, r.2, r.3 ∙ now_same r.0 r.1 r.2);
        };
        put = put_back whole new part part_fits s.put;
        others = λ k f other there. sym (file_same new k f there) ∙ s.others k f other there ∙ file_same whole k f there;
      }

-- BOTH

put_mends : (whole new : List ℕ) (table : Entries) (draft : Option FileAt) (i : ℕ) (e : FileAt) (at : ℕ) (bytes : List ℕ) → IsTable whole table draft → IsIn table i e → length new ≡ length whole
    → (c : IsFileCut whole new e.page.0 e.pages e.log e.size at bytes) → EndsSome e.size at bytes → at + length bytes + 32 ≤ 256 * e.pages → MendsToPut whole new table i e at (take c.done bytes)
put_mends whole new table None i e at bytes t is long c ends room = idle_put whole new table i e at (take c.done bytes) (put_settles whole new table i e at bytes t is long c ends room)
put_mends whole new table (Some d) i e at bytes t is long c ends room = drafted_put whole new table d i e at bytes t is long c ends room

-- an overwrite stays below the size
pub overwritten_mends : (whole new : List ℕ) (table : Entries) (draft : Option FileAt) (i : ℕ) (e : FileAt) (at : ℕ) (bytes : List ℕ) → IsTable whole table draft → IsIn table i e → length new ≡ length whole → at + length bytes ≤ e.size
    → (at + length bytes ≡ e.size → slice_index bytes (length bytes - 1) ≢ 0) → (c : IsFileCut whole new e.page.0 e.pages e.log e.size at bytes) → MendsToPut whole new table i e at (take c.done bytes)
overwritten_mends whole new table draft i e at bytes t is long low last c =
    let room = (t.holds.stored i e is).fits.size in
    put_mends whole new table draft i e at bytes t is long c
    (λ k less end. let back : length bytes - 1 ≡ k = omega (arith, less, end, low) in subst (λ n. slice_index bytes n ≢ 0) back (last (omega (arith, less, end, low)))) (omega (arith, low, room))

-- an append begins at the size
pub appended_mends : (whole new : List ℕ) (table : Entries) (draft : Option FileAt) (i : ℕ) (e : FileAt) (bytes : List ℕ) → IsTable whole table draft → IsIn table i e → length new ≡ length whole → e.size + length bytes + 32 ≤ 256 * e.pages
    → (c : IsFileCut whole new e.page.0 e.pages e.log e.size e.size bytes) → MendsToPut whole new table i e e.size (take c.done bytes)
appended_mends whole new table draft i e bytes t is long room c = put_mends whole new table draft i e e.size bytes t is long c (λ k less end. absurd (omega (arith, end))) room
