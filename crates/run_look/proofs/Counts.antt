-- A walk over the units of a tiled image that counts their pages.
use Rattle.std.proofs.Common.{◌≡◌, ℕ, ◌+◌, ◌≤◌, ◌<◌, Bool, true, false, List, [], ◌∷◌, filter, Some, None, cond, refl, ap, sym, subst, ◌∙◌, arith}
use Rattle.coffee_layout.specs.Tiling.{KeepRules}
use Rattle.coffee_layout.specs.Units.{is_free, pages_of, size_of, total}
use Rattle.coffee_layout.specs.declared.unit.Unit.{Unit}
use Rattle.coffee_layout.proofs.Searches.{IsRead}
use Rattle.coffee_layout.proofs.Tilings.{kept_some}
use Rattle.run_look.specs.declared.pages.PageCounts.{PageCounts}
use Rattle.run_look.specs.Pages.{CountsMore, holds_file, holds_log, is_old, page_counts, pages_if}
use Rattle.padded.proofs.Facts.{some_same}

-- the units from a page on are still to be counted
pub record Counted (building : ℕ → Bool) (image : List ℕ) (us : List Unit) (page : ℕ) (counts : PageCounts) : Type 0 where
  pub after_free : Bool
  pub rest : List Unit
  pub keep : KeepRules building image page after_free rest
  pub whole : page + total rest ≡ pages_of image
  pub free : counts.free + total (filter is_free rest) ≡ total (filter is_free us)
  pub files : counts.files + total (filter holds_file rest) ≡ total (filter holds_file us)
  pub logs : counts.logs + total (filter holds_log rest) ≡ total (filter holds_log us)
  pub old : counts.old + total (filter is_old rest) ≡ total (filter is_old us)

-- the first unit passes a test or not
pub one_off : (test : Unit → Bool) (u : Unit) (us : List Unit) → total (filter test (u ∷ us)) ≡ pages_if test u + total (filter test us)
one_off test u us = by_test (test u)
  where
    by_test : (t : Bool) → total (cond t (u ∷ filter test us) (filter test us)) ≡ cond t (size_of u) 0 + total (filter test us)
    by_test true = refl
    by_test false = omega arith

same_counts : (x y : PageCounts) → x.free ≡ y.free → x.files ≡ y.files → x.logs ≡ y.logs → x.old ≡ y.old → x ≡ y
same_counts x y a b c d =
    let counts : ℕ → ℕ → ℕ → ℕ → PageCounts = λ free files logs old. record { free = free; files = files; logs = logs; old = old } in
    ap (λ n. counts n x.files x.logs x.old) a ∙ ap (λ n. counts y.free n x.logs x.old) b ∙ ap (λ n. counts y.free y.files n x.old) c ∙ ap (counts y.free y.files y.logs) d

counted_first : (building : ℕ → Bool) (image : List ℕ) (us : List Unit) (page : ℕ) (old new : PageCounts) (u : Unit) (after_free : Bool) (rest : List Unit) → KeepRules building image page after_free (u ∷ rest) → page + total (u ∷ rest) ≡ pages_of image
    → old.free + total (filter is_free (u ∷ rest)) ≡ total (filter is_free us) → old.files + total (filter holds_file (u ∷ rest)) ≡ total (filter holds_file us)
    → old.logs + total (filter holds_log (u ∷ rest)) ≡ total (filter holds_log us) → old.old + total (filter is_old (u ∷ rest)) ≡ total (filter is_old us)
    → CountsMore old new u → Counted building image us (page + size_of u) new
counted_first building image us page old new u after_free rest keep whole free files logs others more =
    let a = one_off is_free u rest in
    let b = one_off holds_file u rest in
    let c = one_off holds_log u rest in
    let d = one_off is_old u rest in
    let a2 = more.free in
    let b2 = more.files in
    let c2 = more.logs in
    let d2 = more.old_ones in
    record {
      after_free = is_free u;
      rest = rest;
      keep = keep.2;
      whole = omega (arith, whole);
      free = omega (arith, a, a2, free);
      files = omega (arith, b, b2, files);
      logs = omega (arith, c, c2, logs);
      old = omega (arith, d, d2, others);
    }

module _ (building : ℕ → Bool) (image : List ℕ) (us : List Unit) (page : ℕ) (counts : PageCounts) where
  -- the pages of the unit that was read were counted too
  pub counted_next : (new : PageCounts) (u : Unit) → page < pages_of image → Counted building image us page counts → IsRead image page (Some u) → CountsMore counts new u → Counted building image us (page + size_of u) new
  counted_next new u before c is more = at c.after_free c.rest c.keep c.whole c.free c.files c.logs c.old
    where
      at : (after_free : Bool) (rest : List Unit) → KeepRules building image page after_free rest → page + total rest ≡ pages_of image
          → counts.free + total (filter is_free rest) ≡ total (filter is_free us) → counts.files + total (filter holds_file rest) ≡ total (filter holds_file us)
          → counts.logs + total (filter holds_log rest) ≡ total (filter holds_log us) → counts.old + total (filter is_old rest) ≡ total (filter is_old us)
          → Counted building image us (page + size_of u) new
      at after_free [] keep whole free files logs old = absurd (omega (arith, whole, before))
      at after_free (v ∷ rest) keep whole free files logs old =
          let same : v ≡ u = some_same v u (sym keep.0 ∙ sym (is building after_free keep.1)) in
          subst (λ w. Counted building image us (page + size_of w) new) same
          (counted_first building image us page counts new v after_free rest keep whole free files logs old (subst (λ w. CountsMore counts new w) (sym same) more))

  -- a unit stands there
  pub counted_none : page < pages_of image → Counted building image us page counts → IsRead image page None → ⊥
  counted_none before c is = none_at c.after_free c.rest c.keep c.whole
    where
      none_at : (after_free : Bool) (rest : List Unit) → KeepRules building image page after_free rest → page + total rest ≡ pages_of image → ⊥
      none_at after_free [] keep whole = absurd (omega (arith, whole, before))
      none_at after_free (v ∷ rest) keep whole = let e : None ≡ Some v = is building after_free keep.1 ∙ keep.0 in cc

  -- at the end all were counted
  pub counted_all : pages_of image ≤ page → Counted building image us page counts → counts ≡ page_counts us
  counted_all behind c = at c.after_free c.rest c.keep c.whole c.free c.files c.logs c.old
    where
      at : (after_free : Bool) (rest : List Unit) → KeepRules building image page after_free rest → page + total rest ≡ pages_of image
          → counts.free + total (filter is_free rest) ≡ total (filter is_free us) → counts.files + total (filter holds_file rest) ≡ total (filter holds_file us)
          → counts.logs + total (filter holds_log rest) ≡ total (filter holds_log us) → counts.old + total (filter is_old rest) ≡ total (filter is_old us)
          → counts ≡ page_counts us
      at after_free [] keep whole free files logs old =
          let a : counts.free ≡ total (filter is_free us) = omega (arith, free) in
          let b : counts.files ≡ total (filter holds_file us) = omega (arith, files) in
          let c : counts.logs ≡ total (filter holds_log us) = omega (arith, logs) in
          let d : counts.old ≡ total (filter is_old us) = omega (arith, old) in
          same_counts counts (page_counts us) a b c d
      at after_free (v ∷ rest) keep whole free files logs old = absurd (omega (arith, kept_some building image page after_free v keep.0 keep.1, whole, behind))
