-- What each write that is torn leaves.
use Rattle.std.proofs.Common.{◌≡◌, inl, inr, ℕ, ◌*◌, ◌≤◌, ◌<◌, true, List, length, None, Some, Result, Ok, Err, IsErrOf, OnErr, refl, subst, sym}
use Rattle.afl_base.specs.Cuts.{IsCutProgram}
use Rattle.afl_base.specs.Image.{or_at}
use Rattle.afl_base.specs.declared.ids.PageId.{PageId}
use Rattle.coffee_header.specs.Headers.{IsValid, header_bytes}
use Rattle.coffee_header.specs.declared.header.Header.{Header}
use Rattle.coffee_layout.specs.FileBytes.{file_byte}
use Rattle.coffee_layout.specs.Marks.{IsLowestRun, free_pages}
use Rattle.coffee_layout.specs.Tiling.{IsTiled, nowhere, units_of}
use Rattle.coffee_layout.specs.Walks.{has_few}
use Rattle.coffee_layout.specs.declared.file.FileAt.{FileAt}
use Rattle.coffee_layout.specs.declared.unit.Unit.{Unit}
use Rattle.coffee_merge.specs.CutMarks.{IsCutNaming, IsCutReplace, KeepsHead}
use Rattle.coffee_merge.specs.Holding.{Entries, HoldsTable, IsIn, KeepsContents, log_header}
use Rattle.coffee_merge.specs.Takes.{KeepsPagesBut}
use Rattle.coffee_merge.specs.Torn.{BreaksOff}
use Rattle.coffee_space.specs.Cutting.{IsCutCollection}

-- what is so of a failure, where there is this one
pub at_error : {T E P : Type 0} (r : Result T E) (e : E) → IsErrOf r e → OnErr r P → P
at_error (Ok x) e is holds = absurd (let n : ⊥ = cc in n)
at_error (Err f) e is holds = holds

module _ (old mid new : List ℕ) (table : Entries) (kept : KeepsContents old mid table) (long : length mid ≡ length old) where
  -- the header of an extent under construction in part
  pub torn_header : (page pages : ℕ) (h : Header) → HoldsTable mid table None → IsValid h → h.flags ≡ 2 → 1 ≤ pages → IsLowestRun (free_pages (units_of mid)) pages page
      → h.max_pages ≡ pages → IsCutProgram mid new (256 * page) (header_bytes h) → BreaksOff old new table
  torn_header page pages h holds valid begun some run is cut = record {
    whole = mid;
    long = long;
    draft = None;
    holds = holds;
    kept = kept;
    torn = inr (inl (
      refl,
      inr (inl (record {
        page = page;
        header = h;
        valid = valid;
        begun = begun;
        some = subst (λ n. 1 ≤ n) (sym is) some;
        run = subst (λ n. IsLowestRun (free_pages (units_of mid)) n page) (sym is) run;
        cut = cut;
      })),
    ));
  }

  -- the header of a log in part
  pub torn_log : (i : ℕ) (e : FileAt) (log : ℕ) → HoldsTable mid table None → IsIn table i e → e.log ≡ None
      → IsLowestRun (free_pages (units_of mid)) 16 log → IsCutProgram mid new (256 * log) (header_bytes (log_header e.name)) → BreaksOff old new table
  torn_log i e log holds there none run cut = record {
    whole = mid;
    long = long;
    draft = None;
    holds = holds;
    kept = kept;
    torn = inr (inl (refl, inr (inr (inl (record { place = i; e = e; log = log; there = there; none = none; run = run; cut = cut })))));
  }

  -- an extent under construction in part
  pub torn_draft : (d : FileAt) → HoldsTable mid table (Some d) → KeepsHead mid new d.page.0 → KeepsPagesBut mid new d.page.0 d.pages None → BreaksOff old new table
  torn_draft d holds head others = record {
    whole = mid;
    long = long;
    draft = Some d;
    holds = holds;
    kept = kept;
    torn = inr (inr (inl (record { d = d; is = refl; head = head; others = others })));
  }

  -- a file that is replaced in part
  pub torn_replacing : (d : FileAt) (i : ℕ) (e : FileAt) → HoldsTable mid table (Some d) → IsIn table i e → e.name ≡ d.name
      → d.kind ≡ e.kind → d.size ≡ e.size → (has_few e ≡ true → has_few d ≡ true) → ((p : ℕ) → p < e.size → file_byte mid d.page.0 None p ≡ file_byte mid e.page.0 e.log p)
      → IsCutReplace mid new d.page.0 e.page.0 e.log → BreaksOff old new table
  torn_replacing d i e holds there name kind size few same cut = record {
    whole = mid;
    long = long;
    draft = Some d;
    holds = holds;
    kept = kept;
    torn = inr (inr (inr (record {
      d = d;
      place = i;
      e = e;
      is = refl;
      there = there;
      name = name;
      kind = kind;
      size = size;
      few = few;
      same = same;
      cut = cut;
    })));
  }

  -- a log that is named in part
  pub torn_naming : (one : List ℕ) (i : ℕ) (e : FileAt) (log : PageId) → HoldsTable mid table None → IsIn table i e → e.log ≡ None
      → IsLowestRun (free_pages (units_of mid)) 16 log.0 → one ≡ or_at mid (256 * log.0) (header_bytes (log_header e.name))
      → IsCutNaming one new e.page.0 log.0 → BreaksOff old new table
  torn_naming one i e log holds there none run made cut = record {
    whole = mid;
    long = long;
    draft = None;
    holds = holds;
    kept = kept;
    torn = inr (inl (
      refl,
      inr (inr (inr (record {
        place = i;
        e = e;
        log = log;
        there = there;
        none = none;
        run = run;
        cut = subst (λ image. IsCutNaming image new e.page.0 log.0) made cut;
      }))),
    ));
  }

-- a collection that broke off
pub torn_collection : (old new : List ℕ) (table : Entries) → HoldsTable old table None
    → ((us : List Unit) → IsTiled nowhere old us → IsCutCollection nowhere old new us) → BreaksOff old new table
torn_collection old new table holds cut = record {
  whole = old;
  long = refl;
  draft = None;
  holds = holds;
  kept = λ i e is p within. refl;
  torn = inr (inl (refl, inl (record { cut = cut })));
}
