-- What a cut leaves of an image that holds a table of files: one that holds it still, of which one write, or one group of
-- marks, is torn.
use Rattle.std.specs.Prelude.{◌≡◌, ◌⊎◌, ℕ, ◌*◌, ◌≤◌, ◌<◌, true, List, length, Option, None, Some}
use Rattle.afl_base.specs.Cuts.{IsCutProgram}
use Rattle.afl_base.specs.Image.{or_at}
use Rattle.afl_base.specs.declared.ids.PageId.{PageId}
use Rattle.coffee_header.specs.Headers.{IsValid, header_bytes}
use Rattle.coffee_header.specs.declared.header.Header.{Header}
use Rattle.coffee_layout.specs.FileBytes.{file_byte}
use Rattle.coffee_layout.specs.Marks.{IsLowestRun, free_pages}
use Rattle.coffee_layout.specs.Tiling.{IsTiled, nowhere, units_of}
use Rattle.coffee_layout.specs.Walks.{has_few}
use Rattle.coffee_layout.specs.declared.file.FileAt.{FileAt}
use Rattle.coffee_layout.specs.declared.unit.Unit.{Unit}
use Rattle.coffee_merge.specs.CutMarks.{IsCutNaming, IsCutReplace, KeepsHead}
use Rattle.coffee_merge.specs.Holding.{Entries, HoldsTable, IsIn, KeepsContents, log_header}
use Rattle.coffee_merge.specs.Takes.{KeepsPagesBut}
use Rattle.coffee_space.specs.Cutting.{IsCutCollection}

-- a collection broke off
pub record TearsCollection (whole new : List ℕ) : Type 0 where
  pub cut : (us : List Unit) → IsTiled nowhere whole us → IsCutCollection nowhere whole new us

-- the header of an extent under construction is there in part, at the lowest run of as many free pages
pub record TearsHeader (whole new : List ℕ) : Type 0 where
  pub page : ℕ
  pub header : Header
  pub valid : IsValid header
  pub begun : header.flags ≡ 2
  pub some : 1 ≤ header.max_pages
  pub run : IsLowestRun (free_pages (units_of whole)) header.max_pages page
  pub cut : IsCutProgram whole new (256 * page) (header_bytes header)

-- the header of the log of a file that has none is there in part, at the lowest run of 16 free pages
pub record TearsLogHeader (whole new : List ℕ) (table : Entries) : Type 0 where
  pub place : ℕ
  pub e : FileAt
  pub log : ℕ
  pub there : IsIn table place e
  pub none : e.log ≡ None
  pub run : IsLowestRun (free_pages (units_of whole)) 16 log
  pub cut : IsCutProgram whole new (256 * log) (header_bytes (log_header e.name))

-- the extent under construction was written to: its header stands, and so do all pages of others
pub record TearsDraft (whole new : List ℕ) (draft : Option FileAt) : Type 0 where
  pub d : FileAt
  pub is : draft ≡ Some d
  pub head : KeepsHead whole new d.page.0
  pub others : KeepsPagesBut whole new d.page.0 d.pages None

-- the extent under construction takes the place of the file of its name, whose kind and bytes it has, in part;
-- its pages are no more than rule 13 allows where the file's are not
pub record TearsReplacing (whole new : List ℕ) (table : Entries) (draft : Option FileAt) : Type 0 where
  pub d : FileAt
  pub place : ℕ
  pub e : FileAt
  pub is : draft ≡ Some d
  pub there : IsIn table place e
  pub name : e.name ≡ d.name
  pub kind : d.kind ≡ e.kind
  pub size : d.size ≡ e.size
  pub few : has_few e ≡ true → has_few d ≡ true
  pub same : (p : ℕ) → p < e.size → file_byte whole d.page.0 None p ≡ file_byte whole e.page.0 e.log p
  pub cut : IsCutReplace whole new d.page.0 e.page.0 e.log

-- a log stands in the lowest run of 16 free pages, and its file, which had none, names it in part or not yet
pub record TearsNaming (whole new : List ℕ) (table : Entries) : Type 0 where
  pub place : ℕ
  pub e : FileAt
  pub log : PageId
  pub there : IsIn table place e
  pub none : e.log ≡ None
  pub run : IsLowestRun (free_pages (units_of whole)) 16 log.0
  pub cut : IsCutNaming (or_at whole (256 * log.0) (header_bytes (log_header e.name))) new e.page.0 log.0

-- a write is torn beside which no draft stands
abbrev pub IsTornAlone : (whole new : List ℕ) → Entries → Type 0
IsTornAlone whole new table = TearsCollection whole new ⊎ (TearsHeader whole new ⊎ (TearsLogHeader whole new table ⊎ TearsNaming whole new table))

-- nothing is torn, or such a write, or one that is the draft's
abbrev pub IsTorn : (whole new : List ℕ) → Entries → Option FileAt → Type 0
IsTorn whole new table draft = (new ≡ whole) ⊎ (((draft ≡ None) × IsTornAlone whole new table) ⊎ (TearsDraft whole new draft ⊎ TearsReplacing whole new table draft))

-- a call broke off: some image holds the files, with their content, and maybe a draft, and of it this is left
pub record BreaksOff (old new : List ℕ) (table : Entries) : Type 0 where
  pub whole : List ℕ
  pub draft : Option FileAt
  pub long : length whole ≡ length old
  pub holds : HoldsTable whole table draft
  pub kept : KeepsContents old whole table
  pub torn : IsTorn whole new table draft
