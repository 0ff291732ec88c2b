-- The lines, each as three pieces.
use Rattle.std.proofs.Common.{ℕ, List, ◌++◌, refl}
use Rattle.std.specs.Prelude.{codes}
use Rattle.db_model.specs.declared.schemas.IndexKind.{IndexKind}
use Rattle.db_model.specs.declared.schemas.Schema.{Schema}
use Rattle.db_model.specs.Grammar.{kind_word}
use Rattle.db_model.specs.Keywords.{keyword_text}
use Rattle.db_model.specs.ReplyText.{line}
use Rattle.dump.proofs.LineTexts.{Parts}
use Rattle.run_look.specs.declared.pages.PageCounts.{PageCounts}
use Rattle.run_look.specs.Text.{attribute_text, counted_words, index_text, list_text, pages_line, rows_line, schema_text}

pub schema_parts : (s : Schema) → Parts (schema_text s) (codes "relation " ++ s.name ++ codes " (") (list_text attribute_text s.attributes) (codes ")")
schema_parts s = record { whole = refl }

pub rows_parts : (s : Schema) (live removed left : ℕ) → Parts (rows_line s live removed left)
    (schema_text s) (counted_words (codes " rows ") live) (line (counted_words (codes " removed ") removed ++ counted_words (codes " slots left ") left))
rows_parts s live removed left = record { whole = refl }

pub index_parts : (relation attribute : List ℕ) (kind : IndexKind) → Parts (index_text relation attribute kind)
    (codes "index " ++ relation ++ codes ".") attribute (codes " " ++ keyword_text (kind_word kind) ++ codes "\n")
index_parts relation attribute kind = record { whole = refl }

pub pages_parts : (sectors : ℕ) (p : PageCounts) → Parts (pages_line sectors p)
    (counted_words (codes "flash sectors ") sectors ++ counted_words (codes " pages free ") p.free) (counted_words (codes " in files ") p.files)
    (line (counted_words (codes " in logs ") p.logs ++ counted_words (codes " to be collected ") p.old))
pages_parts sectors p = record { whole = refl }
