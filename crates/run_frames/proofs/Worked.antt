-- Worked examples, computed over the definitions: frames, and what is served for them.
use Rattle.std.proofs.Common.{◌≡◌, refl, ap, ℕ, List, [], ◌∷◌, ◌++◌, pos, negsuc}
use Rattle.std.specs.Fmt.{digits}
use Rattle.std.specs.Prelude.{codes, replicate, Result, Ok, Err, if◌then◌else◌}
use Rattle.std.specs.Str.{bytes_eq}
use Rattle.db_model.specs.declared.commands.Command.{Command}
use Rattle.db_model.specs.declared.commands.Command.TheVariants.{CreateRelation, CreateAttribute, Insert, RemoveFrom, OpenCursor, FetchCursor}
use Rattle.db_model.specs.declared.commands.Query.TheVariants.{Select}
use Rattle.db_model.specs.declared.refusals.Refusal.{Refusal}
use Rattle.db_model.specs.declared.refusals.Refusal.TheVariants as no
use Rattle.db_model.specs.declared.schemas.DomainAsked.TheVariants as asked
use Rattle.db_model.specs.declared.values.Value.TheVariants as value
use Rattle.db_model.specs.Database.{Database, empty_database}
use Rattle.db_model.specs.ReplyText.{count_text, ok_text, refusal_text, row_text, text}
use Rattle.db_model.specs.Step.{after_all}
use Rattle.run_frames.specs.Frames.{Broken, Long, Asked, Unfinished, frames}
use Rattle.run_frames.specs.Served.{served}

-- ---- frames

abbrev broken_line : List ℕ
broken_line = 192 ∷ 192 ∷ 5 ∷ 65 ∷ 192 ∷ 1 ∷ 219 ∷ 65 ∷ 192 ∷ 1 ∷ 192 ∷ 1 ∷ 80 ∷ []

pub broken_frames : frames broken_line ≡ Broken ∷ Broken ∷ Asked 1 [] ∷ Unfinished ∷ []
broken_frames = refl

pub escapes : frames (2 ∷ 219 ∷ 220 ∷ 219 ∷ 221 ∷ 220 ∷ 192 ∷ 3 ∷ 219 ∷ 192 ∷ 219 ∷ 220 ∷ 192 ∷ []) ≡ Asked 2 (192 ∷ 219 ∷ 220 ∷ []) ∷ Broken ∷ Broken ∷ []
escapes = refl

pub long_frames : frames (1 ∷ replicate 512 65 ++ 192 ∷ 4 ∷ replicate 513 65 ++ 192 ∷ []) ≡ Asked 1 (replicate 512 65) ∷ Long 4 ∷ []
long_frames = refl

-- ---- replies to broken frames

pub broken_replies : (read : List ℕ → Result Command Refusal) (db : Database) → read [] ≡ Err (no.Syntax 0)
    → served read db (frames broken_line)
    ≡ (0 ∷ codes "no frame" ++ 10 ∷ 192 ∷ []) ++ (0 ∷ codes "no frame" ++ 10 ∷ 192 ∷ []) ++ (1 ∷ codes "no syntax 0" ++ 10 ∷ 192 ∷ []) ++ (0 ∷ codes "no unfinished" ++ 10 ∷ 192 ∷ [])
unfolding digits text refusal_text
broken_replies read db e =
    ap (λ r. (0 ∷ codes "no frame" ++ 10 ∷ 192 ∷ []) ++ (0 ∷ codes "no frame" ++ 10 ∷ 192 ∷ []) ++ served (λ bytes. r) db (Asked 1 [] ∷ Unfinished ∷ [])) e

-- ---- four clients

abbrev S : List ℕ
S = codes "s"

abbrev K : List ℕ
K = codes "k"

abbrev T : List ℕ
T = codes "t"

abbrev Z : List ℕ
Z = codes "z"

-- the relation s with k LONG and t STRING(3), and the rows 5, 'abc' and -1, ''
abbrev samples : Database
samples =
    after_all empty_database
    (CreateRelation S
    ∷ CreateAttribute K asked.Long S
    ∷ CreateAttribute T (asked.Str (pos 3)) S
    ∷ Insert (value.Number (pos 5) ∷ value.Text (codes "abc") ∷ []) S
    ∷ Insert (value.Number (negsuc 0) ∷ value.Text [] ∷ []) S
    ∷ [])

-- how the commands of the line are read
abbrev reader : List ℕ → Result Command Refusal
reader bytes =
    if bytes_eq bytes (codes "OPEN 1 SELECT k FROM s") then Ok (OpenCursor (pos 1) (Select (K ∷ []) S [])) else
    (if bytes_eq bytes (codes "INSERT (9, 'z') INTO s") then Ok (Insert (value.Number (pos 9) ∷ value.Text Z ∷ []) S) else
    (if bytes_eq bytes (codes "FETCH 1") then Ok (FetchCursor (pos 1)) else
    (if bytes_eq bytes (codes "FETCH 2") then Ok (FetchCursor (pos 2)) else
    (if bytes_eq bytes (codes "REMOVE FROM s") then Ok (RemoveFrom S []) else Err (no.Syntax 0)))))

-- a client, bytes and END
abbrev sent : ℕ → List ℕ → List ℕ
sent client bytes = client ∷ bytes ++ 192 ∷ []

abbrev clients_line : List ℕ
clients_line =
    sent 1 (codes "OPEN 1 SELECT k FROM s")
    ++ sent 2 (codes "INSERT (9, 'z') INTO s")
    ++ sent 2 (codes "OPEN 1 SELECT k FROM s")
    ++ sent 1 (codes "FETCH 1")
    ++ sent 2 (codes "FETCH 1")
    ++ sent 1 (codes "FETCH 1")
    ++ sent 1 (codes "FETCH 1")
    ++ sent 3 (codes "REMOVE FROM s")
    ++ sent 3 (codes "FETCH 1")
    ++ sent 1 (codes "FETCH 2")

abbrev clients_replies : List ℕ
clients_replies =
    sent 1 (codes "ok\n")
    ++ sent 2 (codes "ok\n")
    ++ sent 2 (codes "ok\n")
    ++ sent 1 (codes "5\nrows 1\n")
    ++ sent 2 (codes "5\nrows 1\n")
    ++ sent 1 (codes "-1\nrows 1\n")
    ++ sent 1 (codes "rows 0\n")
    ++ sent 3 (codes "no inuse 1\n")
    ++ sent 3 (codes "no cursor\n")
    ++ sent 1 (codes "no cursor\n")

pub four_clients : served reader samples (frames clients_line) ≡ clients_replies
unfolding digits text ok_text row_text count_text refusal_text
four_clients = refl
