-- Worked examples, computed over the definitions: commands from the empty database on, and the replies to them.
use Rattle.std.proofs.Common.{◌≡◌, refl, ℕ, pos, negsuc, List, [], ◌∷◌, ◌++◌, Some, None}
use Rattle.std.specs.Prelude.{codes, replicate, map}
use Rattle.db_model.specs.declared.commands.Agg.TheVariants as agg
use Rattle.db_model.specs.declared.commands.Command.{Command}
use Rattle.db_model.specs.declared.commands.Command.TheVariants.{CreateRelation, CreateAttribute, CreateIndex, Insert, Ask, Aggregate, RemoveFrom, RemoveRelation, RemoveIndex, Pack, OpenCursor, FetchCursor, CloseCursor}
use Rattle.db_model.specs.declared.commands.Compare.{Compare}
use Rattle.db_model.specs.declared.commands.Compare.TheVariants.{Eq, Ne, Lt, Le, Gt, Ge}
use Rattle.db_model.specs.declared.commands.Query.TheVariants.{Select, Join}
use Rattle.db_model.specs.declared.refusals.Refusal.{Refusal}
use Rattle.db_model.specs.declared.refusals.Refusal.TheVariants as no
use Rattle.db_model.specs.declared.schemas.DomainAsked.TheVariants as asked
use Rattle.db_model.specs.declared.schemas.IndexKind.TheVariants.{Inline, MaxHeap, MemHash}
use Rattle.db_model.specs.declared.values.Value.{Value}
use Rattle.db_model.specs.declared.values.Value.TheVariants.{Number as num, Text as txt}
use Rattle.db_model.specs.Cond.{Cond, Expr, Tip, Arith, Number, Text, Attribute, Minus, Times, Over, Comparison, Not, And, Or, postfix}
use Rattle.db_model.specs.Database.{empty_database}
use Rattle.db_model.specs.Script.{Long, Unfinished, Bytes, commands}
use Rattle.db_model.specs.Step.{Reply, Fine, Rows, Numbers, Removed, Refused, replies}

-- ---- words for commands

abbrev A : List ℕ
A = codes "a"

abbrev K : List ℕ
K = codes "k"

abbrev L : List ℕ
L = codes "l"

abbrev M : List ℕ
M = codes "m"

abbrev N : List ℕ
N = codes "n"

abbrev Q : List ℕ
Q = codes "q"

abbrev R : List ℕ
R = codes "r"

abbrev S : List ℕ
S = codes "s"

abbrev T : List ℕ
T = codes "t"

abbrev V : List ℕ
V = codes "v"

abbrev X : List ℕ
X = codes "x"

abbrev Y : List ℕ
Y = codes "y"

abbrev Z : List ℕ
Z = codes "z"

abbrev n : ℕ → Value
n k = num (pos k)

-- -(k + 1)
abbrev minus : ℕ → Value
minus k = num (negsuc k)

-- the relation s with k LONG and t STRING(3)
abbrev samples : List Command
samples = CreateRelation S ∷ CreateAttribute K asked.Long S ∷ CreateAttribute T (asked.Str (pos 3)) S ∷ []

-- the relation n with v INT
abbrev numbers : List Command
numbers = CreateRelation N ∷ CreateAttribute V asked.Int N ∷ []

abbrev attribute : List ℕ → Expr
attribute name = Tip (Attribute name)

abbrev number : ℕ → Expr
number k = Tip (Number (pos k))

abbrev compare : List ℕ → Compare → ℕ → Cond
compare name how k = Comparison how (attribute name) (number k)

abbrev select : List (List ℕ) → List ℕ → Command
select list relation = Ask (Select list relation [])

abbrev select_where : List (List ℕ) → List ℕ → Cond → Command
select_where list relation c = Ask (Select list relation (postfix c))

abbrev insert_into : List ℕ → List Value → Command
insert_into relation values = Insert values relation

-- the replies that follow some first ones that are all `ok`
abbrev fine_then : ℕ → List Reply → List Reply
fine_then k rest = replicate k Fine ++ rest

abbrev refused : Refusal → Reply
refused = λ refusal. Refused refusal

abbrev run : List Command → List Reply
run cs = replies empty_database cs

-- ---- rows

pub texts_and_numbers :
    run (samples ++ insert_into S (n 5 ∷ txt (codes "abc") ∷ []) ∷ insert_into S (minus 0 ∷ txt [] ∷ []) ∷ select (T ∷ K ∷ []) S ∷ [])
    ≡ fine_then 5 (Rows ((txt (codes "abc") ∷ n 5 ∷ []) ∷ (txt [] ∷ minus 0 ∷ []) ∷ []) ∷ [])
texts_and_numbers = refl

pub int_limits :
    run (numbers ++ insert_into N (minus 32767 ∷ []) ∷ insert_into N (n 32767 ∷ []) ∷ insert_into N (n 32768 ∷ []) ∷ select (V ∷ []) N ∷ [])
    ≡ fine_then 4 (Refused (no.Value 1) ∷ Rows ((minus 32767 ∷ []) ∷ (n 32767 ∷ []) ∷ []) ∷ [])
int_limits = refl

pub unsuited_values :
    run (samples
    ++ insert_into S (n 1 ∷ txt (codes "abcd") ∷ [])
    ∷ insert_into S (txt (codes "x") ∷ txt (codes "y") ∷ [])
    ∷ insert_into S (n 1 ∷ [])
    ∷ insert_into S (n 1 ∷ txt (codes "a") ∷ n 2 ∷ [])
    ∷ [])
    ≡ fine_then 3 (Refused (no.Value 2) ∷ Refused (no.Value 1) ∷ Refused (no.Value 2) ∷ Refused (no.Value 3) ∷ [])
unsuited_values = refl

-- ---- indexes

pub equal_keys_in_order :
    run (samples
    ++ CreateIndex S K Inline
    ∷ map (λ k. insert_into S (n k ∷ txt [] ∷ [])) (1 ∷ 2 ∷ 2 ∷ 2 ∷ 5 ∷ [])
    ++ select_where (K ∷ []) S (And (compare K Ge 2) (compare K Le 2))
    ∷ [])
    ≡ fine_then 9 (Rows ((n 2 ∷ []) ∷ (n 2 ∷ []) ∷ (n 2 ∷ []) ∷ []) ∷ [])
equal_keys_in_order = refl

pub falling_key :
    run (CreateRelation Q
    ∷ CreateAttribute K asked.Long Q
    ∷ CreateAttribute M asked.Long Q
    ∷ CreateIndex Q K Inline
    ∷ CreateIndex Q M MaxHeap
    ∷ insert_into Q (n 50 ∷ n 9 ∷ [])
    ∷ insert_into Q (n 49 ∷ n 8 ∷ [])
    ∷ select_where (K ∷ []) Q (compare M Eq 8)
    ∷ select_where (K ∷ []) Q (compare M Eq 9)
    ∷ [])
    ≡ fine_then 6 (Refused (no.NotOrdered (pos 50)) ∷ Rows [] ∷ Rows ((n 50 ∷ []) ∷ []) ∷ [])
falling_key = refl

pub pack_and_index :
    run (samples
    ++ CreateIndex S K MaxHeap
    ∷ insert_into S (n 1 ∷ txt (codes "a") ∷ [])
    ∷ insert_into S (n 2 ∷ txt (codes "b") ∷ [])
    ∷ RemoveFrom S (postfix (compare K Eq 1))
    ∷ Pack S
    ∷ RemoveIndex S K
    ∷ Pack S
    ∷ select (K ∷ []) S
    ∷ RemoveIndex S K
    ∷ [])
    ≡ fine_then 6 (Removed 1 ∷ Refused no.HasIndex ∷ Fine ∷ Fine ∷ Rows ((n 2 ∷ []) ∷ []) ∷ Refused no.NoIndex ∷ [])
pack_and_index = refl

pub hash_table :
    run (numbers
    ++ CreateIndex N V MemHash
    ∷ map (λ k. insert_into N (n k ∷ [])) (4 ∷ 5 ∷ 4 ∷ [])
    ++ select_where (V ∷ []) N (And (compare V Eq 4) (compare V Lt 9))
    ∷ Aggregate ((agg.Count, V) ∷ []) N (postfix (And (compare V Eq 4) (compare V Eq 5)))
    ∷ Pack N
    ∷ RemoveIndex N V
    ∷ Pack N
    ∷ [])
    ≡ fine_then 6 (Rows ((n 4 ∷ []) ∷ (n 4 ∷ []) ∷ []) ∷ Numbers (Some (pos 0) ∷ []) ∷ Refused no.HasIndex ∷ Fine ∷ Fine ∷ [])
hash_table = refl

-- ---- cursors

abbrev open_and_fetch : List Command
open_and_fetch =
    samples
    ++ insert_into S (n 1 ∷ txt (codes "a") ∷ [])
    ∷ OpenCursor (pos 1) (Select (K ∷ []) S [])
    ∷ insert_into S (n 2 ∷ txt (codes "b") ∷ [])
    ∷ FetchCursor (pos 1)
    ∷ FetchCursor (pos 1)
    ∷ Aggregate ((agg.Count, K) ∷ []) S []
    ∷ []

abbrev opened_and_fetched : List Reply
opened_and_fetched = fine_then 6 (Rows ((n 1 ∷ []) ∷ []) ∷ Rows [] ∷ Numbers (Some (pos 2) ∷ []) ∷ [])

pub cursor_keeps_its_rows : run open_and_fetch ≡ opened_and_fetched
cursor_keeps_its_rows = refl

pub cursor_refusals :
    run (open_and_fetch
    ++ OpenCursor (pos 1) (Select (K ∷ []) S [])
    ∷ RemoveFrom S []
    ∷ CloseCursor (pos 1)
    ∷ RemoveFrom S []
    ∷ FetchCursor (pos 1)
    ∷ FetchCursor (pos 5)
    ∷ [])
    ≡ opened_and_fetched ++ Refused no.CursorOpen ∷ Refused (no.InUse 1) ∷ Fine ∷ Removed 2 ∷ Refused no.NoCursor ∷ Refused no.NoCursor ∷ []
cursor_refusals = refl

pub four_cursors :
    run (samples
    ++ insert_into S (n 1 ∷ txt (codes "a") ∷ [])
    ∷ OpenCursor (pos 1) (Select (K ∷ []) S [])
    ∷ OpenCursor (pos 4) (Select (T ∷ []) S [])
    ∷ insert_into S (n 2 ∷ txt (codes "b") ∷ [])
    ∷ FetchCursor (pos 4)
    ∷ FetchCursor (pos 1)
    ∷ FetchCursor (pos 1)
    ∷ OpenCursor (pos 2) (Select (K ∷ []) S [])
    ∷ FetchCursor (pos 2)
    ∷ FetchCursor (pos 2)
    ∷ RemoveRelation S
    ∷ CloseCursor (pos 1)
    ∷ Pack S
    ∷ FetchCursor (pos 5)
    ∷ OpenCursor (pos 2) (Select (K ∷ []) S [])
    ∷ CloseCursor (pos 3)
    ∷ [])
    ≡ fine_then
    7
    (Rows ((txt (codes "a") ∷ []) ∷ [])
    ∷ Rows ((n 1 ∷ []) ∷ [])
    ∷ Rows []
    ∷ Fine
    ∷ Rows ((n 1 ∷ []) ∷ [])
    ∷ Rows ((n 2 ∷ []) ∷ [])
    ∷ Refused (no.InUse 1)
    ∷ Fine
    ∷ Refused (no.InUse 2)
    ∷ Refused no.NoCursor
    ∷ Refused no.CursorOpen
    ∷ Refused no.NoCursor
    ∷ [])
four_cursors = refl

-- ---- conditions and aggregates

pub undefined_sides :
    run (numbers
    ++ insert_into N (n 0 ∷ [])
    ∷ insert_into N (n 2 ∷ [])
    ∷ select_where (V ∷ []) N (Comparison Gt (Arith Over (number 10) (attribute V)) (number 1))
    ∷ select_where (V ∷ []) N (Not (Comparison Gt (Arith Over (number 10) (attribute V)) (number 1)))
    ∷ [])
    ≡ fine_then 4 (Rows ((n 2 ∷ []) ∷ []) ∷ Rows ((n 0 ∷ []) ∷ []) ∷ [])
undefined_sides = refl

pub aggregates :
    run (numbers
    ++ map (λ k. insert_into N (n k ∷ [])) (4 ∷ 1 ∷ 3 ∷ 2 ∷ [])
    ++ Aggregate ((agg.Median, V) ∷ (agg.Sum, V) ∷ (agg.Count, V) ∷ []) N []
    ∷ Aggregate ((agg.Min, V) ∷ (agg.Sum, V) ∷ (agg.Count, V) ∷ []) N (postfix (compare V Gt 9))
    ∷ RemoveFrom N []
    ∷ insert_into N (minus 2 ∷ [])
    ∷ insert_into N (minus 3 ∷ [])
    ∷ Aggregate ((agg.Mean, V) ∷ []) N []
    ∷ [])
    ≡ fine_then
    6
    (Numbers (Some (pos 2) ∷ Some (pos 10) ∷ Some (pos 4) ∷ [])
    ∷ Numbers (None ∷ Some (pos 0) ∷ Some (pos 0) ∷ [])
    ∷ Removed 4
    ∷ Fine
    ∷ Fine
    ∷ Numbers (Some (negsuc 2) ∷ [])
    ∷ [])
aggregates = refl

pub arithmetic_and_texts :
    run (numbers
    ++ map (λ k. insert_into N (n k ∷ [])) (1 ∷ 2 ∷ 3 ∷ [])
    ++ select_where
    (V ∷ [])
    N
    (Or (Comparison Eq (Arith Minus (Arith Times (attribute V) (attribute V)) (number 1)) (number 3)) (Not (compare V Lt 3)))
    ∷ select_where (V ∷ []) N (And (Comparison Lt (Tip (Text (codes "b"))) (Tip (Text (codes "ba")))) (compare V Ne 2))
    ∷ [])
    ≡ fine_then 5 (Rows ((n 2 ∷ []) ∷ (n 3 ∷ []) ∷ []) ∷ Rows ((n 1 ∷ []) ∷ (n 3 ∷ []) ∷ []) ∷ [])
arithmetic_and_texts = refl

pub remove_and_pack :
    run (numbers
    ++ map (λ k. insert_into N (n k ∷ [])) (0 ∷ 1 ∷ 2 ∷ [])
    ++ RemoveFrom N (postfix (compare V Eq 1))
    ∷ select (V ∷ []) N
    ∷ RemoveFrom N (postfix (compare V Eq 1))
    ∷ Pack N
    ∷ select (V ∷ []) N
    ∷ [])
    ≡ fine_then 5 (Removed 1 ∷ Rows ((n 0 ∷ []) ∷ (n 2 ∷ []) ∷ []) ∷ Removed 0 ∷ Fine ∷ Rows ((n 0 ∷ []) ∷ (n 2 ∷ []) ∷ []) ∷ [])
remove_and_pack = refl

pub refusals_of_names :
    run (samples
    ++ select (K ∷ Z ∷ []) S
    ∷ select_where (K ∷ []) S (compare T Gt 3)
    ∷ Aggregate ((agg.Sum, T) ∷ []) S []
    ∷ select (K ∷ []) (codes "u")
    ∷ CreateIndex S T Inline
    ∷ CreateRelation S
    ∷ [])
    ≡ fine_then
    3
    (Refused (no.NoAttribute 2)
    ∷ Refused (no.IllTyped 2)
    ∷ Refused (no.IllTyped 1)
    ∷ Refused no.NoRelation
    ∷ Refused no.Domain
    ∷ Refused no.Exists
    ∷ [])
refusals_of_names = refl

-- ---- joins

abbrev two_relations : List Command
two_relations =
    CreateRelation L
    ∷ CreateAttribute A asked.Int L
    ∷ CreateAttribute X asked.Int L
    ∷ CreateRelation R
    ∷ CreateAttribute A asked.Int R
    ∷ CreateAttribute Y asked.Int R
    ∷ insert_into L (n 1 ∷ n 10 ∷ [])
    ∷ insert_into L (n 2 ∷ n 20 ∷ [])
    ∷ insert_into L (n 1 ∷ n 30 ∷ [])
    ∷ insert_into R (n 1 ∷ n 7 ∷ [])
    ∷ insert_into R (n 1 ∷ n 8 ∷ [])
    ∷ insert_into R (n 3 ∷ n 9 ∷ [])
    ∷ []

pub join_of_two :
    run (two_relations ++ Ask (Join L R A (X ∷ Y ∷ [])) ∷ [])
    ≡ fine_then 12 (Rows ((n 10 ∷ n 7 ∷ []) ∷ (n 10 ∷ n 8 ∷ []) ∷ (n 30 ∷ n 7 ∷ []) ∷ (n 30 ∷ n 8 ∷ []) ∷ []) ∷ [])
join_of_two = refl

pub join_by_cursor :
    run (two_relations
    ++ OpenCursor (pos 3) (Join L R A (A ∷ Y ∷ []))
    ∷ insert_into R (n 1 ∷ n 5 ∷ [])
    ∷ FetchCursor (pos 3)
    ∷ FetchCursor (pos 3)
    ∷ FetchCursor (pos 3)
    ∷ RemoveFrom R []
    ∷ [])
    ≡ fine_then 14 (Rows ((n 1 ∷ n 7 ∷ []) ∷ []) ∷ Rows ((n 1 ∷ n 8 ∷ []) ∷ []) ∷ Rows ((n 1 ∷ n 7 ∷ []) ∷ []) ∷ Refused (no.InUse 3) ∷ [])
join_by_cursor = refl

-- ---- times

pub times :
    run (numbers
    ++ insert_into N (n 5 ∷ [])
    ∷ insert_into N (n 6 ∷ [])
    ∷ CreateAttribute T asked.Time N
    ∷ CreateRelation M
    ∷ CreateAttribute T asked.Time M
    ∷ insert_into M (n 140737488355327 ∷ [])
    ∷ insert_into M (n 140737488355328 ∷ [])
    ∷ insert_into M (minus 0 ∷ [])
    ∷ CreateIndex M T MaxHeap
    ∷ CreateIndex M T Inline
    ∷ insert_into M (n 5 ∷ [])
    ∷ select_where (T ∷ []) M (compare T Gt 5)
    ∷ [])
    ≡ fine_then
    4
    (Refused no.NotEmpty
    ∷ Fine
    ∷ Fine
    ∷ Fine
    ∷ Refused (no.Value 1)
    ∷ Refused (no.Value 1)
    ∷ Refused no.Domain
    ∷ Fine
    ∷ Refused (no.NotOrdered (pos 140737488355327))
    ∷ Rows ((n 140737488355327 ∷ []) ∷ [])
    ∷ [])
times = refl

-- ---- scripts

pub no_semicolon : commands (codes "CREATE RELATION s") ≡ Unfinished ∷ []
no_semicolon = refl

pub empty_pieces : commands (codes ";; ;") ≡ []
empty_pieces = refl

pub quoted_semicolon : commands (codes " INSERT (1, ';') INTO s; SELECT t FROM s;") ≡ Bytes (codes "INSERT (1, ';') INTO s") ∷ Bytes (codes "SELECT t FROM s") ∷ []
quoted_semicolon = refl

-- a quote that a line feed ends
pub quote_to_the_end_of_a_line : commands (codes "a'" ++ 10 ∷ codes ";b;") ≡ Bytes (codes "a'" ++ 10 ∷ []) ∷ Bytes (codes "b") ∷ []
quote_to_the_end_of_a_line = refl

pub long_command : commands (replicate 513 120 ++ codes ";y;") ≡ Long ∷ Bytes (codes "y") ∷ []
long_command = refl

pub longest_command : commands (32 ∷ replicate 512 120 ++ codes ";") ≡ Bytes (replicate 512 120) ∷ []
longest_command = refl
