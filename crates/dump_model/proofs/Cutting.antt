-- A script of printed commands is cut into their texts.
use Rattle.std.proofs.Common.{◌≡◌, refl, sym, ap, ◌∙◌, ℕ, ◌+◌, ◌*◌, ◌<◌, ◌≤◌, ◌^◌, Bool, true, false, List, [], ◌∷◌, ◌++◌, length, map, flat_map, append_assoc, append-nil, length-append, arith, cond, pos, negsuc, suc}
use Rattle.std.specs.Prelude.{codes, decimal, IsTrue, is_some, not, nat_lt, nat_le, ◌&&◌, ◌==◌, if◌then◌else◌}
use Rattle.std.specs.Char.{is_ascii_alphabetic, is_ascii_digit}
use Rattle.std.specs.List.{list_all, AllByRecursion}
use Rattle.std.proofs.lemmas.Bool.Decides.{nat_tests}
use Rattle.std.proofs.lemmas.Fmt.{length-decimal-le}
use Rattle.std.proofs.lemmas.List.Concat.{flat_map-cons}
use Rattle.db_model.specs.declared.commands.Command.{Command}
use Rattle.db_model.specs.declared.commands.Command.TheVariants.{CreateRelation, CreateAttribute, CreateIndex, Insert}
use Rattle.db_model.specs.declared.schemas.DomainAsked.{DomainAsked}
use Rattle.db_model.specs.declared.schemas.DomainAsked.TheVariants as asked
use Rattle.db_model.specs.declared.schemas.IndexKind.{IndexKind}
use Rattle.db_model.specs.declared.schemas.IndexKind.TheVariants as kind
use Rattle.db_model.specs.declared.values.Value.{Value}
use Rattle.db_model.specs.declared.values.Value.TheVariants as value
use Rattle.db_model.specs.Grammar.{kind_word}
use Rattle.db_model.specs.Keywords.{keyword_text, keyword_of}
use Rattle.db_model.specs.Names.{is_name, is_word, is_word_byte, is_text, is_text_byte}
use Rattle.db_model.specs.ReplyText.{value_text}
use Rattle.db_model.specs.Pieces.{entries_after}
use Rattle.db_model.specs.Script.{Long, Bytes, ended, unended, past_white, quoted_after, commands, finished, whole}
use Rattle.db_model.proofs.Cutting.{commands_after}
use Rattle.dump_model.specs.Made.{IsShortText}
use Rattle.dump_model.specs.Script.{command_line, command_text, domain_text, values_text}
use Rattle.dump_model.proofs.Lexing.{false_true, and_left, and_right, IsPrintedValue, digits}
use Rattle.dump_model.proofs.Texts.{IsPrinted, IsPrintedDomain, ArePrintedValues}

-- ---- texts that no `;` ends

-- behind any piece so far that stands outside quotes, the bytes belong to it, and leave it outside
abbrev IsClosed : List ℕ → Type 0
IsClosed w = (piece rest : List ℕ) → entries_after false piece (w ++ rest) ≡ entries_after false (piece ++ w) rest

closed-append : (xs ys : List ℕ) → IsClosed xs → IsClosed ys → IsClosed (xs ++ ys)
closed-append xs ys h i = λ piece rest.
    ap (λ bs. entries_after false piece bs) (append_assoc xs ys rest)
    ∙ h piece (ys ++ rest)
    ∙ i (piece ++ xs) rest
    ∙ ap (λ p. entries_after false p rest) (append_assoc piece xs ys)

-- neither `;` nor a quote
abbrev is_plain : ℕ → Bool
is_plain b = not (b == 59) && not (b == 39)

closed-byte : (b : ℕ) → is_plain b ≡ true → IsClosed (b ∷ [])
closed-byte b plain = λ piece rest.
    let other : (b == 59) ≡ false = grind (arith, nat_tests) in
    let open_ : (b == 39) ≡ false = grind (arith, nat_tests) in
    ap (λ t. cond t (ended (past_white piece) ++ entries_after false [] rest) (entries_after (b == 39) (piece ++ b ∷ []) rest)) other
    ∙ ap (λ t. entries_after t (piece ++ b ∷ []) rest) open_

closed_run : (p : ℕ → Bool) → ((b : ℕ) → p b ≡ true → is_plain b ≡ true) → (w : List ℕ) → IsTrue (list_all p w) → IsClosed w
closed_run p plain [] all = λ piece rest. ap (λ q. entries_after false q rest) (sym (append-nil piece))
closed_run p plain (b ∷ bs) all =
    closed-append (b ∷ []) bs (closed-byte b (plain b (and_left (p b) (list_all p bs) all))) (closed_run p plain bs (and_right (p b) (list_all p bs) all))

closed_plain : (w : List ℕ) → IsTrue (list_all is_plain w) → IsClosed w
closed_plain w all = closed_run is_plain (λ b h. h) w all

word_plain : (b : ℕ) → is_word_byte b ≡ true → is_plain b ≡ true
word_plain b h = grind (arith, nat_tests)

letter_plain : (b : ℕ) → is_ascii_alphabetic b ≡ true → is_plain b ≡ true
letter_plain b h = grind (arith, nat_tests)

digit_plain : (b : ℕ) → is_ascii_digit b ≡ true → is_plain b ≡ true
digit_plain b h = grind (arith, nat_tests)

closed-word : (w : List ℕ) → IsTrue (is_word w) → IsClosed w
closed-word [] word = absurd (false_true word)
closed-word (b ∷ bs) word =
    let front = and_left (nat_le (length bs) 14 && is_ascii_alphabetic b) (list_all is_word_byte bs) word in
    closed-append (b ∷ []) bs (closed-byte b (letter_plain b (and_right (nat_le (length bs) 14) (is_ascii_alphabetic b) front)))
    (closed_run is_word_byte word_plain bs (and_right (nat_le (length bs) 14 && is_ascii_alphabetic b) (list_all is_word_byte bs) word))

short-word : (w : List ℕ) → IsTrue (is_word w) → length w ≤ 15
short-word [] word = absurd (false_true word)
short-word (b ∷ bs) word =
    let few = and_left (nat_le (length bs) 14) (is_ascii_alphabetic b) (and_left (nat_le (length bs) 14 && is_ascii_alphabetic b) (list_all is_word_byte bs) word) in
    let less : length bs ≤ 14 = grind (arith, nat_tests) in
    omega (arith, less)

name_word : (w : List ℕ) → IsTrue (is_name w) → IsTrue (is_word w)
name_word w h = and_left (is_word w) (not (is_some (keyword_of w))) h

closed-name : (w : List ℕ) → IsTrue (is_name w) → IsClosed w
closed-name w h = closed-word w (name_word w h)

short-name : (w : List ℕ) → IsTrue (is_name w) → length w ≤ 15
short-name w h = short-word w (name_word w h)

closed-number : (n : ℕ) → n < 10 ^ 18 → IsClosed (decimal n)
closed-number n small = closed_run is_ascii_digit digit_plain (decimal n) (digits n small).all

-- inside quotes
stays_quoted : (bytes piece rest : List ℕ) → IsTrue (list_all is_text_byte bytes) → entries_after true piece (bytes ++ rest) ≡ entries_after true (piece ++ bytes) rest
stays_quoted [] piece rest all = ap (λ q. entries_after true q rest) (sym (append-nil piece))
stays_quoted (b ∷ bs) piece rest all =
    let text = and_left (is_text_byte b) (list_all is_text_byte bs) all in
    let stays : quoted_after true b ≡ true = grind (arith, nat_tests) in
    ap (λ t. entries_after t (piece ++ b ∷ []) (bs ++ rest)) stays
    ∙ stays_quoted bs (piece ++ b ∷ []) rest (and_right (is_text_byte b) (list_all is_text_byte bs) all)
    ∙ ap (λ q. entries_after true q rest) (append_assoc piece (b ∷ []) bs)

closed-quoted : (bytes : List ℕ) → IsTrue (is_text bytes) → IsClosed (39 ∷ bytes ++ 39 ∷ [])
closed-quoted bytes text = λ piece rest.
    ap (λ bs. entries_after true (piece ++ 39 ∷ []) bs) (append_assoc bytes (39 ∷ []) rest)
    ∙ stays_quoted bytes (piece ++ 39 ∷ []) (39 ∷ rest) (and_right (nat_le (length bytes) 32) (list_all is_text_byte bytes) text)
    ∙ ap (λ q. entries_after false q rest) (append_assoc (piece ++ 39 ∷ []) bytes (39 ∷ []) ∙ append_assoc piece (39 ∷ []) (bytes ++ 39 ∷ []))

-- ---- texts that are closed, and how long they are

record Fits (n : ℕ) (w : List ℕ) : Type 0 where
  closed : IsClosed w
  short : length w ≤ n

fits_word : (n : ℕ) (w : List ℕ) → IsTrue (list_all is_plain w) → length w ≤ n → Fits n w
fits_word n w plain short = record { closed = closed_plain w plain; short = short }

fits-append : (m n : ℕ) (xs ys : List ℕ) → Fits m xs → Fits n ys → Fits (m + n) (xs ++ ys)
fits-append m n xs ys h i = record { closed = closed-append xs ys h.closed i.closed; short = omega (arith, length-append xs ys, h.short, i.short) }

fits-name : (w : List ℕ) → IsTrue (is_name w) → Fits 15 w
fits-name w h = record { closed = closed-name w h; short = short-name w h }

fits-number : (n : ℕ) → n < 10 ^ 18 → Fits 18 (decimal n)
fits-number n small = record { closed = closed-number n small; short = length-decimal-le 18 n (omega arith) small (omega arith) }

fits-text : (bytes : List ℕ) → IsTrue (is_text bytes) → Fits 34 (39 ∷ bytes ++ 39 ∷ [])
fits-text bytes text =
    let few = and_left (nat_le (length bytes) 32) (list_all is_text_byte bytes) text in
    let less : length bytes ≤ 32 = grind (arith, nat_tests) in
    record { closed = closed-quoted bytes text; short = omega (arith, less, length-append bytes (39 ∷ [])) }

fits_less : (m n : ℕ) (w : List ℕ) → m ≤ n → Fits m w → Fits n w
fits_less m n w le h = record { closed = h.closed; short = omega (arith, le, h.short) }

fits-value : (v : Value) → IsPrintedValue v → Fits 34 (value_text v)
fits-value (value.Number (pos n)) small = fits_less 18 34 _ (omega arith) (fits-number n small)
fits-value (value.Number (negsuc n)) small = fits_less 19 34 _ (omega arith) (fits-append 1 18 (45 ∷ []) (decimal (suc n)) (fits_word 1 (45 ∷ []) refl (omega arith)) (fits-number (suc n) small))
fits-value (value.Text bytes) text = fits-text bytes text

fits-values : (v : Value) (values : List Value) → IsPrintedValue v → AllByRecursion IsPrintedValue values → Fits (36 * length (v ∷ values)) (values_text (v ∷ values))
fits-values v [] printed all = fits_less 34 (36 * length (v ∷ [])) _ (omega arith) (fits-value v printed)
fits-values v (w ∷ values) printed all =
    fits_less (34 + (2 + 36 * length (w ∷ values))) (36 * length (v ∷ w ∷ values)) _ (omega arith)
    (fits-append 34 _ (value_text v) _ (fits-value v printed) (fits-append 2 _ (44 ∷ 32 ∷ []) _ (fits_word 2 (44 ∷ 32 ∷ []) refl (omega arith)) (fits-values w values all.0 all.1)))

-- a text, a space and a text
fits-space : (m n : ℕ) (xs ys : List ℕ) → Fits m xs → Fits n ys → Fits (m + (1 + n)) (xs ++ 32 ∷ ys)
fits-space m n xs ys h i = fits-append m (1 + n) xs (32 ∷ ys) h (fits-append 1 n (32 ∷ []) ys (fits_word 1 (32 ∷ []) refl (omega arith)) i)

fits-domain : (domain : DomainAsked) → IsPrintedDomain domain → Fits 26 (domain_text domain)
fits-domain asked.Int printed = fits_word 26 (codes "INT") refl (omega arith)
fits-domain asked.Long printed = fits_word 26 (codes "LONG") refl (omega arith)
fits-domain asked.Time printed = fits_word 26 (codes "TIME") refl (omega arith)
fits-domain (asked.Str (pos n)) small =
    fits_less (7 + 18 + 1) 26 _ (omega arith) (fits-append (7 + 18) 1 (codes "STRING(" ++ decimal n) (41 ∷ []) (fits-append 7 18 (codes "STRING(") (decimal n) (fits_word 7 (codes "STRING(") refl (omega arith)) (fits-number n small)) (fits_word 1 (41 ∷ []) refl (omega arith)))
fits-domain (asked.Str (negsuc n)) printed = absurd printed

fits-kind : (k : IndexKind) → Fits 7 (keyword_text (kind_word k))
fits-kind kind.Inline = fits_word 7 (codes "INLINE") refl (omega arith)
fits-kind kind.MaxHeap = fits_word 7 (codes "MAXHEAP") refl (omega arith)
fits-kind kind.MemHash = fits_word 7 (codes "MEMHASH") refl (omega arith)

fits-values_of : (values : List Value) → ArePrintedValues values → Fits 288 (values_text values)
fits-values_of [] printed = absurd printed
fits-values_of (v ∷ values) printed = fits_less (36 * length (v ∷ values)) 288 _ (omega (arith, printed.2)) (fits-values v values printed.0 printed.1)

fits-command : (c : Command) → IsPrinted c → Fits 512 (command_text c)
fits-command (CreateRelation relation) h =
    fits_less _ 512 _ (omega arith)
    (fits-space 6 _ (codes "CREATE") _ (fits_word 6 (codes "CREATE") refl (omega arith)) (fits-space 8 15 (codes "RELATION") relation (fits_word 8 (codes "RELATION") refl (omega arith)) (fits-name relation h)))
fits-command (CreateAttribute name domain relation) h =
    fits_less _ 512 _ (omega arith)
    (fits-space 6 _ (codes "CREATE") _ (fits_word 6 (codes "CREATE") refl (omega arith))
    (fits-space 9 _ (codes "ATTRIBUTE") _ (fits_word 9 (codes "ATTRIBUTE") refl (omega arith))
    (fits-space 15 _ name _ (fits-name name h.0)
    (fits-space 6 _ (codes "DOMAIN") _ (fits_word 6 (codes "DOMAIN") refl (omega arith))
    (fits-space 26 _ (domain_text domain) _ (fits-domain domain h.1) (fits-space 2 15 (codes "IN") relation (fits_word 2 (codes "IN") refl (omega arith)) (fits-name relation h.2)))))))
fits-command (CreateIndex relation attribute kind) h =
    fits_less _ 512 _ (omega arith)
    (fits-space 6 _ (codes "CREATE") _ (fits_word 6 (codes "CREATE") refl (omega arith))
    (fits-space 5 _ (codes "INDEX") _ (fits_word 5 (codes "INDEX") refl (omega arith))
    (fits-space _ _ (relation ++ 46 ∷ attribute) _
    (fits-append 15 (1 + 15) relation (46 ∷ attribute) (fits-name relation h.0) (fits-append 1 15 (46 ∷ []) attribute (fits_word 1 (46 ∷ []) refl (omega arith)) (fits-name attribute h.1)))
    (fits-space 4 7 (codes "TYPE") _ (fits_word 4 (codes "TYPE") refl (omega arith)) (fits-kind kind)))))
fits-command (Insert values relation) h =
    fits_less _ 512 _ (omega arith)
    (fits-space 6 _ (codes "INSERT") _ (fits_word 6 (codes "INSERT") refl (omega arith))
    (fits-space _ _ (40 ∷ values_text values ++ 41 ∷ []) _
    (fits-append 1 (288 + 1) (40 ∷ []) (values_text values ++ 41 ∷ []) (fits_word 1 (40 ∷ []) refl (omega arith)) (fits-append 288 1 (values_text values) (41 ∷ []) (fits-values_of values h.0) (fits_word 1 (41 ∷ []) refl (omega arith))))
    (fits-space 4 15 (codes "INTO") relation (fits_word 4 (codes "INTO") refl (omega arith)) (fits-name relation h.1))))
fits-command _ h = absurd h

-- ---- the cut

-- a text begins with no white space
begun : (c : Command) → IsPrinted c → (past_white (command_text c) ≡ command_text c) × (ended (command_text c) ≡ cond (nat_lt 512 (length (command_text c))) (Long ∷ []) (Bytes (command_text c) ∷ []))
begun (CreateRelation relation) h = (refl, refl)
begun (CreateAttribute name domain relation) h = (refl, refl)
begun (CreateIndex relation attribute kind) h = (refl, refl)
begun (Insert values relation) h = (refl, refl)
begun _ h = absurd h

-- white space before a text is dropped
abbrev IsWhite : List ℕ → Type 0
IsWhite p = (w : List ℕ) → past_white (p ++ w) ≡ past_white w

-- a command with its `;` and LF
cut_line : (p : List ℕ) → IsWhite p → (c : Command) (rest : List ℕ) → IsPrinted c → entries_after false p (command_line c ++ rest) ≡ Bytes (command_text c) ∷ entries_after false (10 ∷ []) rest
unfolding command_line
cut_line p white c rest h =
    let f = fits-command c h in
    let b = begun c h in
    let few : nat_lt 512 (length (command_text c)) ≡ false = let e = f.short in grind (arith, nat_tests) in
    ap (λ bs. entries_after false p bs) (append_assoc (command_text c) (59 ∷ 10 ∷ []) rest)
    ∙ f.closed p (59 ∷ 10 ∷ rest)
    ∙ ap (λ q. ended q ++ entries_after false (10 ∷ []) rest) (white (command_text c) ∙ b.0)
    ∙ ap (λ es. es ++ entries_after false (10 ∷ []) rest) (b.1 ∙ ap (λ t. cond t (Long ∷ []) (Bytes (command_text c) ∷ [])) few)

cut_lines : (p : List ℕ) → IsWhite p → (cs : List Command) → AllByRecursion IsPrinted cs → entries_after false p (flat_map command_line cs) ≡ map (λ c. Bytes (command_text c)) cs
cut_lines p white [] h = ap (λ q. unended (past_white q)) (sym (append-nil p)) ∙ ap unended (white [])
cut_lines p white (c ∷ cs) h =
    ap (λ bs. entries_after false p bs) (flat_map-cons command_line c cs)
    ∙ cut_line p white c (flat_map command_line cs) h.0
    ∙ ap (λ es. Bytes (command_text c) ∷ es) (cut_lines (10 ∷ []) (λ w. refl) cs h.1)

pub lines_cut : (cs : List Command) → AllByRecursion IsPrinted cs → commands (flat_map command_line cs) ≡ map (λ c. Bytes (command_text c)) cs
lines_cut cs h = commands_after (flat_map command_line cs) ∙ cut_lines [] (λ w. refl) cs h

finished_texts : (cs : List Command) → finished (map (λ c. Bytes (command_text c)) cs) ≡ map (λ c. Bytes (command_text c)) cs
finished_texts [] = refl
finished_texts (c ∷ cs) = ap (λ es. Bytes (command_text c) ∷ es) (finished_texts cs)

-- the last text is ended too
pub lines_whole : (cs : List Command) → AllByRecursion IsPrinted cs → whole (flat_map command_line cs) ≡ commands (flat_map command_line cs)
lines_whole cs h = ap finished (lines_cut cs h) ∙ finished_texts cs ∙ sym (lines_cut cs h)

pub lines_short : (cs : List Command) → AllByRecursion IsPrinted cs → AllByRecursion IsShortText cs
lines_short [] h = tt
lines_short (c ∷ cs) h = ((fits-command c h.0).short, lines_short cs h.1)
