-- The text of a command spells the command.
use Rattle.std.proofs.Common.{refl, sym, subst, ℕ, ◌<◌, ◌≤◌, ◌^◌, List, [], ◌∷◌, ◌++◌, length, append_assoc, append-nil, pos, negsuc}
use Rattle.std.specs.Prelude.{codes, decimal, IsTrue, ⊤}
use Rattle.std.specs.List.{AllByRecursion}
use Rattle.db_model.specs.declared.commands.Command.{Command}
use Rattle.db_model.specs.declared.commands.Command.TheVariants.{CreateRelation, CreateAttribute, CreateIndex, Insert}
use Rattle.db_model.specs.declared.schemas.DomainAsked.{DomainAsked}
use Rattle.db_model.specs.declared.schemas.DomainAsked.TheVariants as asked
use Rattle.db_model.specs.declared.schemas.IndexKind.{IndexKind}
use Rattle.db_model.specs.declared.schemas.IndexKind.TheVariants as kind
use Rattle.db_model.specs.declared.tokens.Keyword.TheVariants.{KCREATE, KRELATION, KATTRIBUTE, KINDEX, KDOMAIN, KINT, KLONG, KSTRING, KIN, KTYPE, KINLINE, KMAXHEAP, KMEMHASH, KINSERT, KINTO}
use Rattle.db_model.specs.declared.tokens.Sign.TheVariants.{LeftBracket, RightBracket, Dot}
use Rattle.db_model.specs.declared.tokens.Token.{Token}
use Rattle.db_model.specs.declared.tokens.Token.TheVariants.{Word, Name, Number, Sign as Signed}
use Rattle.db_model.specs.declared.values.Value.{Value}
use Rattle.db_model.specs.Grammar.{IsDomain, int, long, time, string, kind_word, Spells, create_relation, create_attribute, create_index, insert}
use Rattle.db_model.specs.Names.{is_name, is_word_byte}
use Rattle.db_model.specs.Keywords.{keyword_text, keyword_of, keywords}
use Rattle.db_model.specs.Spelling.{IsSpelt}
use Rattle.dump_model.specs.Script.{command_text, domain_text, values_text}
use Rattle.dump_model.proofs.Lexing.{Lexes, lexes-nil, lexes-space, lexes-keyword, lexes-name, lexes-open, lexes-close, lexes-dot, lexes-number, stops, IsPrintedValue, reads_values}

-- ---- which commands have a text

abbrev pub IsPrintedDomain : DomainAsked → Type 0
IsPrintedDomain asked.Int = ⊤
IsPrintedDomain asked.Long = ⊤
IsPrintedDomain asked.Time = ⊤
IsPrintedDomain (asked.Str (pos n)) = n < 10 ^ 18
IsPrintedDomain (asked.Str (negsuc n)) = ⊥

-- 1 to 8 values
abbrev pub ArePrintedValues : List Value → Type 0
ArePrintedValues [] = ⊥
ArePrintedValues (v ∷ values) = IsPrintedValue v × AllByRecursion IsPrintedValue values × (length (v ∷ values) ≤ 8)

-- names that are AQL names, numbers of at most 18 digits, and texts
abbrev pub IsPrinted : Command → Type 0
IsPrinted (CreateRelation relation) = IsTrue (is_name relation)
IsPrinted (CreateAttribute name domain relation) = IsTrue (is_name name) × IsPrintedDomain domain × IsTrue (is_name relation)
IsPrinted (CreateIndex relation attribute kind) = IsTrue (is_name relation) × IsTrue (is_name attribute)
IsPrinted (Insert values relation) = ArePrintedValues values × IsTrue (is_name relation)
IsPrinted _ = ⊥

-- ---- spelling

spelt : (c : Command) (bytes : List ℕ) (ts : List Token) → Lexes bytes ts → Spells c ts → IsSpelt c bytes
spelt c bytes ts lexes spells = record { whole = lexes.whole 0; spelling = subst (Spells c) (sym (lexes.items 0)) spells }

-- a name at the end
last_name : (name : List ℕ) → IsTrue (is_name name) → Lexes name (Name name ∷ [])
last_name name h = subst (λ bs. Lexes bs (Name name ∷ [])) (append-nil name) (lexes-name name [] [] h refl lexes-nil)

record ReadsDomain (domain : DomainAsked) : Type 0 where
  tokens : List Token
  is : IsDomain domain tokens
  lexes : (rest : List ℕ) (ts : List Token) → IsTrue (stops is_word_byte rest) → Lexes rest ts → Lexes (domain_text domain ++ rest) (tokens ++ ts)

reads_domain : (domain : DomainAsked) → IsPrintedDomain domain → ReadsDomain domain
unfolding keyword_of keywords
reads_domain asked.Int printed = record { tokens = Word KINT ∷ []; is = int; lexes = λ rest ts stop h. lexes-keyword KINT rest ts stop h }
reads_domain asked.Long printed = record { tokens = Word KLONG ∷ []; is = long; lexes = λ rest ts stop h. lexes-keyword KLONG rest ts stop h }
reads_domain asked.Time printed = record { tokens = Name (codes "TIME") ∷ []; is = time (codes "TIME") refl; lexes = λ rest ts stop h. lexes-name (codes "TIME") rest ts refl stop h }
reads_domain (asked.Str (pos n)) small = record {
  tokens = Word KSTRING ∷ Signed LeftBracket ∷ Number (pos n) ∷ Signed RightBracket ∷ [];
  is = string (pos n);
  lexes = λ rest ts stop h.
      subst
      (λ bs. Lexes (codes "STRING(" ++ bs) (Word KSTRING ∷ Signed LeftBracket ∷ Number (pos n) ∷ Signed RightBracket ∷ ts))
      (sym (append_assoc (decimal n) (41 ∷ []) rest))
      (lexes-keyword KSTRING _ _ refl (lexes-open _ _ (lexes-number n _ _ small refl (lexes-close _ _ h))));
}
reads_domain (asked.Str (negsuc n)) printed = absurd printed

reads_kind : (k : IndexKind) → Lexes (keyword_text (kind_word k)) (Word (kind_word k) ∷ [])
reads_kind kind.Inline = lexes-keyword KINLINE [] [] refl lexes-nil
reads_kind kind.MaxHeap = lexes-keyword KMAXHEAP [] [] refl lexes-nil
reads_kind kind.MemHash = lexes-keyword KMEMHASH [] [] refl lexes-nil

spelt_relation : (relation : List ℕ) → IsTrue (is_name relation) → IsSpelt (CreateRelation relation) (command_text (CreateRelation relation))
spelt_relation relation h =
    spelt (CreateRelation relation) _ _
    (lexes-keyword KCREATE _ _ refl (lexes-space _ _ (lexes-keyword KRELATION _ _ refl (lexes-space _ _ (last_name relation h)))))
    (create_relation relation)

spelt_attribute : (name : List ℕ) (domain : DomainAsked) (relation : List ℕ) → IsTrue (is_name name) → IsPrintedDomain domain → IsTrue (is_name relation) → IsSpelt (CreateAttribute name domain relation) (command_text (CreateAttribute name domain relation))
spelt_attribute name domain relation h printed i =
    let d = reads_domain domain printed in
    spelt (CreateAttribute name domain relation) _ _
    (lexes-keyword KCREATE _ _ refl (lexes-space _ _ (lexes-keyword KATTRIBUTE _ _ refl (lexes-space _ _
    (lexes-name name _ _ h refl (lexes-space _ _ (lexes-keyword KDOMAIN _ _ refl (lexes-space _ _
    (d.lexes _ _ refl (lexes-space _ _ (lexes-keyword KIN _ _ refl (lexes-space _ _ (last_name relation i)))))))))))))
    (create_attribute name domain relation d.tokens d.is)

spelt_index : (relation attribute : List ℕ) (k : IndexKind) → IsTrue (is_name relation) → IsTrue (is_name attribute) → IsSpelt (CreateIndex relation attribute k) (command_text (CreateIndex relation attribute k))
spelt_index relation attribute k h i =
    let behind = 32 ∷ (codes "TYPE" ++ (32 ∷ keyword_text (kind_word k))) in
    let place : Lexes ((relation ++ 46 ∷ attribute) ++ behind) (Name relation ∷ Signed Dot ∷ Name attribute ∷ Word KTYPE ∷ Word (kind_word k) ∷ []) =
    subst (λ bs. Lexes bs (Name relation ∷ Signed Dot ∷ Name attribute ∷ Word KTYPE ∷ Word (kind_word k) ∷ [])) (sym (append_assoc relation (46 ∷ attribute) behind))
    (lexes-name relation _ _ h refl (lexes-dot _ _ (lexes-name attribute _ _ i refl (lexes-space _ _ (lexes-keyword KTYPE _ _ refl (lexes-space _ _ (reads_kind k))))))) in
    spelt (CreateIndex relation attribute k) _ _
    (lexes-keyword KCREATE _ _ refl (lexes-space _ _ (lexes-keyword KINDEX _ _ refl (lexes-space _ _ place))))
    (create_index relation attribute k)

spelt_insert : (v : Value) (values : List Value) (relation : List ℕ) → ArePrintedValues (v ∷ values) → IsTrue (is_name relation) → IsSpelt (Insert (v ∷ values) relation) (command_text (Insert (v ∷ values) relation))
spelt_insert v values relation printed i =
    let r = reads_values v values printed.0 printed.1 in
    let behind = 32 ∷ (codes "INTO" ++ (32 ∷ relation)) in
    let list : Lexes ((values_text (v ∷ values) ++ 41 ∷ []) ++ behind) (r.tokens ++ Signed RightBracket ∷ Word KINTO ∷ Name relation ∷ []) =
    subst (λ bs. Lexes bs (r.tokens ++ Signed RightBracket ∷ Word KINTO ∷ Name relation ∷ [])) (sym (append_assoc (values_text (v ∷ values)) (41 ∷ []) behind))
    (r.lexes _ _ refl (lexes-close _ _ (lexes-space _ _ (lexes-keyword KINTO _ _ refl (lexes-space _ _ (last_name relation i)))))) in
    spelt (Insert (v ∷ values) relation) _ _
    (lexes-keyword KINSERT _ _ refl (lexes-space _ _ (lexes-open _ _ list)))
    (insert (v ∷ values) relation r.tokens (record { listed = r.listed; few = printed.2 }))

pub text_spells : (c : Command) → IsPrinted c → IsSpelt c (command_text c)
text_spells (CreateRelation relation) h = spelt_relation relation h
text_spells (CreateAttribute name domain relation) h = spelt_attribute name domain relation h.0 h.1 h.2
text_spells (CreateIndex relation attribute kind) h = spelt_index relation attribute kind h.0 h.1
text_spells (Insert [] relation) h = absurd h.0
text_spells (Insert (v ∷ values) relation) h = spelt_insert v values relation h.0 h.1
text_spells _ h = absurd h
