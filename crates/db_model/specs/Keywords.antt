-- The keywords of the language, and the keyword that a word spells in any letter case.
use Rattle.std.specs.Prelude.{ℕ, ◌==◌, List, [], ◌∷◌, length, filter, Option, Some, None, codes, if◌then◌else◌}
use Rattle.std.specs.Str.{str_eq_ignore_ascii_case}
use Rattle.db_model.specs.declared.tokens.Keyword.{Keyword}
use Rattle.db_model.specs.declared.tokens.Keyword.TheVariants.{KCREATE, KRELATION, KATTRIBUTE, KINDEX, KDOMAIN, KINT, KLONG, KSTRING, KIN, KTYPE, KINLINE, KMAXHEAP, KMEMHASH, KINSERT, KINTO, KSELECT, KFROM, KWHERE, KJOIN, KON, KPROJECT, KREMOVE, KPACK, KOPEN, KFETCH, KCLOSE, KAND, KOR, KNOT, KCOUNT, KSUM, KMIN, KMAX, KMEAN, KMEDIAN}

-- a keyword in capitals
abbrev pub keyword_text : Keyword → List ℕ
keyword_text KCREATE = codes "CREATE"
keyword_text KRELATION = codes "RELATION"
keyword_text KATTRIBUTE = codes "ATTRIBUTE"
keyword_text KINDEX = codes "INDEX"
keyword_text KDOMAIN = codes "DOMAIN"
keyword_text KINT = codes "INT"
keyword_text KLONG = codes "LONG"
keyword_text KSTRING = codes "STRING"
keyword_text KIN = codes "IN"
keyword_text KTYPE = codes "TYPE"
keyword_text KINLINE = codes "INLINE"
keyword_text KMAXHEAP = codes "MAXHEAP"
keyword_text KMEMHASH = codes "MEMHASH"
keyword_text KINSERT = codes "INSERT"
keyword_text KINTO = codes "INTO"
keyword_text KSELECT = codes "SELECT"
keyword_text KFROM = codes "FROM"
keyword_text KWHERE = codes "WHERE"
keyword_text KJOIN = codes "JOIN"
keyword_text KON = codes "ON"
keyword_text KPROJECT = codes "PROJECT"
keyword_text KREMOVE = codes "REMOVE"
keyword_text KPACK = codes "PACK"
keyword_text KOPEN = codes "OPEN"
keyword_text KFETCH = codes "FETCH"
keyword_text KCLOSE = codes "CLOSE"
keyword_text KAND = codes "AND"
keyword_text KOR = codes "OR"
keyword_text KNOT = codes "NOT"
keyword_text KCOUNT = codes "COUNT"
keyword_text KSUM = codes "SUM"
keyword_text KMIN = codes "MIN"
keyword_text KMAX = codes "MAX"
keyword_text KMEAN = codes "MEAN"
keyword_text KMEDIAN = codes "MEDIAN"

-- all of them, those of INSERT and SELECT first
unfoldable pub keywords : List Keyword
keywords = KINSERT ∷ KINTO ∷ KSELECT ∷ KFROM ∷ KWHERE ∷ KCREATE ∷ KRELATION ∷ KATTRIBUTE ∷ KINDEX ∷ KDOMAIN ∷ KINT ∷ KLONG ∷ KSTRING ∷ KIN ∷ KTYPE ∷ KINLINE ∷ KMAXHEAP ∷ KMEMHASH ∷ KJOIN ∷ KON ∷ KPROJECT ∷ KREMOVE ∷ KPACK ∷ KOPEN ∷ KFETCH ∷ KCLOSE ∷ KAND ∷ KOR ∷ KNOT ∷ KCOUNT ∷ KSUM ∷ KMIN ∷ KMAX ∷ KMEAN ∷ KMEDIAN ∷ []

-- those of this many letters
abbrev pub keywords_of_length : ℕ → List Keyword
keywords_of_length n = filter (λ k. length (keyword_text k) == n) keywords

-- the first of some keywords that a word is, in any letter case
abbrev pub keyword_among : List Keyword → List ℕ → Option Keyword
keyword_among [] word = None
keyword_among (k ∷ ks) word = if str_eq_ignore_ascii_case word (keyword_text k) then Some k else keyword_among ks word

-- the keyword that a word is, in any letter case
unfoldable pub keyword_of : List ℕ → Option Keyword
keyword_of word = keyword_among keywords word
