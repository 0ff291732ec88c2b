-- Worked examples of tokens, computed over the definitions.
use Rattle.std.proofs.Common.{◌≡◌, refl, pos, [], ◌∷◌, ◌++◌, true, false}
use Rattle.std.specs.Prelude.{codes, replicate}
use Rattle.db_model.specs.declared.tokens.Keyword.TheVariants.{KSELECT, KFROM, KWHERE, KCREATE, KINSERT}
use Rattle.db_model.specs.declared.tokens.Sign.TheVariants.{LeftBracket, Equal, Unequal, Less, LessEqual}
use Rattle.db_model.specs.declared.tokens.Token.TheVariants.{Word, Name, Number, Quoted, Sign}
use Rattle.db_model.specs.Keywords.{keyword_of, keywords}
use Rattle.db_model.specs.Tokens.{tokens_of}

pub no_list : tokens_of (codes "SELECT FROM s") ≡ record { items = Word KSELECT ∷ Word KFROM ∷ Name (codes "s") ∷ []; ends = 6 ∷ 11 ∷ 13 ∷ []; whole = true }
unfolding keyword_of keywords
no_list = refl

pub no_such_keyword : tokens_of (codes "CREATE TABLE s") ≡ record { items = Word KCREATE ∷ Name (codes "TABLE") ∷ Name (codes "s") ∷ []; ends = 6 ∷ 12 ∷ 14 ∷ []; whole = true }
unfolding keyword_of keywords
no_such_keyword = refl

pub half_a_comparison :
    tokens_of (codes "SELECT k FROM s WHERE k = ")
    ≡ record {
      items = Word KSELECT ∷ Name (codes "k") ∷ Word KFROM ∷ Name (codes "s") ∷ Word KWHERE ∷ Name (codes "k") ∷ Sign Equal ∷ [];
      ends = 6 ∷ 8 ∷ 13 ∷ 15 ∷ 21 ∷ 23 ∷ 25 ∷ [];
      whole = true;
    }
unfolding keyword_of keywords
half_a_comparison = refl

pub nineteen_digits : tokens_of (codes "INSERT (1234567890123456789) INTO s") ≡ record { items = Word KINSERT ∷ Sign LeftBracket ∷ []; ends = 6 ∷ 8 ∷ []; whole = false }
unfolding keyword_of keywords
nineteen_digits = refl

pub eighteen_digits : tokens_of (codes "123456789012345678") ≡ record { items = Number (pos 123456789012345678) ∷ []; ends = 18 ∷ []; whole = true }
eighteen_digits = refl

pub digits_and_a_letter : tokens_of (codes "1a") ≡ record { items = Number (pos 1) ∷ Name (codes "a") ∷ []; ends = 1 ∷ 2 ∷ []; whole = true }
unfolding keyword_of keywords
digits_and_a_letter = refl

pub a_semicolon_in_quotes : tokens_of (codes "(1 ';' <=<><") ≡ record {
  items = Sign LeftBracket ∷ Number (pos 1) ∷ Quoted (codes ";") ∷ Sign LessEqual ∷ Sign Unequal ∷ Sign Less ∷ [];
  ends = 1 ∷ 2 ∷ 6 ∷ 9 ∷ 11 ∷ 12 ∷ [];
  whole = true;
}
a_semicolon_in_quotes = refl

pub a_long_word : tokens_of (replicate 16 97) ≡ record { items = []; ends = []; whole = false }
unfolding keyword_of keywords
a_long_word = refl

pub a_long_text : tokens_of (39 ∷ replicate 33 97 ++ 39 ∷ []) ≡ record { items = []; ends = []; whole = false }
a_long_text = refl
