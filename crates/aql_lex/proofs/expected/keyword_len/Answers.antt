use Rattle.std.proofs.Common.{◌∙◌, ap, sym, length, get_or, map, take, arith, IsTrue}
use Rattle.std.specs.Char.{to_ascii_lowercase}
use Rattle.db_model.specs.Names.{is_word_byte}
use Rattle.aql_lex.proofs.Letters.{keyword_first, keyword_is_first}
use Rattle.aql_lex.proofs.expected.keyword_len.Goals as goal

pub returns-clause-token : goal.returns-clause-token
returns-clause-token c =
    let same = c.are_letters_of.ensures.0 c.if-not-are_letters_of.false in
    keyword_first c.args.bytes.now c.args.keyword (length c.text-text.result.now) (ap length c.text-text.ensures) (same ∙ ap (map to_ascii_lowercase) c.text-text.ensures)
    (sym (c.is_word_byte.ensures ∙ ap is_word_byte c.byte_at.ensures) ∙ c.if-is_word_byte.false)

pub returns-then-bytes-len-clause-none : goal.returns-then-bytes-len-clause-none
returns-then-bytes-len-clause-none c = λ n e.
    let f = keyword_is_first c.args.bytes.now c.args.keyword n e in
    absurd (omega (arith, f.size, f.fits, ap length c.text-text.ensures, c.if-bytes-len.true))

pub returns-then-not-are_letters_of-clause-none : goal.returns-then-not-are_letters_of-clause-none
returns-then-not-are_letters_of-clause-none c = λ n e.
    let f = keyword_is_first c.args.bytes.now c.args.keyword n e in
    let place = ap length c.text-text.ensures ∙ sym f.size in
    let same = ap (λ m. map to_ascii_lowercase (take m c.args.bytes.now)) place ∙ f.same ∙ sym (ap (map to_ascii_lowercase) c.text-text.ensures) in
    let are : IsTrue c.are_letters_of.result = c.are_letters_of.ensures.1 same in
    let are_not = c.if-not-are_letters_of.true in
    cc

pub returns-then-is_word_byte-clause-none : goal.returns-then-is_word_byte-clause-none
returns-then-is_word_byte-clause-none c = λ n e.
    let f = keyword_is_first c.args.bytes.now c.args.keyword n e in
    let place = ap length c.text-text.ensures ∙ sym f.size in
    let stops = ap (λ m. is_word_byte (get_or c.args.bytes.now m 0)) place ∙ f.stops in
    let is_one = sym (c.is_word_byte.ensures ∙ ap is_word_byte c.byte_at.ensures) ∙ c.if-is_word_byte.true in
    cc
