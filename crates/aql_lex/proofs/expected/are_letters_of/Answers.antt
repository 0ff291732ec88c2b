use Rattle.std.proofs.Common.{◌∙◌, sym, arith}
use Rattle.aql_lex.proofs.Letters.{other_letter}
use Rattle.aql_lex.proofs.expected.are_letters_of.Goals as goal

pub returns-then-bytes-i-2 : goal.returns-then-bytes-i-2
returns-then-bytes-i-2 c = (
  λ h. cc,
  λ e.
      absurd
      (
      other_letter
      c.args.text.now
      c.args.bytes.now
      c.loop-i.i
      c.requires.capitals
      (omega (arith, c.loop-i-test.true, c.loop-i.auto.i-end))
      c.requires.as_many
      c.if-bytes-i.true
      (λ f. c.if-bytes-i-2.true (f ∙ sym c.to_ascii_lowercase.ensures.value))
      e
      ),
)
