use Rattle.std.proofs.Common.{◌∙◌, ap}
use Rattle.db_model.specs.Keywords.{keyword_among}
use Rattle.db_model.proofs.Lengths.{by_length}
use Rattle.db_model.proofs.tokens.Keyword.of.Goals as goal

pub returns : goal.returns
returns c = c.keyword_among.ensures ∙ ap (λ ks. keyword_among ks c.args.word.now) c.of_length.ensures ∙ by_length c.args.word.now
