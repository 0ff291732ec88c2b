use Rattle.std.proofs.Common.{◌++◌, ◌∷◌, [], ap, arith, length, sym, ◌∙◌}
use Rattle.db_model.specs.Catalog.{attributes_of}
use Rattle.catalog.proofs.Choices.{if_none, none_if, some_if}
use Rattle.catalog.proofs.Decoding.{all_more, attributes_fail, attributes_more, length-attributes}
use Rattle.catalog.proofs.decode.read_attributes.Goals as goal
use Rattle.padded.proofs.Facts.{false_right}

pub returns-in_err-read_attribute : goal.returns-in_err-read_attribute
returns-in_err-read_attribute c =
    let bytes = c.args.bytes.now in
    let fails = attributes_fail c.args.version c.args.n c.loop-j.j bytes c.loop-j-test.true (none_if _ _ c.in_err-read_attribute.ensures) in
    c.from_residual.ensures ∙ if_none _ (attributes_of c.args.n bytes) (false_right _ _ fails)

pub push-requires : goal.push-requires
push-requires c = (omega arith, omega (arith, ap length c.loop-j.invariant.read, length-attributes c.loop-j.j c.args.bytes.now))

pub loop-j-preserved : goal.loop-j-preserved
loop-j-preserved c =
    let bytes = c.args.bytes.now in
    let read = some_if _ _ _ c.in_ok-read_attribute.ensures in
    record {
      read = c.push.ensures ∙ ap (λ xs. xs ++ c.in_ok-read_attribute.field-0 ∷ []) c.loop-j.invariant.read ∙ ap (λ a. attributes_of c.loop-j.j bytes ++ a ∷ []) read.1 ∙ sym (attributes_more c.loop-j.j bytes);
      good = all_more c.args.version c.loop-j.j bytes c.loop-j.invariant.good read.0;
    }
