use Rattle.std.proofs.Common.{◌+◌, ◌∙◌, sym, ap}
use Rattle.afl_base.specs.Files.{bytes_at}
use Rattle.index_maxheap.proofs.Opening.{eq_false}
use Rattle.index_maxheap.proofs.Slots.{six_key, six_slot}
use Rattle.index_maxheap.proofs.verifying.has_pair.Goals as goal
use Rattle.index_tree.proofs.Stays.{eq_true}

pub returns-then-get_u16-number-clause-no_ : goal.returns-then-get_u16-number-clause-no_
returns-then-get_u16-number-clause-no_ g c = λ told f key slot.
    let bytes = bytes_at (g.V.Files.state c.args.files.now).files c.args.index in
    c.if-get_u16-number.true (c.get_u16.ensures ∙ six_slot bytes c.read.new.into c.args.at (c.in_ok-read.ensures.bytes told) ∙ slot ∙ ap (λ n. n + 1) (sym c.number.ensures.value))

pub returns-then-not-is_key-clause-no_ : goal.returns-then-not-is_key-clause-no_
returns-then-not-is_key-clause-no_ g c = λ told f key slot.
    let bytes = bytes_at (g.V.Files.state c.args.files.now).files c.args.index in
    eq_false _ _ (sym c.is_key.ensures ∙ c.if-not-is_key.true) (six_key bytes c.read.new.into c.args.at (c.in_ok-read.ensures.bytes told) ∙ key)

pub returns-clause-yes : goal.returns-clause-yes
returns-clause-yes g c = λ told t.
    let bytes = bytes_at (g.V.Files.state c.args.files.now).files c.args.index in (
      sym (six_key bytes c.read.new.into c.args.at (c.in_ok-read.ensures.bytes told)) ∙ eq_true _ _ (sym c.is_key.ensures ∙ c.if-not-is_key.false),
      sym (six_slot bytes c.read.new.into c.args.at (c.in_ok-read.ensures.bytes told)) ∙ sym c.get_u16.ensures ∙ c.if-get_u16-number.false ∙ ap (λ n. n + 1) c.number.ensures.value,
    )
