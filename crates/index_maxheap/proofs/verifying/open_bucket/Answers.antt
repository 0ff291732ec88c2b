use Rattle.std.proofs.Common.{arith, ◌+◌, ◌∙◌, sym, ap}
use Rattle.afl_base.specs.Files.{bytes_at}
use Rattle.index_tree.specs.Pairs.{Pair}
use Rattle.index_maxheap.proofs.Opening.{eq_false, right_pair, right_tail, wrong_blank, wrong_key, wrong_next, wrong_slot}
use Rattle.index_maxheap.proofs.verifying.open_bucket.Goals as goal
use Rattle.index_tree.proofs.Stays.{eq_true}

pub returns-then-get_u16-number-clause-opens : goal.returns-then-get_u16-number-clause-opens
returns-then-get_u16-number-clause-opens g c = λ told rest has holds upper.
    let q : Pair = record { key = c.args.key.now; slot = c.args.slot } in
    let bytes = bytes_at (g.V.Files.state c.args.files.now).files c.args.index in
    wrong_slot bytes c.read_bucket.new.into c.args.number c.args.level q (c.in_ok-read_bucket.ensures.bytes told) (λ e. c.if-get_u16-number.true (c.get_u16.ensures ∙ e ∙ ap (λ n. n + 1) (sym c.number.ensures.value))) has

pub returns-then-not-is_key-clause-opens : goal.returns-then-not-is_key-clause-opens
returns-then-not-is_key-clause-opens g c = λ told rest has holds upper.
    let q : Pair = record { key = c.args.key.now; slot = c.args.slot } in
    let bytes = bytes_at (g.V.Files.state c.args.files.now).files c.args.index in
    wrong_key bytes c.read_bucket.new.into c.args.number c.args.level q (c.in_ok-read_bucket.ensures.bytes told) (eq_false _ _ (sym c.is_key.ensures ∙ c.if-not-is_key.true)) has

pub returns-then-not-is_blank-clause-opens : goal.returns-then-not-is_blank-clause-opens
returns-then-not-is_blank-clause-opens g c = λ told rest has holds upper.
    let q : Pair = record { key = c.args.key.now; slot = c.args.slot } in
    let bytes = bytes_at (g.V.Files.state c.args.files.now).files c.args.index in
    let wrong = c.is_blank.ensures.no_ c.if-not-is_blank.true in
    wrong_blank bytes c.read_bucket.new.into c.args.number c.args.level q (c.in_ok-read_bucket.ensures.bytes told) rest c.filled-fill.result wrong.0 holds c.filled-fill.ensures wrong.1 wrong.2 wrong.3

pub returns-then-is_upper-clause-opens : goal.returns-then-is_upper-clause-opens
returns-then-is_upper-clause-opens g c = λ told rest has holds upper.
    let q : Pair = record { key = c.args.key.now; slot = c.args.slot } in
    let bytes = bytes_at (g.V.Files.state c.args.files.now).files c.args.index in
    let wrong = c.is_upper.ensures.yes c.if-is_upper.true in
    wrong_next bytes c.read_bucket.new.into c.args.number c.args.level q (c.in_ok-read_bucket.ensures.bytes told) (λ z. wrong.1 (c.get_u16-next.ensures ∙ z)) wrong.0 upper

pub returns-clause-opens : goal.returns-clause-opens
returns-clause-opens g c = λ told.
    let q : Pair = record { key = c.args.key.now; slot = c.args.slot } in
    let bytes = bytes_at (g.V.Files.state c.args.files.now).files c.args.index in
    let is = c.in_ok-read_bucket.ensures.bytes told in (
      right_pair bytes c.read_bucket.new.into c.args.number c.args.level q is c.if-number-eq0.false (omega (arith, c.if-size-bucket_place.false, c.size.ensures, c.bucket_place.ensures)) (sym c.get_u16.ensures ∙ c.if-get_u16-number.false ∙ ap (λ n. n + 1) c.number.ensures.value) (eq_true _ _ (sym c.is_key.ensures ∙ c.if-not-is_key.false)) c.if-bytes-ne1.false,
      right_tail bytes c.read_bucket.new.into c.args.number c.args.level q is c.filled-fill.result c.get_u16-next.result c.filled-fill.ensures (c.is_blank.ensures.yes c.if-not-is_blank.false) c.get_u16-next.ensures (c.is_upper.ensures.no_ c.if-is_upper.false),
    )
