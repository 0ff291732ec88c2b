use Rattle.std.proofs.Common.{inl, inr, arith}
use Rattle.flash_views.proofs.Overlays.{bits_elsewhere, bits_there}
use Rattle.flash_views.proofs.over.put_bits.Goals.{else-byte-place-via-then-byte-place+else-byte-place-2, else-byte-place-via-else-byte-place}
use Rattle.flash_views.proofs.over.put_bits.Goals as goal

pub returns-then-byte-place-2 : goal.returns-then-byte-place-2
returns-then-byte-place-2 c = record {
  over = λ image s. bits_there image c.args.into.now c.args.place s c.args.byte c.args.bits c.if-byte-place.true c.if-byte-place-2.true;
}

pub returns-else-byte-place : goal.returns-else-byte-place
returns-else-byte-place c = record {
  over = λ image s. bits_elsewhere image c.args.into.now c.args.place s c.args.byte c.args.bits
      (elim c.else-byte-place.branch [
        | else-byte-place-via-then-byte-place+else-byte-place-2 w ↦ inr (omega (arith, w.if-byte-place.true, w.if-byte-place-2.false))
        | else-byte-place-via-else-byte-place w ↦ inl (omega (arith, w.if-byte-place.false))
      ]);
}
