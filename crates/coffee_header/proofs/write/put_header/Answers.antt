use Rattle.std.proofs.Common.{◌≡◌, length, refl, ℕ, arith, ap, ◌∙◌, sym}
use Rattle.std.proofs.lemmas.List.{length-take, length-drop, length-set}
use Rattle.padded.specs.Padded.{padded}
use Rattle.afl_base.specs.Fields.{u16_bytes}
use Rattle.coffee_header.specs.Headers.{header_bytes}
use Rattle.coffee_header.proofs.Written.{whole_written}
use Rattle.coffee_header.proofs.write.put_header.Goals as goal

pub returns : goal.returns
unfolding header_bytes u16_bytes
returns c =
    let h = c.args.header.now in
    let part = c.put_name.auto.field in
    let size : length c.put_name.new.field ≡ 22 = omega (arith, length-take {A = ℕ}, length-drop {A = ℕ}, length-set {A = ℕ}) in
    let name = c.bytes.ensures.value in
    let same : c.put_name.new.field ≡ padded 22 h.name = rw (← name) (c.put_name.ensures ∙ ap (λ n. padded n c.bytes.result.now) (sym part ∙ size)) in
    let e = whole_written c.args.bytes.now (u16_bytes h.log_page) (u16_bytes h.log_records) (u16_bytes h.log_record_size) (u16_bytes h.max_pages) c.put_name.new.field h.kind h.flags c.requires refl refl refl refl size c.put_u16.new.bytes c.put_u16-2.new.bytes c.put_u16-3.new.bytes c.put_u16-4.new.bytes c.put_u16.ensures c.put_u16-2.ensures c.put_u16-3.ensures c.put_u16-4.ensures in
    rw (← same) e
