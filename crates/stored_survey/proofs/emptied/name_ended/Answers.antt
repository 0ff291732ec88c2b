use Rattle.std.proofs.Common.{rules, ℕ, ◌-◌, ◌+◌, ◌++◌, List, ap, arith, length, replicate, sym, take, ◌∙◌}
use Rattle.std.proofs.lemmas.List.{take_rest}
use Rattle.padded.proofs.Facts.{yes_no}
use Rattle.stored_survey.proofs.NameParts.{end_shown, none_end, some_end, z_written}
use Rattle.stored_survey.proofs.emptied.name_ended.Goals as goal

pub returns-then-not-is_zeros-clause-none : goal.returns-then-not-is_zeros-clause-none
returns-then-not-is_zeros-clause-none c =
    let bytes = c.args.bytes.now in
    let rest = rw (take_rest bytes (length c.up_to_zero-shown.result.now), c.up_to_zero-shown.ensures.front) at c.if-not-is_zeros.ensures in
    λ name e. yes_no _ (end_shown bytes name e.0 e.1).1 (sym rest)

pub returns-clause-some : goal.returns-clause-some
returns-clause-some c =
    let bytes : List ℕ = c.args.bytes.now in
    let h : ℕ = 16 - length bytes in
    let shown : List ℕ = c.up_to_zero-shown.result.now in
    let is = ap (take (h + length shown)) c.put_bytes.ensures ∙ z_written h shown (omega (arith, c.up_to_zero-shown.ensures.short, c.requires)) ∙ ap (λ (s : List ℕ). replicate h 122 ++ s) c.up_to_zero-shown.ensures.front in
    some_end bytes _ is c.requires c.new.result (sym (rw (take_rest bytes (length shown), c.up_to_zero-shown.ensures.front) at c.if-not-is_zeros.ensures)) c.new.ensures.name c.new.ensures.some

pub returns-clause-none : goal.returns-clause-none
returns-clause-none c =
    let bytes : List ℕ = c.args.bytes.now in
    let h : ℕ = 16 - length bytes in
    let shown : List ℕ = c.up_to_zero-shown.result.now in
    let is = ap (take (h + length shown)) c.put_bytes.ensures ∙ z_written h shown (omega (arith, c.up_to_zero-shown.ensures.short, c.requires)) ∙ ap (λ (s : List ℕ). replicate h 122 ++ s) c.up_to_zero-shown.ensures.front in
    none_end bytes _ is c.requires c.new.result (search rules) c.new.ensures.none
