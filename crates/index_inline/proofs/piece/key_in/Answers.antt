use Rattle.std.proofs.Common.{FitsSigned, rules, ◌∙◌, ap, w16, w32, w64}
use Rattle.std.specs.Int.{cast_signed}
use Rattle.std.proofs.lemmas.Int.{to_z-of_z}
use Rattle.index_inline.proofs.Pieces.{number_two, number_four, number_eight}
use Rattle.index_inline.proofs.piece.key_in.Goals as goal

pub returns-then-column-eq2 : goal.returns-then-column-eq2
returns-then-column-eq2 c =
    let wide : FitsSigned w64 c.from-then-column-eq2.result = search rules in
    let fits : FitsSigned w16 c.cast_signed.result = search rules in
    let back = rw (to_z-of_z w16 c.cast_signed.result fits) at c.from-then-column-eq2.ensures in
    let at = rw (c.from.ensures, c.from-2.ensures) at c.get_u16.ensures in
    to_z-of_z w64 c.from-then-column-eq2.result wide ∙ back ∙ c.cast_signed.ensures ∙ ap (cast_signed w16) at ∙ number_two _ _ _ c.if-column-eq2.true

pub returns-then-column-eq4 : goal.returns-then-column-eq4
returns-then-column-eq4 c =
    let wide : FitsSigned w64 c.from-then-column-eq4.result = search rules in
    let fits : FitsSigned w32 c.get_i32.result = search rules in
    let back = rw (to_z-of_z w32 c.get_i32.result fits) at c.from-then-column-eq4.ensures in
    let at = rw (c.from.ensures, c.from-2.ensures) at c.get_i32.ensures in
    to_z-of_z w64 c.from-then-column-eq4.result wide ∙ back ∙ at ∙ number_four _ _ _ c.if-column-eq4.true

pub returns : goal.returns
returns c =
    let fits : FitsSigned w64 c.get_i64.result = search rules in
    let at = rw (c.from.ensures, c.from-2.ensures) at c.get_i64.ensures in
    to_z-of_z w64 c.get_i64.result fits ∙ at ∙ number_eight _ _ _ c.requires.width (search rules) (search rules)
