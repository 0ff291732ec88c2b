use Rattle.std.proofs.Common.{arith, ◌≡◌, ◌+◌, ◌-◌, ◌*◌, ◌/◌, ◌≤◌, ◌<◌, ◌∙◌, length, take, drop, None, Some, [], refl, ap, sym, subst}
use Rattle.std.proofs.lemmas.List.{length-drop, length-take}
use Rattle.afl_base.specs.declared.ids.PageId.{PageId}
use Rattle.padded.proofs.Facts.{on_err, some_same}
use Rattle.coffee_layout.specs.FileBytes.{last_in, table_of}
use Rattle.coffee_log.specs.FileChanges.{BeginsBelow, FileBecomes, IsFile, one_if}
use Rattle.coffee_log.specs.Logs.{AddsRecords}
use Rattle.coffee_log.proofs.AddedRecords.{adds_kept, adds_none, range_apart}
use Rattle.coffee_log.proofs.Appends.{plain_end}
use Rattle.coffee_log.proofs.FileCutLaws.{adds_below, below_kept, cut_later, cut_same, logged_below, table_untorn}
use Rattle.coffee_log.proofs.FileSteps.{append_two, becomes_nothing}
use Rattle.coffee_log.proofs.contents.append_logged.Goals as goal

pub returns-clause-becomes : goal.returns-clause-becomes
returns-clause-becomes g c = λ t is.
    let size0 : length (g.F.Flash.image c.is_logged.new.flash) ≡ length (g.F.Flash.image c.args.flash.now) = ap (λ i. length i) c.in_ok-is_logged.ensures.frame.same in
    let low : c.min-n.result ≤ length c.args.bytes.now = omega arith in
    let front : length (take c.min-n.result c.args.bytes.now) ≡ c.min-n.result = omega (arith, length-take c.min-n.result c.args.bytes.now) in
    let rest : length (take (length c.args.bytes.now - c.min-n.result) (drop c.min-n.result c.args.bytes.now)) ≡ length c.args.bytes.now - c.min-n.result =
    omega (arith, length-take (length c.args.bytes.now - c.min-n.result) (drop c.min-n.result c.args.bytes.now), length-drop c.min-n.result c.args.bytes.now) in
    let was : IsFile (g.F.Flash.image c.is_logged.new.flash) c.args.file.now.page.0 c.args.file.now.pages (Some c.args.log) c.args.file.now.used c.args.file.now.size = subst (λ i. IsFile i c.args.file.now.page.0 c.args.file.now.pages (Some c.args.log) c.args.file.now.used c.args.file.now.size) (sym c.in_ok-is_logged.ensures.frame.same) is in
    let put : FileBecomes (g.F.Flash.image c.is_logged.new.flash) (g.F.Flash.image c.put_part.new.flash) c.args.file.now.page.0 c.args.file.now.pages (Some c.args.log) (c.args.file.now.used + 1) (c.args.file.now.size + c.min-n.result) c.args.file.now.size (take c.min-n.result c.args.bytes.now) =
    c.in_ok-put_part.ensures.becomes t c.args.file.now.size (c.args.file.now.size + c.min-n.result) was (omega arith) (omega arith) (omega arith) in
    append_two (g.F.Flash.image c.args.flash.now) (g.F.Flash.image c.put_part.new.flash) (g.F.Flash.image c.append_plain-2.new.flash) c.args.bytes.now _ c.args.file.now.page.0 c.args.file.now.pages (Some c.args.log) (c.args.file.now.used + 1) (c.args.file.now.used + 1) c.args.file.now.size c.min-n.result _ _ _
    (subst (λ i. FileBecomes i (g.F.Flash.image c.put_part.new.flash) c.args.file.now.page.0 c.args.file.now.pages (Some c.args.log) (c.args.file.now.used + 1) (c.args.file.now.size + c.min-n.result) c.args.file.now.size (take c.min-n.result c.args.bytes.now)) c.in_ok-is_logged.ensures.frame.same put)
    (c.in_ok-append_plain-2.ensures.becomes t c.args.file.now.pages (c.args.file.now.used + 1) (Some c.args.log) put.kept
    (λ l e some.
    let same : c.args.log ≡ l = cc in
    subst (λ x. last_in (table_of (g.F.Flash.image c.put_part.new.flash) x.0) ((c.args.file.now.size + c.min-n.result) / 128) 30 ≡ None) same
    (plain_end (g.F.Flash.image c.put_part.new.flash) c.args.file.now.page.0 c.args.file.now.pages c.args.log (c.args.file.now.used + 1) (c.args.file.now.size + c.min-n.result) put.kept (omega arith)))
    (omega arith) (omega (arith, size0, c.in_ok-put_part.ensures.frame.size)))
    refl refl refl low (omega arith) (omega arith)

pub returns-clause-adds : goal.returns-clause-adds
returns-clause-adds g c = λ t is.
    let was : IsFile (g.F.Flash.image c.is_logged.new.flash) c.args.file.now.page.0 c.args.file.now.pages (Some c.args.log) c.args.file.now.used c.args.file.now.size = subst (λ i. IsFile i c.args.file.now.page.0 c.args.file.now.pages (Some c.args.log) c.args.file.now.used c.args.file.now.size) (sym c.in_ok-is_logged.ensures.frame.same) is in
    let front : length (take c.min-n.result c.args.bytes.now) ≡ c.min-n.result = omega (arith, length-take c.min-n.result c.args.bytes.now) in
    let rest : length (take (length c.args.bytes.now - c.min-n.result) (drop c.min-n.result c.args.bytes.now)) ≡ length c.args.bytes.now - c.min-n.result =
    omega (arith, length-take (length c.args.bytes.now - c.min-n.result) (drop c.min-n.result c.args.bytes.now), length-drop c.min-n.result c.args.bytes.now) in
    adds_kept (g.F.Flash.image c.args.flash.now) (g.F.Flash.image c.put_part.new.flash) (g.F.Flash.image c.append_plain-2.new.flash) c.args.log.0 c.args.file.now.used (c.args.file.now.used + 1) (c.args.file.now.size / 128) (256 * c.args.file.now.pages - 32) (omega arith)
    (subst (λ i. AddsRecords i (g.F.Flash.image c.put_part.new.flash) c.args.log.0 c.args.file.now.used (c.args.file.now.used + 1) (c.args.file.now.size / 128) (256 * c.args.file.now.pages - 32)) c.in_ok-is_logged.ensures.frame.same (c.in_ok-put_part.ensures.adds t (was.logged c.args.log refl)))
    (range_apart (g.F.Flash.image c.put_part.new.flash) (g.F.Flash.image c.append_plain-2.new.flash) c.args.file.now.page.0 c.args.file.now.pages (c.args.file.now.size + c.min-n.result) _ c.args.log.0 (is.apart c.args.log refl) (omega arith) (c.in_ok-append_plain-2.ensures.others t))

pub returns-then-not-branch-clause-adds : goal.returns-then-not-branch-clause-adds
returns-then-not-branch-clause-adds g c = λ t is.
    let none = adds_none (g.F.Flash.image c.args.flash.now) c.args.log.0 c.args.file.now.used (c.args.file.now.size / 128) (256 * c.args.file.now.pages - 32) (is.logged c.args.log refl) in
    adds_kept (g.F.Flash.image c.args.flash.now) (g.F.Flash.image c.is_logged.new.flash) (g.F.Flash.image c.append_plain.new.flash) c.args.log.0 c.args.file.now.used c.args.file.now.used (c.args.file.now.size / 128) (256 * c.args.file.now.pages - 32) (omega arith)
    (subst (λ i. AddsRecords (g.F.Flash.image c.args.flash.now) i c.args.log.0 c.args.file.now.used c.args.file.now.used (c.args.file.now.size / 128) (256 * c.args.file.now.pages - 32)) (sym c.in_ok-is_logged.ensures.frame.same) none)
    (range_apart (g.F.Flash.image c.is_logged.new.flash) (g.F.Flash.image c.append_plain.new.flash) c.args.file.now.page.0 c.args.file.now.pages c.args.file.now.size _ c.args.log.0 (is.apart c.args.log refl) (omega arith) (c.in_ok-append_plain.ensures.others t))

pub returns-in_err-is_logged-clause-cut : goal.returns-in_err-is_logged-clause-cut
returns-in_err-is_logged-clause-cut g c = λ t u. on_err c.from_residual.result (λ is.
    cut_same (g.F.Flash.image c.args.flash.now) (g.F.Flash.image c.is_logged.new.flash) c.args.bytes.now c.args.file.now.page.0 c.args.file.now.pages (Some c.args.log) c.args.file.now.used c.args.file.now.size c.args.file.now.size is (omega arith) c.is_logged.ensures.frame.same)

pub returns-in_err-put_part-clause-cut : goal.returns-in_err-put_part-clause-cut
returns-in_err-put_part-clause-cut g c = λ t u. on_err c.from_residual-in_err-put_part.result (λ is.
    let same = c.in_ok-is_logged.ensures.frame.same in
    let was : IsFile (g.F.Flash.image c.is_logged.new.flash) c.args.file.now.page.0 c.args.file.now.pages (Some c.args.log) c.args.file.now.used c.args.file.now.size = subst (λ i. IsFile i c.args.file.now.page.0 c.args.file.now.pages (Some c.args.log) c.args.file.now.used c.args.file.now.size) (sym same) is in
    let nothing : FileBecomes (g.F.Flash.image c.args.flash.now) (g.F.Flash.image c.is_logged.new.flash) c.args.file.now.page.0 c.args.file.now.pages (Some c.args.log) c.args.file.now.used c.args.file.now.size c.args.file.now.size [] =
    subst (λ i. FileBecomes (g.F.Flash.image c.args.flash.now) i c.args.file.now.page.0 c.args.file.now.pages (Some c.args.log) c.args.file.now.used c.args.file.now.size c.args.file.now.size []) (sym same) (becomes_nothing (g.F.Flash.image c.args.flash.now) c.args.file.now.page.0 c.args.file.now.pages (Some c.args.log) c.args.file.now.used c.args.file.now.size c.args.file.now.size is) in
    let front : length (take c.min-n.result c.args.bytes.now) ≡ c.min-n.result = omega (arith, length-take c.min-n.result c.args.bytes.now) in
    let begins : 128 * (c.args.file.now.size / 128) < c.args.file.now.size = logged_below (g.F.Flash.image c.is_logged.new.flash) c.args.file.now.page.0 c.args.file.now.pages c.args.log c.args.file.now.used c.args.file.now.size (c.args.file.now.size / 128) was (subst (λ i. one_if (last_in (table_of i c.args.log.0) (c.args.file.now.size / 128) 30) ≡ 1) (sym same) (c.in_ok-is_logged.ensures.logged t c.if-not-branch.false)) in
    let front_cut = c.in_err-put_part.ensures.cut t u c.args.file.now.size was (omega arith) begins (omega arith) in
    let cut = front_cut.cut in
    cut_later (g.F.Flash.image c.args.flash.now) (g.F.Flash.image c.is_logged.new.flash) (g.F.Flash.image c.put_part.new.flash) c.args.bytes.now _ c.args.file.now.page.0 c.args.file.now.pages (Some c.args.log) c.args.file.now.used c.args.file.now.size c.args.file.now.size c.args.file.now.size c.args.file.now.size 0 c.min-n.result
    nothing cut cut.below (omega arith) (omega arith) refl (omega arith) (omega arith) (omega arith) (ap length same))

pub returns-in_err-append_plain-2-clause-cut : goal.returns-in_err-append_plain-2-clause-cut
returns-in_err-append_plain-2-clause-cut g c = λ t u. on_err c.from_residual-in_err-append_plain-2.result (λ is.
    let size0 : length (g.F.Flash.image c.is_logged.new.flash) ≡ length (g.F.Flash.image c.args.flash.now) = ap (λ i. length i) c.in_ok-is_logged.ensures.frame.same in
    let front : length (take c.min-n.result c.args.bytes.now) ≡ c.min-n.result = omega (arith, length-take c.min-n.result c.args.bytes.now) in
    let rest : length (take (length c.args.bytes.now - c.min-n.result) (drop c.min-n.result c.args.bytes.now)) ≡ length c.args.bytes.now - c.min-n.result =
    omega (arith, length-take (length c.args.bytes.now - c.min-n.result) (drop c.min-n.result c.args.bytes.now), length-drop c.min-n.result c.args.bytes.now) in
    let was : IsFile (g.F.Flash.image c.is_logged.new.flash) c.args.file.now.page.0 c.args.file.now.pages (Some c.args.log) c.args.file.now.used c.args.file.now.size = subst (λ i. IsFile i c.args.file.now.page.0 c.args.file.now.pages (Some c.args.log) c.args.file.now.used c.args.file.now.size) (sym c.in_ok-is_logged.ensures.frame.same) is in
    let put : FileBecomes (g.F.Flash.image c.is_logged.new.flash) (g.F.Flash.image c.put_part.new.flash) c.args.file.now.page.0 c.args.file.now.pages (Some c.args.log) (c.args.file.now.used + 1) (c.args.file.now.size + c.min-n.result) c.args.file.now.size (take c.min-n.result c.args.bytes.now) =
    c.in_ok-put_part.ensures.becomes t c.args.file.now.size (c.args.file.now.size + c.min-n.result) was (omega arith) (omega arith) (omega arith) in
    let same = c.in_ok-is_logged.ensures.frame.same in
    let begins : 128 * (c.args.file.now.size / 128) < c.args.file.now.size = logged_below (g.F.Flash.image c.is_logged.new.flash) c.args.file.now.page.0 c.args.file.now.pages c.args.log c.args.file.now.used c.args.file.now.size (c.args.file.now.size / 128) was (subst (λ i. one_if (last_in (table_of i c.args.log.0) (c.args.file.now.size / 128) 30) ≡ 1) (sym same) (c.in_ok-is_logged.ensures.logged t c.if-not-branch.false)) in
    let adds : BeginsBelow (g.F.Flash.image c.put_part.new.flash) c.args.log.0 (c.args.file.now.used + 1) c.args.file.now.size =
    adds_below (g.F.Flash.image c.is_logged.new.flash) (g.F.Flash.image c.put_part.new.flash) c.args.log.0 c.args.file.now.used (c.args.file.now.size / 128) c.args.file.now.size (256 * c.args.file.now.pages - 32)
    (c.in_ok-put_part.ensures.adds t (was.logged c.args.log refl)) (was.below c.args.log refl) begins in
    let cut = c.in_err-append_plain-2.ensures.cut t u c.args.file.now.pages (c.args.file.now.used + 1) (Some c.args.log) put.kept
    (λ l e some.
    let same : c.args.log ≡ l = cc in
    subst (λ x. last_in (table_of (g.F.Flash.image c.put_part.new.flash) x.0) ((c.args.file.now.size + c.min-n.result) / 128) 30 ≡ None) same
    (plain_end (g.F.Flash.image c.put_part.new.flash) c.args.file.now.page.0 c.args.file.now.pages c.args.log (c.args.file.now.used + 1) (c.args.file.now.size + c.min-n.result) put.kept (omega arith)))
    (omega arith) (omega (arith, size0, c.in_ok-put_part.ensures.frame.size)) in
    cut_later (g.F.Flash.image c.args.flash.now) (g.F.Flash.image c.put_part.new.flash) (g.F.Flash.image c.append_plain-2.new.flash) c.args.bytes.now _ c.args.file.now.page.0 c.args.file.now.pages (Some c.args.log) (c.args.file.now.used + 1) c.args.file.now.size (c.args.file.now.size + c.min-n.result) c.args.file.now.size _ c.min-n.result _
    (subst (λ i. FileBecomes i (g.F.Flash.image c.put_part.new.flash) c.args.file.now.page.0 c.args.file.now.pages (Some c.args.log) (c.args.file.now.used + 1) (c.args.file.now.size + c.min-n.result) c.args.file.now.size (take c.min-n.result c.args.bytes.now)) same put)
    cut
    (λ l named. subst (λ (m : PageId). BeginsBelow cut.put m.0 cut.records c.args.file.now.size) (some_same c.args.log l named)
    (below_kept (g.F.Flash.image c.put_part.new.flash) cut.put c.args.log.0 (c.args.file.now.used + 1) cut.records c.args.file.now.size
    (λ k from to. table_untorn cut.put (g.F.Flash.image c.append_plain-2.new.flash) c.args.log cut.records cut.torn k from to
    ∙ range_apart (g.F.Flash.image c.put_part.new.flash) (g.F.Flash.image c.append_plain-2.new.flash) c.args.file.now.page.0 c.args.file.now.pages (c.args.file.now.size + c.min-n.result) _ c.args.log.0 (is.apart c.args.log refl) (omega arith) (c.in_err-append_plain-2.ensures.stays t u) k from (omega (arith, to)))
    (put.kept.logged c.args.log refl) (cut.becomes.kept.logged c.args.log refl) adds))
    (omega arith) refl refl (omega arith) (omega arith) (omega arith) (c.in_ok-put_part.ensures.frame.size ∙ size0))
