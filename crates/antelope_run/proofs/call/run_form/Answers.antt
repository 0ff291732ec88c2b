use Rattle.std.proofs.Common.{◌≡◌, ◌≤◌, ◌+◌, ◌/◌, ℕ, List, refl, rules, ap, subst, sym, ◌∙◌, inl, inr, Err, arith, length}
use Rattle.run_input.specs.declared.ending.Ending.TheVariants.{Flash, Sink}
use Rattle.run_input.specs.declared.ending.InputEnding.TheVariants.{Input, Early}
use Rattle.coffee_layout.specs.Rules.{broken_image}
use Rattle.stored.specs.Base.{base_of}
use Rattle.stored.specs.Sound.{BreaksFirst, IsSoundTable}
use Rattle.image_model.specs.Images.{base, IsSound}
use Rattle.antelope_run.proofs.Behind.{reaches_on, rose_by, rose_when}
use Rattle.db_model.specs.Between.{IsBetween}
use Rattle.image_model.specs.Mending.{ImageMendsTo}
use Rattle.antelope_run.proofs.Leaving.{breaks, breaks_by, broken_opened, leaves, look_tells, tells_alone}
use Rattle.run_model.specs.Runs.{world}
use Rattle.antelope_run.proofs.Opened.{mounted_within, opened_within}
use Rattle.antelope_run.proofs.ReadsLeft.{not_true, reads_behind, unopened_reads}
use Rattle.antelope_run.proofs.Refusals.{none_opened, nothing_broken, on_unopened, refused_cause, refused_comes}
use Rattle.antelope_run.specs.Promise.{ComesTo}
use Rattle.antelope_run.specs.Does.{OnlyTells}
use Rattle.antelope_run.specs.Follows.{WritesBehind}
use Rattle.run_look.specs.Text.{flash_line}
use Rattle.antelope_run.specs.declared.came.Came.TheVariants.{Opened}
use Rattle.antelope_run.proofs.call.run_form.Goals as goal

pub returns-in-Ok-Ok-clause-comes : goal.returns-in-Ok-Ok-clause-comes
unfolding base
returns-in-Ok-Ok-clause-comes g c = λ told.
    let image = g.F.Flash.image c.args.flash in
    let at = c.new-session.ensures.files in
    let began = c.in-Ok-Ok.ensures in
    let tells = (rw (← at) at c.in-Ok.ensures.tells) ∙ told in
    let files = rw (← at) at (ap (λ s. s.files) (c.in-Ok.ensures.files told) ∙ c.mounted_files_are_the_images.ensures image) in
    let store = rw (← at) at c.in-Ok.ensures.same in
    let sound : IsSound image = record { volume = c.in-Ok.ensures.sound told; database = subst IsSoundTable files (rw c.in-Ok-Ok.field-0-is at (began.sound tells)) } in
    let start : c.begin.new.self.database ≡ base image = (rw c.in-Ok-Ok.field-0-is at (began.base tells)) ∙ ap base_of files in
    let kept = (rw c.in-Ok-Ok.field-0-is at began.running).1 in
    let told_now = ap (λ s. s.tells) began.frame.same ∙ tells in
    let many : c.sectors-sectors.result ≡ length image / 4096 = (let size = c.sectors-sectors.ensures.size in omega (arith, size)) in
    let stays : OnlyTells c.args.form → g.F.Flash.image c.close-flash.result ≡ image = λ only. c.close-flash.ensures.image ∙ c.carry_out-done.ensures.same only ∙ ap (λ s. s.store) began.frame.same ∙ store in
    let follows = c.tell_flash.ensures in
    let left = g.S.Source.left c.carry_out-done.new.input in
    let held = g.K.Sink.held c.tell_flash.new.out in
    subst (λ (now : List ℕ). ComesTo c.args.form (world image (g.S.Source.left c.args.input.now) (g.K.Sink.held c.args.out.now)) (world now left held) (Opened c.tell_flash.result))
    (sym follows.frame.same) (
      sound,
      leaves _ _ image (g.F.Flash.image c.close-flash.result) (g.S.Source.left c.args.input.now) left _ start told_now
          c.carry_out-done.result c.tell_flash.result held c.sectors-sectors.result many c.args.form
          (λ tells_now other. c.close-flash.ensures.back tells_now (not_true _ c.carry_out-done.new.session.lost (c.carry_out-done.ensures.lost kept) other))
          stays
          (λ only. ap g.S.Source.left (c.carry_out-done.ensures.unread (tells_alone c.args.form only)))
          (c.carry_out-done.ensures.does told_now kept)
          (λ other. let same = follows.others (c.is_look-looks.ensures ∙ other) in (same.0, ap g.K.Sink.held same.2))
          (λ looks.
          let same = stays (look_tells c.args.form looks) in
          subst (λ (i : List ℕ). WritesBehind (flash_line i) c.carry_out-done.result c.tell_flash.result (g.K.Sink.held c.carry_out-done.new.out) held) same
          (follows.wrote (c.is_look-looks.ensures ∙ looks) told (ap broken_image same ∙ sound.volume))),
    )

pub returns-in-Ok-Ok-clause-broken : goal.returns-in-Ok-Ok-clause-broken
unfolding base
returns-in-Ok-Ok-clause-broken g c = λ told cuts.
    let image = g.F.Flash.image c.args.flash in
    let at = c.new-session.ensures.files in
    let began = c.in-Ok-Ok.ensures in
    let tells = (rw (← at) at c.in-Ok.ensures.tells) ∙ told in
    let files = rw (← at) at (ap (λ s. s.files) (c.in-Ok.ensures.files told) ∙ c.mounted_files_are_the_images.ensures image) in
    let store = rw (← at) at c.in-Ok.ensures.same in
    let sound : IsSound image = record { volume = c.in-Ok.ensures.sound told; database = subst IsSoundTable files (rw c.in-Ok-Ok.field-0-is at (began.sound tells)) } in
    let start : c.begin.new.self.database ≡ base image = (rw c.in-Ok-Ok.field-0-is at (began.base tells)) ∙ ap base_of files in
    let kept = (rw c.in-Ok-Ok.field-0-is at began.running).1 in
    let told_now = ap (λ s. s.tells) began.frame.same ∙ tells in
    let closed = c.close-flash.ensures.image in
    let stays : OnlyTells c.args.form → g.F.Flash.image c.close-flash.result ≡ image = λ only. closed ∙ c.carry_out-done.ensures.same only ∙ ap (λ s. s.store) began.frame.same ∙ store in
    let unread : OnlyTells c.args.form → g.S.Source.left c.carry_out-done.new.input ≡ g.S.Source.left c.args.input.now = λ only. ap g.S.Source.left (c.carry_out-done.ensures.unread (tells_alone c.args.form only)) in
    let follows = c.tell_flash.ensures in
    let left = g.S.Source.left c.carry_out-done.new.input in
    let was = world image (g.S.Source.left c.args.input.now) (g.K.Sink.held c.args.out.now) in
    let mid = world (g.F.Flash.image c.close-flash.result) left (g.K.Sink.held c.carry_out-done.new.out) in
    let new = world (g.F.Flash.image c.tell_flash.new.flash) left (g.K.Sink.held c.tell_flash.new.out) in
    broken_opened c.args.form was new c.tell_flash.result sound
    (breaks_by c.args.form was mid new c.carry_out-done.result c.tell_flash.result
    (λ failed. breaks _ _ image (g.F.Flash.image c.close-flash.result) (g.S.Source.left c.args.input.now) left _ start told_now
    (λ db command b. subst (λ (i : List ℕ). ImageMendsTo i (IsBetween db command)) (sym closed) (b cuts))
    c.sectors-sectors.result c.args.form stays unread (rw failed at (c.carry_out-done.ensures.does told_now kept)))
    (λ only. record { same = follows.frame.same ∙ stays only; unread = unread only })
    (λ other. let same = follows.others (c.is_look-looks.ensures ∙ other) in
    (same.0, λ i. world (g.F.Flash.image (same.1 i)) left (g.K.Sink.held (same.2 i)))))

pub returns-in-Ok-Ok-clause-reaches : goal.returns-in-Ok-Ok-clause-reaches
returns-in-Ok-Ok-clause-reaches g c =
    let follows = c.tell_flash.ensures in
    reaches_on (g.S.Source.left c.args.input.now) (g.S.Source.left c.carry_out-done.new.input) c.carry_out-done.result c.tell_flash.result c.args.form
    (λ other. (follows.others (c.is_look-looks.ensures ∙ other)).0) follows.halts c.carry_out-done.ensures.reaches

pub returns-in-Ok-Ok-clause-reads : goal.returns-in-Ok-Ok-clause-reads
unfolding base
returns-in-Ok-Ok-clause-reads g c = λ told.
    let image = g.F.Flash.image c.args.flash in
    let at = c.new-session.ensures.files in
    let began = c.in-Ok-Ok.ensures in
    let tells = (rw (← at) at c.in-Ok.ensures.tells) ∙ told in
    let files = rw (← at) at (ap (λ s. s.files) (c.in-Ok.ensures.files told) ∙ c.mounted_files_are_the_images.ensures image) in
    let sound : IsSound image = record { volume = c.in-Ok.ensures.sound told; database = subst IsSoundTable files (rw c.in-Ok-Ok.field-0-is at (began.sound tells)) } in
    let start : c.begin.new.self.database ≡ base image = (rw c.in-Ok-Ok.field-0-is at (began.base tells)) ∙ ap base_of files in
    let opened = opened_within image _ files _ _ _ c.sectors-sectors.result c.sectors-sectors.ensures.size c.sectors-sectors.ensures.least (rw (← at) at c.in-Ok.ensures.reads) (began.reads tells) in
    let follows = c.tell_flash.ensures in
    let closed = c.close-flash.ensures.reads in
    let store = rw (← at) at c.in-Ok.ensures.same in
    let size : length (g.F.Flash.image c.close-flash.result) ≡ length image = ap length c.close-flash.ensures.image ∙ c.carry_out-done.ensures.store ∙ ap (λ s. length s.store) began.frame.same ∙ ap length store in
    let read = follows.reads in
    let few : g.F.Flash.reads c.tell_flash.new.flash ≤ g.F.Flash.reads c.close-flash.result + length image / 256 = omega (arith, read, size) in
    reads_behind image (g.S.Source.left c.args.input.now) (g.K.Sink.held c.args.out.now) (g.F.Flash.reads c.args.flash)
    _ _ start (rw c.in-Ok-Ok.field-0-is at began.aheads) opened (g.F.Flash.reads c.tell_flash.new.flash) (rw closed at few) c.args.form
    (λ other. ap g.F.Flash.reads (follows.others (c.is_look-looks.ensures ∙ other)).1 ∙ closed) sound (c.carry_out-done.ensures.reads (ap (λ s. s.tells) began.frame.same ∙ tells))

pub returns-in-Ok-Ok-clause-cause : goal.returns-in-Ok-Ok-clause-cause
returns-in-Ok-Ok-clause-cause g c =
    let cause = c.carry_out-done.ensures.cause in
    let mounted = rw (← c.new-session.ensures.files) at c.in-Ok.ensures.cause in
    let later = c.in-Ok-Ok.ensures.frame.cause.later in
    let follows = c.tell_flash.ensures.frame in
    let files = cause.files_later in
    let closed = c.close-flash.ensures.faults in
    let low : g.F.Flash.faults c.args.flash ≤ g.F.Flash.faults c.close-flash.result = omega (arith, closed, files, later, mounted) in
    record {
      input = λ e. let is : c.tell_flash.result ≡ Err Input = cc in cause.input (follows.input is);
      flash_failed = λ e.
          let is : c.tell_flash.result ≡ Err (Early Flash) = cc in
          rose_by _ _ _ low follows.later (λ was. (let rose = cause.flash was in omega (arith, rose, later, mounted, closed))) (follows.flash is);
      sink_failed = λ e.
          let is : c.tell_flash.result ≡ Err (Early Sink) = cc in
          rose_when c.is_look-looks.result _ _ _ (λ looks. c.carry_out-done.ensures.later (look_tells c.args.form (sym c.is_look-looks.ensures ∙ looks)))
          (λ other. sym (c.tell_flash.ensures.others other).0 ∙ is) follows.sink_later cause.sink (follows.sink is);
      unsaid = λ e. absurd (let n : ⊥ = cc in n);
      unopened = λ e. absurd (let n : ⊥ = cc in n);
    }

-- the volume is not sound

pub returns-in-Err-Bad-clause-reads : goal.returns-in-Err-Bad-clause-reads
returns-in-Err-Bad-clause-reads g c = λ told.
    let image = g.F.Flash.image c.args.flash in
    unopened_reads image (g.S.Source.left c.args.input.now) (g.K.Sink.held c.args.out.now) (g.F.Flash.reads c.args.flash)
    c.args.form _ (mounted_within image _ _ c.sectors-sectors.result c.sectors-sectors.ensures.size (search rules))

pub returns-in-Err-Bad-clause-comes : goal.returns-in-Err-Bad-clause-comes
returns-in-Err-Bad-clause-comes g c = λ told.
    let e = c.refuse.ensures in
    refused_comes c.refuse.result c.args.form
    (world (g.F.Flash.image c.args.flash) (g.S.Source.left c.args.input.now) (g.K.Sink.held c.args.out.now))
    (world _ (g.S.Source.left c.args.input.now) (g.K.Sink.held c.refuse.new.out))
    c.in-Err-Bad.bad.rule c.in-Err-Bad.bad.place e.only (inl (rw c.in-Err-Bad.field-0-is at (c.in-Err-Bad.ensures.bad told))) (search rules) refl (rw c.in-Err-Bad.field-0-is at e.written) (rw c.in-Err-Bad.field-0-is at e.unsaid)

pub returns-in-Err-Bad-clause-broken : goal.returns-in-Err-Bad-clause-broken
returns-in-Err-Bad-clause-broken g c = λ told cuts. nothing_broken c.refuse.result c.args.form _ _ c.refuse.ensures.only

pub returns-in-Err-Bad-clause-reaches : goal.returns-in-Err-Bad-clause-reaches
returns-in-Err-Bad-clause-reaches g c = none_opened c.refuse.result _ c.refuse.ensures.only

pub returns-in-Err-Bad-clause-unread : goal.returns-in-Err-Bad-clause-unread
returns-in-Err-Bad-clause-unread g c = on_unopened c.refuse.result _ refl c.refuse.ensures.only

pub returns-in-Err-Bad-clause-cause : goal.returns-in-Err-Bad-clause-cause
returns-in-Err-Bad-clause-cause g c = refused_cause c.refuse.result _ _ c.refuse.ensures.only c.refuse.ensures.rose

pub returns-in-Err-Failed-clause-reads : goal.returns-in-Err-Failed-clause-reads
returns-in-Err-Failed-clause-reads g c = λ told.
    let image = g.F.Flash.image c.args.flash in
    unopened_reads image (g.S.Source.left c.args.input.now) (g.K.Sink.held c.args.out.now) (g.F.Flash.reads c.args.flash)
    c.args.form _ (mounted_within image _ _ c.sectors-sectors.result c.sectors-sectors.ensures.size (rw c.in-Err-Failed.flash-is (rw c.in-Err-Failed.field-0-is at c.in-Err-Failed.ensures.reads)))

-- the database is not sound

pub returns-in-Ok-Err-clause-reads : goal.returns-in-Ok-Err-clause-reads
returns-in-Ok-Err-clause-reads g c = λ told.
    let image = g.F.Flash.image c.args.flash in
    let at = c.new-session.ensures.files in
    let began = c.in-Ok-Err.ensures in
    let tells = (rw (← at) at c.in-Ok.ensures.tells) ∙ told in
    let files = rw (← at) at (ap (λ s. s.files) (c.in-Ok.ensures.files told) ∙ c.mounted_files_are_the_images.ensures image) in
    let opened = opened_within image _ files _ _ _ c.sectors-sectors.result c.sectors-sectors.ensures.size c.sectors-sectors.ensures.least (rw (← at) at c.in-Ok.ensures.reads) (began.reads tells) in
    rw c.close.ensures.reads (unopened_reads image (g.S.Source.left c.args.input.now) (g.K.Sink.held c.args.out.now) (g.F.Flash.reads c.args.flash) c.args.form _ opened)

pub returns-in-Ok-Err-clause-comes : goal.returns-in-Ok-Err-clause-comes
returns-in-Ok-Err-clause-comes g c = λ told.
    let image = g.F.Flash.image c.args.flash in
    let at = c.new-session.ensures.files in
    let began = c.in-Ok-Err.ensures in
    let tells = (rw (← at) at c.in-Ok.ensures.tells) ∙ told in
    let files = rw (← at) at (ap (λ s. s.files) (c.in-Ok.ensures.files told) ∙ c.mounted_files_are_the_images.ensures image) in
    let store = rw (← at) at c.in-Ok.ensures.same in
    let rule = c.in-Ok-Err.broken.rule in
    let place = c.in-Ok-Err.broken.place in
    let bad = subst (λ files. BreaksFirst files rule place) files (rw c.in-Ok-Err.field-0-is at (began.bad tells)) in
    let e = c.refuse-in-Ok-Err.ensures in
    refused_comes c.refuse-in-Ok-Err.result c.args.form
    (world image (g.S.Source.left c.args.input.now) (g.K.Sink.held c.args.out.now))
    (world (g.F.Flash.image c.close.result) (g.S.Source.left c.args.input.now) (g.K.Sink.held c.refuse-in-Ok-Err.new.out))
    rule place e.only (inr (c.in-Ok.ensures.sound told, bad)) (c.close.ensures.image ∙ ap (λ s. s.store) began.frame.same ∙ store) refl e.written e.unsaid

pub returns-in-Ok-Err-clause-broken : goal.returns-in-Ok-Err-clause-broken
returns-in-Ok-Err-clause-broken g c = λ told cuts. nothing_broken c.refuse-in-Ok-Err.result c.args.form _ _ c.refuse-in-Ok-Err.ensures.only

pub returns-in-Ok-Err-clause-reaches : goal.returns-in-Ok-Err-clause-reaches
returns-in-Ok-Err-clause-reaches g c = none_opened c.refuse-in-Ok-Err.result _ c.refuse-in-Ok-Err.ensures.only

pub returns-in-Ok-Err-clause-unread : goal.returns-in-Ok-Err-clause-unread
returns-in-Ok-Err-clause-unread g c = on_unopened c.refuse-in-Ok-Err.result _ refl c.refuse-in-Ok-Err.ensures.only

pub returns-in-Ok-Err-clause-cause : goal.returns-in-Ok-Err-clause-cause
returns-in-Ok-Err-clause-cause g c = refused_cause c.refuse-in-Ok-Err.result _ _ c.refuse-in-Ok-Err.ensures.only c.refuse-in-Ok-Err.ensures.rose

-- the flash failed

pub returns-in-Err-Failed-clause-comes : goal.returns-in-Err-Failed-clause-comes
returns-in-Err-Failed-clause-comes g c = λ told. (record { same = search rules; unread = refl }, refl)

pub returns-in-Err-Failed-clause-broken : goal.returns-in-Err-Failed-clause-broken
returns-in-Err-Failed-clause-broken g c = λ told cuts. (record { same = search rules; unread = refl }, refl)

pub returns-in-Err-clause-comes : goal.returns-in-Err-clause-comes
returns-in-Err-clause-comes g c = λ told.
    let same = c.close-in-Err.ensures.image ∙ ap (λ s. s.store) c.in-Err.ensures.frame.same ∙ rw (← c.new-session.ensures.files) at c.in-Ok.ensures.same in
    (record { same = same; unread = refl }, refl)

pub returns-in-Err-clause-broken : goal.returns-in-Err-clause-broken
returns-in-Err-clause-broken g c = λ told cuts.
    let same = c.close-in-Err.ensures.image ∙ ap (λ s. s.store) c.in-Err.ensures.frame.same ∙ rw (← c.new-session.ensures.files) at c.in-Ok.ensures.same in
    (record { same = same; unread = refl }, refl)

pub returns-in-Err-clause-reads : goal.returns-in-Err-clause-reads
returns-in-Err-clause-reads g c = λ told.
    let image = g.F.Flash.image c.args.flash in
    let at = c.new-session.ensures.files in
    let began = c.in-Err.ensures in
    let tells = (rw (← at) at c.in-Ok.ensures.tells) ∙ told in
    let files = rw (← at) at (ap (λ s. s.files) (c.in-Ok.ensures.files told) ∙ c.mounted_files_are_the_images.ensures image) in
    let opened = opened_within image _ files _ _ _ c.sectors-sectors.result c.sectors-sectors.ensures.size c.sectors-sectors.ensures.least (rw (← at) at c.in-Ok.ensures.reads) (began.reads tells) in
    rw c.close-in-Err.ensures.reads (unopened_reads image (g.S.Source.left c.args.input.now) (g.K.Sink.held c.args.out.now) (g.F.Flash.reads c.args.flash) c.args.form _ opened)

pub returns-in-Err-clause-cause : goal.returns-in-Err-clause-cause
returns-in-Err-clause-cause g c =
    let mounted = rw (← c.new-session.ensures.files) at c.in-Ok.ensures.cause in
    let rose = c.in-Err.ensures.frame.cause.failed in
    record {
      input = λ e. absurd (let n : ⊥ = cc in n);
      flash_failed = λ e. absurd (let n : ⊥ = cc in n);
      sink_failed = λ e. absurd (let n : ⊥ = cc in n);
      unsaid = λ e. absurd (let n : ⊥ = cc in n);
      unopened = λ e. rw c.close-in-Err.ensures.faults (omega (arith, rose, mounted));
    }
