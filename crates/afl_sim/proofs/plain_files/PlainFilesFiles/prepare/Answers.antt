use Rattle.std.proofs.Common.{rules, ◌≡◌, ◌+◌, length, ◌∙◌, refl, arith}
use Rattle.afl_base.specs.Files.{File}
use Rattle.afl_base.proofs.FileLaws.{file_here}
use Rattle.afl_sim.specs.PlainFiles.{plain_pages}
use Rattle.afl_sim.proofs.PlainStates.{plain_becomes, plain_fits, plain_grows, plain_kept}
use Rattle.afl_sim.proofs.plain_files.PlainFilesFiles.prepare.Goals as goal

pub returns-then-is_lacking-clause-few : goal.returns-then-is_lacking-clause-few
returns-then-is_lacking-clause-few g c =
    let f : File = c.file-file.result in
    let here = file_here c.args.self.now.files c.args.id f c.file-file.ensures.file in
    record {
      growing = λ is. rw (here, c.pages-need.ensures, c.kind.ensures.value, c.size.ensures.value)
          (plain_grows f.kind (length f.bytes) c.args.bytes (rw here at c.requires.most) c.requires.bytes (rw here at is));
      fixed = λ n is. search rules;
    }

pub grant-requires : goal.grant-requires
grant-requires g c =
    let f : File = c.file-file.result in
    let here = file_here c.args.self.now.files c.args.id f c.file-file.ensures.file in
    let most = rw here at c.requires.most in
    let holds = plain_fits f.kind (length f.bytes + c.args.bytes) (omega (arith, most)) (rw here at c.requires.fixed) in
    let need : c.pages-need.result ≡ plain_pages f.kind (length f.bytes + c.args.bytes) = c.pages-need.ensures ∙ rw (c.kind.ensures.value, c.size.ensures.value) refl in
    (search rules, omega (arith, holds, need, c.if-is_lacking.ensures))

pub invariant_of-self : goal.invariant_of-self
invariant_of-self g c =
    let a = c.self.inside in
    rw c.number.ensures.value
    (plain_kept g.row.CAP a.table a.draft c.args.id c.file-file.result c.grant.new.self _ _ _ c.self.invariant
    (omega (arith, c.number.ensures.below, c.number.ensures.value)) (rw (← c.self.view_is) at c.file-file.ensures.file) c.grant.ensures)

pub returns-clause-contents : goal.returns-clause-contents
returns-clause-contents g c =
    let a = c.self.inside in
    rw (← c.self.view_is, c.number.ensures.value)
    (plain_becomes g.row.CAP a.table a.draft c.args.id c.file-file.result c.grant.new.self (λ bytes. bytes) _ _ _ c.self.invariant
    (omega (arith, c.number.ensures.below, c.number.ensures.value)) (rw (← c.self.view_is) at c.file-file.ensures.file) c.grant.ensures
    refl)
