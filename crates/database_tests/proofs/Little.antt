-- Files in arrays ask for little.
use Rattle.std.proofs.Common.{◌≡◌, ◌+◌, ap, ◌∙◌, arith}
use Rattle.afl_base.specs.Files.{Table, size_at}
use Rattle.afl_base.specs.Fit.{fit}
use Rattle.afl_base.proofs.FitLaws.{fit_grows}
use Rattle.afl_sim.specs.PlainFiles.{asked_pages, plain_pages}
use Rattle.space_model.specs.Wants.{AsksLittle}

pub plain_little : (files : Table) → AsksLittle files (λ id w b n. n ≡ asked_pages files id b)
plain_little files = record {
  growing = λ id w b need live growing small most asked.
      let pages : need ≡ fit (size_at files id + b) = asked ∙ ap (λ k. plain_pages k (size_at files id + b)) growing in
      let grown = fit_grows (size_at files id) b (omega (arith, most, small)) small in
      omega (arith, pages, grown);
  fixed = λ id w b need live fixed asked.
      let pages : need ≡ 6 = asked ∙ ap (λ k. plain_pages k (size_at files id + b)) fixed in
      omega (arith, pages);
}
