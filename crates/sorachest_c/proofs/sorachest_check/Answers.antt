use Rattle.sorachest_c.proofs.sorachest_check.Goals as goal

pub returns : goal.returns
returns c =
    let e = c.check_lent.ensures in
    record {
      only = e.only;
      size = e.size;
      same = e.same;
      stays = λ ten. (e.stays ten).1;
      within = e.within;
      full = e.full;
      told = e.told;
    }
