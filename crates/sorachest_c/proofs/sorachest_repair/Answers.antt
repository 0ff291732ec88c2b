use Rattle.sorachest_c.proofs.sorachest_repair.Goals as goal

pub returns : goal.returns
returns c =
    let e = c.repair_lent.ensures in
    record {
      only = e.only;
      size = e.size;
      stays = λ ten. ((e.stays ten).0, (e.stays ten).2);
      within = e.within;
      full = e.full;
      told = e.told;
    }
