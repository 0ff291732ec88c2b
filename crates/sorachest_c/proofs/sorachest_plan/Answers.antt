use Rattle.sorachest_c.proofs.sorachest_plan.Goals as goal

pub returns : goal.returns
returns c =
    let e = c.run_lent.ensures in
    record {
      only = e.only;
      size = e.size;
      stays = λ ten. ((e.stays ten).0, (e.stays ten).2);
      within = e.within;
      full = e.full;
      told = e.told;
      unsound = e.unsound;
      no_fault = e.no_fault;
      suffices = e.suffices;
    }
