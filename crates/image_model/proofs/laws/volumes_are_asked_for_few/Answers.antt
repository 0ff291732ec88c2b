use Rattle.image_model.proofs.laws.volumes_are_asked_for_few.Goals as goal

pub returns : goal.returns
returns g c = c.little_is_wanted.ensures (record { growing = c.asks_for_little.ensures.growing; fixed = c.asks_for_little.ensures.fixed })
