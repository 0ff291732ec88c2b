use Rattle.index_set.proofs.Grown.{fits_kept}
use Rattle.index_set.proofs.laws.fits_where_rows_are_inserted.Goals as goal

pub returns : goal.returns
returns c = λ candidates before now tables tables_now old new grow grown fits. fits_kept candidates before now tables tables_now old new grow grown fits
