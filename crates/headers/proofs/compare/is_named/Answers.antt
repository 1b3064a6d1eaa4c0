use Rattle.headers.proofs.Rows.{one_row}
use Rattle.headers.proofs.compare.is_named.Goals as goal

pub returns : goal.returns
returns c = one_row _ _ c.bytes_at.ensures c.find_name.ensures
