use Rattle.names.proofs.Bytes.{no_bytes, some_bytes}
use Rattle.names.proofs.spelled.bytes_at.Goals as goal

pub returns-then-start-end : goal.returns-then-start-end
returns-then-start-end c = search some_bytes

pub returns : goal.returns
returns c = search no_bytes
