use Rattle.filing.proofs.Filings.{long_filed, to_derive}
use Rattle.filing.proofs.write_evidence.Goals as goal

pub returns-then-long-ne-ACCEPTED : goal.returns-then-long-ne-ACCEPTED
returns-then-long-ne-ACCEPTED c = search long_filed

pub derive_texts-found-requires : goal.derive_texts-found-requires
derive_texts-found-requires c = search to_derive
