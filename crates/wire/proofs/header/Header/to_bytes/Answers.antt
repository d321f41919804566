use Rattle.wire.proofs.Again.{header-again}
use Rattle.wire.proofs.header.Header.to_bytes.Goals as goal

pub returns-clause-header_again : goal.returns-clause-header_again
returns-clause-header_again c = header-again
