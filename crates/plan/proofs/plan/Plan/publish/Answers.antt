use Rattle.plan.proofs.Back.{reads-back}
use Rattle.plan.proofs.plan.Plan.publish.Goals as goal

pub returns-then-buffer-size-clause-reads_back : goal.returns-then-buffer-size-clause-reads_back
returns-then-buffer-size-clause-reads_back c = reads-back

pub returns-then-reading-gt-LAST_READING-clause-reads_back : goal.returns-then-reading-gt-LAST_READING-clause-reads_back
returns-then-reading-gt-LAST_READING-clause-reads_back c = reads-back

pub returns-then-is_empty-clause-reads_back : goal.returns-then-is_empty-clause-reads_back
returns-then-is_empty-clause-reads_back c = reads-back

pub returns-clause-reads_back : goal.returns-clause-reads_back
returns-clause-reads_back c = reads-back
