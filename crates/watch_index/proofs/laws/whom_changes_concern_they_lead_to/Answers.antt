use Rattle.watch_index.proofs.ConcernedNumbers.{whom_changes_concern}
use Rattle.watch_index.proofs.laws.whom_changes_concern_they_lead_to.Goals as goal

pub returns : goal.returns
returns c = whom_changes_concern
