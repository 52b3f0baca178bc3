use Rattle.std.proofs.Common.{refl}
use Rattle.domain_parts.proofs.requests.told.Goals as goal

pub returns-in-Address-clause-lends : goal.returns-in-Address-clause-lends
returns-in-Address-clause-lends c ids = refl

pub returns-in-Accepted-clause-lends : goal.returns-in-Accepted-clause-lends
returns-in-Accepted-clause-lends c ids = refl

pub returns-in-Rejected-clause-lends : goal.returns-in-Rejected-clause-lends
returns-in-Rejected-clause-lends c ids = refl

pub returns-in-Ended-clause-lends : goal.returns-in-Ended-clause-lends
returns-in-Ended-clause-lends c ids = refl
