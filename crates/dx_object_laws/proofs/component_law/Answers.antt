use Rattle.dx_object_laws.proofs.FindLaws.{find-put_own, find-put_other, find-without_own, find-without_other}
use Rattle.dx_object_laws.proofs.component_law.Goals as goal

pub returns-clause-put : goal.returns-clause-put
returns-clause-put c = find-put_own

pub returns-clause-beside : goal.returns-clause-beside
returns-clause-beside c = find-put_other

pub returns-clause-taken : goal.returns-clause-taken
returns-clause-taken c = find-without_own

pub returns-clause-left : goal.returns-clause-left
returns-clause-left c = find-without_other
