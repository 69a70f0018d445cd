use Rattle.dx_cursor.proofs.Behind.{token_read, error_read}
use Rattle.dx_cursor.proofs.cursor.read.Goals as goal

pub returns-in-Ok : goal.returns-in-Ok
returns-in-Ok c = token_read _ _ _ c.requires c.in-Ok.ensures.reads

pub returns-in-Err-Refused : goal.returns-in-Err-Refused
returns-in-Err-Refused c = error_read _ _ _ c.requires (rw c.in-Err-Refused.field-0-is at c.in-Err-Refused.ensures.reads)
