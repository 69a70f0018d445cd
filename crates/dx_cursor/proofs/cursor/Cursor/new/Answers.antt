use Rattle.dx_base.specs.Tokens.Reading.{start}
use Rattle.dx_cursor.proofs.cursor.Cursor.new.Goals as goal

pub read_into-requires : goal.read_into-requires
read_into-requires c = start
