use Rattle.dx_native_grammar.specs.Grammar.{file}
use Rattle.dx_native_clauses.specs.Answer.{beginning}
use Rattle.dx_native_clauses.proofs.Answered.{is_found, is_only, is_refused}
use Rattle.dx_native_clauses.proofs.file.read_clauses.Goals as goal

pub returns-clause-found : goal.returns-clause-found
returns-clause-found c = is_found file (beginning c.args.bytes.now) c.file.new.cursor c.file.result (rw (← c.new-cursor.ensures) c.file.ensures)

pub returns-clause-only : goal.returns-clause-only
returns-clause-only c = is_only file (beginning c.args.bytes.now) c.file.new.cursor c.file.result (rw (← c.new-cursor.ensures) c.file.ensures)

pub returns-clause-refused : goal.returns-clause-refused
returns-clause-refused c = is_refused file (beginning c.args.bytes.now) c.file.new.cursor c.file.result (rw (← c.new-cursor.ensures) c.file.ensures)
