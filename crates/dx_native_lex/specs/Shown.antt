-- What a contract sees of a token.
use Rattle.dx_native_lex.specs.Scan.{Found}
use Rattle.dx_native_lex.specs.declared.scan.Lexeme.{Lexeme}

abbrev pub shown : Lexeme → Found
shown l = record { kind = l.kind; at = l.at; content = l.content.now; after = record { offset = l.end; rest = l.after.now } }
