use Rattle.std.proofs.Common.{sym}
use Rattle.dx_base.specs.NameTable.{under_name}
use Rattle.dx_texts.specs.Expanding.{top_scope}
use Rattle.dx_texts.proofs.Scopes.{own_means, top_means}
use Rattle.dx_texts.proofs.Parts.{read_at_top}
use Rattle.dx_texts.proofs.text.meaning.Goals as goal

pub top_meaning-requires : goal.top_meaning-requires
top_meaning-requires c = record { walked = read_at_top c.args.w.now c.args.t.now c.args.name.now (sym c.in-None.ensures.value) c.requires.walked }

pub returns-in-Some : goal.returns-in-Some
returns-in-Some c = λ nodes memo own.
    own_means nodes (under_name c.args.t.now.own) (top_scope c.args.w.now c.args.t.now.position) c.args.name.now c.in-Some.o.now (sym c.in-Some.ensures.value) own

pub returns-in-None : goal.returns-in-None
returns-in-None c = λ nodes memo own.
    top_means nodes (under_name c.args.t.now.own) (top_scope c.args.w.now c.args.t.now.position) c.args.name.now c.top_meaning.result (sym c.in-None.ensures.value) (c.top_meaning.ensures nodes memo)
