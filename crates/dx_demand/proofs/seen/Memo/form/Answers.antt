use Rattle.std.proofs.Common.{◌≡◌, false, sym, ◌∙◌}
use Rattle.std.specs.Prelude.{is_some}
use Rattle.dx_demand.specs.Memo.{formed_of}
use Rattle.dx_demand.specs.declared.seen.Memo.{Memo}
use Rattle.dx_demand.proofs.Memos.{formed_new}
use Rattle.dx_demand.proofs.FormedTerms.{insert_last, entry_new}
use Rattle.dx_demand.proofs.seen.Memo.form.Goals as goal

pub returns-in_ok-insert-clause-ok : goal.returns-in_ok-insert-clause-ok
returns-in_ok-insert-clause-ok c =
    let old = c.args.self.now in
    let new : Memo = record { answers = old.answers; selectors = old.selectors; formed = c.insert.new.self } in
    let none : is_some (formed_of old c.args.t) ≡ false = cc in
    formed_new (formed_of old) (formed_of new) c.args.t c.args.n none c.in_ok-insert.ensures.updates.0

pub returns-in_ok-insert-clause-entries : goal.returns-in_ok-insert-clause-entries
returns-in_ok-insert-clause-entries c =
    let es = c.args.self.now.formed.entries in
    let none : is_some (formed_of c.args.self.now c.args.t) ≡ false = cc in
    c.in_ok-insert.ensures.entries ∙ insert_last es c.args.t c.args.n none ∙ sym (entry_new es c.args.t c.args.n none)
