use Rattle.std.proofs.Common.{sym, ◌∙◌}
use Rattle.dx_session.proofs.Exits.{ends_as, is_status, is_usage, cut_or_three, is_read_fault, is_write_fault, is_export_fault}
use Rattle.dx_session.proofs.run.run.Goals as goal

pub returns-clause-ends : goal.returns-clause-ends
returns-clause-ends g c = λ map told. rw c.exit_of.ensures (ends_as c.answer_words.result _ _ _ c.answer_words.ensures.status (c.answer_words.ensures.ends map told))

pub returns-clause-statuses : goal.returns-clause-statuses
returns-clause-statuses g c = rw c.exit_of.ensures (is_status c.answer_words.result c.answer_words.ensures.status)

pub returns-clause-usage : goal.returns-clause-usage
returns-clause-usage g c = λ e. is_usage c.answer_words.result _ c.answer_words.ensures.usage (sym c.exit_of.ensures ∙ e)

pub returns-clause-no_line : goal.returns-clause-no_line
returns-clause-no_line g c = λ none. rw c.exit_of.ensures (cut_or_three c.answer_words.result (c.answer_words.ensures.no_line none))

pub returns-clause-read_fault : goal.returns-clause-read_fault
returns-clause-read_fault g c = λ e. c.answer_words.ensures.read_cause.failed (is_read_fault c.answer_words.result c.answer_words.ensures.status (sym c.exit_of.ensures ∙ e))

pub returns-clause-write_fault : goal.returns-clause-write_fault
returns-clause-write_fault g c = λ e. c.answer_words.ensures.write_cause.failed (is_write_fault c.answer_words.result c.answer_words.ensures.status (sym c.exit_of.ensures ∙ e))

pub returns-clause-export_fault : goal.returns-clause-export_fault
returns-clause-export_fault g c = λ e. c.answer_words.ensures.export_cause.failed (is_export_fault c.answer_words.result c.answer_words.ensures.status (sym c.exit_of.ensures ∙ e))
