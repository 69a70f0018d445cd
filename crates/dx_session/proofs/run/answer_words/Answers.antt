use Rattle.std.proofs.Common.{◌≡◌, None, ℕ, List, true, rules, sym, ap, subst}
use Rattle.dx_io.specs.Devices.{Writes}
use Rattle.dx_outcome.specs.Computed.{of_words, plan_of}
use Rattle.dx_outcome.specs.Outcome.{outcome}
use Rattle.dx_outcome.specs.Plan.{Plan}
use Rattle.dx_session.specs.Ends.{Ends}
use Rattle.dx_sessions.specs.Does.{devices}
use Rattle.dx_words.specs.Line.{texts, words_of}
use Rattle.dx_session.proofs.Ending.{at_once, usage_ends}
use Rattle.dx_session.proofs.run.answer_words.Goals as goal

pub returns-in-Err-Refused-clause-ends : goal.returns-in-Err-Refused-clause-ends
returns-in-Err-Refused-clause-ends g c = λ map told.
    let none : words_of (texts c.args.words.now.items) ≡ None = search rules in
    let was = devices (g.L.Library.done c.args.lib.now) (g.F.Files.asked c.args.files.now) (g.O.Sink.written c.args.out.now) (g.X.Exports.puts c.args.exports.now) in
    let now = devices (g.L.Library.done c.args.lib.now) (g.F.Files.asked c.args.files.now) (g.O.Sink.written c.print_alone.new.out) (g.X.Exports.puts c.args.exports.now) in
    let writes = subst (λ (text : List ℕ). Writes (g.O.Sink.written c.args.out.now) (g.O.Sink.written c.print_alone.new.out) text c.print_alone.result) c.usage.ensures c.print_alone.ensures.prints in
    subst (λ (p : Plan). Ends c.print_alone.result (outcome g.L.Library.answer map p) was now) (sym (ap (of_words map) none))
    (usage_ends g.L.Library.answer map c.print_alone.result was (g.O.Sink.written c.print_alone.new.out) writes c.print_alone.ensures.status)

pub returns-in-Err-Memory-clause-ends : goal.returns-in-Err-Memory-clause-ends
returns-in-Err-Memory-clause-ends g c = λ map told.
    at_once true (outcome g.L.Library.answer map (plan_of (texts c.args.words.now.items) map))
    (devices (g.L.Library.done c.args.lib.now) (g.F.Files.asked c.args.files.now) (g.O.Sink.written c.args.out.now) (g.X.Exports.puts c.args.exports.now))
