use Rattle.std.proofs.Common.{rules, ◌≡◌, ap, ◌∙◌, sym, false}
use Rattle.std.proofs.lemmas.Result.{IfOk-weaker}
use Rattle.dx_words.specs.Line.{text, joined, line_from, ends_options, is_session, said}
use Rattle.dx_words.proofs.Found.{on_refused}
use Rattle.dx_words.proofs.Joining.{option_word, named_said, no_said}
use Rattle.dx_words.proofs.line.Line.read_option.Goals as goal

pub returns-in_err-option-clause-refused : goal.returns-in_err-option-clause-refused
returns-in_err-option-clause-refused c r rest =
    let plain : ends_options (text c.args.word.now) ≡ false = search rules in
    let named : is_session (text c.args.word.now) ≡ false = search rules in
    ap (joined c.args.self.now) (option_word (text c.args.word.now) (λ next. line_from next rest) plain named)
    ∙ no_said (said (text c.args.word.now)) c.args.self.now (λ next. line_from next rest) (c.in_err-option.ensures.refused (search rules))

pub returns-clause-ok : goal.returns-clause-ok
returns-clause-ok c =
    let plain : ends_options (text c.args.word.now) ≡ false = search rules in
    let named : is_session (text c.args.word.now) ≡ false = search rules in
    IfOk-weaker c.take.result _ _ (λ next h rest. h (λ n. line_from n rest)
    ∙ ap (joined c.args.self.now) (sym (named_said (said (text c.args.word.now)) c.in_ok-option.option (λ n. line_from n rest) c.in_ok-option.ensures.ok))
    ∙ ap (joined c.args.self.now) (sym (option_word (text c.args.word.now) (λ n. line_from n rest) plain named))) c.take.ensures.ok

pub returns-clause-refused : goal.returns-clause-refused
returns-clause-refused c r rest =
    let plain : ends_options (text c.args.word.now) ≡ false = search rules in
    let named : is_session (text c.args.word.now) ≡ false = search rules in
    ap (joined c.args.self.now) (option_word (text c.args.word.now) (λ n. line_from n rest) plain named)
    ∙ ap (joined c.args.self.now) (named_said (said (text c.args.word.now)) c.in_ok-option.option (λ n. line_from n rest) c.in_ok-option.ensures.ok)
    ∙ on_refused c.take.result r c.take.ensures.refused (λ n. line_from n rest)
