use Rattle.std.proofs.Common.{rules, ap, ◌∙◌, sym, drop}
use Rattle.dx_words.specs.Line.{joined, line_from, texts}
use Rattle.dx_words.specs.declared.line.Reading.TheVariants as reading
use Rattle.dx_words.proofs.Joining.{first_apart, nothing_before}
use Rattle.dx_words.proofs.words.read_line.Goals as goal

pub loop-rest-init : goal.loop-rest-init
loop-rest-init c = ap (λ l. joined l (line_from reading.Options (texts c.args.words.now))) c.empty-line.ensures ∙ nothing_before _

pub returns-in_err-reading-clause-refused : goal.returns-in_err-reading-clause-refused
returns-in_err-reading-clause-refused c r =
    let said = c.in_err-reading.ensures.refused (search rules) in
    let at = c.loop-rest in
    sym at.invariant
    ∙ ap (λ ws. joined at.line (line_from at.reading ws)) (sym (first_apart at.rest.now c.split_at.result.0.now c.in-len1-up.len_at_least c.split_at.ensures.front))
    ∙ said (texts (drop 1 at.rest.now))
