use Rattle.std.proofs.Common.{◌≡◌, ℕ, ◌+◌, ◌-◌, ◌≤◌, List, length, take, drop, sym, ap, ◌∙◌, arith}
use Rattle.std.proofs.lemmas.Grind.{common_steps}
use Rattle.dx_expr_grammar.specs.Tokens.{tokens_from, with_token}
use Rattle.dx_expr_laws.proofs.Tokens.{token_next, unknown_next, beyond_next}
use Rattle.dx_expr_parser.proofs.lexer.word_at.Goals as goal

pub returns-then-at-ge-MAX_TEXT-clause-same : goal.returns-then-at-ge-MAX_TEXT-clause-same
returns-then-at-ge-MAX_TEXT-clause-same c = ap (tokens_from 0 c.args.at) c.requires.text ∙ beyond_next c.args.at c.args.b c.args.after.now c.requires.solid (omega arith) ∙ sym (c.stop.ensures _)

pub returns-in-None-clause-same : goal.returns-in-None-clause-same
returns-in-None-clause-same c = ap (tokens_from 0 c.args.at) c.requires.text ∙ unknown_next c.args.at c.args.b c.args.after.now c.in-None.ensures.piece ∙ sym (c.stop-in-None.ensures _)

-- what is left from a place on
whole_rest : (n : ℕ) (l : List ℕ) → n ≤ length l → drop n l ≡ take (length l - n) (drop n l)
whole_rest n l h = grind (arith, common_steps)

pub returns-in-Some-clause-same : goal.returns-in-Some-clause-same
returns-in-Some-clause-same c =
    ap (tokens_from 0 c.args.at) c.requires.text ∙ token_next c.args.at c.args.b c.args.after.now c.in-Some.kind c.in-Some.more c.in-Some.ensures.piece c.in-Some.ensures.within (omega arith)
    ∙ ap (λ l. with_token (record { kind = c.in-Some.kind; at = c.args.at }) (tokens_from 0 (c.args.at + 1 + c.in-Some.more) l)) (whole_rest c.in-Some.more c.args.after.now c.in-Some.ensures.within)
