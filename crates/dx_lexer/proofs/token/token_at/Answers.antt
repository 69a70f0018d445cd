use Rattle.std.proofs.Common.{arith}
use Rattle.dx_base.proofs.Tokens.Reached.{reached_placed}
use Rattle.dx_lexer.proofs.token.token_at.Goals as goal

pub split_at-requires : goal.split_at-requires
split_at-requires c = (reached_placed c.args.text.now c.args.at c.requires).offset

pub after_gap-requires : goal.after_gap-requires
after_gap-requires c =
    let placed = reached_placed c.args.text.now c.args.at c.requires in
    record {
      offset = omega (arith, c.split_at.ensures.back_len, placed.offset);
      line = placed.line;
      column = placed.column;
    }
