use Rattle.std.proofs.Common.{◌≡◌, ◌∙◌, ◌+◌, ◌-◌, ℤ, Ok, w64, FitsSigned, to_z, of_z, length, rules, ap, sym}
use Rattle.std.proofs.lemmas.Int.{to_z-of_z}
use Rattle.dx_base.specs.Number.{signed, nearest_i64}
use Rattle.dx_native_lex.specs.Plain.{run, unsigned, is_negative}
use Rattle.dx_native_lex.proofs.PlainLaws.{plain_read}
use Rattle.dx_native_lex.proofs.number.plain_at.Goals as goal

pub returns-clause-read : goal.returns-clause-read
returns-clause-read c =
    let at = c.args.at in
    let rest = c.args.text.now in
    let n = c.in_ok-n.n in
    let after = c.in_ok-n.after.now in
    let e = c.in_ok-n.ensures in
    let u = c.unsigned-negative.ensures.behind in
    let one : run 0 (unsigned rest) ≡ (n, after) = ap (run 0) (sym u) ∙ e.run in
    let many : c.in_ok-n.len + length after ≡ length (unsigned rest) = e.len ∙ ap length u in
    let f : FitsSigned w64 c.valued-value.result = search rules in
    let v : to_z w64 (of_z w64 c.valued-value.result) ≡ nearest_i64 (signed (is_negative rest) n) = to_z-of_z w64 _ f ∙ c.valued-value.ensures ∙ ap (λ b. nearest_i64 (signed b n)) c.unsigned-negative.ensures.minus in
    λ s place. plain_read s at n c.in_ok-n.len rest after place one many e.some e.ends
    ∙ ap (λ (z : ℤ). Ok (record { value = z; at = at }, record { offset = at + (length rest - length after); rest = after })) (sym v)
