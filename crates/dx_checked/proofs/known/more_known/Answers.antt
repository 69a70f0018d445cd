use Rattle.std.proofs.Common.{◌≡◌, ◌<◌, ◌+◌, ◌++◌, ◌∷◌, [], ℕ, suc, length, subst, refl, arith}
use Rattle.dx_definitions.specs.TopTexts.{TopText, definition}
use Rattle.dx_macros.specs.DictionaryView.{dictionary_of}
use Rattle.dx_checked.specs.Known.{DefinitionFits, FirstFit}
use Rattle.dx_checked.proofs.Definitions.{learned, total_more}
use Rattle.dx_checked.proofs.known.more_known.Goals as goal

pub loop-i-preserved : goal.loop-i-preserved
loop-i-preserved c =
    let d = dictionary_of c.args.d.now in
    let i = c.loop-i.i in
    let at = c.loop-i.invariant in
    let is = at.known in
    let r = c.in-Some.ensures in
    let below : i < length d.definitions = (let test = c.loop-i-test.true in let end = c.len-i-end.ensures in omega (arith, test, end)) in
    let fits = subst (λ (t : TopText). DefinitionFits d.macros t r.0) c.definition.ensures r.3 in
    let first = subst (λ (k : ℕ). FirstFit d.macros k d.definitions is.own) at.so_far is.fit in
    let one : suc i ≡ i + 1 = omega arith in
    record {
      so_far = refl;
      known = record {
        own = is.own ++ r.0 ∷ [];
        fit = subst (λ (k : ℕ). FirstFit d.macros k d.definitions (is.own ++ r.0 ∷ [])) one (learned d.macros i d.definitions is.own r.0 below first fits);
        calls = (let more = total_more is.own r.0 in let was = is.calls in let now = r.1 in omega (arith, more, was, now));
        bound = r.2;
      };
    }
