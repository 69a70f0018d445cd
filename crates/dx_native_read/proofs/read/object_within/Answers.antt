use Rattle.std.proofs.Common.{◌≡◌, List, None, sym, ap, subst, ◌∙◌}
use Rattle.dx_native_clauses.specs.Outline.{clause_arrays}
use Rattle.dx_native_grammar.specs.Meaning.{clauses_fault, object_or, tree_at}
use Rattle.dx_native_grammar.specs.declared.clause.Clause.{Clause}
use Rattle.dx_native_sound.specs.Sound.{Every, IsSound}
use Rattle.dx_native_read.specs.Answer.{Means}
use Rattle.dx_native_read.specs.Found.{read_tree}
use Rattle.dx_native_read.proofs.read.object_within.Goals as goal

pub object_from-requires : goal.object_from-requires
object_from-requires c =
    let same = sym c.in_ok-lifted.ensures.outlines in
    record {
      arrays = c.in_ok-lifted.ensures.arrays ∙ ap clause_arrays same;
      sound = subst (λ (cs : List Clause). Every IsSound cs) same c.requires.sound;
      references = subst (λ (cs : List Clause). clauses_fault cs cs ≡ None) same c.requires.references;
      levels = subst (λ (cs : List Clause). tree_at cs 64 c.args.i ≡ None → ⊥) same c.requires.levels;
    }

pub returns-clause-means : goal.returns-clause-means
returns-clause-means c = subst (λ (cs : List Clause). Means (object_or (tree_at cs 64 c.args.i) c.args.at) (read_tree c.object_from.result)) c.in_ok-lifted.ensures.outlines c.object_from.ensures.means
