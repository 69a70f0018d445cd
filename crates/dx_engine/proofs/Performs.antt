-- What the performing of an effect comes to, by what its arguments come to.
use Rattle.std.proofs.Common.{ℕ, List, sym, subst}
use Rattle.std.specs.Prelude.{Result, Ok, Err, IfOk}
use Rattle.dx_base.specs.declared.function.Effect.{Effect}
use Rattle.dx_machine.specs.Machine.{State, Got, state_at}
use Rattle.dx_machine.specs.Sound.{IsSound}
use Rattle.dx_tags.specs.declared.term.Term.{Term}
use Rattle.dx_getting.specs.Told.{Told}
use Rattle.dx_graph.specs.Graph.{node_at}
use Rattle.dx_demand.specs.Memo.{answers_of, site_of}
use Rattle.dx_meaning.specs.Forming.{Formings}
use Rattle.dx_performing.specs.Kept.{Kept}
use Rattle.dx_performing.specs.Course.{Fixed, around_of, formed_calls}
use Rattle.dx_performing.specs.Meant.{LinksRight}
use Rattle.dx_looking.specs.Setting.{nodes_in, sight_in}
use Rattle.dx_looking.specs.Looking.{IsLooking, StandsAt, IsCutIn}
use Rattle.dx_looking.specs.declared.cut.Cut.{Cut}
use Rattle.dx_looking.specs.declared.setup.Setup.{Setup}
use Rattle.dx_looking.specs.declared.progress.Progress.{Progress}
use Rattle.dx_looking.proofs.SelectorGot.{same_itself}
use Rattle.dx_effects.specs.Coming.{MeanSo, EndSo, ArgumentsAlike, ArgumentsHalted, ArgumentsSo, ArgumentsValued, node_trees}
use Rattle.dx_effects.specs.declared.came.Arguments.{Arguments}
use Rattle.dx_effects.specs.declared.came.Arguments.TheVariants as arguments
use Rattle.dx_engine.specs.Doing.{DoneSo, PerformsSo, node_looked, node_formed, node_got}
use Rattle.dx_engine.specs.Answering.{DoneBy, EndsWhere}
use Rattle.dx_engine.specs.declared.done.Done.{Done}
use Rattle.dx_engine.proofs.Stopped.{goes_on, stopped_there}
use Rattle.dx_engine.proofs.Valued.{all_valued}
use Rattle.dx_engine.proofs.Performed.{with_values_done, off_done, halt_done, refused_done, selector_done, cut_behind}

-- where the machine ended
ended_there : (terms : List Term) (how : Arguments) (P : State → Type 0) (g : Got) → EndSo terms how P g → P (state_at g)
ended_there terms (arguments.Values ts vs) P g h = goes_on P g h
ended_there terms arguments.Off P g h = goes_on P g h
ended_there terms (arguments.Halt m code) P g h = goes_on P g h
ended_there terms (arguments.SelectorRefused m r) P g h = stopped_there terms r P g h
ended_there terms (arguments.Refused r) P g h = stopped_there terms r P g h

-- what is known by what is told
pub record IsTold (setup : Setup) (n : ℕ) (at : Progress) (how : Arguments) : Type 0 where
  pub valued : ArgumentsValued (answers_of at.seen.memo) (node_at (nodes_in setup) n).inputs how
  pub halted : ArgumentsHalted (sight_in setup at) (nodes_in setup) (node_trees setup n) how

module _ (setup : Setup) (x : Fixed) (k : Kept) (right : LinksRight (around_of x k) k.links) (base : Told) (n : ℕ) (e : Effect) (s : State) (f : Formings) (sound : IsSound (around_of x k) x.budget s) (at : Progress) (now : Told) (l : IsLooking setup at) where
  abbrev Stands : State → Type 0
  Stands s' = StandsAt setup x k base at now s' (node_formed setup x k n f)

  abbrev got : Got
  got = node_got setup x k n s f

  does : (how : Arguments) → IsTold setup n at how → ArgumentsAlike setup x k (node_trees setup n) (Ok how) at → MeanSo (around_of x k) (nodes_in setup) at.tags how (node_looked setup x k n).terms → EndSo at.tags how Stands got → (d : Done) → DoneBy setup at n e how d → DoneSo setup x k base n e s f d at now
  does (arguments.Values ts vs) w a m h d by = with_values_done setup x k right base n e s f sound at now l ts vs d m h by
  does arguments.Off w a m h d by = subst (λ y. DoneSo setup x k base n e s f y at now) (sym by) (off_done setup x k right base n e s f sound at now l m h)
  does (arguments.Halt o code) w a m h d by = subst (λ y. DoneSo setup x k base n e s f y at now) (sym by) (halt_done setup x k right base n e s f sound at now l o code m h)
  does (arguments.SelectorRefused o r) w a m h d by = selector_done setup x k right base n e s f sound at now l (site_of (nodes_in setup) o) m.0 m.1 (sym a) r h d (subst (λ calls. EndsWhere setup at calls r d) (sym w.halted.1) by)
  does (arguments.Refused r) w a m h d by =
      let forms = all_valued (sight_in setup at) (nodes_in setup) at.tags at.seen.memo l.right.memo (node_at (nodes_in setup) n).inputs w.valued in
      refused_done setup x k right base n e s f sound at now l forms.0 forms.1 m.1 r h d by

  by_answer : (how : Arguments) → IsTold setup n at how → ArgumentsAlike setup x k (node_trees setup n) (Ok how) at → MeanSo (around_of x k) (nodes_in setup) at.tags how (node_looked setup x k n).terms → EndSo at.tags how Stands got → (r : Result Done Cut) → IfOk r (λ d. DoneBy setup at n e how d) → PerformsSo setup x k base n e s f r at now
  by_answer how w a m h (Ok d) by = does how w a m h d by
  by_answer how w a m h (Err cut) by = cut_behind setup x k right base n e s f sound at now l (ended_there at.tags how Stands got h)

  pub performs : (how : Arguments) → IsTold setup n at how → ArgumentsAlike setup x k (node_trees setup n) (Ok how) at → ArgumentsSo setup x k base (node_trees setup n) s f (Ok how) at now → (r : Result Done Cut) → IfOk r (λ d. DoneBy setup at n e how d) → PerformsSo setup x k base n e s f r at now
  performs how w a h r by =
      let formed = formed_calls (node_formed setup x k n f) in
      by_answer how w a h.0 (h.1 formed (same_itself formed)) r by

-- cut short before
pub cut_arguments : (setup : Setup) (x : Fixed) (k : Kept) (base : Told) (n : ℕ) (s : State) (f : Formings) (at : Progress) (now : Told) (cut : Cut) → ArgumentsSo setup x k base (node_trees setup n) s f (Err cut) at now → IsCutIn base now (node_got setup x k n s f)
cut_arguments setup x k base n s f at now cut h =
    let formed = formed_calls (node_formed setup x k n f) in
    h formed (same_itself formed)
