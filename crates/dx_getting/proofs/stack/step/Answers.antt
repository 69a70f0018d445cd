use Rattle.std.proofs.Common.{◌≡◌, ◌∙◌, ◌<◌, ◌≤◌, ◌+◌, ℕ, List, [], ◌∷◌, ◌++◌, length, sym, ap, ap₂, subst, Option, Some, None, refl, arith, is_some, true, false}
use Rattle.std.specs.Prelude.{slice_get, nat_eq, Ok, Err, Result}
use Rattle.std.proofs.lemmas.Result.{err_from_is_err_and}
use Rattle.dx_objects.specs.Values.{value_of}
use Rattle.dx_tags.specs.declared.term.ValueTag.{ValueTag}
use Rattle.dx_tags.specs.Closed.{heads_of, value_term, value_terms}
use Rattle.dx_links.specs.Denotes.{denotes}
use Rattle.dx_machine.specs.Machine.{State, get}
use Rattle.dx_getting.specs.declared.fail.GetFail.TheVariants.{Memory}
use Rattle.dx_getting.specs.Told.{told}
use Rattle.dx_getting.specs.Stands.{setting_of, frame_of, around_of, world, Stands, WentTo, FailsAt, GetsCall, IsReady}
use Rattle.dx_getting.specs.Stack.{rest_in, rest_of, lowest, left_of, IsStepped, GoesOn}
use Rattle.dx_getting.proofs.NextLaws.{next_run}
use Rattle.dx_getting.specs.Stack.{NextIs}
use Rattle.dx_getting.proofs.stack.step.Goals as goal

pub next_of-requires : goal.next_of-requires
next_of-requires g c =
    record { call = ((setting_of c.args.scene.now (g.S.Sites.formed c.args.sites.now)), refl, c.requires.stack.0) }

pub take_argument-requires-clause-arg : goal.take_argument-requires-clause-arg
take_argument-requires-clause-arg g c =
    rw c.in-Argument.is at c.next_of.ensures (setting_of c.args.scene.now (g.S.Sites.formed c.args.sites.now)) refl c.requires.stack.0

pub finish-requires-clause-ready : goal.finish-requires-clause-ready
finish-requires-clause-ready g c =
    next_run (setting_of c.args.scene.now (g.S.Sites.formed c.args.sites.now)) c.args.top.now c.in-Run.module c.in-Run.own (rw c.in-Run.is at c.next_of.ensures (setting_of c.args.scene.now (g.S.Sites.formed c.args.sites.now)) refl c.requires.stack.0)

pub returns-in_err-take_argument-in-Argument-clause-gets : goal.returns-in_err-take_argument-in-Argument-clause-gets
returns-in_err-take_argument-in-Argument-clause-gets g c =
    λ map told_map links base s h i j.
    let p = err_from_is_err_and c.from_residual.result c.from_residual.ensures.1 in
    rw (p.1, p.2) (c.in_err-take_argument-in-Argument.ensures.gets (world g.L.Library.answer map) base (told (g.L.Library.done c.args.lib.now) (g.F.Files.asked c.args.files.now)) s links h i j)

pub returns-in_ok-take_argument-in-Argument-clause-gets : goal.returns-in_ok-take_argument-in-Argument-clause-gets
returns-in_ok-take_argument-in-Argument-clause-gets g c =
    λ map told_map links base s h i j. c.in_ok-take_argument-in-Argument.ensures.gets (world g.L.Library.answer map) base (told (g.L.Library.done c.args.lib.now) (g.F.Files.asked c.args.files.now)) s links h i j
