use Rattle.std.proofs.Common.{rules, w32, FitsSigned, ◌≡◌, ◌∙◌, ℤ, true, refl, ap, subst}
use Rattle.std.proofs.lemmas.Int.{to_z-of_z}
use Rattle.dx_io.specs.Devices.{Grows}
use Rattle.dx_ast.specs.declared.sequencing.Frames.{Frames}
use Rattle.dx_ast.specs.Plain.{plain_expr}
use Rattle.dx_performing.specs.Kept.{Kept}
use Rattle.dx_sequencer.specs.Sequencer.{is_refused}
use Rattle.dx_shown.specs.Made.{Coursed}
use Rattle.dx_shown.specs.Session.{set, setting, with_sequencer}
use Rattle.dx_telling.specs.Shown.{shown_texts}
use Rattle.dx_sessions.specs.SessionView.{state_of}
use Rattle.dx_sessions.proofs.Refusing.{err_refused, refused_sets}
use Rattle.dx_sessions.proofs.session.Session.set.Goals as goal

pub returns-in_ok-write_all-in-Err-clause-sets : goal.returns-in_ok-write_all-in-Err-clause-sets
returns-in_ok-write_all-in-Err-clause-sets g c =
    let fits : FitsSigned w32 c.setting-x.result = search rules in
    let number = to_z-of_z w32 c.setting-x.result fits ∙ c.setting-x.ensures ∙ ap (λ (f : Frames). setting f (plain_expr c.args.e)) c.frames.ensures in
    let st = state_of c.args.self.now in
    let l = c.args.self.now.listings in
    let was = g.O.Sink.written c.args.out.now in
    let now = g.O.Sink.written c.write_all.new.out in
    let P : ℤ → Type 0 = λ n. (true ≡ is_refused c.args.v n) × (c.args.self.now.state ≡ c.args.self.now.state) × (l ≡ l) × (with_sequencer c.set.new.self st ≡ (set {K = Kept} {X = Coursed} c.args.v n st).state)
    × Grows was now (shown_texts l (set {K = Kept} {X = Coursed} c.args.v n st).shown) in
    let done = refused_sets l c.args.v _ st c.set.new.self was now (err_refused _ c.set.result c.in-Err.field-0 c.in-Err.is c.set.ensures.refused) c.set.ensures.set
    (subst (Grows was now) c.frame_range.ensures c.in_ok-write_all-in-Err.ensures.writes) in
    subst P number (done.0, refl, refl, done.1, done.2)
