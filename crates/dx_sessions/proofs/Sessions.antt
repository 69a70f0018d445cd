-- The statements of a session one after the other.
use Rattle.std.proofs.Common.{◌≡◌, List, [], ◌∷◌, ◌++◌, length, Bool, false, ◌||◌, refl, sym, ap, ap₂, subst, ◌∙◌, append_assoc, append-nil, arith}
use Rattle.dx_ast.specs.declared.statements.Stmt.{Stmt as CodeStmt}
use Rattle.dx_ast.specs.Lawful.{IsLawful, AreLawful}
use Rattle.dx_ast.specs.Plain.{plain_stmt, plain_stmts}
use Rattle.dx_performing.specs.Course.{Fixed}
use Rattle.dx_performing.specs.Kept.{Kept}
use Rattle.dx_engine.specs.Keeping.{IsSoundState}
use Rattle.dx_engine.specs.Executing.{Devices}
use Rattle.dx_shown.specs.Made.{Coursed}
use Rattle.dx_shown.specs.Session.{Done, Making, Shown, State, and_then, silently, statement, statements}
use Rattle.dx_shown.specs.Listed.{any_error}
use Rattle.dx_telling.specs.declared.listings.Listings.{Listings}
use Rattle.dx_sessions.specs.Does.{IsWhole, IsCutShort, IsDone}
use Rattle.dx_sessions.specs.SessionView.{state_of}
use Rattle.dx_sessions.specs.declared.session.Session.{Session}
use Rattle.dx_sessions.proofs.Folding.{none_whole, whole_on, errors_append, cut_later, cut_with_more}

abbrev pub behind : List (Shown Coursed) → Done Kept Coursed → Done Kept Coursed
behind shown d = record { shown = shown ++ d.shown; state = d.state }

-- what was shown since, that the rest makes the whole, and that what is kept is sound
pub record SoFar (x : Fixed) (l : Listings) (whole rest : Done Kept Coursed) (was : Devices) (erred : Bool) (new : Session) (now : Devices) : Type 0 where
  pub front : List (Shown Coursed)
  pub done : IsWhole l front was now
  pub errs : erred ≡ any_error front
  pub left : whole ≡ behind front rest
  pub sound : IsSoundState x new.state

pub begins : (x : Fixed) (l : Listings) (whole : Done Kept Coursed) (was : Devices) (new : Session) → IsSoundState x new.state → SoFar x l whole whole was false new was
begins x l whole was new sound = record { front = []; done = none_whole l was; errs = refl; left = refl; sound = sound }

behind_twice : (a b : List (Shown Coursed)) (d : Done Kept Coursed) → behind a (behind b d) ≡ behind (a ++ b) d
behind_twice a b d = ap (λ (shown : List (Shown Coursed)). let e : Done Kept Coursed = record { shown = shown; state = d.state } in e) (sym (append_assoc a b d.shown))

-- one more was done
pub goes_on : (x : Fixed) (l : Listings) (whole rest one : Done Kept Coursed) (next : State Kept → Done Kept Coursed) (erred failed : Bool) (old new : Session) (was between now : Devices)
    → rest ≡ and_then one next → IsDone x l one between failed new now
    → SoFar x l whole rest was erred old between → SoFar x l whole (next (state_of new)) was (erred || failed) new now
goes_on x l whole rest one next erred failed old new was between now is done so_far = record {
  front = so_far.front ++ one.shown;
  done = whole_on l so_far.front one.shown was between now so_far.done done.whole;
  errs = ap₂ (λ (p q : Bool). p || q) so_far.errs done.erred ∙ sym (errors_append so_far.front one.shown);
  left = so_far.left ∙ ap (behind so_far.front) is ∙ behind_twice so_far.front one.shown (next one.state) ∙ ap (λ (st : State Kept). behind (so_far.front ++ one.shown) (next st)) (sym done.state);
  sound = done.sound;
}

-- one was cut short
pub is_cut : (ahead : Bool) (x : Fixed) (l : Listings) (whole rest one : Done Kept Coursed) (next : State Kept → Done Kept Coursed) (erred : Bool) (old : Session) (was between now : Devices)
    → rest ≡ and_then one next → IsCutShort ahead l one.shown between now → SoFar x l whole rest was erred old between → IsCutShort ahead l whole.shown was now
is_cut ahead x l whole rest one next erred old was between now is cut so_far =
    let more = (next one.state).shown in
    let split : whole.shown ≡ so_far.front ++ (one.shown ++ more) = ap (λ (d : Done Kept Coursed). d.shown) (so_far.left ∙ ap (behind so_far.front) is) in
    subst (λ (shown : List (Shown Coursed)). IsCutShort ahead l shown was now) (sym split)
    (cut_later ahead l so_far.front (one.shown ++ more) was between now so_far.done (cut_with_more ahead l one.shown more between now cut))

-- nothing is left
pub is_done : (x : Fixed) (l : Listings) (whole rest : Done Kept Coursed) (erred : Bool) (new : Session) (was now : Devices) (st : State Kept)
    → rest ≡ silently st → SoFar x l whole rest was erred new now → IsWhole l whole.shown was now × (erred ≡ any_error whole.shown)
is_done x l whole rest erred new was now st is so_far =
    let all : whole.shown ≡ so_far.front = ap (λ (d : Done Kept Coursed). d.shown) (so_far.left ∙ ap (behind so_far.front) is) ∙ append-nil so_far.front in
    (subst (λ (shown : List (Shown Coursed)). IsWhole l shown was now) (sym all) so_far.done, so_far.errs ∙ ap any_error (sym all))

-- ---- the statements of a session

pub nothing_left : {X : Type 0} (l : List X) → length l ≡ 0 → l ≡ []
nothing_left [] h = refl
nothing_left (x ∷ xs) h = absurd (omega arith)

abbrev lawful_all : List CodeStmt → Type 0
lawful_all all = AreLawful (plain_stmts all)

pub lawful_head : (all : List CodeStmt) (s : CodeStmt) (others : List CodeStmt) → all ≡ s ∷ others → AreLawful (plain_stmts all) → IsLawful (plain_stmt s)
lawful_head all s others is h = let split : lawful_all (s ∷ others) = subst lawful_all is h in split.0

pub lawful_tail : (all : List CodeStmt) (s : CodeStmt) (others : List CodeStmt) → all ≡ s ∷ others → AreLawful (plain_stmts all) → AreLawful (plain_stmts others)
lawful_tail all s others is h = let split : lawful_all (s ∷ others) = subst lawful_all is h in split.1

-- a statement and the others
pub next_statement : (make : Making Kept Coursed) (st : State Kept) (all : List CodeStmt) (s : CodeStmt) (others : List CodeStmt) → all ≡ s ∷ others
    → statements make st (plain_stmts all) ≡ and_then (statement make st (plain_stmt s)) (λ next. statements make next (plain_stmts others))
next_statement make st all s others is = ap (λ (ss : List CodeStmt). statements make st (plain_stmts ss)) is

pub no_statement : (make : Making Kept Coursed) (st : State Kept) (all : List CodeStmt) → all ≡ [] → statements make st (plain_stmts all) ≡ silently st
no_statement make st all is = ap (λ (ss : List CodeStmt). statements make st (plain_stmts ss)) is
