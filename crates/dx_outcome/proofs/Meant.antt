-- What a line comes to is what the meaning gives for it.
use Rattle.std.proofs.Common.{◌≡◌, ℕ, List, [], ◌∷◌, ◌++◌, map, Bool, true, false, Some, None, refl, sym, ap, ap₂, ◌∙◌, subst, append_assoc, append-nil}
use Rattle.std.specs.Prelude.{is_some, ◌||◌, if◌then◌else◌}
use Rattle.dx_ast.specs.Syntax.{Stmts}
use Rattle.dx_getting.specs.Stands.{Answers}
use Rattle.dx_getting.proofs.TellLaws.{runs-append}
use Rattle.dx_io.specs.Devices.{FileMap}
use Rattle.dx_looking.specs.Setting.{fixed}
use Rattle.dx_machine.specs.Machine.{tasks_of, runs_in}
use Rattle.dx_meaning.specs.Outcome.{Use}
use Rattle.dx_performing.specs.Execution.{Current}
use Rattle.dx_performing.specs.Kept.{new as none_kept}
use Rattle.dx_shown.specs.Alike.{shown_by, meant_of as meant_of_one}
use Rattle.dx_shown.specs.Listed.{of_executions, any_error}
use Rattle.dx_shown.specs.Made.{Meant, Coursed}
use Rattle.dx_shown.specs.Session.{Shown, Executes, PlayTooLong, FrameRange, Done, initial}
use Rattle.dx_shown.proofs.Alike.{sessions_are_meant}
use Rattle.dx_telling.specs.Behind.{error_text, if_asked, links_text}
use Rattle.dx_telling.specs.Shown.{text_of}
use Rattle.dx_telling.specs.declared.listings.Listings.{Listings}
use Rattle.dx_words.specs.declared.words.Words.{Words}
use Rattle.dx_outcome.specs.Laws.{OutcomesAreMeant, RunsAreDemanded}
use Rattle.dx_outcome.specs.Meaning.{IfSaid, meant_text, meant_texts, some_error, meant_of, meaning, AreSplit}
use Rattle.dx_outcome.specs.Outcome.{seen_of, listings_of, shown_of, status_of, outcome, texts_of, exports_of, runs_of}
use Rattle.dx_outcome.specs.Plan.{Plan, NoLine, Refuses, Performs}
use Rattle.dx_outcome.proofs.Course.{RunsDemanded, runs_demanded}
use Rattle.dx_outcome.proofs.Folding.{AllFine}
use Rattle.dx_outcome.proofs.Loaded.{IsLawfulPlan, plan_lawful}

-- what the cache machine shows, as what is meant
abbrev as_meant : List (Shown Coursed) → List (Shown Meant)
as_meant shown = map (shown_by meant_of_one) shown

pub meant_alike : (answer : Answers) (files : FileMap) (said : Words) (ss : Stmts) → meant_of answer files ss ≡ as_meant (shown_of answer files said ss)
meant_alike answer files said ss = ap (λ (d : Done Current Meant). d.shown) (sessions_are_meant (fixed answer files said.budget) (initial none_kept) ss tt).0

-- ---- texts, files and errors

text_alike : (links : Bool) (s : Shown Coursed) → text_of (record { trace = false; links = links }) s ≡ meant_text links (shown_by meant_of_one s)
text_alike links (Executes c) =
    let error = error_text c.execution.error in
    let listed = if_asked links (links_text c.behind.links) in
    ap (λ (t : List ℕ). c.execution.printed ++ (t ++ listed)) (append-nil error) ∙ sym (append_assoc c.execution.printed error listed)
text_alike links PlayTooLong = refl
text_alike links FrameRange = refl

seen_text : (asked : Listings) (s : Shown Coursed) → (seen_of asked s).text ≡ text_of asked s
seen_text asked (Executes c) = refl
seen_text asked PlayTooLong = refl
seen_text asked FrameRange = refl

texts_alike : (asked : Listings) (shown : List (Shown Coursed)) → asked.trace ≡ false → texts_of (map (seen_of asked) shown) ≡ meant_texts asked.links (as_meant shown)
texts_alike asked [] off = refl
texts_alike asked (s ∷ rest) off =
    ap₂ (λ a b. a ++ b)
    (seen_text asked s ∙ ap (λ (b : Bool). text_of (record { trace = b; links = asked.links }) s) off ∙ text_alike asked.links s)
    (texts_alike asked rest off)

exports_alike : (asked : Listings) (shown : List (Shown Coursed)) → exports_of (map (seen_of asked) shown) ≡ of_executions (λ (m : Meant). m.execution.exports) (as_meant shown)
exports_alike asked [] = refl
exports_alike asked (Executes c ∷ rest) = ap (λ es. c.execution.exports ++ es) (exports_alike asked rest)
exports_alike asked (PlayTooLong ∷ rest) = exports_alike asked rest
exports_alike asked (FrameRange ∷ rest) = exports_alike asked rest

errors_alike : (shown : List (Shown Coursed)) → any_error shown ≡ some_error (as_meant shown)
errors_alike [] = refl
errors_alike (Executes c ∷ rest) = ap (λ b. is_some c.execution.error || b) (errors_alike rest)
errors_alike (PlayTooLong ∷ rest) = ap (λ b. true || b) (errors_alike rest)
errors_alike (FrameRange ∷ rest) = ap (λ b. true || b) (errors_alike rest)

said_text : (answer : Answers) (files : FileMap) (said : Words) (ss : Stmts) (b : Bool) → said.trace ≡ b →
    IfSaid (if b then None else Some (meant_texts said.links (meant_of answer files ss))) (λ text. texts_of (map (seen_of (listings_of said)) (shown_of answer files said ss)) ≡ text)
said_text answer files said ss true e = tt
said_text answer files said ss false e = texts_alike (listings_of said) (shown_of answer files said ss) e ∙ sym (ap (meant_texts said.links) (meant_alike answer files said ss))

pub outcomes_meant : OutcomesAreMeant
outcomes_meant answer files NoLine = record { status = refl; text = append-nil _; exports = refl }
outcomes_meant answer files (Refuses reads why) = record { status = refl; text = append-nil _; exports = refl }
outcomes_meant answer files (Performs reads said ss) =
    let shown = shown_of answer files said ss in
    let alike = meant_alike answer files said ss in
    record {
      status = ap status_of (errors_alike shown ∙ sym (ap some_error alike));
      text = said_text answer files said ss said.trace refl;
      exports = exports_alike (listings_of said) shown ∙ sym (ap (of_executions (λ (m : Meant). m.execution.exports)) alike);
    }

-- ---- runs

abbrev demands : List (Shown Meant) → List (List Use)
demands shown = of_executions (λ (m : Meant). m.execution.demanded ∷ []) shown

runs_split : (asked : Listings) (shown : List (Shown Coursed)) → AllFine RunsDemanded shown → AreSplit (runs_in (runs_of (map (seen_of asked) shown))) (demands (as_meant shown))
runs_split asked [] h = refl
runs_split asked (Executes c ∷ rest) h =
    (runs_in (tasks_of c.events), runs_in (runs_of (map (seen_of asked) rest)), runs-append (tasks_of c.events) (runs_of (map (seen_of asked) rest)), h.0, runs_split asked rest h.1)
runs_split asked (PlayTooLong ∷ rest) h = runs_split asked rest h
runs_split asked (FrameRange ∷ rest) h = runs_split asked rest h

plan_split : (answer : Answers) (files : FileMap) (p : Plan) → IsLawfulPlan p → AreSplit (runs_in (runs_of (outcome answer files p).seen)) (meaning answer files p).demanded
plan_split answer files NoLine h = refl
plan_split answer files (Refuses reads why) h = refl
plan_split answer files (Performs reads said ss) h =
    subst (λ (shown : List (Shown Meant)). AreSplit (runs_in (runs_of (map (seen_of (listings_of said)) (shown_of answer files said ss)))) (demands shown))
    (sym (meant_alike answer files said ss))
    (runs_split (listings_of said) (shown_of answer files said ss) (runs_demanded (fixed answer files said.budget) ss h))

pub runs_are_split : RunsAreDemanded
runs_are_split words files answer p is = plan_split answer files p (plan_lawful words files p is)
