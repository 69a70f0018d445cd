-- What is loaded is lawful.
use Rattle.std.proofs.Common.{◌≡◌, ℕ, zero, suc, ◌≤◌, length, List, [], ◌∷◌, Option, Some, None, Bool, true, false, Result, Ok, Err, refl, sym, subst, inl, inr, arith}
use Rattle.std.proofs.lemmas.Bool.Decides.{nat_tests}
use Rattle.dx_io.specs.Devices.{FileMap}
use Rattle.dx_ast.specs.declared.statements.Stmt.{Stmt}
use Rattle.dx_ast.specs.declared.statements.Stmt.TheVariants as stmt
use Rattle.dx_ast.specs.Plain.{plain_stmts}
use Rattle.dx_ast.specs.Lawful.{AreLawful}
use Rattle.dx_script_laws.proofs.LawfulScripts.{lawful}
use Rattle.dx_include.proofs.LawfulParts.{lawful_push}
use Rattle.dx_include.specs.declared.fail.LoadFail.{LoadFail}
use Rattle.dx_include.specs.declared.loaded.Loaded.{Loaded}
use Rattle.dx_include.specs.Loading.{Name, Loading, Loads, GoesOn, Splices, LoadsText, LoadsUnlessLong, LoadsFile, LoadsWithin, nothing, with_statement, with_text, is_too_long}
use Rattle.dx_words.specs.declared.words.Job.{Job}
use Rattle.dx_words.specs.declared.words.Job.TheVariants.{Session, Workload}
use Rattle.dx_outcome.specs.Plan.{Plan, NoLine, Refuses, Performs, IsPlan, LoadsJob, workload_file, workload_name}
use Rattle.dx_outcome.specs.Plan.IsPlan.{no_line, refused as is_refused, performed}

abbrev IsLawfulSoFar : Loaded → Type 0
IsLawfulSoFar so_far = AreLawful (plain_stmts so_far.statements)

abbrev EndsLawful : Result Loaded LoadFail → Type 0
EndsLawful (Ok loaded) = IsLawfulSoFar loaded
EndsLawful (Err why) = Unit {0}

-- what is loaded behind something lawful
abbrev AreLawfulLoads : Loads → Type 0
AreLawfulLoads loads = (so_far : Loaded) (name : Name) (l : Loading) → IsLawfulSoFar so_far → loads so_far name l → EndsLawful l.ends

goes_on : (reads : List Name) (ends : Result Loaded LoadFail) (next : Loaded → Loading → Type 0) (l : Loading) → EndsLawful ends
    → ((so_far : Loaded) (m : Loading) → IsLawfulSoFar so_far → next so_far m → EndsLawful m.ends) → GoesOn reads ends next l → EndsLawful l.ends
goes_on reads (Ok so_far) next l h f g = subst (λ (m : Loading). EndsLawful m.ends) (sym g.2) (f so_far g.0 h g.1)
goes_on reads (Err why) next l h f g = subst (λ (m : Loading). EndsLawful m.ends) (sym g) tt

splices : (loads : Loads) → AreLawfulLoads loads → (ss : List Stmt) → AreLawful (plain_stmts ss) → (so_far : Loaded) (l : Loading) → IsLawfulSoFar so_far → Splices loads ss so_far l → EndsLawful l.ends
splices loads f [] a so_far l h g = subst (λ (m : Loading). EndsLawful m.ends) (sym g) h
splices loads f (stmt.Include name ∷ others) a so_far l h g = goes_on g.0.reads g.0.ends (Splices loads others) l (f so_far name g.0 h g.1) (λ next m q r. splices loads f others a.1 next m q r) g.2
splices loads f (s ∷ others) a so_far l h g = splices loads f others a.1 (with_statement so_far s) l (lawful_push so_far.statements s h a.0) g

short : (so_far : Loaded) (text : List ℕ) → is_too_long so_far text ≡ false → length text ≤ 16777216
short so_far text h = grind (arith, nat_tests, h)

loads_text : (loads : Loads) → AreLawfulLoads loads → (so_far : Loaded) (name : Name) (text : List ℕ) (l : Loading) → IsLawfulSoFar so_far → length text ≤ 16777216 → LoadsText loads so_far name text l → EndsLawful l.ends
loads_text loads f so_far name text l h few (inl e) = subst (λ (m : Loading). EndsLawful m.ends) (sym e.2) tt
loads_text loads f so_far name text l h few (inr g) = subst (λ (m : Loading). EndsLawful m.ends) (sym g.4) (splices loads f g.0 (lawful text g.0 g.2 few) (with_text so_far text) g.1 h g.3)

unless_long : (b : Bool) (loads : Loads) → AreLawfulLoads loads → (so_far : Loaded) (name : Name) (text : List ℕ) (l : Loading) → IsLawfulSoFar so_far → is_too_long so_far text ≡ b → LoadsUnlessLong b loads so_far name text l → EndsLawful l.ends
unless_long true loads f so_far name text l h e g = subst (λ (m : Loading). EndsLawful m.ends) (sym g) tt
unless_long false loads f so_far name text l h e g = loads_text loads f so_far name text l h (short so_far text e) g

loads_file : (loads : Loads) → AreLawfulLoads loads → (so_far : Loaded) (name : Name) (o : Option (List ℕ)) (l : Loading) → IsLawfulSoFar so_far → LoadsFile loads so_far name o l → EndsLawful l.ends
loads_file loads f so_far name None l h g = subst (λ (m : Loading). EndsLawful m.ends) (sym g) tt
loads_file loads f so_far name (Some text) l h g = unless_long (is_too_long so_far text) loads f so_far name text l h refl g

within : (levels : ℕ) (files : FileMap) → AreLawfulLoads (LoadsWithin levels files)
within zero files so_far name l h g = subst (λ (m : Loading). EndsLawful m.ends) (sym g) tt
within (suc levels) files so_far name l h g = loads_file (LoadsWithin levels files) (within levels files) so_far name (files name) l h g

job_lawful : (files : FileMap) (job : Job) (l : Loading) → LoadsJob files job l → EndsLawful l.ends
job_lawful files (Session name) l g = within 16 files nothing name l tt g
job_lawful files (Workload n) l g = subst (λ (m : Loading). EndsLawful m.ends) (sym g.2) (within 16 (workload_file n) nothing workload_name g.0 tt g.1)

abbrev pub IsLawfulPlan : Plan → Type 0
IsLawfulPlan NoLine = Unit {0}
IsLawfulPlan (Refuses reads why) = Unit {0}
IsLawfulPlan (Performs reads said ss) = AreLawful ss

pub plan_lawful : (words : List (List ℕ)) (files : FileMap) (p : Plan) → IsPlan words files p → IsLawfulPlan p
plan_lawful words files _ (no_line e) = tt
plan_lawful words files _ (is_refused said l why is loads ends) = tt
plan_lawful words files _ (performed said l loaded is loads ends) = subst EndsLawful ends (job_lawful files said.job l loads)
