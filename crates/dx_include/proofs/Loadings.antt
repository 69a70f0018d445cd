-- The loading that is computed is the one that a session has, and no other is.
use Rattle.std.proofs.Common.{◌≡◌, ◌⊎◌, ℕ, zero, suc, List, [], ◌∷◌, Option, Some, None, Result, Ok, Err, Bool, true, false, refl, sym, ap, ◌∙◌, inl, inr}
use Rattle.dx_base.specs.declared.token.SyntaxError.{SyntaxError}
use Rattle.dx_io.specs.Devices.{FileMap}
use Rattle.dx_ast.specs.declared.statements.Stmt.{Stmt}
use Rattle.dx_ast.specs.declared.statements.Stmt.TheVariants as stmt
use Rattle.dx_ast.specs.Script.{IsScript, IsFirstError}
use Rattle.dx_include.specs.declared.loaded.Loaded.{Loaded}
use Rattle.dx_include.specs.declared.fail.LoadFail.{LoadFail}
use Rattle.dx_include.specs.Loading.{Name, Loading, Loads, GoesOn, Splices, LoadsText, LoadsUnlessLong, LoadsFile, LoadsWithin, IsLoading, max_levels, nothing, with_statement, with_text, is_too_long, behind, refused}
use Rattle.dx_include.specs.Computed.{Load, parsed, go_on, splice, of_parsed, of_length, of_file, load_within, loading_of}
use Rattle.dx_include.proofs.Texts.{Means, parsed_means, script_parsed, error_parsed}

-- ---- what is computed

goes_on_is : (reads : List Name) (r : Result Loaded LoadFail) (next : Loaded → Loading → Type 0) (f : Loaded → Loading) → ((x : Loaded) → next x (f x)) → GoesOn reads r next (go_on reads r f)
goes_on_is reads (Ok x) next f each = (f x, each x, refl)
goes_on_is reads (Err why) next f each = refl

abbrev Meets : Loads → Load → Type 0
Meets loads load = (so_far : Loaded) (name : Name) → loads so_far name (load so_far name)

spliced_is : (loads : Loads) (load : Load) → Meets loads load → (statements : List Stmt) (so_far : Loaded) → Splices loads statements so_far (splice load statements so_far)
unfolding splice
spliced_is loads load each [] so_far = refl
spliced_is loads load each (stmt.Include name ∷ others) so_far =
    (load so_far name, each so_far name, goes_on_is (load so_far name).reads (load so_far name).ends (Splices loads others) (splice load others) (spliced_is loads load each others))
spliced_is loads load each (s ∷ others) so_far = spliced_is loads load each others (with_statement so_far s)

parsed_is : (loads : Loads) (load : Load) → Meets loads load → (so_far : Loaded) (name : Name) (text : List ℕ) (r : Result (List Stmt) SyntaxError) → Means text r → LoadsText loads so_far name text (of_parsed load so_far name text r)
parsed_is loads load each so_far name text (Ok statements) m = inr (statements, splice load statements (with_text so_far text), m, spliced_is loads load each statements (with_text so_far text), refl)
parsed_is loads load each so_far name text (Err e) m = inl (e, m, refl)

length_is : (loads : Loads) (load : Load) → Meets loads load → (so_far : Loaded) (name : Name) (text : List ℕ) (long : Bool) → LoadsUnlessLong long loads so_far name text (of_length long load so_far name text)
length_is loads load each so_far name text true = refl
length_is loads load each so_far name text false = parsed_is loads load each so_far name text (parsed text) (parsed_means text)

file_is : (loads : Loads) (load : Load) → Meets loads load → (so_far : Loaded) (name : Name) (file : Option (List ℕ)) → LoadsFile loads so_far name file (of_file load so_far name file)
file_is loads load each so_far name None = refl
file_is loads load each so_far name (Some text) = length_is loads load each so_far name text (is_too_long so_far text)

within_is : (levels : ℕ) (files : FileMap) → Meets (LoadsWithin levels files) (load_within levels files)
unfolding load_within
within_is zero files so_far name = refl
within_is (suc levels) files so_far name = file_is (LoadsWithin levels files) (load_within levels files) (within_is levels files) so_far name (files name)

pub is_loading : (files : FileMap) (name : Name) → IsLoading files name (loading_of files name)
is_loading files name = within_is max_levels files nothing name

-- ---- no other

abbrev Only : Loads → Load → Type 0
Only loads load = (so_far : Loaded) (name : Name) (l : Loading) → loads so_far name l → l ≡ load so_far name

only_on : (reads : List Name) (r : Result Loaded LoadFail) (next : Loaded → Loading → Type 0) (f : Loaded → Loading) → ((x : Loaded) (m : Loading) → next x m → m ≡ f x) → (l : Loading) → GoesOn reads r next l → l ≡ go_on reads r f
only_on reads (Ok x) next f each l h = h.2 ∙ ap (behind reads) (each x h.0 h.1)
only_on reads (Err why) next f each l h = h

only_spliced : (loads : Loads) (load : Load) → Only loads load → (statements : List Stmt) (so_far : Loaded) (l : Loading) → Splices loads statements so_far l → l ≡ splice load statements so_far
unfolding splice
only_spliced loads load each [] so_far l h = h
only_spliced loads load each (stmt.Include name ∷ others) so_far l h =
    only_on h.0.reads h.0.ends (Splices loads others) (splice load others) (only_spliced loads load each others) l h.2 ∙ ap (λ (one : Loading). go_on one.reads one.ends (splice load others)) (each so_far name h.0 h.1)
only_spliced loads load each (s ∷ others) so_far l h = only_spliced loads load each others (with_statement so_far s) l h

only_text : (loads : Loads) (load : Load) → Only loads load → (so_far : Loaded) (name : Name) (text : List ℕ) (l : Loading) → LoadsText loads so_far name text l → l ≡ of_parsed load so_far name text (parsed text)
only_text loads load each so_far name text l (inl h) = h.2 ∙ ap (of_parsed load so_far name text) (sym (error_parsed text h.0 h.1))
only_text loads load each so_far name text l (inr h) =
    h.4 ∙ ap (behind (name ∷ [])) (only_spliced loads load each h.0 (with_text so_far text) h.1 h.3) ∙ ap (of_parsed load so_far name text) (sym (script_parsed text h.0 h.2))

only_length : (loads : Loads) (load : Load) → Only loads load → (so_far : Loaded) (name : Name) (text : List ℕ) (long : Bool) (l : Loading) → LoadsUnlessLong long loads so_far name text l → l ≡ of_length long load so_far name text
only_length loads load each so_far name text true l h = h
only_length loads load each so_far name text false l h = only_text loads load each so_far name text l h

only_file : (loads : Loads) (load : Load) → Only loads load → (so_far : Loaded) (name : Name) (file : Option (List ℕ)) (l : Loading) → LoadsFile loads so_far name file l → l ≡ of_file load so_far name file
only_file loads load each so_far name None l h = h
only_file loads load each so_far name (Some text) l h = only_length loads load each so_far name text (is_too_long so_far text) l h

only_within : (levels : ℕ) (files : FileMap) → Only (LoadsWithin levels files) (load_within levels files)
unfolding load_within
only_within zero files so_far name l h = h
only_within (suc levels) files so_far name l h = only_file (LoadsWithin levels files) (load_within levels files) (only_within levels files) so_far name (files name) l h

pub is_the_loading : (files : FileMap) (name : Name) (l : Loading) → IsLoading files name l → l ≡ loading_of files name
is_the_loading files name l h = only_within max_levels files nothing name l h
