-- Loadings one behind the other, as the code makes them.
use Rattle.std.proofs.Common.{◌≡◌, ℕ, zero, suc, ◌-◌, ◌<◌, List, [], ◌∷◌, ◌++◌, Option, Some, None, Result, Ok, Err, Bool, true, false, refl, sym, ap, subst, ◌∙◌, append_assoc, length, arith}
use Rattle.std.proofs.lemmas.List.{append-nil}
use Rattle.dx_io.specs.Devices.{FileMap, Asks, Grows, GrowsInto}
use Rattle.dx_io.specs.declared.fails.FileFail.{FileFail}
use Rattle.dx_io.specs.declared.fails.FileFail.TheVariants as file
use Rattle.dx_io.proofs.Growing.{grows_by_nothing, grows_on, grows_on_into, grows_into, into_more}
use Rattle.dx_ast.specs.declared.statements.Stmt.{Stmt}
use Rattle.dx_ast.specs.declared.statements.Stmt.TheVariants as stmt
use Rattle.dx_include.specs.declared.loaded.Loaded.{Loaded}
use Rattle.dx_include.specs.declared.fail.LoadFail.{LoadFail}
use Rattle.dx_include.specs.declared.fail.LoadFail.TheVariants as fail
use Rattle.dx_include.specs.Loading.{Name, Loading, refused, with_statement, with_text, behind, is_too_long}
use Rattle.dx_include.specs.Computed.{Load, IncludesNothing, go_on, splice, of_parsed, of_length, of_file, load_within, parsed}
use Rattle.dx_include.specs.ReadFails.{load_fail}
use Rattle.dx_include.specs.Answers.{Adds, Refuses, TextFails}

-- ---- reads in front of a loading

behind-behind : (a b : List Name) (l : Loading) → behind a (behind b l) ≡ behind (a ++ b) l
behind-behind a b l = ap (λ (reads : List Name). record { reads = reads; ends = l.ends }) (sym (append_assoc a b l.reads))

abbrev Told : Type 0
Told = Option (List Name)

refuses_behind : (a b c : Told) (reads : List Name) (l : Loading) (why : LoadFail) → Grows a b reads → Refuses l why b c → Refuses (behind reads l) why a c
refuses_behind a b c reads l fail.ReadFault first r = grows_on_into a b c reads l.reads first r
refuses_behind a b c reads l fail.Memory first r = grows_on_into a b c reads l.reads first r
refuses_behind a b c reads l (fail.Missing n) first r = (r.0, grows_on a b c reads l.reads first r.1)
refuses_behind a b c reads l (fail.Nested n) first r = (r.0, grows_on a b c reads l.reads first r.1)
refuses_behind a b c reads l (fail.TooLong n) first r = (r.0, grows_on a b c reads l.reads first r.1)
refuses_behind a b c reads l (fail.Syntax n e) first r = (r.0, grows_on a b c reads l.reads first r.1)

-- a loading whose first part asked for these
pub adds_behind : {U : Type 0} (a b c : Told) (reads : List Name) (l : Loading) (new : Loaded) (r : Result U LoadFail) → Grows a b reads → Adds l new r b c → Adds (behind reads l) new r a c
adds_behind a b c reads l new (Ok u) first r = (r.0, grows_on a b c reads l.reads first r.1)
adds_behind a b c reads l new (Err why) first r = refuses_behind a b c reads l why first r

-- ---- what one loading does to the next

go_on_reads : (reads : List Name) (ends : Result Loaded LoadFail) (next : Loaded → Loading) → (more : List Name) × ((go_on reads ends next).reads ≡ reads ++ more)
go_on_reads reads (Ok so_far) next = ((next so_far).reads, refl)
go_on_reads reads (Err why) next = ([], sym (append-nil reads))

go_on_err : (reads : List Name) (ends : Result Loaded LoadFail) (next : Loaded → Loading) (why : LoadFail) → ends ≡ Err why → go_on reads ends next ≡ refused reads why
go_on_err reads ends next why e = ap (λ (r : Result Loaded LoadFail). go_on reads r next) e

cut_on : (a b : Told) (l : Loading) (next : Loaded → Loading) → GrowsInto a b l.reads → GrowsInto a b (go_on l.reads l.ends next).reads
cut_on a b l next part =
    let more = go_on_reads l.reads l.ends next in
    subst (GrowsInto a b) (sym more.1) (into_more a b l.reads more.0 part)

stopped_on : (a b : Told) (l : Loading) (next : Loaded → Loading) (why : LoadFail) → l.ends ≡ Err why → Grows a b l.reads → ((go_on l.reads l.ends next).ends ≡ Err why) × Grows a b (go_on l.reads l.ends next).reads
stopped_on a b l next why e all =
    let is = go_on_err l.reads l.ends next why e in
    (ap (λ (x : Loading). x.ends) is, subst (λ (x : Loading). Grows a b x.reads) (sym is) all)

refuses_on : (a b : Told) (l : Loading) (next : Loaded → Loading) (why : LoadFail) → Refuses l why a b → Refuses (go_on l.reads l.ends next) why a b
refuses_on a b l next fail.ReadFault r = cut_on a b l next r
refuses_on a b l next fail.Memory r = cut_on a b l next r
refuses_on a b l next (fail.Missing n) r = stopped_on a b l next (fail.Missing n) r.0 r.1
refuses_on a b l next (fail.Nested n) r = stopped_on a b l next (fail.Nested n) r.0 r.1
refuses_on a b l next (fail.TooLong n) r = stopped_on a b l next (fail.TooLong n) r.0 r.1
refuses_on a b l next (fail.Syntax n e) r = stopped_on a b l next (fail.Syntax n e) r.0 r.1

-- ---- statements one after the other

-- What was asked for since, and what is still to come: the rest of the statements behind what is loaded so far.
pub record SoFar (load : Load) (whole : Loading) (rest : List Stmt) (so_far : Loaded) (told now : Told) : Type 0 where
  pub front : List Name
  pub grown : Grows told now front
  pub left : whole ≡ behind front (splice load rest so_far)

pub begins : (load : Load) (statements : List Stmt) (so_far : Loaded) (told : Told) → SoFar load (splice load statements so_far) statements so_far told told
begins load statements so_far told = record { front = []; grown = grows_by_nothing told; left = refl }

splice-include : (load : Load) (name : Name) (others : List Stmt) (so_far : Loaded) → splice load (stmt.Include name ∷ others) so_far ≡ go_on (load so_far name).reads (load so_far name).ends (splice load others)
unfolding splice
splice-include load name others so_far = refl

splice-other : (load : Load) (s : Stmt) (others : List Stmt) (so_far : Loaded) → ((name : Name) → s ≡ stmt.Include name → ⊥) → splice load (s ∷ others) so_far ≡ splice load others (with_statement so_far s)
unfolding splice
splice-other load (stmt.Include name) others so_far never = absurd (never name refl)
splice-other load s others so_far never = refl

splice-nil : (load : Load) (so_far : Loaded) → splice load [] so_far ≡ record { reads = []; ends = Ok so_far }
unfolding splice
splice-nil load so_far = refl

-- statements without includes join as they are
pub splice_plain : (load : Load) (statements : List Stmt) (so_far : Loaded) → IncludesNothing statements → splice load statements so_far ≡ record { reads = []; ends = Ok (record { statements = so_far.statements ++ statements; bytes = so_far.bytes }) }
splice_plain load [] so_far none = splice-nil load so_far ∙ ap (λ (all : List Stmt). record { reads = []; ends = Ok (record { statements = all; bytes = so_far.bytes }) }) (sym (append-nil so_far.statements))
splice_plain load (s ∷ others) so_far none =
    splice-other load s others so_far (none 0 s (omega arith))
    ∙ splice_plain load others (with_statement so_far s) (λ k d lt. none (suc k) d (omega (arith, lt)))
    ∙ ap (λ (all : List Stmt). record { reads = []; ends = Ok (record { statements = all; bytes = so_far.bytes }) }) (append_assoc so_far.statements (s ∷ []) others)

-- and are all there is, where nothing was loaded before
pub plain_adds : {U : Type 0} (load : Load) (statements before : List Stmt) (bytes : ℕ) (told : Told) (u : U) → length before ≡ 0 → IncludesNothing statements →
    Adds (splice load statements (record { statements = before; bytes = bytes })) (record { statements = statements; bytes = bytes }) (let r : Result U LoadFail = Ok u in r) told told
plain_adds load statements [] bytes told u none plain =
    let whole = splice_plain load statements (record { statements = []; bytes = bytes }) plain in
    (ap (λ (l : Loading). l.ends) whole, subst (λ (l : Loading). Grows told told l.reads) (sym whole) (grows_by_nothing told))
plain_adds load statements (x ∷ xs) bytes told u none plain = absurd (omega (arith, none))

-- an include was loaded
pub goes_on_include : (load : Load) (whole : Loading) (rest others : List Stmt) (name : Name) (so_far new : Loaded) (told now next : Told)
    → rest ≡ stmt.Include name ∷ others → (load so_far name).ends ≡ Ok new → Grows now next (load so_far name).reads → SoFar load whole rest so_far told now → SoFar load whole others new told next
goes_on_include load whole rest others name so_far new told now next is ok asked before =
    let one = load so_far name in
    let step : splice load rest so_far ≡ behind one.reads (splice load others new) = ap (λ (r : List Stmt). splice load r so_far) is ∙ splice-include load name others so_far ∙ ap (λ (r : Result Loaded LoadFail). go_on one.reads r (splice load others)) ok in
    record {
      front = before.front ++ one.reads;
      grown = grows_on told now next before.front one.reads before.grown asked;
      left = before.left ∙ ap (behind before.front) step ∙ behind-behind before.front one.reads (splice load others new);
    }

-- an include was refused, or its loading was cut short
pub stops_at_include : (load : Load) (whole : Loading) (rest others : List Stmt) (name : Name) (so_far : Loaded) (why : LoadFail) (told now next : Told)
    → rest ≡ stmt.Include name ∷ others → Refuses (load so_far name) why now next → SoFar load whole rest so_far told now → Refuses whole why told next
stops_at_include load whole rest others name so_far why told now next is one before =
    let step : splice load rest so_far ≡ go_on (load so_far name).reads (load so_far name).ends (splice load others) = ap (λ (r : List Stmt). splice load r so_far) is ∙ splice-include load name others so_far in
    subst (λ (l : Loading). Refuses l why told next) (sym (before.left ∙ ap (behind before.front) step))
    (refuses_behind told now next before.front (go_on (load so_far name).reads (load so_far name).ends (splice load others)) why before.grown (refuses_on now next (load so_far name) (splice load others) why one))

-- another statement has joined
pub goes_on_other : (load : Load) (whole : Loading) (rest others : List Stmt) (s : Stmt) (so_far new : Loaded) (told now : Told)
    → rest ≡ s ∷ others → ((name : Name) → s ≡ stmt.Include name → ⊥) → new ≡ with_statement so_far s → SoFar load whole rest so_far told now → SoFar load whole others new told now
goes_on_other load whole rest others s so_far new told now is never joined before =
    let step : splice load rest so_far ≡ splice load others new = ap (λ (r : List Stmt). splice load r so_far) is ∙ splice-other load s others so_far never ∙ ap (splice load others) (sym joined) in
    record { front = before.front; grown = before.grown; left = before.left ∙ ap (behind before.front) step }

-- memory ran out between statements
pub cut_short : (load : Load) (whole : Loading) (rest : List Stmt) (so_far : Loaded) (told now : Told) → SoFar load whole rest so_far told now → GrowsInto told now whole.reads
cut_short load whole rest so_far told now before =
    subst (λ (l : Loading). GrowsInto told now l.reads) (sym before.left) (grows_into told now before.front (splice load rest so_far).reads before.grown)

-- no statement is left
pub is_done : {U : Type 0} (load : Load) (whole : Loading) (rest : List Stmt) (so_far : Loaded) (told now : Told) (u : U) → rest ≡ [] → SoFar load whole rest so_far told now → Adds whole so_far (let r : Result U LoadFail = Ok u in r) told now
is_done load whole rest so_far told now u is before =
    let end : whole ≡ behind before.front (record { reads = []; ends = Ok so_far }) = before.left ∙ ap (behind before.front) (ap (λ (r : List Stmt). splice load r so_far) is ∙ splice-nil load so_far) in
    (ap (λ (l : Loading). l.ends) end, subst (λ (l : Loading). Grows told now l.reads) (sym end) (subst (Grows told now) (sym (append-nil before.front)) before.grown))

-- ---- one file

load_within-some : (levels : ℕ) (files : FileMap) (so_far : Loaded) (name : Name) → 0 < levels → load_within levels files so_far name ≡ of_file (load_within (levels - 1) files) so_far name (files name)
unfolding load_within
load_within-some zero files so_far name some = absurd (omega arith)
load_within-some (suc levels) files so_far name some =
    let same : suc levels - 1 ≡ levels = omega arith in
    ap (λ (n : ℕ). of_file (load_within n files) so_far name (files name)) (sym same)

pub load_within-zero : (levels : ℕ) (files : FileMap) (so_far : Loaded) (name : Name) → levels ≡ 0 → load_within levels files so_far name ≡ refused [] (fail.Nested name)
unfolding load_within
load_within-zero zero files so_far name none = refl
load_within-zero (suc levels) files so_far name none = absurd (omega arith)

-- each loading of a file asks for the file first
of_parsed_reads : (load : Load) (so_far : Loaded) (name : Name) (text : List ℕ) (r : Result (List Stmt) _) → (more : List Name) × ((of_parsed load so_far name text r).reads ≡ name ∷ more)
of_parsed_reads load so_far name text (Ok statements) = ((splice load statements (with_text so_far text)).reads, refl)
of_parsed_reads load so_far name text (Err e) = ([], refl)

of_length_reads : (long : Bool) (load : Load) (so_far : Loaded) (name : Name) (text : List ℕ) → (more : List Name) × ((of_length long load so_far name text).reads ≡ name ∷ more)
of_length_reads true load so_far name text = ([], refl)
of_length_reads false load so_far name text = of_parsed_reads load so_far name text (parsed text)

of_file_reads : (load : Load) (so_far : Loaded) (name : Name) (file : Option (List ℕ)) → (more : List Name) × ((of_file load so_far name file).reads ≡ name ∷ more)
of_file_reads load so_far name None = ([], refl)
of_file_reads load so_far name (Some text) = of_length_reads (is_too_long so_far text) load so_far name text

-- the read was cut short
pub read_cut : (levels : ℕ) (files : FileMap) (so_far : Loaded) (name : Name) (told now : Told) → 0 < levels → GrowsInto told now (name ∷ []) → GrowsInto told now (load_within levels files so_far name).reads
read_cut levels files so_far name told now some part =
    let more = of_file_reads (load_within (levels - 1) files) so_far name (files name) in
    subst (GrowsInto told now) (sym (ap (λ (l : Loading). l.reads) (load_within-some levels files so_far name some) ∙ more.1)) (into_more told now (name ∷ []) more.0 part)

-- the read failed
pub read_fails : (levels : ℕ) (files : FileMap) (so_far : Loaded) (name : Name) (f : FileFail) (told now : Told) → 0 < levels → Asks told now name (let r : Result (Option (List ℕ)) FileFail = Err f in r) → Refuses (load_within levels files so_far name) (load_fail f) told now
read_fails levels files so_far name file.Fault told now some asked = read_cut levels files so_far name told now some (grows_into told now (name ∷ []) [] asked)
read_fails levels files so_far name file.Memory told now some asked = read_cut levels files so_far name told now some asked

pub is_missing : (levels : ℕ) (files : FileMap) (so_far : Loaded) (name : Name) → 0 < levels → files name ≡ None → load_within levels files so_far name ≡ refused (name ∷ []) (fail.Missing name)
is_missing levels files so_far name some none = load_within-some levels files so_far name some ∙ ap (of_file (load_within (levels - 1) files) so_far name) none

found_text : (levels : ℕ) (files : FileMap) (so_far : Loaded) (name : Name) (text : List ℕ) (long : Bool) → 0 < levels → files name ≡ Some text → is_too_long so_far text ≡ long → load_within levels files so_far name ≡ of_length long (load_within (levels - 1) files) so_far name text
found_text levels files so_far name text long some there is =
    load_within-some levels files so_far name some ∙ ap (of_file (load_within (levels - 1) files) so_far name) there ∙ ap (λ (b : Bool). of_length b (load_within (levels - 1) files) so_far name text) is

parsed_text : (levels : ℕ) (files : FileMap) (so_far : Loaded) (name : Name) (text : List ℕ) (r : Result (List Stmt) _) → 0 < levels → files name ≡ Some text → is_too_long so_far text ≡ false → parsed text ≡ r → load_within levels files so_far name ≡ of_parsed (load_within (levels - 1) files) so_far name text r
parsed_text levels files so_far name text r some there short is = found_text levels files so_far name text false some there short ∙ ap (of_parsed (load_within (levels - 1) files) so_far name text) is

-- the text was refused, or memory ran out
pub text_fails : (levels : ℕ) (files : FileMap) (so_far : Loaded) (name : Name) (text : List ℕ) (why : LoadFail) (told now : Told) → 0 < levels → files name ≡ Some text → Grows told now (name ∷ []) → TextFails so_far name text why → Refuses (load_within levels files so_far name) why told now
text_fails levels files so_far name text (fail.TooLong n) told now some there asked h =
    subst (λ (l : Loading). Refuses l (fail.TooLong n) told now) (sym (found_text levels files so_far name text true some there h.0)) (ap (λ (m : Name). let r : Result Loaded LoadFail = Err (fail.TooLong m) in r) (sym h.1), asked)
text_fails levels files so_far name text (fail.Syntax n e) told now some there asked h =
    subst (λ (l : Loading). Refuses l (fail.Syntax n e) told now) (sym (parsed_text levels files so_far name text (Err e) some there h.0 h.1)) (ap (λ (m : Name). let r : Result Loaded LoadFail = Err (fail.Syntax m e) in r) (sym h.2), asked)
text_fails levels files so_far name text fail.Memory told now some there asked h = read_cut levels files so_far name told now some (grows_into told now (name ∷ []) [] asked)
text_fails levels files so_far name text fail.ReadFault told now some there asked h = absurd h
text_fails levels files so_far name text (fail.Missing n) told now some there asked h = absurd h
text_fails levels files so_far name text (fail.Nested n) told now some there asked h = absurd h

-- the text's statements are spliced
pub text_adds : {U : Type 0} (levels : ℕ) (files : FileMap) (so_far : Loaded) (name : Name) (text : List ℕ) (statements : List Stmt) (new : Loaded) (r : Result U LoadFail) (told now next : Told) → 0 < levels → files name ≡ Some text
    → is_too_long so_far text ≡ false → parsed text ≡ Ok statements → Grows told now (name ∷ []) → Adds (splice (load_within (levels - 1) files) statements (with_text so_far text)) new r now next → Adds (load_within levels files so_far name) new r told next
text_adds levels files so_far name text statements new r told now next some there short is asked h =
    subst (λ (l : Loading). Adds l new r told next) (sym (parsed_text levels files so_far name text (Ok statements) some there short is))
    (adds_behind told now next (name ∷ []) (splice (load_within (levels - 1) files) statements (with_text so_far text)) new r asked h)

-- ---- an iterator that is at its end

pub nothing_left : {X : Type 0} (l : List X) → length l ≡ 0 → l ≡ []
nothing_left [] h = refl
nothing_left (x ∷ xs) h = absurd (omega arith)
