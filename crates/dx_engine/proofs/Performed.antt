-- What an effect does is what the meaning decides, and what the machine's course has.
use Rattle.std.proofs.Common.{◌≡◌, ℕ, List, [], ◌∷◌, true, Some, None, refl, sym, ap, ap₂, ◌∙◌, subst, append-nil}
use Rattle.std.specs.Prelude.{option_map, Result, Ok, Err}
use Rattle.dx_base.specs.Object.{Tree as Object}
use Rattle.dx_base.specs.declared.code.Code.{Code}
use Rattle.dx_base.specs.declared.function.Effect.{Effect}
use Rattle.dx_base.specs.declared.function.Effect.TheVariants as effect
use Rattle.dx_graph.specs.Graph.{Node}
use Rattle.dx_macros.specs.Site.{Step}
use Rattle.dx_macros.specs.Tree.{Place, Trees}
use Rattle.dx_objects.specs.Runs.{Values, Answer}
use Rattle.dx_tags.specs.declared.term.ValueTag.{ValueTag}
use Rattle.dx_tags.specs.Closed.{Head, ValueTerm, ValueTerms, NoTerm, CallTerm, heads_of, value_terms}
use Rattle.dx_links.specs.declared.key.Key.{Key}
use Rattle.dx_links.specs.Denotes.{Around, all_denote}
use Rattle.dx_links.specs.Holding.{Holding}
use Rattle.dx_machine.specs.Machine.{State, Got, state_at, tasks_of}
use Rattle.dx_machine.specs.Sound.{HaveAttributes, IsSound}
use Rattle.dx_getting.specs.Told.{Told}
use Rattle.dx_getting.specs.Stands.{IsCall, call_at}
use Rattle.dx_getting.proofs.TellLaws.{some_all}
use Rattle.dx_demand.specs.Memo.{site_of}
use Rattle.dx_demand.proofs.PortSteps.{more_itself}
use Rattle.dx_meaning.specs.Outcome.{Value, Decided, Val, ErrAt, Off, HaltAt}
use Rattle.dx_meaning.specs.Meaning.{outcomes, together}
use Rattle.dx_meaning.specs.Met.{Called, each_met, all_met}
use Rattle.dx_meaning.specs.More.{More, Keeps}
use Rattle.dx_meaning.specs.Scan.{Sight, IsOff, Stops, Needs, Scanned, Forms, Ends, scan_each, all_scanned}
use Rattle.dx_meaning.specs.Forming.{Formings}
use Rattle.dx_meaning.specs.Term.{terms_of, term_at}
use Rattle.dx_meaning.proofs.Keeping.{all_keeps, each_keeps}
use Rattle.dx_performing.specs.Acts.{Act, Sets, act, is_refusal, printing}
use Rattle.dx_performing.specs.Execution.{Execution, performing, deciding, ends_at}
use Rattle.dx_performing.specs.Kept.{Kept, set_terms}
use Rattle.dx_performing.specs.Course.{Fixed, Looked, Came, HasValues, IsRefused, around_of, world_of, sight_of, frame_with, formed_calls, with_values, came, sets_by, ends_by}
use Rattle.dx_performing.specs.Meant.{LinksRight, CameSo}
use Rattle.dx_performing.specs.Resuming.{GoesOn}
use Rattle.dx_performing.proofs.Executed.{names_of, full, denote}
use Rattle.dx_performing.proofs.Meant.{effects_come_so}
use Rattle.dx_performing.proofs.SelectorsGoOn.{all_go_on}
use Rattle.dx_print.specs.Printed.{print_of}
use Rattle.dx_demanded.specs.Ended.{ArgumentsEnd, SelectorEnds, EndsAsMeant}
use Rattle.dx_demanded.specs.Found.{StandsAt as FirstStands}
use Rattle.dx_meaning.specs.Halted.{halted_all}
use Rattle.dx_demanded.proofs.Ended.{effects_end_as_meant}
use Rattle.dx_ending.specs.Terms.{set_terms_of, link_of}
use Rattle.dx_looking.specs.Setting.{nodes_in, sight_in}
use Rattle.dx_looking.specs.Looking.{IsLooking, StandsAt, GoesTo, StopsAt, IsCutIn}
use Rattle.dx_looking.specs.declared.looked.Refusal.{Refusal}
use Rattle.dx_looking.specs.declared.setup.Setup.{Setup}
use Rattle.dx_looking.specs.declared.progress.Progress.{Progress}
use Rattle.dx_looking.proofs.Bridge.{attributes_of}
use Rattle.dx_looking.proofs.Ways.{told_in_full}
use Rattle.dx_effects.specs.Coming.{node_trees}
use Rattle.dx_engine.specs.Gathering.{ahead, changes_in, is_end}
use Rattle.dx_engine.specs.Doing.{DoneSo, node_looked, node_formed, node_got, place_of_node}
use Rattle.dx_engine.specs.Answering.{held_as, Does, EndsWhere}
use Rattle.dx_engine.specs.declared.done.Done.{Done}
use Rattle.dx_engine.specs.declared.done.Done.TheVariants as done
use Rattle.dx_engine.proofs.Stopped.{goes_on, is_stopped, stopped_there, selector_stops, argument_stops}

-- ---- an act

-- where it sets something there are arguments
abbrev HasFirst : Act → List ValueTag → Type 0
HasFirst a ts = (key : Key) (v : Value) → a ≡ Sets key v → (t : ValueTag) × (rest : List ValueTag) × (ts ≡ t ∷ rest)

held_value : (v : Value) (t : ValueTag) (rest : List ValueTag) → option_map (λ (h : Holding). h.value) (held_as v (t ∷ rest)) ≡ v
held_value None t rest = refl
held_value (Some o) t rest = refl

held_link : (hs : List Head) (v : Value) (t : ValueTag) (rest : List ValueTag) → option_map (λ (o : Object). record { object = o; term = term_at (value_terms hs (t ∷ rest)) 0 }) v ≡ option_map (link_of hs) (held_as v (t ∷ rest))
held_link hs None t rest = refl
held_link hs (Some o) t rest = refl

does_decides : (nodes : List Node) (a : Act) (ts : List ValueTag) (n : ℕ) (d : Done) → HasFirst a ts → Does a ts n d → (rest : Execution) → performing (site_of nodes n) a rest ≡ ahead nodes (site_of nodes n) d rest
does_decides nodes a ts n (done.Prints text) f h rest = ap (λ b. performing (site_of nodes n) b rest) h
does_decides nodes a ts n (done.Puts name object) f h rest = ap (λ b. performing (site_of nodes n) b rest) h
does_decides nodes a ts n (done.Sets c) f h rest =
    let first = f c.key h.0 h.1 in
    let held = ap (option_map (λ (y : Holding). y.value)) (h.2 ∙ ap (held_as h.0) first.2) ∙ held_value h.0 first.0 first.1 in
    ap (λ b. performing (site_of nodes n) b rest) (h.1 ∙ ap (Sets c.key) (sym held))
does_decides nodes a ts n done.PassedOver f h rest = absurd h
does_decides nodes a ts n (done.Ends m code) f h rest = ap (λ b. performing (site_of nodes n) b rest) h.0 ∙ ap (λ o. ends_at (site_of nodes o) code) (sym h.1)

does_ends : (a : Act) (ts : List ValueTag) (n : ℕ) (d : Done) → Does a ts n d → is_refusal a ≡ is_end d
does_ends a ts n (done.Prints text) h = ap is_refusal h
does_ends a ts n (done.Puts name object) h = ap is_refusal h
does_ends a ts n (done.Sets c) h = ap is_refusal h.1
does_ends a ts n done.PassedOver h = absurd h
does_ends a ts n (done.Ends m code) h = ap is_refusal h.0

does_sets : (hs : List Head) (a : Act) (ts : List ValueTag) (n : ℕ) (d : Done) → HasFirst a ts → Does a ts n d → set_terms a (value_terms hs ts) ≡ set_terms_of hs (changes_in d)
does_sets hs a ts n (done.Prints text) f h = ap (λ b. set_terms b (value_terms hs ts)) h
does_sets hs a ts n (done.Puts name object) f h = ap (λ b. set_terms b (value_terms hs ts)) h
does_sets hs a ts n (done.Sets c) f h =
    let first = f c.key h.0 h.1 in
    ap (λ b. set_terms b (value_terms hs ts)) h.1
    ∙ ap (λ us. record { key = c.key; link = option_map (λ (o : Object). record { object = o; term = term_at (value_terms hs us) 0 }) h.0 } ∷ []) first.2
    ∙ ap (λ o. record { key = c.key; link = o } ∷ []) (held_link hs h.0 first.0 first.1 ∙ ap (option_map (link_of hs)) (sym (h.2 ∙ ap (held_as h.0) first.2)))
does_sets hs a ts n done.PassedOver f h = absurd h
does_sets hs a ts n (done.Ends m code) f h = ap (λ b. set_terms b (value_terms hs ts)) h.0

-- ---- an act that sets something has arguments

printing_sets : (r : Result (List ℕ) Code) (key : Key) (v : Value) → printing r ≡ Sets key v → ⊥
printing_sets (Ok text) key v e = cc
printing_sets (Err code) key v e = cc

none_sets : (e : Effect) (p : Place) (key : Key) (v : Value) → act e p [] ≡ Sets key v → ⊥
none_sets effect.Print p key v e = printing_sets (print_of []) key v e
none_sets effect.Echo p key v e = cc
none_sets effect.Export p key v e = cc
none_sets effect.SetLocal p key v e = cc
none_sets effect.SetGlobal p key v e = cc

no_values : (a : Around) (us : ValueTerms) (vs : Values) (r : Answer) → all_denote a us ≡ r → with_values us r ≡ HasValues NoTerm vs → vs ≡ []
no_values a us vs (Ok ws) q e =
    let none : us ≡ NoTerm = cc in
    let same : ws ≡ vs = cc in
    let nothing : Ok [] ≡ Ok ws = ap (all_denote a) (sym none) ∙ q in
    cc
no_values a us vs (Err code) q e = cc

none_come : (a : Around) (x : Scanned ValueTerms) (vs : Values) → came a x ≡ HasValues NoTerm vs → vs ≡ []
none_come a (Forms us) vs e = no_values a us vs (all_denote a us) refl e
none_come a (Ends IsOff) vs e = cc
none_come a (Ends (Stops site code)) vs e = cc
none_come a (Ends (Needs site t)) vs e = cc

has_first : (a : Around) (x : Scanned ValueTerms) (hs : List Head) (e : Effect) (p : Place) (ts : List ValueTag) (vs : Values) → came a x ≡ HasValues (value_terms hs ts) vs → HasFirst (act e p vs) ts
has_first a x hs e p (t ∷ rest) vs c key v is = (t, rest, refl)
has_first a x hs e p [] vs c key v is = absurd (none_sets e p key v (ap (act e p) (sym (none_come a x vs c)) ∙ is))

-- ---- what the meaning decides

valued : (d : Decided Values) (us ts : ValueTerms) (c : Came) (vs : Values) → CameSo d us c → c ≡ HasValues ts vs → d ≡ Val vs
valued (Val ws) us ts c vs h e = (let same : ws ≡ vs = cc in ap Val same)
valued (ErrAt site code) us ts c vs h e = cc
valued Off us ts c vs h e = cc
valued (HaltAt site code) us ts c vs h e = cc

-- ---- an effect

module _ (setup : Setup) (x : Fixed) (k : Kept) (right : LinksRight (around_of x k) k.links) (base : Told) (n : ℕ) (e : Effect) (s : State) (f : Formings) (sound : IsSound (around_of x k) x.budget s) (at : Progress) (now : Told) (l : IsLooking setup at) where
  abbrev trees : Trees
  trees = node_trees setup n

  abbrev place : Place
  place = place_of_node setup n

  abbrev looked : Looked
  looked = node_looked setup x k n

  abbrev formed : Formings
  formed = node_formed setup x k n f

  abbrev got : Got
  got = node_got setup x k n s f

  abbrev decided : Decided Values
  decided = (together (outcomes (world_of x k) trees)).decided

  abbrev Stands : State → Type 0
  Stands s' = StandsAt setup x k base at now s' formed

  attributes : (s' : State) → Stands s' → HaveAttributes (formed_calls formed)
  attributes s' st = attributes_of setup at l formed st.formings

  -- in any sound state, by what is told
  by_law : (told : Sight) → More told (sight_of x k) → HaveAttributes (formed_calls formed) → (s1 : State) → IsSound (around_of x k) x.budget s1 →
      EndsAsMeant (around_of x k) (frame_with x k (formed_calls formed)) decided (all_met (each_met told trees)) (halted_all told trees) s1 (all_scanned (scan_each told trees))
  by_law told more att s1 i = effects_end_as_meant x k told (formed_calls formed) trees s1 right more att i

  by_full : HaveAttributes (formed_calls formed) → EndsAsMeant (around_of x k) (frame_with x k (formed_calls formed)) decided (all_met (each_met (sight_of x k) trees)) (halted_all (sight_of x k) trees) s looked.terms
  by_full att = by_law (sight_of x k) (more_itself (sight_of x k)) att s sound

  by_scanned : HaveAttributes (formed_calls formed) → (y : Scanned ValueTerms) → looked.terms ≡ y → EndsAsMeant (around_of x k) (frame_with x k (formed_calls formed)) decided (all_met (each_met (sight_of x k) trees)) (halted_all (sight_of x k) trees) s y
  by_scanned att y q = subst (EndsAsMeant (around_of x k) (frame_with x k (formed_calls formed)) decided (all_met (each_met (sight_of x k) trees)) (halted_all (sight_of x k) trees) s) q (by_full att)

  -- it is performed
  pub with_values_done : (ts : List ValueTag) (vs : Values) (d : Done) → came (around_of x k) looked.terms ≡ HasValues (value_terms (heads_of at.tags) ts) vs → GoesTo Stands got → Does (act e place vs) ts n d → DoneSo setup x k base n e s f d at now
  with_values_done ts vs d c g h =
      let val = valued decided (terms_of (world_of x k) (names_of k) trees) (value_terms (heads_of at.tags) ts) (came (around_of x k) looked.terms) vs (effects_come_so (world_of x k) (names_of k) (sight_of x k) (denote x k right) (full x k) trees) c in
      let first = has_first (around_of x k) looked.terms (heads_of at.tags) e place ts vs c in
      record {
        decides = λ rest. ap (λ y. deciding e place y rest) val ∙ does_decides (nodes_in setup) (act e place vs) ts n d first h rest;
        ends = ap (ends_by e place) c ∙ does_ends (act e place vs) ts n d h;
        sets = ap (sets_by e place) c ∙ does_sets (heads_of at.tags) (act e place vs) ts n d first h;
        stands = goes_on Stands got g;
      }

  -- it is passed over
  pub off_done : looked.terms ≡ Ends IsOff → GoesTo Stands got → DoneSo setup x k base n e s f done.PassedOver at now
  off_done q g =
      let st = goes_on Stands got g in
      record {
        decides = λ rest. ap (λ y. deciding e place y rest) (by_scanned (attributes (state_at got) st) (Ends IsOff) q);
        ends = ap (λ y. ends_by e place (came (around_of x k) y)) q;
        sets = ap (λ y. sets_by e place (came (around_of x k) y)) q;
        stands = st;
      }

  -- the execution ends at it, as a selector doesn't fit
  pub halt_done : (m : ℕ) (code : Code) → looked.terms ≡ Ends (Stops (site_of (nodes_in setup) m) code) → GoesTo Stands got → DoneSo setup x k base n e s f (done.Ends m code) at now
  halt_done m code q g =
      let st = goes_on Stands got g in
      record {
        decides = λ rest. ap (λ y. deciding e place y rest) (by_scanned (attributes (state_at got) st) (Ends (Stops (site_of (nodes_in setup) m) code)) q);
        ends = ap (λ y. ends_by e place (came (around_of x k) y)) q;
        sets = ap (λ y. sets_by e place (came (around_of x k) y)) q;
        stands = st;
      }

  -- ---- as a call is refused

  ended : (calls : List Called) (r : Refusal) (d : Done) (c : CallTerm) → EndsWhere setup at calls r d → IsCall at.tags r.tag → call_at (heads_of at.tags) r.tag ≡ c → (site : List Step) → FirstStands calls c site → (rest : Execution) → ends_at site r.code ≡ ahead (nodes_in setup) place.site d rest
  ended calls r (done.Ends m code) c w call named site there rest =
      let same = w.1 call site (subst (λ y. FirstStands calls y site) (sym named) there) in
      ap₂ (λ a b. ends_at a b) (sym same) (sym w.0)
  ended calls r (done.Prints text) c w call named site there rest = absurd w
  ended calls r (done.Puts name object) c w call named site there rest = absurd w
  ended calls r (done.Sets y) c w call named site there rest = absurd w
  ended calls r done.PassedOver c w call named site there rest = absurd w

  is_ended : (calls : List Called) (r : Refusal) (d : Done) → EndsWhere setup at calls r d → (true ≡ is_end d) × ([] ≡ set_terms_of (heads_of at.tags) (changes_in d))
  is_ended calls r (done.Ends m code) w = (refl, refl)
  is_ended calls r (done.Prints text) w = absurd w
  is_ended calls r (done.Puts name object) w = absurd w
  is_ended calls r (done.Sets y) w = absurd w
  is_ended calls r done.PassedOver w = absurd w

  abbrev told : Sight
  told = sight_in setup at

  in_full : (s' : State) → Stands s' → More told (sight_of x k)
  in_full s' st = told_in_full setup x k base at now s' formed st

  -- the execution ends at it, as an argument is refused
  pub refused_done : (us : ValueTerms) → all_scanned (scan_each told trees) ≡ Forms us → came (around_of x k) looked.terms ≡ IsRefused → (r : Refusal) → StopsAt at.tags r Stands got → (d : Done) → EndsWhere setup at (all_met (each_met told trees)) r d → DoneSo setup x k base n e s f d at now
  refused_done us q c r stops d w =
      let st = is_stopped at.tags r Stands got stops in
      let att = attributes st.state st.there in
      let more = in_full st.state st.there in
      let forms = subst (λ y. Keeps y looked.terms) q (all_keeps (scan_each told trees) (scan_each (sight_of x k) trees) (each_keeps told (sight_of x k) more trees)) in
      let selectors = subst (λ y. GoesOn (sight_of x k) y looked.selectors looked.selectors) forms (all_go_on (sight_of x k) (sight_of x k) (more_itself (sight_of x k)) trees) in
      let there = argument_stops x k right (formed_calls formed) att looked us forms selectors.1 s sound st.refused r.code st.state st.is in
      let law = subst (EndsAsMeant (around_of x k) (frame_with x k (formed_calls formed)) decided (all_met (each_met told trees)) (halted_all told trees) there.0) q (by_law told more att there.0 there.2) in
      let end = subst (ArgumentsEnd (around_of x k) decided (all_met (each_met told trees)) us) there.1 law in
      let by = is_ended (all_met (each_met told trees)) r d w in
      record {
        decides = λ rest. ap (λ y. deciding e place y rest) end.1 ∙ ended (all_met (each_met told trees)) r d st.refused w st.call st.named end.0 end.2 rest;
        ends = ap (ends_by e place) c ∙ by.0;
        sets = ap (sets_by e place) c ∙ by.1;
        stands = stopped_there at.tags r Stands got stops;
      }

  -- the execution ends at it, as a selector is refused
  pub selector_done : (site : List Step) (u : ValueTerm) → looked.terms ≡ Ends (Needs site u) → all_scanned (scan_each told trees) ≡ looked.terms → (r : Refusal) → StopsAt at.tags r Stands got → (d : Done) → EndsWhere setup at (halted_all told trees) r d → DoneSo setup x k base n e s f d at now
  selector_done site u q same r stops d w =
      let st = is_stopped at.tags r Stands got stops in
      let att = attributes st.state st.there in
      let more = in_full st.state st.there in
      let c = ap (came (around_of x k)) q in
      let selectors = subst (λ y. GoesOn (sight_of x k) y looked.selectors looked.selectors) q (all_go_on (sight_of x k) (sight_of x k) (more_itself (sight_of x k)) trees) in
      let there = selector_stops x k right (formed_calls formed) att looked site u q selectors s sound st.refused r.code st.state st.is in
      let law = subst (EndsAsMeant (around_of x k) (frame_with x k (formed_calls formed)) decided (all_met (each_met told trees)) (halted_all told trees) there.0) (same ∙ q) (by_law told more att there.0 there.2) in
      let end = subst (SelectorEnds decided (halted_all told trees)) there.1 law in
      let by = is_ended (halted_all told trees) r d w in
      record {
        decides = λ rest. ap (λ y. deciding e place y rest) end.1 ∙ ended (halted_all told trees) r d st.refused w st.call st.named end.0 end.2 rest;
        ends = ap (ends_by e place) c ∙ by.0;
        sets = ap (sets_by e place) c ∙ by.1;
        stands = stopped_there at.tags r Stands got stops;
      }

  -- there was no memory behind it
  pub cut_behind : Stands (state_at got) → IsCutIn base now got
  cut_behind st = let tasks = tasks_of (state_at got).events in some_all base now tasks [] tasks st.work.told (sym (append-nil tasks))
